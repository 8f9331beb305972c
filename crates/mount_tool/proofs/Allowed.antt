-- A reply with hits or a refusal that is the wanted one is allowed.
use Rattle.std.proofs.Common.{◌≡◌, ℕ, Bool}
use Rattle.std.specs.Prelude.{IsTrue}
use Rattle.mount_script.specs.declared.reply.Reply.{Reply}
use Rattle.mount_script.specs.declared.reply.Reply.TheVariants.{Mounted, Unmounted, Cleared, Decayed, Hits, Fields, Bytes, Stats, Refused, Fault, Gone, NoMemory}
use Rattle.shard_replies.specs.Answers.{HasHits}
use Rattle.mount_tool.specs.Runs.{IsAllowed}

pub allowed_hits : (tells : Bool) (wanted : Reply) (before now : ℕ) (given : Reply) → HasHits given → (IsTrue tells → given ≡ wanted) → IsAllowed tells wanted before now given
allowed_hits tells wanted before now (Hits total shown) h e = e
allowed_hits tells wanted before now (Refused text) h e = e
allowed_hits tells wanted before now (Mounted files docs) h e = h
allowed_hits tells wanted before now Unmounted h e = h
allowed_hits tells wanted before now Cleared h e = h
allowed_hits tells wanted before now Decayed h e = h
allowed_hits tells wanted before now (Fields fields) h e = h
allowed_hits tells wanted before now (Bytes bytes) h e = h
allowed_hits tells wanted before now (Stats a b c d p q r s) h e = h
allowed_hits tells wanted before now Fault h e = absurd h
allowed_hits tells wanted before now Gone h e = h
allowed_hits tells wanted before now NoMemory h e = absurd h
