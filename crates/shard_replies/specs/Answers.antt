-- What the calls answer.
use Rattle.std.specs.Prelude.{ℕ, ◌≡◌, ◌⊎◌, List, [], Option, Some, Result, Ok, Err}
use Rattle.std.specs.declared.alloc.AllocError.{AllocError}
use Rattle.directory_input.specs.Reads.{Read}
use Rattle.directory_input.specs.declared.files.BytesError.{BytesError}
use Rattle.directory_input.specs.declared.files.BytesError.TheVariants as bytes
use Rattle.mount_manifest.specs.Manifest.{Facts}
use Rattle.mount_script.specs.declared.reply.Reply.{Reply}
use Rattle.mount_script.specs.declared.reply.Reply.TheVariants as reply
use Rattle.blob_parts.specs.Tables.{TableParts}
use Rattle.shard_replies.specs.ExpectedReplies.{Loaded}
use Rattle.shard_replies.specs.declared.loading.MountError.{MountError}
use Rattle.shard_replies.specs.declared.loading.MountError.TheVariants.{Refused, Fault, NoMemory}

-- a reply that was made, or want of memory
abbrev pub made : Result Reply AllocError → Result Reply BytesError
made (Ok r) = Ok r
made (Err e) = Err bytes.NoMemory

-- a reply with hits, or a refusal
abbrev pub HasHits : Reply → Type 0
HasHits (reply.Hits total shown) = Unit {0}
HasHits (reply.Refused text) = Unit {0}
HasHits _ = ⊥

-- a reply with stored fields, or a refusal
abbrev pub HasFields : Reply → Type 0
HasFields (reply.Fields fields) = Unit {0}
HasFields (reply.Refused text) = Unit {0}
HasFields _ = ⊥

-- a reply with bytes, or a refusal
abbrev pub HasBytes : Reply → Type 0
HasBytes (reply.Bytes bytes) = Unit {0}
HasBytes (reply.Refused text) = Unit {0}
HasBytes _ = ⊥

-- the reads are those that were asked for; or none, where there was no memory for the reply
abbrev pub AreAsked : List Read → Type 0 → List Read → Type 0
AreAsked asked no_memory reads = (reads ≡ asked) ⊎ ((reads ≡ []) × no_memory)

-- the later state comes from the earlier one by the reads that were asked for, or by none where the answer is want of memory
pub record ReadsAsAsked {S : Type 0} (goes_by : List Read → S → S → Type 0) (asked_for : List Read) (refusal : Option BytesError) (before now : S) : Type 0 where
  pub reads : List Read
  pub by : goes_by reads before now
  pub asked : AreAsked asked_for (refusal ≡ Some bytes.NoMemory) reads

-- the number and the manifest of a mount, or its refusal; a fault of the source and want of memory say nothing of it
abbrev pub GivesMount : Result (ℕ × Facts × TableParts) MountError → Result Loaded Reply → Type 0
GivesMount (Ok m) wanted = wanted ≡ Ok (record { number = m.0; facts = m.1 })
GivesMount (Err (Refused text)) wanted = wanted ≡ Err (reply.Refused text)
GivesMount (Err Fault) wanted = Unit {0}
GivesMount (Err NoMemory) wanted = Unit {0}
