-- What `term` gives for an archive that is held whole in memory.
use Rattle.std.specs.Prelude.{ℕ, List, Result, Ok, Err}
use Rattle.cache_outside.specs.Listing.{Listing}
use Rattle.blob_parts.specs.Content.{content}
use Rattle.query_lang.specs.Trees.{term}
use Rattle.mount_script.specs.declared.reply.Reply.{Reply}
use Rattle.shard_replies.specs.ExpectedReplies.{Loaded, loaded, tree_reply}
use Rattle.run_setup.specs.Words.{Term}

-- a search for a term of a field, of which at most 10,000 hits are shown; or why the manifest is not mounted
abbrev pub loaded_reply : List ℕ → List ℕ → Listing → Result Loaded Reply → Reply
loaded_reply field value blobs (Ok l) = tree_reply (content blobs l.number) l.facts 10000 (term field value)
loaded_reply field value blobs (Err r) = r

abbrev pub term_reply : Listing → Term → Reply
term_reply blobs t = loaded_reply t.field t.term blobs (loaded blobs t.manifest)
