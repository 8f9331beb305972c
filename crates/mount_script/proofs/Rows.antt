-- Worked scripts and replies.
use Rattle.std.proofs.Common.{◌≡◌, refl, ℕ, [], ◌∷◌}
use Rattle.std.specs.Prelude.{codes, Ok, Err}
use Rattle.std.specs.Fmt.{digits}
use Rattle.base64.specs.Rfc4648.{encode_symbols}
use Rattle.hex.specs.Hex.{encode_with}
use Rattle.mount_script.specs.Scripts.{script}
use Rattle.mount_script.specs.Replies.{text_of}
use Rattle.mount_script.specs.declared.command.Command.{Command}
use Rattle.mount_script.specs.declared.command.Command.TheVariants.{Mount, Unmount, Decay, Stats, Search, Fetch, Read}
use Rattle.mount_script.specs.declared.command.Line.{Line}
use Rattle.mount_script.specs.declared.error.ScriptError.TheVariants.{BadLine}
use Rattle.mount_script.specs.declared.reply.Reply.TheVariants as reply

abbrev line : ℕ → Command → Line
line n c = record { number = n; command = c }

-- a mount is a block of its own; the last line may lack its newline
pub mount_and_search : script (codes "mount logs mount-x\nsearch logs 10 {\"term\":{\"body\":\"fox\"}}")
    ≡ Ok ((line 1 (Mount (codes "logs") (codes "mount-x")) ∷ []) ∷ (line 2 (Search (codes "logs") 10 (codes "{\"term\":{\"body\":\"fox\"}}")) ∷ []) ∷ [])
mount_and_search = refl

pub nothing : script [] ≡ Ok []
nothing = refl

-- the first line out of form, whatever stands behind it; empty lines count
pub unknown_word : script (codes "mount logs mount-x\nfind logs\n") ≡ Err (BadLine 2)
unknown_word = refl

pub first_of_two : script (codes "\n\ndecay now\nread a b c d\n") ≡ Err (BadLine 3)
first_of_two = refl

-- dividers end blocks, and blocks without lines are none
pub dividers : script (codes "--\n\nread y big.bin 0 4\nunmount y\n--\n--\nstats\ndecay\nmount z mount-z\n--\n")
    ≡ Ok ((line 3 (Read (codes "y") (codes "big.bin") 0 4) ∷ line 4 (Unmount (codes "y")) ∷ []) ∷ (line 7 Stats ∷ []) ∷ (line 8 Decay ∷ [])
    ∷ (line 9 (Mount (codes "z") (codes "mount-z")) ∷ []) ∷ [])
dividers = refl

-- a query is the rest of its line, of at least one byte
pub query_with_blanks : script (codes "search a 0  x ") ≡ Ok ((line 1 (Search (codes "a") 0 (codes " x ")) ∷ []) ∷ [])
query_with_blanks = refl

pub no_query : script (codes "search a 1 ") ≡ Err (BadLine 1)
no_query = refl

pub two_blanks : script (codes "clear  a") ≡ Err (BadLine 1)
two_blanks = refl

pub blank_behind : script (codes "decay ") ≡ Err (BadLine 1)
blank_behind = refl

-- numbers have at most 20 digits, and may begin with zeros
pub leading_zeros : script (codes "fetch a _0 00000000004294967295") ≡ Ok ((line 1 (Fetch (codes "a") (codes "_0") 4294967295) ∷ []) ∷ [])
leading_zeros = refl

pub too_many_digits : script (codes "fetch a _0 000000000004294967295") ≡ Err (BadLine 1)
too_many_digits = refl

pub above_the_limit : script (codes "clear a\nsearch a 10001 {}") ≡ Err (BadLine 2)
above_the_limit = refl

-- ---- replies

pub mounted : text_of (reply.Mounted 1 3) ≡ codes "mounted 1 files 3 docs"
unfolding digits
mounted = refl

pub hits : text_of (reply.Hits 2 ((codes "_0", 0) ∷ (codes "_0", 2) ∷ [])) ≡ codes "hits 2 _0/0 _0/2"
unfolding digits
hits = refl

pub one_shown : text_of (reply.Hits 2 ((codes "_0", 0) ∷ [])) ≡ codes "hits 2 _0/0"
unfolding digits
one_shown = refl

pub fields : text_of (reply.Fields ((codes "title", codes "string", codes "red fox") ∷ [])) ≡ codes "fields 1 dGl0bGU=:string:cmVkIGZveA=="
unfolding digits encode_symbols
fields = refl

pub bytes : text_of (reply.Bytes (32 ∷ 114 ∷ 101 ∷ 100 ∷ [])) ≡ codes "bytes 4 20726564"
unfolding digits encode_with
bytes = refl

pub no_bytes : text_of (reply.Bytes []) ≡ codes "bytes 0"
unfolding digits
no_bytes = refl

pub stats : text_of (reply.Stats 0 1 0 2 0 0 12288 0) ≡ codes "stats free 0 listed 1 leaving 0 evictions 2 promotions 0 demotions 0 fetched 12288 direct 0"
unfolding digits
stats = refl

pub refused : text_of (reply.Refused (codes "not mounted")) ≡ codes "not mounted"
refused = refl
