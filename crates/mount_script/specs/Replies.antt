-- The text of each reply.
use Rattle.std.specs.Prelude.{ℕ, List, [], ◌∷◌, ◌++◌, length, codes}
use Rattle.std.specs.List.{flat_map}
use Rattle.std.specs.Fmt.{decimal}
use Rattle.std.specs.Borrow.{Bor}
use Rattle.hex.specs.Hex.{encode_lower}
use Rattle.base64.specs.Engines.{standard}
use Rattle.base64.specs.GeneralPurpose.{encode_of}
use Rattle.mount_script.specs.declared.reply.Reply.{Reply}
use Rattle.mount_script.specs.declared.reply.Reply.TheVariants.{Mounted, Unmounted, Cleared, Decayed, Hits, Fields, Bytes, Stats, Refused, Fault, Gone, NoMemory}

-- ` SEGMENT/DOC`
abbrev pub hit_text : List ℕ × ℕ → List ℕ
hit_text h = codes " " ++ (h.0 ++ (codes "/" ++ decimal h.1))

-- ` NAME:KIND:VALUE`, with name and value in base64
abbrev pub field_text : List ℕ × List ℕ × List ℕ → List ℕ
field_text f = codes " " ++ (encode_of standard f.0 ++ (codes ":" ++ (f.1 ++ (codes ":" ++ encode_of standard f.2))))

-- a blank and the bytes in lower-case hex, where there are any
abbrev pub hex_text : List ℕ → List ℕ
hex_text [] = []
hex_text (b ∷ bs) = codes " " ++ encode_lower (b ∷ bs)

-- a counter's word and number, where the word is lent
abbrev pub counter_of : Bor (List ℕ) × ℕ → List ℕ × ℕ
counter_of c = (c.0.now, c.1)

-- ` WORD NUMBER`
abbrev pub counter_text : List ℕ × ℕ → List ℕ
counter_text c = codes " " ++ (c.0 ++ (codes " " ++ decimal c.1))

-- how many documents match, and the hits that are shown
abbrev pub hits_text : ℕ → List (List ℕ × ℕ) → List ℕ
hits_text total shown = codes "hits " ++ (decimal total ++ flat_map hit_text shown)

abbrev pub fields_text : List (List ℕ × List ℕ × List ℕ) → List ℕ
fields_text fields = codes "fields " ++ (decimal (length fields) ++ flat_map field_text fields)

abbrev pub bytes_text : List ℕ → List ℕ
bytes_text bytes = codes "bytes " ++ (decimal (length bytes) ++ hex_text bytes)

abbrev pub mounted_text : ℕ → ℕ → List ℕ
mounted_text files docs = codes "mounted " ++ (decimal files ++ (codes " files " ++ (decimal docs ++ codes " docs")))

-- a reply without its line's number and newline
abbrev pub text_of : Reply → List ℕ
text_of (Mounted files docs) = mounted_text files docs
text_of Unmounted = codes "unmounted"
text_of Cleared = codes "cleared"
text_of Decayed = codes "decayed"
text_of (Hits total shown) = hits_text total shown
text_of (Fields fields) = fields_text fields
text_of (Bytes bytes) = bytes_text bytes
text_of (Stats free listed leaving evictions promotions demotions fetched direct) = codes "stats" ++ flat_map counter_text
    ((codes "free", free) ∷ (codes "listed", listed) ∷ (codes "leaving", leaving)
    ∷ (codes "evictions", evictions) ∷ (codes "promotions", promotions) ∷ (codes "demotions", demotions)
    ∷ (codes "fetched", fetched) ∷ (codes "direct", direct) ∷ [])
text_of (Refused text) = text
text_of Fault = codes "fault"
text_of Gone = codes "gone"
text_of NoMemory = codes "no memory"
