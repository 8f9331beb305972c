-- What clauses see of a text in memory.
use Rattle.std.specs.Prelude.{ℕ, ◌+◌, ◌-◌, ◌^◌, ◌==◌, min, Bool, List, drop, Some}
use Rattle.std.specs.List.{list_any}
use Rattle.cache_outside.specs.Texts.{TextView}
use Rattle.cache_outside.specs.declared.mem_text.MemText.{MemText}

abbrev pub bytes_left : MemText → List ℕ
bytes_left t = drop t.place t.text

abbrev pub text_view : MemText → TextView
text_view t = record { faults = t.faults; left = Some (bytes_left t) }

-- whether the next read is listed as one that fails; the number of reads stands still at its type's last value
abbrev pub is_failing : MemText → Bool
is_failing t = list_any (λ n. n == min (t.reads + 1) (2 ^ 64 - 1)) t.fails.items
