-- The bytes that a read takes from the source, where the state is told and one actor works alone.
use Rattle.std.specs.Prelude.{◌≡◌, ◌+◌, ◌-◌, ◌*◌, ◌/◌, ◌==◌, ℕ, min, max, Bool, true, List, [], ◌∷◌, ◌++◌, length, map, slice_get, Some, None, if◌then◌else◌}
use Rattle.std.specs.List.{range_with_len, flat_map}
use Rattle.region_ranges.specs.declared.ranges.ByteRange.{ByteRange}
use Rattle.blob_parts.specs.Content.{slice_of}
use Rattle.cache_door.specs.declared.answers.Want.{Want}
use Rattle.cache_door.specs.declared.answers.Entered.{Entered}
use Rattle.cache_door.specs.declared.answers.Entered.TheVariants.{Held, NoRoom, Gone}
use Rattle.cache_door.specs.Machine.{State, enter, store, leave, hold_at}

-- a range of a file, cut where its aligned ranges end. The regions end there too, since a range divides a region
abbrev pub part : ℕ → ByteRange → ℕ → ByteRange
part range whole k = record { start = max whole.start (k * range); end = min whole.end (k * range + range) }

abbrev pub parts : ℕ → ByteRange → List ByteRange
parts range whole =
    if whole.end - whole.start == 0 then []
    else map (part range whole) (range_with_len (whole.start / range) ((whole.end - 1) / range + 1 - whole.start / range))

-- what an entry wants for a part of file f of manifest m, a file of `len` bytes
abbrev pub want_of : ℕ → ℕ → ℕ → ℕ → ByteRange → Want
want_of size m f len p =
    let k = p.start / size in
    record { key = record { manifest = m; file = f; region = k }; len = min size (len - k * size); sub = record { start = p.start - k * size; end = p.end - k * size } }

-- what the answer takes, as ranges of the file: the part itself where there is no room, else the gap. `base` is the region's first byte
abbrev pub taken_by : Entered → ℕ → ByteRange → List ByteRange
taken_by Gone base p = []
taken_by NoRoom base p = p ∷ []
taken_by (Held r None) base p = []
taken_by (Held r (Some g)) base p = record { start = base + g.start; end = base + g.end } ∷ []

-- the whole gap is stored with the file's bytes, and the hold is given back
abbrev pub after : Entered → ℕ → List ℕ → ℕ → State → State
after Gone a bytes base s = s
after NoRoom a bytes base s = s
after (Held r None) a bytes base s = leave a (hold_at s a) s
after (Held r (Some g)) a bytes base s = let t = store a (hold_at s a) (slice_of bytes (base + g.start) (g.end - g.start)) s in leave a (hold_at t a) t

-- what a part takes, and the state behind it
abbrev pub visit : ℕ → ℕ → ℕ → ℕ → List ℕ → ℕ → ByteRange → State → List ByteRange × State
visit a mount m f bytes now p s =
    let size = s.config.region in
    let e = enter a mount (want_of size m f (length bytes) p) now s in
    (taken_by e.0 (p.start / size * size) p, after e.0 a bytes (p.start / size * size) e.1)

-- a run over parts
abbrev pub run_over : (ByteRange → State → List ByteRange × State) → List ByteRange → State → List ByteRange × State
run_over go [] s = ([], s)
run_over go (p ∷ ps) s = let x = go p s in let y = run_over go ps x.1 in (x.0 ++ y.0, y.1)

-- what actor a takes that reads a range of file f of manifest m, a file of these bytes, and the state behind it
abbrev pub takes : ℕ → ℕ → ℕ → ℕ → List ℕ → ByteRange → ℕ → State → List ByteRange × State
takes a mount m f bytes whole now s = run_over (visit a mount m f bytes now) (parts s.config.range whole) s

-- blob and place of the single bytes of these ranges of a file, in order, where `places` are those of the whole file
abbrev pub spread_over : List (ℕ × ℕ) → List ByteRange → List (ℕ × ℕ)
spread_over places ranges = flat_map (λ (r : ByteRange). slice_of places r.start (r.end - r.start)) ranges

-- no place of a part stands twice among these places of blobs; `is_part` says which blobs are parts of files, and not manifests
abbrev pub Once : (ℕ → Bool) → List (ℕ × ℕ) → Type 0
Once is_part places = (i j : ℕ) (p : ℕ × ℕ) → is_part p.0 ≡ true → slice_get places i ≡ Some p → slice_get places j ≡ Some p → i ≡ j
