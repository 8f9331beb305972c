-- What a cache is opened with.
use Rattle.std.specs.Prelude.{ℕ, zero, suc, List, [], ◌∷◌, ◌++◌}
use Rattle.std.specs.List.{list_all}
use Rattle.region_ranges.specs.declared.keys.Config.{Config}
use Rattle.cache_outside.specs.Frames.{FrameView}
use Rattle.cache_table.specs.Abouts.{About}

-- its settings, and whether all of its frames tell their bytes and are steady
abbrev pub opened_with : {F : Type 0} → (F → FrameView) → Config → List F → About
opened_with view config frames = record { config = config; tells = list_all (λ f. (view f).tells) frames; steady = list_all (λ f. (view f).steady) frames }

-- the words of n free regions, each behind seven that are never touched
abbrev pub free_word : List ℕ
free_word = 0 ∷ 0 ∷ 0 ∷ 0 ∷ 0 ∷ 0 ∷ 0 ∷ 18446744073709551360 ∷ []

abbrev pub free_words : ℕ → List ℕ
free_words zero = []
free_words (suc n) = free_words n ++ free_word
