-- What the key of a table tells.
use Rattle.std.specs.List.{list_all}
use Rattle.cache_outside.specs.Frames.{FrameView}
use Rattle.cache_table.specs.Abouts.{About}
use Rattle.cache_table.specs.declared.key.Key.{Key}

abbrev pub about_of : {F : Type 0} → (F → FrameView) → Key F → About
about_of view k = record { config = k.config; tells = list_all (λ f. (view f).tells) k.frames.value.items; steady = list_all (λ f. (view f).steady) k.frames.value.items }
