-- What the table is told when it is made.
use Rattle.std.specs.Prelude.{Bool}
use Rattle.region_ranges.specs.declared.keys.Config.{Config}

pub record About : Type 0 where
  pub config : Config
  pub tells : Bool
  pub steady : Bool
