-- What the layer's functions ask of their arguments, and callers have shown. Definitions only; assumes nothing.
use Rattle.std.specs.Prelude.{◌≡◌}
use Rattle.gyroid.specs.declared.Description.{Description}
use Rattle.gyroid.specs.Refusals.{refusal}

-- no number refuses the description
pub record Accepted (d : Description) : Type 0 where
  pub none : refusal d ≡ 0
