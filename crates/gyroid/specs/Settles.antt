-- WHAT AN ANSWER SAYS of all admitted residuals of a box, at every rational point of it, its faces included. Definitions only; assumes nothing.
use Rattle.std.specs.Prelude.{List, ℤ, Option}
use Rattle.exact.specs.Fraction.{Fraction, zero_f, ◌<F◌}
use Rattle.interval.specs.declared.Interval.{Interval}
use Rattle.interval.specs.Encloses.{◌∈◌, ◌⊑◌}
use Rattle.grade.specs.Grade.{Point}
use Rattle.grade.specs.Holds.{InBox}
use Rattle.gyroid.specs.declared.Description.{Description}
use Rattle.gyroid.specs.declared.State.{State}
use Rattle.gyroid.specs.Admitted.{Chosen, admitted}

module _ (d : Description) (lo hi : List ℤ) where
  -- a residual: "every enclosure that holds them all"
  abbrev pub Holds : Option Interval → Type 0
  Holds (Option.Some v) = (p : Point) → InBox lo hi p → (h : Chosen d lo hi) → admitted d lo hi h p ∈ v
  Holds Option.None = Unit {0}

  -- a state
  abbrev pub Settles : State → Type 0
  Settles State.Inside = (p : Point) → InBox lo hi p → (h : Chosen d lo hi) → admitted d lo hi h p <F zero_f
  Settles State.Outside = (p : Point) → InBox lo hi p → (h : Chosen d lo hi) → zero_f <F admitted d lo hi h p
  Settles State.Unsettled = Unit {0}

  -- and that there is one: some admitted residual of the box has the property P
  pub record Some (P : Fraction → Type 0) : Type 0 where
    pub p : Point
    pub inside : InBox lo hi p
    pub chosen : Chosen d lo hi
    pub says : P (admitted d lo hi chosen p)

-- a residual lies in another: an enclosure in an enclosure, and anything in none
abbrev pub LiesIn : Option Interval → Option Interval → Type 0
LiesIn r Option.None = Unit {0}
LiesIn Option.None (Option.Some w) = ⊥
LiesIn (Option.Some v) (Option.Some w) = v ⊑ w
