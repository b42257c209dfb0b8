-- `expansion` over a box of ticks, of any leaf: from what its jet at the centre and its second-order term hold, and from nothing else of the
-- surface, it holds the surface less any level that is affine about the centre. Assumes nothing.
use mathlib.Core.Bool.{Bool, true, false, cond, not}
use mathlib.Core.List.{List}
use Prim.Native.Nat.{ℕ, ◌<◌}
use lib.IntN.{ℤ}
use Rattle.std.specs.Prelude.{Option, Some, None, option_map}
use Rattle.exact.specs.Fraction.{Fraction, ◌-F◌}
use Rattle.interval.specs.declared.Interval.{Interval}
use Rattle.interval.specs.Interval.{Arithmetic}
use Rattle.interval.specs.Encloses.{value}
use Rattle.interval.proofs.Membership.{In, wider}
use Rattle.grade.specs.Grade.{Point}
use Rattle.grade.specs.Intervals.{box_at}
use Rattle.grade.specs.Fits.{Within3}
use Rattle.grade.specs.Holds.{InBox}
use Rattle.grade.specs.Extended.{in_units}
use Rattle.gyroid.specs.declared.Gyroid.{Gyroid}
use Rattle.gyroid.specs.declared.Jet.{Jet}
use Rattle.gyroid.specs.Refusals.{all_finite}
use Rattle.gyroid.specs.Jet.{jet}
use Rattle.gyroid.specs.Residual.{centre, radius, radii, second_order, bound, expanded, expansion}
use Rattle.gyroid.specs.Admitted.{centre_at, ends, tick_box}
use Rattle.gyroid.proofs.CentreLaws.{radii_in, offset_within}
use Rattle.gyroid.proofs.JetLaws.{JetHolds}
use Rattle.gyroid.proofs.BracketLaws.{TermHolds}
use Rattle.gyroid.proofs.SecondOrder.{expanded_at, second_order_lem}

-- a residual that is an enclosure holds a fraction, with a size
abbrev pub HoldsIn : Option Interval → Fraction → Type 0
HoldsIn (Some v) q = In 133 q v
HoldsIn None q = Unit {0}

module _ (ar : Arithmetic) where
  -- `expansion` holds a surface, less any level l at the centre with any slope s: its value v, its gradient and a term e of second order
  abbrev pub Expands : Gyroid → List Interval → Fraction → (ℕ → Fraction) → Fraction → (ℕ → Fraction) → Type 0
  Expands leaf w v steep e o = (l : Fraction) (s : ℕ → Fraction) (L : Interval) (S : List Interval)
      → In 100 l L → ((i : ℕ) → i < 3 → In 100 (s i) (box_at S i)) → HoldsIn (expansion ar leaf w L S) (expanded_at v steep e l s o)

  -- THE FACT, "from the jet and the bound alone"
  module _
      (leaf : Gyroid) (lo hi : List ℤ) (low-in : Within3 1048576 lo) (high-in : Within3 1048576 hi) (p : Point) (inside : InBox lo hi p)
      (v e : Fraction) (steep : ℕ → Fraction) where
    abbrev w : List Interval
    w = tick_box lo hi

    abbrev j : Option Jet
    j = jet ar leaf (centre w)

    abbrev q : Interval
    q = second_order ar leaf.surface leaf.wave_squared (radii ar w)

    abbrev o : ℕ → Fraction
    o i = in_units (p i -F centre_at lo hi i)

    pub expansion_holds : JetHolds j v steep → TermHolds q e → Expands leaf w v steep e o
    unfolding expansion bound
    expansion_holds at_centre term l s L S level slope = finite (not (all_finite w)) j at_centre
      where
        about : Option Jet → Option Interval
        about j = option_map (expanded ar q L S (radii ar w)) j

        found : (j : Option Jet) → JetHolds j v steep → HoldsIn (about j) (expanded_at v steep e l s o)
        found None h = tt
        found (Some j) h = second_order_lem ar v l e term.most steep s o (λ i. value (radius ar (ends lo hi i))) j.value L q j.gradient S (radii ar w)
            h.value h.gradient level slope (λ i b. wider 20 tt (radii_in ar lo hi low-in high-in i b))
            (λ i b. offset_within ar lo hi low-in high-in i b p inside) term.holds term.within

        finite : (b : Bool) (j : Option Jet) → JetHolds j v steep → HoldsIn (cond b None (about j)) (expanded_at v steep e l s o)
        finite true j h = tt
        finite false j h = found j h
