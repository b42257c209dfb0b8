-- A reducible turn has a quarter number that fits. Assumes nothing.
use mathlib.Core.Path.{◌≡◌, sym, ap, ◌∙◌, subst, subst⁻¹}
use mathlib.Core.Bool.{Bool, true}
use lib.Dec.{T}
use lib.IntN.{ℤ}
use lib.Ieee.{Float}
use mir.Syntax.{w64}
use mir.Val.{to_z, of_z}
use Rattle.exact.proofs.Signed.{is, bit, through}
use Rattle.interval.specs.declared.Interval.{Interval}
use Rattle.interval.specs.Interval.{mid}
use Rattle.interval.specs.Floor.{quarter_number}
use Rattle.interval.specs.Encloses.{Small}
use Rattle.interval.proofs.DoubleSizes.{quarter_within}
use Rattle.gyroid.specs.Turn.{reducible, turn}
use Rattle.gyroid.proofs.TurnSizes.{mid_turn_small}
use Rattle.gyroid.proofs.Gyroid.turn.Goals as goal

-- a reducible turn's middle, and its quarter number as it is read back from its bits
module _ (t : Interval) {b : Bool} (e : b ≡ reducible t) (h : b ≡ true) where
  small : Small 50 (mid t)
  small = mid_turn_small t (subst T (sym h ∙ e) tt)

  quarter : {m : Float} {q : ℤ} → m ≡ mid t → q ≡ quarter_number m → to_z w64 (of_z w64 q) ≡ quarter_number (mid t)
  quarter f g = (bit tt (through (g ∙ ap quarter_number f) (is (quarter_within 50 (mid t) tt small)))).same

pub returns-then-not-reducible : goal.returns-then-not-reducible
unfolding turn
returns-then-not-reducible c = rw (← c.reducible.ensures, c.if-not-reducible.true)

pub quarter_number-q-requires : goal.quarter_number-q-requires
quarter_number-q-requires c = subst⁻¹ (Small 50) c.mid.ensures (small c.args.t c.reducible.ensures c.if-not-reducible.false)

pub returns-then-beyond : goal.returns-then-beyond
unfolding turn
returns-then-beyond c =
    let q = quarter c.args.t c.reducible.ensures c.if-not-reducible.false c.mid.ensures c.quarter_number-q.ensures in
    rw (← c.reducible.ensures, c.if-not-reducible.false, ← q, ← c.reduced-u.ensures, ← c.beyond.ensures, c.if-beyond.true)

pub returns : goal.returns
unfolding turn
returns c =
    let q = quarter c.args.t c.reducible.ensures c.if-not-reducible.false c.mid.ensures c.quarter_number-q.ensures in
    rw (
      c.turned.ensures,
      c.modulo_four.ensures,
      c.circle.ensures,
      ← c.reducible.ensures,
      c.if-not-reducible.false,
      ← q,
      ← c.reduced-u.ensures,
      ← c.beyond.ensures,
      c.if-beyond.false,
    )
