-- By the three sides. Assumes nothing.
use mathlib.Core.Path.{◌≡◌, ap, ◌∙◌}
use mathlib.Core.List.{List}
use Prim.Native.Nat.{ℕ}
use lib.IntN.{ℤ}
use Rattle.limits.specs.Ticks.{at}
use Rattle.tree.specs.Box.{lows, highs}
use Rattle.table.proofs.ReadLaws.{box_is}
use Rattle.sound.proofs.BoxLaws.{side_is, limits_is}
use Rattle.sound.proofs.keeps_limits.Goals as goal

pub returns : goal.returns
returns c =
    let a = c.args in
    let box = box_is a.t.now a.slot in
    let low : (i : ℕ) → at c.lows_of.result i ≡ _ = λ i. ap (λ (l : List ℤ). at l i) (c.lows_of.ensures ∙ ap lows box) in
    let high : (i : ℕ) → at c.highs_of.result i ≡ _ = λ i. ap (λ (l : List ℤ). at l i) (c.highs_of.ensures ∙ ap highs box) in
    limits_is a.t.now a.slot (side_is a.t.now a.slot 0 3 (low 0) (high 0) c.side.ensures)
    (side_is a.t.now a.slot 1 4 (low 1) (high 1) c.side-2.ensures) (side_is a.t.now a.slot 2 5 (low 2) (high 2) c.side-3.ensures)
