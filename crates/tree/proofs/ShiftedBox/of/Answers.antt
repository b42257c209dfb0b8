-- Each end is read back from its bits, shifted, and kept. Assumes nothing.
use mathlib.Core.Path.{◌≡◌, ◌∙◌}
use lib.IntN.{ℤ, pos}
use lib.ListN.{get_or}
use mir.Syntax.{w64}
use mir.Val.{to_z, of_z}
use Rattle.exact.specs.Within.{Within}
use Rattle.exact.proofs.Size.{within_fits}
use Rattle.exact.proofs.Signed.{back, within_bits}
use Rattle.tree.specs.declared.Axis.TheVariants.{X, Y, Z}
use Rattle.tree.specs.Box.{box_of}
use Rattle.tree.proofs.ShiftedBox.of.Goals as goal

plain : {n : ℤ} (x : ℤ) → n ≡ to_z w64 (of_z w64 x) → Within 1048576 x → n ≡ x
plain x e h = e ∙ back (within_fits {n = 1048576} tt h)

pub of-requires-clause-low_bound : goal.of-requires-clause-low_bound
of-requires-clause-low_bound c = within_bits 1048576 tt tt (c.requires.lows X)

pub of-requires-clause-high_bound : goal.of-requires-clause-high_bound
of-requires-clause-high_bound c = within_bits 1048576 tt tt (c.requires.highs X)

pub of-requires-2-clause-low_bound : goal.of-requires-2-clause-low_bound
of-requires-2-clause-low_bound c = within_bits 1048576 tt tt (c.requires.lows Y)

pub of-requires-2-clause-high_bound : goal.of-requires-2-clause-high_bound
of-requires-2-clause-high_bound c = within_bits 1048576 tt tt (c.requires.highs Y)

pub of-requires-3-clause-low_bound : goal.of-requires-3-clause-low_bound
of-requires-3-clause-low_bound c = within_bits 1048576 tt tt (c.requires.lows Z)

pub of-requires-3-clause-high_bound : goal.of-requires-3-clause-high_bound
of-requires-3-clause-high_bound c = within_bits 1048576 tt tt (c.requires.highs Z)

pub returns : goal.returns
unfolding box_of
returns c =
    let p = c.requires in
    let lo = c.args.lo in
    let hi = c.args.hi in
    λ k. record {
      lx = plain (get_or lo 0 (pos 0)) c.of.ensures.low (p.lows X) k;
      ly = plain (get_or lo 1 (pos 0)) c.of-2.ensures.low (p.lows Y) k;
      lz = plain (get_or lo 2 (pos 0)) c.of-3.ensures.low (p.lows Z) k;
      hx = plain (get_or hi 0 (pos 0)) c.of.ensures.high (p.highs X) k;
      hy = plain (get_or hi 1 (pos 0)) c.of-2.ensures.high (p.highs Y) k;
      hz = plain (get_or hi 2 (pos 0)) c.of-3.ensures.high (p.highs Z) k;
    }
