-- Each entry is read back from its bits. Assumes nothing.
use mathlib.Core.Path.{◌∙◌}
use mathlib.Core.Bool.{◌&&◌}
use borrow.Author.Rules.{rules}
use lib.IntN.{pos}
use lib.Signed.{lt_z}
use Rattle.exact.proofs.Signed.{back, equal_bits}
use Rattle.grade.proofs.EntryLaws.{equal_vectors}
use Rattle.gyroid.specs.Description.{part_frame, origin}
use Rattle.gyroid.proofs.Frame.is_part.Goals as goal

pub returns : goal.returns
unfolding part_frame
returns c =
    let f = c.args.self in
    let w = back {x = f.w} (search rules) in
    let x = equal_bits {x = f.x} {y = pos 0} (search rules) (search rules) in
    let y = equal_bits {x = f.y} {y = pos 0} (search rules) (search rules) in
    let z = equal_bits {x = f.z} {y = pos 0} (search rules) (search rules) in
    let t = c.eq.ensures ∙ equal_vectors f.translation origin (search rules) (search rules) in
    λ k. lt_z (pos 0) (w k) && x k && y k && z k && t k
