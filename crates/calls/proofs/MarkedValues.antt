-- Document 01's marked values (1) to (12), joined from the level's part. Assumes nothing.
use mathlib.Core.Path.{◌≡◌, refl, ◌∙◌}
use lib.IntN.{pos, negsuc}
use Rattle.grade.specs.Marked.{ramp, G}
use Rattle.grade.proofs.MarkedValues.{level_part}
use Rattle.gyroid.specs.Refusals.{refusal}
use Rattle.gyroid.proofs.NetworkLaws.{network_refusal}
use Rattle.calls.specs.Calls.{level_piece_refusal, level_piece_call}
use Rattle.calls.specs.Marked.{core, Marked}

accepted : refusal (core G) ≡ 0
accepted = network_refusal (pos 10240) G refl refl level_part.certified.0 ∙ level_part.certified.1

pub marked : Marked
unfolding level_piece_refusal level_piece_call
marked =
    let m = level_part in
    record {
      length = m.length;
      one = m.one;
      two = m.two;
      three = m.three;
      four = rw (accepted, m.four) refl;
      five = rw (accepted, m.five) refl;
      six = rw (accepted, m.six) refl;
      seven = rw (accepted, m.seven) refl;
      eight = rw (accepted, m.eight) refl;
      nine = network_refusal (pos 10240) (ramp 5120 (negsuc 255) (pos 256)) refl refl m.nine.0 ∙ m.nine.1;
      ten = network_refusal (pos 10240) (ramp 5119 (negsuc 255) (pos 256)) refl refl m.ten.0 ∙ m.ten.1;
      eleven = network_refusal (pos 10240) (ramp 10240 (pos 257) (pos 256)) refl refl m.eleven.0 ∙ m.eleven.1;
      twelve = network_refusal (pos 10240) (ramp 0 (pos 0) (pos 0)) refl refl m.limits;
    }
