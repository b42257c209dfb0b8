-- Document 01's "The description": which entries it admits, and which frame is the part's. Definitions only; assumes nothing.
use Rattle.std.specs.Prelude.{Bool, ◌&&◌, List, [], ◌∷◌, ℤ, pos}
use Rattle.std.specs.Int.Signed.{lt_z, le_z}
use Rattle.grade.specs.Grade as grade
use Rattle.limits.specs.Ticks.{tick, ticks}
use Rattle.grade.specs.Grade.{eq_z}
use Rattle.grade.specs.Refusals.{same}
use Rattle.gyroid.specs.declared.Frame.{Frame}
use Rattle.gyroid.specs.declared.Description.{Description}

-- "Coordinates, period, frame entries are whole ticks or numbers from −2^20 to 2^20"
unfoldable pub frame_in_limits : Frame → Bool
frame_in_limits f = tick f.w && tick f.x && tick f.y && tick f.z && ticks f.translation

-- "kind (0 network, 1 sheet)", and "Refusal 1 now admits kind 2."
abbrev pub kind : ℤ → Bool
kind z = le_z (pos 0) z && le_z z (pos 2)

-- "Limits bind unused entries too."
unfoldable pub in_limits : Description → Bool
in_limits d = tick d.period && kind d.kind && grade.in_limits d.level && frame_in_limits d.frame

abbrev pub origin : List ℤ
origin = pos 0 ∷ pos 0 ∷ pos 0 ∷ []

-- whether the frame is the part's own, which alone is accepted: "w > 0, x = y = z = 0 and translation 0"
unfoldable pub part_frame : Frame → Bool
part_frame f = lt_z (pos 0) f.w && eq_z f.x (pos 0) && eq_z f.y (pos 0) && eq_z f.z (pos 0) && same f.translation origin
