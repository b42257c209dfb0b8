-- Refusals of a description by document 01's numbers, in the table's order: the first that fails wins. And which doubles are not infinite.
-- Definitions only; assumes nothing.
use Rattle.std.specs.Prelude.{Bool, not, ◌&&◌, List, ℕ, pos, Float}
use Rattle.std.specs.Int.Signed.{le_z}
use Rattle.std.specs.Float.Ieee.{neg, le}
use Rattle.interval.specs.declared.Interval.{Interval}
use Rattle.interval.specs.Step.{b64}
use Rattle.grade.specs.Grade.{eq_z}
use Rattle.grade.specs.Exact.{compiled}
use Rattle.grade.specs.Certified.{certification}
use Rattle.grade.specs.Intervals.{box_at}
use Rattle.limits.specs.Refusals.{refused, ◌or_else◌}
use Rattle.grade.specs.Refusals.{is_distance, coincident}
use Rattle.gyroid.specs.declared.Description.{Description}
use Rattle.gyroid.specs.Description.{in_limits, part_frame}

-- ---- a description: the table's rows "description", "period", "kind", "level", "certification" and "frame", which are
--   "1: entry outside its limits or kinds", "2: a ≤ 0", "3: sheet", "2: linear, from = to; 3: distance",
--   4 and 5 of the grade's certification, and "3: unless w > 0, x = y = z = 0 and translation 0"
unfoldable pub refusal : Description → ℕ
refusal d =
    refused (not (in_limits d)) 1 or_else
    refused (le_z d.period (pos 0)) 2 or_else
    refused (eq_z d.kind (pos 1)) 3 or_else
    refused (coincident d.level) 2 or_else
    refused (is_distance d.level) 3 or_else
    certification (compiled d.level) or_else
    refused (not (part_frame d.frame)) 3

-- ---- a box of doubles is three intervals
-- of size at most x, both ends
abbrev pub ends_within : Float → Interval → Bool
ends_within x b = le (neg x) b.lo && le b.lo x && le (neg x) b.hi && le b.hi x

-- the greatest double
abbrev pub greatest_double : Float
greatest_double = b64 0x7fef_ffff_ffff_ffff

-- each interval of a box
abbrev pub every : (Interval → Bool) → List Interval → Bool
every f w = f (box_at w 0) && f (box_at w 1) && f (box_at w 2)

-- no end is infinite
unfoldable pub all_finite : List Interval → Bool
all_finite w = every (ends_within greatest_double) w
