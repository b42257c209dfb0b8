-- Refusals of doubles by document 01's numbers: row "float input, after the description". An input is a box of three intervals, a triangle
-- of three such corners, or a point. Definitions only; assumes nothing.
use Rattle.std.specs.Prelude.{Bool, not, ◌&&◌, List, [], ℕ, get_or, Float}
use Rattle.interval.specs.declared.Interval.{Interval}
use Rattle.interval.specs.Step.{b64}
use Rattle.interval.specs.Interval.{ordered}
use Rattle.limits.specs.Refusals.{refused, ◌or_else◌}
use Rattle.gyroid.specs.Refusals.{ends_within, every, all_finite}

-- 2^40
abbrev pub farthest : Float
farthest = b64 0x4270_0000_0000_0000

-- a corner of a triangle
abbrev pub corner : List (List Interval) → ℕ → List Interval
corner c i = get_or c i []

-- what is not ordered: "9: NaN or low above high"
unfoldable pub all_ordered : List Interval → Bool
all_ordered w = every ordered w

-- what is not near: "10: an end or point beyond 2^40 in size"
unfoldable pub near : Interval → Bool
near b = ends_within farthest b

unfoldable pub all_near : List Interval → Bool
all_near w = every near w

unfoldable pub box_refusal : List Interval → ℕ
box_refusal w = refused (not (all_ordered w)) 9 or_else refused (not (all_near w)) 10

-- an end beyond the greatest double: an infinity, for 9 comes before it and refuses a NaN
unfoldable pub has_infinite : List Interval → Bool
has_infinite w = not (all_finite w)

-- the number alone of a call that meets an infinite end between 9 and 10 (`by_rows` of specs/Calls has the rows)
unfoldable pub finite_box_refusal : List Interval → ℕ
finite_box_refusal w = refused (not (all_ordered w)) 9 or_else refused (all_finite w && not (all_near w)) 10

-- the three corners: 9 is asked of all of them before 10 is of any
unfoldable pub triangle_refusal : List (List Interval) → ℕ
triangle_refusal c =
    refused (not (all_ordered (corner c 0) && all_ordered (corner c 1) && all_ordered (corner c 2))) 9 or_else
    refused (not (all_near (corner c 0) && all_near (corner c 1) && all_near (corner c 2))) 10
