-- Coordinates: document 01's "whole ticks .. from −2^20 to 2^20". Definitions only; assumes nothing.
use Rattle.std.specs.Prelude.{Bool, ◌&&◌, ◌||◌, List, ℕ, ℤ, pos, negsuc, get_or}
use Rattle.std.specs.Int.Signed.{le_z, lt_z}

abbrev pub tick : ℤ → Bool
tick z = le_z (negsuc 1048575) z && le_z z (pos 1048576)

-- a low and a high that keep the limits, at least one tick apart
abbrev pub side : ℤ → ℤ → Bool
side low high = tick low && tick high && lt_z low high

-- ---- three coordinates: a vector's entry on an axis, 0 to 2
abbrev pub at : List ℤ → ℕ → ℤ
at v i = get_or v i (pos 0)

abbrev pub ticks : List ℤ → Bool
ticks v = tick (at v 0) && tick (at v 1) && tick (at v 2)

-- "a low above its high"
abbrev pub above : List ℤ → List ℤ → Bool
above lo hi = lt_z (at hi 0) (at lo 0) || lt_z (at hi 1) (at lo 1) || lt_z (at hi 2) (at lo 2)
