-- What a coordinate is that keeps the limits, by itself and as the end of a side. Assumes nothing.
use mathlib.Core.Bool.{Bool, true, false, ◌&&◌}
use lib.Dec.{T}
use lib.IntN.{ℤ, pos, negsuc}
use lib.Signed.{le_z, lt_z, le_z_yes, lt_z_yes, ◌≤ℤ◌, ◌<ℤ◌}
use Rattle.exact.specs.Within.{Within}
use Rattle.exact.proofs.Size.{within_of_bounds}
use Rattle.limits.specs.Ticks.{tick, side}

pub both : (a b : Bool) → T (a && b) → T a × T b
both true b t = (tt, t)
both false b t = absurd t

pub tick_within : (z : ℤ) → T (tick z) → Within 1048576 z
tick_within z t =
    let (h, k) = both (le_z (negsuc 1048575) z) (le_z z (pos 1048576)) t in
    within_of_bounds 1048576 (le_z_yes h) (le_z_yes k)

-- the ends of a side
pub record Sided (low high : ℤ) : Type 0 where
  pub least : negsuc 1048575 ≤ℤ low
  pub most : high ≤ℤ pos 1048576
  pub spans : low <ℤ high
  pub low_within : Within 1048576 low
  pub high_within : Within 1048576 high

pub sided : (low high : ℤ) → T (side low high) → Sided low high
sided low high t =
    let (ends, up) = both (tick low && tick high) (lt_z low high) t in
    let (l, h) = both (tick low) (tick high) ends in
    record {
      least = le_z_yes (both (le_z (negsuc 1048575) low) (le_z low (pos 1048576)) l).0;
      most = le_z_yes (both (le_z (negsuc 1048575) high) (le_z high (pos 1048576)) h).1;
      spans = lt_z_yes up;
      low_within = tick_within low l;
      high_within = tick_within high h;
    }
