-- A fact of every axis, from its three cases. Assumes nothing.
use Prim.Native.Nat.{ℕ, zero, suc, ◌<◌}
use native.Mathlib.Omega.{arith}

pub three : (P : ℕ → Type 0) → P 0 → P 1 → P 2 → (i : ℕ) → i < 3 → P i
three P x y z zero l = x
three P x y z (suc zero) l = y
three P x y z (suc (suc zero)) l = z
three P x y z (suc (suc (suc i))) l = absurd (omega arith)
