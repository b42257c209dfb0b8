-- What holds of both arms of a test, each where it is taken, holds of what the test picks. Assumes nothing.
use mathlib.Core.Bool.{Bool, true, false, not, cond}
use lib.Dec.{T}

pub choose : {A : Type 0} (b : Bool) (x y : A) (P : A → Type 0) → (T b → P x) → (T (not b) → P y) → P (cond b x y)
choose true x y P f g = f tt
choose false x y P f g = g tt
