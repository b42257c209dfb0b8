-- Halving keeps a box good: what is true of the ends on each axis is true of the ends of its halves. Assumes nothing.
use Prim.Native.Nat.{◌/◌, ◌≤◌}
use lib.IntN.{ℤ, pos, negsuc, nat_abs, ◌+ℤ◌, ◌-ℤ◌}
use lib.Signed.{◌≤ℤ◌, ◌<ℤ◌}
use Rattle.exact.proofs.IntegerOrder.{zarith}
use Rattle.tree.specs.declared.Axis.{Axis}
use Rattle.tree.specs.declared.Axis.TheVariants.{X, Y, Z}
use Rattle.tree.specs.Box.{Box, Good, low, high, span, lower, upper}
use Rattle.tree.proofs.Spans.{middle_least, middle_above, middle_below}

pub by_axis : (P : Axis → Type 0) → P X → P Y → P Z → (a : Axis) → P a
by_axis P x y z X = x
by_axis P x y z Y = y
by_axis P x y z Z = z

-- what `Good` says of the ends on one axis
record Ends (l h : ℤ) : Type 0 where
  pub spans : l <ℤ h
  pub least : negsuc 1048575 ≤ℤ l
  pub most : h ≤ℤ pos 1048576

ends : {b : Box} → Good b → (a : Axis) → Ends (low a b) (high a b)
ends g a = record { spans = g.spans a; least = g.least a; most = g.most a }

good : {b : Box} → Ends (low X b) (high X b) → Ends (low Y b) (high Y b) → Ends (low Z b) (high Z b) → Good b
good {b} x y z =
    let e = by_axis (λ a. Ends (low a b) (high a b)) x y z in
    record { spans = λ a. (e a).spans; least = λ a. (e a).least; most = λ a. (e a).most }

module _ {l h : ℤ} (e : Ends l h) (t : 2 ≤ nat_abs (h -ℤ l)) where
  lower_ends : Ends l (l +ℤ pos (nat_abs (h -ℤ l) / 2))
  lower_ends = record { spans = middle_above l h e.spans t; least = e.least; most = omega (zarith, middle_below l h e.spans) }

  upper_ends : Ends (l +ℤ pos (nat_abs (h -ℤ l) / 2)) h
  upper_ends = record { spans = middle_below l h e.spans; least = omega (zarith, middle_least l h e.spans); most = e.most }

pub good_lower : (a : Axis) (b : Box) → Good b → 2 ≤ span a b → Good (lower a b)
unfolding lower
good_lower X b g t = good (lower_ends (ends g X) t) (ends g Y) (ends g Z)
good_lower Y b g t = good (ends g X) (lower_ends (ends g Y) t) (ends g Z)
good_lower Z b g t = good (ends g X) (ends g Y) (lower_ends (ends g Z) t)

pub good_upper : (a : Axis) (b : Box) → Good b → 2 ≤ span a b → Good (upper a b)
unfolding upper
good_upper X b g t = good (upper_ends (ends g X) t) (ends g Y) (ends g Z)
good_upper Y b g t = good (ends g X) (upper_ends (ends g Y) t) (ends g Z)
good_upper Z b g t = good (ends g X) (ends g Y) (upper_ends (ends g Z) t)
