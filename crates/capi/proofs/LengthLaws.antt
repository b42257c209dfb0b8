-- What lengths that refuse nothing are, and the tie rule of a walk beside them. Assumes nothing.
use mathlib.Core.Path.{◌≡◌, refl, sym, ◌∙◌}
use mathlib.Core.Bool.{Bool, true, false, not}
use Prim.Native.Nat.{ℕ, ◌≤◌}
use borrow.Author.Tests.{ltb-false, eq-eqb, le-ltb}
use lib.Dec.{T, eqb, ltb, eqb→eq}
use Rattle.limits.specs.Refusals.{refused, ◌or_else◌}
use Rattle.limits.proofs.RefusalLaws.{none_first, none_last, kept, neither}
use Rattle.capi.specs.Lent.{lengths, walk_lent}

not_false : (b : Bool) → T (not b) → b ≡ false
not_false true t = absurd t
not_false false t = refl

-- `Sized` and `sized`, and `walk_sized` below, are the law of lengths that refuse nothing: docs/landings name it, and the code's own clause
-- `right` says the same of an answer
pub record Sized (d g w r n : ℕ) : Type 0 where
  pub entries : d ≡ 18
  pub argument : g ≡ w
  pub room : n ≤ r

pub sized : (d g w r n : ℕ) {m : ℕ} → m ≡ lengths d g w r n → m ≡ 0 → Sized d g w r n
unfolding lengths
sized d g w r n e z =
    let first = none_first (not (eqb g w)) 100 (refused (ltb r n) 101 or_else refused (not (eqb d 18)) 1) (sym e ∙ z) in
    let second = none_first (ltb r n) 100 (refused (not (eqb d 18)) 1) first.1 in
    record {
      entries = eqb→eq d 18 (kept (eqb d 18) (none_last (not (eqb d 18)) 0 second.1));
      argument = eqb→eq g w (kept (eqb g w) first.0);
      room = ltb-false r n (not_false (ltb r n) second.0);
    }

-- and back: the right lengths refuse nothing
pub right : {d g w r n : ℕ} → Sized d g w r n → lengths d g w r n ≡ 0
unfolding lengths
right {d} {g} {w} {r} {n} s = rw (eq-eqb d 18 s.entries, eq-eqb g w s.argument, le-ltb r n s.room) refl

-- of a walk, whose rule is then one of the two
pub walk_sized : (d b rule : ℕ) {m : ℕ} → m ≡ walk_lent d b rule → m ≡ 0 → Sized d b 6 0 0
unfolding walk_lent
walk_sized d b rule e z = sized d b 6 0 0 refl (neither (lengths d b 6 0 0) (refused (ltb 1 rule) 1) (sym e ∙ z)).0

pub walk_right : {d b rule : ℕ} → Sized d b 6 0 0 → rule ≤ 1 → walk_lent d b rule ≡ 0
unfolding walk_lent
walk_right {rule} s h = rw (right s, le-ltb 1 rule h) refl
