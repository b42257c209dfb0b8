-- The whole numbers as a commutative ring: the laws that the kit's lib.IntN lacks. Assumes nothing.
use mathlib.Core.Path.{◌≡◌, sym, ap, ap₂, ◌∙◌}
use Prim.Native.Nat.{ℕ, zero, suc}
use lib.IntN.{ℤ, pos, negsuc, pred_ℤ, neg_ℤ, ◌+ℤ◌, ◌-ℤ◌, ◌*ℤ◌, suc_ℤ-+ℤ, pred_ℤ-+ℤ, +ℤ_idl, +ℤ_idr, +ℤ_assoc, +ℤ_comm, +ℤ_invr, +ℤ_invl, zero-*ℤ, *ℤ_comm, suc_ℤ-*ℤ, pred_ℤ-*ℤ}

swap_r : (a b c : ℤ) → a +ℤ b +ℤ c ≡ a +ℤ c +ℤ b
swap_r a b c = +ℤ_assoc a b c ∙ ap (λ x. a +ℤ x) (+ℤ_comm b c) ∙ sym (+ℤ_assoc a c b)

pub *ℤ_distr : (m k c : ℤ) → (m +ℤ k) *ℤ c ≡ m *ℤ c +ℤ k *ℤ c
*ℤ_distr (pos zero) k c = ap (λ x. x *ℤ c) (+ℤ_idl k) ∙ sym (ap (λ x. x +ℤ k *ℤ c) (zero-*ℤ c) ∙ +ℤ_idl (k *ℤ c))
*ℤ_distr (pos (suc n)) k c =
    ap (λ x. x *ℤ c) (suc_ℤ-+ℤ (pos n) k) ∙ suc_ℤ-*ℤ (pos n +ℤ k) c ∙ ap (λ x. x +ℤ c) (*ℤ_distr (pos n) k c)
    ∙ swap_r (pos n *ℤ c) (k *ℤ c) c ∙ sym (ap (λ x. x +ℤ k *ℤ c) (suc_ℤ-*ℤ (pos n) c))
*ℤ_distr (negsuc zero) k c =
    ap (λ x. x *ℤ c) (pred_ℤ-+ℤ (pos zero) k ∙ ap pred_ℤ (+ℤ_idl k)) ∙ pred_ℤ-*ℤ k c ∙ +ℤ_comm (k *ℤ c) (neg_ℤ c)
    ∙ sym (ap (λ x. x +ℤ k *ℤ c) (pred_ℤ-*ℤ (pos zero) c ∙ ap (λ x. x +ℤ neg_ℤ c) (zero-*ℤ c) ∙ +ℤ_idl (neg_ℤ c)))
*ℤ_distr (negsuc (suc n)) k c =
    ap (λ x. x *ℤ c) (pred_ℤ-+ℤ (negsuc n) k) ∙ pred_ℤ-*ℤ (negsuc n +ℤ k) c ∙ ap (λ x. x -ℤ c) (*ℤ_distr (negsuc n) k c)
    ∙ swap_r (negsuc n *ℤ c) (k *ℤ c) (neg_ℤ c) ∙ sym (ap (λ x. x +ℤ k *ℤ c) (pred_ℤ-*ℤ (negsuc n) c))

pub *ℤ_distl : (c m k : ℤ) → c *ℤ (m +ℤ k) ≡ c *ℤ m +ℤ c *ℤ k
*ℤ_distl c m k = *ℤ_comm c (m +ℤ k) ∙ *ℤ_distr m k c ∙ ap₂ ◌+ℤ◌ (*ℤ_comm m c) (*ℤ_comm k c)

-- a negation moves out of a product
pub neg_unique : (a b : ℤ) → a +ℤ b ≡ pos 0 → b ≡ neg_ℤ a
neg_unique a b e =
    sym (+ℤ_idl b) ∙ ap (λ x. x +ℤ b) (sym (+ℤ_invl a)) ∙ +ℤ_assoc (neg_ℤ a) a b ∙ ap (λ x. neg_ℤ a +ℤ x) e ∙ +ℤ_idr (neg_ℤ a)

pub neg-*ℤ : (a b : ℤ) → neg_ℤ a *ℤ b ≡ neg_ℤ (a *ℤ b)
neg-*ℤ a b = neg_unique (a *ℤ b) (neg_ℤ a *ℤ b) (sym (*ℤ_distr a (neg_ℤ a) b) ∙ ap (λ x. x *ℤ b) (+ℤ_invr a) ∙ zero-*ℤ b)

pub *ℤ_neg : (a b : ℤ) → a *ℤ neg_ℤ b ≡ neg_ℤ (a *ℤ b)
*ℤ_neg a b = *ℤ_comm a (neg_ℤ b) ∙ neg-*ℤ b a ∙ ap neg_ℤ (*ℤ_comm b a)

assoc_pos : (n : ℕ) (b c : ℤ) → (pos n *ℤ b) *ℤ c ≡ pos n *ℤ (b *ℤ c)
assoc_pos zero b c = ap (λ x. x *ℤ c) (zero-*ℤ b) ∙ zero-*ℤ c ∙ sym (zero-*ℤ (b *ℤ c))
assoc_pos (suc n) b c =
    ap (λ x. x *ℤ c) (suc_ℤ-*ℤ (pos n) b) ∙ *ℤ_distr (pos n *ℤ b) b c ∙ ap (λ x. x +ℤ b *ℤ c) (assoc_pos n b c) ∙ sym (suc_ℤ-*ℤ (pos n) (b *ℤ c))

pub *ℤ_assoc : (a b c : ℤ) → (a *ℤ b) *ℤ c ≡ a *ℤ (b *ℤ c)
*ℤ_assoc (pos n) b c = assoc_pos n b c
*ℤ_assoc (negsuc n) b c =
    ap (λ x. x *ℤ c) (neg-*ℤ (pos (suc n)) b) ∙ neg-*ℤ (pos (suc n) *ℤ b) c ∙ ap neg_ℤ (assoc_pos (suc n) b c) ∙ sym (neg-*ℤ (pos (suc n)) (b *ℤ c))

pub one-*ℤ : (a : ℤ) → pos 1 *ℤ a ≡ a
one-*ℤ a = suc_ℤ-*ℤ (pos 0) a ∙ ap (λ x. x +ℤ a) (zero-*ℤ a) ∙ +ℤ_idl a
