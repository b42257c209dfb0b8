-- The number of a fault is not 0. Assumes nothing.
use mathlib.Core.Path.{◌≡◌, refl, sym, ap, ◌∙◌, subst}
use mathlib.Core.Bool.{false}
use lib.Dec.{T}
use lib.Dec.{eqb}
use Rattle.limits.proofs.RefusalLaws.{number_not}
use Rattle.capi.specs.declared.lengths.Fault.{Fault}
use Rattle.capi.specs.Lent.{fault}

pub fault_not : (f : Fault) → eqb (fault f) 0 ≡ false
fault_not Fault.Length = refl
fault_not (Fault.Refused r) = number_not r

pub fault_none : (f : Fault) → fault f ≡ 0 → ⊥
fault_none f e = subst T (sym (ap (λ n. eqb n 0) e) ∙ fault_not f) tt
