-- How the cases of a list that are still to come go on from those behind. Assumes nothing.
use Rattle.std.proofs.Common.{◌≡◌, ℕ, ◌+◌, Bool, true, false, List, [], ◌∷◌, None, Some, Ok, Err, refl, sym, subst, arith}
use Rattle.std.specs.List.{FoldsTo}
use Rattle.std.specs.Fn.{CalledAtMut}
use denote.Param.Members.{Mut, Called}
use denote.Ref.{MutBor}
use Rattle.std.specs.declared.option.Option.{Option}
use Rattle.std.specs.declared.result.Result.{Result}
use Rattle.lists.specs.declared.reading.Stop.{Stop}
use Rattle.lists.specs.Cases.{answers, differing, places, stop, one_if, Tell, Try, Tried}

-- a call that told a place, by what it returned
pub told_at : {D E : Type 0} (h : Mut D (ℕ × Unit {0}) (Result (Unit {0}) E)) (d : D) (n : ℕ) (r : Result (Unit {0}) E) (d' d'' : D)
    → Called h d (n, tt) r d' → r ≡ Ok tt → d'' ≡ d' → Tell h d n d''
told_at h d n r d' d'' t e same = subst (λ x. Tell h d n x) (sym same) (subst (λ x. Called h d (n, tt) x d') e t)

module _ {F L : Type 0} (g : Mut F (MutBor L × Unit {0}) (Result (Option Bool) Stop × (MutBor L × Unit {0}))) where
  -- a call, by what it returned
  pub called_at : (f : F) (shown : MutBor L) (r r' : Result (Option Bool) Stop) (left : MutBor L) (f' : F)
      → Called g f (shown, tt) (r, (left, tt)) f' → r ≡ r' → CalledAtMut g f shown.now r' f' left.now
  called_at f shown r r' left f' h e = record {
    shown = shown;
    shows = refl;
    left = left;
    called = subst (λ x. Called g f (shown, tt) (x, (left, tt)) f') e h;
    leaves = refl;
  }

  module _ {D E : Type 0} (h : Mut D (ℕ × Unit {0}) (Result (Unit {0}) E)) (from : F) (list : L) (start : D) where
    -- with so many answers seen behind and so many of them differing, tries of what is left are the end of tries of the list
    abbrev pub More : F → L → D → ℕ → ℕ → Type 0
    More f l d seen bad = (xs : List (Option Bool)) (broken : Bool) (last : F × L) (end : D)
        → FoldsTo (Try g) (f, l) xs last → FoldsTo (Tell h) d (places seen xs broken) end → (ys : List (Option Bool))
        × FoldsTo (Try g) (from, list) ys last
        × FoldsTo (Tell h) start (places 0 ys broken) end
        × (answers ys ≡ seen + answers xs)
        × (differing ys ≡ bad + differing xs)

    pub more_of_none : (f f' : F) (l l' : L) (d : D) (seen bad : ℕ) → Try g (f, l) None (f', l') → More f l d seen bad → More f' l' d seen bad
    more_of_none f f' l l' d seen bad t more xs broken last end calls told = more (None ∷ xs) broken last end ((f', l'), t, calls) told

    pub more_of_same : (f f' : F) (l l' : L) (d d' : D) (seen bad seen' bad' : ℕ) → Try g (f, l) (Some true) (f', l') → d' ≡ d → More f l d seen bad
        → seen' ≡ seen + 1 → bad' ≡ bad → More f' l' d' seen' bad'
    more_of_same f f' l l' d d' seen bad seen' bad' t e more s b xs broken last end calls told =
        let here = subst (λ p. FoldsTo (Tell h) p (places seen' xs broken) end) e told in
        let all = more (Some true ∷ xs) broken last end ((f', l'), t, calls) (subst (λ n. FoldsTo (Tell h) d (places n xs broken) end) s here) in
        (all.0, all.1, all.2, omega (arith, all.3, s), omega (arith, all.4, b))

    pub more_of_differs : (f f' : F) (l l' : L) (d d' : D) (seen bad seen' bad' : ℕ) → Try g (f, l) (Some false) (f', l') → Tell h d seen d'
        → More f l d seen bad → seen' ≡ seen + 1 → bad' ≡ bad + 1 → More f' l' d' seen' bad'
    more_of_differs f f' l l' d d' seen bad seen' bad' t e more s b xs broken last end calls told =
        let rest = subst (λ n. FoldsTo (Tell h) d' (places n xs broken) end) s told in
        let all = more (Some false ∷ xs) broken last end ((f', l'), t, calls) (d', e, rest) in
        (all.0, all.1, all.2, omega (arith, all.3, s), omega (arith, all.4, b))

    pub tried : (broken : Bool) (f f' : F) (l l' : L) (d d' : D) (seen bad seen' bad' : ℕ) → CalledAtMut g f l (Err (stop broken)) f' l'
        → FoldsTo (Tell h) d (places seen [] broken) d' → More f l d seen bad
        → seen' ≡ seen + one_if broken → bad' ≡ bad + one_if broken → Tried g h from list start seen' bad'
    tried broken f f' l l' d d' seen bad seen' bad' t told more s b =
        let all = more [] broken (f, l) d' refl told in record {
          cases = all.0;
          at = (f, l);
          calls = all.1;
          broken = broken;
          last = (f', l');
          stopped = t;
          end = d';
          told = all.2;
          all_seen = omega (arith, all.3, s);
          all_bad = omega (arith, all.4, b);
        }
