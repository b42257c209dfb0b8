-- What the cases of a list answer, tried one after the other, and what is counted of them. Definitions only; assumes nothing.
use Rattle.std.specs.Prelude.{◌≡◌, ℕ, ◌+◌, Bool, true, false, List, [], ◌∷◌, None, Some, Ok, Err}
use Rattle.std.specs.List.{FoldsTo}
use Rattle.std.specs.Fn.{CalledAtMut}
use denote.Param.Members.{Mut, Called}
use denote.Ref.{MutBor}
use Rattle.std.specs.declared.option.Option.{Option}
use Rattle.std.specs.declared.result.Result.{Result}
use Rattle.lists.specs.declared.reading.Stop.{Stop}
use Rattle.lists.specs.declared.reading.Stop.TheVariants.{End, Broken}

-- how many cases have an answer
abbrev pub answers : List (Option Bool) → ℕ
answers [] = 0
answers (None ∷ xs) = answers xs
answers (Some _ ∷ xs) = 1 + answers xs

-- and of how many it is not the list's
abbrev pub differing : List (Option Bool) → ℕ
differing [] = 0
differing (None ∷ xs) = differing xs
differing (Some true ∷ xs) = differing xs
differing (Some false ∷ xs) = 1 + differing xs

-- where a list stops, whether it breaks off, and the one answer that then counts as differing
abbrev pub stop : Bool → Stop
stop true = Broken
stop false = End

abbrev pub one_if : Bool → ℕ
one_if true = 1
one_if false = 0

-- the places of the answers that differ, counted from n, the last of them that of the one where the list breaks off
abbrev pub places : ℕ → List (Option Bool) → Bool → List ℕ
places n [] true = n ∷ []
places n [] false = []
places n (None ∷ xs) broken = places n xs broken
places n (Some true ∷ xs) broken = places (n + 1) xs broken
places n (Some false ∷ xs) broken = n ∷ places (n + 1) xs broken

-- a call of `differs` at a place succeeds
abbrev pub Tell : {D E : Type 0} → Mut D (ℕ × Unit {0}) (Result (Unit {0}) E) → D → ℕ → D → Type 0
Tell h p n q = Called h p (n, tt) (Ok tt) q

module _ {F L : Type 0} (g : Mut F (MutBor L × Unit {0}) (Result (Option Bool) Stop × (MutBor L × Unit {0}))) where
  -- a call of `case` on what is left of the list answers of a case
  abbrev pub Try : F × L → Option Bool → F × L → Type 0
  Try p x q = CalledAtMut g p.0 p.1 (Ok x) q.0 q.1

  -- Calls of `case`, each on what the last left of the list, answered of cases until one stopped; `differs` was told the place of each answer
  -- that differs, in order; and so many answers were seen, and so many of them differ.
  pub record Tried {D E : Type 0} (h : Mut D (ℕ × Unit {0}) (Result (Unit {0}) E)) (case : F) (list : L) (differs : D) (seen bad : ℕ) : Type 0 where
    pub cases : List (Option Bool)
    pub at : F × L
    pub calls : FoldsTo Try (case, list) cases at
    pub broken : Bool
    pub last : F × L
    pub stopped : CalledAtMut g at.0 at.1 (Err (stop broken)) last.0 last.1
    pub end : D
    pub told : FoldsTo (Tell h) differs (places 0 cases broken) end
    pub all_seen : seen ≡ answers cases + one_if broken
    pub all_bad : bad ≡ differing cases + one_if broken
