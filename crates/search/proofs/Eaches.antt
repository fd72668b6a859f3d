-- What holds of each element of a list, after one element is written, and where each is what a call returned.
use Rattle.std.proofs.Common.{◌≡◌, ℕ, zero, suc, ◌<◌, ◌⊎◌, List, [], ◌∷◌, length, get_or, set, sym, subst, inl, inr, arith}
use Rattle.std.proofs.lemmas.List.{get_or-set_other, length-set}
use Rattle.std.proofs.lemmas.Grind.{get_or-set_at}
use Rattle.std.proofs.lemmas.Bool.{cases_eq}
use Rattle.std.specs.List.{FoldsTo}
use Rattle.search.specs.Labels.{Each}

pub set_at : {X : Type 0} (P : X → Type 0) (xs : List X) (i : ℕ) (y : X) (k : ℕ) (d : X) → k < length xs → (k ≡ i → P y) → ((k ≡ i → ⊥) → P (get_or xs k d)) → P (get_or (set xs i y) k d)
set_at P xs i y k d l here there = go (cases_eq k i)
  where
    go : (k ≡ i) ⊎ (k ≡ i → ⊥) → P (get_or (set xs i y) k d)
    go (inl e) = subst P (sym (get_or-set_at xs i k y d e (omega (arith, e)))) (here e)
    go (inr e) = subst P (sym (get_or-set_other xs i k y d e)) (there e)

pub each_set : {X : Type 0} (P : X → Type 0) (xs : List X) (i : ℕ) (y : X) → Each P xs → P y → Each P (set xs i y)
each_set P xs i y old new k d h =
    let l : k < length xs = omega (arith, length-set xs i y) in
    set_at P xs i y k d l (λ _. new) (λ _. old k d l)

-- each is the result of a call that changes nothing
pub each_called : {F X : Type 0} (R : F → X → F → Type 0) (P : X → Type 0) (f last : F) → ((x : X) (after : F) → R f x after → P x × (after ≡ f)) → (xs : List X) → FoldsTo R f xs last → Each P xs
each_called R P f last once [] ran k d h = absurd (omega arith)
each_called R P f last once (x ∷ xs) ran zero d h = (once x ran.0 ran.1).0
each_called R P f last once (x ∷ xs) ran (suc k) d h = each_called R P f last once xs (subst (λ y. FoldsTo R y xs last) (once x ran.0 ran.1).1 ran.2) k d (omega arith)
