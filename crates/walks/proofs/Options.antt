-- An option is of one kind.
-- Assumes nothing.
use Rattle.std.proofs.Common.{◌≡◌, Some, None, Option, sym, ap, ◌∙◌, subst}

abbrev part : {A : Type 0} → A → Option A → A
part d None = d
part d (Some x) = x

abbrev Bare : {A : Type 0} → Option A → Type 0
Bare None = Unit {0}
Bare (Some x) = ⊥

pub some_same : {A : Type 0} {x y : A} → Some x ≡ Some y → x ≡ y
some_same {A} {x} {y} p = ap (part x) p

pub some_only : {A : Type 0} {o : Option A} {x y : A} → o ≡ Some x → o ≡ Some y → x ≡ y
some_only p q = some_same (sym p ∙ q)

pub none_not_some : {A : Type 0} {o : Option A} {x : A} → o ≡ None → o ≡ Some x → ⊥
none_not_some p q = subst Bare (sym p ∙ q) tt
