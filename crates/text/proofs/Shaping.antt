-- Fields against what a line asks for.
use Rattle.std.proofs.Common.{◌≡◌, ℕ, zero, suc, ◌+◌, ◌-◌, ◌<◌, ◌≤◌, List, [], ◌∷◌, ◌++◌, map, length, get_or, take, drop, replicate, decimal, sym, refl, ap, ◌∙◌, append-nil, arith}
use Rattle.std.specs.List.{AllByRecursion}
use Rattle.std.proofs.lemmas.List.{drop_more, length-take-le, take_all}
use Rattle.text.specs.Faults.{AtField}
use Rattle.text.specs.Numbers.{Number, Numbers, Small, from}
use Rattle.text.specs.Shapes.{Misses, MissesFrom, Unlike}
use Rattle.text.specs.declared.fault.TextFault.TheVariants.{Field}

-- numbers in front of the first wrong field
pub misses_more : (ns : List ℕ) (N m K k : ℕ) (rest : List (List ℕ)) → N ≡ length ns + m → K ≡ length ns + k → AllByRecursion Small ns → Misses (replicate m Number) rest k → Misses (replicate N Number) (map decimal ns ++ rest) K
misses_more [] N m K k rest e d all h =
    let same : N ≡ m = omega arith in
    let here : K ≡ k = omega arith in
    rw (same, here) h
misses_more (n ∷ ns) zero m K k rest e d all h = absurd (omega arith)
misses_more (n ∷ ns) (suc N) m zero k rest e d all h = absurd (omega arith)
misses_more (n ∷ ns) (suc N) m (suc K) k rest e d all h =
    ((n, (all.0, refl)), misses_more ns N m K k rest (omega arith) (omega arith) all.1 h)

from_is : (i n : ℕ) (xs : List ℕ) → i + n ≤ length xs → from i n xs ≡ take n (drop i xs)
from_is i zero xs h = refl
from_is i (suc n) xs h =
    let inside : i < length xs = omega arith in
    let next = from_is (suc i) n xs (omega arith) in
    let one : i + 1 ≡ suc i = omega arith in
    rw (drop_more xs i 0 inside, one) (ap (λ ys. get_or xs i 0 ∷ ys) next)

-- the first i of the fields all were read, as the first i numbers of found; the fields left come next
pub record ReadTo (N first : ℕ) (all left : List (List ℕ)) (found : List ℕ) (i place : ℕ) : Type 0 where
  pub here : place ≡ first + i
  pub size : length found ≡ N
  pub front : all ≡ map decimal (take i found) ++ left
  pub small : AllByRecursion Small (take i found)

module _ (N first : ℕ) (all left : List (List ℕ)) (found : List ℕ) (i place : ℕ) (h : ReadTo N first all left found i place) where
  read_size : i ≤ N → length (take i found) ≡ i
  read_size below = length-take-le i found (omega arith)

  -- the field at place is missing or no number
  pub read_miss : i < N → Unlike Number left → AtField (MissesFrom first (replicate N Number) all) (Field place)
  read_miss below wrong =
      let e = read_size (omega arith) in
      (place, refl, (i, h.here, rw h.front (misses_more (take i found) N (suc (N - i - 1)) i 0 left (omega arith) (omega arith) h.small wrong)))

  -- there is a field at place, and it is one too many
  pub read_surplus : i ≡ N → (f : List ℕ) (rest : List (List ℕ)) → left ≡ f ∷ rest → AtField (MissesFrom first (replicate N Number) all) (Field place)
  read_surplus done f rest next =
      let e = read_size (omega arith) in
      (place, refl, (i, h.here, rw (h.front, next) (misses_more (take i found) N 0 i 0 (f ∷ rest) (omega arith) (omega arith) h.small refl)))

  pub read_all : i ≡ N → left ≡ [] → Numbers N all found
  read_all done next =
      let e : take i found ≡ from 0 N found = ap (λ n. take n found) done ∙ sym (from_is 0 N found (omega arith)) in
      (h.front ∙ rw (e, next) (append-nil (map decimal (from 0 N found))), rw (← e) h.small)

pub from_all : (n : ℕ) (xs : List ℕ) → length xs ≡ n → from 0 n xs ≡ xs
from_all n xs e = from_is 0 n xs (omega arith) ∙ take_all n xs (omega arith)
