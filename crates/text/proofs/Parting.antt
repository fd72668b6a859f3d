-- Bytes that a mark parts.
use Rattle.std.proofs.Common.{◌≡◌, ℕ, zero, suc, ◌+◌, ◌-◌, ◌<◌, ◌≤◌, true, false, eqb, ◌==◌, ◌⊎◌, List, [], ◌∷◌, ◌++◌, length, Some, None, get_or, take, drop, sym, refl, ap, ◌∙◌, inl, inr, arith}
use Rattle.std.specs.List.{AllByRecursion, position, position_or_len}
use Rattle.std.proofs.lemmas.List.{get_or-take, length-append, length-take, take-append-drop, take_rest, drop_more}
use Rattle.std.proofs.lemmas.List.Quantifiers.{position-Some}
use Rattle.std.proofs.lemmas.List.Sums.{fails_before_first}
use Rattle.std.proofs.lemmas.Bool.Decides.{nat_tests}
use Rattle.std.proofs.lemmas.Bool.{cases_Bool, ne_eqb, eq-eqb, eqb-false, eqb-true}
use Rattle.text.specs.Pieces.{Alone, Fields, Lacks, Leads, grown, joined, lines_of, pieces, split}

module _ (m : ℕ) where
  lacks_first : (x : ℕ) (xs : List ℕ) → Lacks m (x ∷ xs) → eqb x m ≡ false
  lacks_first x xs h = ne_eqb x m (h 0 (omega arith))

  lacks_rest : (x : ℕ) (xs : List ℕ) → Lacks m (x ∷ xs) → Lacks m xs
  lacks_rest x xs h k below = h (suc k) (omega arith)

  -- a piece with a mark behind it comes first
  pub pieces_first : (last : List (List ℕ)) (xs rest : List ℕ) → Lacks m xs → pieces m last (xs ++ (m ∷ rest)) ≡ xs ∷ pieces m last rest
  pieces_first last [] rest h = rw (eq-eqb m m refl)
  pieces_first last (x ∷ xs) rest h = rw (lacks_first x xs h, pieces_first last xs rest (lacks_rest x xs h))

  -- without a mark a line's bytes are its one field
  pub pieces_one : (xs : List ℕ) → Lacks m xs → pieces m ([] ∷ []) xs ≡ xs ∷ []
  pieces_one [] h = refl
  pieces_one (x ∷ xs) h = rw (lacks_first x xs h, pieces_one xs (lacks_rest x xs h))

  -- without a mark the bytes that are left of a log, if any, are its last line
  pub pieces_last : (xs : List ℕ) → Lacks m xs → (length xs ≡ 0 → ⊥) → pieces m [] xs ≡ xs ∷ []
  pieces_last [] h some = absurd (some refl)
  pieces_last (x ∷ []) h some = rw (lacks_first x [] h)
  pieces_last (x ∷ y ∷ ys) h some =
      rw (lacks_first x (y ∷ ys) h, pieces_last (y ∷ ys) (lacks_rest x (y ∷ ys) h) (λ e. omega arith))

module _ (m : ℕ) (xs : List ℕ) where
  -- the first mark parts the bytes before it, which have none, from those behind it
  pub cut_leads : (i : ℕ) → Some i ≡ position (λ b. b == m) xs → Leads m xs (take (i - 0) xs) (take (length xs - (i + 1)) (drop (i + 1) xs))
  cut_leads i e =
      let (inside, here, before) = position-Some (λ b. b == m) xs i 0 (sym e) in
      let front : Lacks m (take (i - 0) xs) =
      λ k h is. let below : k < i = omega (arith, length-take (i - 0) xs) in let other = before k below in eqb-false (get_or xs k 0) m other (sym (get_or-take (i - 0) xs k 0 (omega arith)) ∙ is) in
      let behind = take (length xs - (i + 1)) (drop (i + 1) xs) in
      let zero : i - 0 ≡ i = omega arith in
      let whole : xs ≡ take (i - 0) xs ++ (m ∷ behind) =
      rw (zero, take_rest xs (i + 1), ← (eqb-true (get_or xs i 0) m here), ← drop_more xs i 0 inside) (sym (take-append-drop i xs)) in (
        λ last. ap (pieces m last) whole ∙ pieces_first m last (take (i - 0) xs) behind front,
        omega (arith, ap length whole, length-append (take (i - 0) xs) (m ∷ behind)),
      )

  pub cut_alone : None ≡ position (λ b. b == m) xs → Alone m xs xs
  cut_alone e =
      let all : length xs ≤ position_or_len (λ b. b == m) xs = grind (arith, nat_tests) in
      let clean : Lacks m xs =
      λ k h is. let other = fails_before_first (λ b. b == m) xs k 0 (omega arith) in eqb-false (get_or xs k 0) m other is in
      (pieces_one m xs clean, λ some. pieces_last m xs clean (λ e. omega arith))

-- a line's bytes are its fields, joined
joined_mark : (ps : List (List ℕ)) → 0 < length ps → joined ([] ∷ ps) ≡ 9 ∷ joined ps
joined_mark [] h = absurd (omega arith)
joined_mark (p ∷ ps) h = refl

joined_grown : (b : ℕ) (ps : List (List ℕ)) → joined (grown b ps) ≡ b ∷ joined ps
joined_grown b [] = refl
joined_grown b (p ∷ []) = refl
joined_grown b (p ∷ q ∷ ps) = refl

pub lacks_more : (m b : ℕ) (p : List ℕ) → eqb b m ≡ false → Lacks m p → Lacks m (b ∷ p)
lacks_more m b p e h zero below is = eqb-false b m e is
lacks_more m b p e h (suc k) below is = h k (omega arith) is

lacks_grown : (m b : ℕ) (ps : List (List ℕ)) → eqb b m ≡ false → AllByRecursion (Lacks m) ps → AllByRecursion (Lacks m) (grown b ps)
lacks_grown m b [] e h = (lacks_more m b [] e (λ k below. absurd (omega arith)), tt)
lacks_grown m b (p ∷ ps) e h = (lacks_more m b p e h.0, h.1)

grown_some : (b : ℕ) (ps : List (List ℕ)) → 0 < length (grown b ps)
grown_some b [] = omega arith
grown_some b (p ∷ ps) = omega arith

pub split_fields : (bytes : List ℕ) → Fields bytes (split bytes)
split_fields [] = record { some = omega arith; clean = (λ k below. absurd (omega arith), tt); whole = refl }
split_fields (b ∷ bytes) = go (cases_Bool (eqb b 9)) (split_fields bytes)
  where
    go : (eqb b 9 ≡ true) ⊎ (eqb b 9 ≡ false) → Fields bytes (split bytes) → Fields (b ∷ bytes) (split (b ∷ bytes))
    go (inl e) h =
        rw e (record {
          some = omega arith;
          clean = (λ k below. absurd (omega arith), h.clean);
          whole = ap (λ x. x ∷ bytes) (eqb-true b 9 e) ∙ (ap (λ x. 9 ∷ x) h.whole ∙ sym (joined_mark (split bytes) h.some));
        })
    go (inr e) h =
        rw e (record {
          some = grown_some b (split bytes);
          clean = lacks_grown 9 b (split bytes) e h.clean;
          whole = ap (λ x. b ∷ x) h.whole ∙ sym (joined_grown b (split bytes));
        })

-- a log has no more lines than bytes
grown_few : (b : ℕ) (ps : List (List ℕ)) → length (grown b ps) ≤ length ps + 1
grown_few b [] = omega arith
grown_few b (p ∷ ps) = omega arith

pub lines_few : (bytes : List ℕ) → length (lines_of bytes) ≤ length bytes
lines_few [] = omega arith
lines_few (b ∷ bytes) = go (cases_Bool (eqb b 10)) (lines_few bytes)
  where
    go : (eqb b 10 ≡ true) ⊎ (eqb b 10 ≡ false) → length (lines_of bytes) ≤ length bytes → length (lines_of (b ∷ bytes)) ≤ length (b ∷ bytes)
    go (inl e) h = rw e (omega arith)
    go (inr e) h = rw e (omega (arith, grown_few b (lines_of bytes)))
