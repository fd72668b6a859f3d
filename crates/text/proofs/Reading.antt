-- Lines and their fields: which field of a line is the first wrong one.
use Rattle.std.proofs.Common.{◌≡◌, ℕ, zero, suc, ◌-◌, Bool, true, false, cond, not, eqb, List, [], ◌∷◌, map, length, get_or, drop, replicate, Ok, Err, codes, decimal, Result, sym, refl, ap, ◌∙◌, subst, arith}
use Rattle.std.specs.List.{AllByRecursion}
use Rattle.std.proofs.lemmas.Bool.{both_ways}
use Rattle.plan.specs.declared.change.Change.TheVariants as change
use Rattle.text.specs.Faults.{AtField}
use Rattle.text.specs.Kinds.{NoLine, ReadAs, is_opening, kind_of, shape, word_of}
use Rattle.text.specs.Lines.{Agree, LowestWrong, Sound, Spelled, fields_of, is_sectors, Reads}
use Rattle.text.specs.Numbers.{Number, Numbers, Small}
use Rattle.text.specs.Pieces.{Fields, joined, split}
use Rattle.text.specs.Shapes.{Misses, MissesFrom}
use Rattle.text.specs.declared.fault.TextFault.{TextFault}
use Rattle.text.specs.declared.fault.TextFault.TheVariants.{Field}
use Rattle.text.specs.declared.kind.Kind.{Kind}
use Rattle.text.specs.declared.kind.Kind.TheVariants as kind
use Rattle.text.specs.declared.line.Line.{Line}
use Rattle.text.specs.declared.line.Line.TheVariants as line
use Rattle.text.proofs.Parting.{split_fields}
use Rattle.text.proofs.Shaping.{from_all}

-- the fields fs are just those that Ps asks for
abbrev Fits : List (List ℕ → Type 0) → List (List ℕ) → Type 0
Fits [] [] = Unit {0}
Fits [] (f ∷ fs) = ⊥
Fits (P ∷ Ps) [] = ⊥
Fits (P ∷ Ps) (f ∷ fs) = P f × Fits Ps fs

agree_tail : (k : ℕ) (x y : List ℕ) (xs ys : List (List ℕ)) → Agree (suc k) (x ∷ xs) (y ∷ ys) → Agree k xs ys
agree_tail k x y xs ys a = (omega arith, omega arith, ap (drop 1) a.2)

agree_head : (k : ℕ) (x y : List ℕ) (xs ys : List (List ℕ)) → Agree (suc k) (x ∷ xs) (y ∷ ys) → x ≡ y
agree_head k x y xs ys a = ap (λ (zs : List (List ℕ)). get_or zs 0 []) a.2

agree_cons : (k : ℕ) (x : List ℕ) (xs ys : List (List ℕ)) → Agree k xs ys → Agree (suc k) (x ∷ xs) (x ∷ ys)
agree_cons k x xs ys a = (omega arith, omega arith, ap (λ zs. x ∷ zs) a.2)

-- fields that fit leave those that miss at the first wrong one
misses_here : (Ps : List (List ℕ → Type 0)) (fs gs : List (List ℕ)) (k : ℕ) → Misses Ps gs k → Fits Ps fs → Agree (suc k) fs gs → ⊥
misses_here [] [] gs k m t a = omega arith
misses_here [] (f ∷ fs) gs k m t a = t
misses_here (P ∷ Ps) [] gs k m t a = t
misses_here (P ∷ Ps) (f ∷ fs) [] k m t a = omega arith
misses_here (P ∷ Ps) (f ∷ fs) (g ∷ gs) zero m t a = m (subst P (agree_head 0 f g fs gs a) t.0)
misses_here (P ∷ Ps) (f ∷ fs) (g ∷ gs) (suc k) m t a = misses_here Ps fs gs k m.1 t.1 (agree_tail (suc k) f g fs gs a)

misses_whole : (Ps : List (List ℕ → Type 0)) (gs : List (List ℕ)) (k : ℕ) → Misses Ps gs k → Fits Ps gs → ⊥
misses_whole [] [] k m t = m
misses_whole [] (g ∷ gs) k m t = t
misses_whole (P ∷ Ps) [] k m t = t
misses_whole (P ∷ Ps) (g ∷ gs) zero m t = m t.0
misses_whole (P ∷ Ps) (g ∷ gs) (suc k) m t = misses_whole Ps gs k m.1 t.1

-- and some agree with them up to it
misses_front : (Ps : List (List ℕ → Type 0)) (ss gs : List (List ℕ)) (k : ℕ) → Fits Ps ss → Misses Ps gs k → (fs : List (List ℕ)) × Fits Ps fs × Agree k fs gs
misses_front [] ss [] k t m = absurd m
misses_front [] ss (g ∷ gs) k t m = (ss, t, rw m (omega arith, omega arith, refl))
misses_front (P ∷ Ps) ss gs zero t m = (ss, t, (omega arith, omega arith, refl))
misses_front (P ∷ Ps) ss [] (suc k) t m = absurd m
misses_front (P ∷ Ps) [] (g ∷ gs) (suc k) t m = absurd t
misses_front (P ∷ Ps) (s ∷ ss) (g ∷ gs) (suc k) t m =
    let h = misses_front Ps ss gs k t.1 m.1 in
    (g ∷ h.0, (m.0, h.1), agree_cons k g h.0 gs h.2)

-- the fields behind a line's word
behind : Line → List (List ℕ)
behind l = drop 1 (fields_of l)

fields_parts : (l : Line) → fields_of l ≡ word_of (kind_of l) ∷ behind l
unfolding behind
fields_parts (line.Sectors s b h) = refl
fields_parts (line.Change (change.Draw e)) = refl
fields_parts (line.Change (change.Close edge)) = refl
fields_parts (line.Change (change.Open edge)) = refl
fields_parts (line.Change (change.Measure edge size)) = refl

spelled_fits : (l : Line) → Spelled l → Fits (shape (kind_of l)) (behind l)
unfolding behind
spelled_fits (line.Sectors s b h) t = ((s, (t.0, refl)), ((b, (t.1, refl)), ((h, (t.2, refl)), tt)))
spelled_fits (line.Change (change.Draw e)) t =
    ((e.start, (t.0, refl)), ((e.end, (t.1, refl)), ((e.length, (t.2, refl)), ((e.leaving, (t.3, refl)), ((e.arriving, (t.4, refl)), tt)))))
spelled_fits (line.Change (change.Close edge)) t = ((edge, (t, refl)), tt)
spelled_fits (line.Change (change.Open edge)) t = ((edge, (t, refl)), tt)
spelled_fits (line.Change (change.Measure edge size)) t = ((edge, (t.0, refl)), ((size, (t.1, refl)), tt))

opening_line : (l : Line) → is_opening (kind_of l) ≡ is_sectors l
opening_line (line.Sectors s b h) = refl
opening_line (line.Change (change.Draw e)) = refl
opening_line (line.Change (change.Close edge)) = refl
opening_line (line.Change (change.Open edge)) = refl
opening_line (line.Change (change.Measure edge size)) = refl

-- the first letter tells the word
kind_by : ℕ → Kind
kind_by c = cond (eqb c 115) kind.Sectors (cond (eqb c 101) kind.Edge (cond (eqb c 99) kind.Close (cond (eqb c 111) kind.Open kind.Measure)))

kind_back : (κ : Kind) → kind_by (get_or (word_of κ) 0 0) ≡ κ
unfolding kind_by
kind_back kind.Sectors = refl
kind_back kind.Edge = refl
kind_back kind.Close = refl
kind_back kind.Open = refl
kind_back kind.Measure = refl

pub same_kind : (κ ι : Kind) → word_of κ ≡ word_of ι → κ ≡ ι
same_kind κ ι e = sym (kind_back κ) ∙ (ap (λ (w : List ℕ). kind_by (get_or w 0 0)) e ∙ kind_back ι)

-- fields that fit are numbers
fits_read : (n : ℕ) (gs : List (List ℕ)) → Fits (replicate n Number) gs → (ns : List ℕ) × (length ns ≡ n) × AllByRecursion Small ns × (gs ≡ map decimal ns)
fits_read zero [] t = ([], refl, tt, refl)
fits_read zero (g ∷ gs) t = absurd t
fits_read (suc n) [] t = absurd t
fits_read (suc n) (g ∷ gs) t =
    let h = fits_read n gs t.1 in
    (t.0.0 ∷ h.0, ap suc h.1, (t.0.1.0, h.2), ap (λ x. x ∷ gs) t.0.1.1 ∙ ap (λ x. decimal t.0.0 ∷ x) h.3)

fits_numbers : (n : ℕ) (gs : List (List ℕ)) → Fits (replicate n Number) gs → (ns : List ℕ) × Numbers n gs ns
fits_numbers n gs t =
    let h = fits_read n gs t in
    let e = from_all n h.0 h.1 in
    (h.0, (h.3 ∙ ap (map decimal) (sym e), rw e h.2))

fits_line : (κ : Kind) (gs : List (List ℕ)) → Fits (shape κ) gs → (l : Line) × Spelled l × (kind_of l ≡ κ) × (fields_of l ≡ word_of κ ∷ gs)
fits_line kind.Sectors gs t =
    let (ns, (e, s)) = fits_numbers 3 gs t in
    (line.Sectors (get_or ns 0 0) (get_or ns 1 0) (get_or ns 2 0), (s.0, s.1.0, s.1.1.0), refl, ap (λ x. codes "sectors" ∷ x) (sym e))
fits_line kind.Edge gs t =
    let (ns, (e, s)) = fits_numbers 5 gs t in
    (line.Change (change.Draw (record { start = get_or ns 0 0; end = get_or ns 1 0; length = get_or ns 2 0; leaving = get_or ns 3 0; arriving = get_or ns 4 0 })), (s.0, s.1.0, s.1.1.0, s.1.1.1.0, s.1.1.1.1.0), refl, ap (λ x. codes "edge" ∷ x) (sym e))
fits_line kind.Close gs t =
    let (ns, (e, s)) = fits_numbers 1 gs t in
    (line.Change (change.Close (get_or ns 0 0)), s.0, refl, ap (λ x. codes "close" ∷ x) (sym e))
fits_line kind.Open gs t =
    let (ns, (e, s)) = fits_numbers 1 gs t in
    (line.Change (change.Open (get_or ns 0 0)), s.0, refl, ap (λ x. codes "open" ∷ x) (sym e))
fits_line kind.Measure gs t =
    let (ns, (e, s)) = fits_numbers 2 gs t in
    (line.Change (change.Measure (get_or ns 0 0) (get_or ns 1 0)), (s.0, s.1.0), refl, ap (λ x. codes "measure" ∷ x) (sym e))

-- some fields that fit
zeros : (n : ℕ) → Fits (replicate n Number) (replicate n (decimal 0))
zeros zero = tt
zeros (suc n) = ((0, (omega arith, refl)), zeros n)

sample : (κ : Kind) → (fs : List (List ℕ)) × Fits (shape κ) fs
sample kind.Sectors = (replicate 3 (decimal 0), zeros 3)
sample kind.Edge = (replicate 5 (decimal 0), zeros 5)
sample kind.Close = (replicate 1 (decimal 0), zeros 1)
sample kind.Open = (replicate 1 (decimal 0), zeros 1)
sample kind.Measure = (replicate 2 (decimal 0), zeros 2)

-- there is always a line that may come
some_line : (started : Bool) → (l : Line) × Sound started l
some_line true = (line.Change (change.Close 0), (omega arith, refl))
some_line false = (line.Sectors 0 0 0, ((omega arith, omega arith, omega arith), refl))

module _ (started : Bool) where
  sound_parts : (l : Line) → Sound started l → (is_opening (kind_of l) ≡ not started) × Fits (shape (kind_of l)) (behind l)
  sound_parts l s = (opening_line l ∙ s.1, spelled_fits l s.0)

  sound_line : (κ : Kind) (gs : List (List ℕ)) → is_opening κ ≡ not started → Fits (shape κ) gs → (l : Line) × Sound started l × (fields_of l ≡ word_of κ ∷ gs)
  sound_line κ gs may t =
      let (l, s, e, d) = fits_line κ gs t in
      (l, (s, sym (opening_line l) ∙ (ap is_opening e ∙ may)), d)

  line_agrees : (k : ℕ) (l : Line) (fs : List (List ℕ)) → Agree k (fields_of l) fs → Agree k (word_of (kind_of l) ∷ behind l) fs
  line_agrees k l fs a = subst (λ (xs : List (List ℕ)). Agree k xs fs) (fields_parts l) a

  -- a word that no line may have now is the lowest wrong field
  pub wrong_word : (w : List ℕ) (gs : List (List ℕ)) → ((κ : Kind) → is_opening κ ≡ not started → w ≡ word_of κ → ⊥) → LowestWrong started (w ∷ gs) 1
  wrong_word w gs none =
      let some = some_line started in
      let begins : (l : Line) → Sound started l → word_of (kind_of l) ≡ w → ⊥ = λ l s e. none (kind_of l) (sound_parts l s).0 (sym e) in
      record {
        place = omega arith;
        before = (some.0, some.1, (omega arith, omega arith, refl));
        here = λ l s a. begins l s (agree_head 0 (word_of (kind_of l)) w (behind l) gs (line_agrees 1 l (w ∷ gs) a));
        whole = λ l s e. begins l s (ap (λ (xs : List (List ℕ)). get_or xs 0 []) (sym (fields_parts l) ∙ e));
      }

  -- behind a word that may come, it is the first that the shape does not ask for
  pub wrong_behind : (κ : Kind) (gs : List (List ℕ)) (k : ℕ) → is_opening κ ≡ not started → MissesFrom 2 (shape κ) gs k → LowestWrong started (word_of κ ∷ gs) k
  wrong_behind κ gs k may (j, e, m) =
      let (ss, t) = sample κ in
      let (fs, u, a) = misses_front (shape κ) ss gs j t m in
      let (l, s, d) = sound_line κ fs may u in
      let last : k - 1 ≡ suc j = omega arith in
      let next : k ≡ suc (suc j) = omega arith in
      record {
        place = omega arith;
        before = (l, s, rw (last, d) (agree_cons j (word_of κ) fs gs a));
        here = λ x y b. misses_here (shape κ) (behind x) gs j m (fits x y (agree_head (suc j) (word_of (kind_of x)) (word_of κ) (behind x) gs (rw next at (line_agrees k x (word_of κ ∷ gs) b)))) (agree_tail (suc j) (word_of (kind_of x)) (word_of κ) (behind x) gs (rw next at (line_agrees k x (word_of κ ∷ gs) b)));
        whole = λ x y b.
            let parts : word_of (kind_of x) ∷ behind x ≡ word_of κ ∷ gs = sym (fields_parts x) ∙ b in
            misses_whole (shape κ) gs j m (subst (Fits (shape κ)) (ap (drop 1) parts) (fits x y (ap (λ (xs : List (List ℕ)). get_or xs 0 []) parts)));
      }
    where
      fits : (x : Line) → Sound started x → word_of (kind_of x) ≡ word_of κ → Fits (shape κ) (behind x)
      fits x y same = subst (λ (ι : Kind). Fits (shape ι) (behind x)) (same_kind (kind_of x) κ same) (sound_parts x y).1

never_both : (b : Bool) → b ≡ not b → ⊥
never_both true e = both_ways true e refl
never_both false e = both_ways false refl e

-- the word of a kind that may not come now is the word of no kind that may
pub not_now : (started : Bool) (κ : Kind) (w : List ℕ) → w ≡ word_of κ → is_opening κ ≡ started → (ι : Kind) → is_opening ι ≡ not started → w ≡ word_of ι → ⊥
not_now started κ w e no_more ι may d = never_both started (sym no_more ∙ (ap is_opening (same_kind κ ι (sym e ∙ d)) ∙ may))

-- a line has one field at least
pub no_field : (started : Bool) (fs : List (List ℕ)) → fs ≡ [] → AtField (NoLine started fs) (Field 1)
no_field started fs none = (1, refl, λ bytes e. absurd (omega (arith, (split_fields bytes).some, ap length (e ∙ none))))

pub no_word : (started : Bool) (fs : List (List ℕ)) (w : List ℕ) (gs : List (List ℕ)) → fs ≡ w ∷ gs → ((κ : Kind) → is_opening κ ≡ not started → w ≡ word_of κ → ⊥) → AtField (NoLine started fs) (Field 1)
no_word started fs w gs d none =
    (1, refl, λ bytes e. (w ∷ gs, subst (Fields bytes) (e ∙ d) (split_fields bytes), wrong_word started w gs none))

pub line_read : (κ : Kind) (fs : List (List ℕ)) (r : Result Line TextFault) (started : Bool) (bytes : List ℕ) → split bytes ≡ word_of κ ∷ fs → is_opening κ ≡ not started → ReadAs κ fs r → Reads started bytes r
line_read κ fs (Ok l) started bytes e may h =
    ((split_fields bytes).whole ∙ ap joined (e ∙ sym h.0), (h.1, sym (opening_line l) ∙ (ap is_opening h.2 ∙ may)))
line_read κ fs (Err f) started bytes e may (k, is, h) =
    (k, is, (word_of κ ∷ fs, subst (Fields bytes) e (split_fields bytes), wrong_behind started κ fs k may h))
