-- A line is read in one way only, and so a log has one text of replies.
use Rattle.std.proofs.Common.{◌≡◌, ℕ, ◌+◌, ◌-◌, ◌<◌, ◌≤◌, Bool, true, not, ◌&&◌, eqb, ◌⊎◌, List, [], ◌∷◌, ◌++◌, length, get_or, take, decimal, Option, sym, refl, ap, ◌∙◌, subst, inl, inr, arith}
use Rattle.std.specs.Str.Parse.{digits_value}
use Rattle.std.specs.List.{AllByRecursion}
use Rattle.std.proofs.lemmas.Fmt.{decimal_is_IsNumeral}
use Rattle.std.proofs.lemmas.List.{take-take}
use Rattle.std.proofs.lemmas.Bool.{and_parts, cases_order, not-true}
use Rattle.plan.specs.Studies.{Study}
use Rattle.plan.specs.declared.change.Change.TheVariants as change
use Rattle.text.specs.Kinds.{kind_of, word_of}
use Rattle.text.specs.Lines.{Agree, LowestWrong, Misread, Sound, Spelled, fields_of, written}
use Rattle.text.specs.Numbers.{Small}
use Rattle.text.specs.Pieces.{Fields, Lacks, joined, split}
use Rattle.text.specs.Plays.{Answered, Played, answer_to, carried}
use Rattle.text.specs.Faults.{by_text}
use Rattle.text.specs.Replies.{reply_text}
use Rattle.text.specs.declared.kind.Kind.{Kind}
use Rattle.text.specs.declared.kind.Kind.TheVariants as kind
use Rattle.text.specs.declared.line.Line.{Line}
use Rattle.text.specs.declared.line.Line.TheVariants as line
use Rattle.text.specs.declared.reply.Reply.{Reply}
use Rattle.text.specs.declared.reply.Reply.TheVariants.{Refused}
use Rattle.text.proofs.Parting.{lacks_more, pieces_first, pieces_one}
use Rattle.text.proofs.Reading.{same_kind}
use Rattle.text.proofs.Spelling.{number_digits}

-- bytes are split into fields in one way
split-joined : (fs : List (List ℕ)) → 0 < length fs → AllByRecursion (Lacks 9) fs → split (joined fs) ≡ fs
split-joined [] some clean = absurd (omega arith)
split-joined (f ∷ []) some clean = pieces_one 9 f clean.0
split-joined (f ∷ g ∷ fs) some clean =
    pieces_first 9 ([] ∷ []) f (joined (g ∷ fs)) clean.0 ∙ ap (λ xs. f ∷ xs) (split-joined (g ∷ fs) (omega arith) clean.1)

fields_split : (bytes : List ℕ) (fs : List (List ℕ)) → Fields bytes fs → split bytes ≡ fs
fields_split bytes fs h = ap split h.whole ∙ split-joined fs h.some h.clean

fields_same : (bytes : List ℕ) (fs gs : List (List ℕ)) → Fields bytes fs → Fields bytes gs → fs ≡ gs
fields_same bytes fs gs h k = sym (fields_split bytes fs h) ∙ fields_split bytes gs k

-- the fields of a line
lacks_decimal : (n : ℕ) → Small n → Lacks 9 (decimal n)
lacks_decimal n small k below tab = let d = number_digits (decimal n) (n, (small, refl)) k below in absurd (omega (arith, d))

tabless : List ℕ → Bool
tabless [] = true
tabless (b ∷ bs) = not (eqb b 9) && tabless bs

lacks_tabless : (bs : List ℕ) → tabless bs ≡ true → Lacks 9 bs
unfolding tabless
lacks_tabless [] e = λ k below tab. omega arith
lacks_tabless (b ∷ bs) e = let h = and_parts (not (eqb b 9)) (tabless bs) e in lacks_more 9 b bs (not-true (eqb b 9) h.0) (lacks_tabless bs h.1)

lacks_word : (κ : Kind) → Lacks 9 (word_of κ)
unfolding tabless
lacks_word kind.Sectors = lacks_tabless (word_of kind.Sectors) refl
lacks_word kind.Edge = lacks_tabless (word_of kind.Edge) refl
lacks_word kind.Close = lacks_tabless (word_of kind.Close) refl
lacks_word kind.Open = lacks_tabless (word_of kind.Open) refl
lacks_word kind.Measure = lacks_tabless (word_of kind.Measure) refl

written_fields : (l : Line) → Spelled l → Fields (written l) (fields_of l)
written_fields (line.Sectors s b h) t = record { some = omega arith; clean = (lacks_word kind.Sectors, (lacks_decimal s t.0, (lacks_decimal b t.1, (lacks_decimal h t.2, tt)))); whole = refl }
written_fields (line.Change (change.Draw e)) t = record { some = omega arith; clean = (lacks_word kind.Edge, (lacks_decimal e.start t.0, (lacks_decimal e.end t.1, (lacks_decimal e.length t.2, (lacks_decimal e.leaving t.3, (lacks_decimal e.arriving t.4, tt)))))); whole = refl }
written_fields (line.Change (change.Close edge)) t = record { some = omega arith; clean = (lacks_word kind.Close, (lacks_decimal edge t, tt)); whole = refl }
written_fields (line.Change (change.Open edge)) t = record { some = omega arith; clean = (lacks_word kind.Open, (lacks_decimal edge t, tt)); whole = refl }
written_fields (line.Change (change.Measure edge size)) t = record { some = omega arith; clean = (lacks_word kind.Measure, (lacks_decimal edge t.0, (lacks_decimal size t.1, tt))); whole = refl }

-- a line comes back from its fields
number_at : List (List ℕ) → ℕ → ℕ
number_at fs k = digits_value 10 (get_or fs k [])

built : Kind → List (List ℕ) → Line
built kind.Sectors fs = line.Sectors (number_at fs 1) (number_at fs 2) (number_at fs 3)
built kind.Edge fs = line.Change (change.Draw (record { start = number_at fs 1; end = number_at fs 2; length = number_at fs 3; leaving = number_at fs 4; arriving = number_at fs 5 }))
built kind.Close fs = line.Change (change.Close (number_at fs 1))
built kind.Open fs = line.Change (change.Open (number_at fs 1))
built kind.Measure fs = line.Change (change.Measure (number_at fs 1) (number_at fs 2))

back : (n : ℕ) → Small n → digits_value 10 (decimal n) ≡ n
back n small = (decimal_is_IsNumeral n (omega arith)).1

built_back : (l : Line) → Spelled l → built (kind_of l) (fields_of l) ≡ l
unfolding built number_at
built_back (line.Sectors s b h) t = λ i. line.Sectors (back s t.0 i) (back b t.1 i) (back h t.2 i)
built_back (line.Change (change.Draw e)) t = λ i. line.Change (change.Draw (record { start = back e.start t.0 i; end = back e.end t.1 i; length = back e.length t.2 i; leaving = back e.leaving t.3 i; arriving = back e.arriving t.4 i }))
built_back (line.Change (change.Close edge)) t = λ i. line.Change (change.Close (back edge t i))
built_back (line.Change (change.Open edge)) t = λ i. line.Change (change.Open (back edge t i))
built_back (line.Change (change.Measure edge size)) t = λ i. line.Change (change.Measure (back edge t.0 i) (back size t.1 i))

first_word : (l : Line) → get_or (fields_of l) 0 [] ≡ word_of (kind_of l)
first_word (line.Sectors s b h) = refl
first_word (line.Change (change.Draw e)) = refl
first_word (line.Change (change.Close edge)) = refl
first_word (line.Change (change.Open edge)) = refl
first_word (line.Change (change.Measure edge size)) = refl

line_same : (l k : Line) → Spelled l → Spelled k → fields_of l ≡ fields_of k → l ≡ k
line_same l k s t e =
    let word = sym (first_word l) ∙ ap (λ (fs : List (List ℕ)). get_or fs 0 []) e ∙ first_word k in
    let kind = same_kind (kind_of l) (kind_of k) word in
    sym (built_back l s) ∙ (λ i. built (kind i) (e i)) ∙ built_back k t

-- the lowest wrong field is one
agree_less : (j k : ℕ) (xs ys : List (List ℕ)) → j ≤ k → Agree k xs ys → Agree j xs ys
agree_less j k xs ys less (a, b, e) =
    (omega arith, omega arith, sym (take-take j k xs less) ∙ ap (take j) e ∙ take-take j k ys less)

never_lower : (started : Bool) (fs : List (List ℕ)) (j k : ℕ) → LowestWrong started fs j → LowestWrong started fs k → j < k → ⊥
never_lower started fs j k g h less =
    let (l, sound, agree) = h.before in
    g.here l sound (agree_less j (k - 1) (fields_of l) fs (omega arith) agree)

lowest_same : (started : Bool) (fs : List (List ℕ)) (j k : ℕ) → LowestWrong started fs j → LowestWrong started fs k → j ≡ k
lowest_same started fs j k g h = go (cases_order j k)
  where
    go : (j ≡ k) ⊎ ((j < k) ⊎ (k < j)) → j ≡ k
    go (inl e) = e
    go (inr (inl less)) = absurd (never_lower started fs j k g h less)
    go (inr (inr less)) = absurd (never_lower started fs k j h g less)

misread_same : (started : Bool) (bytes : List ℕ) (j k : ℕ) → Misread started bytes j → Misread started bytes k → j ≡ k
misread_same started bytes j k (fs, g, low) (gs, h, high) =
    lowest_same started gs j k (subst (λ (xs : List (List ℕ)). LowestWrong started xs j) (fields_same bytes fs gs g h) low) high

-- a sound line is no wrong one
never_both_ways : (started : Bool) (bytes : List ℕ) (l : Line) (k : ℕ) → bytes ≡ written l → Sound started l → Misread started bytes k → ⊥
never_both_ways started bytes l k is sound (fs, g, low) =
    low.whole l sound (fields_same bytes (fields_of l) fs (subst (λ (bs : List ℕ). Fields bs (fields_of l)) (sym is) (written_fields l sound.0)) g)

sound_same : (started : Bool) (bytes : List ℕ) (l k : Line) → bytes ≡ written l → bytes ≡ written k → Sound started l → Sound started k → l ≡ k
sound_same started bytes l k e h s t =
    line_same l k s.0 t.0 (fields_same bytes (fields_of l) (fields_of k) (subst (λ (bs : List ℕ). Fields bs (fields_of l)) (sym e) (written_fields l s.0)) (subst (λ (bs : List ℕ). Fields bs (fields_of k)) (sym h) (written_fields k t.0)))

module _ (rows size : ℕ) where
  -- a line has one reply, and one state comes after it
  answered_once : (st : Option Study) (i : ℕ) (bytes : List ℕ) (r s : Reply) (st' st'' : Option Study) → Answered rows size st i bytes r st' → Answered rows size st i bytes s st'' → (r ≡ s) × (st' ≡ st'')
  answered_once st i bytes r s st' st'' (inl g) (inl h) =
      let same = sound_same _ bytes g.line h.line g.text h.text g.sound h.sound in
      (g.answer ∙ ap (λ l. answer_to st l i) same ∙ sym h.answer, g.after ∙ ap (carried rows size st) same ∙ sym h.after)
  answered_once st i bytes r s st' st'' (inl g) (inr h) = absurd (never_both_ways _ bytes g.line h.field g.text g.sound h.wrong)
  answered_once st i bytes r s st' st'' (inr g) (inl h) = absurd (never_both_ways _ bytes h.line g.field h.text h.sound g.wrong)
  answered_once st i bytes r s st' st'' (inr g) (inr h) =
      let same = misread_same _ bytes g.field h.field g.wrong h.wrong in
      (g.answer ∙ ap (λ k. Refused (by_text 12 k) i) same ∙ sym h.answer, g.same ∙ sym h.same)

  pub played_once : (st : Option Study) (i : ℕ) (lines : List (List ℕ)) (out more : List ℕ) (st' st'' : Option Study) → Played rows size st i lines out st' → Played rows size st i lines more st'' → (out ≡ more) × (st' ≡ st'')
  played_once st i [] out more st' st'' g h = (g.0 ∙ sym h.0, g.1 ∙ sym h.1)
  played_once st i (bytes ∷ lines) out more st' st'' g h =
      let once = answered_once st i bytes g.0 h.0 g.1 h.1 g.3 h.3 in
      let rest = played_once h.1 (i + 1) lines g.2 h.2 st' st'' (subst (λ (mid : Option Study). Played rows size mid (i + 1) lines g.2 st') once.1 g.5) h.5 in
      (g.4 ∙ (λ j. reply_text (once.0 j) ++ (10 ∷ rest.0 j)) ∙ sym h.4, rest.1)
