-- The walk that is written from its end to its beginning.
use Rattle.std.proofs.Common.{◌≡◌, ℕ, ◌+◌, ◌-◌, ◌*◌, ◌<◌, ◌≤◌, List, [], ◌∷◌, ◌++◌, reverse, length, get_or, drop, set, Some, sym, refl, ap, ◌∙◌, subst, mul-le-mul_left, mul-suc, add-one, arith}
use Rattle.std.proofs.lemmas.List.{append_assoc, drop-set, length-set, nil_from_length, reverse-append}
use Rattle.walks.specs.Labels.{Label as Mark, Labelling, Trail}
use Rattle.walks.specs.Networks.{Network, walk_charge, walk_length}
use Rattle.walks.proofs.Back.{back_label, reverse_charge, reverse_long}
use Rattle.walks.proofs.Certificate.{trail_edges, trail_label, trail_on, trail_usable}
use Rattle.walks.proofs.Options.{some_only}
use Rattle.cost.specs.declared.kind.CostKind.{Ghosts as Kind}
use Rattle.rules.specs.declared.rule.TurnRule.{Ghosts as Rule}
use Rattle.plan.specs.Plans.{edge_at, plan_of}
use Rattle.search.specs.Grounds.{drawn_in, net_of}
use Rattle.search.specs.Labels.{label_in, plain}
use Rattle.search.specs.Traces.{Traced}
use Rattle.search.specs.declared.question.Question.{Question as Asking}
use Rattle.search.specs.declared.label.Label.{Label}
use Rattle.search.proofs.Adds.{any_long}
use Rattle.search.proofs.Marks.{label_is}

-- the list after the edges t, the last first, and before them z were written to their places
abbrev pub written : ℕ → List ℕ → List ℕ → List ℕ
written z [] route = set route 0 z
written z (e ∷ t) route = written e t (set route (length (e ∷ t)) z)

abbrev pub charges : Network → ℕ → List ℕ → ℕ
charges g z [] = 0
charges g z (e ∷ t) = g.charge e z + charges g e t

abbrev pub lengths : Network → List ℕ → ℕ
lengths g [] = 0
lengths g (e ∷ t) = g.long e + lengths g t

pub written_is : (z : ℕ) (t route : List ℕ) → length t < length route → written z t route ≡ reverse (z ∷ t) ++ drop (length t + 1) route
written_is z [] [] h = absurd (omega arith)
written_is z [] (x ∷ route) h = refl
written_is z (e ∷ t) route h =
    let n : ℕ = length (e ∷ t) in
    let l : length t < length (set route n z) = omega (arith, length-set route n z) in
    let m : length t + 1 ≡ n = add-one (length t) in
    written_is e t (set route n z) l
    ∙ ap (λ k. reverse (e ∷ t) ++ drop k (set route n z)) m
    ∙ ap (λ r. reverse (e ∷ t) ++ r) (drop-set route n z h)
    ∙ sym (append_assoc (reverse (e ∷ t)) (z ∷ []) (drop (n + 1) route))
    ∙ ap (λ r. r ++ drop (n + 1) route) (sym (reverse-append (z ∷ []) (e ∷ t)))

pub charges_walk : (g : Network) (z : ℕ) (t : List ℕ) → charges g z t ≡ walk_charge g (reverse (z ∷ t))
charges_walk g z [] = refl
charges_walk g z (e ∷ t) = omega (arith, charges_walk g e t, reverse_charge g z e t)

pub lengths_walk : (g : Network) (z : ℕ) (t : List ℕ) → g.long z + lengths g t ≡ walk_length g (reverse (z ∷ t))
lengths_walk g z [] = refl
lengths_walk g z (e ∷ t) = omega (arith, lengths_walk g e t, reverse_long g z e t)

pub charges_bound : (g : Network) (most : ℕ) → ((e f : ℕ) → g.charge e f ≤ most) → (z : ℕ) (t : List ℕ) → charges g z t ≤ most * length t
charges_bound g most h z [] = omega arith
charges_bound g most h z (e ∷ t) = omega (arith, h e z, charges_bound g most h e t, mul-suc most (length t))

pub lengths_bound : (g : Network) (most : ℕ) → ((e : ℕ) → g.long e ≤ most) → (t : List ℕ) → lengths g t ≤ most * length t
lengths_bound g most h [] = omega arith
lengths_bound g most h (e ∷ t) = omega (arith, h e, lengths_bound g most h t, mul-suc most (length t))

-- labels lead back in one way only
pub trail_unique : (g : Network) (L : Labelling) (z : ℕ) (s t : List ℕ) → Trail g L z s → Trail g L z t → s ≡ t
trail_unique g L z [] [] p q = refl
trail_unique g L z [] (e ∷ t) p q = absurd (omega (arith, trail_edges g L z [] _ p q.4, trail_edges g L z (e ∷ t) _ q q.4))
trail_unique g L z (d ∷ s) [] p q = absurd (omega (arith, trail_edges g L z (d ∷ s) _ p p.4, trail_edges g L z [] _ q p.4))
trail_unique g L z (d ∷ s) (e ∷ t) p q =
    let m : d ≡ e = ap (λ (x : Mark). x.previous) (some_only p.4 q.4) in
    let r = trail_unique g L e s t (subst (λ j. Trail g L j s) m p.5) q.5 in
    ap (λ j. j ∷ s) m ∙ ap (λ l. e ∷ l) r

-- what stays true while a walk is written: the edges `rest` before the edge `at` are still to come
pub record Tracing (g : Network) (L : Labelling) (last : ℕ) (before : List ℕ) (at place : ℕ) (route : List ℕ) (charge long : ℕ) : Type 0 where
  pub whole : List ℕ
  pub rest : List ℕ
  pub from : Trail g L last whole
  pub here : Trail g L at rest
  pub left : length rest ≡ place
  pub within : place ≤ length whole
  pub room : length whole < length before
  pub short : length whole < 1024
  pub places : written at rest route ≡ written last whole before
  pub sum : charge + charges g at rest ≡ charges g last whole
  pub total : long + lengths g rest ≡ g.long last + lengths g whole

pub tracing_start : (g : Network) (L : Labelling) (last : ℕ) (before t : List ℕ) (x : Mark) (place : ℕ) → Trail g L last t → length t < length before → length t < 1024 → L last ≡ Some x → place ≡ x.edges - 1 → Tracing g L last before last place before 0 (g.long last)
tracing_start g L last before t x place h room short p q =
    let e = trail_edges g L last t x h p in
    record {
      whole = t;
      rest = t;
      from = h;
      here = h;
      left = omega (arith, e, q);
      within = omega (arith, e, q);
      room = room;
      short = short;
      places = refl;
      sum = omega arith;
      total = refl;
    }

module _ (g : Network) (L : Labelling) (last : ℕ) (before : List ℕ) (at place : ℕ) (route : List ℕ) (charge long : ℕ) (i : Tracing g L last before at place route charge long) where
  -- one edge more is written
  pub tracing_more : (x : Mark) → 0 < place → L at ≡ Some x → Tracing g L last before x.previous (place - 1) (set route place at) (charge + g.charge x.previous at) (long + g.long x.previous)
  tracing_more x some p =
      let e = trail_edges g L at i.rest x i.here p in
      let on = trail_on g L at i.rest x i.here p (omega (arith, e, i.left)) in
      let r : List ℕ = on.0 in
      let n : length (x.previous ∷ r) ≡ place = sym (ap length on.1) ∙ i.left in
      let c : charges g at i.rest ≡ g.charge x.previous at + charges g x.previous r = ap (charges g at) on.1 in
      let l : lengths g i.rest ≡ g.long x.previous + lengths g r = ap (lengths g) on.1 in
      record {
        whole = i.whole;
        rest = r;
        from = i.from;
        here = on.3;
        left = omega (arith, n);
        within = omega (arith, i.within);
        room = i.room;
        short = i.short;
        places = ap (λ k. written x.previous r (set route k at)) (sym n) ∙ sym (ap (λ s. written at s route) on.1) ∙ i.places;
        sum = omega (arith, i.sum, c);
        total = omega (arith, i.total, l);
      }

  pub tracing_charge : (most : ℕ) → ((e f : ℕ) → g.charge e f ≤ most) → (x : Mark) → 0 < place → L at ≡ Some x → charge + g.charge x.previous at ≤ most * 1024
  tracing_charge most h x some p =
      let j = tracing_more x some p in
      omega (arith, j.sum, charges_bound g most h last i.whole, mul-le-mul_left most i.short)

  pub tracing_long : (most : ℕ) → ((e : ℕ) → g.long e ≤ most) → (x : Mark) → 0 < place → L at ≡ Some x → long + g.long x.previous ≤ most + most * 1024
  tracing_long most h x some p =
      let j = tracing_more x some p in
      omega (arith, j.total, lengths_bound g most h i.whole, h last, mul-le-mul_left most i.short)

  -- all but the first edge is written
  pub tracing_done : place ≤ 0 → (t : List ℕ) → Trail g L last t → Traced g last t before (set route 0 at) charge long
  tracing_done none_left t h =
      let u = trail_unique g L last i.whole t i.from h in
      let z : i.rest ≡ [] = nil_from_length i.rest (omega (arith, i.left)) in
      subst (λ s. Traced g last s before (set route 0 at) charge long) u
      (record {
        route = sym (ap (λ s. written at s route) z) ∙ i.places ∙ written_is last i.whole before i.room;
        charges = omega (arith, i.sum, ap (charges g at) z, charges_walk g last i.whole);
        lengths = omega (arith, i.total, ap (lengths g) z, lengths_walk g last i.whole);
      })

module _ {R C : Type 0} (T : Rule R) (K : Kind C) (q : Asking R C) (ls : List (Label C)) where
  -- a label on the way holds what its trail says
  pub trail_plain : (z : ℕ) (t : List ℕ) (x : Label C) → Trail (net_of T K q) (label_in K ls) z t → z < length ls → x ≡ get_or ls z x → label_in K ls z ≡ Some (plain K x)
  trail_plain z t x h drawn reads =
      let p = trail_label (net_of T K q) (label_in K ls) z t h in
      p ∙ ap Some (label_is K ls z x (back_label (net_of T K q) z t) drawn reads p)

  pub trail_count : (z : ℕ) (t : List ℕ) (x : Label C) → Trail (net_of T K q) (label_in K ls) z t → z < length ls → x ≡ get_or ls z x → x.edges ≡ length t + 1
  trail_count z t x h drawn reads = trail_edges (net_of T K q) (label_in K ls) z t (plain K x) h (trail_plain z t x h drawn reads)

  module _ (last : ℕ) (before : List ℕ) (at place : ℕ) (route : List ℕ) (charge long : ℕ) (i : Tracing (net_of T K q) (label_in K ls) last before at place route charge long) (some : 0 < place) (drawn : at < length ls) (x : Label C) (reads : x ≡ get_or ls at x) where
    marked : label_in K ls at ≡ Some (plain K x)
    marked = trail_plain at i.rest x i.here drawn reads

    pub tracing_again : Tracing (net_of T K q) (label_in K ls) last before x.previous (place - 1) (set route place at) (charge + T.charge q.rule.now (plan_of q.drawing.now) x.previous at) (long + (edge_at (plan_of q.drawing.now) x.previous).length)
    tracing_again = tracing_more (net_of T K q) (label_in K ls) last before at place route charge long i (plain K x) some marked

    pub previous_drawn : x.previous < drawn_in q
    previous_drawn = (trail_usable (net_of T K q) (label_in K ls) x.previous tracing_again.rest tracing_again.here).0

    pub charge_fits : ((e f : ℕ) → T.charge q.rule.now (plan_of q.drawing.now) e f ≤ 1000) → charge + T.charge q.rule.now (plan_of q.drawing.now) x.previous at ≤ 1024000
    charge_fits small = tracing_charge (net_of T K q) (label_in K ls) last before at place route charge long i 1000 small (plain K x) some marked

    pub long_fits : long + (edge_at (plan_of q.drawing.now) x.previous).length ≤ 102500000
    long_fits = tracing_long (net_of T K q) (label_in K ls) last before at place route charge long i 100000 (any_long q.drawing.now) (plain K x) some marked
