-- From certified labels to the outcome of a question.
use Rattle.std.proofs.Common.{◌≡◌, ℕ, ◌+◌, ◌<◌, ◌≤◌, ◌⊎◌, List, ◌∷◌, ◌++◌, reverse, length, get_or, drop, Some, None, Ok, sym, ap, ◌∙◌, subst, inl, inr, add-one, arith}
use Rattle.std.proofs.lemmas.List.{get_or_default, length-reverse}
use Rattle.std.proofs.lemmas.Bool.{cases_eq}
use Rattle.cost.specs.declared.kind.CostKind.{Ghosts as Kind}
use Rattle.rules.specs.declared.rule.TurnRule.{Ghosts as Rule}
use Rattle.walks.specs.Labels.{Label as Mark, Right, Trail, label_of}
use Rattle.walks.specs.Networks.{Leads, Network, Simplest}
use Rattle.walks.proofs.Certificate.{certificate, certified_trail}
use Rattle.search.specs.Grounds.{drawn_in, net_of, settings_of}
use Rattle.search.specs.Labels.{Fine, label_in, plain}
use Rattle.search.specs.Questions.{AllLabelled, Labelled, Outcome}
use Rattle.search.specs.Stages.{Explored}
use Rattle.search.specs.Traces.{Traceable, Traced}
use Rattle.search.specs.declared.question.Question.{Question as Asking}
use Rattle.search.specs.declared.label.Label.{Label}
use Rattle.search.proofs.Marks.{label_read, meaning_none, meaning_some}
use Rattle.search.proofs.Steps.{Measured}

module _ {R C : Type 0} (T : Rule R) (K : Kind C) (measured : Measured K) (few : (c : C) → K.additions c ≤ 1024) (q : Asking R C) (ls : List (Label C)) (found : Explored T K q ls) where
  abbrev g : Network
  g = net_of T K q

  abbrev σ : K.Settings
  σ = settings_of K q

  right : Right g q.first (label_in K ls)
  right = certificate g q.first (label_in K ls) (measured σ) found.certified

  read_none : (e : ℕ) (x : Label C) → e < length ls → x ≡ get_or ls e x → x.edges ≡ 0 → label_in K ls e ≡ None
  read_none e x l h z = label_read K ls e x l h ∙ meaning_none K x z

  read_some : (e : ℕ) (x : Label C) → e < length ls → x ≡ get_or ls e x → (x.edges ≡ 0 → ⊥) → label_in K ls e ≡ Some (plain K x)
  read_some e x l h z = label_read K ls e x l h ∙ meaning_some K x (omega (arith, z))

  pub unreached : (e : ℕ) (x : Label C) → e < length ls → x ≡ get_or ls e x → x.edges ≡ 0 → (w : List ℕ) → Leads g q.first e w → ⊥
  unreached e x l h z = right.unlabelled e (read_none e x l h z)

  pub all_labelled : AllLabelled K σ g q.first ls
  all_labelled e d l = go (cases_eq x.edges 0)
    where
      x : Label C
      x = get_or ls e d

      h : x ≡ get_or ls e x
      h = get_or_default ls e d x l

      go : (x.edges ≡ 0) ⊎ (x.edges ≡ 0 → ⊥) → Labelled K σ g q.first e x
      go (inl z) = inr (unreached e x l h z, (found.fine e d l).blank z)
      go (inr z) =
          let r = right.labelled e (plain K x) (read_some e x l h z) in
          let n = ap (λ (m : Mark). m.edges) r.2 in
          inl (
            r.0,
            r.1,
            record {
              kept = (found.fine e d l).kept;
              added = (found.fine e d l).added ∙ n;
              row = ap (λ (m : Mark). m.row) r.2;
              edges = n;
              previous = ap (λ (m : Mark). m.previous) r.2;
            },
          )

  module _ (z : ℕ) (x : Label C) (l : z < length ls) (h : x ≡ get_or ls z x) (some : x.edges ≡ 0 → ⊥) where
    fine_here : Fine K σ x
    fine_here = subst (Fine K σ) (sym h) (found.fine z x l)

    trail : (t : List ℕ) × Trail g (label_in K ls) z t × Simplest g q.first z (reverse (z ∷ t)) × (plain K x ≡ label_of g (reverse (z ∷ t)))
    trail = certified_trail g q.first (label_in K ls) (measured σ) found.certified z (plain K x) (read_some z x l h some)

    count : x.edges ≡ length trail.0 + 1
    count = ap (λ (m : Mark). m.edges) trail.3 ∙ length-reverse (z ∷ trail.0) ∙ sym (add-one (length trail.0))

    pub traceable : (size : ℕ) → drawn_in q ≤ size → Traceable g (label_in K ls) z size
    traceable size long =
        let within = found.short z (plain K x) (read_some z x l h some) in
        (trail.0, trail.1, omega (arith, count, within), omega (arith, count, fine_here.added, few x.cost))

    pub outcome_found : (before after : List ℕ) (charge long : ℕ) → ((t : List ℕ) → Trail g (label_in K ls) z t → Traced g z t before after charge long)
        → Outcome K σ g q.first z before after (Ok (record { cost = x.cost; edges = x.edges; charge = charge; length = long }))
    outcome_found before after charge long traced =
        let w : List ℕ = reverse (z ∷ trail.0) in
        let r = traced trail.0 trail.1 in
        let n : x.edges ≡ length w = ap (λ (m : Mark). m.edges) trail.3 in
        let m : length w ≡ length trail.0 + 1 = sym n ∙ count in (
          w,
          trail.2,
          record {
            kept = fine_here.kept;
            added = fine_here.added ∙ n;
            row = ap (λ (k : Mark). k.row) trail.3;
            edges = n;
            charge = r.charges;
            long = r.lengths;
          },
          r.route ∙ ap (λ k. w ++ drop k before) (sym m),
        )
