-- Alike questions over equal drawings with the same edges shut have the same outcome; what a search over the first labels answers.
use Rattle.std.proofs.Common.{◌≡◌, ℕ, ◌≤◌, not, List, ◌++◌, length, take, drop, Some, None, Option, Ok, Err, Result, arith, sym, refl, ap, ◌∙◌, subst, subst₂}
use Rattle.std.proofs.lemmas.List.{length-take-le, take_at}
use Rattle.std.proofs.lemmas.Grind.{common_steps}
use Rattle.std.proofs.lemmas.Bool.Decides.{nat_tests}
use Rattle.cost.specs.declared.kind.CostKind.{Ghosts as Kind}
use Rattle.plan.specs.Plans.{edge_at, steps}
use Rattle.plan.specs.Studies.{Study}
use Rattle.walks.specs.Networks.{Alike as Matched, Network}
use Rattle.walks.proofs.Alike.{alike_agree, alike_sym, leads_alike}
use Rattle.walks.proofs.Routes.{simplest_unique}
use Rattle.search.specs.Histories.{Agrees, Alike, Always, SameOutcome}
use Rattle.search.specs.Questions.{AllLabelled, Answers, AnswersBy, HasAnswer, Outcome, Question, Searched, checked, fault_by, ground_at, plan_at, question_fault}
use Rattle.search.specs.declared.answer.Answer.{Answer}
use Rattle.search.specs.declared.fault.QuestionFault.{QuestionFault}
use Rattle.search.specs.declared.label.Label.{Label}

same_plan : {S : Type 0} (s : Study) (q : Question) (σ : S) (s₂ : Study) (q₂ : Question) (σ₂ : S) → Alike s q σ s₂ q₂ σ₂ → plan_at s₂ ≡ plan_at s
same_plan s q σ s₂ q₂ σ₂ a = λ i. record { limits = a.limits i; edges = a.edges i }

-- the two networks agree on everything that a walk can meet
matched : {S : Type 0} (s : Study) (q : Question) (σ : S) (s₂ : Study) (q₂ : Question) (σ₂ : S) → Alike s q σ s₂ q₂ σ₂ → Matched (ground_at s q) (ground_at s₂ q₂)
matched s q σ s₂ q₂ σ₂ a =
    let p = sym (same_plan s q σ s₂ q₂ σ₂ a) in
    record {
      edges = ap length (sym a.edges);
      unshut = λ e l. ap not (sym (a.closed e l));
      joined = λ e f _ _. ap (λ x. steps x e f) p;
      long = λ e _. ap (λ x. (edge_at x e).length) p;
      places = sym a.places;
      charge = λ e f _ _ _. ap (λ x. q.charge x e f) p ∙ sym (a.charge (plan_at s₂) e f);
      amount = λ c l. sym (a.amount c l);
    }

module _ {C : Type 0} (K : Kind C) (σ σ₂ : K.Settings) (g g₂ : Network) (m : Matched g g₂) (settings : σ₂ ≡ σ) (a z : ℕ) where
  front : (w route route' : List ℕ) (n : ℕ) → n ≡ length w → route' ≡ w ++ drop (length w) route → take n route' ≡ w
  front w route route' n e h = ap (λ k. take k route') e ∙ ap (take (length w)) h ∙ take_at w (drop (length w) route) (length w) refl

  same_outcome : (route route' route₂ route₂' : List ℕ) (r r₂ : Result (Answer C) QuestionFault) → Outcome K σ g a z route route' r → Outcome K σ₂ g₂ a z route₂ route₂' r₂ → SameOutcome K r r₂ route' route₂'
  same_outcome route route' route₂ route₂' (Ok r) (Ok r₂) o o₂ =
      let v : List ℕ = o.0 in
      let u = alike_agree g g₂ m a z v o.1 in
      let e : o₂.0 ≡ v = simplest_unique g₂ a z o₂.0 v o₂.1 u.0 in
      let h : HasAnswer K σ₂ g₂ v r₂ = subst (λ w. HasAnswer K σ₂ g₂ w r₂) e o₂.2 in
      record {
        settings = h.kept ∙ settings ∙ sym o.2.kept;
        additions = h.added ∙ sym o.2.added;
        row = h.row ∙ sym u.1 ∙ sym o.2.row;
        edges = h.edges ∙ sym o.2.edges;
        charge = h.charge ∙ sym u.2 ∙ sym o.2.charge;
        long = h.long ∙ sym u.3 ∙ sym o.2.long;
        walk = front o₂.0 route₂ route₂' r₂.edges o₂.2.edges o₂.3 ∙ e ∙ sym (front v route route' r.edges o.2.edges o.3);
      }
  same_outcome route route' route₂ route₂' (Ok r) (Err f₂) o o₂ = o₂.0 o.0 (leads_alike g g₂ m a z o.0 o.1.leads)
  same_outcome route route' route₂ route₂' (Err f) (Ok r₂) o o₂ = o.0 o₂.0 (leads_alike g₂ g (alike_sym g g₂ m) a z o₂.0 o₂.1.leads)
  same_outcome route route' route₂ route₂' (Err f) (Err f₂) o o₂ = o₂.1 ∙ sym o.1

pub agrees : {C : Type 0} (K : Kind C) (σ : K.Settings) (s : Study) (q : Question) (labels labels' : List (Label C)) (route route' : List ℕ) (r : Result (Answer C) QuestionFault) → Answers K σ s q labels labels' route route' r → Agrees K σ s q route' r
agrees K σ s q labels labels' route route' r answered s₂ q₂ σ₂ labels₂ labels₂' route₂ route₂' r₂ answered₂ none none₂ alike =
    let o : Searched K σ s q labels labels' route route' r = subst (λ o. AnswersBy o K σ s q labels labels' route route' r) none answered in
    let o₂ : Searched K σ₂ s₂ q₂ labels₂ labels₂' route₂ route₂' r₂ = subst (λ o. AnswersBy o K σ₂ s₂ q₂ labels₂ labels₂' route₂ route₂' r₂) none₂ answered₂ in
    let t = subst₂ (λ a z. Outcome K σ₂ (ground_at s₂ q₂) a z route₂ route₂' r₂) alike.first alike.last o₂.outcome in
    same_outcome K σ σ₂ (ground_at s q) (ground_at s₂ q₂) (matched s q σ s₂ q₂ σ₂ alike) alike.settings q.first q.last route route' route₂ route₂' r r₂ o.outcome t

pub always : {C : Type 0} (K : Kind C) (σ : K.Settings) (s : Study) (q : Question) (labels labels' : List (Label C)) (route route' : List ℕ) (r : Result (Answer C) QuestionFault) → Answers K σ s q labels labels' route route' r → Always K σ s q labels labels' route route' r
always K σ s q labels labels' route route' r answered l rows size h e = subst (λ t. Answers K σ t q labels labels' route route' r) (sym e) answered

-- what a search over the first labels answers
no_fault : (o : Option QuestionFault) → checked o ≡ Ok tt → o ≡ None
no_fault None h = refl
no_fault (Some f) h = cc

fits : (drawn first last sheet labels queue route : ℕ) → fault_by drawn first last sheet labels queue route ≡ None → drawn ≤ labels
fits drawn first last sheet labels queue route h = grind (arith, nat_tests)

pub searched : {C : Type 0} (K : Kind C) (σ : K.Settings) (s : Study) (q : Question) (labels ls : List (Label C)) (route route' : List ℕ) (r : Result (Answer C) QuestionFault)
    → checked (question_fault s q) ≡ Ok tt → q.labels ≡ length labels → length ls ≡ length (take (length s.edges) labels)
    → Outcome K σ (ground_at s q) q.first q.last route route' r → AllLabelled K σ (ground_at s q) q.first ls → Answers K σ s q labels (ls ++ drop (length s.edges) labels) route route' r
searched K σ s q labels ls route route' r passed count size outcome labelled =
    let none = no_fault (question_fault s q) passed in
    let n : length ls ≡ length s.edges = size ∙ length-take-le (length s.edges) labels (omega (arith, fits (length s.edges) q.first q.last (length s.sheet) q.labels q.queue q.route none, count)) in
    subst (λ o. AnswersBy o K σ s q labels (ls ++ drop (length s.edges) labels) route route' r) (sym none) (record {
      outcome = outcome;
      labelled = subst (AllLabelled K σ (ground_at s q) q.first) (sym (take_at ls (drop (length s.edges) labels) (length s.edges) n)) labelled;
      kept = grind (arith, common_steps);
      size = grind (arith, common_steps);
    })
