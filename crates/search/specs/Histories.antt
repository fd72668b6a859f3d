-- Histories of calls, and what holds of a question after any of them.
--
-- Glossary
--   Call                a call of a study, as what it brings: a change, or a question
--   next_call s c       the study after the call c: a change moves it as Studies says, refused or not; a question changes nothing
--   after_calls s h     the study after all calls of the history h, the first first
--   Always ..           the law over histories: after every history of calls that leads from the making of a study to this drawing and this sheet, the
--                       question is answered as Answers says of the plain study after that history
--   Alike s q σ s₂ q₂ σ₂  the two questions are alike and asked over equal drawings with the same edges shut: first and last edge, the charges that the rules
--                       mean, the kind of cost by its places and amounts, and the settings agree; so do limits and edges, and whether each drawn edge is shut
--   SameOutcome         two results are the same: the same route and an answer that means the same; or the same refusal
--   Agrees ..           the law of alike questions: whatever another question, alike to this one and refused by neither 8 nor 10, answered in any study, it
--                       answered the same
-- Assumes nothing.
use Rattle.std.specs.Prelude.{◌≡◌, ℕ, ◌<◌, List, [], ◌∷◌, length, take, None, Ok, Err, Result}
use Rattle.cost.specs.declared.kind.CostKind.{Ghosts as Kind}
use Rattle.turns.specs.Sectors.{Limits}
use Rattle.plan.specs.Plans.{Plan}
use Rattle.plan.specs.Studies.{Study, begun, next, shut}
use Rattle.plan.specs.declared.change.Change.{Change}
use Rattle.search.specs.Questions.{Answers, Question, question_fault}
use Rattle.search.specs.declared.answer.Answer.{Answer}
use Rattle.search.specs.declared.fault.QuestionFault.{QuestionFault}
use Rattle.search.specs.declared.label.Label.{Label}

pub data Call : Type 0 where
  changing : Change → Call
  asking : Question → Call

abbrev pub next_call : Study → Call → Study
next_call s (changing c) = next s c
next_call s (asking q) = s

abbrev pub after_calls : Study → List Call → Study
after_calls s [] = s
after_calls s (c ∷ h) = after_calls (next_call s c) h

abbrev pub Always : {C : Type 0} → (K : Kind C) → K.Settings → Study → Question → List (Label C) → List (Label C) → List ℕ → List ℕ → Result (Answer C) QuestionFault → Type 0
Always K σ s q labels labels' route route' r =
    (l : Limits) (rows size : ℕ) (h : List Call) → after_calls (begun l rows size) h ≡ s → Answers K σ (after_calls (begun l rows size) h) q labels labels' route route' r

pub record Alike {S : Type 0} (s : Study) (q : Question) (σ : S) (s₂ : Study) (q₂ : Question) (σ₂ : S) : Type 0 where
  pub first : q₂.first ≡ q.first
  pub last : q₂.last ≡ q.last
  pub charge : (p : Plan) (e f : ℕ) → q₂.charge p e f ≡ q.charge p e f
  pub places : q₂.places ≡ q.places
  pub amount : (charge long : ℕ) → q₂.amount charge long ≡ q.amount charge long
  pub settings : σ₂ ≡ σ
  pub limits : s₂.limits ≡ s.limits
  pub edges : s₂.edges ≡ s.edges
  pub closed : (e : ℕ) → e < length s.edges → shut s₂.sheet e ≡ shut s.sheet e

pub record SameAnswer {C : Type 0} (K : Kind C) (r r₂ : Answer C) (route route₂ : List ℕ) : Type 0 where
  pub settings : K.settings r₂.cost ≡ K.settings r.cost
  pub additions : K.additions r₂.cost ≡ K.additions r.cost
  pub row : K.row r₂.cost ≡ K.row r.cost
  pub edges : r₂.edges ≡ r.edges
  pub charge : r₂.charge ≡ r.charge
  pub long : r₂.length ≡ r.length
  pub walk : take r₂.edges route₂ ≡ take r.edges route

abbrev pub SameOutcome : {C : Type 0} → Kind C → Result (Answer C) QuestionFault → Result (Answer C) QuestionFault → List ℕ → List ℕ → Type 0
SameOutcome K (Ok r) (Ok r₂) route route₂ = SameAnswer K r r₂ route route₂
SameOutcome K (Ok r) (Err f₂) route route₂ = ⊥
SameOutcome K (Err f) (Ok r₂) route route₂ = ⊥
SameOutcome K (Err f) (Err f₂) route route₂ = f₂ ≡ f

abbrev pub Agrees : {C : Type 0} → (K : Kind C) → K.Settings → Study → Question → List ℕ → Result (Answer C) QuestionFault → Type 0
Agrees {C} K σ s q route' r =
    (s₂ : Study) (q₂ : Question) (σ₂ : K.Settings) (labels₂ labels₂' : List (Label C)) (route₂ route₂' : List ℕ) (r₂ : Result (Answer C) QuestionFault)
    → Answers K σ₂ s₂ q₂ labels₂ labels₂' route₂ route₂' r₂ → question_fault s q ≡ None → question_fault s₂ q₂ ≡ None → Alike s q σ s₂ q₂ σ₂
    → SameOutcome K r r₂ route' route₂'
