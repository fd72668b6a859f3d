-- What a question answers: the relation between a plain study, a question, the lists before and after it, and its result.
--
-- Glossary
--   Question                what a question brings: its first and its last edge, the lengths of its labels, queue and route list, the charges of its turn
--                           rule for a plan and two edges, and the places and amounts of its kind of cost under its settings
--   Asking                  a question as it is brought, with the drawing and the sheet that it is asked over
--   plan_at s               the plan of the study s
--   ground_at s q           the network that the question q is asked over in the study s: charges read the whole plan, shut edges too
--   question_fault s q      why the question is turned down before any search: 8 for the first edge, then for the last; 10 where the sheet, the labels, the
--                           queue or the route list is shorter than the edges drawn
--   fault_by                the same, by the numbers: of edges drawn, of the two edges, and of the lengths of the four lists
--   checked f               the answer of that check
--   asked_by T K rule σ ..  the question that asks with the rule and with the settings σ of the kind of cost
--   asked T K q ..          the question q, over lists of these lengths
--   HasLabel K σ g w x      the label x holds the cost (settings σ, as many additions as edges, the row), the edge count and the previous edge of the walk w
--   Labelled K σ g a e x    x holds the label of the simplest walk from a to e; or no walk leads there, and x is Blank
--   AllLabelled K σ g a ls  each of the labels ls is Labelled
--   HasAnswer K σ g w r     r is the answer for the walk w: its cost, its number of edges, the sum of its charges and the sum of its lengths
--   Outcome                 either there is a walk, and the answer and the route list are those of the simplest, the list unchanged behind it; or there is
--                           none, the refusal is 11 with the last edge, and the route list is unchanged
--   Searched                the outcome; every drawn edge is Labelled; the labels behind the drawn edges are unchanged
--   Answers                 refused exactly where question_fault says so, with all lists as they were; else Searched
-- Assumes nothing.
use Rattle.std.specs.Prelude.{◌≡◌, ℕ, ◌<◌, cond, ◌⊎◌, List, ◌++◌, length, take, drop, Some, None, Ok, Err, Option, Result, nat_le, nat_lt, slice_index_or}
use Rattle.cost.specs.declared.kind.CostKind.{Ghosts as Kind}
use Rattle.rules.specs.declared.rule.TurnRule.{Ghosts as Rule}
use Rattle.plan.specs.Plans.{Plan}
use Rattle.plan.specs.Studies.{Study}
use Rattle.walks.specs.Labels.{before_last}
use Rattle.walks.specs.Networks.{Network, Leads, Simplest, walk_charge, walk_length, walk_row}
use Rattle.search.specs.Grounds.{network, settings_of}
use Rattle.search.specs.Labels.{Blank}
use Rattle.search.specs.declared.answer.Answer.{Answer}
use Rattle.search.specs.declared.fault.QuestionFault.{QuestionFault}
use Rattle.search.specs.declared.fault.QuestionFault.TheVariants.{NotDrawn, Short, NoWalk}
use Rattle.search.specs.declared.label.Label.{Label}
use Rattle.search.specs.declared.question.Question.{Question as Asking}

pub record Question : Type 0 where
  pub first : ℕ
  pub last : ℕ
  pub labels : ℕ
  pub queue : ℕ
  pub route : ℕ
  pub charge : Plan → ℕ → ℕ → ℕ
  pub places : ℕ
  pub amount : ℕ → ℕ → List ℕ

abbrev pub plan_at : Study → Plan
plan_at s = record { limits = s.limits; edges = s.edges }

abbrev pub ground_at : Study → Question → Network
ground_at s q = network (plan_at s) s.sheet (q.charge (plan_at s)) q.places q.amount

abbrev pub fault_by : ℕ → ℕ → ℕ → ℕ → ℕ → ℕ → ℕ → Option QuestionFault
fault_by drawn first last sheet labels queue route =
    cond (nat_le drawn first) (Some (NotDrawn first))
    (cond (nat_le drawn last) (Some (NotDrawn last))
    (cond (nat_lt sheet drawn) (Some (Short drawn))
    (cond (nat_lt labels drawn) (Some (Short drawn))
    (cond (nat_lt queue drawn) (Some (Short drawn))
    (cond (nat_lt route drawn) (Some (Short drawn))
    None)))))

abbrev pub question_fault : Study → Question → Option QuestionFault
question_fault s q = fault_by (length s.edges) q.first q.last (length s.sheet) q.labels q.queue q.route

abbrev pub checked : Option QuestionFault → Result (Unit {0}) QuestionFault
checked (Some f) = Err f
checked None = Ok tt

abbrev pub asked_by : {R C : Type 0} → Rule R → (K : Kind C) → R → K.Settings → ℕ → ℕ → ℕ → ℕ → ℕ → Question
asked_by T K rule σ first last labels queue route =
    record { first = first; last = last; labels = labels; queue = queue; route = route; charge = T.charge rule; places = K.places; amount = K.amount σ }

abbrev pub asked : {R C : Type 0} → Rule R → Kind C → Asking R C → ℕ → ℕ → ℕ → Question
asked T K q labels queue route = asked_by T K q.rule.now (settings_of K q) q.first q.last labels queue route

pub record HasLabel {C : Type 0} (K : Kind C) (σ : K.Settings) (g : Network) (w : List ℕ) (x : Label C) : Type 0 where
  pub kept : K.settings x.cost ≡ σ
  pub added : K.additions x.cost ≡ length w
  pub row : K.row x.cost ≡ walk_row g w
  pub edges : x.edges ≡ length w
  pub previous : x.previous ≡ before_last w

abbrev pub Labelled : {C : Type 0} → (K : Kind C) → K.Settings → Network → ℕ → ℕ → Label C → Type 0
Labelled K σ g a e x = ((w : List ℕ) × Simplest g a e w × HasLabel K σ g w x) ⊎ (((w : List ℕ) → Leads g a e w → ⊥) × Blank K σ x)

abbrev pub AllLabelled : {C : Type 0} → (K : Kind C) → K.Settings → Network → ℕ → List (Label C) → Type 0
AllLabelled {C} K σ g a labels = (e : ℕ) (d : Label C) → e < length labels → Labelled K σ g a e (slice_index_or labels e d)

pub record HasAnswer {C : Type 0} (K : Kind C) (σ : K.Settings) (g : Network) (w : List ℕ) (r : Answer C) : Type 0 where
  pub kept : K.settings r.cost ≡ σ
  pub added : K.additions r.cost ≡ length w
  pub row : K.row r.cost ≡ walk_row g w
  pub edges : r.edges ≡ length w
  pub charge : r.charge ≡ walk_charge g w
  pub long : r.length ≡ walk_length g w

abbrev pub Outcome : {C : Type 0} → (K : Kind C) → K.Settings → Network → ℕ → ℕ → List ℕ → List ℕ → Result (Answer C) QuestionFault → Type 0
Outcome K σ g a z route route' (Ok r) = (w : List ℕ) × Simplest g a z w × HasAnswer K σ g w r × (route' ≡ w ++ drop (length w) route)
Outcome K σ g a z route route' (Err f) = ((w : List ℕ) → Leads g a z w → ⊥) × (f ≡ NoWalk z) × (route' ≡ route)

pub record Searched {C : Type 0} (K : Kind C) (σ : K.Settings) (s : Study) (q : Question) (labels labels' : List (Label C)) (route route' : List ℕ) (r : Result (Answer C) QuestionFault) : Type 0 where
  pub outcome : Outcome K σ (ground_at s q) q.first q.last route route' r
  pub labelled : AllLabelled K σ (ground_at s q) q.first (take (length s.edges) labels')
  pub kept : drop (length s.edges) labels' ≡ drop (length s.edges) labels
  pub size : length labels' ≡ length labels

abbrev pub AnswersBy : {C : Type 0} → Option QuestionFault → (K : Kind C) → K.Settings → Study → Question → List (Label C) → List (Label C) → List ℕ → List ℕ → Result (Answer C) QuestionFault → Type 0
AnswersBy (Some f) K σ s q labels labels' route route' r = (r ≡ Err f) × (labels' ≡ labels) × (route' ≡ route)
AnswersBy None K σ s q labels labels' route route' r = Searched K σ s q labels labels' route route' r

abbrev pub Answers : {C : Type 0} → (K : Kind C) → K.Settings → Study → Question → List (Label C) → List (Label C) → List ℕ → List ℕ → Result (Answer C) QuestionFault → Type 0
Answers K σ s q labels labels' route route' r = AnswersBy (question_fault s q) K σ s q labels labels' route route' r
