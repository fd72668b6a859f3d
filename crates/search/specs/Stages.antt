-- What the steps of a search promise each other.
--
-- Glossary
--   Asking                 a question as it is brought
--   Frontier               a search under way: its ground, the labels so far, and the queue of the edges that wait
--   asked_of s             the question of the search s
--   labelling K s          what its labels hold for an edge
--   waiting s              whether an edge waits in its queue
--   Searching T K s a n    between two turns of the search s from the edge a, of which n are done: each label is Fine, and the loop's invariant holds
--   Turning T K s a n e x k   in a turn, after the edge e with the label x was taken: each label is Fine, and the steps of e to edges below k are relaxed
--   Stays s s'             s' is a search over the ground of s and the labels that were lent to s
--   Keeps T K s s' e k j   where the steps of e are relaxed up to the edge k in s, they are so up to the edge j in s'
--   Takes T K s s' e       where the loop's invariant holds in s, e is taken in s', and none of its steps is relaxed yet
--   TakenOut s s' e        e stood in a slot of the queue of s, and the last slot was moved there in s'; the labels stay
--   PutIn s s' f           the queue of s' is that of s, or f was written behind it
--   Explored T K q ls      the labels ls after the whole search: each is Fine, none is of more edges than are drawn, and the labelling is certified
--   Opens K q x            x is the label of the walk of the first edge of the question q alone
--   Offered T K q x e f y  y is the label that the open edge f gets by the step from e, where x is the label of e
-- Assumes nothing.
use Rattle.std.specs.Prelude.{◌≡◌, ℕ, ◌+◌, ◌-◌, ◌<◌, ◌⊎◌, Bool, List, Option}
use Rattle.cost.specs.declared.kind.CostKind.{Ghosts as Kind}
use Rattle.rules.specs.declared.rule.TurnRule.{Ghosts as Rule}
use Rattle.plan.specs.Plans.{plan_of, edge_at}
use Rattle.walks.specs.Labels.{Certified, Label as Mark, extension, none}
use Rattle.walks.specs.Networks.{Usable, Step}
use Rattle.walks.specs.Loop.{Inv, Relaxing}
use Rattle.search.specs.Grounds.{drawn_in, net_of, settings_of}
use Rattle.search.specs.Labels.{Each, Fine, Short, label_in, plain}
use Rattle.search.specs.Queues.{edge_in, in_queue, moved_up, put_in}
use Rattle.search.specs.declared.question.Question.{Question as Asking}
use Rattle.search.specs.declared.frontier.Frontier.{Frontier}
use Rattle.search.specs.declared.label.Label.{Label}

abbrev pub asked_of : {R C : Type 0} → Frontier R C → Asking R C
asked_of s = s.ground.now.question.now

abbrev pub labelling : {R C : Type 0} → Kind C → Frontier R C → ℕ → Option Mark
labelling K s = label_in K s.labels.now

abbrev pub waiting : {R C : Type 0} → Frontier R C → ℕ → Bool
waiting s = in_queue s.queue.now s.len

pub record Searching {R C : Type 0} (T : Rule R) (K : Kind C) (s : Frontier R C) (a n : ℕ) : Type 0 where
  pub fine : Each (Fine K (settings_of K (asked_of s))) s.labels.now
  pub inv : Inv (net_of T K (asked_of s)) a (labelling K s) (waiting s) n

pub record Turning {R C : Type 0} (T : Rule R) (K : Kind C) (s : Frontier R C) (a n e : ℕ) (x : Mark) (k : ℕ) : Type 0 where
  pub fine : Each (Fine K (settings_of K (asked_of s))) s.labels.now
  pub relaxing : Relaxing (net_of T K (asked_of s)) a (labelling K s) (waiting s) n e x k

pub record Stays {R C : Type 0} (s s' : Frontier R C) : Type 0 where
  pub ground : s'.ground ≡ s.ground
  pub lender : s'.labels.ghost_name ≡ s.labels.ghost_name

abbrev pub Keeps : {R C : Type 0} → Rule R → Kind C → Frontier R C → Frontier R C → ℕ → ℕ → ℕ → Type 0
Keeps T K s s' e k j = (a n : ℕ) (x : Mark) → Turning T K s a n e x k → Turning T K s' a n e x j

abbrev pub Takes : {R C : Type 0} → Rule R → Kind C → Frontier R C → Frontier R C → ℕ → Type 0
Takes T K s s' e = (a n : ℕ) → Searching T K s a n → (x : Mark) × Turning T K s' a (n + 1) e x 0

pub record TakenOut {R C : Type 0} (s s' : Frontier R C) (e : ℕ) : Type 0 where
  pub at : ℕ
  pub there : at < s.len
  pub value : e ≡ edge_in s.queue.now at
  pub after : s'.queue.now ≡ moved_up s.queue.now (s.len - 1) at
  pub count : s'.len ≡ s.len - 1
  pub labels : s'.labels.now ≡ s.labels.now

abbrev pub PutIn : {R C : Type 0} → Frontier R C → Frontier R C → ℕ → Type 0
PutIn s s' f =
    ((s'.queue.now ≡ s.queue.now) × (s'.len ≡ s.len)) ⊎ ((s'.queue.now ≡ put_in s.queue.now s.len f) × (s'.len ≡ s.len + 1))

pub record Explored {R C : Type 0} (T : Rule R) (K : Kind C) (q : Asking R C) (ls : List (Label C)) : Type 0 where
  pub fine : Each (Fine K (settings_of K q)) ls
  pub short : Short K ls (drawn_in q)
  pub certified : Certified (net_of T K q) q.first (label_in K ls)

pub record Opens {R C : Type 0} (K : Kind C) (q : Asking R C) (x : Label C) : Type 0 where
  pub row : K.row x.cost ≡ K.amount (settings_of K q) 0 (edge_at (plan_of q.drawing.now) q.first).length
  pub edges : x.edges ≡ 1
  pub previous : x.previous ≡ none

pub record Offered {R C : Type 0} (T : Rule R) (K : Kind C) (q : Asking R C) (x : Label C) (e f : ℕ) (y : Label C) : Type 0 where
  pub usable : Usable (net_of T K q) f
  pub step : Step (net_of T K q) e f
  pub value : plain K y ≡ extension (net_of T K q) (plain K x) e f
  pub fine : Fine K (settings_of K q) y
