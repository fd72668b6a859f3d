-- The loop of label setting, over a labelling and a queue: what stays true while edges are taken from the queue and their steps are relaxed.
--
-- Glossary
--   Queue                         for each edge, whether it is in the queue
--   with_label L f x              the labelling L with the label x at f
--   with_flag Q f b               the queue Q with b at f
--   settled L Q e                 e is labelled and not in the queue
--   tally p n                     how many of the numbers below n pass the test p
--   Running g a L Q n             what stays true at every moment: the first edge a is usable and labelled as such, and labelled alone while it is in the queue;
--                                 the queue holds labelled edges; rows have their places; a label other than that of a is entered from a settled edge;
--                                 no settled label comes after one in the queue; n edges are settled; a settled label has at most n edges, one in the queue one more
--   Inv g a L Q n                 between two turns of the loop: Running, and every step from a settled edge to a usable one is relaxed
--   Relaxing g a L Q n e x k      in a turn, after e with the label x was taken: Running; no settled label comes after x;
--                                 every step from a settled edge to a usable one is relaxed, but of the steps from e only those to edges below k
-- Assumes nothing.
use Rattle.std.specs.Prelude.{◌≡◌, ℕ, zero, suc, ◌+◌, ◌<◌, ◌≤◌, Bool, true, false, cond, length, is_some, Some, ◌==◌, ◌≢◌}
use Rattle.walks.specs.Networks.{Network, Usable, Step}
use Rattle.walks.specs.Labels.{Label, Labelling, first_label, KeyAtMost, Relaxed, Entered}

abbrev pub Queue : Type 0
Queue = ℕ → Bool

abbrev pub with_label : Labelling → ℕ → Label → Labelling
with_label L f x = λ e. cond (e == f) (Some x) (L e)

abbrev pub with_flag : Queue → ℕ → Bool → Queue
with_flag Q f b = λ e. cond (e == f) b (Q e)

abbrev pub settled : Labelling → Queue → ℕ → Bool
settled L Q e = cond (Q e) false (is_some (L e))

abbrev pub tally : (ℕ → Bool) → ℕ → ℕ
tally p zero = 0
tally p (suc n) = tally p n + cond (p n) 1 0

pub record Running (g : Network) (a : ℕ) (L : Labelling) (Q : Queue) (n : ℕ) : Type 0 where
  pub usable : Usable g a
  pub first : L a ≡ Some (first_label g a)
  pub alone : Q a ≡ true → (e : ℕ) (x : Label) → L e ≡ Some x → e ≡ a
  pub queued : (e : ℕ) → Q e ≡ true → (x : Label) × (L e ≡ Some x)
  pub places : (e : ℕ) (x : Label) → L e ≡ Some x → length x.row ≡ g.places
  pub entered : (f : ℕ) (y : Label) → L f ≡ Some y → (f ≢ a) → (e : ℕ) × (Q e ≡ false) × Entered g L e f y
  pub ordered : (e f : ℕ) (x y : Label) → L e ≡ Some x → Q e ≡ false → L f ≡ Some y → Q f ≡ true → KeyAtMost x y
  pub counted : tally (settled L Q) g.edges ≡ n
  pub settled_edges : (e : ℕ) (x : Label) → L e ≡ Some x → Q e ≡ false → x.edges ≤ n
  pub queued_edges : (e : ℕ) (x : Label) → L e ≡ Some x → Q e ≡ true → x.edges ≤ n + 1

pub record Inv (g : Network) (a : ℕ) (L : Labelling) (Q : Queue) (n : ℕ) : Type 0 where
  pub running : Running g a L Q n
  pub closed : (e f : ℕ) (x : Label) → L e ≡ Some x → Q e ≡ false → Usable g f → Step g e f → Relaxed g L x e f

pub record Relaxing (g : Network) (a : ℕ) (L : Labelling) (Q : Queue) (n e : ℕ) (x : Label) (k : ℕ) : Type 0 where
  pub running : Running g a L Q n
  pub labelled : L e ≡ Some x
  pub taken : Q e ≡ false
  pub last : (d : ℕ) (y : Label) → L d ≡ Some y → Q d ≡ false → KeyAtMost y x
  pub closed :
      (d f : ℕ) (y : Label) → L d ≡ Some y → Q d ≡ false → (d ≡ e → f < k) → Usable g f → Step g d f → Relaxed g L y d f
