-- Taking the edge with the least label out of the queue.
use Rattle.std.proofs.Common.{◌≡◌, ℕ, ◌+◌, ◌-◌, ◌<◌, ◌≤◌, true, false, List, length, get_or, Some, sym, refl, ap, ◌∙◌, subst, subst₂, arith}
use Rattle.std.proofs.lemmas.List.{get_or_default}
use Rattle.std.proofs.lemmas.Bool.{false≢true}
use Rattle.cost.specs.declared.kind.CostKind.{Ghosts as Kind}
use Rattle.rules.specs.declared.rule.TurnRule.{Ghosts as Rule}
use Rattle.walks.specs.Labels.{Label as Mark, KeyAtMost}
use Rattle.walks.specs.Loop.{Inv, Relaxing}
use Rattle.walks.proofs.Loop.{flag_kept, inv_take, relaxing_done, relaxing_same}
use Rattle.search.specs.Grounds.{drawn_in, net_of}
use Rattle.search.specs.Labels.{plain, label_in}
use Rattle.search.specs.Queues.{Least, edge_in, in_queue, moved_up}
use Rattle.search.specs.Stages.{Keeps, Searching, Takes, asked_of}
use Rattle.search.specs.declared.frontier.Frontier.{Frontier}
use Rattle.search.specs.declared.question.Question.{Question as Asking}
use Rattle.search.specs.declared.label.Label.{Label}
use Rattle.search.specs.declared.queue.QueueSlot.{QueueSlot}
use Rattle.search.proofs.Marks.{label_held, label_is, label_read, meaning_some}
use Rattle.search.proofs.Slots.{filled_less, filled_within, slot_of, standing, taken_out}
use Rattle.search.proofs.Steps.{Working}

module _ {R C : Type 0} (T : Rule R) (K : Kind C) (q : Asking R C) (ls : List (Label C)) (slots : List QueueSlot) (m at : ℕ) (w : Working q ls slots (m + 1)) (within : m + 1 ≤ length slots) (there : at < m + 1) where
  pub working_taken : Working q ls (moved_up slots m at) m
  working_taken =
      record {
        size = w.size;
        filled = filled_less slots m (drawn_in q) at w.filled there within;
        waiting = λ e d h waits. w.waiting e d h (flag_kept (in_queue slots (m + 1)) (edge_in slots at) false true e false≢ (taken_out slots m (drawn_in q) at w.filled there within e ∙ waits));
      }
    where
      false≢ : false ≡ true → ⊥
      false≢ e = false≢true e

  pub drawn_taken : edge_in slots at < length ls
  drawn_taken = omega (arith, w.filled.drawn at there, w.size)

  module _ (x : Label C) (reads : x ≡ get_or ls (edge_in slots at) x) (least : Least K ls slots (m + 1) at) where
    filled_taken : 0 < x.edges
    filled_taken = subst (λ l. 0 < l.edges) (sym reads) (w.waiting (edge_in slots at) x drawn_taken (standing slots (m + 1) at there within))

    pub relaxing_taken : (a n : ℕ) → Inv (net_of T K q) a (label_in K ls) (in_queue slots (m + 1)) n → Relaxing (net_of T K q) a (label_in K ls) (in_queue (moved_up slots m at) m) (n + 1) (edge_in slots at) (plain K x) 0
    relaxing_taken a n i =
        relaxing_same (λ _. refl) (taken_out slots m (drawn_in q) at w.filled there within)
        (inv_take i (edge_in slots at) (plain K x) (standing slots (m + 1) at there within) (label_read K ls (edge_in slots at) x drawn_taken reads ∙ meaning_some K x filled_taken) before)
      where
        before : (f : ℕ) (y : Mark) → in_queue slots (m + 1) f ≡ true → label_in K ls f ≡ Some y → KeyAtMost (plain K x) y
        before f y waits l =
            let s = slot_of slots (m + 1) f within waits in
            let z : Label C = get_or ls (edge_in slots s.0) x in
            let d : edge_in slots s.0 < length ls = omega (arith, w.filled.drawn s.0 s.1, w.size) in
            let h = least s.0 x s.1 in
            let e : y ≡ plain K z = label_is K ls (edge_in slots s.0) z y d (get_or_default ls (edge_in slots s.0) x z d) (subst (λ j. label_in K ls j ≡ Some y) (sym s.2) l) in
            subst₂ KeyAtMost (ap (plain K) (sym reads)) (sym e) h

-- the same, from the length of the queue before
module _ {R C : Type 0} (T : Rule R) (K : Kind C) (q : Asking R C) (ls : List (Label C)) (slots : List QueueSlot) (len at : ℕ) (w : Working q ls slots len) (there : at < len) where
  one_less : len ≡ len - 1 + 1
  one_less = omega arith

  w' : Working q ls slots (len - 1 + 1)
  w' = subst (Working q ls slots) one_less w

  within' : len - 1 + 1 ≤ length slots
  within' = omega (arith, filled_within slots len (drawn_in q) w.filled)

  there' : at < len - 1 + 1
  there' = omega arith

  pub working_left : Working q ls (moved_up slots (len - 1) at) (len - 1)
  working_left = working_taken T K q ls slots (len - 1) at w' within' there'

  pub relaxing_left : (x : Label C) → x ≡ get_or ls (edge_in slots at) x → Least K ls slots len at → (a n : ℕ) → Inv (net_of T K q) a (label_in K ls) (in_queue slots len) n → Relaxing (net_of T K q) a (label_in K ls) (in_queue (moved_up slots (len - 1) at) (len - 1)) (n + 1) (edge_in slots at) (plain K x) 0
  relaxing_left x reads least a n i =
      relaxing_taken T K q ls slots (len - 1) at w' within' there' x reads (subst (λ m. Least K ls slots m at) one_less least) a n
      (subst (λ m. Inv (net_of T K q) a (label_in K ls) (in_queue slots m) n) one_less i)

  pub taking : Least K ls slots len at → (a n : ℕ) → Inv (net_of T K q) a (label_in K ls) (in_queue slots len) n → (x : Mark) × Relaxing (net_of T K q) a (label_in K ls) (in_queue (moved_up slots (len - 1) at) (len - 1)) (n + 1) (edge_in slots at) x 0
  taking least a n i =
      let label = i.running.queued (edge_in slots at) (standing slots len at there (filled_within slots len (drawn_in q) w.filled)) in
      let h = label_held K ls (edge_in slots at) label.0 label.1 in
      (plain K h.0, relaxing_left h.0 h.1 least a n i)

-- a turn of the loop: an edge is taken, and all its steps are relaxed
pub settled_more : {R C : Type 0} (T : Rule R) (K : Kind C) (s s' s'' : Frontier R C) (e : ℕ) → Takes T K s s' e → Keeps T K s' s'' e 0 (drawn_in (asked_of s'')) → (a n : ℕ) → Searching T K s a n → Searching T K s'' a (n + 1)
settled_more T K s s' s'' e takes keeps a n i =
    let t = takes a n i in
    let u = keeps a (n + 1) t.0 t.1 in
    record { fine = u.fine; inv = relaxing_done u.relaxing }
