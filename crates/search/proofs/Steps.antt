-- Relaxing one step keeps the lists of a search in order, and what is relaxed.
use Rattle.std.proofs.Common.{◌≡◌, ℕ, ◌+◌, ◌<◌, ◌≤◌, true, false, ◌⊎◌, List, length, get_or, set, Some, sym, refl, ap, ◌∙◌, subst, inl, inr, arith}
use Rattle.std.proofs.lemmas.List.{get_or_default, length-set}
use Rattle.std.proofs.lemmas.Bool.{cases_Bool}
use Rattle.std.proofs.lemmas.Bool.Decides.{nat_tests}
use Rattle.cost.specs.declared.kind.CostKind.{Ghosts as Kind}
use Rattle.rules.specs.declared.rule.TurnRule.{Ghosts as Rule}
use Rattle.plan.specs.Plans.{Plan, plan_of, edge_at, steps}
use Rattle.plan.proofs.Drawn.{sound_of}
use Rattle.walks.specs.Labels.{Label as Mark, AtMost, LabelLess, extension}
use Rattle.walks.specs.Loop.{Relaxing, with_label, with_flag}
use Rattle.walks.specs.Networks.{Even, Usable, Step}
use Rattle.walks.proofs.Keys.{label_less_asym, less_at_most}
use Rattle.walks.proofs.Loop.{flag_other, relaxing_same}
use Rattle.walks.proofs.Options.{some_only}
use Rattle.walks.proofs.Relax.{relax_better, relax_full, relax_keep, relax_kept, relax_new, relax_settled}
use Rattle.search.specs.Grounds.{drawn_in, net_of, settings_of}
use Rattle.search.specs.Labels.{Each, Fine, label_in, plain}
use Rattle.search.specs.Queues.{Filled, in_queue, put_in}
use Rattle.search.specs.Stages.{Offered, Stays, Turning, asked_of, labelling, waiting}
use Rattle.search.specs.declared.question.Question.{Question as Asking}
use Rattle.search.specs.declared.frontier.Frontier.{Frontier}
use Rattle.search.specs.declared.label.Label.{Label}
use Rattle.search.specs.declared.queue.QueueSlot.{QueueSlot}
use Rattle.search.proofs.Eaches.{each_set, set_at}
use Rattle.search.proofs.Marks.{label_held, label_is, label_read, label_wrote, meaning_none, meaning_some}
use Rattle.search.proofs.Slots.{brought_in, filled_more, has_room}

-- what the type of a search says of its lists
pub record Working {R C : Type 0} (q : Asking R C) (ls : List (Label C)) (slots : List QueueSlot) (len : ℕ) : Type 0 where
  pub size : length ls ≡ drawn_in q
  pub filled : Filled slots len (drawn_in q)
  pub waiting : (e : ℕ) (d : Label C) → e < length ls → in_queue slots len e ≡ true → 0 < (get_or ls e d).edges

pub working_of : {R C : Type 0} (s : Frontier R C) → Working (asked_of s) s.labels.now s.queue.now s.len
working_of s = record { size = s.size; filled = s.filled; waiting = s.waiting }

-- where the steps of e, whose label is x, are relaxed up to the edge k, they are so up to the edge j afterwards
abbrev pub Relaxes : {R C : Type 0} → Rule R → Kind C → Asking R C → List (Label C) → List QueueSlot → ℕ → List (Label C) → List QueueSlot → ℕ → Mark → ℕ → ℕ → ℕ → Type 0
Relaxes T K q ls slots len ls' slots' len' x e k j =
    (a n : ℕ) → Relaxing (net_of T K q) a (label_in K ls) (in_queue slots len) n e x k
    → Relaxing (net_of T K q) a (label_in K ls') (in_queue slots' len') n e x j

-- the same in a turn, for the label that is read
abbrev pub Kept : {R C : Type 0} → Rule R → Kind C → Frontier R C → List (Label C) → List QueueSlot → ℕ → ℕ → ℕ → ℕ → Type 0
Kept T K s ls' slots' len' e k j =
    (a n : ℕ) (x : Mark) → Turning T K s a n e x k
    → Each (Fine K (settings_of K (asked_of s))) ls' × Relaxing (net_of T K (asked_of s)) a (label_in K ls') (in_queue slots' len') n e x j

pub stays_both : {R C : Type 0} {s s' s'' : Frontier R C} → Stays s s' → Stays s' s'' → Stays s s''
stays_both a b = record { ground = b.ground ∙ a.ground; lender = b.lender ∙ a.lender }

abbrev pub Measured : {C : Type 0} → Kind C → Type 0
Measured K = (s : K.Settings) (charge long : ℕ) → length (K.amount s charge long) ≡ K.places

-- a step leads to an edge that starts where the other ends
step_starts : (p : Plan) (e f : ℕ) → steps p e f ≡ true → (edge_at p f).start ≡ (edge_at p e).end
step_starts p e f h = grind (arith, nat_tests)

module _ {R C : Type 0} (T : Rule R) (K : Kind C) (measured : Measured K) (q : Asking R C) (ls : List (Label C)) (slots : List QueueSlot) (len : ℕ) (w : Working q ls slots len) (x : Label C) (from to : ℕ) (drawn : to < length ls) where
  even : Even (net_of T K q)
  even = measured (settings_of K q)

  -- nothing is offered: no step leads to an open edge, or the walk can not grow
  pub relaxes_none : (Usable (net_of T K q) to → Step (net_of T K q) from to → 1024 ≤ x.edges) → Relaxes T K q ls slots len ls slots len (plain K x) from to (to + 1)
  relaxes_none full a n r =
      relax_keep r (λ u s.
      let few = (sound_of q.drawing.now).few in
      let all = relax_full even r (omega (arith, few, full u s)) (to + 1) in
      all.closed from to (plain K x) r.labelled r.taken (λ _. omega arith) u s)

  drawn_here : to < drawn_in q
  drawn_here = omega (arith, w.size)

  -- an edge gets its first label and enters the queue
  module _ (new : Label C) (grown : 0 < new.edges) where
    module _ (apart : in_queue slots len to ≡ false) where
      pub room_entered : len < length slots
      room_entered = omega (arith, has_room slots len (drawn_in q) to w.filled apart drawn_here, w.filled.room)

      pub working_entered : Working q (set ls to new) (put_in slots len to) (len + 1)
      working_entered =
          record {
            size = length-set ls to new ∙ w.size;
            filled = filled_more slots len (drawn_in q) to w.filled apart drawn_here;
            waiting = λ e d h waits.
                let l : e < length ls = omega (arith, h, length-set ls to new) in
                set_at (λ x. 0 < x.edges) ls to new e d l (λ _. grown) (λ p. w.waiting e d l (sym (flag_other (in_queue slots len) to true e p) ∙ brought_in slots len (drawn_in q) to w.filled apart drawn_here e ∙ waits));
          }

      pub entered_queue : (e : ℕ) → with_flag (in_queue slots len) to true e ≡ in_queue (put_in slots len to) (len + 1) e
      entered_queue = brought_in slots len (drawn_in q) to w.filled apart drawn_here

  module _ (old new : Label C) (held : old ≡ get_or ls to old) (grown : 0 < new.edges) where
    -- an edge that had no walk
    module _ (unlabelled : old.edges ≡ 0) where
      apart : in_queue slots len to ≡ false
      apart = go (cases_Bool (in_queue slots len to))
        where
          go : (in_queue slots len to ≡ true) ⊎ (in_queue slots len to ≡ false) → in_queue slots len to ≡ false
          go (inl waits) = absurd (let h = w.waiting to old drawn waits in omega (arith, h, ap (λ (l : Label C). l.edges) held, unlabelled))
          go (inr waits) = waits

      pub room_new : len < length slots
      room_new = room_entered new grown apart

      pub working_new : Working q (set ls to new) (put_in slots len to) (len + 1)
      working_new = working_entered new grown apart

      pub relaxes_new : Offered T K q x from to new → Relaxes T K q ls slots len (set ls to new) (put_in slots len to) (len + 1) (plain K x) from to (to + 1)
      relaxes_new offered a n r =
          relaxing_same (label_wrote K ls to new drawn grown) (entered_queue new grown apart)
          (subst (λ m. Relaxing (net_of T K q) a (with_label (label_in K ls) to m) (with_flag (in_queue slots len) to true) n from (plain K x) (to + 1)) (sym offered.value)
          (relax_new even r offered.usable offered.step (label_read K ls to old drawn held ∙ meaning_none K old unlabelled)))

    -- an edge that has a walk
    module _ (labelled : 0 < old.edges) where
      label_old : label_in K ls to ≡ Some (plain K old)
      label_old = label_read K ls to old drawn held ∙ meaning_some K old labelled

      pub relaxes_old : Offered T K q x from to new → AtMost (plain K old) (plain K new) → Relaxes T K q ls slots len ls slots len (plain K x) from to (to + 1)
      relaxes_old offered h a n r = relax_kept r (plain K old) label_old (subst (AtMost (plain K old)) offered.value h)

      pub relaxes_better : Offered T K q x from to new → LabelLess (plain K new) (plain K old) → Relaxes T K q ls slots len (set ls to new) slots len (plain K x) from to (to + 1)
      relaxes_better offered h a n r =
          relaxing_same (label_wrote K ls to new drawn grown) (λ _. refl)
          (subst (λ m. Relaxing (net_of T K q) a (with_label (label_in K ls) to m) (in_queue slots len) n from (plain K x) (to + 1)) (sym offered.value)
          (relax_better even r offered.usable offered.step (plain K old) label_old queued less))
        where
          less : LabelLess (extension (net_of T K q) (plain K x) from to) (plain K old)
          less = subst (λ m. LabelLess m (plain K old)) offered.value h

          queued : in_queue slots len to ≡ true
          queued = go (cases_Bool (in_queue slots len to))
            where
              go : (in_queue slots len to ≡ true) ⊎ (in_queue slots len to ≡ false) → in_queue slots len to ≡ true
              go (inl waits) = waits
              go (inr waits) =
                  let s = relax_settled even r (plain K old) label_old waits in
                  let c = s.closed from to (plain K x) r.labelled r.taken (λ _. omega arith) offered.usable offered.step in
                  let b = subst (λ m. AtMost m (extension (net_of T K q) (plain K x) from to)) (some_only c.labelled label_old) c.bound in
                  let z = less_at_most _ (plain K old) _ less b in
                  absurd (label_less_asym _ _ z z)

-- the same in a search under way, where the labels are read from the list
module _ {R C : Type 0} (T : Rule R) (K : Kind C) (measured : Measured K) (s : Frontier R C) (from to : ℕ) (here : from < length s.labels.now) (drawn : to < length s.labels.now) (p : Label C) where
  abbrev x : Label C
  x = get_or s.labels.now from p

  abbrev IsFine : Type 0
  IsFine = Fine K (settings_of K (asked_of s)) x

  abbrev AllFine : List (Label C) → Type 0
  AllFine ls = Each (Fine K (settings_of K (asked_of s))) ls

  kept_by : (ls' : List (Label C)) (slots' : List QueueSlot) (len' : ℕ)
      → (IsFine → Relaxes T K (asked_of s) s.labels.now s.queue.now s.len ls' slots' len' (plain K x) from to (to + 1))
      → (IsFine → AllFine s.labels.now → AllFine ls')
      → Kept T K s ls' slots' len' from to (to + 1)
  kept_by ls' slots' len' relaxes still a n m t =
      let f = t.fine from p here in
      let is : m ≡ plain K x = label_is K s.labels.now from x m here (get_or_default s.labels.now from p x here) t.relaxing.labelled in
      (still f t.fine, subst (λ y. Relaxing (net_of T K (asked_of s)) a (label_in K ls') (in_queue slots' len') n from y (to + 1)) (sym is) (relaxes f a n (subst (λ y. Relaxing (net_of T K (asked_of s)) a (labelling K s) (waiting s) n from y to) is t.relaxing)))

  pub kept_none : (IsFine → Usable (net_of T K (asked_of s)) to → Step (net_of T K (asked_of s)) from to → 1024 ≤ x.edges) → Kept T K s s.labels.now s.queue.now s.len from to (to + 1)
  kept_none full = kept_by s.labels.now s.queue.now s.len (λ f. relaxes_none T K measured (asked_of s) s.labels.now s.queue.now s.len (working_of s) x from to drawn (full f)) (λ _ fine. fine)

  module _ (d new : Label C) (grown : 0 < new.edges) where
    abbrev old : Label C
    old = get_or s.labels.now to d

    held : old ≡ get_or s.labels.now to old
    held = get_or_default s.labels.now to d old drawn

    pub room_read : old.edges ≡ 0 → s.len < length s.queue.now
    room_read = room_new T K measured (asked_of s) s.labels.now s.queue.now s.len (working_of s) x from to drawn old new held grown

    pub working_read : old.edges ≡ 0 → Working (asked_of s) (set s.labels.now to new) (put_in s.queue.now s.len to) (s.len + 1)
    working_read = working_new T K measured (asked_of s) s.labels.now s.queue.now s.len (working_of s) x from to drawn old new held grown

    module _ (offered : IsFine → Offered T K (asked_of s) x from to new) where
      still : IsFine → AllFine s.labels.now → AllFine (set s.labels.now to new)
      still f fine = each_set (Fine K (settings_of K (asked_of s))) s.labels.now to new fine (offered f).fine

      pub kept_new : old.edges ≡ 0 → Kept T K s (set s.labels.now to new) (put_in s.queue.now s.len to) (s.len + 1) from to (to + 1)
      kept_new unlabelled = kept_by (set s.labels.now to new) (put_in s.queue.now s.len to) (s.len + 1) (λ f. relaxes_new T K measured (asked_of s) s.labels.now s.queue.now s.len (working_of s) x from to drawn old new held grown unlabelled (offered f)) still

      pub kept_old : (old.edges ≡ 0 → ⊥) → AtMost (plain K old) (plain K new) → Kept T K s s.labels.now s.queue.now s.len from to (to + 1)
      kept_old labelled h = kept_by s.labels.now s.queue.now s.len (λ f. relaxes_old T K measured (asked_of s) s.labels.now s.queue.now s.len (working_of s) x from to drawn old new held grown (omega (arith, labelled)) (offered f) h) (λ _ fine. fine)

      pub kept_better : (old.edges ≡ 0 → ⊥) → LabelLess (plain K new) (plain K old) → Kept T K s (set s.labels.now to new) s.queue.now s.len from to (to + 1)
      kept_better labelled h = kept_by (set s.labels.now to new) s.queue.now s.len (λ f. relaxes_better T K measured (asked_of s) s.labels.now s.queue.now s.len (working_of s) x from to drawn old new held grown (omega (arith, labelled)) (offered f) h) still

-- an edge that does not start where the other ends
pub kept_apart : {R C : Type 0} (T : Rule R) (K : Kind C) (measured : Measured K) (s : Frontier R C) (from to : ℕ) → from < length s.labels.now → to < length s.labels.now
    → ((edge_at (plan_of (asked_of s).drawing.now) to).start ≡ (edge_at (plan_of (asked_of s).drawing.now) from).end → ⊥) → Kept T K s s.labels.now s.queue.now s.len from to (to + 1)
kept_apart T K measured s from to here drawn apart a n m t =
    let h = label_held K s.labels.now from m t.relaxing.labelled in
    kept_none T K measured s from to here drawn h.0 (λ _ _ st. absurd (apart (step_starts (plan_of (asked_of s).drawing.now) from to st))) a n m t
