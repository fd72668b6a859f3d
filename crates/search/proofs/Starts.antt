-- The lists of a search at its start, and what holds at its end.
use Rattle.std.proofs.Common.{◌≡◌, ℕ, zero, suc, ◌+◌, ◌-◌, ◌<◌, ◌≤◌, cond, not, eqb, List, [], ◌∷◌, length, get_or, set, Some, None, sym, refl, ap, ◌∙◌, subst, arith}
use Rattle.std.proofs.lemmas.Bool.{eq-eqb, ne_eqb, false≢true}
use Rattle.cost.specs.declared.kind.CostKind.{Ghosts as Kind}
use Rattle.rules.specs.declared.rule.TurnRule.{Ghosts as Rule}
use Rattle.walks.specs.Labels.{Certified, first_label}
use Rattle.walks.specs.Loop.{Inv, settled, tally, with_label}
use Rattle.walks.proofs.Back.{label_from_parts}
use Rattle.walks.proofs.Loop.{certified_same, inv_finish, inv_same, inv_start, label_edges, settled_number, shut_certified}
use Rattle.walks.proofs.Options.{none_not_some}
use Rattle.walks.proofs.Tally.{tally_none}
use Rattle.search.specs.Grounds.{drawn_in, net_of, settings_of}
use Rattle.search.specs.Labels.{Blank, Each, Fine, label_in, plain}
use Rattle.search.specs.Queues.{Filled, in_queue, put_in}
use Rattle.search.specs.Stages.{Explored, Opens, Searching, Stays, asked_of, labelling, waiting}
use Rattle.search.specs.declared.question.Question.{Question as Asking}
use Rattle.search.specs.declared.frontier.Frontier.{Frontier}
use Rattle.search.specs.declared.label.Label.{Label}
use Rattle.search.specs.declared.queue.QueueSlot.{QueueSlot}
use Rattle.search.proofs.Eaches.{each_set}
use Rattle.search.proofs.Marks.{label_wrote, meaning_none}
use Rattle.search.proofs.Steps.{Measured, Working, entered_queue, working_entered}

module _ {C : Type 0} (K : Kind C) (s : K.Settings) where
  blank_fine : (x : Label C) → Blank K s x → Fine K s x
  blank_fine x b = record { kept = b.kept; added = b.unadded ∙ sym b.unreached; blank = λ _. b }

  -- cleared labels hold no walk
  pub blank_none : (ls : List (Label C)) → Each (Blank K s) ls → (e : ℕ) → label_in K ls e ≡ None
  blank_none [] b e = refl
  blank_none (x ∷ ls) b zero = meaning_none K x (b 0 x (omega arith)).unreached
  blank_none (x ∷ ls) b (suc e) = blank_none ls (λ k d h. b (suc k) d (omega arith)) e

  pub blank_each : (ls : List (Label C)) → Each (Blank K s) ls → Each (Fine K s) ls
  blank_each ls b k d h = blank_fine (get_or ls k d) (b k d h)

module _ {R C : Type 0} (T : Rule R) (K : Kind C) (measured : Measured K) (q : Asking R C) (ls : List (Label C)) (slots : List QueueSlot) (size : length ls ≡ drawn_in q) (room : drawn_in q ≤ length slots) (drawn : q.first < length ls) (blank : Each (Blank K (settings_of K q)) ls) where
  -- a shut first edge
  certified_shut : (get_or q.sheet.now q.first 0 ≡ 0 → ⊥) → Certified (net_of T K q) q.first (label_in K ls)
  certified_shut closed =
      certified_same (λ e. sym (blank_none K (settings_of K q) ls blank e))
      (shut_certified (net_of T K q) q.first (λ u. false≢true (sym (ap (λ b. not (not b)) (ne_eqb (get_or q.sheet.now q.first 0) 0 closed)) ∙ u.1)))

  pub explored_shut : (get_or q.sheet.now q.first 0 ≡ 0 → ⊥) → Explored T K q ls
  explored_shut closed = record {
    fine = blank_each K (settings_of K q) ls blank;
    short = λ e x h. absurd (none_not_some (blank_none K (settings_of K q) ls blank e) h);
    certified = certified_shut closed;
  }

  filled_none : Filled slots 0 (drawn_in q)
  filled_none =
      record {
        room = room;
        once = λ e. omega arith;
        drawn = λ k h. absurd (omega arith);
        counted = tally_none (in_queue slots 0) (drawn_in q) (λ k _. refl);
      }

  working_none : Working q ls slots 0
  working_none =
      record {
        size = size;
        filled = filled_none;
        waiting = λ e d h waits. absurd (false≢true waits);
      }

  module _ (x : Label C) (opens : Opens K q x) where
    grown : 0 < x.edges
    grown = omega (arith, opens.edges)

    pub working_start : Working q (set ls q.first x) (put_in slots 0 q.first) (0 + 1)
    working_start = working_entered T K measured q ls slots 0 working_none x q.first q.first drawn x grown refl

    pub inv_begun : get_or q.sheet.now q.first 0 ≡ 0 → Inv (net_of T K q) q.first (label_in K (set ls q.first x)) (in_queue (put_in slots 0 q.first) (0 + 1)) 0
    inv_begun free =
        inv_same labels (entered_queue T K measured q ls slots 0 working_none x q.first q.first drawn x grown refl)
        (inv_start (net_of T K q) q.first (measured (settings_of K q)) (omega (arith, size), ap (λ b. not (not b)) (eq-eqb (get_or q.sheet.now q.first 0) 0 free)))
      where
        same : plain K x ≡ first_label (net_of T K q) q.first
        same = label_from_parts (plain K x) (first_label (net_of T K q) q.first) opens.row opens.edges opens.previous

        labels : (e : ℕ) → with_label (λ _. None) q.first (first_label (net_of T K q) q.first) e ≡ label_in K (set ls q.first x) e
        labels e =
            ap (λ m. with_label (λ _. None) q.first m e) (sym same)
            ∙ ap (λ o. cond (eqb e q.first) (Some (plain K x)) o) (sym (blank_none K (settings_of K q) ls blank e))
            ∙ label_wrote K ls q.first x drawn grown e

pub start_fine : {R C : Type 0} (K : Kind C) (q : Asking R C) (ls : List (Label C)) → Each (Blank K (settings_of K q)) ls → (x : Label C) → Fine K (settings_of K q) x → Each (Fine K (settings_of K q)) (set ls q.first x)
start_fine K q ls blank x fine = each_set (Fine K (settings_of K q)) ls q.first x (blank_each K (settings_of K q) ls blank) fine

-- the edges that are not settled yet
abbrev pub unsettled : {R C : Type 0} → Kind C → Frontier R C → ℕ
unsettled K s = drawn_in (asked_of s) - tally (settled (labelling K s) (waiting s)) (drawn_in (asked_of s))

-- a turn settles one edge more
pub fewer_left : {R C : Type 0} (T : Rule R) (K : Kind C) (s s' : Frontier R C) (a n : ℕ) → Stays s s' → Searching T K s a n → Searching T K s' a (n + 1) → unsettled K s' < unsettled K s
fewer_left T K s s' a n stays i j =
    omega (arith, ap (λ q. drawn_in q.now.question.now) stays.ground, i.inv.running.counted, j.inv.running.counted, settled_number j.inv.running)

-- an empty queue ends the search
pub done : {R C : Type 0} (T : Rule R) (K : Kind C) (s s' : Frontier R C) (n : ℕ) → Stays s s' → Searching T K s' (asked_of s).first n → s'.len ≤ 0 → Explored T K (asked_of s) s'.labels.now
done T K s s' n stays i none_left =
    let e : s'.len ≡ 0 = omega arith in
    let q = ap (λ r. r.now.question.now) stays.ground in
    subst (λ q. Explored T K q s'.labels.now) q
    (record { fine = i.fine; short = label_edges i.inv.running; certified = subst (λ a. Certified (net_of T K (asked_of s')) a (labelling K s')) (sym (ap (λ z. z.first) q)) (inv_finish i.inv (λ f. ap (λ m. in_queue s'.queue.now m f) e)) })
