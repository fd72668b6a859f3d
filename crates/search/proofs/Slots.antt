-- Taking an edge out of the queue, and putting one in.
use Rattle.std.proofs.Common.{◌≡◌, ℕ, suc, ◌+◌, ◌<◌, ◌≤◌, Bool, true, false, cond, eqb, ltb, ◌⊎◌, List, [], ◌∷◌, length, get_or, take, set, count_by, sym, refl, ap, ◌∙◌, inl, inr, arith}
use lib.Seq.{take-set-lt}
use Rattle.std.proofs.lemmas.List.{take_more, take_more_set, take-set, get_or-take, length-set, length-take-le}
use Rattle.std.proofs.lemmas.List.Sums.{sum_by-cons, sum_by_push, sum_by-set, get_or-le-sum_by}
use Rattle.std.proofs.lemmas.Bool.{cases_Bool, cases_eq, cases_lt, eq-eqb, eqb-true, ne_eqb, lt-ltb, le-ltb, ltb-true, ltb-false}
use Rattle.walks.specs.Loop.{tally, with_flag}
use Rattle.walks.proofs.Loop.{flag_same, flag_other}
use Rattle.walks.proofs.Tally.{tally_bound, tally_same, tally_more, tally_short}
use Rattle.search.specs.Queues.{Filled, edge_in, holds, in_queue, moved_up, no_slot, put_in, times}
use Rattle.search.specs.declared.queue.QueueSlot.{QueueSlot}
use Rattle.search.proofs.Eaches.{set_at}

abbrev one_at : ℕ → ℕ → ℕ
one_at e f = cond (eqb f e) 1 0

one_same : (e f : ℕ) → f ≡ e → one_at e f ≡ 1
one_same e f h = ap (λ b. cond b 1 0) (eq-eqb f e h)

one_other : (e f : ℕ) → (f ≡ e → ⊥) → one_at e f ≡ 0
one_other e f h = ap (λ b. cond b 1 0) (ne_eqb f e h)

-- an edge that stands in a slot is in the queue
pub standing : (slots : List QueueSlot) (len at : ℕ) → at < len → len ≤ length slots → in_queue slots len (edge_in slots at) ≡ true
standing slots len at h l =
    let n = length-take-le len slots l in
    let m : at < length (take len slots) = omega (arith, n) in
    let e : ℕ = edge_in slots at in
    let p = get_or-le-sum_by (λ s. cond (holds e s) 1 0) (take len slots) at no_slot m in
    let q : get_or (take len slots) at no_slot ≡ get_or slots at no_slot = get_or-take len slots at no_slot h in
    let r : ◌≡◌ {A = ℕ} (cond (holds e (get_or (take len slots) at no_slot)) 1 0) 1 = ap (λ s. cond (holds e s) 1 0) q ∙ one_same e e refl in
    lt-ltb 0 (times slots len e) (omega (arith, p, r))

module _ (slots : List QueueSlot) (m n at : ℕ) (filled : Filled slots (m + 1) n) (h : at < m + 1) (l : m + 1 ≤ length slots) where
  before : (e : ℕ) → times slots (m + 1) e ≡ times slots m e + one_at e (edge_in slots m)
  before e = ap (count_by (holds e)) (take_more slots m no_slot (omega arith)) ∙ sum_by_push (λ s. cond (holds e s) 1 0) (take m slots) (get_or slots m no_slot)

  after : (e : ℕ) → times (moved_up slots m at) m e + one_at e (edge_in slots at) ≡ times slots (m + 1) e
  after e = go (cases_lt at m)
    where
      go : (at < m) ⊎ (m ≤ at) → times (moved_up slots m at) m e + one_at e (edge_in slots at) ≡ times slots (m + 1) e
      go (inl q) =
          let k = length-take-le m slots (omega arith) in
          let i : at < length (take m slots) = omega (arith, k) in
          let s = sum_by-set (λ s. cond (holds e s) 1 0) (take m slots) at (get_or slots m no_slot) no_slot i in
          let t : times (moved_up slots m at) m e ≡ count_by (holds e) (set (take m slots) at (get_or slots m no_slot)) = ap (count_by (holds e)) (take-set-lt m slots at (get_or slots m no_slot) q) in
          let u : one_at e (get_or (take m slots) at no_slot).edge ≡ one_at e (edge_in slots at) = ap (λ s. one_at e s.edge) (get_or-take m slots at no_slot q) in
          omega (arith, s, t, u, before e)
      go (inr q) =
          let w : at ≡ m = omega arith in
          let t : times (moved_up slots m at) m e ≡ times slots m e = ap (λ j. count_by (holds e) (take m (set slots j (get_or slots m no_slot)))) w ∙ ap (count_by (holds e)) (take-set slots m (get_or slots m no_slot)) in
          let u : one_at e (edge_in slots at) ≡ one_at e (edge_in slots m) = ap (λ j. one_at e (edge_in slots j)) w in
          omega (arith, t, u, before e)

  -- the edge is out, and every other stays
  pub taken_out : (e : ℕ) → with_flag (in_queue slots (m + 1)) (edge_in slots at) false e ≡ in_queue (moved_up slots m at) m e
  taken_out e = go (cases_eq e (edge_in slots at))
    where
      go : (e ≡ (edge_in slots at)) ⊎ (e ≡ (edge_in slots at) → ⊥) → with_flag (in_queue slots (m + 1)) (edge_in slots at) false e ≡ in_queue (moved_up slots m at) m e
      go (inl q) =
          let o = one_same e (edge_in slots at) (sym q) in
          ap (λ j. with_flag (in_queue slots (m + 1)) (edge_in slots at) false j) q ∙ flag_same (in_queue slots (m + 1)) (edge_in slots at) false
          ∙ sym (le-ltb 0 (times (moved_up slots m at) m e) (omega (arith, o, after e, filled.once e)))
      go (inr q) =
          let o = one_other e (edge_in slots at) (λ z. q (sym z)) in
          let w : times slots (m + 1) e ≡ times (moved_up slots m at) m e = omega (arith, o, after e) in
          flag_other (in_queue slots (m + 1)) (edge_in slots at) false e q ∙ ap (λ t. ltb 0 t) w

  pub filled_less : Filled (moved_up slots m at) m n
  filled_less =
      let s = standing slots (m + 1) at h l in
      record {
        room = omega (arith, filled.room, length-set slots at (get_or slots m no_slot));
        once = λ e. omega (arith, filled.once e, after e);
        drawn = drawn_less;
        counted = omega (arith, filled.counted, less, tally_same _ _ n (λ k _. taken_out k));
      }
    where
      less : tally (in_queue slots (m + 1)) n ≡ tally (with_flag (in_queue slots (m + 1)) (edge_in slots at) false) n + 1
      less = tally_more (with_flag (in_queue slots (m + 1)) (edge_in slots at) false) (in_queue slots (m + 1)) n (edge_in slots at) (filled.drawn at h) (flag_same (in_queue slots (m + 1)) (edge_in slots at) false) (standing slots (m + 1) at h l) (λ k q. flag_other (in_queue slots (m + 1)) (edge_in slots at) false k q)

      drawn_less : (k : ℕ) → k < m → edge_in (moved_up slots m at) k < n
      drawn_less k q = set_at (λ s. s.edge < n) slots at (get_or slots m no_slot) k no_slot (omega arith) (λ _. filled.drawn m (omega arith)) (λ _. filled.drawn k (omega arith))

module _ (slots : List QueueSlot) (len n f : ℕ) (filled : Filled slots len n) (new : in_queue slots len f ≡ false) (drawn : f < n) where
  pub has_room : len < n
  has_room = omega (arith, tally_short (in_queue slots len) n f drawn new, filled.counted)

  grown : (e : ℕ) → times (put_in slots len f) (len + 1) e ≡ times slots len e + one_at e f
  grown e =
      let i : len < length slots = omega (arith, has_room, filled.room) in
      ap (count_by (holds e)) (take_more_set slots len (record { edge = f }) i) ∙ sum_by_push (λ s. cond (holds e s) 1 0) (take len slots) (record { edge = f })

  -- the edge is in, and every other stays
  pub brought_in : (e : ℕ) → with_flag (in_queue slots len) f true e ≡ in_queue (put_in slots len f) (len + 1) e
  brought_in e = go (cases_eq e f)
    where
      go : (e ≡ f) ⊎ (e ≡ f → ⊥) → with_flag (in_queue slots len) f true e ≡ in_queue (put_in slots len f) (len + 1) e
      go (inl q) =
          let o = one_same e f (sym q) in
          ap (λ j. with_flag (in_queue slots len) f true j) q ∙ flag_same (in_queue slots len) f true
          ∙ sym (lt-ltb 0 (times (put_in slots len f) (len + 1) e) (omega (arith, o, grown e)))
      go (inr q) =
          let o = one_other e f (λ z. q (sym z)) in
          let w : times slots len e ≡ times (put_in slots len f) (len + 1) e = omega (arith, o, grown e) in
          flag_other (in_queue slots len) f true e q ∙ ap (λ t. ltb 0 t) w

  pub filled_more : Filled (put_in slots len f) (len + 1) n
  filled_more =
      record {
        room = omega (arith, filled.room, length-set slots len (record { edge = f }));
        once = λ e. once_more e (cases_eq e f);
        drawn = drawn_more;
        counted = omega (arith, filled.counted, more, tally_same _ _ n (λ k _. brought_in k));
      }
    where
      more : tally (with_flag (in_queue slots len) f true) n ≡ tally (in_queue slots len) n + 1
      more = tally_more (in_queue slots len) (with_flag (in_queue slots len) f true) n f drawn new (flag_same (in_queue slots len) f true) (λ k q. sym (flag_other (in_queue slots len) f true k q))

      once_more : (e : ℕ) → (e ≡ f) ⊎ (e ≡ f → ⊥) → times (put_in slots len f) (len + 1) e ≤ 1
      once_more e (inl q) =
          let z : times slots len e ≤ 0 = ltb-false 0 (times slots len e) (ap (in_queue slots len) q ∙ new) in
          omega (arith, grown e, one_same e f (sym q), z)
      once_more e (inr q) = omega (arith, grown e, one_other e f (λ z. q (sym z)), filled.once e)

      drawn_more : (k : ℕ) → k < len + 1 → edge_in (put_in slots len f) k < n
      drawn_more k q = set_at (λ s. s.edge < n) slots len (record { edge = f }) k no_slot (omega (arith, q, has_room, filled.room)) (λ _. drawn) (λ e. filled.drawn k (omega (arith, e, q)))

-- what is counted is found
counted_found : {X : Type 0} (p : X → Bool) (xs : List X) (d : X) → 0 < count_by p xs → (k : ℕ) × (k < length xs) × (p (get_or xs k d) ≡ true)
counted_found p [] d h = absurd (omega arith)
counted_found {X} p (x ∷ xs) d h = go (cases_Bool (p x)) (counted_found p xs d)
  where
    go : (p x ≡ true) ⊎ (p x ≡ false) → (0 < count_by p xs → (k : ℕ) × (k < length xs) × (p (get_or xs k d) ≡ true)) → (k : ℕ) × (k < length (x ∷ xs)) × (p (get_or (x ∷ xs) k d) ≡ true)
    go (inl e) rest = (0, omega arith, e)
    go (inr e) rest =
        let s = sum_by-cons (λ y. cond (p y) 1 0) x xs in
        let z : ◌≡◌ {A = ℕ} (cond (p x) 1 0) 0 = ap (λ b. cond b 1 0) e in
        let r = rest (omega (arith, s, z)) in
        (suc r.0, omega (arith, r.1), r.2)

-- an edge in the queue stands in a slot
pub slot_of : (slots : List QueueSlot) (len f : ℕ) → len ≤ length slots → in_queue slots len f ≡ true → (k : ℕ) × (k < len) × (edge_in slots k ≡ f)
slot_of slots len f l h =
    let r = counted_found (holds f) (take len slots) no_slot (ltb-true 0 (times slots len f) h) in
    let n = length-take-le len slots l in
    let k : r.0 < len = omega (arith, r.1, n) in
    (r.0, k, sym (ap (λ (s : QueueSlot). s.edge) (get_or-take len slots r.0 no_slot k)) ∙ eqb-true (get_or (take len slots) r.0 no_slot).edge f r.2)

-- the queue is no longer than its slots
pub filled_within : (slots : List QueueSlot) (len n : ℕ) → Filled slots len n → len ≤ length slots
filled_within slots len n filled = omega (arith, filled.counted, filled.room, tally_bound (in_queue slots len) n)
