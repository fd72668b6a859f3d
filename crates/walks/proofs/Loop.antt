-- The turns of a label-setting search keep its invariant, and an empty queue leaves a certified labelling.
-- Assumes nothing.
use Rattle.std.proofs.Common.{◌≡◌, ℕ, ◌+◌, ◌<◌, ◌≤◌, Bool, true, false, cond, eqb, ◌⊎◌, length, is_some, Some, None, Option, sym, refl, ap, ◌∙◌, subst, subst₂, inl, inr, arith}
use mathlib.Core.Path.{fun_ext}
use Rattle.std.proofs.lemmas.Bool.{cases_eq, cases_Bool, true≢false, eq-eqb, ne_eqb, cond-true, cond-false}
use Rattle.walks.specs.Networks.{Network, Usable, Even}
use Rattle.walks.specs.Labels.{Label, Labelling, first_label, KeyAtMost, Certified}
use Rattle.walks.specs.Loop.{Queue, with_label, with_flag, settled, Running, Inv, Relaxing}
use Rattle.walks.proofs.Options.{some_only, none_not_some}
use Rattle.walks.proofs.Tally.{tally_bound, tally_short, tally_more, tally_none}
use Rattle.walks.proofs.Keys.{key_refl}

-- reads of a labelling and of a queue after a write
pub label_same : (L : Labelling) (f : ℕ) (x : Label) → with_label L f x f ≡ Some x
label_same L f x = cond-true (eqb f f) (Some x) (L f) (eq-eqb f f refl)

pub label_other : (L : Labelling) (f : ℕ) (x : Label) (e : ℕ) → (e ≡ f → ⊥) → with_label L f x e ≡ L e
label_other L f x e d = cond-false (eqb e f) (Some x) (L e) (ne_eqb e f d)

pub flag_same : (Q : Queue) (f : ℕ) (b : Bool) → with_flag Q f b f ≡ b
flag_same Q f b = cond-true (eqb f f) b (Q f) (eq-eqb f f refl)

pub flag_other : (Q : Queue) (f : ℕ) (b : Bool) (e : ℕ) → (e ≡ f → ⊥) → with_flag Q f b e ≡ Q e
flag_other Q f b e d = cond-false (eqb e f) b (Q e) (ne_eqb e f d)

-- an edge that does not have the flag that was written is another one
pub flag_apart : (Q : Queue) (f : ℕ) (b c : Bool) (e : ℕ) → (b ≡ c → ⊥) → with_flag Q f b e ≡ c → e ≡ f → ⊥
flag_apart Q f b c e n p q =
    n (sym (flag_same Q f b) ∙ subst (λ d. with_flag Q f b d ≡ c) q p)

pub flag_kept : (Q : Queue) (f : ℕ) (b c : Bool) (e : ℕ) → (b ≡ c → ⊥) → with_flag Q f b e ≡ c → Q e ≡ c
flag_kept Q f b c e n p = sym (flag_other Q f b e (flag_apart Q f b c e n p)) ∙ p

pub flag_more : (Q : Queue) (f : ℕ) (b : Bool) (e : ℕ) → Q e ≡ b → with_flag Q f b e ≡ b
flag_more Q f b e p = go (cases_eq e f)
  where
    go : (e ≡ f) ⊎ (e ≡ f → ⊥) → with_flag Q f b e ≡ b
    go (inl q) = subst (λ d. with_flag Q f b d ≡ b) (sym q) (flag_same Q f b)
    go (inr d) = flag_other Q f b e d ∙ p

pub false≠true : false ≡ true → ⊥
false≠true p = true≢false (sym p)

-- the test for settled edges
pub settled_yes : (L : Labelling) (Q : Queue) (e : ℕ) (x : Label) → L e ≡ Some x → Q e ≡ false → settled L Q e ≡ true
settled_yes L Q e x p q = cond-false (Q e) false (is_some (L e)) q ∙ ap is_some p

pub settled_queued : (L : Labelling) (Q : Queue) (e : ℕ) → Q e ≡ true → settled L Q e ≡ false
settled_queued L Q e q = cond-true (Q e) false (is_some (L e)) q

pub settled_parts : (L : Labelling) (Q : Queue) (e : ℕ) → settled L Q e ≡ true → (Q e ≡ false) × ((x : Label) × (L e ≡ Some x))
settled_parts L Q e = go (Q e) (L e) refl refl
  where
    go :
        (b : Bool) (o : Option Label) → Q e ≡ b → L e ≡ o → settled L Q e ≡ true
        → (Q e ≡ false) × ((x : Label) × (L e ≡ Some x))
    go true o q p s = absurd (true≢false (sym s ∙ settled_queued L Q e q))
    go false None q p s = absurd (true≢false (sym s ∙ cond-false (Q e) false (is_some (L e)) q ∙ ap is_some p))
    go false (Some x) q p s = (q, (x, p))

pub settled_number : {g : Network} {a : ℕ} {L : Labelling} {Q : Queue} {n : ℕ} → Running g a L Q n → n ≤ g.edges
settled_number {g} {a} {L} {Q} r = omega (arith, tally_bound (settled L Q) g.edges, r.counted)

pub labelled_usable :
    {g : Network} {a : ℕ} {L : Labelling} {Q : Queue} {n : ℕ} → Running g a L Q n → (e : ℕ) (x : Label) → L e ≡ Some x → Usable g e
labelled_usable {g} {a} r e x p = go (cases_eq e a)
  where
    go : (e ≡ a) ⊎ (e ≡ a → ⊥) → Usable g e
    go (inl q) = subst (Usable g) (sym q) r.usable
    go (inr d) = (r.entered e x p d).2.usable

-- while an edge is in the queue, not all are settled
pub settled_less :
    {g : Network} {a : ℕ} {L : Labelling} {Q : Queue} {n : ℕ} → Running g a L Q n → (e : ℕ) → Q e ≡ true → n < g.edges
settled_less {g} {a} {L} {Q} r e q =
    let h = r.queued e q in
    let u = labelled_usable r e h.0 h.1 in
    omega (arith, tally_short (settled L Q) g.edges e u.0 (settled_queued L Q e q), r.counted)

-- no label has more edges than are drawn
pub label_edges :
    {g : Network} {a : ℕ} {L : Labelling} {Q : Queue} {n : ℕ} → Running g a L Q n → (e : ℕ) (x : Label) → L e ≡ Some x → x.edges ≤ g.edges
label_edges {g} {a} {L} {Q} r e x p = go (cases_Bool (Q e))
  where
    go : (Q e ≡ true) ⊎ (Q e ≡ false) → x.edges ≤ g.edges
    go (inl q) = omega (arith, settled_less r e q, r.queued_edges e x p q)
    go (inr q) = omega (arith, settled_number r, r.settled_edges e x p q)

-- and none has none
pub label_filled :
    {g : Network} {a : ℕ} {L : Labelling} {Q : Queue} {n : ℕ} → Running g a L Q n → (e : ℕ) (x : Label) → L e ≡ Some x → 1 ≤ x.edges
label_filled {g} {a} {L} r e x p = go (cases_eq e a)
  where
    go : (e ≡ a) ⊎ (e ≡ a → ⊥) → 1 ≤ x.edges
    go (inl q) =
        omega (arith, ap (λ y. y.edges) (some_only r.first (subst (λ d. L d ≡ Some x) q p)))
    go (inr d) = omega (arith, ap (λ y. y.edges) (r.entered e x p d).2.value)

-- the records say the same of labellings and queues that agree at every edge
pub inv_same :
    {g : Network} {a : ℕ} {L M : Labelling} {Q R : Queue} {n : ℕ} → ((e : ℕ) → L e ≡ M e) → ((e : ℕ) → Q e ≡ R e)
    → Inv g a L Q n → Inv g a M R n
inv_same {g} {a} {L} {M} {Q} {R} {n} l q i = subst₂ (λ X Y. Inv g a X Y n) (fun_ext l) (fun_ext q) i

pub relaxing_same :
    {g : Network} {a : ℕ} {L M : Labelling} {Q R : Queue} {n e : ℕ} {x : Label} {k : ℕ}
    → ((d : ℕ) → L d ≡ M d) → ((d : ℕ) → Q d ≡ R d)
    → Relaxing g a L Q n e x k → Relaxing g a M R n e x k
relaxing_same {g} {a} {L} {M} {Q} {R} {n} {e} {x} {k} l q i =
    subst₂ (λ X Y. Relaxing g a X Y n e x k) (fun_ext l) (fun_ext q) i

pub certified_same :
    {g : Network} {a : ℕ} {L M : Labelling} → ((e : ℕ) → L e ≡ M e) → Certified g a L → Certified g a M
certified_same {g} {a} {L} {M} l c = subst (Certified g a) (fun_ext l) c

-- where nothing can be searched, nothing is labelled
pub shut_certified : (g : Network) (a : ℕ) → (Usable g a → ⊥) → Certified g a (λ _. None)
shut_certified g a n =
    record {
      first = λ u. absurd (n u);
      shut = λ _ e. refl;
      closed = λ e f x p. absurd (none_not_some refl p);
      entered = λ f y p. absurd (none_not_some refl p);
    }

pub inv_finish :
    {g : Network} {a : ℕ} {L : Labelling} {Q : Queue} {n : ℕ} → Inv g a L Q n → ((e : ℕ) → Q e ≡ false) → Certified g a L
inv_finish i empty =
    record {
      first = λ _. i.running.first;
      shut = λ u. absurd (u i.running.usable);
      closed = λ e f x p. i.closed e f x p (empty e);
      entered = λ f y p d. let h = i.running.entered f y p d in (h.0, h.2);
    }

pub relaxing_done :
    {g : Network} {a : ℕ} {L : Labelling} {Q : Queue} {n e : ℕ} {x : Label} → Relaxing g a L Q n e x g.edges → Inv g a L Q n
relaxing_done r =
    record { running = r.running; closed = λ d f y p q u s. r.closed d f y p q (λ _. u.0) u s }

-- the first edge, labelled and queued alone, is where the loop begins
pub inv_start :
    (g : Network) (a : ℕ) → Even g → Usable g a
    → Inv g a (with_label (λ _. None) a (first_label g a)) (with_flag (λ _. false) a true) 0
inv_start g a even u =
    record {
      running =
          record {
            usable = u;
            first = label_same (λ _. None) a (first_label g a);
            alone = λ _. only;
            queued = λ e q. (first_label g a, named e (in_queue e q));
            places = λ e x p. subst (λ y. length y.row ≡ g.places) (value e x p) (even 0 (g.long a));
            entered = λ f y p d. absurd (d (only f y p));
            ordered = λ e f x y p q. absurd (waits e x p q);
            counted = tally_none (settled L Q) g.edges (λ e _. unsettled e (cases_eq e a));
            settled_edges = λ e x p q. absurd (waits e x p q);
            queued_edges = λ e x p _. omega (arith, ap (λ y. y.edges) (value e x p));
          };
      closed = λ e f x p q. absurd (waits e x p q);
    }
  where
    L : Labelling
    L = with_label (λ _. None) a (first_label g a)

    Q : Queue
    Q = with_flag (λ _. false) a true

    only : (e : ℕ) (x : Label) → L e ≡ Some x → e ≡ a
    only e x p = go (cases_eq e a)
      where
        go : (e ≡ a) ⊎ (e ≡ a → ⊥) → e ≡ a
        go (inl q) = q
        go (inr d) = absurd (none_not_some (label_other (λ _. None) a (first_label g a) e d) p)

    named : (e : ℕ) → e ≡ a → L e ≡ Some (first_label g a)
    named e q = subst (λ d. L d ≡ Some (first_label g a)) (sym q) (label_same (λ _. None) a (first_label g a))

    value : (e : ℕ) (x : Label) → L e ≡ Some x → first_label g a ≡ x
    value e x p = some_only (named e (only e x p)) p

    in_queue : (e : ℕ) → Q e ≡ true → e ≡ a
    in_queue e q = go (cases_eq e a)
      where
        go : (e ≡ a) ⊎ (e ≡ a → ⊥) → e ≡ a
        go (inl i) = i
        go (inr d) = absurd (true≢false (sym q ∙ flag_other (λ _. false) a true e d))

    waits : (e : ℕ) (x : Label) → L e ≡ Some x → Q e ≡ false → ⊥
    waits e x p q = flag_apart (λ _. false) a true false e true≢false q (only e x p)

    unsettled : (e : ℕ) → (e ≡ a) ⊎ (e ≡ a → ⊥) → settled L Q e ≡ false
    unsettled e (inl i) = settled_queued L Q e (subst (λ d. Q d ≡ true) (sym i) (flag_same (λ _. false) a true))
    unsettled e (inr d) =
        cond-false (Q e) false (is_some (L e)) (flag_other (λ _. false) a true e d)
        ∙ ap is_some (label_other (λ _. None) a (first_label g a) e d)

-- an edge with the least label of the queue is taken from it
pub inv_take :
    {g : Network} {a : ℕ} {L : Labelling} {Q : Queue} {n : ℕ} → Inv g a L Q n → (e : ℕ) (x : Label) → Q e ≡ true → L e ≡ Some x
    → ((f : ℕ) (y : Label) → Q f ≡ true → L f ≡ Some y → KeyAtMost x y)
    → Relaxing g a L (with_flag Q e false) (n + 1) e x 0
inv_take {g} {a} {L} {Q} {n} i e x inside p least =
    record {
      running =
          record {
            usable = r.usable;
            first = r.first;
            alone = λ q. r.alone (still a q);
            queued = λ d q. r.queued d (still d q);
            places = r.places;
            entered = λ f y k d. let h = r.entered f y k d in (h.0, flag_more Q e false h.0 h.1, h.2);
            ordered = λ d f y z k q m s. before d f y z k q m (still f s) (cases_eq d e);
            counted =
                tally_more (settled L Q) (settled L (with_flag Q e false)) g.edges e
                (labelled_usable r e x p).0 (settled_queued L Q e inside)
                (settled_yes L (with_flag Q e false) e x p (flag_same Q e false))
                (λ d k. ap (λ (b : Bool). cond b false (is_some (L d))) (sym (flag_other Q e false d k)))
                ∙ ap (λ m. m + 1) r.counted;
            settled_edges = λ d y k q. bound d y k q (cases_eq d e);
            queued_edges = λ d y k q. omega (arith, r.queued_edges d y k (still d q));
          };
      labelled = p;
      taken = flag_same Q e false;
      last = λ d y k q. after d y k q (cases_eq d e);
      closed = λ d f y k q l. i.closed d f y k (out d q (λ j. absurd (omega (arith, l j))));
    }
  where
    r : Running g a L Q n
    r = i.running

    still : (d : ℕ) → with_flag Q e false d ≡ true → Q d ≡ true
    still d = flag_kept Q e false true d false≠true

    out : (d : ℕ) → with_flag Q e false d ≡ false → (d ≡ e → ⊥) → Q d ≡ false
    out d q k = sym (flag_other Q e false d k) ∙ q

    own : (d : ℕ) (y : Label) → L d ≡ Some y → d ≡ e → x ≡ y
    own d y k j = some_only p (subst (λ c. L c ≡ Some y) j k)

    before :
        (d f : ℕ) (y z : Label) → L d ≡ Some y → with_flag Q e false d ≡ false → L f ≡ Some z → Q f ≡ true
        → (d ≡ e) ⊎ (d ≡ e → ⊥) → KeyAtMost y z
    before d f y z k q m s (inl j) = subst (λ v. KeyAtMost v z) (own d y k j) (least f z s m)
    before d f y z k q m s (inr j) = r.ordered d f y z k (out d q j) m s

    after :
        (d : ℕ) (y : Label) → L d ≡ Some y → with_flag Q e false d ≡ false → (d ≡ e) ⊎ (d ≡ e → ⊥)
        → KeyAtMost y x
    after d y k q (inl j) = subst (λ v. KeyAtMost v x) (own d y k j) (key_refl x)
    after d y k q (inr j) = r.ordered d e y x k (out d q j) p inside

    bound :
        (d : ℕ) (y : Label) → L d ≡ Some y → with_flag Q e false d ≡ false → (d ≡ e) ⊎ (d ≡ e → ⊥)
        → y.edges ≤ n + 1
    bound d y k q (inl j) = omega (arith, ap (λ v. v.edges) (own d y k j), r.queued_edges e x p inside)
    bound d y k q (inr j) = omega (arith, r.settled_edges d y k (out d q j))
