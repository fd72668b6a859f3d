-- Relaxing one step out of the edge that was taken: a lemma for each case.
-- Assumes nothing.
use Rattle.std.proofs.Common.{◌≡◌, ℕ, ◌+◌, ◌<◌, ◌≤◌, Bool, true, false, cond, ◌⊎◌, length, is_some, Some, None, Option, sym, refl, ap, ◌∙◌, subst, ap₂, subst₂, inl, inr, arith}
use mathlib.Core.Path.{fun_ext}
use Rattle.std.proofs.lemmas.Bool.{cases_eq, true≢false, both_ways, cond-false}
use Rattle.walks.specs.Networks.{Network, Usable, Step, Even}
use Rattle.walks.specs.Labels.{Label, Labelling, first_label, extension, KeyAtMost, LabelLess, AtMost, Relaxed, Entered}
use Rattle.walks.specs.Loop.{Queue, with_label, with_flag, settled, tally, Running, Relaxing}
use Rattle.walks.proofs.Options.{some_only, none_not_some}
use Rattle.walks.proofs.Tally.{tally_same, tally_full}
use Rattle.walks.proofs.Keys.{less_at_most, key_before_lem, key_at_most, key_label, key_extension, extension_places}
use Rattle.walks.proofs.Loop.{label_same, label_other, flag_same, flag_other, flag_apart, flag_kept, settled_queued, settled_parts, settled_number}

-- the step to k needs no write
pub relax_keep :
    {g : Network} {a : ℕ} {L : Labelling} {Q : Queue} {n e : ℕ} {x : Label} {k : ℕ} → Relaxing g a L Q n e x k
    → (Usable g k → Step g e k → Relaxed g L x e k)
    → Relaxing g a L Q n e x (k + 1)
relax_keep {g} {a} {L} {Q} {n} {e} {x} {k} r h =
    record {
      running = r.running;
      labelled = r.labelled;
      taken = r.taken;
      last = r.last;
      closed = λ d f y p q l u s. go d f y p q l u s (cases_eq f k) (cases_eq d e);
    }
  where
    go :
        (d f : ℕ) (y : Label) → L d ≡ Some y → Q d ≡ false → (d ≡ e → f < k + 1) → Usable g f → Step g d f
        → (f ≡ k) ⊎ (f ≡ k → ⊥) → (d ≡ e) ⊎ (d ≡ e → ⊥) → Relaxed g L y d f
    go d f y p q l u s i (inr j) = r.closed d f y p q (λ m. absurd (j m)) u s
    go d f y p q l u s (inr i) (inl j) = r.closed d f y p q (λ m. omega (arith, l m)) u s
    go d f y p q l u s (inl i) (inl j) =
        let v : x ≡ y = some_only r.labelled (subst (λ c. L c ≡ Some y) j p) in
        let w : Relaxed g L x e k = h (subst (Usable g) i u) (subst₂ (Step g) j i s) in
        let G : Label → ℕ → ℕ → Type 0 = λ z c b. Relaxed g L z c b in
        subst₂ (G y) (sym j) (sym i) (subst (λ z. Relaxed g L z e k) v w)

-- no step to k, or k is not usable
pub relax_no_step :
    {g : Network} {a : ℕ} {L : Labelling} {Q : Queue} {n e : ℕ} {x : Label} {k : ℕ} → Relaxing g a L Q n e x k
    → (Usable g k → Step g e k → ⊥)
    → Relaxing g a L Q n e x (k + 1)
relax_no_step r h = relax_keep r (λ u s. absurd (h u s))

-- k has a label that is no worse
pub relax_kept :
    {g : Network} {a : ℕ} {L : Labelling} {Q : Queue} {n e : ℕ} {x : Label} {k : ℕ} → Relaxing g a L Q n e x k
    → (y : Label) → L k ≡ Some y → AtMost y (extension g x e k)
    → Relaxing g a L Q n e x (k + 1)
relax_kept r y p b = relax_keep r (λ u s. record { label = y; labelled = p; bound = b })

-- a settled label is less than any extension
settled_bound :
    {g : Network} {a : ℕ} {L : Labelling} {Q : Queue} {n e : ℕ} {x : Label} {k : ℕ} → Even g → Relaxing g a L Q n e x k
    → (f : ℕ) (y : Label) → L f ≡ Some y → Q f ≡ false → LabelLess y (extension g x e f)
settled_bound {g} {e = e} {x = x} even r f y p q =
    key_label y (extension g x e f)
    (key_before_lem y x (extension g x e f) (r.last f y p q)
    (key_extension g even x e f (r.running.places e x r.labelled)))

-- k is settled
pub relax_settled :
    {g : Network} {a : ℕ} {L : Labelling} {Q : Queue} {n e : ℕ} {x : Label} {k : ℕ} → Even g → Relaxing g a L Q n e x k
    → (y : Label) → L k ≡ Some y → Q k ≡ false
    → Relaxing g a L Q n e x (k + 1)
relax_settled {k = k} even r y p q = relax_kept r y p (inr (settled_bound even r k y p q))

-- the label of e has as many edges as are drawn: every edge is settled, and there is nothing left to do
pub relax_full :
    {g : Network} {a : ℕ} {L : Labelling} {Q : Queue} {n e : ℕ} {x : Label} {k : ℕ} → Even g → Relaxing g a L Q n e x k
    → g.edges ≤ x.edges → (j : ℕ) → Relaxing g a L Q n e x j
relax_full {g} {a} {L} {Q} {n} {e} {x} {k} even r l j =
    record {
      running = r.running;
      labelled = r.labelled;
      taken = r.taken;
      last = r.last;
      closed = λ d f y p q _ u s. go d f y p q u s (cases_eq d e);
    }
  where
    all : tally (settled L Q) g.edges ≡ g.edges
    all =
        omega
        (arith, r.running.counted, settled_number r.running, r.running.settled_edges e x r.labelled r.taken)

    reached : (f : ℕ) → f < g.edges → Relaxed g L x e f
    reached f m =
        let h = settled_parts L Q f (tally_full (settled L Q) g.edges all f m) in
        let y = h.1.0 in
        record { label = y; labelled = h.1.1; bound = inr (settled_bound even r f y h.1.1 h.0) }

    go :
        (d f : ℕ) (y : Label) → L d ≡ Some y → Q d ≡ false → Usable g f → Step g d f → (d ≡ e) ⊎ (d ≡ e → ⊥)
        → Relaxed g L y d f
    go d f y p q u s (inr i) = r.closed d f y p q (λ m. absurd (i m)) u s
    go d f y p q u s (inl i) =
        let v : x ≡ y = some_only r.labelled (subst (λ c. L c ≡ Some y) i p) in
        subst₂ (λ z c. Relaxed g L z c f) v (sym i) (reached f u.0)

module _
    {g : Network} {a : ℕ} {L : Labelling} {Q : Queue} {n e : ℕ} {x : Label} {k : ℕ} (even : Even g)
    (r : Relaxing g a L Q n e x k) (usable : Usable g k) (step : Step g e k)
    (open-k : (y : Label) → L k ≡ Some y → (Q k ≡ true) × LabelLess (extension g x e k) y)
  where
    abbrev new : Label
    new = extension g x e k

    abbrev M : Labelling
    M = with_label L k new

    abbrev R : Queue
    R = with_flag Q k true

    -- k was not settled
    apart : (d : ℕ) (y : Label) → L d ≡ Some y → Q d ≡ false → d ≡ k → ⊥
    apart d y p q i =
        let h = open-k y (subst (λ c. L c ≡ Some y) i p) in
        both_ways (Q k) (subst (λ c. Q c ≡ false) i q) h.0

    e_apart : e ≡ k → ⊥
    e_apart = apart e x r.labelled r.taken

    -- the first edge was taken before
    first_out : Q a ≡ true → ⊥
    first_out q =
        let i = r.running.alone q e x r.labelled in
        both_ways (Q e) r.taken (subst (λ c. Q c ≡ true) (sym i) q)

    first_apart : a ≡ k → ⊥
    first_apart i =
        let h = open-k (first_label g a) (subst (λ c. L c ≡ Some (first_label g a)) i r.running.first) in
        first_out (subst (λ c. Q c ≡ true) (sym i) h.0)

    -- the settled edges are as they were
    put_back : (d : ℕ) (y : Label) → M d ≡ Some y → R d ≡ false → (L d ≡ Some y) × (Q d ≡ false)
    put_back d y p q = (
      sym (label_other L k new d (flag_apart Q k true false d true≢false q)) ∙ p,
      flag_kept Q k true false d true≢false q,
    )

    put_ahead : (d : ℕ) (y : Label) → L d ≡ Some y → Q d ≡ false → (M d ≡ Some y) × (R d ≡ false)
    put_ahead d y p q =
        let i = apart d y p q in
        (label_other L k new d i ∙ p, flag_other Q k true d i ∙ q)

    -- what is labelled afterwards is k, or was labelled before
    put_cases : (d : ℕ) (y : Label) → M d ≡ Some y → ((d ≡ k) × (new ≡ y)) ⊎ ((d ≡ k → ⊥) × (L d ≡ Some y))
    put_cases d y p = go (cases_eq d k)
      where
        go : (d ≡ k) ⊎ (d ≡ k → ⊥) → ((d ≡ k) × (new ≡ y)) ⊎ ((d ≡ k → ⊥) × (L d ≡ Some y))
        go (inl i) = inl (i, some_only (subst (λ c. M c ≡ Some new) (sym i) (label_same L k new)) p)
        go (inr i) = inr (i, sym (label_other L k new d i) ∙ p)

    -- the new label comes after every settled one
    put_key : (d : ℕ) (y : Label) → L d ≡ Some y → Q d ≡ false → KeyAtMost y new
    put_key d y p q =
        key_at_most y new
        (key_before_lem y x new (r.last d y p q) (key_extension g even x e k (r.running.places e x r.labelled)))

    put_queued : (d : ℕ) → R d ≡ true → (d ≡ k) ⊎ (d ≡ k → ⊥) → (y : Label) × (M d ≡ Some y)
    put_queued d q (inl i) = (new, subst (λ c. M c ≡ Some new) (sym i) (label_same L k new))
    put_queued d q (inr i) =
        let h = r.running.queued d (sym (flag_other Q k true d i) ∙ q) in
        (h.0, label_other L k new d i ∙ h.1)

    put_places :
        (d : ℕ) (y : Label) → ((d ≡ k) × (new ≡ y)) ⊎ ((d ≡ k → ⊥) × (L d ≡ Some y)) → length y.row ≡ g.places
    put_places d y (inl (i, v)) =
        subst (λ z. length z.row ≡ g.places) v (extension_places g even x e k (r.running.places e x r.labelled))
    put_places d y (inr (i, p)) = r.running.places d y p

    -- a settled edge that entered f still does
    put_entered :
        (f : ℕ) (y : Label) → ((f ≡ k) × (new ≡ y)) ⊎ ((f ≡ k → ⊥) × (L f ≡ Some y)) → (f ≡ a → ⊥)
        → (d : ℕ) × (R d ≡ false) × Entered g M d f y
    put_entered f y (inl (i, v)) m =
        let h = put_ahead e x r.labelled r.taken in
        let G : ℕ → Type 0 = λ c. (d : ℕ) × (R d ≡ false) × Entered g M d c y in
        subst G (sym i)
        (e, h.1, record { usable = usable; step = step; label = x; labelled = h.0; value = sym v })
    put_entered f y (inr (i, p)) m =
        let h = r.running.entered f y p m in
        let w = h.2 in
        let z = put_ahead h.0 w.label w.labelled h.1 in (
          h.0,
          z.1,
          record { usable = w.usable; step = w.step; label = w.label; labelled = z.0; value = w.value },
        )

    put_ordered :
        (d f : ℕ) (y z : Label) → M d ≡ Some y → R d ≡ false → R f ≡ true
        → ((f ≡ k) × (new ≡ z)) ⊎ ((f ≡ k → ⊥) × (L f ≡ Some z)) → KeyAtMost y z
    put_ordered d f y z p q s (inl (i, v)) =
        let h = put_back d y p q in
        subst (KeyAtMost y) v (put_key d y h.0 h.1)
    put_ordered d f y z p q s (inr (i, m)) =
        let h = put_back d y p q in
        r.running.ordered d f y z h.0 h.1 m (sym (flag_other Q k true f i) ∙ s)

    put_settled : (d : ℕ) → (d ≡ k) ⊎ (d ≡ k → ⊥) → settled M R d ≡ settled L Q d
    put_settled d (inl i) =
        subst (λ c. settled M R c ≡ settled L Q c) (sym i) (settled_queued M R k (flag_same Q k true) ∙ sym (before (Q k) (L k) refl refl))
      where
        before : (b : Bool) (o : Option Label) → Q k ≡ b → L k ≡ o → settled L Q k ≡ false
        before true o q p = settled_queued L Q k q
        before false None q p = cond-false (Q k) false (is_some (L k)) q ∙ ap is_some p
        before false (Some y) q p = absurd (apart k y p q refl)
    put_settled d (inr i) =
        ap₂ (λ (b : Bool) (o : Option Label). cond b false (is_some o)) (flag_other Q k true d i) (label_other L k new d i)

    put_edges :
        (d : ℕ) (y : Label) → R d ≡ true → ((d ≡ k) × (new ≡ y)) ⊎ ((d ≡ k → ⊥) × (L d ≡ Some y)) → y.edges ≤ n + 1
    put_edges d y q (inl (i, v)) =
        omega (arith, ap (λ z. z.edges) v, r.running.settled_edges e x r.labelled r.taken)
    put_edges d y q (inr (i, p)) = r.running.queued_edges d y p (sym (flag_other Q k true d i) ∙ q)

    put_running : Running g a M R n
    put_running =
        record {
          usable = r.running.usable;
          first = label_other L k new a first_apart ∙ r.running.first;
          alone = λ q. absurd (first_out (sym (flag_other Q k true a first_apart) ∙ q));
          queued = λ d q. put_queued d q (cases_eq d k);
          places = λ d y p. put_places d y (put_cases d y p);
          entered = λ f y p m. put_entered f y (put_cases f y p) m;
          ordered = λ d f y z p q m s. put_ordered d f y z p q s (put_cases f z m);
          counted =
              tally_same (settled M R) (settled L Q) g.edges (λ d _. put_settled d (cases_eq d k)) ∙ r.running.counted;
          settled_edges = λ d y p q. let h = put_back d y p q in r.running.settled_edges d y h.0 h.1;
          queued_edges = λ d y p q. put_edges d y q (put_cases d y p);
        }

    -- the step from e is relaxed by the new label, and the others still are
    put_closed :
        (d f : ℕ) (y : Label) → L d ≡ Some y → Q d ≡ false → (d ≡ e → f < k + 1) → Usable g f → Step g d f
        → (f ≡ k) ⊎ (f ≡ k → ⊥) → (d ≡ e) ⊎ (d ≡ e → ⊥) → Relaxed g M y d f
    put_closed d f y p q l u s (inl i) (inl j) =
        let v : x ≡ y = some_only r.labelled (subst (λ c. L c ≡ Some y) j p) in
        let w : Relaxed g M x e k = record { label = new; labelled = label_same L k new; bound = inl refl } in
        subst₂ (Relaxed g M y) (sym j) (sym i) (subst (λ z. Relaxed g M z e k) v w)
    put_closed d f y p q l u s (inl i) (inr j) =
        let h = r.closed d k y p q (λ m. absurd (j m)) (subst (Usable g) i u) (subst (Step g d) i s) in
        let b = open-k h.label h.labelled in
        let w : Relaxed g M y d k =
        record {
          label = new;
          labelled = label_same L k new;
          bound = inr (less_at_most new h.label (extension g y d k) b.1 h.bound);
        }
        in
        subst (Relaxed g M y d) (sym i) w
    put_closed d f y p q l u s (inr i) j =
        let h = r.closed d f y p q (λ m. omega (arith, l m)) u s in
        record { label = h.label; labelled = label_other L k new f i ∙ h.labelled; bound = h.bound }

    relax_put : Relaxing g a (with_label L k (extension g x e k)) (with_flag Q k true) n e x (k + 1)
    relax_put =
        let h = put_ahead e x r.labelled r.taken in
        record {
          running = put_running;
          labelled = h.0;
          taken = h.1;
          last = λ d y p q. let b = put_back d y p q in r.last d y b.0 b.1;
          closed =
              λ d f y p q l u s.
              let b = put_back d y p q in
              put_closed d f y b.0 b.1 l u s (cases_eq f k) (cases_eq d e);
        }

-- k has no label: it gets the extension and enters the queue
pub relax_new :
    {g : Network} {a : ℕ} {L : Labelling} {Q : Queue} {n e : ℕ} {x : Label} {k : ℕ} → Even g → Relaxing g a L Q n e x k
    → Usable g k → Step g e k → L k ≡ None
    → Relaxing g a (with_label L k (extension g x e k)) (with_flag Q k true) n e x (k + 1)
relax_new even r u s o = relax_put even r u s (λ y p. absurd (none_not_some o p))

-- k is in the queue and the extension is better: it gets the extension
pub relax_better :
    {g : Network} {a : ℕ} {L : Labelling} {Q : Queue} {n e : ℕ} {x : Label} {k : ℕ} → Even g → Relaxing g a L Q n e x k
    → Usable g k → Step g e k → (y : Label) → L k ≡ Some y → Q k ≡ true → LabelLess (extension g x e k) y
    → Relaxing g a (with_label L k (extension g x e k)) Q n e x (k + 1)
relax_better {g} {a} {L} {Q} {n} {e} {x} {k} even r u s y p q l =
    let t : with_flag Q k true ≡ Q = fun_ext (λ d. go d (cases_eq d k)) in
    subst (λ (P : Queue). Relaxing g a (with_label L k (extension g x e k)) P n e x (k + 1)) t
    (relax_put even r u s (λ z m. (q, subst (LabelLess (extension g x e k)) (some_only p m) l)))
  where
    go : (d : ℕ) → (d ≡ k) ⊎ (d ≡ k → ⊥) → with_flag Q k true d ≡ Q d
    go d (inl i) = subst (λ c. with_flag Q k true c ≡ Q c) (sym i) (flag_same Q k true ∙ sym q)
    go d (inr i) = flag_other Q k true d i
