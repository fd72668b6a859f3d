-- Histories that grow by a call, and a replay's outcome.
use Rattle.std.proofs.Common.{◌≡◌, ℕ, ◌+◌, ◌<◌, List, [], ◌∷◌, ◌++◌, length, get_or, take, Result, sym, refl, ap, ◌∙◌, subst, subst₂}
use Rattle.std.proofs.lemmas.List.{map_more, take_more}
use Rattle.cost.specs.declared.kind.CostKind.{Ghosts as Kind}
use Rattle.rules.specs.declared.rule.TurnRule.{Ghosts as Rule}
use Rattle.plan.specs.Studies.{Study, next}
use Rattle.plan.specs.declared.change.Change.{Change as Alteration}
use Rattle.search.specs.Histories.{Agrees, Call as Event, after_calls, next_call}
use Rattle.search.specs.Questions.{Answers, Question, asked_by}
use Rattle.search.specs.declared.answer.Answer.{Answer}
use Rattle.search.specs.declared.fault.QuestionFault.{QuestionFault}
use Rattle.search.specs.declared.label.Label.{Label}
use Rattle.history.specs.Replays.{ReplayedByRun, Run, call_of, calls_of}
use Rattle.history.specs.declared.call.Call.{Call}
use Rattle.history.specs.declared.call.Call.TheVariants.{Change, Ask}

pub after_push : (s : Study) (h : List Event) (c : Event) → after_calls s (h ++ c ∷ []) ≡ next_call (after_calls s h) c
after_push s [] c = refl
after_push s (d ∷ h) c = after_push (next_call s d) h c

-- one call more of a list
pub after_more : {R C : Type 0} (T : Rule R) (K : Kind C) (labels queue route : ℕ) (s : Study) (calls : List (Call R C)) (k : ℕ) (c : Call R C) → k < length calls → c ≡ get_or calls k c
    → after_calls s (calls_of T K labels queue route (take (k + 1) calls)) ≡ next_call (after_calls s (calls_of T K labels queue route (take k calls))) (call_of T K labels queue route c)
after_more T K labels queue route s calls k c l e =
    ap (after_calls s) (map_more (call_of T K labels queue route) calls k c l)
    ∙ after_push s (calls_of T K labels queue route (take k calls)) (call_of T K labels queue route (get_or calls k c))
    ∙ ap (λ x. next_call (after_calls s (calls_of T K labels queue route (take k calls))) (call_of T K labels queue route x)) (sym e)

-- a run that grows by a change, which leaves both lists
run_change : {R C : Type 0} (T : Rule R) (K : Kind C) (queue : ℕ) (s : Study) (h : List (Call R C)) (c : Alteration) (labels labels' : List (Label C)) (route route' : List ℕ)
    → Run T K queue s h labels labels' route route' → Run T K queue s (h ++ Change c ∷ []) labels labels' route route'
run_change T K queue s [] c labels labels' route route' run = run
run_change T K queue s (Change d ∷ h) c labels labels' route route' run = run_change T K queue (next s d) h c labels labels' route route' run
run_change T K queue s (Ask first last rule cost ∷ h) c labels labels' route route' (held, found, r, answers, run) = (held, found, r, answers, run_change T K queue s h c held labels' found route' run)

-- a run that grows by a question, answered in the study after the calls before it
run_ask : {R C : Type 0} (T : Rule R) (K : Kind C) (queue m n : ℕ) (s : Study) (h : List (Call R C)) (a z : ℕ) (rule : R) (cost : C) (labels held labels' : List (Label C)) (route found route' : List ℕ) (r : Result (Answer C) QuestionFault)
    → Run T K queue s h labels held route found
    → Answers K (K.settings cost) (after_calls s (calls_of T K m queue n h)) (asked_by T K rule (K.settings cost) a z (length held) queue (length found)) held labels' found route' r
    → Run T K queue s (h ++ Ask a z rule cost ∷ []) labels labels' route route'
run_ask T K queue m n s [] a z rule cost labels held labels' route found route' r (same, alike) answers = (
  labels',
  route',
  r,
  subst₂ (λ x y. Answers K (K.settings cost) s (asked_by T K rule (K.settings cost) a z (length x) queue (length y)) x labels' y route' r) same alike answers,
  (refl, refl),
)
run_ask T K queue m n s (Change d ∷ h) a z rule cost labels held labels' route found route' r run answers = run_ask T K queue m n (next s d) h a z rule cost labels held labels' route found route' r run answers
run_ask T K queue m n s (Ask b y rule₂ cost₂ ∷ h) a z rule cost labels held labels' route found route' r (held₂, found₂, r₂, answers₂, run) answers =
    (held₂, found₂, r₂, answers₂, run_ask T K queue m n s h a z rule cost held₂ held labels' found₂ found route' r run answers)

-- the first calls of a list, and one more
one_more : {X : Type 0} (xs : List X) (k : ℕ) (x y : X) → k < length xs → x ≡ get_or xs k x → x ≡ y → take k xs ++ y ∷ [] ≡ take (k + 1) xs
one_more xs k x y l e is = ap (λ u. take k xs ++ u ∷ []) (sym is ∙ e) ∙ sym (take_more xs k x l)

pub run_more_change : {R C : Type 0} (T : Rule R) (K : Kind C) (queue : ℕ) (s : Study) (calls : List (Call R C)) (k : ℕ) (x : Call R C) (c : Alteration) (labels labels' : List (Label C)) (route route' : List ℕ)
    → k < length calls → x ≡ get_or calls k x → x ≡ Change c
    → Run T K queue s (take k calls) labels labels' route route' → Run T K queue s (take (k + 1) calls) labels labels' route route'
run_more_change T K queue s calls k x c labels labels' route route' l e is run =
    subst (λ h. Run T K queue s h labels labels' route route') (one_more calls k x (Change c) l e is) (run_change T K queue s (take k calls) c labels labels' route route' run)

pub run_more_ask : {R C : Type 0} (T : Rule R) (K : Kind C) (queue queue' m n : ℕ) (s t : Study) (calls : List (Call R C)) (k : ℕ) (x : Call R C) (a z : ℕ) (rule : R) (cost : C) (labels held labels' : List (Label C)) (route found route' : List ℕ) (r : Result (Answer C) QuestionFault)
    → k < length calls → x ≡ get_or calls k x → x ≡ Ask a z rule cost → queue' ≡ queue → t ≡ after_calls s (calls_of T K m queue n (take k calls))
    → Run T K queue s (take k calls) labels held route found
    → Answers K (K.settings cost) t (asked_by T K rule (K.settings cost) a z (length held) queue' (length found)) held labels' found route' r
    → Run T K queue s (take (k + 1) calls) labels labels' route route'
run_more_ask T K queue queue' m n s t calls k x a z rule cost labels held labels' route found route' r l e is wide same run answers =
    subst (λ h. Run T K queue s h labels labels' route route') (one_more calls k x (Ask a z rule cost) l e is)
    (run_ask T K queue m n s (take k calls) a z rule cost labels held labels' route found route' r run
    (subst₂ (λ u width. Answers K (K.settings cost) u (asked_by T K rule (K.settings cost) a z (length held) width (length found)) held labels' found route' r) same wide answers))

module _ {R C : Type 0} (T : Rule R) (K : Kind C) (rule : R) (σ : K.Settings) (first last : ℕ) (labels held labels' : List (Label C)) (route found route' : List ℕ) (queue queue' : ℕ) (s begin start : Study) (calls : List (Call R C)) (r : Result (Answer C) QuestionFault) (as_many : length held ≡ length labels) (as_long : length found ≡ length route) (as_wide : queue' ≡ queue) (begins : begin ≡ start) (same : s ≡ after_calls start (calls_of T K (length labels) queue (length route) calls)) where
  carried : (P : Study → Question → Type 0) → P s (asked_by T K rule σ first last (length held) queue' (length found)) → P (after_calls start (calls_of T K (length labels) queue (length route) calls)) (asked_by T K rule σ first last (length labels) queue (length route))
  carried P h =
      subst (λ x. P x (asked_by T K rule σ first last (length labels) queue (length route))) same
      (subst (λ n. P s (asked_by T K rule σ first last (length labels) queue n)) as_long
      (subst (λ n. P s (asked_by T K rule σ first last (length labels) n (length found))) as_wide
      (subst (λ n. P s (asked_by T K rule σ first last n queue' (length found))) as_many h)))

  pub replayed : Run T K queue begin calls labels held route found
      → Answers K σ s (asked_by T K rule σ first last (length held) queue' (length found)) held labels' found route' r
      → Agrees K σ s (asked_by T K rule σ first last (length held) queue' (length found)) route' r
      → ReplayedByRun T K σ start calls (asked_by T K rule σ first last (length labels) queue (length route)) labels labels' route route' r
  replayed run answers agrees = record {
    replayed = record {
      held = held;
      found = found;
      as_many = as_many;
      as_long = as_long;
      answers = carried (λ x q. Answers K σ x q held labels' found route' r) answers;
      agrees = carried (λ x q. Agrees K σ x q route' r) agrees;
    };
    run = subst (λ x. Run T K queue x calls labels held route found) begins run;
  }
