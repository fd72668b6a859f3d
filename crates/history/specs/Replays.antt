-- What a replay answers.
--
-- Glossary
--   call_of T K labels queue route c    the call c as what it brings: a change, or a question with these lengths of labels, queue and route list
--   calls_of ..                         all calls of a list
--   drawn_over rows edges               rows that were brought, after these edges were drawn in the first of them
--   Replayed ..                         after the history of calls from the making of the study, the last question is answered as Answers says of the plain study
--                                       after that history, over lists of the lengths that were brought, and as every alike question is
--   Run T K queue s calls labels labels' route route'
--                                       the calls, made one after the other in the study s with a queue of this length, take the labels and the route list
--                                       from labels and route to labels' and route': a change leaves both lists; a question writes them as Answers says, in
--                                       the study after the calls before it and with its own rule and settings, and whatever it answers is let go
--   ReplayedByRun T K σ start calls ..  Replayed after these calls from the study start, where the lists that the last question was asked over are those to
--                                       which the calls took the labels and the route list that were brought
-- Assumes nothing.
use Rattle.std.specs.Prelude.{◌≡◌, ℕ, List, [], ◌∷◌, ◌++◌, map, length, drop, Result}
use Rattle.cost.specs.declared.kind.CostKind.{Ghosts as Kind}
use Rattle.rules.specs.declared.rule.TurnRule.{Ghosts as Rule}
use Rattle.plan.specs.Studies.{Study, next}
use Rattle.plan.specs.declared.row.EdgeRow.{EdgeRow}
use Rattle.search.specs.Histories.{Agrees, Call as Event, after_calls, asking, changing}
use Rattle.search.specs.Questions.{Answers, Question, asked_by}
use Rattle.search.specs.declared.answer.Answer.{Answer}
use Rattle.search.specs.declared.fault.QuestionFault.{QuestionFault}
use Rattle.search.specs.declared.label.Label.{Label}
use Rattle.history.specs.declared.call.Call.{Call}
use Rattle.history.specs.declared.call.Call.TheVariants.{Change, Ask}

abbrev pub call_of : {R C : Type 0} → Rule R → Kind C → ℕ → ℕ → ℕ → Call R C → Event
call_of T K labels queue route (Change c) = changing c
call_of T K labels queue route (Ask first last rule cost) = asking (asked_by T K rule (K.settings cost) first last labels queue route)

abbrev pub calls_of : {R C : Type 0} → Rule R → Kind C → ℕ → ℕ → ℕ → List (Call R C) → List Event
calls_of T K labels queue route calls = map (call_of T K labels queue route) calls

abbrev pub drawn_over : List EdgeRow → List EdgeRow → List EdgeRow
drawn_over rows edges = edges ++ drop (length edges) rows

pub record Replayed {C : Type 0} (K : Kind C) (σ : K.Settings) (s : Study) (q : Question) (labels labels' : List (Label C)) (route route' : List ℕ) (r : Result (Answer C) QuestionFault) : Type 0 where
  pub held : List (Label C)
  pub found : List ℕ
  pub as_many : length held ≡ length labels
  pub as_long : length found ≡ length route
  pub answers : Answers K σ s q held labels' found route' r
  pub agrees : Agrees K σ s q route' r

abbrev pub Run : {R C : Type 0} → Rule R → Kind C → ℕ → Study → List (Call R C) → List (Label C) → List (Label C) → List ℕ → List ℕ → Type 0
Run T K queue s [] labels labels' route route' = (labels' ≡ labels) × (route' ≡ route)
Run T K queue s (Change c ∷ calls) labels labels' route route' = Run T K queue (next s c) calls labels labels' route route'
Run {C = C} T K queue s (Ask first last rule cost ∷ calls) labels labels' route route' =
    (held : List (Label C)) × (found : List ℕ) × (r : Result (Answer C) QuestionFault)
    × Answers K (K.settings cost) s (asked_by T K rule (K.settings cost) first last (length labels) queue (length route)) labels held route found r
    × Run T K queue s calls held labels' found route'

pub record ReplayedByRun {R C : Type 0} (T : Rule R) (K : Kind C) (σ : K.Settings) (start : Study) (calls : List (Call R C)) (q : Question) (labels labels' : List (Label C)) (route route' : List ℕ) (r : Result (Answer C) QuestionFault) : Type 0 where
  pub replayed : Replayed K σ (after_calls start (calls_of T K q.labels q.queue q.route calls)) q labels labels' route route' r
  pub run : Run T K q.queue start calls labels replayed.held route replayed.found
