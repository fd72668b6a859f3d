-- What is told of a question: its route and the sums, or why there is none. What a question answers besides is left out.
--
-- Glossary
--   found_in a       what is told of the answer a
--   HasSums g w r    r has the sum of the charges, the sum of the lengths and the number of edges of the walk w
--   TellsBy, Tells   refused exactly where question_fault says so, with the route list as it was; else, either there is a walk, and the route list begins with
--                    the simplest, of which the sums are told, and is unchanged behind it; or there is none, the refusal is 11 with the last edge, and the
--                    route list is as it was
-- Assumes nothing.
use Rattle.std.specs.Prelude.{◌≡◌, ℕ, List, ◌++◌, length, drop, Some, None, Ok, Err, Option, Result}
use Rattle.plan.specs.Studies.{Study}
use Rattle.walks.specs.Networks.{Leads, Network, Simplest, walk_charge, walk_length}
use Rattle.search.specs.Questions.{Question, ground_at, question_fault}
use Rattle.search.specs.declared.answer.Answer.{Answer}
use Rattle.search.specs.declared.fault.QuestionFault.{QuestionFault}
use Rattle.search.specs.declared.fault.QuestionFault.TheVariants.{NoWalk}
use Rattle.routing.specs.declared.telling.Found.{Found}

abbrev pub found_in : {C : Type 0} → Answer C → Found
found_in a = record { charge = a.charge; length = a.length; edges = a.edges }

pub record HasSums (g : Network) (w : List ℕ) (r : Found) : Type 0 where
  pub charge : r.charge ≡ walk_charge g w
  pub long : r.length ≡ walk_length g w
  pub edges : r.edges ≡ length w

abbrev pub Told : Network → ℕ → ℕ → List ℕ → List ℕ → Result Found QuestionFault → Type 0
Told g a z route route' (Ok r) = (w : List ℕ) × Simplest g a z w × HasSums g w r × (route' ≡ w ++ drop (length w) route)
Told g a z route route' (Err f) = ((w : List ℕ) → Leads g a z w → ⊥) × (f ≡ NoWalk z) × (route' ≡ route)

abbrev pub TellsBy : Option QuestionFault → Study → Question → List ℕ → List ℕ → Result Found QuestionFault → Type 0
TellsBy (Some f) s q route route' r = (r ≡ Err f) × (route' ≡ route)
TellsBy None s q route route' r = Told (ground_at s q) q.first q.last route route' r

abbrev pub Tells : Study → Question → List ℕ → List ℕ → Result Found QuestionFault → Type 0
Tells s q route route' r = TellsBy (question_fault s q) s q route route' r
