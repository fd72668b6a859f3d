-- The refusals of a question.
--
-- Glossary
--   question_refusal f   the number, the detail and the layer of the fault f
-- Assumes nothing.
use Rattle.std.specs.Prelude.{ℕ}
use Rattle.refusal.specs.declared.Layer.TheVariants.{Question}
use Rattle.refusal.specs.declared.Refusal.{Refusal}
use Rattle.search.specs.declared.fault.QuestionFault.{QuestionFault}
use Rattle.search.specs.declared.fault.QuestionFault.TheVariants.{NotDrawn, Short, NoWalk}

abbrev pub by_question : ℕ → ℕ → Refusal
by_question number detail = record { number = number; detail = detail; layer = Question }

abbrev pub question_refusal : QuestionFault → Refusal
question_refusal (NotDrawn edge) = by_question 8 edge
question_refusal (Short drawn) = by_question 10 drawn
question_refusal (NoWalk last) = by_question 11 last
