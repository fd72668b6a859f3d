-- What holds of a question with the kind of a word holds of the one with an equal word.
use Rattle.std.proofs.Common.{◌≡◌, ℕ, sym, subst}
use Rattle.plan.specs.Studies.{Study}
use Rattle.search.specs.declared.question.Question.{Question}
use Rattle.routing.specs.Choices.{question_of, worded}
use Rattle.routing.specs.Lists.{Worked, labels_for}
use Rattle.routing.specs.declared.choice.KindWord.{KindWord}
use Rattle.routing.specs.declared.choice.RuleWord.{RuleWord}
use Rattle.routing.specs.declared.workspace.Workspace.{Workspace}

pub worked_kind : (q : Question RuleWord KindWord) (s : Study) (queue route : ℕ) (work work' : Workspace) (word : KindWord) → q.cost.now ≡ word
    → Worked word s (question_of q.rule.now word q.first q.last (labels_for word work) queue route) work work'
    → Worked q.cost.now s (worded q (labels_for q.cost.now work) queue route) work work'
worked_kind q s queue route work work' word is =
    subst (λ k. Worked k s (question_of q.rule.now k q.first q.last (labels_for k work) queue route) work work') (sym is)
