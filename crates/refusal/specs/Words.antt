-- Glossary
--   layer_word l   the bytes that are printed for the layer l
-- Assumes nothing.
use Rattle.std.specs.Prelude.{ℕ, List, codes}
use Rattle.refusal.specs.declared.Layer.{Layer}
use Rattle.refusal.specs.declared.Layer.TheVariants.{Plan, Cost, Question, Text}

abbrev pub layer_word : Layer → List ℕ
layer_word Plan = codes "plan"
layer_word Cost = codes "cost"
layer_word Question = codes "question"
layer_word Text = codes "text"
