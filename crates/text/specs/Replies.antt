-- Glossary
--   reply_text r   the bytes that are printed for the reply r
-- Assumes nothing.
use Rattle.std.specs.Prelude.{ℕ, List, [], ◌∷◌, codes, decimal}
use Rattle.refusal.specs.Words.{layer_word}
use Rattle.text.specs.Pieces.{joined}
use Rattle.text.specs.declared.reply.Reply.{Reply}
use Rattle.text.specs.declared.reply.Reply.TheVariants.{Done, Edge, Refused}

abbrev pub reply_text : Reply → List ℕ
reply_text Done = codes "ok"
reply_text (Edge n) = joined (codes "edge" ∷ decimal n ∷ [])
reply_text (Refused x line) = joined (codes "refused" ∷ decimal x.number ∷ decimal x.detail ∷ decimal line ∷ layer_word x.layer ∷ [])
