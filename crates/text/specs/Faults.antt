-- Glossary
--   by_text n d      the refusal with the number n and the detail d, of the layer `text`
--   AtField P f      the fault f is that of a field, and the field's place is as P asks
--   text_refusal f   the number, the detail and the layer of the fault f
-- Assumes nothing.
use Rattle.std.specs.Prelude.{◌≡◌, ℕ}
use Rattle.refusal.specs.declared.Layer.TheVariants.{Text}
use Rattle.refusal.specs.declared.Refusal.{Refusal}
use Rattle.turns.specs.Faults.{plan_refusal}
use Rattle.text.specs.declared.fault.TextFault.{TextFault}
use Rattle.text.specs.declared.fault.TextFault.TheVariants.{Field, Long, Plan}

abbrev pub by_text : ℕ → ℕ → Refusal
by_text number detail = record { number = number; detail = detail; layer = Text }

abbrev pub AtField : (ℕ → Type 0) → TextFault → Type 0
AtField P f = (k : ℕ) × (f ≡ Field k) × P k

abbrev pub text_refusal : TextFault → Refusal
text_refusal (Field place) = by_text 12 place
text_refusal Long = by_text 13 0
text_refusal (Plan fault) = plan_refusal fault
