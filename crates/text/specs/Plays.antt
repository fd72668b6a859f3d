-- What playing a log means.
--
-- A play's state is a study, or none until a `sectors` line is accepted.
--
-- Glossary
--   started st                whether a `sectors` line was accepted
--   begins l                  what the line l answers where no study is begun: the limits of the drawing, or why not
--   asked s l                 what the call that the line l asks for answers in the study s: the number of the edge that it drew, if it drew one
--   moved s l                 the study after that call: a refused one changes nothing
--   called st l               what the line l answers in the state st, with no word and no line number
--   numbered r i              the reply to the line number i with the answer r: `edge` with the number of the edge that was drawn, `ok`, or `refused`
--   answer_to st l i          the reply to the line l, which has the number i, in the state st
--   carried rows size st l    the state after the line l, where a study has so many rows and so long a sheet
--   Obeyed                    a line is the text of a sound line: its reply is that line's, and so is the state after it
--   Rejected                  a line is no sound line: refusal 12 with its lowest wrong field is its reply, and the state stays
--   Answered                  the one or the other: from the state st, the line `bytes` with the number i has the reply, and st' is the state after it
--   Played                    from the state st, the lines, of which the first has the number i, have the replies `out`, each with
--                             its newline, and st' is the state after them
--   Holds st rows₀ rows sheet size   what the lists hold in the state st, where the rows were rows₀ and the sheet has `size` bytes:
--                             all zeros and the rows as they were, or the study's sheet and its edges, with the rows behind them as they were
--   Plays                     playing all the lines over no study shows `out`, and leaves `rows` and `sheet`
--   OnlyText                  playing all the lines over no study shows no other text
--   PlaysSome                 playing some first lines, and no more, leaves `rows` and `sheet`
--   too_long                  what is shown of a log that is too long: refusal 13 with the line number 0
-- Assumes nothing.
use Rattle.std.specs.Prelude.{◌≡◌, ℕ, ◌+◌, Bool, true, false, ◌⊎◌, List, [], ◌∷◌, ◌++◌, length, take, drop, replicate, Some, None, Ok, Err, Option, Result}
use Rattle.turns.specs.Sectors.{Limits, limits_answer}
use Rattle.turns.specs.declared.fault.PlanFault.{PlanFault}
use Rattle.plan.specs.Studies.{Study, answered, begun, next, number_drawn, refusal_of}
use Rattle.plan.specs.declared.row.EdgeRow.{EdgeRow}
use Rattle.text.specs.Faults.{by_text, text_refusal}
use Rattle.text.specs.Lines.{Misread, Sound, written}
use Rattle.text.specs.Replies.{reply_text}
use Rattle.text.specs.declared.fault.TextFault.{TextFault}
use Rattle.text.specs.declared.fault.TextFault.TheVariants.{Field, Plan}
use Rattle.text.specs.declared.line.Line.{Line}
use Rattle.text.specs.declared.line.Line.TheVariants as line
use Rattle.text.specs.declared.reply.Reply.{Reply}
use Rattle.text.specs.declared.reply.Reply.TheVariants.{Done, Edge, Refused}

abbrev pub started : Option Study → Bool
started None = false
started (Some s) = true

-- a call's answer as a reply, or its fault as one of the text
abbrev pub told : {A : Type 0} → Result A PlanFault → Result A TextFault
told (Ok x) = Ok x
told (Err p) = Err (Plan p)

abbrev pub begins : Line → Result Limits TextFault
begins (line.Sectors s b h) = told (limits_answer s b h)
begins (line.Change c) = Err (Field 1)

abbrev pub asked : Study → Line → Result (Option ℕ) TextFault
asked s (line.Sectors a b h) = Err (Field 1)
asked s (line.Change c) = told (answered (refusal_of s c) (number_drawn s c))

abbrev pub moved : Study → Line → Study
moved s (line.Sectors a b h) = s
moved s (line.Change c) = next s c

abbrev pub begun_by : ℕ → ℕ → Result Limits TextFault → Option Study
begun_by rows size (Ok l) = Some (begun l rows size)
begun_by rows size (Err f) = None

abbrev pub done_by : Result Limits TextFault → Result (Option ℕ) TextFault
done_by (Ok l) = Ok None
done_by (Err f) = Err f

abbrev pub called : Option Study → Line → Result (Option ℕ) TextFault
called None l = done_by (begins l)
called (Some s) l = asked s l

abbrev pub carried : ℕ → ℕ → Option Study → Line → Option Study
carried rows size None l = begun_by rows size (begins l)
carried rows size (Some s) l = Some (moved s l)

abbrev pub numbered : Result (Option ℕ) TextFault → ℕ → Reply
numbered (Ok (Some edge)) i = Edge edge
numbered (Ok None) i = Done
numbered (Err f) i = Refused (text_refusal f) i

abbrev pub answer_to : Option Study → Line → ℕ → Reply
answer_to st l i = numbered (called st l) i

pub record Obeyed (rows size : ℕ) (st : Option Study) (i : ℕ) (bytes : List ℕ) (reply : Reply) (st' : Option Study) : Type 0 where
  pub line : Line
  pub text : bytes ≡ written line
  pub sound : Sound (started st) line
  pub answer : reply ≡ answer_to st line i
  pub after : st' ≡ carried rows size st line

pub record Rejected (st : Option Study) (i : ℕ) (bytes : List ℕ) (reply : Reply) (st' : Option Study) : Type 0 where
  pub field : ℕ
  pub wrong : Misread (started st) bytes field
  pub answer : reply ≡ Refused (by_text 12 field) i
  pub same : st' ≡ st

abbrev pub Answered : ℕ → ℕ → Option Study → ℕ → List ℕ → Reply → Option Study → Type 0
Answered rows size st i bytes reply st' = Obeyed rows size st i bytes reply st' ⊎ Rejected st i bytes reply st'

abbrev pub Played : ℕ → ℕ → Option Study → ℕ → List (List ℕ) → List ℕ → Option Study → Type 0
Played rows size st i [] out st' = (out ≡ []) × (st' ≡ st)
Played rows size st i (bytes ∷ lines) out st' =
    (reply : Reply) × (mid : Option Study) × (rest : List ℕ) × Answered rows size st i bytes reply mid
    × (out ≡ reply_text reply ++ (10 ∷ rest)) × Played rows size mid (i + 1) lines rest st'

abbrev pub Holds : Option Study → List EdgeRow → List EdgeRow → List ℕ → ℕ → Type 0
Holds None rows₀ rows sheet size = (rows ≡ rows₀) × (sheet ≡ replicate size 0)
Holds (Some s) rows₀ rows sheet size = (rows ≡ s.edges ++ drop (length s.edges) rows₀) × (sheet ≡ s.sheet)

abbrev pub Plays : List EdgeRow → ℕ → List (List ℕ) → List ℕ → List EdgeRow → List ℕ → Type 0
Plays rows₀ size lines out rows sheet =
    (st : Option Study) × Played (length rows₀) size None 1 lines out st × Holds st rows₀ rows sheet size

abbrev pub OnlyText : ℕ → ℕ → List (List ℕ) → List ℕ → Type 0
OnlyText rows size lines text = (out : List ℕ) (st : Option Study) → Played rows size None 1 lines out st → out ≡ text

abbrev pub PlaysSome : List EdgeRow → ℕ → List (List ℕ) → List EdgeRow → List ℕ → Type 0
PlaysSome rows₀ size lines rows sheet = (k : ℕ) × (out : List ℕ) × Plays rows₀ size (take k lines) out rows sheet

abbrev pub too_long : List ℕ
too_long = reply_text (Refused (by_text 13 0) 0) ++ (10 ∷ [])
