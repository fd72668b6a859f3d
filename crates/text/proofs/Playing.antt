-- Plays put together, line by line and part by part.
use Rattle.std.proofs.Common.{◌≡◌, ℕ, ◌+◌, List, [], ◌∷◌, ◌++◌, length, take, drop, replicate, Some, None, Option, Result, sym, refl, ap, ◌∙◌, subst, arith, MatchResult}
use Rattle.std.proofs.lemmas.Result.{MatchResult-weaker}
use Rattle.std.proofs.lemmas.List.{append_assoc, append-nil, length-append, take-append-le, take_all}
use Rattle.turns.specs.Sectors.{Limits}
use Rattle.plan.specs.Plans.{Over, lender_of, plan_of, rows_of, spare_of}
use Rattle.plan.specs.Studies.{Study, begun, study_of}
use Rattle.plan.specs.declared.drawing.Drawing.{Drawing}
use Rattle.plan.specs.declared.row.EdgeRow.{EdgeRow}
use Rattle.text.specs.Plays.{Answered, OnlyText, Played, Plays, PlaysSome}
use Rattle.text.specs.Replies.{reply_text}
use Rattle.text.specs.Runs.{Ended, Ends, Moment, Stopped, Stops, Went, left_of, moment, newly, taken_of}
use Rattle.text.specs.declared.lines.Lines.{Lines}
use Rattle.text.specs.declared.reply.Reply.{Reply}
use Rattle.text.proofs.Once.{played_once}

module _ (rows size : ℕ) where
  -- the lines of one play behind those of another
  played_join : (st : Option Study) (i : ℕ) (xs : List (List ℕ)) (out : List ℕ) (mid : Option Study) (j : ℕ) (ys : List (List ℕ)) (more : List ℕ) (st' : Option Study) → j ≡ i + length xs → Played rows size st i xs out mid → Played rows size mid j ys more st' → Played rows size st i (xs ++ ys) (out ++ more) st'
  played_join st i [] out mid j ys more st' e h k =
      let here : j ≡ i = omega arith in
      subst (λ (s : Option Study). Played rows size s i ys (out ++ more) st') h.1
      (subst (λ (o : List ℕ). Played rows size mid i ys (o ++ more) st') (sym h.0)
      (subst (λ (n : ℕ). Played rows size mid n ys more st') here k))
  played_join st i (x ∷ xs) out mid j ys more st' e h k = (
    h.0,
    h.1,
    h.2 ++ more,
    h.3,
    ap (λ o. o ++ more) h.4 ∙ append_assoc (reply_text h.0) (10 ∷ h.2) more,
    played_join h.1 (i + 1) xs h.2 mid j ys more st' (omega arith) h.5 k,
  )

  pub went_join : (m m' m'' : Moment) → Went rows size m m' → Went rows size m' m'' → Went rows size m m''
  went_join m m' m'' h k =
      record {
        done = h.done ++ k.done;
        shown = h.shown ++ k.shown;
        parts = h.parts ∙ ap (λ o. h.done ++ o) k.parts ∙ sym (append_assoc h.done k.done m''.left);
        number = omega (arith, h.number, k.number, length-append h.done k.done);
        text = k.text ∙ ap (λ o. o ++ k.shown) h.text ∙ append_assoc m.text h.shown k.shown;
        played = played_join m.state (m.taken + 1) h.done h.shown m'.state (m'.taken + 1) k.done k.shown m''.state (omega (arith, h.number)) h.played k.played;
      }

  -- the next line
  pub went_one : (m m' : Moment) (bytes : List ℕ) (reply : Reply) → m.left ≡ bytes ∷ m'.left → m'.taken ≡ m.taken + 1 → m'.text ≡ m.text ++ (reply_text reply ++ (10 ∷ [])) → Answered rows size m.state (m.taken + 1) bytes reply m'.state → Went rows size m m'
  went_one m m' bytes reply left taken text answered =
      record {
        done = bytes ∷ [];
        shown = reply_text reply ++ (10 ∷ []);
        parts = left;
        number = omega arith;
        text = text;
        played = (reply, m'.state, [], answered, refl, (refl, refl));
      }

  -- one line more
  pub went_more : (m m' m'' : Moment) (bytes : List ℕ) (i : ℕ) (reply : Reply) → Went rows size m m' → m'.left ≡ bytes ∷ m''.left → i ≡ m'.taken + 1 → m''.taken ≡ i → m''.text ≡ m'.text ++ (reply_text reply ++ (10 ∷ [])) → Answered rows size m'.state i bytes reply m''.state → Went rows size m m''
  went_more m m' m'' bytes i reply h left number taken text answered =
      went_join m m' m'' h (went_one m' m'' bytes reply left (taken ∙ number) text (subst (λ (n : ℕ). Answered rows size m'.state n bytes reply m''.state) number answered))

  -- a play from the beginning, to its end or stopped
  pub played_all : (lines : List (List ℕ)) (st : Option Study) (text : List ℕ) → Ends rows size (record { state = None; taken = 0; left = lines; text = [] }) st text → Played rows size None 1 lines text st
  played_all lines st text (taken, went) =
      subst (λ (o : List ℕ). Played rows size None 1 lines o st) (sym went.text)
      (subst (λ (ls : List (List ℕ)). Played rows size None 1 ls went.shown st) (sym (append-nil went.done) ∙ sym went.parts) went.played)

  pub played_some : (lines : List (List ℕ)) (st : Option Study) → Stops rows size (record { state = None; taken = 0; left = lines; text = [] }) st → (k : ℕ) × (out : List ℕ) × Played rows size None 1 (take k lines) out st
  played_some lines st (taken, left, text, went) =
      let front : take (length went.done) lines ≡ went.done =
      ap (take (length went.done)) went.parts ∙ take-append-le (length went.done) went.done left (omega arith) ∙ take_all (length went.done) went.done (omega arith) in (
        length went.done,
        went.shown,
        subst (λ (ls : List (List ℕ)). Played rows size None 1 ls went.shown st) (sym front) went.played,
      )

-- a play over a drawing and its sheet, from one moment to another
pub record Rest (d : Drawing) (sheet : List ℕ) (l : Lines) (text : List ℕ) (d' : Drawing) (sheet' : List ℕ) (l' : Lines) (text' : List ℕ) : Type 0 where
  pub went : (rows size : ℕ) → Went rows size (moment (Some (study_of d sheet)) l text) (moment (Some (study_of d' sheet')) l' text')
  pub over : (rows : List EdgeRow) → Over rows d → Over rows d'
  pub lender : lender_of d' ≡ lender_of d

module _ (d d' d'' : Drawing) (sheet sheet' sheet'' : List ℕ) (l l' l'' : Lines) (text text' : List ℕ) where
  pub rest_more : (bytes : List ℕ) (i : ℕ) (reply : Reply) (text'' : List ℕ) → Rest d sheet l text d' sheet' l' text' → left_of l' ≡ bytes ∷ left_of l'' → i ≡ taken_of l' + 1 → taken_of l'' ≡ i → text'' ≡ text' ++ (reply_text reply ++ (10 ∷ [])) → ((rows size : ℕ) → Answered rows size (Some (study_of d' sheet')) i bytes reply (Some (study_of d'' sheet''))) → ((rows : List EdgeRow) → Over rows d' → Over rows d'') → lender_of d'' ≡ lender_of d' → Rest d sheet l text d'' sheet'' l'' text''
  rest_more bytes i reply text'' h left number taken more answered over lender =
      record {
        went = λ rows size. went_more rows size (moment (Some (study_of d sheet)) l text) (moment (Some (study_of d' sheet')) l' text') (moment (Some (study_of d'' sheet'')) l'' text'') bytes i reply (h.went rows size) left number taken more (answered rows size);
        over = λ rows o. over rows (h.over rows o);
        lender = lender ∙ h.lender;
      }

-- a play over a drawing that is new, and is let go at the end
module _ (rows₀ rows : List EdgeRow) (d d' : Drawing) (l : Limits) (sheet sheet' : List ℕ) (lines : Lines) (text text' : List ℕ) where
  pub play_new : {E : Type 0} (r : Result (Unit {0}) E) (size : ℕ) → (plan_of d).limits ≡ l → (plan_of d).edges ≡ [] → rows_of d ≡ length rows₀ → spare_of d ≡ rows₀ → rows ≡ (plan_of d').edges ++ spare_of d' → ((rs : List EdgeRow) → Over rs d → Over rs d') → MatchResult r (λ x. Ends (length rows₀) size (moment (Some (study_of d sheet)) lines text) (Some (study_of d' sheet')) text') (λ x. Stops (length rows₀) size (moment (Some (study_of d sheet)) lines text) (Some (study_of d' sheet'))) → MatchResult r (λ x. Ended rows₀ size (moment (Some (newly l (length rows₀) sheet)) lines text) text' rows sheet') (λ x. Stopped rows₀ size (moment (Some (newly l (length rows₀) sheet)) lines text) rows sheet')
  play_new r size limits edges count spare back over played =
      MatchResult-weaker r played
      (λ x h. (
        Some (study_of d' sheet'),
        subst (λ (s : Study). Ends (length rows₀) size (moment (Some s) lines text) (Some (study_of d' sheet')) text') fresh h,
        holds,
      ))
      (λ x h. (
        Some (study_of d' sheet'),
        subst (λ (s : Study). Stops (length rows₀) size (moment (Some s) lines text) (Some (study_of d' sheet'))) fresh h,
        holds,
      ))
    where
      fresh : study_of d sheet ≡ newly l (length rows₀) sheet
      fresh = λ i. record { limits = limits i; rows = count i; edges = edges i; sheet = sheet }

      whole : Over rows₀ d
      whole = spare ∙ ap (λ (es : List EdgeRow). drop (length es) rows₀) (sym edges)

      holds : (rows ≡ (plan_of d').edges ++ drop (length (plan_of d').edges) rows₀) × (sheet' ≡ sheet')
      holds = (back ∙ ap (λ rest. (plan_of d').edges ++ rest) (over rows₀ whole), refl)

-- a play of all the lines of a log, from the beginning
module _ (rows₀ : List EdgeRow) (size : ℕ) (log : List (List ℕ)) (lines₀ : Lines) (text₀ : List ℕ) (left : left_of lines₀ ≡ log) (taken : taken_of lines₀ ≡ 0) (none : text₀ ≡ []) where
  start : moment None lines₀ text₀ ≡ record { state = None; taken = 0; left = log; text = [] }
  start = λ i. record { state = None; taken = taken i; left = left i; text = none i }

  -- no study is begun
  pub plays_none : (text sheet : List ℕ) → sheet ≡ replicate size 0 → Ends (length rows₀) size (moment None lines₀ text₀) None text → Plays rows₀ size log text rows₀ sheet
  plays_none text sheet clear h = (
    None,
    played_all (length rows₀) size log None text (subst (λ (m : Moment). Ends (length rows₀) size m None text) start h),
    (refl, clear),
  )

  module _ (l : Limits) (cleared : List ℕ) (clear : cleared ≡ replicate size 0) (lines : Lines) (before : List ℕ) (rows : List EdgeRow) (sheet : List ℕ) (went : Went (length rows₀) size (moment None lines₀ text₀) (moment (Some (begun l (length rows₀) size)) lines before)) where
    joined : (m : Moment) → Went (length rows₀) size (moment (Some (newly l (length rows₀) cleared)) lines before) m → Went (length rows₀) size (record { state = None; taken = 0; left = log; text = [] }) m
    joined m h =
        subst (λ (o : Moment). Went (length rows₀) size o m) start
        (went_join (length rows₀) size (moment None lines₀ text₀) (moment (Some (begun l (length rows₀) size)) lines before) m went
        (subst (λ (bytes : List ℕ). Went (length rows₀) size (moment (Some (newly l (length rows₀) bytes)) lines before) m) clear h))

    pub plays_all : (text : List ℕ) → Ended rows₀ size (moment (Some (newly l (length rows₀) cleared)) lines before) text rows sheet → Plays rows₀ size log text rows sheet
    plays_all text (st, ends, holds) = (st, played_all (length rows₀) size log st text (ends.0, joined _ ends.1), holds)

    pub plays_some : Stopped rows₀ size (moment (Some (newly l (length rows₀) cleared)) lines before) rows sheet → PlaysSome rows₀ size log rows sheet
    plays_some (st, stops, holds) =
        let p = played_some (length rows₀) size log st (stops.0, stops.1, stops.2, joined _ stops.3) in
        (p.0, p.1, (st, p.2, holds))

pub plays_only : (rows₀ : List EdgeRow) (size : ℕ) (log : List (List ℕ)) (text : List ℕ) (rows : List EdgeRow) (sheet : List ℕ) → Plays rows₀ size log text rows sheet → OnlyText (length rows₀) size log text
plays_only rows₀ size log text rows sheet (st, played, holds) out st' h = (played_once (length rows₀) size None 1 log out text st' st h played).0
