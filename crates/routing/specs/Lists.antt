-- The lists that questions work in.
--
-- Glossary
--   labels_for k w          how many labels the workspace w has for the kind of the word k
--   Relabelled K σ s q ..   every drawn edge's label holds that of the simplest walk to it, or is Blank; the labels behind them are unchanged
--   Leaves K σ s q ..       the labels after the question q in the study s: unchanged where it is turned down, else Relabelled
--   ranked_by A B           the kind of cost that compares by A first, and by B where that is equal
--   six_fold                the weights 1 for the length and 6 for the charge
--   Worked k s q w w'       the workspace after a question of the kind of the word k: the labels of that kind are as the question leaves them, and the
--                           others are untouched
-- Assumes nothing.
use Rattle.std.specs.Prelude.{◌≡◌, ℕ, List, length, take, drop, Some, None, Option}
use Rattle.cost.specs.Kinds.{charge_kind, distance_kind, weighted_kind}
use Rattle.cost.specs.Rankings.{ranked_additions, ranked_amount, ranked_places, ranked_row, ranked_settings}
use Rattle.cost.specs.Weights.{Weights}
use Rattle.cost.specs.contracts.tally.TallyCostKind.TheImpl.{ghosts as tallies}
use Rattle.cost.specs.declared.kind.CostKind.{Ghosts as Kind}
use Rattle.cost.specs.declared.ranked.Ranked.{Ranked as Pair}
use Rattle.plan.specs.Studies.{Study}
use Rattle.search.specs.Questions.{AllLabelled, Question, ground_at, question_fault}
use Rattle.search.specs.declared.fault.QuestionFault.{QuestionFault}
use Rattle.search.specs.declared.label.Label.{Label}
use Rattle.routing.specs.declared.choice.KindWord.{KindWord}
use Rattle.routing.specs.declared.choice.KindWord.TheVariants.{Distance, Ranked, Weighted, Tally}
use Rattle.routing.specs.declared.workspace.Workspace.{Workspace}

abbrev pub labels_for : KindWord → Workspace → ℕ
labels_for Distance w = length w.distance.now
labels_for Ranked w = length w.ranked.now
labels_for Weighted w = length w.weighted.now
labels_for Tally w = length w.tally.now

pub record Relabelled {C : Type 0} (K : Kind C) (σ : K.Settings) (s : Study) (q : Question) (labels labels' : List (Label C)) : Type 0 where
  pub labelled : AllLabelled K σ (ground_at s q) q.first (take (length s.edges) labels')
  pub kept : drop (length s.edges) labels' ≡ drop (length s.edges) labels
  pub size : length labels' ≡ length labels

abbrev pub LeavesBy : {C : Type 0} → Option QuestionFault → (K : Kind C) → K.Settings → Study → Question → List (Label C) → List (Label C) → Type 0
LeavesBy (Some f) K σ s q labels labels' = labels' ≡ labels
LeavesBy None K σ s q labels labels' = Relabelled K σ s q labels labels'

abbrev pub Leaves : {C : Type 0} → (K : Kind C) → K.Settings → Study → Question → List (Label C) → List (Label C) → Type 0
Leaves K σ s q labels labels' = LeavesBy (question_fault s q) K σ s q labels labels'

abbrev pub ranked_by : {A B : Type 0} → Kind A → Kind B → Kind (Pair A B)
ranked_by A B =
    record {
      Settings = A.Settings × B.Settings;
      settings = ranked_settings A B;
      places = ranked_places A B;
      row = ranked_row A B;
      additions = ranked_additions A B;
      amount = ranked_amount A B;
    }

abbrev pub six_fold : Weights
six_fold = record { distance = 1; charge = 6 }

abbrev pub Worked : KindWord → Study → Question → Workspace → Workspace → Type 0
Worked Distance s q w w' =
    Leaves distance_kind tt s q w.distance.now w'.distance.now
    × (w'.ranked.now ≡ w.ranked.now) × (w'.weighted.now ≡ w.weighted.now) × (w'.tally.now ≡ w.tally.now)
Worked Ranked s q w w' =
    Leaves (ranked_by charge_kind distance_kind) (tt, tt) s q w.ranked.now w'.ranked.now
    × (w'.distance.now ≡ w.distance.now) × (w'.weighted.now ≡ w.weighted.now) × (w'.tally.now ≡ w.tally.now)
Worked Weighted s q w w' =
    Leaves weighted_kind six_fold s q w.weighted.now w'.weighted.now
    × (w'.distance.now ≡ w.distance.now) × (w'.ranked.now ≡ w.ranked.now) × (w'.tally.now ≡ w.tally.now)
Worked Tally s q w w' =
    Leaves (ranked_by tallies distance_kind) (tt, tt) s q w.tally.now w'.tally.now
    × (w'.distance.now ≡ w.distance.now) × (w'.ranked.now ≡ w.ranked.now) × (w'.weighted.now ≡ w.weighted.now)
