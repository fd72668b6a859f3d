-- The queue of a search: the first slots of a list, in no order.
--
-- Glossary
--   edge_in slots k             the edge in the slot k
--   times slots len e           how often the edge e stands in the first len slots
--   in_queue slots len e        whether e stands there
--   moved_up slots m at         the slots after that at m was copied to the place `at`
--   put_in slots len f          the slots after f was written behind the first len
--   Filled slots len n          the first len slots hold len different edges below n, and there is a slot for each of the n edges
--   Least K ls slots len i      of the edges in the first len slots, that in the slot i has a label with the least cost and, of equal cost, the fewest edges
-- Assumes nothing.
use Rattle.std.specs.Prelude.{◌≡◌, ℕ, ◌<◌, ◌≤◌, Bool, List, length, get_or, take, count_by, ◌==◌, nat_lt, slice_index_or, slice_set}
use Rattle.cost.specs.declared.kind.CostKind.{Ghosts as Kind}
use Rattle.walks.specs.Labels.{KeyAtMost}
use Rattle.walks.specs.Loop.{tally}
use Rattle.search.specs.Labels.{plain}
use Rattle.search.specs.declared.label.Label.{Label}
use Rattle.search.specs.declared.queue.QueueSlot.{QueueSlot}

abbrev pub no_slot : QueueSlot
no_slot = record { edge = 0 }

abbrev pub edge_in : List QueueSlot → ℕ → ℕ
edge_in slots k = (get_or slots k no_slot).edge

abbrev pub holds : ℕ → QueueSlot → Bool
holds e s = s.edge == e

abbrev pub times : List QueueSlot → ℕ → ℕ → ℕ
times slots len e = count_by (holds e) (take len slots)

abbrev pub in_queue : List QueueSlot → ℕ → ℕ → Bool
in_queue slots len e = nat_lt 0 (times slots len e)

abbrev pub moved_up : List QueueSlot → ℕ → ℕ → List QueueSlot
moved_up slots m at = slice_set slots at (slice_index_or slots m no_slot)

abbrev pub put_in : List QueueSlot → ℕ → ℕ → List QueueSlot
put_in slots len f = slice_set slots len (record { edge = f })

pub record Filled (slots : List QueueSlot) (len n : ℕ) : Type 0 where
  pub room : n ≤ length slots
  pub once : (e : ℕ) → times slots len e ≤ 1
  pub drawn : (k : ℕ) → k < len → edge_in slots k < n
  pub counted : tally (in_queue slots len) n ≡ len

abbrev pub Least : {C : Type 0} → Kind C → List (Label C) → List QueueSlot → ℕ → ℕ → Type 0
Least {C} K ls slots len i =
    (k : ℕ) (d : Label C) → k < len → KeyAtMost (plain K (slice_index_or ls (edge_in slots i) d)) (plain K (slice_index_or ls (edge_in slots k) d))
