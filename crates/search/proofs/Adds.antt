-- What is known of the lengths that a search adds.
use Rattle.std.proofs.Common.{◌≡◌, ℕ, ◌<◌, ◌≤◌, true, ◌⊎◌, length, ap, inl, inr, arith}
use Rattle.std.proofs.lemmas.List.{get_or_past}
use Rattle.std.proofs.lemmas.Bool.{cases_lt}
use Rattle.std.proofs.lemmas.Bool.Decides.{nat_tests}
use Rattle.plan.specs.Plans.{edge_at, no_row, plan_of}
use Rattle.plan.specs.Rows.{fine}
use Rattle.plan.specs.declared.drawing.Drawing.{Drawing}
use Rattle.plan.specs.declared.row.EdgeRow.{EdgeRow}
use Rattle.plan.proofs.Drawn.{sound_of}

fine_long : (r : EdgeRow) → fine r ≡ true → r.length ≤ 100000
fine_long r h = grind (arith, nat_tests)

-- no edge is longer, drawn or not
pub any_long : (d : Drawing) (e : ℕ) → (edge_at (plan_of d) e).length ≤ 100000
any_long d e = go (cases_lt e (length (plan_of d).edges))
  where
    go : (e < length (plan_of d).edges) ⊎ (length (plan_of d).edges ≤ e) → (edge_at (plan_of d) e).length ≤ 100000
    go (inl l) = fine_long (edge_at (plan_of d) e) ((sound_of d).bounds e l)
    go (inr l) = let z = ap (λ (r : EdgeRow). r.length) (get_or_past (plan_of d).edges e no_row l) in omega (arith, z)
