use Rattle.std.proofs.Common.{◌≡◌, ◌≤◌, take, count_by}
use Rattle.plan.specs.Rows.{leaves}
use Rattle.plan.proofs.junction.leaving_count.Given as goal

abbrev pub invariant-loop-row : goal.invariant-loop-row
invariant-loop-row l = (l.count ≡ count_by (leaves l.junction) (take l.row-index l.edges)) × (l.count ≤ l.row-index)
