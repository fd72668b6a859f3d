use Rattle.walks.proofs.Order.{row_laws}
use Rattle.walks.proofs.rows_are_ordered.Goals as goal

pub returns : goal.returns
returns c = row_laws
