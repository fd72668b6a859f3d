use Rattle.walks.proofs.Push.{push_laws}
use Rattle.walks.proofs.last_edge_adds.Goals as goal

pub returns : goal.returns
returns c = push_laws
