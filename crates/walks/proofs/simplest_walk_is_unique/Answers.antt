use Rattle.walks.proofs.Routes.{simplest_unique}
use Rattle.walks.proofs.simplest_walk_is_unique.Goals as goal

pub returns : goal.returns
returns c = simplest_unique
