use Rattle.walks.proofs.Routes.{simplest_on_the_way}
use Rattle.walks.proofs.simplest_walk_begins_simplest.Goals as goal

pub returns : goal.returns
returns c = simplest_on_the_way
