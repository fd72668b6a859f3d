use Rattle.walks.proofs.Alike.{alike_agree}
use Rattle.walks.proofs.alike_networks_agree.Goals as goal

pub returns : goal.returns
returns c = alike_agree
