use Rattle.walks.proofs.Certificate.{certificate}
use Rattle.walks.proofs.certified_labels_are_right.Goals as goal

pub returns : goal.returns
returns c = certificate
