use Rattle.walks.proofs.Certificate.{certified_trail}
use Rattle.walks.proofs.certified_labels_lead_back.Goals as goal

pub returns : goal.returns
returns c = certified_trail
