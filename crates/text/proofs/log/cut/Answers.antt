use Rattle.text.proofs.Parting.{cut_leads, cut_alone}
use Rattle.text.proofs.log.cut.Goals as goal

pub returns-in-Some : goal.returns-in-Some
returns-in-Some c = record { cases = cut_leads c.args.mark c.args.text.now c.in-Some.i c.in-Some.ensures.value }

pub returns-in-None : goal.returns-in-None
returns-in-None c = record { cases = cut_alone c.args.mark c.args.text.now c.in-None.ensures.value }
