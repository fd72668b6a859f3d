use Rattle.std.proofs.Common.{refl}
use Rattle.cases.proofs.worked_examples_hold.Goals as goal

pub returns : goal.returns
returns c = record {
  quarter_left = refl;
  over_north = refl;
  half_turn = refl;
  past_half = refl;
  still_straight = refl;
  just_bearing = refl;
  just_left = refl;
  just_sharp = refl;
  turning_at_four = refl;
  both_left = (refl, refl);
  told_apart = (refl, refl);
  one_and_six = refl;
}
