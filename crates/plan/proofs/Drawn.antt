-- The drawn rows of a drawing, as lists.
use Rattle.std.proofs.Common.{◌≡◌, ◌<◌, length, take, refl, arith}
use Rattle.std.proofs.lemmas.List.{length-take-le, get_or-take}
use Rattle.plan.specs.Plans.{Sound, plan_of, rows_of, no_row}
use Rattle.plan.specs.declared.drawing.Drawing.{Drawing}

pub edges_count : (d : Drawing) → length (plan_of d).edges ≡ d.count
unfolding plan_of
edges_count d = length-take-le d.count d.rows.now d.within

pub rows_count : (d : Drawing) → rows_of d ≡ length d.rows.now
rows_count d = refl

-- the plan of every drawing is sound
pub sound_of : (d : Drawing) → Sound (plan_of d)
unfolding plan_of
sound_of d =
    let n : length (take d.count d.rows.now) ≡ d.count = length-take-le d.count d.rows.now d.within in
    record {
      straight = d.limits.straight;
      bear = d.limits.bear;
      half = d.limits.half;
      few = omega (arith, n, d.few);
      bounds = λ e h. let l : e < d.count = omega (arith, n, h) in rw get_or-take (d.bounds e no_row l);
      single = d.single;
      narrow = d.narrow;
    }
