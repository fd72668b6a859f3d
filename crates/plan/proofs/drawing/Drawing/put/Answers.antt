use Rattle.std.proofs.Common.{◌<◌, length, sym, refl, arith}
use Rattle.std.proofs.lemmas.List.{take_more_set, length-set}
use Rattle.plan.specs.Plans.{plan_of, rows_of, spare_of}
use Rattle.plan.specs.declared.drawing.Drawing.{Drawing}
use Rattle.plan.proofs.Drawn.{edges_count, rows_count}
use Rattle.plan.proofs.Faults.{drawable}
use Rattle.plan.proofs.Puts.{fine_put, single_put, narrow_put, drop_put}
use Rattle.plan.proofs.drawing.Drawing.put.Goals as goal

pub bounds-self-at : goal.bounds-self-at
bounds-self-at c =
    let d = drawable (rows_of c.args.self.now) (plan_of c.args.self.now).edges c.args.row c.requires in
    omega (arith, d.room, edges_count c.args.self.now, rows_count c.args.self.now)

pub invariant_of-self : goal.invariant_of-self
unfolding plan_of
invariant_of-self c =
    let self : Drawing = c.args.self.now in
    let d = drawable (rows_of c.args.self.now) (plan_of c.args.self.now).edges c.args.row c.requires in
    let room : self.count < length self.rows.now = omega (arith, d.room, edges_count self, rows_count self) in
    record {
      within = rw length-set (omega arith);
      few = omega (arith, d.few, edges_count self);
      bounds = fine_put self.rows.now self.count c.args.row room self.bounds d.good;
      single = single_put self.rows.now self.count c.args.row room self.single d.single;
      narrow = narrow_put self.rows.now self.count c.args.row room self.narrow d.narrow;
    }

pub returns : goal.returns
unfolding plan_of spare_of
returns c =
    let self : Drawing = c.args.self.now in
    let d = drawable (rows_of self) (plan_of self).edges c.args.row c.requires in
    let room : self.count < length self.rows.now = omega (arith, d.room, edges_count self, rows_count self) in
    record {
      value = sym (edges_count self);
      after = λ i. record { limits = (plan_of self).limits; edges = take_more_set self.rows.now self.count c.args.row room i };
      rows = length-set self.rows.now self.count c.args.row;
      lender = refl;
      spare = drop_put self.rows.now self.count c.args.row;
    }
