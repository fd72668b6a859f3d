use Rattle.std.proofs.Common.{◌<◌, get_or, refl, arith}
use Rattle.std.proofs.lemmas.List.{length-set, drop-set-lt}
use Rattle.plan.specs.Plans.{plan_of, spare_of, no_row}
use Rattle.plan.specs.Rows.{joins, leaves}
use Rattle.plan.specs.Studies.{with_length}
use Rattle.plan.specs.declared.drawing.Drawing.{Drawing}
use Rattle.plan.proofs.Drawn.{edges_count}
use Rattle.plan.proofs.Measures.{count-measured, edges_measured, fine-measured}
use Rattle.plan.proofs.drawing.Drawing.set_length.Goals as goal

pub offset_bounds-self-at : goal.offset_bounds-self-at
offset_bounds-self-at c = let self : Drawing = c.args.self.now in omega (arith, edges_count self, self.few, c.requires.1)

pub bounds-self-at : goal.bounds-self-at
bounds-self-at c = let self : Drawing = c.args.self.now in omega (arith, edges_count self, self.within, c.requires.1)

pub invariant_of-self : goal.invariant_of-self
invariant_of-self c =
    let self : Drawing = c.args.self.now in
    let drawn : c.args.at < self.count = omega (arith, edges_count self, c.requires.1) in
    record {
      within = rw length-set self.within;
      few = self.few;
      bounds = fine-measured self.rows.now self.count c.args.at c.args.length self.within drawn c.requires.0 self.bounds;
      single = λ s e. omega (arith, count-measured self.rows.now self.count c.args.at c.args.length self.within drawn (joins s e) (λ r. refl), self.single s e);
      narrow = λ s. omega (arith, count-measured self.rows.now self.count c.args.at c.args.length self.within drawn (leaves s) (λ r. refl), self.narrow s);
    }

pub returns : goal.returns
unfolding plan_of spare_of
returns c =
    let self : Drawing = c.args.self.now in
    let drawn : c.args.at < self.count = omega (arith, edges_count self, c.requires.1) in
    record {
      limits = refl;
      edges = edges_measured self.rows.now self.count c.args.at c.args.length self.within drawn;
      rows = length-set self.rows.now c.args.at (with_length (get_or self.rows.now c.args.at no_row) c.args.length);
      lender = refl;
      spare = drop-set-lt self.count self.rows.now c.args.at (with_length (get_or self.rows.now c.args.at no_row) c.args.length) drawn;
    }
