-- A drawing stays over the rows that it was made over.
use Rattle.std.proofs.Common.{◌≡◌, ℕ, ◌+◌, List, [], length, drop, Some, None, Option, Result, sym, ap, ◌∙◌}
use Rattle.std.proofs.lemmas.List.{drop-drop, length_push, length-set}
use Rattle.turns.specs.declared.fault.PlanFault.{PlanFault}
use Rattle.plan.specs.Plans.{Over, plan_of, rows_of, spare_of}
use Rattle.plan.specs.Studies.{answered, changed, draw_fault, drawn_fault, length_fault, next, otherwise, row_of, spare_left, study_of, unless}
use Rattle.plan.specs.declared.change.Change.TheVariants.{Draw, Measure}
use Rattle.plan.specs.declared.change.NewEdge.{NewEdge}
use Rattle.plan.specs.declared.drawing.Drawing.{Drawing}
use Rattle.plan.specs.declared.row.EdgeRow.{EdgeRow}

module _ (rows : List EdgeRow) (d d' : Drawing) (over : Over rows d) where
  -- one row more is drawn, and one less is spare
  over_more : length (plan_of d').edges ≡ length (plan_of d).edges + 1 → spare_of d' ≡ drop 1 (spare_of d) → Over rows d'
  over_more longer less =
      less ∙ ap (drop 1) over ∙ drop-drop 1 (length (plan_of d).edges) rows ∙ ap (λ n. drop n rows) (sym longer)

  over_same : length (plan_of d').edges ≡ length (plan_of d).edges → spare_of d' ≡ spare_of d → Over rows d'
  over_same long same = same ∙ over ∙ ap (λ n. drop n rows) (sym long)

  pub over_drawn : (e : NewEdge) (r : Result ℕ PlanFault) → r ≡ answered (draw_fault (rows_of d) (plan_of d).edges e) (length (plan_of d).edges) → study_of d' [] ≡ next (study_of d []) (Draw e) → spare_of d' ≡ spare_left r (spare_of d) → Over rows d'
  over_drawn e r value after spare = go (draw_fault (rows_of d) (plan_of d).edges e) r value (ap (λ s. s.edges) after) spare
    where
      go : (f : Option PlanFault) (r : Result ℕ PlanFault) → r ≡ answered f (length (plan_of d).edges) → (plan_of d').edges ≡ (unless f (study_of d []) (changed (study_of d []) (Draw e))).edges → spare_of d' ≡ spare_left r (spare_of d) → Over rows d'
      go (Some g) r value edges left = over_same (ap length edges) (left ∙ ap (λ x. spare_left x (spare_of d)) value)
      go None r value edges left =
          over_more (ap length edges ∙ length_push (plan_of d).edges (row_of e)) (left ∙ ap (λ x. spare_left x (spare_of d)) value)

  pub over_measured : (edge long : ℕ) → study_of d' [] ≡ next (study_of d []) (Measure edge long) → spare_of d' ≡ spare_of d → Over rows d'
  over_measured edge long after spare = over_same (go (otherwise (length_fault long) (drawn_fault (plan_of d).edges edge)) (ap (λ s. s.edges) after)) spare
    where
      go : (f : Option PlanFault) → (plan_of d').edges ≡ (unless f (study_of d []) (changed (study_of d []) (Measure edge long))).edges → length (plan_of d').edges ≡ length (plan_of d).edges
      go (Some g) edges = ap length edges
      go None edges = ap length edges ∙ length-set (plan_of d).edges edge _
