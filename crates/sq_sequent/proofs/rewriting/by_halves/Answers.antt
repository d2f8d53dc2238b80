use Rattle.std.proofs.Common.{sym, ◌∙◌}
use Rattle.sq_sequent.proofs.RewriteShapes.{halves-first, halves-second, no-back}
use Rattle.sq_sequent.proofs.rewriting.by_halves.Goals as goal
use Rattle.sq_sequent.proofs.rewriting.by_halves.Goals.{
  else-is_same-via-then-is_same+else-is_same-2,
}
use Rattle.sq_sequent.proofs.rewriting.by_halves.Goals.{else-is_same-via-else-is_same}

pub returns-else-is_same : goal.returns-else-is_same
returns-else-is_same c =
    elim c.else-is_same.branch [
      | else-is_same-via-then-is_same+else-is_same-2 w ↦
          halves-second _ _ _ _ _ _ c.in-Implies.ensures c.in-Implies-shape_of.ensures
          (sym w.is_same-then-is_same.ensures ∙ w.if-is_same-2.false)
      | else-is_same-via-else-is_same w ↦
          halves-first _ _ _ _ _ _ c.in-Implies.ensures c.in-Implies-shape_of.ensures
          (sym c.is_same.ensures ∙ w.if-is_same.false)
    ]

pub returns-in_default-shape_of : goal.returns-in_default-shape_of
returns-in_default-shape_of c =
    no-back c.shape_of-in-Implies.result _ _ _ _ c.in-Implies.ensures c.shape_of-in-Implies.ensures
    c.in_default-shape_of.not-Implies
