use Rattle.std.proofs.Common.{refl}
use Rattle.std.proofs.lemmas.List.{take_all}
use Rattle.sq_subst.specs.Changes.{leaves}
use Rattle.sq_subst.specs.Leaves.{map_term, map_terms}
use Rattle.sq_subst.proofs.Built.{built}
use Rattle.sq_subst.proofs.walk.+walk.Goals as goal

pub parts-returns : goal.parts-returns
parts-returns t c =
    let L = leaves c.args.change.now in
    built (map_term L c.args.binders) (map_terms L c.args.binders) refl (λ t ts. refl) _ _
    (rw (take_all _ _ c.loop-term-test.false) at c.loop-term.invariant)
