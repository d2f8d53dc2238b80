use Rattle.std.proofs.Common.{◌≡◌, ◌+◌, ap, ◌∙◌, arith}
use Rattle.sq_print.specs.Names as spec
use Rattle.sq_sym.specs.Candidates.{candidate}
use Rattle.sq_print.specs.Scopes.{names_of}
use Rattle.sq_print.proofs.Supplied.{tried_more}
use Rattle.sq_print.proofs.binders.Supply.reach.Goals as goal

pub candidates-preserved : goal.candidates-preserved
candidates-preserved c =
    let old = c.candidates.self in
    let next : c.in-Some.tried ≡ old.tried + 1 = omega (arith, c.in-Some.ensures) in (
      tried_more (names_of c.args.scope.now) (spec.stem c.args.sort) old
          (record old { found = c.add_free.new.found; tried = c.in-Some.tried }) c.in_ok-name.name
          c.candidates.invariant.0 (omega (arith, c.in-Some.ensures)) next
          (c.in_ok-name.ensures
          ∙ ap (λ s. candidate s old.tried) c.stem.ensures) c.in_ok-add_free.ensures,
      c.candidates.invariant.1,
    )
