use Rattle.std.proofs.Common.{rules, ◌≡◌, ap, arith}
use Rattle.std.proofs.lemmas.List.{drop_all}
use Rattle.sq_term.specs.declared.term.SizeFault.TheVariants.{TooLarge}
use Rattle.sq_term.specs.Ground.{grounds}
use Rattle.sq_ground.specs.Calls.Builds.{AllPass}
use Rattle.sq_ground.proofs.Grounds.{next_of, row_start, row_next, row_done, row_too_large}
use Rattle.sq_ground.proofs.ground_copy.+copy.Goals as goal

pub copy_grounds-loop-t-init : goal.copy_grounds-loop-t-init
copy_grounds-loop-t-init t c = row_start _ _ _ c.new-out.ensures

pub copy_grounds-returns-in_err-term : goal.copy_grounds-returns-in_err-term
copy_grounds-returns-in_err-term t c =
    let left =
    next_of c.args.terms.now c.loop-t.t-index c.t-item.result c.loop-t-test.true c.t-item.is in
    let h : c.in_err-term.field-0.0 ≡ TooLarge → AllPass c.args.room (grounds c.args.terms.now) =
    λ e. row_too_large _ _ _ _ _ _ _ _ c.loop-t.invariant (ap grounds left)
    (c.in_err-term.ensures e) in
    search rules

pub copy_grounds-loop-t-preserved : goal.copy_grounds-loop-t-preserved
copy_grounds-loop-t-preserved t c =
    let left =
    next_of c.args.terms.now c.loop-t.t-index c.t-item.result c.loop-t-test.true c.t-item.is in
    row_next _ _ _ _ _ _ _ _ c.in_ok-term.field-0 _ _ c.loop-t.invariant
    (ap grounds left) c.in_ok-term.ensures c.in_ok-push.ensures.ok (omega arith)

pub copy_grounds-returns : goal.copy_grounds-returns
copy_grounds-returns t c =
    row_done _ _ _ _ _ _ c.loop-t.invariant (ap grounds (drop_all _ _ c.loop-t-test.false))
