use Rattle.std.proofs.Common.{rules, ◌≡◌, sym, ap, ◌∙◌, subst, ◌+◌, [], ◌∷◌, ◌++◌, drop}
use Rattle.std.proofs.Common.{length}
use Rattle.sq_term.specs.Systems.{action_tree, action_trees}
use Rattle.sq_occ.specs.Calls.Bodies.{scan_of, places_in, all_places_in}
use Rattle.sq_occ.proofs.Finding.{Finds, finds_next, finds_stop, finds_err, finds_here, one_longer}
use Rattle.sq_occ.proofs.Growth.{drop_next}
use Rattle.sq_occ.proofs.bodies.find_once.Goals as goal

pub returns-in_err-find_in : goal.returns-in_err-find_in
returns-in_err-find_in c =
    let S = scan_of c.args.search.now in
    let xs = c.args.actions.now in
    let i = c.loop-action.action-index in
    let a = c.action-item.result in
    let number : c.in_ok-number.number ≡ length c.loop-action.found = search rules in
    let here = finds_here S c.args.room c.loop-action.left c.loop-action.found xs i a
    c.in_ok-number.number _ (drop_next xs i a c.loop-action-test.true c.action-item.is)
    (number ∙ c.loop-action.invariant.1) c.loop-action.invariant.0 in
    finds_err c.from_residual-in_err-find_in.result c.in_err-find_in.field-0.0 c.args.room _
    c.from_residual-in_err-find_in.ensures.1
    (finds_stop c.in_err-find_in.field-0.0 c.args.room c.loop-action.left c.loop-action.found
    (places_in S c.in_ok-number.number (action_tree a)) _ _ here c.in_err-find_in.ensures)

pub loop-action-preserved : goal.loop-action-preserved
loop-action-preserved c =
    let S = scan_of c.args.search.now in
    let xs = c.args.actions.now in
    let i = c.loop-action.action-index in
    let a = c.action-item.result in
    let number : c.in_ok-number.number ≡ length c.loop-action.found = search rules in
    let here = finds_here S c.args.room c.loop-action.left c.loop-action.found xs i a
    c.in_ok-number.number _ (drop_next xs i a c.loop-action-test.true c.action-item.is)
    (number ∙ c.loop-action.invariant.1) c.loop-action.invariant.0 in
    let next = finds_next c.args.room c.loop-action.left c.find_in.new.room c.loop-action.found
    c.in_ok-find_in.field-0 (places_in S c.in_ok-number.number (action_tree a)) _ _ here
    c.in_ok-find_in.ensures.0 c.in_ok-find_in.ensures.1 in
    let pushed : c.push.new.self ≡ c.loop-action.found ++ c.in_ok-find_in.field-0 ∷ [] =
    c.in_ok-push.ensures.ok in (
      subst (λ ps. Finds c.args.room c.find_in.new.room ps
          (all_places_in S (i + 1) (action_trees (drop (i + 1) xs)))
          (all_places_in S 0 (action_trees xs))) (sym pushed) next,
      ap length pushed
          ∙ (one_longer c.loop-action.found c.in_ok-find_in.field-0
          ∙ ap (λ n. n + 1) c.loop-action.invariant.1),
    )
