use Rattle.std.proofs.Common.{◌<◌, ◌+◌, ◌*◌, ◌++◌, List, ◌∙◌, subst, arith}
use Rattle.std.specs.Prelude.{Ok, Err}
use Rattle.sq_base.specs.declared.sort.Sort.{Sort}
use Rattle.sq_base.specs.declared.sort.Sort.TheVariants.{Message, Boolean, Index}
use Rattle.sq_ast.specs.Deep.{height}
use Rattle.sq_ast.specs.View.{formula_tree}
use Rattle.sq_resolve.specs.Among.{Judges}
use Rattle.sq_resolve.specs.Heads.{context_of}
use Rattle.sq_resolve.specs.Places.{places}
use Rattle.sq_resolve.specs.Resolved.{group_variables}
use Rattle.sq_resolve.specs.Scopes.{Variable}
use Rattle.sq_resolve.proofs.Among.{judges_then, judges_fault, judges_error, root_fault}
use Rattle.sq_resolve.proofs.Among.{argument_fault, argument_judged, above_zero}
use Rattle.sq_resolve.proofs.Rows.{height_at}
use Rattle.sq_resolve.proofs.Walks.{restored}
use Rattle.sq_resolve.proofs.places.+places.Goals as goal

pub judge_arguments-judge_places-requires : goal.judge_arguments-judge_places-requires
judge_arguments-judge_places-requires t c =
    let low =
    height_at c.args.args.now c.loop-at.at c.index-args-at.result _ c.loop-at-test.true
    c.index-args-at.is in
    let at = c.decreases in
    let falls : 4 * height (formula_tree c.index-args-at.result) + 1 < t = omega (arith, low, at) in
    (falls, tt)

pub judge_arguments-returns-in_err-left-clause-judged
    : goal.judge_arguments-returns-in_err-left-clause-judged
judge_arguments-returns-in_err-left-clause-judged t c =
    let k = context_of c.args.r.now in
    let bs = c.args.around.now in
    let inv = c.loop-at.invariant in
    let e = c.in_err-left.field-0.0 in
    let f = formula_tree c.index-args-at.result in
    let at_scope =
    subst (λ (vs : List Variable). Judges k c.loop-at.left (places k vs c.argument_sort.result f)
    (Err e)) inv.0 c.in_err-left.ensures.judged in
    let judged =
    subst (λ (s : Sort). Judges k c.loop-at.left (places k bs s f) (Err e)) c.argument_sort.ensures
    at_scope in
    judges_error k c.args.count _ c.from_residual.result e c.from_residual.ensures.1
    (argument_fault k bs c.args.count c.loop-at.left c.args.indices c.loop-at.at c.args.args.now
    c.index-args-at.result _ inv.1.0 c.loop-at-test.true c.index-args-at.is inv.1.1.0 inv.1.1.1 e
    judged)

pub judge_arguments-loop-at-preserved : goal.judge_arguments-loop-at-preserved
judge_arguments-loop-at-preserved t c =
    let k = context_of c.args.r.now in
    let bs = c.args.around.now in
    let inv = c.loop-at.invariant in
    let next = c.in_ok-left.left in
    let f = formula_tree c.index-args-at.result in
    let at_scope =
    subst (λ (vs : List Variable). Judges k c.loop-at.left (places k vs c.argument_sort.result f)
    (Ok next)) inv.0 c.in_ok-left.ensures.judged in
    let judged =
    subst (λ (s : Sort). Judges k c.loop-at.left (places k bs s f) (Ok next))
    c.argument_sort.ensures at_scope in (
      c.in_ok-left.ensures.kept ∙ inv.0,
      argument_judged k bs c.args.count c.loop-at.left c.args.indices c.loop-at.at c.args.args.now
          c.index-args-at.result _ inv.1.0 c.loop-at-test.true c.index-args-at.is inv.1.1.0
          inv.1.1.1 next judged,
    )

pub judge_conditional-returns-in_err-left-clause-judged
    : goal.judge_conditional-returns-in_err-left-clause-judged
judge_conditional-returns-in_err-left-clause-judged t c =
    let k = context_of c.args.r.now in
    let bs = c.args.around.now in
    let e = c.in_err-left.field-0.0 in
    judges_error k c.args.count _ c.from_residual.result e c.from_residual.ensures.1
    (judges_fault k c.args.count (places k bs Boolean (formula_tree c.args.a.now))
    (places k bs Message (formula_tree c.args.b.now)
    ++ places k bs Message (formula_tree c.args.c.now)) e c.in_err-left.ensures.judged)

pub judge_two-returns-in_err-left-clause-judged : goal.judge_two-returns-in_err-left-clause-judged
judge_two-returns-in_err-left-clause-judged t c =
    let k = context_of c.args.r.now in
    let bs = c.args.around.now in
    let e = c.in_err-left.field-0.0 in
    judges_error k c.args.count _ c.from_residual.result e c.from_residual.ensures.1
    (judges_fault k c.args.count (places k bs c.args.want (formula_tree c.args.a.now))
    (places k bs c.args.want (formula_tree c.args.b.now)) e c.in_err-left.ensures.judged)

pub judge_places-returns-in_err-own_fault-clause-judged
    : goal.judge_places-returns-in_err-own_fault-clause-judged
judge_places-returns-in_err-own_fault-clause-judged t c =
    let k = context_of c.args.r.now in
    let e = c.in_err-own_fault.field-0.0 in
    let positive : 0 < c.args.count = above_zero c.args.count c.if-count-eq0.false in
    judges_error k c.args.count _ c.from_residual.result e c.from_residual.ensures.1
    (root_fault k c.args.count c.args.around.now c.args.want (formula_tree c.args.f.now) e positive
    (rw c.as_slice.ensures at c.in_err-own_fault.ensures))

pub judge_search-returns-in_err-first-clause-judged
    : goal.judge_search-returns-in_err-first-clause-judged
judge_search-returns-in_err-first-clause-judged t c =
    let k = context_of c.args.r.now in
    let bs = c.args.around.now in
    let vs = bs ++ group_variables Index c.args.names.now in
    let e = c.in_err-first.field-0.0 in
    let first =
    subst (λ (ws : List Variable). Judges k c.args.count
    (places k ws Boolean (formula_tree c.args.a.now)) (Err e)) c.in_ok-push_names.ensures
    c.in_err-first.ensures.judged in
    judges_error k c.args.count _ c.from_residual-in_err-first.result e
    c.from_residual-in_err-first.ensures.1
    (judges_fault k c.args.count (places k vs Boolean (formula_tree c.args.a.now))
    (places k vs Message (formula_tree c.args.b.now)
    ++ places k bs Message (formula_tree c.args.c.now)) e first)

pub judge_search-returns-in_err-second-clause-judged
    : goal.judge_search-returns-in_err-second-clause-judged
judge_search-returns-in_err-second-clause-judged t c =
    let k = context_of c.args.r.now in
    let bs = c.args.around.now in
    let vs = bs ++ group_variables Index c.args.names.now in
    let e = c.in_err-second.field-0.0 in
    let pushed = c.in_ok-push_names.ensures in
    let first =
    subst (λ (ws : List Variable). Judges k c.args.count
    (places k ws Boolean (formula_tree c.args.a.now)) (Ok c.in_ok-first.first)) pushed
    c.in_ok-first.ensures.judged in
    let second =
    subst (λ (ws : List Variable). Judges k c.in_ok-first.first
    (places k ws Message (formula_tree c.args.b.now)) (Err e)) (c.in_ok-first.ensures.kept ∙ pushed)
    c.in_err-second.ensures.judged in
    judges_error k c.args.count _ c.from_residual-in_err-second.result e
    c.from_residual-in_err-second.ensures.1
    (judges_then k c.args.count c.in_ok-first.first
    (places k vs Boolean (formula_tree c.args.a.now))
    (places k vs Message (formula_tree c.args.b.now)
    ++ places k bs Message (formula_tree c.args.c.now)) (Err e) first
    (judges_fault k c.in_ok-first.first (places k vs Message (formula_tree c.args.b.now))
    (places k bs Message (formula_tree c.args.c.now)) e second))

pub judge_search-returns-clause-judged : goal.judge_search-returns-clause-judged
judge_search-returns-clause-judged t c =
    let k = context_of c.args.r.now in
    let bs = c.args.around.now in
    let is = group_variables Index c.args.names.now in
    let pushed = c.in_ok-push_names.ensures in
    let inner = c.in_ok-first.ensures.kept ∙ pushed in
    let back =
    restored bs is _ _ _ c.len-outer.ensures (c.in_ok-second.ensures.kept ∙ inner)
    c.truncate.ensures in
    let r = c.judge_places-3.result in
    let first =
    subst (λ (ws : List Variable). Judges k c.args.count
    (places k ws Boolean (formula_tree c.args.a.now)) (Ok c.in_ok-first.first)) pushed
    c.in_ok-first.ensures.judged in
    let second =
    subst (λ (ws : List Variable). Judges k c.in_ok-first.first
    (places k ws Message (formula_tree c.args.b.now)) (Ok c.in_ok-second.second)) inner
    c.in_ok-second.ensures.judged in
    let third =
    subst (λ (ws : List Variable). Judges k c.in_ok-second.second
    (places k ws Message (formula_tree c.args.c.now)) r) back c.judge_places-3.ensures.judged in
    judges_then k c.args.count c.in_ok-first.first
    (places k (bs ++ is) Boolean (formula_tree c.args.a.now))
    (places k (bs ++ is) Message (formula_tree c.args.b.now)
    ++ places k bs Message (formula_tree c.args.c.now)) r first
    (judges_then k c.in_ok-first.first c.in_ok-second.second
    (places k (bs ++ is) Message (formula_tree c.args.b.now))
    (places k bs Message (formula_tree c.args.c.now)) r second third)
