use Rattle.std.proofs.Common.{◌≡◌, None, sym, subst}
use Rattle.sq_base.specs.declared.sort.Sort.{Sort}
use Rattle.sq_resolve.specs.Among.{Tells}
use Rattle.sq_resolve.specs.Heads.{context_of}
use Rattle.sq_resolve.specs.Places.{identifier_fault}
use Rattle.sq_resolve.specs.Scopes.{meaning}
use Rattle.sq_resolve.proofs.Among.{index_known, index_unknown, moment_known, moment_unknown}
use Rattle.sq_resolve.proofs.Among.{value_known, value_unknown, tells_error}
use Rattle.sq_resolve.proofs.places.identifier.Goals as goal

pub returns-in_err-index_head-in-Index : goal.returns-in_err-index_head-in-Index
returns-in_err-index_head-in-Index c =
    let k = context_of c.args.r.now in
    let bs = c.args.binders.now in
    let x = c.args.name.now in
    let n = c.args.args in
    let e = c.in_err-index_head-in-Index.field-0.0 in
    subst (λ (w : Sort). Tells c.from_residual.result (identifier_fault w x n (meaning k bs x)))
    (sym c.in-Index.is)
    (tells_error c.from_residual.result e _ c.from_residual.ensures.1
    (λ h. index_unknown k bs x n e (c.in_err-index_head-in-Index.ensures h)))

pub returns-in_err-moment_head-in-Timestamp : goal.returns-in_err-moment_head-in-Timestamp
returns-in_err-moment_head-in-Timestamp c =
    let k = context_of c.args.r.now in
    let bs = c.args.binders.now in
    let x = c.args.name.now in
    let n = c.args.args in
    let e = c.in_err-moment_head-in-Timestamp.field-0.0 in
    let r = c.from_residual-in_err-moment_head-in-Timestamp.result in
    subst (λ (w : Sort). Tells r (identifier_fault w x n (meaning k bs x))) (sym c.in-Timestamp.is)
    (tells_error r e _ c.from_residual-in_err-moment_head-in-Timestamp.ensures.1
    (λ h. moment_unknown k bs x n e (c.in_err-moment_head-in-Timestamp.ensures h)))

pub returns-in_err-value_head-in-Message : goal.returns-in_err-value_head-in-Message
returns-in_err-value_head-in-Message c =
    let k = context_of c.args.r.now in
    let bs = c.args.binders.now in
    let x = c.args.name.now in
    let n = c.args.args in
    let e = c.in_err-value_head-in-Message.field-0.0 in
    tells_error c.from_residual-in_err-value_head-in-Message.result e _
    c.from_residual-in_err-value_head-in-Message.ensures.1
    (λ h. value_unknown k bs x n c.args.want e c.in-Message.is
    (c.in_err-value_head-in-Message.ensures h))

pub returns-in_ok-index_head-in-Index : goal.returns-in_ok-index_head-in-Index
returns-in_ok-index_head-in-Index c =
    let k = context_of c.args.r.now in
    let bs = c.args.binders.now in
    let x = c.args.name.now in
    let n = c.args.args in
    subst (λ (w : Sort). identifier_fault w x n (meaning k bs x) ≡ None) (sym c.in-Index.is)
    (index_known k bs x n _ c.in_ok-index_head-in-Index.ensures)

pub returns-in_ok-moment_head-in-Timestamp : goal.returns-in_ok-moment_head-in-Timestamp
returns-in_ok-moment_head-in-Timestamp c =
    let k = context_of c.args.r.now in
    let bs = c.args.binders.now in
    let x = c.args.name.now in
    let n = c.args.args in
    subst (λ (w : Sort). identifier_fault w x n (meaning k bs x) ≡ None) (sym c.in-Timestamp.is)
    (moment_known k bs x n _ c.in_ok-moment_head-in-Timestamp.ensures)

pub returns-in_ok-value_head-in-Message : goal.returns-in_ok-value_head-in-Message
returns-in_ok-value_head-in-Message c =
    value_known (context_of c.args.r.now) c.args.binders.now c.args.name.now c.args.args c.args.want
    _ c.in-Message.is c.in_ok-value_head-in-Message.ensures
