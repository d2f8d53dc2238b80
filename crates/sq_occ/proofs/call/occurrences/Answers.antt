use Rattle.std.proofs.Common.{◌≡◌, ◌≢◌, ◌++◌, sym, ap, ◌∙◌, subst, List}
use Rattle.std.specs.Prelude.{Result, Ok, Err, IsErrAnd}
use Rattle.sq_base.specs.Gives.{Gives}
use Rattle.sq_term.specs.Systems.{system_tree}
use Rattle.sq_term.specs.View.{term_tree}
use Rattle.sq_system.specs.Environments.{env_tree}
use Rattle.sq_system.specs.declared.fault.OccFault.{OccFault}
use Rattle.sq_system.specs.declared.fault.OccFault.TheVariants.{NoMemory}
use Rattle.sq_occ.specs.Entries.{OccTree}
use Rattle.sq_occ.specs.Searches.{places}
use Rattle.sq_occ.specs.Calls.Answers.{ListsEveryOccurrence}
use Rattle.sq_occ.specs.Calls.Views.{occ_trees}
use Rattle.sq_occ.proofs.Called.{all_shallow, outcome_large}
use Rattle.sq_occ.proofs.Covered.{covered}
use Rattle.sq_occ.proofs.call.occurrences.Goals as goal

refused : {A B : Type 0} (view : A → B) (r : Result A OccFault) (e : OccFault)
    (outcome : Result B OccFault) → IsErrAnd r (λ x. x ≡ e) → (e ≢ NoMemory → outcome ≡ Err e)
    → Gives NoMemory view r outcome
refused view (Ok v) e outcome same h = absurd same
refused view (Err x) e outcome same h =
    subst (λ (y : OccFault). y ≢ NoMemory → outcome ≡ Err y) (sym same) h

pub returns-in_err-add_sides-clause-exact : goal.returns-in_err-add_sides-clause-exact
returns-in_err-add_sides-clause-exact c deep =
    let funs = c.args.env.now.funs in
    let s = system_tree c.args.system.now in
    let t = term_tree c.args.t.now in
    refused occ_trees c.from_residual.result c.in_err-add_sides.field-0.0 _
    c.from_residual.ensures.1
    (λ other. let p = c.in_err-add_sides.ensures other in
    outcome_large funs s c.args.name t c.args.side
    (sym c.holds_schema.ensures ∙ c.if-holds_schema.false)
    (p.1 (all_shallow funs s c.args.name t c.args.side c.count-count.ensures.facts.shallow deep))
    ∙ ap Err (sym p.0))

pub returns-clause-every : goal.returns-clause-every
returns-clause-every c =
    let s = system_tree c.args.system.now in
    let t = term_tree c.args.t.now in
    subst
    (λ (us : List OccTree). ListsEveryOccurrence (env_tree c.args.env.now) s c.args.name
    c.args.side t us)
    (sym (c.in_ok-add_sides.ensures.0
    ∙ ap (λ os. occ_trees os ++ places c.args.env.now.funs s c.args.name c.args.side t)
    c.new.ensures))
    (covered (env_tree c.args.env.now) s c.args.name c.args.side t
    c.count-count.ensures.facts.system (sym c.holds_schema.ensures ∙ c.if-holds_schema.false))
