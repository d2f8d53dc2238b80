use Rattle.std.proofs.Common.{ℕ, ◌+◌, ◌-◌, take, sym, ap, ◌∙◌, subst}
use Rattle.std.specs.Prelude.{Err}
use Rattle.sq_ast.specs.View.{formula_tree}
use Rattle.sq_resolve.specs.Heads.{context_of}
use Rattle.sq_resolve.specs.Places.{first_fault, places}
use Rattle.sq_resolve.specs.Stops.{nodes, passed}
use Rattle.sq_elab.specs.declared.fault.ElabFault.{ElabFault}
use Rattle.sq_elab.specs.Faults.{or_stop, stop_place}
use Rattle.sq_elab.specs.Judging.{JudgesFormula}
use Rattle.sq_elab.proofs.FormulaLaws.{judged_within, judged_fault, judged_stop}
use Rattle.sq_elab.proofs.formula.judge_formula.Goals as goal

pub returns-in-Ok-resolve_term-clause-judged : goal.returns-in-Ok-resolve_term-clause-judged
returns-in-Ok-resolve_term-clause-judged c = λ b w k here at.
    judged_within b w k c.args.around.now c.args.want c.args.depth (formula_tree c.args.f.now)
    (context_of c.args.r.now) c.in-Ok.nodes c.in-Ok-resolve_term.built here c.requires
    c.in-Ok-resolve_term.ensures.builds
    (c.in-Ok.ensures
    ∙ ap (λ (n : ℕ). passed n (nodes c.args.depth (formula_tree c.args.f.now))) (sym at))

pub returns-in-Err-resolve_term-clause-judged : goal.returns-in-Err-resolve_term-clause-judged
returns-in-Err-resolve_term-clause-judged c = λ b w k here at.
    subst (λ (x : ElabFault). JudgesFormula b w k c.args.around.now c.args.want c.args.depth
    (formula_tree c.args.f.now) (Err x)) (sym c.of_resolving.ensures)
    (judged_fault b w k c.args.around.now c.args.want c.args.depth (formula_tree c.args.f.now)
    (context_of c.args.r.now) c.in-Ok.nodes c.in-Err-resolve_term.fault here c.requires
    c.in-Err-resolve_term.ensures.builds
    (c.in-Ok.ensures
    ∙ ap (λ (n : ℕ). passed n (nodes c.args.depth (formula_tree c.args.f.now))) (sym at)))

pub returns-in-Err-clause-judged : goal.returns-in-Err-clause-judged
returns-in-Err-clause-judged c = λ b w k here at.
    judged_stop b w k c.args.around.now c.args.want c.args.depth (formula_tree c.args.f.now)
    (context_of c.args.r.now) c.in-Err.stopped c.first_refusal.result here
    (c.in-Err.ensures
    ∙ ap (λ (n : ℕ). passed n (nodes c.args.depth (formula_tree c.args.f.now))) (sym at))
    (λ known.
    c.first_refusal.ensures known
    ∙ ap (λ (n : ℕ). or_stop (first_fault (context_of c.args.r.now)
    (take (stop_place c.in-Err.stopped - n + 1)
    (places (context_of c.args.r.now) c.args.around.now c.args.want
    (formula_tree c.args.f.now)))) c.in-Err.stopped) (sym at))
