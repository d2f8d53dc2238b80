use Rattle.std.proofs.Common.{◌<◌, sym, subst}
use Rattle.std.proofs.lemmas.List.{length-map}
use Rattle.sq_system.specs.Environments.{env_tree}
use Rattle.sq_system.specs.Statements.{stmt_tree}
use Rattle.sq_kernel.proofs.Verdicts.{closed_of, sound_of}
use Rattle.sq_kernel.proofs.closing.check.Goals as goal

pub returns-clause-closed : goal.returns-clause-closed
returns-clause-closed c = closed_of
    (env_tree c.args.env.now) c.args.goal c.args.steps.now c.verdict.result c.verdict.ensures

pub returns-clause-sound : goal.returns-clause-sound
returns-clause-sound c =
    sound_of (env_tree c.args.env.now) c.args.goal c.facts.ensures
    (subst (λ n. c.args.goal < n) (sym (length-map c.args.env.now.stmts stmt_tree)) c.requires)
    c.args.steps.now c.verdict.result c.verdict.ensures
