use Rattle.std.proofs.Common.{◌+◌, ◌≤◌, [], ◌∷◌, subst}
use Rattle.sq_system.specs.Limits.{most_entries}
use Rattle.sq_system.proofs.EnvPushes.{with_names, same_names, on_err}
use Rattle.sq_system.proofs.env.Env.add_name.Goals as goal

pub invariant_of-self : goal.invariant_of-self
invariant_of-self c =
    record {
      well_formed =
          with_names c.args.self.now c.push.result (c.args.arity ∷ []) c.push.new.self
          (subst (λ n. n + 1 ≤ most_entries) c.len.ensures c.in_ok-number.ensures.1)
          c.push.ensures.ok c.push.ensures.err;
    }

pub returns-in_err-push-clause-err : goal.returns-in_err-push-clause-err
returns-in_err-push-clause-err c =
    on_err c.from_residual-in_err-push.result
    (same_names c.args.self.now.names c.args.self.now.funs c.args.self.now.systems
    c.args.self.now.stmts c.args.self.now.well_formed c.push.new.self _ c.in_err-push.ensures.err)
