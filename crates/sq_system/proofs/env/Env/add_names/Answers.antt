use Rattle.std.proofs.Common.{◌+◌, ◌≤◌, length, subst}
use Rattle.sq_system.specs.Limits.{most_entries}
use Rattle.sq_system.proofs.EnvPushes.{with_names, same_names, on_err}
use Rattle.sq_system.proofs.env.Env.add_names.Goals as goal

pub invariant_of-self : goal.invariant_of-self
invariant_of-self c =
    record {
      well_formed =
          with_names c.args.self.now c.extend_from_slice.result c.args.arities.now
          c.extend_from_slice.new.self
          (subst (λ n. n + length c.args.arities.now ≤ most_entries) c.len.ensures
          c.in_ok-number.ensures.1)
          c.extend_from_slice.ensures.ok c.extend_from_slice.ensures.err;
    }

pub returns-in_err-extend_from_slice-clause-err : goal.returns-in_err-extend_from_slice-clause-err
returns-in_err-extend_from_slice-clause-err c =
    on_err c.from_residual-in_err-extend_from_slice.result
    (same_names c.args.self.now.names c.args.self.now.funs c.args.self.now.systems
    c.args.self.now.stmts c.args.self.now.well_formed c.extend_from_slice.new.self _
    c.in_err-extend_from_slice.ensures.err)
