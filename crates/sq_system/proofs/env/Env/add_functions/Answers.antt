use Rattle.std.proofs.Common.{◌+◌, ◌≤◌, length, subst}
use Rattle.sq_system.specs.Limits.{most_entries}
use Rattle.sq_system.proofs.EnvPushes.{with_functions, same_funs, on_err}
use Rattle.sq_system.proofs.env.Env.add_functions.Goals as goal

pub invariant_of-self : goal.invariant_of-self
invariant_of-self c =
    record {
      well_formed =
          with_functions c.args.self.now c.extend_from_slice.result c.args.more.now
          c.extend_from_slice.new.self
          (subst (λ n. n + length c.args.more.now ≤ most_entries) c.len.ensures
          c.in_ok-number.ensures.1) c.requires
          c.extend_from_slice.ensures.ok c.extend_from_slice.ensures.err;
    }

pub returns-in_err-extend_from_slice-clause-err : goal.returns-in_err-extend_from_slice-clause-err
returns-in_err-extend_from_slice-clause-err c =
    on_err c.from_residual-in_err-extend_from_slice.result
    (same_funs c.args.self.now.names c.args.self.now.funs c.args.self.now.systems
    c.args.self.now.stmts c.args.self.now.well_formed c.extend_from_slice.new.self _
    c.in_err-extend_from_slice.ensures.err)
