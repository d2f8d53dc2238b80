use Rattle.std.specs.Prelude.{map}
use Rattle.sq_system.specs.Statements.{stmt_tree}
use Rattle.sq_system.proofs.EnvPushes.{truncated_kept, truncated_tree}
use Rattle.sq_system.proofs.env.Env.truncate.Goals as goal

pub invariant_of-self : goal.invariant_of-self
invariant_of-self c =
    record {
      well_formed =
          truncated_kept c.args.self.now c.args.names c.args.systems c.truncate.new.self
          c.truncate-2.new.self c.requires c.truncate.ensures c.truncate-2.ensures;
    }

pub returns : goal.returns
returns c =
    let names = c.truncate.ensures in
    let systems =
    truncated_tree c.args.systems c.args.self.now.systems c.truncate-2.new.self
    c.truncate-2.ensures in
    λ i. record {
      names = names i;
      funs = c.args.self.now.funs;
      systems = systems i;
      stmts = map stmt_tree c.args.self.now.stmts;
    }
