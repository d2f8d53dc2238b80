-- Environments as definitions see them.
use Rattle.std.specs.Prelude.{ℕ, map, take, [], ◌∷◌}
use Rattle.sq_term.specs.Systems.{system_tree}
use Rattle.sq_typing.specs.Functions.{builtin_functions}
use Rattle.sq_system.specs.declared.env.Env.{Env}
use Rattle.sq_system.specs.Statements.{EnvTree, stmt_tree, no_actions}

abbrev pub env_tree : Env → EnvTree
env_tree e =
    record {
      names = e.names;
      funs = e.funs;
      systems = map system_tree e.systems;
      stmts = map stmt_tree e.stmts;
    }

-- what every file begins with: the built-in functions, and the system without actions
abbrev pub without_declarations : EnvTree
without_declarations =
    record { names = []; funs = builtin_functions; systems = no_actions ∷ []; stmts = [] }

-- the environment with its first names and its first systems alone
abbrev pub truncated : ℕ → ℕ → EnvTree → EnvTree
truncated names systems e =
    record e { names = take names e.names; systems = take systems e.systems }
