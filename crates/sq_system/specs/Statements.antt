-- Statements as definitions see them, and what an environment holds.
use Rattle.std.specs.Prelude.{ℕ, List, []}
use Rattle.sq_term.specs.declared.signature.FunDecl.{FunDecl}
use Rattle.sq_term.specs.Systems.{SystemTree}
use Rattle.sq_system.specs.declared.env.Stmt.{Stmt}
use Rattle.sq_system.specs.declared.env.StmtKind.{StmtKind}
use Rattle.sq_system.specs.Sequents.{SequentTree, sequent_tree}

-- a statement: its kind, its system, the names of its schema variables and variables, and its
-- starting sequent
pub record StmtTree : Type 0 where
  pub kind : StmtKind
  pub system : ℕ
  pub schemas : List (List ℕ)
  pub vars : List (List ℕ)
  pub start : SequentTree

pub record EnvTree : Type 0 where
  pub names : List ℕ
  pub funs : List FunDecl
  pub systems : List SystemTree
  pub stmts : List StmtTree

-- the system without actions
abbrev pub no_actions : SystemTree
no_actions = record { actions = [] }

abbrev pub stmt_tree : Stmt → StmtTree
stmt_tree s =
    record {
      kind = s.kind;
      system = s.system;
      schemas = s.schemas;
      vars = s.vars;
      start = sequent_tree s.start;
    }
