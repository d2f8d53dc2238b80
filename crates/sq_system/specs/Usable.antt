-- Which statements a goal may use.
use Rattle.std.specs.Prelude.{ℕ, List, [], ◌∷◌, flat_map, get_or, Bool, true, false, if◌then◌else◌}
use Rattle.std.specs.Prelude.{not, ◌&&◌, ◌||◌, ◌==◌, nat_lt, Option, Some, None}
use Rattle.sq_base.specs.declared.sort.Sort.{Sort}
use Rattle.sq_base.specs.declared.sort.Sort.TheVariants.{Timestamp}
use Rattle.sq_term.specs.Lists.{count}
use Rattle.sq_term.specs.Formulas.{truth}
use Rattle.sq_term.specs.Syntax.{TermTree, name, fun, macro, schema, diff, le, ts_eq, idx_eq}
use Rattle.sq_term.specs.Syntax.{happens, all, some, find, TermTrees, nil, cons}
use Rattle.sq_term.specs.Systems.{SystemTree}
use Rattle.sq_system.specs.declared.env.Stmt.{Stmt}
use Rattle.sq_system.specs.declared.env.StmtKind.{StmtKind}
use Rattle.sq_system.specs.declared.env.StmtKind.TheVariants.{Axiom, Lemma, Equiv}
use Rattle.sq_system.specs.Sequents.{SequentTree, trace, local, equiv}
use Rattle.sq_system.specs.Statements.{StmtTree, EnvTree, stmt_tree, no_actions}

abbrev pub is_timestamp : Sort → Bool
is_timestamp Timestamp = true
is_timestamp sort = false

-- a timestamp, a macro or a timestamp binder stands in the term
abbrev mutual
  pub speaks_of_time : TermTree → Bool
  speaks_of_time (name n is) = false
  speaks_of_time (fun f is ts) = speak_of_time ts
  speaks_of_time (macro m t) = true
  speaks_of_time (schema k) = false
  speaks_of_time (diff t u) = speaks_of_time t || speaks_of_time u
  speaks_of_time (le t s) = true
  speaks_of_time (ts_eq t s) = true
  speaks_of_time (idx_eq i j) = false
  speaks_of_time (happens t) = true
  speaks_of_time (all s t) = is_timestamp s || speaks_of_time t
  speaks_of_time (some s t) = is_timestamp s || speaks_of_time t
  speaks_of_time (find c test found other) =
      speaks_of_time test || (speaks_of_time found || speaks_of_time other)

  pub speak_of_time : TermTrees → Bool
  speak_of_time nil = false
  speak_of_time (cons t ts) = speaks_of_time t || speak_of_time ts

-- stands for a statement that is not there
abbrev pub no_statement : StmtTree
no_statement =
    record { kind = Lemma; system = 0; schemas = []; vars = []; start = trace [] [] truth }

abbrev pub statement_or_none : Option Stmt → StmtTree
statement_or_none None = no_statement
statement_or_none (Some s) = stmt_tree s

abbrev pub statement_at : EnvTree → ℕ → StmtTree
statement_at env k = get_or env.stmts k no_statement

-- the formula of an axiom or a lemma, which has no variables and no hypotheses
abbrev pub formula_of : SequentTree → TermTree
formula_of (trace vars hyps goal) = goal
formula_of (local side vars hyps goal) = goal
formula_of (equiv vars hyps known items) = truth

abbrev pub is_axiom : StmtKind → Bool
is_axiom Axiom = true
is_axiom kind = false

-- an axiom or a lemma
abbrev pub states_a_formula : StmtKind → Bool
states_a_formula Axiom = true
states_a_formula Lemma = true
states_a_formula Equiv = false

-- an axiom whose formula speaks of no time holds in every system
abbrev pub is_timeless_axiom : StmtTree → Bool
is_timeless_axiom g = is_axiom g.kind && not (speaks_of_time (formula_of g.start))

-- statement k may be used in the proof of the later goal g: both belong to one system, or k is an
-- axiom that does not speak of time
abbrev pub usable : EnvTree → ℕ → ℕ → Bool
usable env g k =
    nat_lt k g
    && (((statement_at env k).system == (statement_at env g).system)
    || is_timeless_axiom (statement_at env k))

-- the axioms that the goal may use
abbrev pub usable_axioms : EnvTree → ℕ → List TermTree
usable_axioms env g =
    flat_map
    (λ k. if is_axiom (statement_at env k).kind && usable env g k
    then formula_of (statement_at env k).start ∷ [] else [])
    (count 0 g)

-- the goal's system
abbrev pub system_of : EnvTree → ℕ → SystemTree
system_of env g = get_or env.systems (statement_at env g).system no_actions
