-- What the program's values are for the definition: the declarations before a `system` sentence,
-- and what it leaves.
use Rattle.std.specs.Prelude.{ℕ, List, map}
use Rattle.sq_ast.specs.declared.declaration.ProcDecl.{ProcDecl}
use Rattle.sq_ast.specs.ProcTree.{process_tree}
use Rattle.sq_sym.specs.declared.symbol.Symbol.{Symbol}
use Rattle.sq_system.specs.declared.env.Env.{Env}
use Rattle.sq_term.specs.declared.action.Action.{Action}
use Rattle.sq_term.specs.Systems.{action_tree}
use Rattle.sq_elab.specs.Inlined.{ProcessTree}
use Rattle.sq_elab.specs.Meanings.{Base}
use Rattle.sq_elab.specs.Outcome.{Elaborated}

abbrev pub declared_tree : ProcDecl → ProcessTree
declared_tree d = record {
  name = d.name;
  params = d.params;
  body = process_tree d.body;
  sentence = d.sentence;
}

-- the declarations that the sentence stands behind
abbrev pub base : List (List ℕ × Symbol) → Env → List ProcDecl → Base
base table e procs = record {
  table = table;
  names = e.names;
  funs = e.funs;
  systems = e.systems;
  processes = map declared_tree procs;
}

-- the actions, and what table and environment are behind it
abbrev pub elaborated_as : List Action → List (List ℕ × Symbol) → Env → Elaborated
elaborated_as actions table e = record {
  actions = map action_tree actions;
  table = table;
  names = e.names;
}
