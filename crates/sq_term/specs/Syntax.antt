-- Terms as definitions see them: plain data with the variants of the program's types.
use Rattle.std.specs.Prelude.{ℕ, List}
use Rattle.sq_base.specs.declared.sort.Sort.{Sort}
use Rattle.sq_term.specs.declared.term.Idx.{Idx}
use Rattle.sq_term.specs.declared.term.Macro.{Macro}
use Rattle.sq_term.specs.Symbols.{Kind}

pub data TsTree : Type 0 where
  free : ℕ → TsTree
  bound : ℕ → TsTree
  init : TsTree
  pred : TsTree → TsTree
  action : ℕ → List Idx → TsTree

mutual
  pub data TermTree : Type 0 where
    name : ℕ → List Idx → TermTree
    fun : Kind → List Idx → TermTrees → TermTree
    macro : Macro → TsTree → TermTree
    schema : ℕ → TermTree
    diff : TermTree → TermTree → TermTree
    le : TsTree → TsTree → TermTree
    ts_eq : TsTree → TsTree → TermTree
    idx_eq : Idx → Idx → TermTree
    happens : TsTree → TermTree
    all : Sort → TermTree → TermTree
    some : Sort → TermTree → TermTree
    find : ℕ → TermTree → TermTree → TermTree → TermTree

  pub data TermTrees : Type 0 where
    nil : TermTrees
    cons : TermTree → TermTrees → TermTrees
