-- What may stand for a variable, as definitions see it.
use Rattle.sq_term.specs.declared.term.Idx.{Idx}
use Rattle.sq_term.specs.declared.term.Arg.{Arg}
use Rattle.sq_term.specs.declared.term.Arg.TheVariants as arg
use Rattle.sq_term.specs.Syntax.{TsTree}
use Rattle.sq_term.specs.View.{ts_tree}

pub data ArgTree : Type 0 where
  an_index : Idx → ArgTree
  a_time : TsTree → ArgTree

-- the argument that the program's value holds
abbrev pub arg_tree : Arg → ArgTree
arg_tree (arg.Index i) = an_index i
arg_tree (arg.Time t) = a_time (ts_tree t)
