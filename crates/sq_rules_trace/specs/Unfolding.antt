-- What macros are: at init, at an action, behind init, and where nothing happens.
use Rattle.std.specs.Prelude.{◌≢◌, ℕ, List, [], map}
use Rattle.sq_term.specs.declared.term.Idx.{Idx}
use Rattle.sq_term.specs.declared.term.Macro.{Macro}
use Rattle.sq_term.specs.declared.term.Macro.TheVariants.{Input, Output, Cond, Exec, Frame}
use Rattle.sq_term.specs.declared.term.Side.{Side}
use Rattle.sq_term.specs.Arguments.{an_index}
use Rattle.sq_term.specs.Formulas.{unary, negation, both, equal, equivalent, empty, conditional}
use Rattle.sq_term.specs.Formulas.{pair}
use Rattle.sq_term.specs.Formulas.{of_bool}
use Rattle.sq_term.specs.Symbols as kind
use Rattle.sq_term.specs.Syntax.{TsTree, init, pred, action, TermTree, macro, ts_eq, happens}
use Rattle.sq_term.specs.Systems.{SystemTree, action_at}
use Rattle.sq_subst.specs.Projection.{projected}
use Rattle.sq_subst.specs.Substitution.{instance_of}

-- the macro has this value: an equation of messages, or an equivalence of formulas
abbrev pub has_value : Macro → TsTree → TermTree → TermTree
has_value Input t u = equal (macro Input t) u
has_value Output t u = equal (macro Output t) u
has_value Cond t u = equivalent (macro Cond t) u
has_value Exec t u = equivalent (macro Exec t) u
has_value Frame t u = equal (macro Frame t) u

-- at init messages are empty, and nothing was refused
abbrev pub initial : Macro → TermTree
initial Input = equal (macro Input init) empty
initial Output = equal (macro Output init) empty
initial Cond = macro Cond init
initial Exec = macro Exec init
initial Frame = equal (macro Frame init) empty

-- where nothing happens messages are empty and formulas false
abbrev pub undefined : Macro → TsTree → TermTree
undefined Input t = equal (macro Input t) empty
undefined Output t = equal (macro Output t) empty
undefined Cond t = negation (macro Cond t)
undefined Exec t = negation (macro Exec t)
undefined Frame t = equal (macro Frame t) empty

-- an action's body at these indices, on a side
abbrev pub body_at : Side → List Idx → TermTree → TermTree
body_at side is body = instance_of (map an_index is) [] (projected side body)

abbrev pub is_behind_init : TsTree → TermTree
is_behind_init t = both (happens t) (negation (ts_eq t init))

-- Under a condition a macro has this value at a timestamp, on a side: outputs and conditions are
-- those of an action, the others are made of what stands before and of the action's own.
pub data Unfolds (s : SystemTree) (side : Side) : Macro → TsTree → TermTree → TermTree
    → Type 0 where
  output : (n : ℕ) (is : List Idx)
      → Unfolds s side Output (action n is) (happens (action n is))
      (body_at side is (action_at s n).output)
  cond : (n : ℕ) (is : List Idx)
      → Unfolds s side Cond (action n is) (happens (action n is))
      (body_at side is (action_at s n).cond)
  input : (t : TsTree) → t ≢ init
      → Unfolds s side Input t (is_behind_init t) (unary kind.attacker (macro Frame (pred t)))
  exec : (t : TsTree) → t ≢ init
      → Unfolds s side Exec t (is_behind_init t) (both (macro Exec (pred t)) (macro Cond t))
  frame : (t : TsTree) → t ≢ init
      → Unfolds s side Frame t (is_behind_init t)
      (pair (macro Frame (pred t))
      (pair (of_bool (macro Exec t)) (conditional (macro Exec t) (macro Output t) empty)))
