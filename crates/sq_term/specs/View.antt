-- The tree that a term of the program holds.
use Rattle.std.specs.Prelude.{List, [], ◌∷◌}
use Rattle.sq_term.specs.declared.term.Ts.{Ts}
use Rattle.sq_term.specs.declared.term.Ts.TheOpen.{Ts-F}
use Rattle.sq_term.specs.declared.term.Ts.TheFolds.{fold-Ts}
use Rattle.sq_term.specs.declared.term.Term.{Term}
use Rattle.sq_term.specs.declared.term.Term.TheOpen.{Term-F}
use Rattle.sq_term.specs.declared.term.Term.TheFolds.{fold-Term}
use Rattle.sq_term.specs.Symbols.{kind_of}
use Rattle.sq_term.specs.Syntax.{TsTree, free, bound, init, pred, action, TermTree, name, fun}
use Rattle.sq_term.specs.Syntax.{macro, schema, diff, le, ts_eq, idx_eq, happens, all, some, find}
use Rattle.sq_term.specs.Syntax.{TermTrees, nil, cons}

abbrev pub ts_step : Ts-F TsTree → TsTree
ts_step (Ts-F.Free n) = free n
ts_step (Ts-F.Bound n) = bound n
ts_step Ts-F.Init = init
ts_step (Ts-F.Pred t) = pred t
ts_step (Ts-F.Act a is) = action a is

unfoldable pub ts_tree : Ts → TsTree
ts_tree = fold-Ts TsTree ts_step

abbrev pub row : List TermTree → TermTrees
row [] = nil
row (t ∷ ts) = cons t (row ts)

-- one level, with the trees of the parts
abbrev pub term_step : Term-F TermTree → TermTree
term_step (Term-F.Name n is) = name n is
term_step (Term-F.Fun f is ts) = fun (kind_of f) is (row ts)
term_step (Term-F.Macro m t) = macro m (ts_tree t)
term_step (Term-F.Schema n) = schema n
term_step (Term-F.Diff a b) = diff a b
term_step (Term-F.Le a b) = le (ts_tree a) (ts_tree b)
term_step (Term-F.TsEq a b) = ts_eq (ts_tree a) (ts_tree b)
term_step (Term-F.IdxEq a b) = idx_eq a b
term_step (Term-F.Happens t) = happens (ts_tree t)
term_step (Term-F.Forall s t) = all s t
term_step (Term-F.Exists s t) = some s t
term_step (Term-F.Find n c a b) = find n c a b

unfoldable pub term_tree : Term → TermTree
term_tree = fold-Term TermTree term_step

abbrev pub term_trees : List Term → TermTrees
term_trees [] = nil
term_trees (t ∷ ts) = cons (term_tree t) (term_trees ts)
