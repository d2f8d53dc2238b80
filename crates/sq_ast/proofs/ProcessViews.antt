-- What tree each variant of a process with an optional part is.
use Rattle.std.proofs.Common.{◌≡◌, ℕ, List, Option, Some, None, sym, ap, ◌∙◌, option_map}
use Rattle.sq_ast.specs.declared.formula.Formula.{Formula}
use Rattle.sq_ast.specs.declared.process.Proc.{Proc}
use Rattle.sq_ast.specs.declared.process.Proc.TheVariants as v
use Rattle.sq_ast.specs.declared.process.Proc.TheOpen.{Proc-F}
use Rattle.sq_ast.specs.declared.process.Proc.TheFolds.{fold-roll-Proc}
use Rattle.sq_ast.specs.View.{formula_tree}
use Rattle.sq_ast.specs.ProcTree.{ProcTree, receive_before, send_before, branch_or, find_or}
use Rattle.sq_ast.specs.ProcTree.{node, process_tree}

pub tree-In : (c x : List ℕ) (o : Option Proc)
    → process_tree (v.In c x o) ≡ receive_before c x (option_map process_tree o)
tree-In c x None =
    ap process_tree (sym (v.rolls-In c x None)) ∙ fold-roll-Proc ProcTree node (Proc-F.In c x None)
tree-In c x (Some a) =
    ap process_tree (sym (v.rolls-In c x (Some a)))
    ∙ fold-roll-Proc ProcTree node (Proc-F.In c x (Some a))

pub tree-Out : (c : List ℕ) (f : Formula) (o : Option Proc)
    → process_tree (v.Out c f o)
    ≡ send_before c (formula_tree f) (option_map process_tree o)
tree-Out c f None =
    ap process_tree (sym (v.rolls-Out c f None))
    ∙ fold-roll-Proc ProcTree node (Proc-F.Out c f None)
tree-Out c f (Some a) =
    ap process_tree (sym (v.rolls-Out c f (Some a)))
    ∙ fold-roll-Proc ProcTree node (Proc-F.Out c f (Some a))

pub tree-If : (f : Formula) (a : Proc) (o : Option Proc)
    → process_tree (v.If f a o)
    ≡ branch_or (formula_tree f) (process_tree a) (option_map process_tree o)
tree-If f a None =
    ap process_tree (sym (v.rolls-If f a None))
    ∙ fold-roll-Proc ProcTree node (Proc-F.If f a None)
tree-If f a (Some b) =
    ap process_tree (sym (v.rolls-If f a (Some b)))
    ∙ fold-roll-Proc ProcTree node (Proc-F.If f a (Some b))

pub tree-Find : (ns : List (List ℕ)) (f : Formula) (a : Proc) (o : Option Proc)
    → process_tree (v.Find ns f a o)
    ≡ find_or ns (formula_tree f) (process_tree a) (option_map process_tree o)
tree-Find ns f a None =
    ap process_tree (sym (v.rolls-Find ns f a None))
    ∙ fold-roll-Proc ProcTree node (Proc-F.Find ns f a None)
tree-Find ns f a (Some b) =
    ap process_tree (sym (v.rolls-Find ns f a (Some b)))
    ∙ fold-roll-Proc ProcTree node (Proc-F.Find ns f a (Some b))
