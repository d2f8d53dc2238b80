-- The syntax tree of a process, as plain data.
use Rattle.std.specs.Prelude.{ℕ, List, [], ◌∷◌, map, Option, Some, None}
use Rattle.sq_ast.specs.declared.process.Proc.{Proc}
use Rattle.sq_ast.specs.declared.process.Proc.TheOpen.{Proc-F}
use Rattle.sq_ast.specs.declared.process.Proc.TheFolds.{fold-Proc}
use Rattle.sq_ast.specs.Tree.{FormulaTree}
use Rattle.sq_ast.specs.View.{formula_tree}

-- a constructor with `_then` or `_else` has the optional part
mutual
  pub data ProcTree : Type 0 where
    null : ProcTree
    new : List ℕ → ProcTree → ProcTree
    receive : List ℕ → List ℕ → ProcTree
    receive_then : List ℕ → List ℕ → ProcTree → ProcTree
    send : List ℕ → FormulaTree → ProcTree
    send_then : List ℕ → FormulaTree → ProcTree → ProcTree
    branch : FormulaTree → ProcTree → ProcTree
    branch_else : FormulaTree → ProcTree → ProcTree → ProcTree
    find : List (List ℕ) → FormulaTree → ProcTree → ProcTree
    find_else : List (List ℕ) → FormulaTree → ProcTree → ProcTree → ProcTree
    define : List ℕ → FormulaTree → ProcTree → ProcTree
    replicate : List ℕ → ProcTree → ProcTree
    label : List ℕ → ProcTree → ProcTree
    call : List ℕ → ProcTree
    call_with : List ℕ → List (List ℕ) → ProcTree
    parallel : ProcTrees → ProcTree

  pub data ProcTrees : Type 0 where
    none : ProcTrees
    more : ProcTree → ProcTrees → ProcTrees

-- with an optional last part
abbrev pub receive_before : List ℕ → List ℕ → Option ProcTree → ProcTree
receive_before c x None = receive c x
receive_before c x (Some a) = receive_then c x a

abbrev pub send_before : List ℕ → FormulaTree → Option ProcTree → ProcTree
send_before c f None = send c f
send_before c f (Some a) = send_then c f a

abbrev pub branch_or : FormulaTree → ProcTree → Option ProcTree → ProcTree
branch_or f a None = branch f a
branch_or f a (Some b) = branch_else f a b

abbrev pub find_or : List (List ℕ) → FormulaTree → ProcTree → Option ProcTree → ProcTree
find_or ns f a None = find ns f a
find_or ns f a (Some b) = find_else ns f a b

abbrev pub trees : List ProcTree → ProcTrees
trees [] = none
trees (p ∷ ps) = more p (trees ps)

-- one node, with the trees of its parts
abbrev pub node : Proc-F ProcTree → ProcTree
node Proc-F.Null = null
node (Proc-F.New n p) = new n p
node (Proc-F.In c x None) = receive c x
node (Proc-F.In c x (Some p)) = receive_then c x p
node (Proc-F.Out c f None) = send c (formula_tree f)
node (Proc-F.Out c f (Some p)) = send_then c (formula_tree f) p
node (Proc-F.If f p None) = branch (formula_tree f) p
node (Proc-F.If f p (Some q)) = branch_else (formula_tree f) p q
node (Proc-F.Find ns f p None) = find ns (formula_tree f) p
node (Proc-F.Find ns f p (Some q)) = find_else ns (formula_tree f) p q
node (Proc-F.Let n f p) = define n (formula_tree f) p
node (Proc-F.Replicate n p) = replicate n p
node (Proc-F.Label n p) = label n p
node (Proc-F.Call n None) = call n
node (Proc-F.Call n (Some ns)) = call_with n ns
node (Proc-F.Parallel ps) = parallel (trees ps)

abbrev pub process_tree : Proc → ProcTree
process_tree = fold-Proc ProcTree node

abbrev pub process_trees : List Proc → ProcTrees
process_trees ps = trees (map process_tree ps)
