-- The process with its calls replaced by the bodies of the processes that they name.
use Rattle.std.specs.Prelude.{ℕ, zero, suc, min, List, [], Option, Some, None, nat_lt}
use Rattle.std.specs.Prelude.{if◌then◌else◌, slice_get}
use Rattle.sq_ast.specs.Tree.{FormulaTree}
use Rattle.sq_ast.specs.ProcTree as p
use Rattle.sq_ast.specs.ProcTree.{ProcTree, ProcTrees}
use Rattle.sq_sym.specs.declared.symbol.Symbol.{Symbol}
use Rattle.sq_sym.specs.declared.symbol.Symbol.TheVariants as symbol
use Rattle.sq_sym.specs.Declarations.{found}

-- a process that was declared, behind so many declarations
pub record ProcessTree : Type 0 where
  pub name : List ℕ
  pub params : List (List ℕ)
  pub body : ProcTree
  pub sentence : ℕ

mutual
  pub data InlinedTree : Type 0 where
    -- no process is written here
    unwritten : InlinedTree
    null : InlinedTree
    new : List ℕ → InlinedTree → InlinedTree
    receive : List ℕ → List ℕ → InlinedTree → InlinedTree
    send : List ℕ → FormulaTree → InlinedTree → InlinedTree
    branch : FormulaTree → InlinedTree → InlinedTree → InlinedTree
    find : List (List ℕ) → FormulaTree → InlinedTree → InlinedTree → InlinedTree
    define : List ℕ → FormulaTree → InlinedTree → InlinedTree
    replicate : List ℕ → InlinedTree → InlinedTree
    label : List ℕ → InlinedTree → InlinedTree
    -- one process in parentheses
    enclosed : InlinedTree → InlinedTree
    -- two processes or more
    parallel : InlinedTrees → InlinedTree
    -- a call with its arguments: the parameters of the process that it names, and its body
    called : List ℕ → List (List ℕ) → List (List ℕ) → InlinedTree → InlinedTree
    -- a call that names no process which was declared before it
    uncalled : List ℕ → InlinedTree

  pub data InlinedTrees : Type 0 where
    none : InlinedTrees
    more : InlinedTree → InlinedTrees → InlinedTrees

abbrev pub one_or_several : InlinedTrees → InlinedTree
one_or_several (more q none) = enclosed q
one_or_several qs = parallel qs

-- ---- which process a call names

-- the place of its declaration in the table, and the process
abbrev pub Callee : Type 0
Callee = ℕ × ProcessTree

abbrev pub callee_at : ℕ → ℕ → Option ProcessTree → Option Callee
callee_at limit at None = None
callee_at limit at (Some q) = if nat_lt at limit then Some (at, q) else None

abbrev pub declared_process : List ProcessTree → ℕ → Option (ℕ × Symbol) → Option Callee
declared_process ps limit (Some (at, symbol.Process k)) = callee_at limit at (slice_get ps k)
declared_process ps limit _ = None

-- a call names a process whose declaration is one of the first `limit` ones
abbrev pub callee : List (List ℕ × Symbol) → List ProcessTree → ℕ → List ℕ → Option Callee
callee table ps limit x = declared_process ps limit (found x table)

-- ---- replacing

-- `body limit q` is what a process q becomes in which calls name the first `limit` declarations
module _ (table : List (List ℕ × Symbol)) (ps : List ProcessTree)
    (body : ℕ → ProcTree → InlinedTree) where
  -- what a body may call was declared before the body, and before the call that it replaces
  abbrev pub replaced_call : List ℕ → List (List ℕ) → Option Callee → InlinedTree
  replaced_call x args None = uncalled x
  replaced_call x args (Some (at, q)) = called x args q.params (body (min at q.sentence) q.body)

  abbrev mutual
    pub replaced : ℕ → ProcTree → InlinedTree
    replaced limit p.null = null
    replaced limit (p.new n q) = new n (replaced limit q)
    replaced limit (p.receive c x) = receive c x unwritten
    replaced limit (p.receive_then c x q) = receive c x (replaced limit q)
    replaced limit (p.send c m) = send c m unwritten
    replaced limit (p.send_then c m q) = send c m (replaced limit q)
    replaced limit (p.branch f q) = branch f (replaced limit q) unwritten
    replaced limit (p.branch_else f q r) = branch f (replaced limit q) (replaced limit r)
    replaced limit (p.find ns f q) = find ns f (replaced limit q) unwritten
    replaced limit (p.find_else ns f q r) = find ns f (replaced limit q) (replaced limit r)
    replaced limit (p.define x u q) = define x u (replaced limit q)
    replaced limit (p.replicate i q) = replicate i (replaced limit q)
    replaced limit (p.label l q) = label l (replaced limit q)
    replaced limit (p.call x) = replaced_call x [] (callee table ps limit x)
    replaced limit (p.call_with x args) = replaced_call x args (callee table ps limit x)
    replaced limit (p.parallel qs) = one_or_several (all_replaced limit qs)

    pub all_replaced : ℕ → ProcTrees → InlinedTrees
    all_replaced limit p.none = none
    all_replaced limit (p.more q qs) = more (replaced limit q) (all_replaced limit qs)

-- calls go at most n deep
abbrev pub inlined_within : List (List ℕ × Symbol) → List ProcessTree → ℕ → ℕ → ProcTree
    → InlinedTree
inlined_within table ps zero = replaced table ps (λ limit q. unwritten)
inlined_within table ps (suc n) = replaced table ps (inlined_within table ps n)

-- Calls in the process name any of the declarations. A body calls what was declared before it, so
-- that calls go no deeper than there are declarations.
abbrev pub inlined : List (List ℕ × Symbol) → List ProcessTree → ℕ → ProcTree → InlinedTree
inlined table ps limit q = inlined_within table ps limit limit q
