-- The grammar of processes: which tokens a tree stands for, which trees there are, and which
-- places run deep.
use Rattle.std.specs.Prelude.{◌≡◌, ℕ, zero, suc, ◌+◌, max, ◌≤◌, List, [], ◌∷◌, ◌++◌, length, ◌⊎◌, ⊤}
use Rattle.sq_token.specs.declared.kind.Reserved.TheVariants as r
use Rattle.sq_token.specs.declared.kind.Punctuation.TheVariants as p
use Rattle.sq_token.specs.Sign.{Sign, word, reserved, mark}
use Rattle.sq_ast.specs.declared.formula.Form.TheVariants.{Formula}
use Rattle.sq_ast.specs.Tree.{FormulaTree}
use Rattle.sq_ast.specs.Grammar.{names_spelled, IsFilled, spelled, IsBuilt}
use Rattle.sq_ast.specs.Deep.{height, IsLongest, RunsDeep}
use Rattle.sq_ast.specs.ProcTree.{ProcTree, null, new, receive, receive_then, send, send_then}
use Rattle.sq_ast.specs.ProcTree.{branch, branch_else, find, find_else, define, replicate, label}
use Rattle.sq_ast.specs.ProcTree.{call, call_with, parallel, ProcTrees, none, more}

-- the tokens that a tree stands for
abbrev mutual
  pub process_spelled : ProcTree → List Sign
  process_spelled null = reserved r.Null ∷ []
  process_spelled (new n a) = reserved r.New ∷ word n ∷ mark p.Semicolon ∷ process_spelled a
  process_spelled (receive c x) = reserved r.In ∷ mark p.OpenParenthesis ∷ word c ∷ mark p.Comma
      ∷ word x ∷ mark p.CloseParenthesis ∷ []
  process_spelled (receive_then c x a) = reserved r.In ∷ mark p.OpenParenthesis ∷ word c
      ∷ mark p.Comma ∷ word x ∷ mark p.CloseParenthesis ∷ mark p.Semicolon ∷ process_spelled a
  process_spelled (send c f) = reserved r.Out ∷ mark p.OpenParenthesis ∷ word c ∷ mark p.Comma
      ∷ (spelled f ++ mark p.CloseParenthesis ∷ [])
  process_spelled (send_then c f a) = reserved r.Out ∷ mark p.OpenParenthesis ∷ word c
      ∷ mark p.Comma ∷ (spelled f ++ mark p.CloseParenthesis ∷ mark p.Semicolon ∷ process_spelled a)
  process_spelled (branch f a) = reserved r.If ∷ (spelled f ++ reserved r.Then ∷ process_spelled a)
  process_spelled (branch_else f a b) = reserved r.If
      ∷ (spelled f ++ reserved r.Then ∷ (process_spelled a ++ reserved r.Else ∷ process_spelled b))
  process_spelled (find ns f a) = reserved r.Find
      ∷ (names_spelled ns ++ reserved r.Such ∷ reserved r.That
      ∷ (spelled f ++ reserved r.In ∷ process_spelled a))
  process_spelled (find_else ns f a b) = reserved r.Find
      ∷ (names_spelled ns ++ reserved r.Such ∷ reserved r.That
      ∷ (spelled f ++ reserved r.In
      ∷ (process_spelled a ++ reserved r.Else ∷ process_spelled b)))
  process_spelled (define n f a) = reserved r.Let ∷ word n ∷ mark p.Equals
      ∷ (spelled f ++ reserved r.In ∷ process_spelled a)
  process_spelled (replicate n a) = mark p.Repeat ∷ word n ∷ process_spelled a
  process_spelled (label n a) = word n ∷ mark p.Colon ∷ process_spelled a
  process_spelled (call n) = word n ∷ []
  process_spelled (call_with n ns) = word n ∷ mark p.OpenParenthesis
      ∷ (names_spelled ns ++ mark p.CloseParenthesis ∷ [])
  process_spelled (parallel ps) = mark p.OpenParenthesis
      ∷ (processes_spelled ps ++ mark p.CloseParenthesis ∷ [])

  -- processes with `|` between them
  pub processes_spelled : ProcTrees → List Sign
  processes_spelled none = []
  processes_spelled (more a ps) = process_spelled a ++ more_processes_spelled ps

  pub more_processes_spelled : ProcTrees → List Sign
  more_processes_spelled none = []
  more_processes_spelled (more a ps) = mark p.Bar ∷ (process_spelled a ++ more_processes_spelled ps)

-- whether an `else` behind the process would belong to an `if` or `find` in it
abbrev pub IsOpen : ProcTree → Type 0
IsOpen (new n a) = IsOpen a
IsOpen (receive_then c x a) = IsOpen a
IsOpen (send_then c f a) = IsOpen a
IsOpen (branch f a) = ⊤
IsOpen (branch_else f a b) = IsOpen b
IsOpen (find ns f a) = ⊤
IsOpen (find_else ns f a b) = IsOpen b
IsOpen (define n f a) = IsOpen a
IsOpen (replicate n a) = IsOpen a
IsOpen (label n a) = IsOpen a
IsOpen _ = ⊥

abbrev pub AreSome : ProcTrees → Type 0
AreSome none = ⊥
AreSome (more a ps) = ⊤

-- Each part is one of the grammar, no list is empty, and an `else` belongs to the nearest `if` or
-- `find` without one.
abbrev mutual
  pub IsProcess : ProcTree → Type 0
  IsProcess null = ⊤
  IsProcess (new n a) = IsProcess a
  IsProcess (receive c x) = ⊤
  IsProcess (receive_then c x a) = IsProcess a
  IsProcess (send c f) = IsBuilt f
  IsProcess (send_then c f a) = IsBuilt f × IsProcess a
  IsProcess (branch f a) = IsBuilt f × IsProcess a
  IsProcess (branch_else f a b) = IsBuilt f × IsProcess a × (IsOpen a → ⊥) × IsProcess b
  IsProcess (find ns f a) = IsFilled ns × IsBuilt f × IsProcess a
  IsProcess (find_else ns f a b) =
      IsFilled ns × IsBuilt f × IsProcess a × (IsOpen a → ⊥) × IsProcess b
  IsProcess (define n f a) = IsBuilt f × IsProcess a
  IsProcess (replicate n a) = IsProcess a
  IsProcess (label n a) = IsProcess a
  IsProcess (call n) = ⊤
  IsProcess (call_with n ns) = IsFilled ns
  IsProcess (parallel ps) = AreSome ps × AreProcesses ps

  pub AreProcesses : ProcTrees → Type 0
  AreProcesses none = ⊤
  AreProcesses (more a ps) = IsProcess a × AreProcesses ps

-- a process and its tokens
pub record IsProcessOf (t : ProcTree) (ts : List Sign) : Type 0 where
  pub built : IsProcess t
  pub spelled_is : ts ≡ process_spelled t

-- how many nodes stand one inside the other; a leaf has depth 1
abbrev mutual
  pub process_height : ProcTree → ℕ
  process_height null = 1
  process_height (new n a) = 1 + process_height a
  process_height (receive c x) = 1
  process_height (receive_then c x a) = 1 + process_height a
  process_height (send c f) = 1 + height f
  process_height (send_then c f a) = 1 + max (height f) (process_height a)
  process_height (branch f a) = 1 + max (height f) (process_height a)
  process_height (branch_else f a b) =
      1 + max (height f) (max (process_height a) (process_height b))
  process_height (find ns f a) = 1 + max (height f) (process_height a)
  process_height (find_else ns f a b) =
      1 + max (height f) (max (process_height a) (process_height b))
  process_height (define n f a) = 1 + max (height f) (process_height a)
  process_height (replicate n a) = 1 + process_height a
  process_height (label n a) = 1 + process_height a
  process_height (call n) = 1
  process_height (call_with n ns) = 1
  process_height (parallel ps) = 1 + process_heights ps

  pub process_heights : ProcTrees → ℕ
  process_heights none = 0
  process_heights (more a ps) = max (process_height a) (process_heights ps)

-- ---- longest trees

-- a process begins the tokens, and q is behind it
pub record IsProcessFront (ts : List Sign) (a : ProcTree) (q : List Sign) : Type 0 where
  pub built : IsProcess a
  pub split : ts ≡ process_spelled a ++ q

-- and none that begins them is longer
pub record IsLongestProcess (ts : List Sign) (a : ProcTree) (q : List Sign) : Type 0 where
  pub front : IsProcessFront ts a q
  pub longest : (b : ProcTree) (v : List Sign) → IsProcessFront ts b v → length q ≤ length v

-- ---- places that run deep

-- the alternatives with parts, but for the parallel one; with an optional part they hold the
-- longer form
pub data ProcAlternative : Type 0 where
  creation : List ℕ → ProcAlternative
  reception : List ℕ → List ℕ → ProcAlternative
  emission : List ℕ → ProcAlternative
  condition : ProcAlternative
  finding : List (List ℕ) → ProcAlternative
  definition : List ℕ → ProcAlternative
  replication : List ℕ → ProcAlternative
  labelling : List ℕ → ProcAlternative

-- the tokens before the first part, as far as they tell which alternative it is
abbrev pub process_lead : ProcAlternative → List Sign
process_lead (creation n) = reserved r.New ∷ word n ∷ mark p.Semicolon ∷ []
process_lead (reception c x) = reserved r.In ∷ mark p.OpenParenthesis ∷ word c ∷ mark p.Comma
    ∷ word x ∷ mark p.CloseParenthesis ∷ mark p.Semicolon ∷ []
process_lead (emission c) = reserved r.Out ∷ mark p.OpenParenthesis ∷ word c ∷ mark p.Comma ∷ []
process_lead condition = reserved r.If ∷ []
process_lead (finding ns) = reserved r.Find
    ∷ (names_spelled ns ++ reserved r.Such ∷ reserved r.That ∷ [])
process_lead (definition n) = reserved r.Let ∷ word n ∷ mark p.Equals ∷ []
process_lead (replication n) = mark p.Repeat ∷ word n ∷ []
process_lead (labelling n) = word n ∷ mark p.Colon ∷ []

-- a token that stands for itself, a formula, or a process
pub data ProcElement : Type 0 where
  token : Sign → ProcElement
  a_formula : ProcElement
  a_process : ProcElement

-- what stands behind those tokens, in order
abbrev pub process_elements : ProcAlternative → List ProcElement
process_elements (creation n) = a_process ∷ []
process_elements (reception c x) = a_process ∷ []
process_elements (emission c) = a_formula ∷ token (mark p.CloseParenthesis)
    ∷ token (mark p.Semicolon) ∷ a_process ∷ []
process_elements condition = a_formula ∷ token (reserved r.Then) ∷ a_process
    ∷ token (reserved r.Else) ∷ a_process ∷ []
process_elements (finding ns) = a_formula ∷ token (reserved r.In) ∷ a_process
    ∷ token (reserved r.Else) ∷ a_process ∷ []
process_elements (definition n) = a_formula ∷ token (reserved r.In) ∷ a_process ∷ []
process_elements (replication n) = a_process ∷ []
process_elements (labelling n) = a_process ∷ []

abbrev pub IsWholeProcess : ProcAlternative → Type 0
IsWholeProcess (finding ns) = IsFilled ns
IsWholeProcess _ = ⊤

-- F ts: with one more node around it, ts runs deep as a formula. R ts: as a process.
module _ (F R : List Sign → Type 0) where
  -- one of the parts runs deep; those before it are the longest in their places
  abbrev pub ProcElementDeep : List ProcElement → List Sign → Type 0
  ProcElementDeep [] ts = ⊥
  ProcElementDeep (token s ∷ es) ts = (q : List Sign) × (ts ≡ s ∷ q) × ProcElementDeep es q
  ProcElementDeep (a_formula ∷ es) ts = F ts
      ⊎ ((f : FormulaTree) × (q : List Sign) × IsLongest Formula ts f q × ProcElementDeep es q)
  ProcElementDeep (a_process ∷ es) ts = R ts
      ⊎ ((a : ProcTree) × (q : List Sign) × IsLongestProcess ts a q × ProcElementDeep es q)

  -- behind some processes, each with its `|`
  abbrev pub ParallelDeep : ProcTrees → List Sign → Type 0
  ParallelDeep none ts = R ts
  ParallelDeep (more a ps) ts =
      (q : List Sign) × IsLongestProcess ts a (mark p.Bar ∷ q) × ParallelDeep ps q

  pub data ProcessDeep (ts : List Sign) : Type 0 where
    in_alternative : (a : ProcAlternative) (q : List Sign) → IsWholeProcess a
        → ts ≡ process_lead a ++ q → ProcElementDeep (process_elements a) q → ProcessDeep ts
    in_parallel : (ps : ProcTrees) (q : List Sign) → ts ≡ mark p.OpenParenthesis ∷ q
        → ParallelDeep ps q → ProcessDeep ts

-- With d nodes still to go to the limit, the place runs deep as a process. At the limit each does.
abbrev pub ProcessRunsDeep : ℕ → List Sign → Type 0
ProcessRunsDeep zero ts = ⊤
ProcessRunsDeep (suc d) ts = ProcessDeep (λ us. RunsDeep d Formula us) (ProcessRunsDeep d) ts
