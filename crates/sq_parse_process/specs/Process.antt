-- Reading a process from the front of a list of tokens.
use Rattle.std.specs.Prelude.{ℕ, zero, suc, List, [], ◌∷◌, length, Option, Some, None}
use Rattle.sq_token.specs.declared.kind.Reserved.{Reserved}
use Rattle.sq_token.specs.declared.kind.Reserved.TheVariants as r
use Rattle.sq_token.specs.declared.kind.Punctuation.{Punctuation}
use Rattle.sq_token.specs.declared.kind.Punctuation.TheVariants as p
use Rattle.sq_token.specs.Sign.{Sign, word, number, reserved, mark}
use Rattle.sq_ast.specs.declared.formula.Form.TheVariants.{Formula}
use Rattle.sq_ast.specs.Tree.{FormulaTree}
use Rattle.sq_ast.specs.ProcTree.{ProcTree, null, new, receive_before, send_before, branch_or}
use Rattle.sq_ast.specs.ProcTree.{find_or, define, replicate, label, call, call_with, parallel}
use Rattle.sq_ast.specs.ProcTree.{ProcTrees, more}
use Rattle.sq_ast.specs.ProcTree as tree
use Rattle.sq_parse_term.specs.Parse.{Read, deep, none, got, bind, recover, eat, identifier}
use Rattle.sq_parse_term.specs.Parse.{identifiers, instance, parse}

abbrev pub formula_at : ℕ → List Sign → Read FormulaTree
formula_at d ts = parse d Formula ts

-- an identifier with the token behind it
abbrev pub name_before : Sign → List Sign → Read (List ℕ)
name_before s ts = bind (identifier ts) (λ n q. bind (eat s q) (λ _ u. got n u))

-- a call with its arguments, if it has some
abbrev pub read_call : List ℕ → List Sign → Read ProcTree
read_call n ts = recover (instance ts) (λ ns q. got (call_with n ns) q) (got (call n) ts)

-- F reads a formula and P a process, each with one node fewer still to go
module _ (F : List Sign → Read FormulaTree) (P : List Sign → Read ProcTree) where
  -- the token and a process behind it
  abbrev pub behind : Sign → List Sign → Read ProcTree
  behind s ts = bind (eat s ts) (λ _ q. P q)

  -- and what there is if they do not both stand there
  abbrev pub perhaps : Sign → List Sign → Read (Option ProcTree)
  perhaps s ts = recover (behind s ts) (λ a q. got (Some a) q) (got None ts)

  unfoldable pub read_new : List Sign → Read ProcTree
  read_new ts = bind (identifier ts)
      (λ n q. bind (behind (mark p.Semicolon) q) (λ a u. got (new n a) u))

  unfoldable pub read_in : List Sign → Read ProcTree
  read_in ts =
      bind (eat (mark p.OpenParenthesis) ts) (λ _ q. bind (name_before (mark p.Comma) q) (λ c u.
      bind (name_before (mark p.CloseParenthesis) u)
      (λ x v. bind (perhaps (mark p.Semicolon) v) (λ o w. got (receive_before c x o) w))))

  -- a formula with the token behind it
  abbrev pub formula_before : Sign → List Sign → Read FormulaTree
  formula_before s ts = bind (F ts) (λ f q. bind (eat s q) (λ _ u. got f u))

  unfoldable pub read_out : List Sign → Read ProcTree
  read_out ts =
      bind (eat (mark p.OpenParenthesis) ts) (λ _ q. bind (name_before (mark p.Comma) q) (λ c u.
      bind (formula_before (mark p.CloseParenthesis) u)
      (λ f v. bind (perhaps (mark p.Semicolon) v) (λ o w. got (send_before c f o) w))))

  -- a test, the word, a process, and an `else` with another process, if they stand there
  abbrev pub read_test : Sign → (FormulaTree → ProcTree → Option ProcTree → ProcTree) → List Sign
      → Read ProcTree
  read_test s k ts =
      bind (F ts) (λ f q. bind (behind s q) (λ a u.
      bind (perhaps (reserved r.Else) u) (λ o v. got (k f a o) v)))

  abbrev pub read_if : List Sign → Read ProcTree
  read_if ts = read_test (reserved r.Then) branch_or ts

  -- behind the names of a find
  abbrev pub read_branches : List (List ℕ) → List Sign → Read ProcTree
  read_branches ns ts = read_test (reserved r.In) (find_or ns) ts

  unfoldable pub read_find : List Sign → Read ProcTree
  read_find ts =
      bind (identifiers ts) (λ ns q. bind (eat (reserved r.Such) q) (λ _ u.
      bind (eat (reserved r.That) u) (λ _ v. read_branches ns v)))

  unfoldable pub read_let : List Sign → Read ProcTree
  read_let ts =
      bind (name_before (mark p.Equals) ts) (λ n q. bind (F q) (λ f u.
      bind (behind (reserved r.In) u) (λ a v. got (define n f a) v)))

  unfoldable pub read_replication : List Sign → Read ProcTree
  read_replication ts = bind (identifier ts) (λ n q. bind (P q) (λ a u. got (replicate n a) u))

  -- behind an identifier
  unfoldable pub read_named : List ℕ → List Sign → Read ProcTree
  read_named n ts = recover (behind (mark p.Colon) ts) (λ a q. got (label n a) q) (read_call n ts)

  -- processes with `|` between, at most so many
  unfoldable pub read_processes : ℕ → List Sign → Read ProcTrees
  read_processes zero ts = none
  read_processes (suc m) ts = bind (P ts)
      (λ a q. recover (eat (mark p.Bar) q)
      (λ _ u. bind (read_processes m u) (λ ps v. got (more a ps) v)) (got (more a tree.none) q))

  unfoldable pub read_group : List Sign → Read ProcTree
  read_group ts = bind (read_processes (suc (length ts)) ts)
      (λ ps q. bind (eat (mark p.CloseParenthesis) q) (λ _ u. got (parallel ps) u))

  abbrev pub read_reserved : Reserved → List Sign → Read ProcTree
  read_reserved r.Null q = got null q
  read_reserved r.New q = read_new q
  read_reserved r.In q = read_in q
  read_reserved r.Out q = read_out q
  read_reserved r.If q = read_if q
  read_reserved r.Find q = read_find q
  read_reserved r.Let q = read_let q
  read_reserved _ q = none

  abbrev pub read_marked : Punctuation → List Sign → Read ProcTree
  read_marked p.Repeat q = read_replication q
  read_marked p.OpenParenthesis q = read_group q
  read_marked _ q = none

  unfoldable pub process : List Sign → Read ProcTree
  process [] = none
  process (word w ∷ q) = read_named w q
  process (number n ∷ q) = none
  process (reserved w ∷ q) = read_reserved w q
  process (mark i ∷ q) = read_marked i q

-- a process, with at most so many nodes around each place that is read
unfoldable pub parse_process : ℕ → List Sign → Read ProcTree
parse_process zero ts = deep
parse_process (suc d) ts = process (formula_at d) (parse_process d) ts
