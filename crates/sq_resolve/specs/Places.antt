-- The places of a tree in preorder, and the first at which no case applies.
use Rattle.std.specs.Prelude.{ℕ, zero, suc, List, [], ◌∷◌, ◌++◌, Option, Some, None, Bool}
use Rattle.std.specs.Prelude.{if◌then◌else◌, is_some, ◌==◌, Result, Ok, Err}
use Rattle.sq_base.specs.declared.sort.Sort.{Sort}
use Rattle.sq_base.specs.declared.sort.Sort.TheVariants.{Message, Boolean, Index, Timestamp}
use Rattle.sq_ast.specs.declared.formula.Binary.{Binary}
use Rattle.sq_ast.specs.declared.formula.Binary.TheVariants.{Equal, NotEqual, LessEqual, Less}
use Rattle.sq_ast.specs.declared.formula.Unary.{Unary}
use Rattle.sq_ast.specs.declared.formula.Unary.TheVariants.{Not, Fst, Snd, OfBool, Happens, Pred}
use Rattle.sq_ast.specs.Tree.{FormulaTree, quantified, binary, group, pair, constant, conditional}
use Rattle.sq_ast.specs.Tree.{find, diff, unary, value, name, apply, FormulaTrees, none, more}
use Rattle.sq_term.specs.Pure.{is_binder_sort}
use Rattle.sq_term.specs.TreeEquality.{is_same_sort}
use Rattle.sq_resolve.specs.declared.fault.ResolveFault.{ResolveFault}
use Rattle.sq_resolve.specs.declared.fault.ResolveFault.TheVariants.{Unknown, Arity, SortClash}
use Rattle.sq_resolve.specs.declared.fault.ResolveFault.TheVariants.{MessageQuantifier}
use Rattle.sq_resolve.specs.declared.head.Head.{Head}
use Rattle.sq_resolve.specs.declared.head.Head.TheVariants as head
use Rattle.sq_resolve.specs.Scopes.{Variable, Context, meaning, head_sort, head_arity, first_some}
use Rattle.sq_resolve.specs.Resolved.{as_index, as_moment, as_value, own_sort, count_trees}
use Rattle.sq_resolve.specs.Resolved.{group_variables, variables, bind_no_message}

-- a tree behind binders, where a sort is wanted
pub record Place : Type 0 where
  pub around : List Variable
  pub want : Sort
  pub tree : FormulaTree

-- ---- the fault of a place by itself: the first of its kinds

abbrev pub clash : Sort → Sort → Option ResolveFault
clash want own = if is_same_sort want own then None else Some (SortClash want own)

-- the head is something of the wanted sort
abbrev pub stands_for : Sort → Head → Bool
stands_for Index h = is_some (as_index h)
stands_for Timestamp h = is_some (as_moment h)
stands_for Message h = is_some (as_value Message h)
stands_for Boolean h = is_some (as_value Boolean h)

abbrev pub head_fault : Bool → Sort → List ℕ → ℕ → Head → Option ResolveFault
head_fault stands want x n h =
    if head_arity h == n then (if stands then None else Some (SortClash want (head_sort h)))
    else Some (Arity x (head_arity h) n)

abbrev pub identifier_fault : Sort → List ℕ → ℕ → Option Head → Option ResolveFault
identifier_fault want x n None = Some (Unknown x)
identifier_fault want x n (Some h) = head_fault (stands_for want h) want x n h

-- a tree at a place; parentheses and the two sides of a difference are judged by their parts
abbrev pub own_fault : Context → List Variable → Sort → FormulaTree → Option ResolveFault
own_fault c bs want (quantified q gs a) =
    first_some (clash want Boolean)
    (if bind_no_message gs then None else Some MessageQuantifier)
own_fault c bs want (group a) = None
own_fault c bs want (diff a b) =
    if is_binder_sort want then Some (SortClash want (own_sort c bs (diff a b))) else None
own_fault c bs want (name x) = identifier_fault want x 0 (meaning c bs x)
own_fault c bs want (apply x xs) = identifier_fault want x (count_trees xs) (meaning c bs x)
own_fault c bs want f = clash want (own_sort c bs f)

-- ---- the places

-- an equation of Booleans is one of messages
abbrev pub equation_sort : Sort → Sort
equation_sort Boolean = Message
equation_sort s = s

-- what is wanted of both operands
abbrev pub operand_sort : Binary → Sort → Sort
operand_sort Equal own = equation_sort own
operand_sort NotEqual own = equation_sort own
operand_sort LessEqual own = Timestamp
operand_sort Less own = Timestamp
operand_sort o own = Boolean

abbrev pub part_sort : Unary → Sort
part_sort Not = Boolean
part_sort Fst = Message
part_sort Snd = Message
part_sort OfBool = Boolean
part_sort Happens = Timestamp
part_sort Pred = Timestamp

-- how many of its arguments are indices; all others are messages
abbrev pub index_count : Option Head → ℕ
index_count (Some (head.Name n k)) = k
index_count (Some (head.Function f i n s)) = i
index_count (Some (head.Action a k)) = k
index_count h = 0

abbrev mutual
  pub places : Context → List Variable → Sort → FormulaTree → List Place
  places c bs want (quantified q gs a) =
      record { around = bs; want = want; tree = quantified q gs a } ∷ places c
      (bs ++ variables gs) Boolean a
  places c bs want (binary o a b) =
      record { around = bs; want = want; tree = binary o a b } ∷
      (places c bs (operand_sort o (own_sort c bs a)) a ++ places c bs
      (operand_sort o (own_sort c bs a)) b)
  places c bs want (group a) =
      record { around = bs; want = want; tree = group a } ∷ places c bs want a
  places c bs want (pair a b) =
      record { around = bs; want = want; tree = pair a b } ∷
      (places c bs Message a ++ places c bs Message b)
  places c bs want (constant k) = record { around = bs; want = want; tree = constant k } ∷ []
  places c bs want (conditional a b d) =
      record { around = bs; want = want; tree = conditional a b d } ∷
      (places c bs Boolean a ++ (places c bs Message b ++ places c bs Message d))
  places c bs want (find ns a b d) =
      record { around = bs; want = want; tree = find ns a b d }
      ∷ (places c (bs ++ group_variables Index ns) Boolean a ++
      (places c (bs ++ group_variables Index ns) Message b ++ places c bs Message d))
  places c bs want (diff a b) =
      record { around = bs; want = want; tree = diff a b } ∷
      (places c bs want a ++ places c bs want b)
  places c bs want (unary u a) =
      record { around = bs; want = want; tree = unary u a } ∷ places c bs (part_sort u) a
  places c bs want (value w a) =
      record { around = bs; want = want; tree = value w a } ∷ places c bs Timestamp a
  places c bs want (name x) = record { around = bs; want = want; tree = name x } ∷ []
  places c bs want (apply x xs) =
      record { around = bs; want = want; tree = apply x xs } ∷ argument_places c bs
      (index_count (meaning c bs x)) xs

  pub argument_places : Context → List Variable → ℕ → FormulaTrees → List Place
  argument_places c bs i none = []
  argument_places c bs zero (more a xs) = places c bs Message a ++ argument_places c bs zero xs
  argument_places c bs (suc i) (more a xs) = places c bs Index a ++ argument_places c bs i xs

-- the fault of the first place that has one
abbrev pub first_fault : Context → List Place → Option ResolveFault
first_fault c [] = None
first_fault c (p ∷ ps) = first_some (own_fault c p.around p.want p.tree) (first_fault c ps)

abbrev pub fault_of : {A : Type 0} → Result A ResolveFault → Option ResolveFault
fault_of (Ok a) = None
fault_of (Err e) = Some e
