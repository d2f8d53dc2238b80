-- How the fact of a term is found.
use Rattle.std.specs.Prelude.{ℕ, suc, ◌≡◌, List, [], Bool, true, false, if◌then◌else◌}
use Rattle.std.specs.Prelude.{◌==◌, ◌&&◌, Option, Some, None}
use Rattle.sq_base.specs.declared.sort.Sort.{Sort}
use Rattle.sq_base.specs.declared.sort.Sort.TheVariants.{Message, Boolean}
use Rattle.sq_term.specs.declared.signature.FunDecl.{FunDecl}
use Rattle.sq_term.specs.Formulas.{equal, conditional, pair, first, second, of_bool}
use Rattle.sq_term.specs.Signatures.{function_role, is_check, is_signature}
use Rattle.sq_term.specs.Symbols.{declared}
use Rattle.sq_term.specs.Syntax.{TermTree, fun, find, TermTrees, cons, nil}
use Rattle.sq_term.specs.TreeEquality.{is_same_tree}
use Rattle.sq_subst.specs.Room as room
use Rattle.sq_system.specs.declared.fault.RuleFault.{RuleFault}
use Rattle.sq_system.specs.declared.fault.RuleFault.TheVariants.{NoMemory}
use Rattle.sq_system.specs.Limits.{most_nodes}
use Rattle.sq_formula.specs.Facts.{conditional_fact, boolean_fact, find_fact}
use Rattle.sq_formula.specs.Refusals.{IsPastLimits}

-- the left or the right part of a pair
unfoldable pub part_of : Bool → TermTree → Option TermTree
part_of left (pair u v) = if left then Some u else Some v
part_of left _ = None

-- t is this part of a pair
abbrev pub part_fact : TermTree → Option TermTree → Option TermTree
part_fact t None = None
part_fact t (Some u) = Some (equal t u)

-- the arguments of t, where it is declared function k without indices
abbrev pub arguments_of : ℕ → TermTree → Option TermTrees
arguments_of k (fun (declared i) [] ts) = if i == k then Some ts else None
arguments_of k _ = None

-- a signature of m under a key, and the public key of that key
abbrev pub accepts_parts : TermTree → Option TermTrees → Option TermTrees → Bool
accepts_parts m (Some (cons n (cons k nil))) (Some (cons l nil)) =
    is_same_tree m n && is_same_tree k l
accepts_parts m _ _ = false

-- whether s is a signature of m by declared function k, and p the public key of its key
abbrev pub accepts : ℕ → TermTree → TermTree → TermTree → Bool
accepts k m s p = accepts_parts m (arguments_of k s) (arguments_of (suc (suc k)) p)

-- t is `checksign(m,s,p)`, where declared functions k, k + 1 and k + 2 are to be sign, checksign
-- and pk of one signature
abbrev pub check_fact : List FunDecl → ℕ → TermTree → TermTrees → Option TermTree
check_fact funs (suc k) t (cons m (cons s (cons p nil))) =
    if is_signature funs k && accepts k m s p then Some t else None
check_fact funs k t _ = None

-- what is known of t by its shape, which stands behind it
unfoldable pub fact_by_shape : List FunDecl → TermTree → TermTree → Option TermTree
fact_by_shape funs t (conditional b u v) = Some (conditional_fact t b u v)
fact_by_shape funs t (first p) = part_fact t (part_of true p)
fact_by_shape funs t (second p) = part_fact t (part_of false p)
fact_by_shape funs t (of_bool b) = Some (boolean_fact t b)
fact_by_shape funs t (fun (declared k) [] ts) = check_fact funs k t ts
fact_by_shape funs t (find c F u v) = Some (find_fact t c F u v)
fact_by_shape funs t _ = None

-- the fact of a term, where it has one of the shapes
unfoldable pub fact_of : List FunDecl → TermTree → Option TermTree
fact_of funs t = fact_by_shape funs t t

-- the sort of a term that has a fact: a Boolean where it is of a declared checksign
unfoldable pub fact_sort : List FunDecl → TermTree → Sort
fact_sort funs (fun f is ts) = if is_check (function_role funs f) then Boolean else Message
fact_sort funs _ = Message

-- why a fact is not made: it is past the limits of a sequent, or memory ran out
abbrev pub IsFactFault : RuleFault → Option TermTree → Type 0
IsFactFault e None = e ≡ NoMemory
IsFactFault e (Some F) = IsPastLimits e (room.fits most_nodes F)
