-- From a term to a ground term, in a world: a trace with the values of its macros, read on one
-- side.
use Rattle.std.specs.Prelude.{ℕ, zero, suc, List, [], ◌∷◌, ◌++◌, map, flat_map, get_or, Option}
use Rattle.std.specs.Prelude.{Some, None, Bool, true, false, if◌then◌else◌, nat_le, ◌==◌}
use Rattle.sq_base.specs.declared.sort.Sort.{Sort}
use Rattle.sq_base.specs.declared.sort.Sort.TheVariants.{Message, Boolean, Index, Timestamp}
use Rattle.sq_term.specs.declared.term.Idx.{Idx}
use Rattle.sq_term.specs.declared.term.Idx.TheVariants.{Free, Bound}
use Rattle.sq_term.specs.declared.term.Macro.{Macro}
use Rattle.sq_term.specs.declared.model.Value.{Value}
use Rattle.sq_term.specs.declared.model.Value.TheVariants.{Index as Number, Time as Moment}
use Rattle.sq_term.specs.Lists.{fold_right, count}
use Rattle.sq_term.specs.Macros.{GroundMacro, macro_indices, ground_macro}
use Rattle.sq_term.specs.Syntax.{TsTree, free, bound, init, pred, action, TermTree, name, fun}
use Rattle.sq_term.specs.Syntax.{macro, schema, diff, le, ts_eq, idx_eq, happens, all, some, find}
use Rattle.sq_term.specs.Syntax.{TermTrees, nil, cons}
use Rattle.sq_term.specs.Ground.{Ground, named, applied, atom, Grounds, none, more}
use Rattle.sq_term.specs.GroundFormulas.{conditional, truth_of, conj, disj_of_all}

-- what timestamps and quantifiers need of a trace: how many indices there are, how many positions,
-- init among them, and where the instance of an action stands. A timestamp's value is a position,
-- or None where it is undefined.
pub record Times : Type 0 where
  pub indices : ℕ
  pub positions : ℕ
  pub place : ℕ → List ℕ → Option ℕ

-- a trace, the values of the macros on it, and which side of `diff` is read, true for the left one
pub record World : Type 0 where
  pub times : Times
  pub values : GroundMacro → Option ℕ → Ground
  pub left : Bool

-- the values of a sequent's variables, and the messages for the schema variables; one that has no
-- message stands for its atom
pub record Assignment : Type 0 where
  pub variables : List Value
  pub schemas : List Ground

abbrev pub number_of : Value → ℕ
number_of (Number n) = n
number_of (Moment t) = 0

abbrev pub time_of : Value → Option ℕ
time_of (Number n) = None
time_of (Moment t) = t

-- bs are the values of the binders around, the innermost first
abbrev pub idx_value : Assignment → List Value → Idx → ℕ
idx_value a bs (Free k) = number_of (get_or a.variables k (Moment None))
idx_value a bs (Bound k) = number_of (get_or bs k (Moment None))

abbrev pub idx_values : Assignment → List Value → List Idx → List ℕ
idx_values a bs is = map (idx_value a bs) is

-- what records are asked for where a term reads a macro
abbrev pub macro_value : Assignment → List Value → Macro → GroundMacro
macro_value a bs m = ground_macro m (idx_values a bs (macro_indices m))

-- the position before; init and undefined have none
abbrev pub before : Option ℕ → Option ℕ
before (Some (suc p)) = Some p
before t = None

abbrev pub ts_value : Times → Assignment → List Value → TsTree → Option ℕ
ts_value w a bs (free k) = time_of (get_or a.variables k (Moment None))
ts_value w a bs (bound k) = time_of (get_or bs k (Moment None))
ts_value w a bs init = Some 0
ts_value w a bs (pred t) = before (ts_value w a bs t)
ts_value w a bs (action n is) = w.place n (idx_values a bs is)

abbrev pub is_position : Option ℕ → Bool
is_position (Some p) = true
is_position None = false

abbrev pub is_upto : Option ℕ → Option ℕ → Bool
is_upto (Some p) (Some q) = nat_le p q
is_upto _ _ = false

abbrev pub is_same_time : Option ℕ → Option ℕ → Bool
is_same_time (Some p) (Some q) = p == q
is_same_time None None = true
is_same_time _ _ = false

-- the values of a variable of the sort: the indices in ascending order, or the positions and then
-- undefined
abbrev pub domain : Times → Sort → List Value
domain w Index = map Number (count 0 w.indices)
domain w Timestamp = map (λ p. Moment (Some p)) (count 0 w.positions) ++ Moment None ∷ []
domain w Message = []
domain w Boolean = []

-- bs with c more indices, in ascending lexicographic order
abbrev pub choices : Times → ℕ → List Value → List (List Value)
choices w zero bs = bs ∷ []
choices w (suc c) bs = flat_map (λ x. choices w c (x ∷ bs)) (domain w Index)

abbrev mutual
  pub translate : World → Assignment → List Value → TermTree → Ground
  translate w a bs (name n is) = named n (idx_values a bs is)
  translate w a bs (fun f is ts) = applied f (idx_values a bs is) (translate_all w a bs ts)
  translate w a bs (macro m t) = w.values (macro_value a bs m) (ts_value w.times a bs t)
  translate w a bs (schema k) = get_or a.schemas k (atom k)
  translate w a bs (diff t u) = if w.left then translate w a bs t else translate w a bs u
  translate w a bs (le t s) =
      truth_of (is_upto (ts_value w.times a bs t) (ts_value w.times a bs s))
  translate w a bs (ts_eq t s) =
      truth_of (is_same_time (ts_value w.times a bs t) (ts_value w.times a bs s))
  translate w a bs (idx_eq i j) = truth_of (idx_value a bs i == idx_value a bs j)
  translate w a bs (happens t) = truth_of (is_position (ts_value w.times a bs t))
  translate w a bs (all s body) =
      conj (map (λ x. translate w a (x ∷ bs) body) (domain w.times s))
  translate w a bs (some s body) =
      disj_of_all (map (λ x. translate w a (x ∷ bs) body) (domain w.times s))
  translate w a bs (find c test found other) =
      fold_right (λ xs rest. conditional (translate w a xs test) (translate w a xs found) rest)
      (translate w a bs other) (choices w.times c bs)

  pub translate_all : World → Assignment → List Value → TermTrees → Grounds
  translate_all w a bs nil = none
  translate_all w a bs (cons t ts) = more (translate w a bs t) (translate_all w a bs ts)
