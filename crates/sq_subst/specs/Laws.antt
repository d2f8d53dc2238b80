-- What the substitutions mean, in the words of translation.
use Rattle.std.specs.Prelude.{◌≡◌, ℕ, [], ◌∷◌, List, map, Bool, true, false, ◌&&◌, not, ◌==◌}
use Rattle.std.specs.Prelude.{nat_lt, length, Option, Some, None, slice_get}
use Rattle.sq_term.specs.declared.term.Idx.{Idx}
use Rattle.sq_term.specs.declared.term.Idx.TheVariants.{Free, Bound}
use Rattle.sq_term.specs.declared.term.Side.{Side}
use Rattle.sq_term.specs.declared.term.Side.TheVariants.{Left, Right, Both}
use Rattle.sq_term.specs.declared.model.Value.{Value}
use Rattle.sq_term.specs.declared.model.Value.TheVariants.{Index as Number, Time as Moment}
use Rattle.sq_term.specs.Syntax.{TsTree, free, TermTree}
use Rattle.sq_term.specs.Arguments.{ArgTree, an_index, a_time}
use Rattle.sq_term.specs.Closed.{idx_closed, ts_closed, is_closed}
use Rattle.sq_term.specs.Translate.{World, Times, Assignment, idx_value, ts_value, translate}
use Rattle.sq_subst.specs.Tests.{Tests, passes}
use Rattle.sq_subst.specs.Substitution.{opened, instance_of}
use Rattle.sq_subst.specs.Renaming.{closed_over, idx_replaced}
use Rattle.sq_subst.specs.Replacement.{ts_replaced}
use Rattle.sq_subst.specs.Projection.{projected}

abbrev pub arg_value : Times → Assignment → ArgTree → Value
arg_value w a (an_index i) = Number (idx_value a [] i)
arg_value w a (a_time t) = Moment (ts_value w a [] t)

-- the argument holds no loose bound variable
abbrev pub arg_closed : ArgTree → Bool
arg_closed (an_index i) = idx_closed 0 i
arg_closed (a_time t) = ts_closed 0 t

abbrev pub args_closed : List ArgTree → Bool
args_closed [] = true
args_closed (v ∷ vs) = arg_closed v && args_closed vs

abbrev pub terms_closed : List TermTree → Bool
terms_closed [] = true
terms_closed (t ∷ ts) = is_closed 0 t && terms_closed ts

-- the opened body means what the body does with its variable at the argument's value
abbrev pub OpeningIsTheValue : Type 0
OpeningIsTheValue =
    (w : World) (a : Assignment) (arg : ArgTree) (body : TermTree) → arg_closed arg ≡ true
    → translate w a [] (opened arg body) ≡ translate w a (arg_value w.times a arg ∷ []) body

-- free variable x stands at no place of a timestamp, or at no place of an index
abbrev pub is_other_idx : ℕ → Idx → Bool
is_other_idx x (Free k) = not (k == x)
is_other_idx x (Bound k) = true

abbrev pub at_no_time : ℕ → Tests
at_no_time x =
    record {
      index = λ m i. true;
      free_time = λ m k. not
          (k == x);
      bound_time = λ m k. true;
      message = λ m k. true;
    }

abbrev pub at_no_index : ℕ → Tests
at_no_index x =
    record {
      index = λ m i. is_other_idx x i;
      free_time = λ m k. true;
      bound_time =
          λ m k. true;
      message = λ m k. true;
    }

-- a term without loose bound variables in which x has one sort comes back
abbrev pub OpeningUndoesClosing : Type 0
OpeningUndoesClosing =
    (x : ℕ) (t : TermTree) → is_closed 0 t ≡ true
    → (passes (at_no_time x) 0 t ≡ true → opened (an_index (Free x)) (closed_over x t) ≡ t)
    × (passes (at_no_index x) 0 t ≡ true → opened (a_time (free x)) (closed_over x t) ≡ t)

-- a timestamp or an index of the same value leaves the meaning as it was
abbrev pub ReplacingKeepsTheValue : Type 0
ReplacingKeepsTheValue =
    (w : World) (a : Assignment) (t : TermTree)
    → ((from to : TsTree) → ts_closed 0 from ≡ true → ts_closed 0 to ≡ true
    → ts_value w.times a [] from ≡ ts_value w.times a [] to
    → translate w a [] (ts_replaced from to t) ≡ translate w a [] t)
    × ((from to : Idx) → idx_closed 0 from ≡ true → idx_closed 0 to ≡ true
    → idx_value a [] from ≡ idx_value a [] to
    → translate w a [] (idx_replaced from to t) ≡ translate w a [] t)

-- on its side a projection means what the term does
abbrev pub is_read_on : Side → World → Bool
is_read_on Left w = w.left
is_read_on Right w = not w.left
is_read_on Both w = true

abbrev pub ProjectingKeepsTheSide : Type 0
ProjectingKeepsTheSide =
    (w : World) (a : Assignment) (side : Side) (t : TermTree) → is_read_on side w ≡ true
    → translate w a [] (projected side t) ≡ translate w a [] t

-- each variable has an argument of the sort of its place, each schema variable a term, and no bound
-- variable is loose
abbrev pub takes_index : Option ArgTree → Bool
takes_index (Some (an_index i)) = true
takes_index (Some (a_time t)) = false
takes_index None = false

abbrev pub takes_time : Option ArgTree → Bool
takes_time (Some (a_time t)) = true
takes_time (Some (an_index i)) = false
takes_time None = false

abbrev pub idx_takes : List ArgTree → Idx → Bool
idx_takes vars (Free k) = takes_index (slice_get vars k)
idx_takes vars (Bound k) = true

abbrev pub reached : List ArgTree → List TermTree → Tests
reached vars schemas = record {
  index = λ m i. idx_takes vars i;
  free_time = λ m k. takes_time (slice_get vars k);
  bound_time = λ m k. true;
  message = λ m k. nat_lt k (length schemas);
}

-- the values of the arguments and the meanings of the terms
abbrev pub instance_values : World → Assignment → List ArgTree → List TermTree → Assignment
instance_values w a vars schemas =
    record { variables = map (arg_value w.times a) vars; schemas = map (translate w a []) schemas }

-- an instance means what the term does at the values of the arguments and the meanings of the
-- terms, all at once
abbrev pub InstanceIsAtTheValues : Type 0
InstanceIsAtTheValues =
    (w : World) (a : Assignment) (vars : List ArgTree) (schemas : List TermTree) (t : TermTree)
    → args_closed vars ≡ true → terms_closed schemas ≡ true
    → passes (reached vars schemas) 0 t ≡ true
    → translate w a [] (instance_of vars schemas t)
    ≡ translate w (instance_values w a vars schemas) [] t
