-- The shape of a term, as the program reads it.
use Rattle.std.specs.Prelude.{◌≡◌, Bool, true, false, Option, Some, None}
use Rattle.sq_term.specs.Formulas.{truth, falsity, negation, both, either, implies, equal}
use Rattle.sq_term.specs.Formulas.{conditional, pair, first, second, of_bool}
use Rattle.sq_term.specs.Syntax.{TermTree, ts_eq, idx_eq, all, some}
use Rattle.sq_term.specs.View.{ts_tree, term_tree}
use Rattle.sq_formula.specs.declared.shapes.Shape.{Shape}
use Rattle.sq_formula.specs.declared.shapes.Shape.TheVariants as shape

-- none of the shapes that have a name
unfoldable pub is_plain : Option TermTree → Bool
is_plain None = true
is_plain (Some truth) = false
is_plain (Some falsity) = false
is_plain (Some (negation a)) = false
is_plain (Some (both a b)) = false
is_plain (Some (either a b)) = false
is_plain (Some (implies a b)) = false
is_plain (Some (equal a b)) = false
is_plain (Some (conditional b u v)) = false
is_plain (Some (pair u v)) = false
is_plain (Some (first t)) = false
is_plain (Some (second t)) = false
is_plain (Some (of_bool b)) = false
is_plain (Some (ts_eq t u)) = false
is_plain (Some (idx_eq i j)) = false
is_plain (Some (all s t)) = false
is_plain (Some (some s t)) = false
is_plain (Some _) = true

-- what the program has read is what the term is
abbrev pub Reads : Shape → Option TermTree → Type 0
Reads shape.True o = o ≡ Some truth
Reads shape.False o = o ≡ Some falsity
Reads (shape.Not a) o = o ≡ Some (negation (term_tree a.now))
Reads (shape.And a b) o = o ≡ Some (both (term_tree a.now) (term_tree b.now))
Reads (shape.Or a b) o = o ≡ Some (either (term_tree a.now) (term_tree b.now))
Reads (shape.Implies a b) o = o ≡ Some (implies (term_tree a.now) (term_tree b.now))
Reads (shape.Equal a b) o = o ≡ Some (equal (term_tree a.now) (term_tree b.now))
Reads (shape.Conditional b u v) o =
    o ≡ Some (conditional (term_tree b.now) (term_tree u.now) (term_tree v.now))
Reads (shape.Pair u v) o = o ≡ Some (pair (term_tree u.now) (term_tree v.now))
Reads (shape.First t) o = o ≡ Some (first (term_tree t.now))
Reads (shape.Second t) o = o ≡ Some (second (term_tree t.now))
Reads (shape.OfBool b) o = o ≡ Some (of_bool (term_tree b.now))
Reads (shape.EqualTimes t u) o = o ≡ Some (ts_eq (ts_tree t.now) (ts_tree u.now))
Reads (shape.EqualIndices i j) o = o ≡ Some (idx_eq i j)
Reads (shape.Forall s t) o = o ≡ Some (all s (term_tree t.now))
Reads (shape.Exists s t) o = o ≡ Some (some s (term_tree t.now))
Reads shape.Other o = is_plain o ≡ true
