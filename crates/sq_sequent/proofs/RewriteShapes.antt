-- What a hypothesis rewrites, read by its shape.
use Rattle.std.proofs.Common.{◌≡◌, refl, sym, ap, ◌∙◌, Option, Some, None, Bool, true, false, ◌&&◌}
use Rattle.std.proofs.Common.{Bor}
use Rattle.std.specs.Prelude.{if◌then◌else◌}
use Rattle.sq_term.specs.declared.term.Idx.{Idx}
use Rattle.sq_term.specs.declared.term.Term.{Term}
use Rattle.sq_term.specs.declared.term.Ts.{Ts}
use Rattle.sq_term.specs.Formulas.{both, implies, equal}
use Rattle.sq_term.specs.Syntax.{TsTree, TermTree, ts_eq, idx_eq}
use Rattle.sq_term.specs.TreeEquality.{is_same_tree}
use Rattle.sq_term.proofs.BoolTests.{and_both}
use Rattle.sq_formula.specs.declared.shapes.Shape.{Shape}
use Rattle.sq_formula.specs.declared.shapes.Shape.TheVariants as shape
use Rattle.sq_sequent.specs.Rewriting.{Rewriting, term_by, time_by, index_by}
use Rattle.sq_sequent.specs.RewriteRow.{by_equation}
use Rattle.sq_sequent.specs.RewriteRow.{by_equivalence}
use Rattle.sq_formula.specs.Shapes.{is_plain, Reads}

-- ---- an equation

pub messages-there : (t a b : TermTree) → Some t ≡ Some (equal a b)
    → Some (term_by a b) ≡ by_equation t
unfolding by_equation
messages-there t a b e = let z : t ≡ equal a b = cc in sym (ap by_equation z)

pub times-there : (t : TermTree) (a b : TsTree) → Some t ≡ Some (ts_eq a b)
    → Some (time_by a b) ≡ by_equation t
unfolding by_equation
times-there t a b e = let z : t ≡ ts_eq a b = cc in sym (ap by_equation z)

pub indices-there : (t : TermTree) (i j : Idx) → Some t ≡ Some (idx_eq i j)
    → Some (index_by i j) ≡ by_equation t
unfolding by_equation
indices-there t i j e = let z : t ≡ idx_eq i j = cc in sym (ap by_equation z)

no_plain : {P : Type 0} → false ≡ true → P
no_plain e = absurd (let f : false ≡ true = e in cc)

plain-equation : (t : TermTree) → is_plain (Some t) ≡ true → None ≡ by_equation t
unfolding is_plain by_equation
plain-equation (equal a b) h = no_plain h
plain-equation (ts_eq a b) h = no_plain h
plain-equation (idx_eq i j) h = no_plain h
plain-equation _ h = refl

abbrev equation_in : Option TermTree → Option Rewriting
equation_in None = None
equation_in (Some t) = by_equation t

pub no-equation : (r : Shape) (t : TermTree) → Reads r (Some t)
    → ((x y : Bor Term) → r ≡ shape.Equal x y → ⊥)
    → ((x y : Bor Ts) → r ≡ shape.EqualTimes x y → ⊥)
    → ((x y : Idx) → r ≡ shape.EqualIndices x y → ⊥) → None ≡ by_equation t
unfolding by_equation
no-equation (shape.Equal a b) t e m n p = absurd (m a b refl)
no-equation (shape.EqualTimes a b) t e m n p = absurd (n a b refl)
no-equation (shape.EqualIndices i j) t e m n p = absurd (p i j refl)
no-equation shape.Other t e m n p = plain-equation t e
no-equation _ t e m n p = sym (ap equation_in e)

pub ruleset equation_rules = (messages-there, times-there, indices-there, no-equation)

-- ---- `there && back`

abbrev equivalence_of : Option TermTree → Option Rewriting
equivalence_of None = None
equivalence_of (Some t) = by_equivalence t

abbrev with_back : TermTree → Option TermTree → Option Rewriting
with_back p None = None
with_back p (Some q) = by_equivalence (both p q)

abbrev with_there : TermTree → Option TermTree → Option Rewriting
with_there q None = None
with_there q (Some p) = by_equivalence (both p q)

both-read : (p q a b c d : TermTree) → Some p ≡ Some (implies a b) → Some q ≡ Some (implies c d)
    → (s : Bool) → (is_same_tree a d && is_same_tree b c) ≡ s
    → (if s then Some (term_by a b) else None) ≡ by_equivalence (both p q)
unfolding by_equivalence
both-read p q a b c d e f s h =
    sym (ap (with_there q) e ∙ (ap (with_back (implies a b)) f
    ∙ ap (λ x. if x then Some (term_by a b) else None) h))

pub halves-same : (p q a b c d : TermTree) → Some p ≡ Some (implies a b)
    → Some q ≡ Some (implies c d)
    → is_same_tree a d ≡ true → is_same_tree b c ≡ true
    → Some (term_by a b) ≡ by_equivalence (both p q)
halves-same p q a b c d e f h k =
    both-read p q a b c d e f true (and_both (is_same_tree a d) (is_same_tree b c) h k)

pub halves-first : (p q a b c d : TermTree) → Some p ≡ Some (implies a b)
    → Some q ≡ Some (implies c d)
    → is_same_tree a d ≡ false → None ≡ by_equivalence (both p q)
halves-first p q a b c d e f h = both-read p q a b c d e f false (ap (λ x. x && is_same_tree b c) h)

no_second : (x y : Bool) → y ≡ false → (x && y) ≡ false
no_second true y e = e
no_second false y e = refl

pub halves-second : (p q a b c d : TermTree) → Some p ≡ Some (implies a b)
    → Some q ≡ Some (implies c d)
    → is_same_tree b c ≡ false → None ≡ by_equivalence (both p q)
halves-second p q a b c d e f h =
    both-read p q a b c d e f false (no_second (is_same_tree a d) (is_same_tree b c) h)

plain-back : (a b q : TermTree) → is_plain (Some q) ≡ true
    → None ≡ by_equivalence (both (implies a b) q)
unfolding is_plain by_equivalence
plain-back a b (implies c d) h = no_plain h
plain-back a b _ h = refl

else-back : (r : Shape) (a b q : TermTree) → Reads r (Some q)
    → ((x y : Bor Term) → r ≡ shape.Implies x y → ⊥) → None ≡ by_equivalence (both (implies a b) q)
unfolding by_equivalence
else-back (shape.Implies c d) a b q e m = absurd (m c d refl)
else-back shape.Other a b q e m = plain-back a b q e
else-back _ a b q e m = sym (ap (with_back (implies a b)) e)

pub no-back : (r : Shape) (p q a b : TermTree) → Some p ≡ Some (implies a b) → Reads r (Some q)
    → ((x y : Bor Term) → r ≡ shape.Implies x y → ⊥) → None ≡ by_equivalence (both p q)
no-back r p q a b e h m = else-back r a b q h m ∙ sym (ap (with_there q) e)

plain-there : (p q : TermTree) → is_plain (Some p) ≡ true → None ≡ by_equivalence (both p q)
unfolding is_plain by_equivalence
plain-there (implies c d) q h = no_plain h
plain-there _ q h = refl

pub no-there : (r : Shape) (p q : TermTree) → Reads r (Some p)
    → ((x y : Bor Term) → r ≡ shape.Implies x y → ⊥) → None ≡ by_equivalence (both p q)
unfolding by_equivalence
no-there (shape.Implies c d) p q e m = absurd (m c d refl)
no-there shape.Other p q e m = plain-there p q e
no-there _ p q e m = sym (ap (with_there q) e)

pub ruleset half_rules = (halves-same, halves-first, halves-second, no-back, no-there)

-- ---- an equivalence

pub equivalence-there : (r : Option Rewriting) (t a b : TermTree) → Some t ≡ Some (both a b)
    → r ≡ by_equivalence (both a b) → r ≡ by_equivalence t
equivalence-there r t a b e h = h ∙ sym (ap equivalence_of e)

plain-equivalence : (t : TermTree) → is_plain (Some t) ≡ true → None ≡ by_equivalence t
unfolding is_plain by_equivalence
plain-equivalence (both (implies a b) (implies c d)) h = no_plain h
plain-equivalence (both a b) h = no_plain h
plain-equivalence _ h = refl

pub no-equivalence : (r : Shape) (t : TermTree) → Reads r (Some t)
    → ((x y : Bor Term) → r ≡ shape.And x y → ⊥) → None ≡ by_equivalence t
unfolding by_equivalence
no-equivalence (shape.And a b) t e m = absurd (m a b refl)
no-equivalence shape.Other t e m = plain-equivalence t e
no-equivalence _ t e m = sym (ap equivalence_of e)

pub ruleset equivalence_rules = (equivalence-there, no-equivalence)
