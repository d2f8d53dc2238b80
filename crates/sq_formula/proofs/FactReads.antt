-- The fact of a term, by the shape that the program reads.
use Rattle.std.proofs.Common.{◌≡◌, ℕ, refl, sym, ap, ◌∙◌, Option, Some, None, Bool, true, false}
use Rattle.std.proofs.Common.{List, Bor}
use Rattle.std.specs.Prelude.{if◌then◌else◌}
use Rattle.sq_base.specs.declared.sort.Sort.{Sort}
use Rattle.sq_term.specs.declared.signature.FunDecl.{FunDecl}
use Rattle.sq_term.specs.declared.term.Idx.{Idx}
use Rattle.sq_term.specs.declared.term.Macro.{Macro}
use Rattle.sq_term.specs.declared.term.Term.{Term}
use Rattle.sq_term.specs.declared.term.Term.TheVariants as tm
use Rattle.sq_term.specs.declared.term.Ts.{Ts}
use Rattle.sq_term.specs.Formulas.{conditional, pair, first, second, of_bool}
use Rattle.sq_term.specs.Symbols.{kind_of}
use Rattle.sq_term.specs.Syntax.{TermTree, fun}
use Rattle.sq_term.specs.View.{term_tree, term_trees}
use Rattle.sq_term.proofs.Views.{term_tree-Name, term_tree-Fun, term_tree-Macro, term_tree-Schema}
use Rattle.sq_term.proofs.Views.{term_tree-Diff, term_tree-Le, term_tree-TsEq, term_tree-IdxEq}
use Rattle.sq_term.proofs.Views.{term_tree-Happens, term_tree-Forall, term_tree-Exists}
use Rattle.sq_term.proofs.Views.{term_tree-Find}
use Rattle.sq_formula.specs.declared.shapes.Shape.{Shape}
use Rattle.sq_formula.specs.declared.shapes.Shape.TheVariants as shape
use Rattle.sq_formula.specs.Facts.{conditional_fact, boolean_fact, find_fact}
use Rattle.sq_formula.specs.FactSearch.{part_of, part_fact}
use Rattle.sq_formula.specs.FactSearch.{fact_by_shape, fact_of}
use Rattle.sq_formula.specs.Shapes.{is_plain, Reads}

no_plain : {P : Type 0} → false ≡ true → P
no_plain e = absurd (let f : false ≡ true = e in cc)

-- ---- a part of a pair

abbrev part_in : Bool → Option TermTree → Option TermTree
part_in left None = None
part_in left (Some p) = part_of left p

pub part-left : (left : Bool) (p u v : TermTree) → Some p ≡ Some (pair u v) → left ≡ true
    → Some u ≡ part_of left p
unfolding part_of
part-left left p u v e h = sym (ap (part_in left) e ∙ ap (λ b. if b then Some u else Some v) h)

pub part-right : (left : Bool) (p u v : TermTree) → Some p ≡ Some (pair u v) → left ≡ false
    → Some v ≡ part_of left p
unfolding part_of
part-right left p u v e h = sym (ap (part_in left) e ∙ ap (λ b. if b then Some u else Some v) h)

plain-part : (left : Bool) (p : TermTree) → is_plain (Some p) ≡ true → None ≡ part_of left p
unfolding is_plain part_of
plain-part left (pair u v) h = no_plain h
plain-part left _ h = refl

pub no-part : (r : Shape) (left : Bool) (p : TermTree) → Reads r (Some p)
    → ((x y : Bor Term) → r ≡ shape.Pair x y → ⊥) → None ≡ part_of left p
unfolding part_of
no-part (shape.Pair u v) left p e n = absurd (n u v refl)
no-part shape.Other left p e n = plain-part left p e
no-part _ left p e n = sym (ap (part_in left) e)

pub ruleset pair_rules = (part-left, part-right, no-part)

-- ---- by the shape

abbrev fact_in : List FunDecl → TermTree → Option TermTree → Option TermTree
fact_in funs t None = None
fact_in funs t (Some u) = fact_by_shape funs t u

pub fact-conditional : (funs : List FunDecl) (t b u v F : TermTree)
    → Some t ≡ Some (conditional b u v)
    → F ≡ conditional_fact t b u v → Some F ≡ fact_of funs t
unfolding fact_of fact_by_shape
fact-conditional funs t b u v F e h = ap Some h ∙ sym (ap (fact_in funs t) e)

pub fact-first : (funs : List FunDecl) (t p : TermTree) (o : Option TermTree)
    → Some t ≡ Some (first p)
    → o ≡ part_fact t (part_of true p) → o ≡ fact_of funs t
unfolding fact_of fact_by_shape
fact-first funs t p o e h = h ∙ sym (ap (fact_in funs t) e)

pub fact-second : (funs : List FunDecl) (t p : TermTree) (o : Option TermTree)
    → Some t ≡ Some (second p)
    → o ≡ part_fact t (part_of false p) → o ≡ fact_of funs t
unfolding fact_of fact_by_shape
fact-second funs t p o e h = h ∙ sym (ap (fact_in funs t) e)

pub fact-boolean : (funs : List FunDecl) (t b F : TermTree) → Some t ≡ Some (of_bool b)
    → F ≡ boolean_fact t b → Some F ≡ fact_of funs t
unfolding fact_of fact_by_shape
fact-boolean funs t b F e h = ap Some h ∙ sym (ap (fact_in funs t) e)

pub no-fact : (r : Shape) (funs : List FunDecl) (t : TermTree) → Reads r (Some t)
    → ((x y z : Bor Term) → r ≡ shape.Conditional x y z → ⊥)
    → ((x : Bor Term) → r ≡ shape.First x → ⊥)
    → ((x : Bor Term) → r ≡ shape.Second x → ⊥) → ((x : Bor Term) → r ≡ shape.OfBool x → ⊥)
    → (r ≡ shape.Other → ⊥) → None ≡ fact_of funs t
unfolding fact_of fact_by_shape
no-fact (shape.Conditional b u v) funs t e m n p q s = absurd (m b u v refl)
no-fact (shape.First x) funs t e m n p q s = absurd (n x refl)
no-fact (shape.Second x) funs t e m n p q s = absurd (p x refl)
no-fact (shape.OfBool x) funs t e m n p q s = absurd (q x refl)
no-fact shape.Other funs t e m n p q s = absurd (s refl)
no-fact _ funs t e m n p q s = sym (ap (fact_in funs t) e)

pub fact-other : (funs : List FunDecl) (t : TermTree) → fact_by_shape funs t t ≡ fact_of funs t
unfolding fact_of
fact-other funs t = refl

pub ruleset shape_rules =
    (fact-conditional, fact-first, fact-second, fact-boolean, no-fact, fact-other)

-- ---- of a term without a shape

pub plain-fun : (funs : List FunDecl) (t : TermTree) (f : ℕ) (is : List Idx) (ts : List Term)
    → fact_by_shape funs t (fun (kind_of f) is (term_trees ts))
    ≡ fact_by_shape funs t (term_tree (tm.Fun f is ts))
plain-fun funs t f is ts = ap (fact_by_shape funs t) (sym (term_tree-Fun f is ts))

pub plain-read : (f : ℕ) (is : List Idx) (ts : List Term)
    → is_plain (Some (term_tree (tm.Fun f is ts))) ≡ true
    → is_plain (Some (fun (kind_of f) is (term_trees ts))) ≡ true
plain-read f is ts h = ap (λ t. is_plain (Some t)) (sym (term_tree-Fun f is ts)) ∙ h

pub plain-find : (funs : List FunDecl) (t : TermTree) (n : ℕ) (x y z : Term)
    → Some (find_fact t n (term_tree x) (term_tree y) (term_tree z))
    ≡ fact_by_shape funs t (term_tree (tm.Find n x y z))
unfolding fact_by_shape
plain-find funs t n x y z = sym (ap (fact_by_shape funs t) (term_tree-Find n x y z))

pub plain-name : (funs : List FunDecl) (t : TermTree) (n : ℕ) (is : List Idx)
    → None ≡ fact_by_shape funs t (term_tree (tm.Name n is))
unfolding fact_by_shape
plain-name funs t n is = sym (ap (fact_by_shape funs t) (term_tree-Name n is))

pub plain-macro : (funs : List FunDecl) (t : TermTree) (m : Macro) (x : Ts)
    → None ≡ fact_by_shape funs t (term_tree (tm.Macro m x))
unfolding fact_by_shape
plain-macro funs t m x = sym (ap (fact_by_shape funs t) (term_tree-Macro m x))

pub plain-schema : (funs : List FunDecl) (t : TermTree) (k : ℕ)
    → None ≡ fact_by_shape funs t (term_tree (tm.Schema k))
unfolding fact_by_shape
plain-schema funs t k = sym (ap (fact_by_shape funs t) (term_tree-Schema k))

pub plain-diff : (funs : List FunDecl) (t : TermTree) (x y : Term)
    → None ≡ fact_by_shape funs t (term_tree (tm.Diff x y))
unfolding fact_by_shape
plain-diff funs t x y = sym (ap (fact_by_shape funs t) (term_tree-Diff x y))

pub plain-le : (funs : List FunDecl) (t : TermTree) (x y : Ts)
    → None ≡ fact_by_shape funs t (term_tree (tm.Le x y))
unfolding fact_by_shape
plain-le funs t x y = sym (ap (fact_by_shape funs t) (term_tree-Le x y))

pub plain-times : (funs : List FunDecl) (t : TermTree) (x y : Ts)
    → None ≡ fact_by_shape funs t (term_tree (tm.TsEq x y))
unfolding fact_by_shape
plain-times funs t x y = sym (ap (fact_by_shape funs t) (term_tree-TsEq x y))

pub plain-indices : (funs : List FunDecl) (t : TermTree) (i j : Idx)
    → None ≡ fact_by_shape funs t (term_tree (tm.IdxEq i j))
unfolding fact_by_shape
plain-indices funs t i j = sym (ap (fact_by_shape funs t) (term_tree-IdxEq i j))

pub plain-happens : (funs : List FunDecl) (t : TermTree) (x : Ts)
    → None ≡ fact_by_shape funs t (term_tree (tm.Happens x))
unfolding fact_by_shape
plain-happens funs t x = sym (ap (fact_by_shape funs t) (term_tree-Happens x))

pub plain-all : (funs : List FunDecl) (t : TermTree) (s : Sort) (x : Term)
    → None ≡ fact_by_shape funs t (term_tree (tm.Forall s x))
unfolding fact_by_shape
plain-all funs t s x = sym (ap (fact_by_shape funs t) (term_tree-Forall s x))

pub plain-some : (funs : List FunDecl) (t : TermTree) (s : Sort) (x : Term)
    → None ≡ fact_by_shape funs t (term_tree (tm.Exists s x))
unfolding fact_by_shape
plain-some funs t s x = sym (ap (fact_by_shape funs t) (term_tree-Exists s x))

pub ruleset plain_rules = (
  plain-fun,
  plain-read,
  plain-find,
  plain-name,
  plain-macro,
  plain-schema,
  plain-diff,
  plain-le,
  plain-times,
  plain-indices,
  plain-happens,
  plain-all,
  plain-some,
)
