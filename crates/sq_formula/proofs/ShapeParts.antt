-- What the program reads of a term is what the term is.
use Rattle.std.proofs.Common.{◌≡◌, ◌≢◌, ◌<◌, ◌≤◌, ℕ, refl, sym, ap, subst, List, [], ◌∷◌, length}
use Rattle.std.proofs.Common.{get_or, Some, None, true, arith}
use Rattle.sq_base.specs.declared.sort.Sort.{Sort}
use Rattle.sq_term.specs.declared.builtin.Builtin.{Builtin}
use Rattle.sq_term.specs.declared.builtin.Builtin.TheVariants as b
use Rattle.sq_term.specs.declared.term.Idx.{Idx}
use Rattle.sq_term.specs.declared.term.Macro.{Macro}
use Rattle.sq_term.specs.declared.term.Term.{Term}
use Rattle.sq_term.specs.declared.term.Term.TheVariants as tm
use Rattle.sq_term.specs.declared.term.Ts.{Ts}
use Rattle.sq_term.specs.Builtins.{builtin_kind}
use Rattle.sq_term.specs.Formulas.{constant, unary, binary, ternary}
use Rattle.sq_term.specs.Symbols as kind
use Rattle.sq_term.specs.Symbols.{Kind, IsDeclared, kind_of}
use Rattle.sq_term.specs.Syntax.{TermTree, fun, ts_eq, idx_eq, all, some, TermTrees, cons}
use Rattle.sq_term.specs.View.{ts_tree, term_tree, term_trees}
use Rattle.sq_term.proofs.Views.{term_tree-Name, term_tree-Fun, term_tree-Macro, term_tree-Schema}
use Rattle.sq_term.proofs.Views.{term_tree-Diff, term_tree-Le, term_tree-TsEq, term_tree-IdxEq}
use Rattle.sq_term.proofs.Views.{term_tree-Happens, term_tree-Forall, term_tree-Exists}
use Rattle.sq_term.proofs.Views.{term_tree-Find}
use Rattle.sq_formula.specs.declared.shapes.Shape.{Shape}
use Rattle.sq_formula.specs.Shapes.{is_plain, Reads}

-- ---- built-in functions of so many arguments

pub plain-constant : (f : Builtin) → (f ≡ b.True → ⊥) → (f ≡ b.False → ⊥)
    → is_plain (Some (constant (builtin_kind f))) ≡ true
unfolding is_plain
plain-constant b.True m n = absurd (m refl)
plain-constant b.False m n = absurd (n refl)
plain-constant _ m n = refl

pub plain-unary : (f : Builtin) (a : TermTree) → (f ≡ b.Not → ⊥) → (f ≡ b.Fst → ⊥) → (f ≡ b.Snd → ⊥)
    → (f ≡ b.OfBool → ⊥) → is_plain (Some (unary (builtin_kind f) a)) ≡ true
unfolding is_plain
plain-unary b.Not a m n p q = absurd (m refl)
plain-unary b.Fst a m n p q = absurd (n refl)
plain-unary b.Snd a m n p q = absurd (p refl)
plain-unary b.OfBool a m n p q = absurd (q refl)
plain-unary _ a m n p q = refl

pub plain-binary : (f : Builtin) (x y : TermTree) → (f ≡ b.And → ⊥) → (f ≡ b.Or → ⊥)
    → (f ≡ b.Implies → ⊥) → (f ≡ b.Eq → ⊥) → (f ≡ b.Pair → ⊥)
    → is_plain (Some (binary (builtin_kind f) x y)) ≡ true
unfolding is_plain
plain-binary b.And x y m n p q r = absurd (m refl)
plain-binary b.Or x y m n p q r = absurd (n refl)
plain-binary b.Implies x y m n p q r = absurd (p refl)
plain-binary b.Eq x y m n p q r = absurd (q refl)
plain-binary b.Pair x y m n p q r = absurd (r refl)
plain-binary _ x y m n p q r = refl

pub plain-ternary : (f : Builtin) (x y z : TermTree) → (f ≡ b.Ite → ⊥)
    → is_plain (Some (ternary (builtin_kind f) x y z)) ≡ true
unfolding is_plain
plain-ternary b.Ite x y z m = absurd (m refl)
plain-ternary _ x y z m = refl

pub ruleset builtin_rules = (plain-constant, plain-unary, plain-binary, plain-ternary)

-- ---- by how many arguments there are

pub reads-none : (r : Shape) (k : Kind) (xs : List Term) → length xs < 1
    → Reads r (Some (constant k)) → Reads r (Some (fun k [] (term_trees xs)))
reads-none r k [] n h = h
reads-none r k (x ∷ xs) n h = absurd (omega arith)

pub reads-one : (r : Shape) (k : Kind) (xs : List Term) (a : Term) → 1 ≤ length xs → length xs < 2
    → a ≡ get_or xs 0 a → Reads r (Some (unary k (term_tree a)))
    → Reads r (Some (fun k [] (term_trees xs)))
reads-one r k [] a m n p h = absurd (omega arith)
reads-one r k (x ∷ []) a m n p h = subst (λ t. Reads r (Some (unary k (term_tree t)))) p h
reads-one r k (x ∷ y ∷ xs) a m n p h = absurd (omega arith)

pub reads-two : (r : Shape) (k : Kind) (xs : List Term) (a c : Term) → 2 ≤ length xs → length xs < 3
    → a ≡ get_or xs 0 a → c ≡ get_or xs 1 c → Reads r (Some (binary k (term_tree a) (term_tree c)))
    → Reads r (Some (fun k [] (term_trees xs)))
reads-two r k [] a c m n p q h = absurd (omega arith)
reads-two r k (x ∷ []) a c m n p q h = absurd (omega arith)
reads-two r k (x ∷ y ∷ []) a c m n p q h =
    subst (λ t. Reads r (Some (binary k (term_tree x) (term_tree t)))) q
    (subst (λ t. Reads r (Some (binary k (term_tree t) (term_tree c)))) p h)
reads-two r k (x ∷ y ∷ z ∷ xs) a c m n p q h = absurd (omega arith)

pub reads-three : (r : Shape) (k : Kind) (xs : List Term) (a c d : Term) → 3 ≤ length xs
    → length xs < 4
    → a ≡ get_or xs 0 a → c ≡ get_or xs 1 c → d ≡ get_or xs 2 d
    → Reads r (Some (ternary k (term_tree a) (term_tree c) (term_tree d)))
    → Reads r (Some (fun k [] (term_trees xs)))
reads-three r k [] a c d m n p q s h = absurd (omega arith)
reads-three r k (x ∷ []) a c d m n p q s h = absurd (omega arith)
reads-three r k (x ∷ y ∷ []) a c d m n p q s h = absurd (omega arith)
reads-three r k (x ∷ y ∷ z ∷ []) a c d m n p q s h =
    subst (λ t. Reads r (Some (ternary k (term_tree x) (term_tree y) (term_tree t)))) s
    (subst (λ t. Reads r (Some (ternary k (term_tree x) (term_tree t) (term_tree d)))) q
    (subst (λ t. Reads r (Some (ternary k (term_tree t) (term_tree c) (term_tree d)))) p h))
reads-three r k (x ∷ y ∷ z ∷ u ∷ xs) a c d m n p q s h = absurd (omega arith)

of-four : (k : Kind) (x y z u : TermTree) (ts : TermTrees)
    → is_plain (Some (fun k [] (cons x (cons y (cons z (cons u ts)))))) ≡ true
unfolding is_plain
of-four kind.truth x y z u ts = refl
of-four _ x y z u ts = refl

pub plain-many : (k : Kind) (xs : List Term) → 4 ≤ length xs
    → is_plain (Some (fun k [] (term_trees xs))) ≡ true
plain-many k [] n = absurd (omega arith)
plain-many k (x ∷ []) n = absurd (omega arith)
plain-many k (x ∷ y ∷ []) n = absurd (omega arith)
plain-many k (x ∷ y ∷ z ∷ []) n = absurd (omega arith)
plain-many k (x ∷ y ∷ z ∷ u ∷ xs) n =
    of-four k (term_tree x) (term_tree y) (term_tree z) (term_tree u) (term_trees xs)

pub ruleset argument_rules = (reads-none, reads-one, reads-two, reads-three, plain-many)

-- ---- of any function

pub reads-kind : (r : Shape) (j k : Kind) (ts : TermTrees) → k ≡ j → Reads r (Some (fun j [] ts))
    → Reads r (Some (fun k [] ts))
reads-kind r j k ts e h = subst (λ i. Reads r (Some (fun i [] ts))) (sym e) h

pub plain-declared : (k : Kind) (ts : TermTrees) → IsDeclared k
    → is_plain (Some (fun k [] ts)) ≡ true
unfolding is_plain
plain-declared (kind.declared n) ts h = refl
plain-declared _ ts h = absurd h

pub ruleset function_rules = (reads-kind, plain-declared)

-- ---- of any term

pub reads-application : (r : Shape) (f : ℕ) (is : List Idx) (ts : List Term) → length is ≡ 0
    → Reads r (Some (fun (kind_of f) [] (term_trees ts)))
    → Reads r (Some (term_tree (tm.Fun f is ts)))
reads-application r f [] ts e h = subst (λ t. Reads r (Some t)) (sym (term_tree-Fun f [] ts)) h
reads-application r f (i ∷ is) ts e h = absurd (omega arith)

indexed : (k : Kind) (i : Idx) (is : List Idx) (ts : TermTrees)
    → is_plain (Some (fun k (i ∷ is) ts)) ≡ true
unfolding is_plain
indexed kind.truth i is ts = refl
indexed _ i is ts = refl

pub plain-indexed : (f : ℕ) (is : List Idx) (ts : List Term) → length is ≢ 0
    → is_plain (Some (term_tree (tm.Fun f is ts))) ≡ true
plain-indexed f [] ts n = absurd (n refl)
plain-indexed f (i ∷ is) ts n =
    rw (term_tree-Fun f (i ∷ is) ts) (indexed (kind_of f) i is (term_trees ts))

pub reads-times : (x y : Ts) → Some (term_tree (tm.TsEq x y)) ≡ Some (ts_eq (ts_tree x) (ts_tree y))
reads-times x y = ap Some (term_tree-TsEq x y)

pub reads-indices : (i j : Idx) → Some (term_tree (tm.IdxEq i j)) ≡ Some (idx_eq i j)
reads-indices i j = ap Some (term_tree-IdxEq i j)

pub reads-all : (s : Sort) (t : Term)
    → Some (term_tree (tm.Forall s t)) ≡ Some (all s (term_tree t))
reads-all s t = ap Some (term_tree-Forall s t)

pub reads-some : (s : Sort) (t : Term)
    → Some (term_tree (tm.Exists s t)) ≡ Some (some s (term_tree t))
reads-some s t = ap Some (term_tree-Exists s t)

pub plain-name : (n : ℕ) (is : List Idx) → is_plain (Some (term_tree (tm.Name n is))) ≡ true
unfolding is_plain
plain-name n is = rw (term_tree-Name n is)

pub plain-macro : (m : Macro) (t : Ts) → is_plain (Some (term_tree (tm.Macro m t))) ≡ true
unfolding is_plain
plain-macro m t = rw (term_tree-Macro m t)

pub plain-schema : (k : ℕ) → is_plain (Some (term_tree (tm.Schema k))) ≡ true
unfolding is_plain
plain-schema k = rw (term_tree-Schema k)

pub plain-diff : (x y : Term) → is_plain (Some (term_tree (tm.Diff x y))) ≡ true
unfolding is_plain
plain-diff x y = rw (term_tree-Diff x y)

pub plain-le : (x y : Ts) → is_plain (Some (term_tree (tm.Le x y))) ≡ true
unfolding is_plain
plain-le x y = rw (term_tree-Le x y)

pub plain-happens : (t : Ts) → is_plain (Some (term_tree (tm.Happens t))) ≡ true
unfolding is_plain
plain-happens t = rw (term_tree-Happens t)

pub plain-find : (n : ℕ) (x y z : Term) → is_plain (Some (term_tree (tm.Find n x y z))) ≡ true
unfolding is_plain
plain-find n x y z = rw (term_tree-Find n x y z)

pub ruleset term_rules = (
  reads-application,
  plain-indexed,
  reads-times,
  reads-indices,
  reads-all,
  reads-some,
  plain-name,
  plain-macro,
  plain-schema,
  plain-diff,
  plain-le,
  plain-happens,
  plain-find,
)

pub plain-nothing : is_plain None ≡ true
unfolding is_plain
plain-nothing = refl

pub ruleset nothing_rules = (plain-nothing)
