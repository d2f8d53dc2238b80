-- What stands on a subject: the arguments of what stands there, and formulas made of others.
use Rattle.std.proofs.Common.{◌≡◌, refl, sym, ap, ◌∙◌, ℕ, zero, suc, List, [], ◌∷◌, Bool, true}
use Rattle.std.proofs.Common.{false, ◌&&◌, ◌||◌, ◌==◌, not, Some}
use Rattle.std.specs.Prelude.{slice_get}
use Rattle.std.proofs.lemmas.Bool.Decides.{Decides-eqb}
use Rattle.sq_base.specs.declared.sort.Sort.{Sort}
use Rattle.sq_base.specs.declared.sort.Sort.TheVariants.{Message, Boolean}
use Rattle.sq_term.specs.declared.signature.FunDecl.{FunDecl}
use Rattle.sq_term.specs.declared.term.Idx.{Idx}
use Rattle.sq_term.specs.declared.term.Side.{Side}
use Rattle.sq_term.specs.declared.term.Side.TheVariants.{Left, Right, Both}
use Rattle.sq_term.specs.Builtins.{arguments}
use Rattle.sq_term.specs.Formulas as formula
use Rattle.sq_term.specs.Measure.{count_terms}
use Rattle.sq_term.specs.Pure.{is_connective, has_no_indices, is_pure, are_pure}
use Rattle.sq_term.specs.Symbols as kind
use Rattle.sq_term.specs.Symbols.{Kind, function_number}
use Rattle.sq_term.specs.Syntax.{TermTree, fun, TermTrees, nil, cons}
use Rattle.sq_term.specs.TreeEquality.{is_same_sort}
use Rattle.sq_term.proofs.BoolTests.{and_split, and_both}
use Rattle.sq_term.proofs.SameTrees.{is_same_sort-decides}
use Rattle.sq_typing.specs.Diffs.{holds_diff, hold_diff}
use Rattle.sq_typing.specs.Functions.{builtin_function, builtin_functions, begins_with}
use Rattle.sq_typing.specs.Functions.{same_function, are_functions}
use Rattle.sq_typing.specs.Standing.{Subject, of_trace, of_side, suits, may_stand}
use Rattle.sq_typing.specs.Typing.{Signature, result_sort, applies, argument_sort, are_indices}
use Rattle.sq_typing.specs.Typing.{has_sort, have_sorts}
use Rattle.sq_typing.proofs.SortLaws.{argument_sorts}

-- ---- Booleans

pub not_true : (b : Bool) → not b ≡ true → b ≡ false
not_true true e = cc
not_true false e = refl

neither : (a b : Bool) → not (a || b) ≡ true → (not a ≡ true) × (not b ≡ true)
neither true b e = absurd (cc)
neither false b e = (refl, e)

none_of : (a b : Bool) → not a ≡ true → not b ≡ true → not (a || b) ≡ true
none_of true b e f = e
none_of false b e f = f

-- ---- the two tests

pub sort-of : (g : Signature) (about : Subject) (s : Sort) (t : TermTree)
    → may_stand g about s t ≡ true → has_sort g [] s t ≡ true
sort-of g about s t h = (and_split (has_sort g [] s t) (suits about t) h).0

pub suits-of : (g : Signature) (about : Subject) (s : Sort) (t : TermTree)
    → may_stand g about s t ≡ true → suits about t ≡ true
suits-of g about s t h = (and_split (has_sort g [] s t) (suits about t) h).1

pub stands : (g : Signature) (about : Subject) (s : Sort) (t : TermTree)
    → has_sort g [] s t ≡ true → suits about t ≡ true → may_stand g about s t ≡ true
stands g about s t h k = and_both (has_sort g [] s t) (suits about t) h k

pub suits-from : (about : Subject) (t u : TermTree) → (is_pure t ≡ true → is_pure u ≡ true)
    → (holds_diff t ≡ false → holds_diff u ≡ false) → suits about t ≡ true → suits about u ≡ true
suits-from of_trace t u p d h = p h
suits-from (of_side Both) t u p d h = refl
suits-from (of_side Left) t u p d h = ap not (d (not_true (holds_diff t) h))
suits-from (of_side Right) t u p d h = ap not (d (not_true (holds_diff t) h))

-- a term whose tests follow from those of another
pub stands-from : (g h : Signature) (about : Subject) (r s : Sort) (t u : TermTree)
    → (has_sort g [] r t ≡ true → has_sort h [] s u ≡ true) → (is_pure t ≡ true → is_pure u ≡ true)
    → (holds_diff t ≡ false → holds_diff u ≡ false)
    → may_stand g about r t ≡ true → may_stand h about s u ≡ true
stands-from g h about r s t u f p d e =
    stands h about s u (f (sort-of g about r t e))
    (suits-from about t u p d (suits-of g about r t e))

-- ---- arguments

abbrev pub suit_all : Subject → TermTrees → Bool
suit_all of_trace ts = are_pure ts
suit_all (of_side Both) ts = true
suit_all (of_side Left) ts = not (hold_diff ts)
suit_all (of_side Right) ts = not (hold_diff ts)

pub none-suit : (about : Subject) → suit_all about nil ≡ true
none-suit of_trace = refl
none-suit (of_side Both) = refl
none-suit (of_side Left) = refl
none-suit (of_side Right) = refl

pub first-suits : (about : Subject) (t : TermTree) (ts : TermTrees)
    → suit_all about (cons t ts) ≡ true → (suits about t ≡ true) × (suit_all about ts ≡ true)
first-suits of_trace t ts h = and_split (is_pure t) (are_pure ts) h
first-suits (of_side Both) t ts h = (refl, refl)
first-suits (of_side Left) t ts h = neither (holds_diff t) (hold_diff ts) h
first-suits (of_side Right) t ts h = neither (holds_diff t) (hold_diff ts) h

pub more-suit : (about : Subject) (t : TermTree) (ts : TermTrees)
    → suits about t ≡ true → suit_all about ts ≡ true → suit_all about (cons t ts) ≡ true
more-suit of_trace t ts h k = and_both (is_pure t) (are_pure ts) h k
more-suit (of_side Both) t ts h k = refl
more-suit (of_side Left) t ts h k = none_of (holds_diff t) (hold_diff ts) h k
more-suit (of_side Right) t ts h k = none_of (holds_diff t) (hold_diff ts) h k

pub arguments-suit : (about : Subject) (f : Kind) (is : List Idx) (ts : TermTrees)
    → suits about (fun f is ts) ≡ true → suit_all about ts ≡ true
arguments-suit of_trace f is ts h =
    (and_split (has_no_indices is) (are_pure ts)
    (and_split (is_connective f (count_terms ts)) _ h).1).1
arguments-suit (of_side Both) f is ts h = refl
arguments-suit (of_side Left) f is ts h = h
arguments-suit (of_side Right) f is ts h = h

connective-suits : (about : Subject) (f : Kind) (ts : TermTrees)
    → is_connective f (count_terms ts) ≡ true → suit_all about ts ≡ true
    → suits about (fun f [] ts) ≡ true
connective-suits of_trace f ts c h = and_both (is_connective f (count_terms ts)) (are_pure ts) c h
connective-suits (of_side Both) f ts c h = refl
connective-suits (of_side Left) f ts c h = h
connective-suits (of_side Right) f ts c h = h

pub application-suits : (s : Side) (f : Kind) (is : List Idx) (ts : TermTrees)
    → suit_all (of_side s) ts ≡ true → suits (of_side s) (fun f is ts) ≡ true
application-suits Both f is ts h = refl
application-suits Left f is ts h = h
application-suits Right f is ts h = h

module _ (g : Signature) (about : Subject) (s : Sort) (f : Kind) where
  pub only-stands : (a : TermTree) → may_stand g about s (formula.unary f a) ≡ true
      → may_stand g about (argument_sort f 0) a ≡ true
  only-stands a h =
      let sorts =
      argument_sorts g [] s f [] (cons a nil) (sort-of g about s (formula.unary f a) h) in
      let suit =
      arguments-suit about f [] (cons a nil) (suits-of g about s (formula.unary f a) h) in
      stands g about (argument_sort f 0) a
      (and_split (has_sort g [] (argument_sort f 0) a) true sorts).0
      (first-suits about a nil suit).0

  pub first-stands : (a b : TermTree) → may_stand g about s (formula.binary f a b) ≡ true
      → may_stand g about (argument_sort f 0) a ≡ true
  first-stands a b h =
      let sorts =
      argument_sorts g [] s f [] (cons a (cons b nil))
      (sort-of g about s (formula.binary f a b) h) in
      let suit =
      arguments-suit about f [] (cons a (cons b nil))
      (suits-of g about s (formula.binary f a b) h) in
      stands g about (argument_sort f 0) a
      (and_split (has_sort g [] (argument_sort f 0) a) _ sorts).0
      (first-suits about a (cons b nil) suit).0

  pub second-stands : (a b : TermTree) → may_stand g about s (formula.binary f a b) ≡ true
      → may_stand g about (argument_sort f 1) b ≡ true
  second-stands a b h =
      let sorts =
      argument_sorts g [] s f [] (cons a (cons b nil))
      (sort-of g about s (formula.binary f a b) h) in
      let suit =
      arguments-suit about f [] (cons a (cons b nil))
      (suits-of g about s (formula.binary f a b) h) in
      stands g about (argument_sort f 1) b
      (and_split (has_sort g [] (argument_sort f 1) b) true
      (and_split (has_sort g [] (argument_sort f 0) a) _ sorts).1).0
      (first-suits about b nil (first-suits about a (cons b nil) suit).1).0

-- ---- built-in functions, in every signature that begins with them

builtin-at : (bs fs : List FunDecl) (k : ℕ) (b : FunDecl) → begins_with bs fs ≡ true
    → slice_get bs k ≡ Some b
    → (d : FunDecl) × (slice_get fs k ≡ Some d) × (same_function b d ≡ true)
builtin-at [] fs k b h e = absurd (cc)
builtin-at (x ∷ xs) [] k b h e = let z : false ≡ true = h in absurd (cc)
builtin-at (x ∷ xs) (y ∷ ys) zero b h e =
    let z : b ≡ x = cc in (
      y,
      refl,
      ap (λ (f : FunDecl). same_function f y) z
          ∙ (and_split (same_function x y) (begins_with xs ys) h).0,
    )
builtin-at (x ∷ xs) (y ∷ ys) (suc k) b h e =
    builtin-at xs ys k b (and_split (same_function x y) (begins_with xs ys) h).1 e

turned : (m n : ℕ) → (m == n) ≡ true → (n == m) ≡ true
turned m n h = (Decides-eqb n m).1 (sym ((Decides-eqb m n).0 h))

-- the function stands at its number
abbrev pub IsBuiltin : Kind → Type 0
IsBuiltin f = slice_get builtin_functions (function_number f) ≡ Some (builtin_function f)

module _ (g : Signature) (ok : are_functions g.funs ≡ true) where
  pub builtin-applies : (f : Kind) → IsBuiltin f
      → (is_same_sort (result_sort (slice_get g.funs (function_number f)))
      (builtin_function f).result ≡ true)
      × (applies (slice_get g.funs (function_number f)) 0 (arguments f) ≡ true)
  builtin-applies f e =
      go (builtin-at builtin_functions g.funs (function_number f) (builtin_function f) ok e)
    where
      go : (d : FunDecl) × (slice_get g.funs (function_number f) ≡ Some d)
          × (same_function (builtin_function f) d ≡ true)
          → (is_same_sort (result_sort (slice_get g.funs (function_number f)))
          (builtin_function f).result ≡ true)
          × (applies (slice_get g.funs (function_number f)) 0 (arguments f) ≡ true)
      go (d, at, same) =
          let s : Sort = (builtin_function f).result in
          let n : ℕ = arguments f in
          let p = and_split (0 == d.idx) _ same in
          let q = and_split (n == d.args) _ p.1 in
          let r = and_split (is_same_sort s d.result) _ q.1 in
          let z : s ≡ d.result = (is_same_sort-decides s d.result).0 r.0 in
          let w : is_same_sort d.result s ≡ true = (is_same_sort-decides d.result s).1 (sym z) in (
            ap (λ o. is_same_sort (result_sort o) s) at ∙ w,
            ap (λ o. applies o 0 n) at
                ∙ and_both (d.idx == 0) (d.args == n) (turned 0 d.idx p.0) (turned n d.args q.0),
          )

  pub application-sorted : (f : Kind) (bs : List Sort) (ts : TermTrees) → IsBuiltin f
      → count_terms ts ≡ arguments f → have_sorts g bs f 0 ts ≡ true
      → has_sort g bs (builtin_function f).result (fun f [] ts) ≡ true
  application-sorted f bs ts e n h =
      let p = builtin-applies f e in
      and_both (is_same_sort (result_sort (slice_get g.funs (function_number f)))
      (builtin_function f).result) _ p.0
      (and_both (applies (slice_get g.funs (function_number f)) 0 (count_terms ts)) _
      (ap (applies (slice_get g.funs (function_number f)) 0) n ∙ p.1) h)

  connective-stands : (about : Subject) (f : Kind) (ts : TermTrees) → IsBuiltin f
      → count_terms ts ≡ arguments f → is_connective f (count_terms ts) ≡ true
      → have_sorts g [] f 0 ts ≡ true → suit_all about ts ≡ true
      → may_stand g about (builtin_function f).result (fun f [] ts) ≡ true
  connective-stands about f ts e n c h k =
      stands g about (builtin_function f).result (fun f [] ts) (application-sorted f [] ts e n h)
      (connective-suits about f ts c k)

  pub falsity-stands : (about : Subject) → may_stand g about Boolean formula.falsity ≡ true
  falsity-stands about =
      connective-stands about kind.falsity nil refl refl refl refl (none-suit about)

  pub negation-stands : (about : Subject) (a : TermTree) → may_stand g about Boolean a ≡ true
      → may_stand g about Boolean (formula.negation a) ≡ true
  negation-stands about a h =
      connective-stands about kind.negation (cons a nil) refl refl refl
      (and_both (has_sort g [] Boolean a) true (sort-of g about Boolean a h) refl)
      (more-suit about a nil (suits-of g about Boolean a h) (none-suit about))

  -- of two formulas
  module _ (about : Subject) (a b : TermTree) (h : may_stand g about Boolean a ≡ true)
      (k : may_stand g about Boolean b ≡ true) where
    sorted : (has_sort g [] Boolean a && (has_sort g [] Boolean b && true)) ≡ true
    sorted =
        and_both (has_sort g [] Boolean a) _ (sort-of g about Boolean a h)
        (and_both (has_sort g [] Boolean b) true (sort-of g about Boolean b k) refl)

    suited : suit_all about (cons a (cons b nil)) ≡ true
    suited =
        more-suit about a (cons b nil) (suits-of g about Boolean a h)
        (more-suit about b nil (suits-of g about Boolean b k) (none-suit about))

    pub both-stands : may_stand g about Boolean (formula.both a b) ≡ true
    both-stands =
        connective-stands about kind.conjunction (cons a (cons b nil)) refl refl refl sorted suited

    pub either-stands : may_stand g about Boolean (formula.either a b) ≡ true
    either-stands =
        connective-stands about kind.disjunction (cons a (cons b nil)) refl refl refl sorted suited

    pub implies-stands : may_stand g about Boolean (formula.implies a b) ≡ true
    implies-stands =
        connective-stands about kind.implication (cons a (cons b nil)) refl refl refl sorted suited

  pub equivalent-stands : (about : Subject) (a b : TermTree) → may_stand g about Boolean a ≡ true
      → may_stand g about Boolean b ≡ true → may_stand g about Boolean (formula.equivalent a b)
      ≡ true
  equivalent-stands about a b h k =
      both-stands about (formula.implies a b) (formula.implies b a) (implies-stands about a b h k)
      (implies-stands about b a k h)

  -- two messages of a side
  pub equal-stands : (s : Side) (u v : TermTree) → may_stand g (of_side s) Message u ≡ true
      → may_stand g (of_side s) Message v ≡ true
      → may_stand g (of_side s) Boolean (formula.equal u v) ≡ true
  equal-stands s u v h k =
      stands g (of_side s) Boolean (formula.equal u v)
      (application-sorted kind.equality [] (cons u (cons v nil)) refl refl
      (and_both (has_sort g [] Message u) _ (sort-of g (of_side s) Message u h)
      (and_both (has_sort g [] Message v) true (sort-of g (of_side s) Message v k) refl)))
      (application-suits s kind.equality [] (cons u (cons v nil))
      (more-suit (of_side s) u (cons v nil) (suits-of g (of_side s) Message u h)
      (more-suit (of_side s) v nil (suits-of g (of_side s) Message v k) (none-suit (of_side s)))))
