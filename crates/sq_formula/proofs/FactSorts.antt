-- The fact of a term that may stand in a local sequent may stand there too.
use Rattle.std.proofs.Common.{◌≡◌, ℕ, zero, suc, refl, ap, subst, List, [], ◌∷◌, ◌++◌, Bool, true}
use Rattle.std.proofs.Common.{false, ◌&&◌, ◌||◌, not}
use Rattle.std.specs.Prelude.{replicate}
use Rattle.sq_base.specs.declared.sort.Sort.{Sort}
use Rattle.sq_base.specs.declared.sort.Sort.TheVariants.{Message, Boolean, Index}
use Rattle.sq_term.specs.declared.signature.FunDecl.{FunDecl}
use Rattle.sq_term.specs.declared.term.Side.{Side}
use Rattle.sq_term.specs.declared.term.Side.TheVariants.{Left, Right, Both}
use Rattle.sq_term.specs.Formulas.{truth, negation, both, either, implies, equivalent, equal}
use Rattle.sq_term.specs.Formulas.{conditional, pair, first, second, of_bool, binary}
use Rattle.sq_term.specs.Symbols as kind
use Rattle.sq_term.specs.Symbols.{Kind}
use Rattle.sq_term.specs.Syntax.{TermTree, find, nil, cons}
use Rattle.sq_term.proofs.BoolTests.{and_split, and_both}
use Rattle.sq_typing.specs.Diffs.{holds_diff}
use Rattle.sq_typing.specs.Functions.{are_functions}
use Rattle.sq_typing.specs.Standing.{of_side, suits, may_stand}
use Rattle.sq_typing.specs.Typing.{Signature, has_sort}
use Rattle.sq_typing.proofs.Formulas.{not_true, sort-of, suits-of, stands, application-sorted}
use Rattle.sq_typing.proofs.SortLaws.{argument_sorts}
use Rattle.sq_formula.specs.Facts.{conditional_fact, boolean_fact, all_indices, some_indices}
use Rattle.sq_formula.specs.Facts.{find_fact}
use Rattle.sq_formula.specs.Facts.{HasFact, of_conditional, of_first, of_second, of_boolean}
use Rattle.sq_formula.specs.Facts.{of_signature, of_find}
use Rattle.sq_formula.proofs.ClosedSorts.{sorted-below}

-- ---- sorts

module _ (g : Signature) (ok : are_functions g.funs ≡ true) where
  -- below binders of the sorts bs
  two : (bs : List Sort) (s : Sort) (a b : TermTree) → has_sort g bs s a ≡ true
      → has_sort g bs s b ≡ true → (has_sort g bs s a && (has_sort g bs s b && true)) ≡ true
  two bs s a b h k = and_both (has_sort g bs s a) _ h (and_both (has_sort g bs s b) true k refl)

  negation-at : (bs : List Sort) (a : TermTree) → has_sort g bs Boolean a ≡ true
      → has_sort g bs Boolean (negation a) ≡ true
  negation-at bs a h =
      application-sorted g ok kind.negation bs (cons a nil) refl refl
      (and_both (has_sort g bs Boolean a) true h refl)

  both-at : (bs : List Sort) (a b : TermTree) → has_sort g bs Boolean a ≡ true
      → has_sort g bs Boolean b ≡ true → has_sort g bs Boolean (both a b) ≡ true
  both-at bs a b h k =
      application-sorted g ok kind.conjunction bs (cons a (cons b nil)) refl refl
      (two bs Boolean a b h k)

  either-at : (bs : List Sort) (a b : TermTree) → has_sort g bs Boolean a ≡ true
      → has_sort g bs Boolean b ≡ true → has_sort g bs Boolean (either a b) ≡ true
  either-at bs a b h k =
      application-sorted g ok kind.disjunction bs (cons a (cons b nil)) refl refl
      (two bs Boolean a b h k)

  implies-at : (bs : List Sort) (a b : TermTree) → has_sort g bs Boolean a ≡ true
      → has_sort g bs Boolean b ≡ true → has_sort g bs Boolean (implies a b) ≡ true
  implies-at bs a b h k =
      application-sorted g ok kind.implication bs (cons a (cons b nil)) refl refl
      (two bs Boolean a b h k)

  equal-at : (bs : List Sort) (u v : TermTree) → has_sort g bs Message u ≡ true
      → has_sort g bs Message v ≡ true → has_sort g bs Boolean (equal u v) ≡ true
  equal-at bs u v h k =
      application-sorted g ok kind.equality bs (cons u (cons v nil)) refl refl
      (two bs Message u v h k)

  true_message-sort : has_sort g [] Message (of_bool truth) ≡ true
  true_message-sort =
      application-sorted g ok kind.of_bool [] (cons truth nil) refl refl
      (and_both (has_sort g [] Boolean truth) true
      (application-sorted g ok kind.truth [] nil refl refl refl) refl)

  -- the binders of a find one by one
  turned : (c : ℕ) (bs : List Sort)
      → Index ∷ (replicate c Index ++ bs) ≡ replicate c Index ++ (Index ∷ bs)
  turned zero bs = refl
  turned (suc c) bs = ap (λ xs. Index ∷ xs) (turned c bs)

  some-at : (c : ℕ) (bs : List Sort) (B : TermTree) → has_sort g (replicate c Index ++ bs) Boolean B
      ≡ true
      → has_sort g bs Boolean (some_indices c B) ≡ true
  some-at zero bs B h = h
  some-at (suc c) bs B h =
      some-at c (Index ∷ bs) B (subst (λ xs. has_sort g xs Boolean B ≡ true) (turned c bs) h)

  all-at : (c : ℕ) (bs : List Sort) (B : TermTree) → has_sort g (replicate c Index ++ bs) Boolean B
      ≡ true
      → has_sort g bs Boolean (all_indices c B) ≡ true
  all-at zero bs B h = h
  all-at (suc c) bs B h =
      all-at c (Index ∷ bs) B (subst (λ xs. has_sort g xs Boolean B ≡ true) (turned c bs) h)

  first-of : (s : Sort) (a : TermTree) (b : Bool) → (has_sort g [] s a && b) ≡ true
      → has_sort g [] s a ≡ true
  first-of s a b h = (and_split (has_sort g [] s a) b h).0

  rest-of : (s : Sort) (a : TermTree) (b : Bool) → (has_sort g [] s a && b) ≡ true → b ≡ true
  rest-of s a b h = (and_split (has_sort g [] s a) b h).1

  conditional-sort : (b u v : TermTree) → has_sort g [] Message (conditional b u v) ≡ true
      → has_sort g [] Boolean (conditional_fact (conditional b u v) b u v) ≡ true
  conditional-sort b u v h =
      let args = argument_sorts g [] Message kind.conditional [] (cons b (cons u (cons v nil))) h in
      let p : has_sort g [] Boolean b ≡ true = first-of Boolean b _ args in
      let rest = rest-of Boolean b _ args in
      let q : has_sort g [] Message u ≡ true = first-of Message u _ rest in
      let r : has_sort g [] Message v ≡ true = first-of Message v true (rest-of Message u _ rest) in
      let t : TermTree = conditional b u v in
      both-at [] (implies b (equal t u)) (implies (negation b) (equal t v))
      (implies-at [] b (equal t u) p (equal-at [] t u h q))
      (implies-at [] (negation b) (equal t v) (negation-at [] b p) (equal-at [] t v h r))

  pair-parts : (u v : TermTree) → has_sort g [] Message (pair u v) ≡ true
      → (has_sort g [] Message u ≡ true) × (has_sort g [] Message v ≡ true)
  pair-parts u v h =
      let args = argument_sorts g [] Message kind.pairing [] (cons u (cons v nil)) h in
      (first-of Message u _ args, first-of Message v true (rest-of Message u _ args))

  boolean-sort : (b : TermTree) → has_sort g [] Message (of_bool b) ≡ true
      → has_sort g [] Boolean (boolean_fact (of_bool b) b) ≡ true
  boolean-sort b h =
      let p : has_sort g [] Boolean b ≡ true =
      first-of Boolean b true (argument_sorts g [] Message kind.of_bool [] (cons b nil) h) in
      let e : TermTree = equal (of_bool b) (of_bool truth) in
      let q : has_sort g [] Boolean (equal (of_bool b) (of_bool truth)) ≡ true =
      equal-at [] (of_bool b) (of_bool truth) h true_message-sort in
      both-at [] (implies e b) (implies b e) (implies-at [] e b q p) (implies-at [] b e p q)

  find-sort : (c : ℕ) (F u v : TermTree) → has_sort g [] Message (find c F u v) ≡ true
      → has_sort g [] Boolean (find_fact (find c F u v) c F u v) ≡ true
  find-sort c F u v h =
      let bs : List Sort = replicate c Index ++ [] in
      let p = and_split (has_sort g (replicate c Index ++ []) Boolean F) _ h in
      let q = and_split (has_sort g (replicate c Index ++ []) Message u)
      (has_sort g [] Message v) p.1 in
      let t : has_sort g (replicate c Index ++ []) Message (find c F u v) ≡ true =
      sorted-below g (replicate c Index ++ []) Message (find c F u v) h in
      either-at [] (some_indices c (both F (equal (find c F u v) u)))
      (both (all_indices c (negation F)) (equal (find c F u v) v))
      (some-at c [] (both F (equal (find c F u v) u))
      (both-at bs F (equal (find c F u v) u) p.0 (equal-at bs (find c F u v) u t q.0)))
      (both-at [] (all_indices c (negation F)) (equal (find c F u v) v)
      (all-at c [] (negation F) (negation-at bs F p.0)) (equal-at [] (find c F u v) v h q.1))

  fact-sort : (x : Sort) (t F : TermTree) → HasFact g.funs x t F → has_sort g [] x t ≡ true
      → has_sort g [] Boolean F ≡ true
  fact-sort _ _ _ (of_conditional b u v) h = conditional-sort b u v h
  fact-sort _ _ _ (of_first u v) h =
      let p = argument_sorts g [] Message kind.first [] (cons (pair u v) nil) h in
      equal-at [] (first (pair u v)) u h (pair-parts u v (first-of Message (pair u v) true p)).0
  fact-sort _ _ _ (of_second u v) h =
      let p = argument_sorts g [] Message kind.second [] (cons (pair u v) nil) h in
      equal-at [] (second (pair u v)) v h (pair-parts u v (first-of Message (pair u v) true p)).1
  fact-sort _ _ _ (of_boolean b) h = boolean-sort b h
  fact-sort _ _ _ (of_signature f m k signed) h = h
  fact-sort _ _ _ (of_find c G u v) h = find-sort c G u v h

-- ---- a fact holds no diff where its term holds none

neither : (x y : Bool) → x ≡ false → y ≡ false → (x || y) ≡ false
neither true y e f = e
neither false y e f = f

not_first : (x y : Bool) → (x || y) ≡ false → x ≡ false
not_first true y e = e
not_first false y e = refl

not_second : (x y : Bool) → (x || y) ≡ false → y ≡ false
not_second true true e = e
not_second true false e = refl
not_second false y e = e

two-plain : (f : Kind) (a b : TermTree) → holds_diff a ≡ false → holds_diff b ≡ false
    → holds_diff (binary f a b) ≡ false
two-plain f a b h k = neither (holds_diff a) _ h (neither (holds_diff b) false k refl)

some-plain : (c : ℕ) (B : TermTree) → holds_diff B ≡ false → holds_diff (some_indices c B) ≡ false
some-plain zero B h = h
some-plain (suc c) B h = some-plain c B h

all-plain : (c : ℕ) (B : TermTree) → holds_diff B ≡ false → holds_diff (all_indices c B) ≡ false
all-plain zero B h = h
all-plain (suc c) B h = all-plain c B h

conditional-plain : (t b u v : TermTree) → holds_diff t ≡ false → holds_diff b ≡ false
    → holds_diff u ≡ false → holds_diff v ≡ false → holds_diff (conditional_fact t b u v) ≡ false
conditional-plain t b u v h p q r =
    two-plain kind.conjunction (implies b (equal t u)) (implies (negation b) (equal t v))
    (two-plain kind.implication b (equal t u) p (two-plain kind.equality t u h q))
    (two-plain kind.implication (negation b) (equal t v) (neither (holds_diff b) false p refl)
    (two-plain kind.equality t v h r))

equivalent-plain : (a b : TermTree) → holds_diff a ≡ false → holds_diff b ≡ false
    → holds_diff (equivalent a b) ≡ false
equivalent-plain a b h k =
    two-plain kind.conjunction (implies a b) (implies b a) (two-plain kind.implication a b h k)
    (two-plain kind.implication b a k h)

find-plain : (c : ℕ) (t F u v : TermTree) → holds_diff t ≡ false → holds_diff F ≡ false
    → holds_diff u ≡ false → holds_diff v ≡ false → holds_diff (find_fact t c F u v) ≡ false
find-plain c t F u v h p q r =
    two-plain kind.disjunction (some_indices c (both F (equal t u)))
    (both (all_indices c (negation F)) (equal t v))
    (some-plain c (both F (equal t u))
    (two-plain kind.conjunction F (equal t u) p (two-plain kind.equality t u h q)))
    (two-plain kind.conjunction (all_indices c (negation F)) (equal t v)
    (all-plain c (negation F) (neither (holds_diff F) false p refl))
    (two-plain kind.equality t v h r))

fact-plain : (funs : List FunDecl) (x : Sort) (t F : TermTree) → HasFact funs x t F
    → holds_diff t ≡ false → holds_diff F ≡ false
fact-plain funs _ _ _ (of_conditional b u v) h =
    let rest = not_second (holds_diff b) _ h in
    conditional-plain (conditional b u v) b u v h (not_first (holds_diff b) _ h)
    (not_first (holds_diff u) _ rest)
    (not_first (holds_diff v) false (not_second (holds_diff u) _ rest))
fact-plain funs _ _ _ (of_first u v) h =
    let p : holds_diff (pair u v) ≡ false = not_first (holds_diff (pair u v)) false h in
    two-plain kind.equality (first (pair u v)) u h (not_first (holds_diff u) _ p)
fact-plain funs _ _ _ (of_second u v) h =
    let p : holds_diff (pair u v) ≡ false = not_first (holds_diff (pair u v)) false h in
    two-plain kind.equality (second (pair u v)) v h
    (not_first (holds_diff v) false (not_second (holds_diff u) _ p))
fact-plain funs _ _ _ (of_boolean b) h =
    equivalent-plain (equal (of_bool b) (of_bool truth)) b
    (two-plain kind.equality (of_bool b) (of_bool truth) h refl) (not_first (holds_diff b) false h)
fact-plain funs _ _ _ (of_signature f m k signed) h = h
fact-plain funs _ _ _ (of_find c G u v) h =
    let rest = not_second (holds_diff G) _ h in
    find-plain c (find c G u v) G u v h (not_first (holds_diff G) _ h)
    (not_first (holds_diff u) (holds_diff v) rest) (not_second (holds_diff u) (holds_diff v) rest)

-- ---- in a local sequent

side-from : (side : Side) (t F : TermTree) → (holds_diff t ≡ false → holds_diff F ≡ false)
    → suits (of_side side) t ≡ true → suits (of_side side) F ≡ true
side-from Both t F d e = refl
side-from Left t F d e = ap not (d (not_true (holds_diff t) e))
side-from Right t F d e = ap not (d (not_true (holds_diff t) e))

pub fact-stands : (g : Signature) (side : Side) (x : Sort) (t F : TermTree)
    → are_functions g.funs ≡ true
    → HasFact g.funs x t F → may_stand g (of_side side) x t ≡ true
    → may_stand g (of_side side) Boolean F ≡ true
fact-stands g side x t F ok h e =
    stands g (of_side side) Boolean F (fact-sort g ok x t F h (sort-of g (of_side side) x t e))
    (side-from side t F (fact-plain g.funs x t F h) (suits-of g (of_side side) x t e))
