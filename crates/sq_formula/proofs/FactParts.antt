-- The parts of a term's fact, as the program reads and makes them.
use Rattle.std.proofs.Common.{◌≡◌, ◌≢◌, ◌<◌, ◌≤◌, ◌+◌, ◌-◌, ◌==◌, ℕ, zero, suc, add-one, Bool, true}
use Rattle.std.proofs.Common.{false, ◌&&◌, nat_le, Option, Some, None, List, [], ◌∷◌}
use Rattle.std.proofs.Common.{length, get_or, refl, sym, ap, ◌∙◌, arith}
use Rattle.std.specs.Prelude.{slice_get, if◌then◌else◌}
use Rattle.std.proofs.lemmas.Bool.Decides.{nat_tests, Decides-eqb}
use Rattle.std.proofs.lemmas.Option.{get_or_from_slice_get}
use Rattle.sq_base.specs.declared.sort.Sort.TheVariants.{Index}
use Rattle.sq_term.specs.declared.signature.FunDecl.{FunDecl}
use Rattle.sq_term.specs.declared.signature.FunRole.TheVariants.{Plain}
use Rattle.sq_term.specs.declared.term.Idx.{Idx}
use Rattle.sq_term.specs.declared.term.Term.{Term}
use Rattle.sq_term.specs.declared.term.Term.TheVariants as tm
use Rattle.sq_term.specs.Formulas.{both, equal}
use Rattle.sq_term.specs.Measure.{size, depth}
use Rattle.sq_term.specs.Signatures.{no_function, declared_at, function_role, is_sign, is_check}
use Rattle.sq_term.specs.Signatures.{is_pk, is_signature}
use Rattle.sq_term.specs.Symbols as kind
use Rattle.sq_term.specs.Symbols.{Kind, IsDeclared, declared, kind_of}
use Rattle.sq_term.specs.Syntax.{TermTree, fun, all, some, TermTrees, nil, cons}
use Rattle.sq_term.specs.TreeEquality.{is_same_tree}
use Rattle.sq_term.specs.View.{term_tree, term_trees}
use Rattle.sq_term.proofs.BoolTests.{and_both}
use Rattle.sq_term.proofs.KindNumbers.{kind_of-behind, behind-kind_of}
use Rattle.sq_term.proofs.Views.{term_tree-Fun, term_tree-Forall, term_tree-Exists, open_rules}
use Rattle.sq_subst.specs.Room as room
use Rattle.sq_system.specs.Limits.{most_nodes, most_depth}
use Rattle.sq_system.specs.declared.fault.RuleFault.TheVariants.{TooLarge, NoMemory}
use Rattle.sq_formula.specs.FactSearch.{arguments_of, accepts_parts, accepts, check_fact}
use Rattle.sq_formula.specs.FactSearch.{fact_by_shape}
use Rattle.sq_formula.specs.Facts.{all_indices, some_indices, find_fact}
use Rattle.sq_formula.specs.FactSearch.{IsFactFault}
use Rattle.sq_formula.specs.Shapes.{is_plain}
use Rattle.sq_formula.specs.Refusals.{IsPastLimits}

-- ---- roles of declared functions

none-there : (funs : List FunDecl) (f : ℕ) → slice_get funs f ≡ None
    → get_or funs f no_function ≡ no_function
none-there [] f e = refl
none-there (d ∷ ds) zero e = absurd (cc)
none-there (d ∷ ds) (suc f) e = none-there ds f e

at_number : (funs : List FunDecl) (k : ℕ) → (get_or funs (14 + k) no_function).role
    ≡ (declared_at funs k).role
at_number funs k =
    let e : 14 + k ≡ k + 14 = omega arith in
    ap (λ n. (get_or funs n no_function).role) e

pub role-some : (funs : List FunDecl) (k : ℕ) (d : FunDecl) → slice_get funs (14 + k) ≡ Some d
    → d.role ≡ (declared_at funs k).role
role-some funs k d e =
    sym (ap (λ (x : FunDecl). x.role) (get_or_from_slice_get funs (14 + k) d no_function e))
    ∙ at_number funs k

pub role-none : (funs : List FunDecl) (k : ℕ) → slice_get funs (14 + k) ≡ None
    → Plain ≡ (declared_at funs k).role
role-none funs k e = sym (ap (λ (x : FunDecl). x.role) (none-there funs (14 + k) e))
    ∙ at_number funs k

pub ruleset role_rules = (role-some, role-none)

pub signature-parts : (funs : List FunDecl) (k : ℕ) → is_signature funs k
    ≡ (is_sign (declared_at funs k).role
    && (is_check (declared_at funs (k + 1)).role && is_pk (declared_at funs (k + 2)).role))
signature-parts funs k =
    let one : suc k ≡ k + 1 = omega arith in
    let two : suc (suc k) ≡ k + 2 = omega arith in
    λ i. is_sign (declared_at funs k).role
    && (is_check (declared_at funs (one i)).role && is_pk (declared_at funs (two i)).role)

pub ruleset signature_rules = (signature-parts)

-- the role of a function by its number
plain-role : (funs : List FunDecl) (k : Kind) → (IsDeclared k → ⊥)
    → is_check (function_role funs k) ≡ false
plain-role funs (declared n) h = absurd (h tt)
plain-role funs _ h = refl

below : (f : ℕ) → f < 14 → IsDeclared (kind_of f) → ⊥
below f h d = let l : 14 ≤ f = behind-kind_of f d in absurd (omega arith)

pub check-builtin : (funs : List FunDecl) (f : ℕ) → f < 14
    → false ≡ is_check (function_role funs (kind_of f))
check-builtin funs f h = sym (plain-role funs (kind_of f) (below f h))

pub check-declared : (funs : List FunDecl) (f : ℕ) → 14 ≤ f
    → is_check (declared_at funs (f - 14)).role ≡ is_check (function_role funs (kind_of f))
check-declared funs f h = ap (λ k. is_check (function_role funs k)) (sym (kind_of-behind f h))

pub ruleset check_role_rules = (check-builtin, check-declared)

-- ---- the arguments of a declared function

found : (k f : ℕ) (is : List Idx) (ts : TermTrees) → 14 ≤ f → f - 14 ≡ k → length is ≡ 0
    → Some ts ≡ arguments_of k (fun (kind_of f) is ts)
found k f [] ts h e n =
    sym (ap (λ j. arguments_of k (fun j [] ts)) (kind_of-behind f h)
    ∙ ap (λ b. if b then Some ts else None) ((Decides-eqb (f - 14) k).1 e))
found k f (i ∷ is) ts h e n = absurd (omega arith)

not_found : (k : ℕ) (j : Kind) (is : List Idx) (ts : TermTrees) → (IsDeclared j → ⊥)
    → None ≡ arguments_of k (fun j is ts)
not_found k (declared n) is ts h = absurd (h tt)
not_found k _ is ts h = refl

another : (k j : ℕ) (is : List Idx) (ts : TermTrees) → j ≢ k
    → None ≡ arguments_of k (fun (declared j) is ts)
another k j [] ts n = go (j == k) refl
  where
    go : (b : Bool) → (j == k) ≡ b → None ≡ (if b then Some ts else None)
    go true h = absurd (n ((Decides-eqb j k).0 h))
    go false h = refl
another k j (i ∷ is) ts n = refl

indexed : (k : ℕ) (j : Kind) (is : List Idx) (ts : TermTrees) → length is ≢ 0
    → None ≡ arguments_of k (fun j is ts)
indexed k (declared n) [] ts h = absurd (h refl)
indexed k (declared n) (i ∷ is) ts h = refl
indexed k _ is ts h = refl

pub arguments-found : (k f : ℕ) (is : List Idx) (ts : List Term) → 14 ≤ f → f - 14 ≡ k
    → length is ≡ 0
    → Some (term_trees ts) ≡ arguments_of k (term_tree (tm.Fun f is ts))
arguments-found k f is ts h e n = rw (term_tree-Fun f is ts) (found k f is (term_trees ts) h e n)

pub arguments-low : (k f : ℕ) (is : List Idx) (ts : List Term) → f < 14
    → None ≡ arguments_of k (term_tree (tm.Fun f is ts))
arguments-low k f is ts h =
    rw (term_tree-Fun f is ts) (not_found k (kind_of f) is (term_trees ts) (below f h))

pub arguments-other : (k f : ℕ) (is : List Idx) (ts : List Term) → 14 ≤ f → f - 14 ≢ k
    → None ≡ arguments_of k (term_tree (tm.Fun f is ts))
arguments-other k f is ts h n =
    rw (term_tree-Fun f is ts, kind_of-behind f h) (another k (f - 14) is (term_trees ts) n)

pub arguments-indexed : (k f : ℕ) (is : List Idx) (ts : List Term) → length is ≢ 0
    → None ≡ arguments_of k (term_tree (tm.Fun f is ts))
arguments-indexed k f is ts n =
    rw (term_tree-Fun f is ts) (indexed k (kind_of f) is (term_trees ts) n)

pub ruleset arguments_rules = (
  open_rules,
  arguments-found,
  arguments-low,
  arguments-other,
  arguments-indexed,
)

-- ---- a signature that is accepted

parts : (m n key l : TermTree) (xs ys : List Term) (x y z : Term) → 2 ≤ length xs → length xs < 3
    → x ≡ get_or xs 0 x → y ≡ get_or xs 1 y → 1 ≤ length ys → length ys < 2 → z ≡ get_or ys 0 z
    → (is_same_tree m (term_tree x) && is_same_tree (term_tree y) (term_tree z))
    ≡ accepts_parts m (Some (term_trees xs)) (Some (term_trees ys))
parts m n key l [] ys x y z h i p q j k r = absurd (omega arith)
parts m n key l (a ∷ []) ys x y z h i p q j k r = absurd (omega arith)
parts m n key l (a ∷ b ∷ []) [] x y z h i p q j k r = absurd (omega arith)
parts m n key l (a ∷ b ∷ []) (c ∷ []) x y z h i p q j k r = cc
parts m n key l (a ∷ b ∷ []) (c ∷ d ∷ ys) x y z h i p q j k r = absurd (omega arith)
parts m n key l (a ∷ b ∷ c ∷ xs) ys x y z h i p q j k r = absurd (omega arith)

pub parts-then : (m : TermTree) (xs ys : List Term) (x y z : Term) → 2 ≤ length xs → length xs < 3
    → x ≡ get_or xs 0 x → y ≡ get_or xs 1 y → 1 ≤ length ys → length ys < 2 → z ≡ get_or ys 0 z
    → is_same_tree m (term_tree x) ≡ true → is_same_tree (term_tree y) (term_tree z)
    ≡ accepts_parts m (Some (term_trees xs)) (Some (term_trees ys))
parts-then m xs ys x y z h i p q j k r e =
    sym (ap (λ b. b && is_same_tree (term_tree y) (term_tree z)) e)
    ∙ parts m m m m xs ys x y z h i p q j k r

pub parts-else : (m : TermTree) (xs ys : List Term) (x y z : Term) → 2 ≤ length xs → length xs < 3
    → x ≡ get_or xs 0 x → y ≡ get_or xs 1 y → 1 ≤ length ys → length ys < 2 → z ≡ get_or ys 0 z
    → is_same_tree m (term_tree x) ≡ false
    → false ≡ accepts_parts m (Some (term_trees xs)) (Some (term_trees ys))
parts-else m xs ys x y z h i p q j k r e =
    sym (ap (λ b. b && is_same_tree (term_tree y) (term_tree z)) e)
    ∙ parts m m m m xs ys x y z h i p q j k r

pub signed-few : (m : TermTree) (xs : List Term) (q : Option TermTrees) → length xs < 2
    → false ≡ accepts_parts m (Some (term_trees xs)) q
signed-few m [] q n = refl
signed-few m (x ∷ []) q n = refl
signed-few m (x ∷ y ∷ xs) q n = absurd (omega arith)

pub signed-many : (m : TermTree) (xs : List Term) (q : Option TermTrees) → 3 ≤ length xs
    → false ≡ accepts_parts m (Some (term_trees xs)) q
signed-many m [] q n = absurd (omega arith)
signed-many m (x ∷ []) q n = absurd (omega arith)
signed-many m (x ∷ y ∷ []) q n = absurd (omega arith)
signed-many m (x ∷ y ∷ z ∷ xs) q n = refl

no_owner : (m : TermTree) (o q : Option TermTrees) → ((l : TermTree) → q ≡ Some (cons l nil) → ⊥)
    → false ≡ accepts_parts m o q
no_owner m (Some (cons n (cons k nil))) (Some (cons l nil)) h = absurd (h l refl)
no_owner m _ _ h = refl

pub owner-few : (m : TermTree) (o : Option TermTrees) (ys : List Term) → length ys < 1
    → false ≡ accepts_parts m o (Some (term_trees ys))
owner-few m o [] n = no_owner m o (Some nil) (λ l e. let z : Some nil ≡ Some (cons l nil) = e in cc)
owner-few m o (y ∷ ys) n = absurd (omega arith)

pub owner-many : (m : TermTree) (o : Option TermTrees) (ys : List Term) → 2 ≤ length ys
    → false ≡ accepts_parts m o (Some (term_trees ys))
owner-many m o [] n = absurd (omega arith)
owner-many m o (y ∷ []) n = absurd (omega arith)
owner-many m o (y ∷ z ∷ ys) n =
    no_owner m o (Some (cons (term_tree y) (cons (term_tree z) (term_trees ys)))) (λ l e. cc)

pub ruleset parts_rules = (parts-then, parts-else, signed-few, signed-many, owner-few, owner-many)

behind : (k : ℕ) → k + 2 ≡ suc (suc k)
behind k = omega arith

pub accepts-both : (k : ℕ) (m s p : TermTree) (r : Bool) (xs ys : TermTrees)
    → Some xs ≡ arguments_of k s
    → Some ys ≡ arguments_of (k + 2) p → r ≡ accepts_parts m (Some xs) (Some ys)
    → r ≡ accepts k m s p
accepts-both k m s p r xs ys e f h =
    h ∙ (ap (λ o. accepts_parts m o (Some ys)) e ∙ (ap (accepts_parts m (arguments_of k s)) f
    ∙ ap (λ j. accepts_parts m (arguments_of k s) (arguments_of j p)) (behind k)))

pub accepts-no-owner : (k : ℕ) (m s p : TermTree) → None ≡ arguments_of (k + 2) p
    → false ≡ accepts k m s p
accepts-no-owner k m s p f =
    no_owner m (arguments_of k s) None (λ l e. let z : None ≡ Some (cons l nil) = e in cc)
    ∙ (ap (accepts_parts m (arguments_of k s)) f
    ∙ ap (λ j. accepts_parts m (arguments_of k s) (arguments_of j p)) (behind k))

pub accepts-unsigned : (k : ℕ) (m s p : TermTree) → None ≡ arguments_of k s
    → false ≡ accepts k m s p
accepts-unsigned k m s p e = ap (λ o. accepts_parts m o (arguments_of (suc (suc k)) p)) e

pub ruleset accepts_rules = (accepts-both, accepts-no-owner, accepts-unsigned)

-- ---- the fact of a check

pub three : (xs : List Term) (a b c : Term) → 3 ≤ length xs → length xs < 4 → a ≡ get_or xs 0 a
    → b ≡ get_or xs 1 b → c ≡ get_or xs 2 c
    → term_trees xs ≡ cons (term_tree a) (cons (term_tree b) (cons (term_tree c) nil))
three [] a b c m n p q r = absurd (omega arith)
three (x ∷ []) a b c m n p q r = absurd (omega arith)
three (x ∷ y ∷ []) a b c m n p q r = absurd (omega arith)
three (x ∷ y ∷ z ∷ []) a b c m n p q r = cc
three (x ∷ y ∷ z ∷ u ∷ xs) a b c m n p q r = absurd (omega arith)

-- of a check that is not the first function, behind sign
checked : (funs : List FunDecl) (k : ℕ) (t m s p : TermTree) (b : Bool) → 0 < k
    → (is_signature funs (k - 1) && accepts (k - 1) m s p) ≡ b
    → (if b then Some t else None) ≡ check_fact funs k t (cons m (cons s (cons p nil)))
checked funs zero t m s p b h e = absurd (omega arith)
checked funs (suc k) t m s p b h e =
    let z : suc k - 1 ≡ k = omega arith in
    sym (ap (λ j. if is_signature funs j && accepts j m s p then Some t else None) (sym z)
    ∙ ap (λ q. if q then Some t else None) e)

pub many : (xs : List Term) → 4 ≤ length xs → length xs ≢ 3
many xs h e = absurd (omega (arith, e))

pub few : (xs : List Term) → length xs < 3 → length xs ≢ 3
few xs h e = absurd (omega (arith, e))

pub ruleset three_rules = (three, many, few)

module _ (funs : List FunDecl) (k : ℕ) (t : TermTree) (ts : TermTrees) (m s p : TermTree)
    (are : ts ≡ cons m (cons s (cons p nil))) where
  checked_here : (d : Bool) → 0 < k → (is_signature funs (k - 1) && accepts (k - 1) m s p) ≡ d
      → (if d then Some t else None) ≡ check_fact funs k t ts
  checked_here d h e = checked funs k t m s p d h e ∙ ap (check_fact funs k t) (sym are)

  pub check-found : (w : TermTree) → w ≡ t → 0 < k → is_signature funs (k - 1) ≡ true
      → accepts (k - 1) m s p ≡ true → Some w ≡ check_fact funs k t ts
  check-found w e h i j =
      ap Some e ∙ checked_here true h (and_both (is_signature funs (k - 1)) _ i j)

  pub check-unsigned : 0 < k → is_signature funs (k - 1) ≡ false → None ≡ check_fact funs k t ts
  check-unsigned h i = checked_here false h (ap (λ d. d && accepts (k - 1) m s p) i)

  pub check-refused : 0 < k → accepts (k - 1) m s p ≡ false → None ≡ check_fact funs k t ts
  check-refused h i = checked_here false h (no_second (is_signature funs (k - 1)) _ i)
    where
      no_second : (x y : Bool) → y ≡ false → (x && y) ≡ false
      no_second true y e = e
      no_second false y e = refl

pub check-first : (funs : List FunDecl) (k : ℕ) (t : TermTree) (ts : TermTrees) → k ≤ 0
    → None ≡ check_fact funs k t ts
check-first funs zero t ts h = refl
check-first funs (suc k) t ts h = absurd (omega arith)

pub check-others : (funs : List FunDecl) (k : ℕ) (t : TermTree) (xs : List Term) → length xs ≢ 3
    → None ≡ check_fact funs k t (term_trees xs)
check-others funs zero t xs h = refl
check-others funs (suc k) t [] h = refl
check-others funs (suc k) t (x ∷ []) h = refl
check-others funs (suc k) t (x ∷ y ∷ []) h = refl
check-others funs (suc k) t (x ∷ y ∷ z ∷ []) h = absurd (h refl)
check-others funs (suc k) t (x ∷ y ∷ z ∷ u ∷ xs) h = refl

pub ruleset check_rules = (check-found, check-unsigned, check-refused, check-first, check-others)

-- ---- terms without a shape

no_plain : {P : Type 0} → false ≡ true → P
no_plain e = absurd (let f : false ≡ true = e in cc)

builtin : (funs : List FunDecl) (t : TermTree) (k : Kind) (is : List Idx) (ts : TermTrees)
    → is_plain (Some (fun k is ts)) ≡ true → (IsDeclared k → ⊥)
    → None ≡ fact_by_shape funs t (fun k is ts)
unfolding is_plain fact_by_shape
builtin funs t kind.conditional [] (cons b (cons u (cons v nil))) h n = no_plain h
builtin funs t kind.first [] (cons p nil) h n = no_plain h
builtin funs t kind.second [] (cons p nil) h n = no_plain h
builtin funs t kind.of_bool [] (cons b nil) h n = no_plain h
builtin funs t (declared k) is ts h n = absurd (n tt)
builtin funs t _ is ts h n = refl

pub application-builtin : (funs : List FunDecl) (t : TermTree) (f : ℕ) (is : List Idx)
    (ts : TermTrees)
    → f < 14 → is_plain (Some (fun (kind_of f) is ts)) ≡ true
    → None ≡ fact_by_shape funs t (fun (kind_of f) is ts)
application-builtin funs t f is ts l h = builtin funs t (kind_of f) is ts h (below f l)

declared-shape : (funs : List FunDecl) (t : TermTree) (k : ℕ) (is : List Idx) (ts : TermTrees)
    → length is ≡ 0
    → check_fact funs k t ts ≡ fact_by_shape funs t (fun (declared k) is ts)
unfolding fact_by_shape
declared-shape funs t k [] ts e = refl
declared-shape funs t k (i ∷ is) ts e = absurd (omega arith)

pub application-declared : (funs : List FunDecl) (t : TermTree) (f : ℕ) (is : List Idx)
    (ts : TermTrees)
    → 14 ≤ f → length is ≡ 0
    → check_fact funs (f - 14) t ts ≡ fact_by_shape funs t (fun (kind_of f) is ts)
application-declared funs t f is ts l e =
    declared-shape funs t (f - 14) is ts e
    ∙ ap (λ k. fact_by_shape funs t (fun k is ts)) (sym (kind_of-behind f l))

indexed-shape : (funs : List FunDecl) (t : TermTree) (k : Kind) (is : List Idx) (ts : TermTrees)
    → length is ≢ 0 → None ≡ fact_by_shape funs t (fun k is ts)
unfolding fact_by_shape
indexed-shape funs t kind.conditional [] ts n = absurd (n refl)
indexed-shape funs t k [] ts n = absurd (n refl)
indexed-shape funs t kind.conditional (i ∷ is) ts n = refl
indexed-shape funs t _ (i ∷ is) ts n = refl

pub application-indexed : (funs : List FunDecl) (t : TermTree) (f : ℕ) (is : List Idx)
    (ts : TermTrees)
    → length is ≢ 0 → None ≡ fact_by_shape funs t (fun (kind_of f) is ts)
application-indexed funs t f is ts n = indexed-shape funs t (kind_of f) is ts n

pub not-empty : (n : ℕ) → false ≡ (n == 0) → n ≢ 0
not-empty n h e =
    let z : (n == 0) ≡ true = (Decides-eqb n 0).1 e in
    absurd (let w : false ≡ true = h ∙ z in cc)

pub ruleset application_rules = (application-builtin, application-declared, application-indexed)

-- ---- quantifiers

pub all-next : (k : ℕ) (t : TermTree) (x : Term) → term_tree x ≡ all_indices k t
    → term_tree (tm.Forall Index x) ≡ all_indices (k + 1) t
all-next k t x e = rw (term_tree-Forall Index x, add-one) (ap (λ y. all Index y) e)

pub some-next : (k : ℕ) (t : TermTree) (x : Term) → term_tree x ≡ some_indices k t
    → term_tree (tm.Exists Index x) ≡ some_indices (k + 1) t
some-next k t x e = rw (term_tree-Exists Index x, add-one) (ap (λ y. some Index y) e)

pub ruleset quantifier_rules = (all-next, some-next)

some-depth : (c : ℕ) (t : TermTree) → c ≤ depth (some_indices c t)
some-depth zero t = omega arith
some-depth (suc c) t = let h : c ≤ depth (some_indices c t) = some-depth c t in omega arith

find-depth : (c : ℕ) (t F u v : TermTree) → c ≤ depth (find_fact t c F u v)
find-depth c t F u v =
    let h : c ≤ depth (some_indices c (both F (equal t u))) =
    some-depth c (both F (equal t u)) in omega arith

pub find-past : (c : ℕ) (t F u v : TermTree) → most_depth < c
    → IsPastLimits TooLarge (room.fits most_nodes (find_fact t c F u v))
find-past c t F u v h n = (
  refl,
  go (nat_le (size (find_fact t c F u v)) most_nodes)
      (nat_le (depth (find_fact t c F u v)) most_depth) refl,
)
  where
    go : (a b : Bool) → nat_le (depth (find_fact t c F u v)) most_depth ≡ b → (a && b) ≡ false
    go false b e = refl
    go true false e = refl
    go true true e =
        let d : c ≤ depth (find_fact t c F u v) = find-depth c t F u v in
        let l : depth (find_fact t c F u v) ≤ most_depth = grind (arith, nat_tests) in
        absurd (omega arith)

pub ruleset depth_rules = (find-past)

-- ---- why there is no fact

pub no-memory : (o : Option TermTree) → IsFactFault NoMemory o
no-memory None = refl
no-memory (Some F) = λ n. absurd (n refl)

pub ruleset fault_rules = (no-memory)
