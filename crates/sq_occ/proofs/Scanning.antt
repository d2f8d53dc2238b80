-- The walk as the program takes it lists what the definition lists.
use Rattle.std.proofs.Common.{◌≡◌, refl, sym, ap, ◌∙◌, subst, ℕ, ◌+◌, List, [], ◌∷◌}
use Rattle.std.proofs.Common.{◌++◌, map, length, Bool, true, false, if◌then◌else◌, ◌&&◌, ◌==◌}
use Rattle.std.proofs.Common.{Option, Some, None, arith}
use Rattle.sq_base.specs.declared.sort.Sort.{Sort}
use Rattle.sq_term.specs.declared.signature.FunRole.{FunRole}
use Rattle.sq_term.specs.declared.term.Idx.{Idx}
use Rattle.sq_term.specs.declared.term.Macro.{Macro}
use Rattle.sq_term.specs.declared.term.Side.{Side}
use Rattle.sq_term.specs.declared.term.Side.TheVariants.{Left, Right, Both}
use Rattle.sq_term.specs.Signatures.{function_role, is_hash, is_keyed, is_pk, is_equality}
use Rattle.sq_term.specs.Symbols.{Kind}
use Rattle.sq_term.specs.Syntax.{TsTree, free, bound, init, pred, action, TermTree, name, fun}
use Rattle.sq_term.specs.Syntax.{macro, schema, diff, le, ts_eq, idx_eq, happens, all, some, find}
use Rattle.sq_term.specs.Syntax.{TermTrees, nil, cons}
use Rattle.sq_subst.specs.Leaves.{on_side, map_ts, map_term, map_terms}
use Rattle.sq_subst.specs.Projection.{projecting}
use Rattle.sq_subst.specs.Renaming.{bound_index, binding}
use Rattle.sq_occ.specs.Entries.{bare, key, OccTree, with_indices}
use Rattle.sq_occ.specs.Walks.{is_name, name_args, is_keyed_by, is_only_name, first_term}
use Rattle.sq_occ.specs.Walks.{first_args, second_args, walk, walk_first, walk_all}
use Rattle.sq_occ.specs.Searches.{bound_role}
use Rattle.sq_occ.specs.Listed.{side_of}
use Rattle.sq_occ.specs.Calls.Scans.{Scan, named, keyed, only, at_name}
use Rattle.sq_occ.specs.Calls.Scans.{scanned, scan, scan_first, scan_all}
use Rattle.sq_occ.proofs.Sides.{map_same_indices}
use Rattle.sq_occ.proofs.Scopes.{with_indices-length}

-- a place in a body below the indices of its action
abbrev pub bound_place : ℕ → OccTree → OccTree
bound_place r u = record u {
  args = map (bound_index r (length u.bound)) u.args;
  role = bound_role r (length u.bound) u.role;
}

pub map-append : {A B : Type 0} (f : A → B) (xs ys : List A) → map f (xs ++ ys) ≡ map f xs
    ++ map f ys
map-append f [] ys = refl
map-append f (x ∷ xs) ys = ap (λ zs. f x ∷ zs) (map-append f xs ys)

map-cond : {A B : Type 0} (f : A → B) (b : Bool) (xs ys : List A) → map f (if b then xs else ys)
    ≡ (if b then map f xs else map f ys)
map-cond f true xs ys = refl
map-cond f false xs ys = refl

-- ---- a side of a term, and then indices bound in it

pub same_time : (side : Side) (m : ℕ) (t : TsTree) → map_ts (projecting side) m t ≡ t
same_time side m (free k) = refl
same_time side m (bound k) = refl
same_time side m init = refl
same_time side m (pred t) = ap pred (same_time side m t)
same_time side m (action n is) = ap (action n) (map_same_indices is)

module _ (r : ℕ) (side : Side) where
  abbrev two : ℕ → TermTree → TermTree
  two m t = map_term (binding r Both) m (map_term (projecting side) m t)

  sided_indices : (m : ℕ) (is : List Idx)
      → map (bound_index r m) (map (λ i. i) is) ≡ map (bound_index r m) is
  sided_indices m is = ap (map (bound_index r m)) (map_same_indices is)

  sided_time : (m : ℕ) (t : TsTree)
      → map_ts (binding r Both) m (map_ts (projecting side) m t) ≡ map_ts (binding r side) m t
  sided_time m (free k) = refl
  sided_time m (bound k) = refl
  sided_time m init = refl
  sided_time m (pred t) = ap pred (sided_time m t)
  sided_time m (action n is) = ap (action n) (sided_indices m is)

  sided_diff : (o : Side) (m : ℕ) (x y x' y' : TermTree)
      → map_term (binding r Both) m x ≡ x' → map_term (binding r Both) m y ≡ y'
      → map_term (binding r Both) m (on_side o x y) ≡ on_side o x' y'
  sided_diff Left m x y x' y' e f = e
  sided_diff Right m x y x' y' e f = f
  sided_diff Both m x y x' y' e f = cc (e, f)

  mutual
    pub sided : (t : TermTree) (m : ℕ)
        → map_term (binding r Both) m (map_term (projecting side) m t)
        ≡ map_term (binding r side) m t
    sided (name n is) m = ap (name n) (sided_indices m is)
    sided (fun f is ts) m = cc (sided_indices m is, all_sided ts m)
    sided (macro x t) m = ap (macro x) (sided_time m t)
    sided (schema k) m = refl
    sided (diff a b) m =
        sided_diff side m (map_term (projecting side) m a) (map_term (projecting side) m b)
        (map_term (binding r side) m a) (map_term (binding r side) m b) (sided a m) (sided b m)
    sided (le t s) m = cc (sided_time m t, sided_time m s)
    sided (ts_eq t s) m = cc (sided_time m t, sided_time m s)
    sided (idx_eq i j) m = refl
    sided (happens t) m = ap happens (sided_time m t)
    sided (all s t) m = ap (all s) (sided t (m + 1))
    sided (some s t) m = ap (some s) (sided t (m + 1))
    sided (find n c a b) m = cc (sided c (m + n), sided a (m + n), sided b m)

    all_sided : (ts : TermTrees) (m : ℕ)
        → map_terms (binding r Both) m (map_terms (projecting side) m ts)
        ≡ map_terms (binding r side) m ts
    all_sided nil m = refl
    all_sided (cons t ts) m = cc (sided t m, all_sided ts m)

-- ---- the walk

module _ (S : Scan) (M : List Sort → Macro → TsTree → List OccTree)
    (macros : (b : List Sort) (x : Macro) (t : TsTree)
    → S.at_macro b x t ≡ map (bound_place S.arity) (M b x t)) where
  abbrev P : ℕ → TermTree → TermTree
  P m t = map_term (projecting (side_of S.left)) m t

  abbrev Ps : ℕ → TermTrees → TermTrees
  Ps m ts = map_terms (projecting (side_of S.left)) m ts

  abbrev walked : List Sort → Bool → TermTree → List OccTree
  walked = walk S.funs S.name M (λ b k. [])

  abbrev bind : List OccTree → List OccTree
  bind us = map (bound_place S.arity) us

  -- the name on the side that is read
  named_is : (k : TermTree) (m : ℕ)
      → named S.name S.left k
      ≡ (if is_name S.name (P m k) then Some (name_args (P m k)) else None)
  named_is (name k is) m =
      ap (λ js. (if k == S.name then Some js else None)) (sym (map_same_indices is))
  named_is (diff x y) m = at S.left refl (named_is x m) (named_is y m)
    where
      at : (l : Bool) → S.left ≡ l
          → named S.name S.left x
          ≡ (if is_name S.name (P m x) then Some (name_args (P m x)) else None)
          → named S.name S.left y
          ≡ (if is_name S.name (P m y) then Some (name_args (P m y)) else None)
          → (if S.left then named S.name S.left x else named S.name S.left y)
          ≡ (if is_name S.name (P m (diff x y)) then Some (name_args (P m (diff x y))) else None)
      at true e hx hy =
          let left : (if S.left then named S.name S.left x else named S.name S.left y)
          ≡ named S.name S.left x =
          ap (λ b. (if b then named S.name S.left x else named S.name S.left y)) e in
          let side : on_side (side_of S.left) (P m x) (P m y) ≡ P m x =
          ap (λ b. on_side (side_of b) (P m x) (P m y)) e in
          left ∙ (hx
          ∙ ap (λ t. (if is_name S.name t then Some (name_args t) else None)) (sym side))
      at false e hx hy =
          let right : (if S.left then named S.name S.left x else named S.name S.left y)
          ≡ named S.name S.left y =
          ap (λ b. (if b then named S.name S.left x else named S.name S.left y)) e in
          let side : on_side (side_of S.left) (P m x) (P m y) ≡ P m y =
          ap (λ b. on_side (side_of b) (P m x) (P m y)) e in
          right ∙ (hy
          ∙ ap (λ t. (if is_name S.name t then Some (name_args t) else None)) (sym side))
  named_is (fun f is ts) m = refl
  named_is (macro x t) m = refl
  named_is (schema k) m = refl
  named_is (le t s) m = refl
  named_is (ts_eq t s) m = refl
  named_is (idx_eq i j) m = refl
  named_is (happens t) m = refl
  named_is (all s t) m = refl
  named_is (some s t) m = refl
  named_is (find c t a b) m = refl

  no_case : {A : Type 0} (K : Bool) (x : A) → None ≡ (if K && false then Some x else None)
  no_case true x = refl
  no_case false x = refl

  one_case : {A : Type 0} (K N : Bool) (x : A) (o : Option A) → o ≡ (if N then Some x else None)
      → (if K then o else None) ≡ (if K && N then Some x else None)
  one_case true N x o e = e
  one_case false N x o e = refl

  keyed_is : (role : FunRole) (ts : TermTrees) (m : ℕ)
      → keyed S.name S.left role ts
      ≡ (if is_keyed role && is_keyed_by S.name (Ps m ts) then Some (second_args (Ps m ts))
      else None)
  keyed_is role nil m = no_case (is_keyed role) []
  keyed_is role (cons x nil) m = no_case (is_keyed role) []
  keyed_is role (cons x (cons k nil)) m =
      one_case (is_keyed role) (is_name S.name (P m k)) (name_args (P m k)) _ (named_is k m)
  keyed_is role (cons x (cons k (cons y ts))) m = no_case (is_keyed role) (name_args (P m k))

  only_is : (role : FunRole) (ts : TermTrees) (m : ℕ)
      → only S.name S.left role ts
      ≡ (if is_pk role && is_only_name S.name (Ps m ts) then Some (first_args (Ps m ts)) else None)
  only_is role nil m = no_case (is_pk role) []
  only_is role (cons k nil) m =
      one_case (is_pk role) (is_name S.name (P m k)) (name_args (P m k)) _ (named_is k m)
  only_is role (cons x (cons k ts)) m = no_case (is_pk role) (name_args (P m x))

  at_name-cond : (b : Bool) (is : List Idx) (f : List Idx → List OccTree) (rest : List OccTree)
      (o : Option (List Idx)) → o ≡ (if b then Some is else None)
      → at_name o f rest ≡ (if b then f is else rest)
  at_name-cond true is f rest o e = ap (λ p. at_name p f rest) e
  at_name-cond false is f rest o e = ap (λ p. at_name p f rest) e

  first_term-sided : (ts : TermTrees) (m : ℕ)
      → map_term (binding S.arity Both) m (first_term (Ps m ts))
      ≡ map_term (binding S.arity (side_of S.left)) m (first_term ts)
  first_term-sided nil m = refl
  first_term-sided (cons t ts) m = sided S.arity (side_of S.left) t m

  head_same : (b : Bool) (x y : OccTree) (xs ys : List OccTree) → x ≡ y → xs ≡ ys
      → x ∷ xs ≡ y ∷ ys
  head_same b x y xs ys e f = cc (e, f)

  cond_same : {A : Type 0} (b : Bool) (x y x' y' : A) → x ≡ x' → y ≡ y'
      → (if b then x else y) ≡ (if b then x' else y')
  cond_same true x y x' y' e f = e
  cond_same false x y x' y' e f = f

  application : (f : Kind) (ts : TermTrees) (b : List Sort) (m : ℕ) (equated : Bool)
      → length b ≡ m
      → scan_first S b ts ≡ bind (walk_first S.funs S.name M (λ b k. []) b (Ps m ts))
      → scan_all S b (is_equality f) ts
      ≡ bind (walk_all S.funs S.name M (λ b k. []) b (is_equality f) (Ps m ts))
      → scan S b equated (fun f [] ts)
      ≡ bind (walked b equated (fun f [] (Ps m ts)))
  application f ts b m equated e first every =
      at_name-cond (is_keyed role && is_keyed_by S.name (Ps m ts)) (second_args (Ps m ts)) _ _ _
      (keyed_is role ts m)
      ∙ (cond_same (is_keyed role && is_keyed_by S.name (Ps m ts)) _ _ _ _
      (head_same true _ _ _ _
      (ap (λ t. scanned S (second_args (Ps m ts))
      (key f t (equated && is_hash (function_role S.funs f))) b) message) first)
      (at_name-cond (is_pk role && is_only_name S.name (Ps m ts)) (first_args (Ps m ts)) _ _ _
      (only_is role ts m)
      ∙ (cond_same (is_pk role && is_only_name S.name (Ps m ts)) _ _ _ _ refl every
      ∙ sym (map-cond (bound_place S.arity) (is_pk role && is_only_name S.name (Ps m ts)) _ _)))
      ∙ sym (map-cond (bound_place S.arity)
      (is_keyed role && is_keyed_by S.name (Ps m ts)) _ _))
    where
      role : FunRole
      role = function_role S.funs f

      message : map_term (binding S.arity (side_of S.left)) (length b) (first_term ts)
          ≡ map_term (binding S.arity Both) (length b) (first_term (Ps m ts))
      message =
          sym (subst (λ d. map_term (binding S.arity Both) d (first_term (Ps d ts))
          ≡ map_term (binding S.arity (side_of S.left)) d (first_term ts)) (sym e)
          (first_term-sided ts m)
          ) ∙ ap (λ d. map_term (binding S.arity Both) (length b) (first_term (Ps d ts))) e

  mutual
    pub scan_is : (x : TermTree) (b : List Sort) (m : ℕ) (equated : Bool) → length b ≡ m
        → scan S b equated x ≡ map (bound_place S.arity) (walked b equated (P m x))
    scan_is (name k is) b m equated e =
        cond_same (k == S.name) _ _ _ _
        (ap (λ js. scanned S js bare b ∷ []) (sym (map_same_indices is))) refl
        ∙ sym (map-cond (bound_place S.arity) (k == S.name) _ _)
    scan_is (fun f is ts) b m equated e =
        application f ts b m equated e
        (firsts_are ts b m e) (alls_are ts b m (is_equality f) e)
    scan_is (macro x t) b m equated e =
        macros b x t
        ∙ ap (λ u. bind (M b x u)) (sym (same_time (side_of S.left) m t))
    scan_is (schema k) b m equated e = refl
    scan_is (diff x y) b m equated e =
        at S.left refl (scan_is x b m equated e) (scan_is y b m equated e)
      where
        at : (l : Bool) → S.left ≡ l
            → scan S b equated x ≡ bind (walked b equated (P m x))
            → scan S b equated y ≡ bind (walked b equated (P m y))
            → (if S.left then scan S b equated x else scan S b equated y)
            ≡ bind (walked b equated (P m (diff x y)))
        at true f hx hy =
            let left : (if S.left then scan S b equated x else scan S b equated y)
            ≡ scan S b equated x = ap (λ c. (if c then scan S b equated x else scan S b equated y))
            f in
            let side : on_side (side_of S.left) (P m x) (P m y) ≡ P m x =
            ap (λ c. on_side (side_of c) (P m x) (P m y)) f in
            left ∙ (hx ∙ ap (λ t. bind (walked b equated t)) (sym side))
        at false f hx hy =
            let right : (if S.left then scan S b equated x else scan S b equated y)
            ≡ scan S b equated y = ap (λ c. (if c then scan S b equated x else scan S b equated y))
            f in
            let side : on_side (side_of S.left) (P m x) (P m y) ≡ P m y =
            ap (λ c. on_side (side_of c) (P m x) (P m y)) f in
            right ∙ (hy ∙ ap (λ t. bind (walked b equated t)) (sym side))
    scan_is (le t s) b m equated e = refl
    scan_is (ts_eq t s) b m equated e = refl
    scan_is (idx_eq i j) b m equated e = refl
    scan_is (happens t) b m equated e = refl
    scan_is (all s t) b m equated e = scan_is t (s ∷ b) (m + 1) false (omega (arith, e))
    scan_is (some s t) b m equated e = scan_is t (s ∷ b) (m + 1) false (omega (arith, e))
    scan_is (find c t a o) b m equated e =
        let long : length (with_indices c b) ≡ m + c =
        omega (arith, with_indices-length c b, e) in
        let one = scan_is t (with_indices c b) (m + c) false long in
        let two = scan_is a (with_indices c b) (m + c) false long in
        let three = scan_is o b m false e in
        let split = map-append (bound_place S.arity)
        (walked (with_indices c b) false (P (m + c) t))
        (walked (with_indices c b) false (P (m + c) a) ++ walked b false (P m o)) in
        let again = map-append (bound_place S.arity)
        (walked (with_indices c b) false (P (m + c) a)) (walked b false (P m o)) in
        cc

    firsts_are : (ts : TermTrees) (b : List Sort) (m : ℕ) → length b ≡ m
        → scan_first S b ts ≡ bind (walk_first S.funs S.name M (λ b k. []) b (Ps m ts))
    firsts_are nil b m e = refl
    firsts_are (cons t ts) b m e = scan_is t b m false e

    alls_are : (ts : TermTrees) (b : List Sort) (m : ℕ) (equated : Bool) → length b ≡ m
        → scan_all S b equated ts
        ≡ bind (walk_all S.funs S.name M (λ b k. []) b equated (Ps m ts))
    alls_are nil b m equated e = refl
    alls_are (cons t ts) b m equated e =
        let one = scan_is t b m equated e in
        let rest = alls_are ts b m equated e in
        let split = map-append (bound_place S.arity) (walked b equated (P m t))
        (walk_all S.funs S.name M (λ b k. []) b equated (Ps m ts)) in
        cc

pub ruleset side_rules = (map-append)
