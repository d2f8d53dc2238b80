-- What stands in an environment stands in a longer one.
use Rattle.std.proofs.Common.{◌≡◌, ℕ, zero, suc, ◌+◌, ◌≤◌, List, [], ◌∷◌, ◌++◌, length, replicate}
use Rattle.std.proofs.Common.{Option, Some, None, Bool, true, false, ◌&&◌, ◌||◌, if◌then◌else◌}
use Rattle.std.proofs.Common.{slice_get}
use Rattle.std.proofs.Common.{nat_lt, refl, sym, ap, subst, length-append, arith}
use Rattle.std.specs.Prelude.{nat_le}
use Rattle.std.specs.List.{list_all}
use Rattle.std.proofs.lemmas.Bool.Decides.{nat_tests}
use Rattle.sq_base.specs.declared.sort.Sort.{Sort}
use Rattle.sq_base.specs.declared.sort.Sort.TheVariants.{Message, Boolean, Index, Timestamp}
use Rattle.sq_term.specs.declared.term.Idx.{Idx}
use Rattle.sq_term.specs.declared.term.Idx.TheVariants.{Free, Bound}
use Rattle.sq_term.specs.declared.term.Side.TheVariants.{Left, Right}
use Rattle.sq_term.specs.declared.signature.FunDecl.{FunDecl}
use Rattle.sq_term.specs.declared.signature.FunRole.TheVariants.{Sign, Check, Pk}
use Rattle.sq_term.specs.Macros.{macro_indices}
use Rattle.sq_term.specs.Measure.{count_terms}
use Rattle.sq_term.specs.Pure.{is_binder_sort}
use Rattle.sq_term.specs.Symbols.{Kind, function_number}
use Rattle.sq_term.specs.Syntax.{TsTree, free, bound, init, pred, action, TermTree, name, fun}
use Rattle.sq_term.specs.Syntax.{macro, schema, diff, le, ts_eq, idx_eq, happens, all, some, find}
use Rattle.sq_term.specs.Syntax.{TermTrees, nil, cons}
use Rattle.sq_term.specs.Systems.{ActionTree, SystemTree}
use Rattle.sq_term.specs.TreeEquality.{is_same_sort}
use Rattle.sq_typing.specs.Functions.{Next, any_function, check_of_signature, key_of_signature}
use Rattle.sq_typing.specs.Functions.{builtin_functions, is_function, stands_alone, same_role}
use Rattle.sq_typing.specs.Functions.{same_function, are_declared, begins_with, are_functions}
use Rattle.sq_typing.specs.Standing.{Subject, of_trace, of_side, suits, may_stand}
use Rattle.sq_typing.specs.Typing.{Signature, has_count_at, has_sort_at, is_index, are_indices}
use Rattle.sq_typing.specs.Typing.{is_timestamp, applies, result_sort, macro_sort, argument_sort}
use Rattle.sq_typing.specs.Typing.{has_sort, have_sorts, binds_indices}
use Rattle.sq_system.specs.Limits.{most_entries}
use Rattle.sq_system.specs.Statements.{StmtTree, EnvTree}
use Rattle.sq_system.specs.Environments.{without_declarations}
use Rattle.sq_system.specs.Sequents.{Item, item, Body, trace_body, local_body, equiv_body}
use Rattle.sq_system.specs.Sequents.{SequentTree, sequent, vars_of}
use Rattle.sq_system.specs.Sizes.{fits}
use Rattle.sq_system.specs.Scopes.{signature_of, subject_of}
use Rattle.sq_system.specs.WellFormed.{has_both_sorts, is_item}
use Rattle.sq_system.specs.WellFormed.{is_sorted_body, is_sorted, is_sequent_of, is_statement}
use Rattle.sq_system.specs.WellFormed.{is_body, are_bodies, is_well_sorted, are_numbered}
use Rattle.sq_system.specs.WellFormed.{is_environment}
use Rattle.sq_system.proofs.SystemLaws.{slice_get-append}

-- ---- tests

and_parts : (a b : Bool) → a && b ≡ true → (a ≡ true) × (b ≡ true)
and_parts true b e = (refl, e)
and_parts false b e = absurd (cc (e))

both_true : (a b : Bool) → a ≡ true → b ≡ true → a && b ≡ true
both_true a b d e = rw (d, e) refl

both_within : (a b c d : Bool) → (a ≡ true → c ≡ true) → (b ≡ true → d ≡ true) → a && b ≡ true
    → c && d ≡ true
both_within a b c d f g e = let p = and_parts a b e in both_true c d (f p.0) (g p.1)

either_within : (a b c d : Bool) → (a ≡ true → c ≡ true) → (b ≡ true → d ≡ true) → a || b ≡ true
    → c || d ≡ true
either_within true b c d f g e = rw (f refl) refl
either_within false b true d f g e = refl
either_within false b false d f g e = g e

all_within : {A : Type 0} (p q : A → Bool) → ((x : A) → p x ≡ true → q x ≡ true) → (xs : List A)
    → list_all p xs ≡ true → list_all q xs ≡ true
all_within p q f [] e = refl
all_within p q f (x ∷ xs) e =
    both_within (p x) (list_all p xs) (q x) (list_all q xs) (f x) (all_within p q f xs) e

all_and : {A : Type 0} (p : A → Bool) (xs ys : List A) → list_all p xs ≡ true → list_all p ys ≡ true
    → list_all p (xs ++ ys) ≡ true
all_and p [] ys d e = e
all_and p (x ∷ xs) ys d e = let s =
    and_parts (p x) (list_all p xs) d in
    both_true (p x) (list_all p (xs ++ ys)) s.0 (all_and p xs ys s.1 e)

pub count_before : (ms ns : List ℕ) (k n : ℕ) → has_count_at ms k n ≡ true
    → has_count_at (ms ++ ns) k n ≡ true
count_before [] ns k n e = absurd (cc (e))
count_before (m ∷ ms) ns zero n e = e
count_before (m ∷ ms) ns (suc k) n e = count_before ms ns k n e

-- ---- terms

-- h has all that g has, over the same variables
pub record Within (g h : Signature) : Type 0 where
  pub names : (k n : ℕ) → has_count_at g.names k n ≡ true → has_count_at h.names k n ≡ true
  pub funs : (f : ℕ) (d : FunDecl) → slice_get g.funs f ≡ Some d → slice_get h.funs f ≡ Some d
  pub actions : (k n : ℕ) → has_count_at g.actions k n ≡ true → has_count_at h.actions k n ≡ true
  pub schemas : g.schemas ≡ h.schemas
  pub vars : g.vars ≡ h.vars

module _ (g h : Signature) (w : Within g h) where
  pub index_within : (bs : List Sort) (i : Idx) → is_index g bs i ≡ true → is_index h bs i ≡ true
  index_within bs (Free k) e = subst (λ (vs : List Sort). has_sort_at vs k Index ≡ true) w.vars e
  index_within bs (Bound k) e = e

  indices_within : (bs : List Sort) (is : List Idx) → are_indices g bs is ≡ true
      → are_indices h bs is ≡ true
  indices_within bs [] e = refl
  indices_within bs (i ∷ is) e =
      both_within (is_index g bs i) (are_indices g bs is) (is_index h bs i) (are_indices h bs is)
      (index_within bs i) (indices_within bs is) e

  pub time_within : (bs : List Sort) (t : TsTree) → is_timestamp g bs t ≡ true
      → is_timestamp h bs t ≡ true
  time_within bs (free k) e = subst (λ (vs : List Sort). has_sort_at vs k Timestamp ≡ true) w.vars e
  time_within bs (bound k) e = e
  time_within bs init e = refl
  time_within bs (pred t) e = time_within bs t e
  time_within bs (action a is) e =
      both_within (has_count_at g.actions a (length is)) (are_indices g bs is)
      (has_count_at h.actions a (length is)) (are_indices h bs is)
      (w.actions a (length is)) (indices_within bs is) e

  function_within : (s : Sort) (i n : ℕ) (o p : Option FunDecl) (a b c d : Bool)
      → ((x : FunDecl) → o ≡ Some x → p ≡ Some x) → (a ≡ true → c ≡ true) → (b ≡ true → d ≡ true)
      → is_same_sort (result_sort o) s && (applies o i n && (a && b)) ≡ true
      → is_same_sort (result_sort p) s && (applies p i n && (c && d)) ≡ true
  function_within s i n (Some x) p a b c d same f k e =
      let parts = and_parts (is_same_sort x.result s) (applies (Some x) i n && (a && b)) e in
      let rest = and_parts (applies (Some x) i n) (a && b) parts.1 in
      rw (same x refl)
      (both_true (is_same_sort x.result s) (applies (Some x) i n && (c && d)) parts.0
      (both_true (applies (Some x) i n) (c && d) rest.0 (both_within a b c d f k rest.1)))
  function_within s i n None p a b c d same f k e = absurd (no_function (is_same_sort Index s) e)
    where
      no_function : (t : Bool) → t && (false && (a && b)) ≡ true → ⊥
      no_function true e = cc (e)
      no_function false e = cc (e)

  mutual
    pub term_within : (bs : List Sort) (s : Sort) (t : TermTree) → has_sort g bs s t ≡ true
        → has_sort h bs s t ≡ true
    term_within bs s (name n is) e =
        both_within (is_same_sort Message s) _ (is_same_sort Message s) _ (λ c. c)
        (both_within (has_count_at g.names n (length is)) (are_indices g bs is) _ _
        (w.names n (length is)) (indices_within bs is)) e
    term_within bs s (fun f is ts) e =
        function_within s (length is) (count_terms ts)
        (slice_get g.funs (function_number f)) (slice_get h.funs (function_number f))
        (are_indices g bs is) (have_sorts g bs f 0 ts) (are_indices h bs is)
        (have_sorts h bs f 0 ts)
        (w.funs (function_number f)) (indices_within bs is) (terms_within bs f 0 ts) e
    term_within bs s (macro m t) e =
        both_within (is_same_sort (macro_sort m) s) _ _ _ (λ c. c)
        (both_within (are_indices g bs (macro_indices m)) (is_timestamp g bs t) _ _
        (indices_within bs (macro_indices m)) (time_within bs t)) e
    term_within bs s (schema k) e =
        subst (λ (n : ℕ). is_same_sort Message s && nat_lt k n ≡ true) w.schemas e
    term_within bs s (diff a b) e =
        both_within (has_sort g bs s a) (has_sort g bs s b) _ _ (term_within bs s a)
        (term_within bs s b) e
    term_within bs s (le t u) e =
        both_within (is_same_sort Boolean s) _ _ _ (λ c. c)
        (both_within (is_timestamp g bs t) (is_timestamp g bs u) _ _ (time_within bs t)
        (time_within bs u)) e
    term_within bs s (ts_eq t u) e =
        both_within (is_same_sort Boolean s) _ _ _ (λ c. c)
        (both_within (is_timestamp g bs t) (is_timestamp g bs u) _ _ (time_within bs t)
        (time_within bs u)) e
    term_within bs s (idx_eq i j) e =
        both_within (is_same_sort Boolean s) _ _ _ (λ c. c)
        (both_within (is_index g bs i) (is_index g bs j) _ _ (index_within bs i)
        (index_within bs j)) e
    term_within bs s (happens t) e =
        both_within (is_same_sort Boolean s) (is_timestamp g bs t) _ _ (λ c. c) (time_within bs t) e
    term_within bs s (all b t) e =
        both_within (is_same_sort Boolean s) _ _ _ (λ c. c)
        (both_within (is_binder_sort b) (has_sort g (b ∷ bs) Boolean t) _ _ (λ c. c)
        (term_within (b ∷ bs) Boolean t)) e
    term_within bs s (some b t) e =
        both_within (is_same_sort Boolean s) _ _ _ (λ c. c)
        (both_within (is_binder_sort b) (has_sort g (b ∷ bs) Boolean t) _ _ (λ c. c)
        (term_within (b ∷ bs) Boolean t)) e
    term_within bs s (find c t a b) e =
        both_within (is_same_sort Message s) _ _ _ (λ c. c)
        (both_within (has_sort g (replicate c Index ++ bs) Boolean t) _ _ _
        (term_within (replicate c Index ++ bs) Boolean t)
        (both_within (has_sort g (replicate c Index ++ bs) Message a) (has_sort g bs Message b) _ _
        (term_within (replicate c Index ++ bs) Message a) (term_within bs Message b))) e

    terms_within : (bs : List Sort) (f : Kind) (k : ℕ) (ts : TermTrees)
        → have_sorts g bs f k ts ≡ true → have_sorts h bs f k ts ≡ true
    terms_within bs f k nil e = refl
    terms_within bs f k (cons t ts) e =
        both_within (has_sort g bs (argument_sort f k) t) (have_sorts g bs f (suc k) ts) _ _
        (term_within bs (argument_sort f k) t) (terms_within bs f (suc k) ts) e

  -- ---- sequents

  pub standing_within : (about : Subject) (r : Sort) (t : TermTree) → may_stand g about r t ≡ true
      → may_stand h about r t ≡ true
  standing_within about r t e =
      both_within (has_sort g [] r t) (suits about t) _ _ (term_within [] r t) (λ c. c) e

  sides_within : (r : Sort) (a b : TermTree) → has_both_sorts g r (item a b) ≡ true
      → has_both_sorts h r (item a b) ≡ true
  sides_within r a b e =
      both_within (may_stand g (of_side Left) r a) (may_stand g (of_side Right) r b) _ _
      (standing_within (of_side Left) r a) (standing_within (of_side Right) r b) e

  item_within : (i : Item) → is_item g i ≡ true → is_item h i ≡ true
  item_within (item a b) e =
      either_within (has_both_sorts g Message (item a b)) (has_both_sorts g Boolean (item a b)) _ _
      (sides_within Message a b) (sides_within Boolean a b) e

  items_within : (is : List Item) → list_all (is_item g) is ≡ true → list_all (is_item h) is ≡ true
  items_within is e = all_within (is_item g) (is_item h) item_within is e

  body_within : (b : Body) → is_sorted_body g b ≡ true → is_sorted_body h b ≡ true
  body_within (trace_body goal) e = standing_within of_trace Boolean goal e
  body_within (local_body side goal) e = standing_within (of_side side) Boolean goal e
  body_within (equiv_body known items) e =
      both_within (list_all (list_all (is_item g)) known) (list_all (is_item g) items) _ _
      (all_within (list_all (is_item g)) (list_all (is_item h)) items_within known)
      (items_within items) e

  sorted_within : (s : SequentTree) → is_sorted g s ≡ true → is_sorted h s ≡ true
  sorted_within (sequent vars hyps body) e =
      both_within (list_all (may_stand g (subject_of body) Boolean) hyps)
      (is_sorted_body g body) _ _
      (all_within (may_stand g (subject_of body) Boolean) (may_stand h (subject_of body) Boolean)
      (standing_within (subject_of body) Boolean) hyps)
      (body_within body) e

-- ---- environments

-- the environment with more of each
abbrev pub extended : EnvTree → List ℕ → List FunDecl → List SystemTree → List StmtTree → EnvTree
extended e names funs systems stmts =
    record {
      names = e.names ++ names;
      funs = e.funs ++ funs;
      systems = e.systems ++ systems;
      stmts = e.stmts ++ stmts;
    }

module _ (e : EnvTree) (names : List ℕ) (funs : List FunDecl) (systems : List SystemTree)
    (stmts : List StmtTree) where
  abbrev longer : EnvTree
  longer = extended e names funs systems stmts

  signature_within : (s : SystemTree) (schemas : ℕ) (vars : List Sort)
      → Within (signature_of e s schemas vars) (signature_of longer s schemas vars)
  signature_within s schemas vars = record {
    names = count_before e.names names;
    funs = slice_get-append e.funs funs;
    actions = λ k n h. h;
    schemas = refl;
    vars = refl;
  }

  sequent_within : (o p : Option SystemTree) (schemas : ℕ) (s : SequentTree)
      → ((x : SystemTree) → o ≡ Some x → p ≡ Some x)
      → is_sequent_of e o schemas s ≡ true → is_sequent_of longer p schemas s ≡ true
  sequent_within None p schemas s same f = absurd (cc (f))
  sequent_within (Some x) p schemas s same f =
      let g : Signature = signature_of e x schemas (vars_of s) in
      let h : Signature = signature_of longer x schemas (vars_of s) in
      rw (same x refl)
      (both_within (list_all is_binder_sort (vars_of s)) (is_sorted g s && fits s)
      (list_all is_binder_sort (vars_of s)) (is_sorted h s && fits s) (λ c. c)
      (both_within (is_sorted g s) (fits s) (is_sorted h s) (fits s)
      (sorted_within g h (signature_within x schemas (vars_of s)) s) (λ c. c)) f)

  -- a statement of the environment is one of the longer one
  pub statement_within : (g : StmtTree) → is_statement e g ≡ true → is_statement longer g ≡ true
  statement_within g f =
      both_within (is_sequent_of e (slice_get e.systems g.system) (length g.schemas) g.start) _ _ _
      (sequent_within (slice_get e.systems g.system) (slice_get longer.systems g.system)
      (length g.schemas) g.start (slice_get-append e.systems systems g.system)) (λ c. c) f

  bodies_within : (s : SystemTree) (a : ActionTree) → are_bodies e s a ≡ true
      → are_bodies longer s a ≡ true
  bodies_within s a f =
      let w = signature_within s 0 (replicate a.arity Index) in
      let g = signature_of e s 0 (replicate a.arity Index) in
      let h = signature_of longer s 0 (replicate a.arity Index) in
      both_within (is_body g Boolean a.cond) (is_body g Message a.output) _ _
      (both_within (has_sort g [] Boolean a.cond) (binds_indices a.cond) _ _
      (term_within g h w [] Boolean a.cond) (λ c. c))
      (both_within (has_sort g [] Message a.output) (binds_indices a.output) _ _
      (term_within g h w [] Message a.output) (λ c. c)) f

  -- so are the bodies of a system
  pub system_within : (s : SystemTree) → is_well_sorted e s ≡ true → is_well_sorted longer s ≡ true
  system_within s f =
      all_within (are_bodies e s) (are_bodies longer s) (bodies_within s) s.actions f

-- ---- functions

-- more functions behind those that stand alone and those of a signature
by_role : (c p q : Bool) (fs more : List FunDecl)
    → (are_declared check_of_signature fs ≡ true → are_declared check_of_signature more ≡ true)
    → (are_declared any_function fs ≡ true → are_declared any_function more ≡ true)
    → (if c then p && are_declared check_of_signature fs else (q && are_declared any_function fs))
    ≡ true
    → (if c then p && are_declared check_of_signature more
    else (q && are_declared any_function more))
    ≡ true
by_role true p q fs more f g k =
    both_within p (are_declared check_of_signature fs) p (are_declared check_of_signature more)
    (λ c. c) f k
by_role false p q fs more f g k =
    both_within q (are_declared any_function fs) q (are_declared any_function more) (λ c. c) g k

and_more : (n : Next) (fs gs : List FunDecl) → are_declared n fs ≡ true
    → are_declared any_function gs ≡ true → are_declared n (fs ++ gs) ≡ true
and_more any_function [] gs d e = e
and_more check_of_signature [] gs d e = absurd (cc (d))
and_more key_of_signature [] gs d e = absurd (cc (d))
and_more any_function (f ∷ fs) gs d e =
    by_role (same_role f.role Sign) (is_function f 2 Message Sign) (stands_alone f) fs (fs ++ gs)
    (λ c. and_more check_of_signature fs gs c e) (λ c. and_more any_function fs gs c e) d
and_more check_of_signature (f ∷ fs) gs d e =
    both_within (is_function f 3 Boolean Check) (are_declared key_of_signature fs) _ _ (λ c. c)
    (λ c. and_more key_of_signature fs gs c e) d
and_more key_of_signature (f ∷ fs) gs d e =
    both_within (is_function f 1 Message Pk) (are_declared any_function fs) _ _ (λ c. c)
    (λ c. and_more any_function fs gs c e) d

begins_and : (ds fs gs : List FunDecl) → begins_with ds fs ≡ true
    → are_declared any_function gs ≡ true → begins_with ds (fs ++ gs) ≡ true
begins_and [] fs gs d e = and_more any_function fs gs d e
begins_and (x ∷ ds) [] gs d e = absurd (cc (d))
begins_and (x ∷ ds) (f ∷ fs) gs d e =
    both_within (same_function x f) (begins_with ds fs) _ _ (λ c. c)
    (λ c. begins_and ds fs gs c e) d

-- ---- what an environment keeps

-- its parts
pub environment_parts : (e : EnvTree) → is_environment e ≡ true
    → (are_functions e.funs ≡ true) × (list_all (is_well_sorted e) e.systems ≡ true)
    × (list_all (is_statement e) e.stmts ≡ true)
unfolding is_environment
environment_parts e f =
    let n = and_parts (are_numbered e) _ f in
    let p = and_parts (are_functions e.funs) _ n.1 in
    let q = and_parts (list_all (is_well_sorted e) e.systems)
    (list_all (is_statement e) e.stmts) p.1 in
    (p.0, q.0, q.1)

pub environment_numbered : (e : EnvTree) → is_environment e ≡ true → are_numbered e ≡ true
unfolding is_environment
environment_numbered e f = (and_parts (are_numbered e) _ f).0

pub environment_of_parts : (e : EnvTree) → are_numbered e ≡ true → are_functions e.funs ≡ true
    → list_all (is_well_sorted e) e.systems ≡ true → list_all (is_statement e) e.stmts ≡ true
    → is_environment e ≡ true
unfolding is_environment
environment_of_parts e n f s g =
    both_true (are_numbered e) _ n
    (both_true (are_functions e.funs) _ f
    (both_true (list_all (is_well_sorted e) e.systems) (list_all (is_statement e) e.stmts) s g))

-- An environment with more names, declared functions, systems and statements, each of them
-- well-formed in the longer environment, is one, if it is not too long.
pub environment_extended : (e : EnvTree) (names : List ℕ) (funs : List FunDecl)
    (systems : List SystemTree) (stmts : List StmtTree)
    → are_numbered (extended e names funs systems stmts) ≡ true
    → is_environment e ≡ true → are_declared any_function funs ≡ true
    → list_all (is_well_sorted (extended e names funs systems stmts)) systems ≡ true
    → list_all (is_statement (extended e names funs systems stmts)) stmts ≡ true
    → is_environment (extended e names funs systems stmts) ≡ true
environment_extended e names funs systems stmts n kept f s g =
    let parts = environment_parts e kept in
    let longer = extended e names funs systems stmts in
    environment_of_parts longer n (begins_and builtin_functions e.funs funs parts.0 f)
    (all_and (is_well_sorted longer) e.systems systems
    (all_within (is_well_sorted e) (is_well_sorted longer)
    (system_within e names funs systems stmts) e.systems parts.1) s)
    (all_and (is_statement longer) e.stmts stmts
    (all_within (is_statement e) (is_statement longer)
    (statement_within e names funs systems stmts) e.stmts parts.2) g)

nothing_more : {A : Type 0} (xs : List A) → xs ++ [] ≡ xs
nothing_more [] = refl
nothing_more (x ∷ xs) = ap (λ (ys : List _). x ∷ ys) (nothing_more xs)

fewer : (n m : ℕ) → n ≤ m → nat_le n m ≡ true
fewer n m h = grind (arith, nat_tests)

at_most : (n m : ℕ) → nat_le n m ≡ true → n ≤ m
at_most n m h = grind (arith, nat_tests)

-- room for more in one of the lists
room_for : {A : Type 0} (xs ys : List A) (m : ℕ) → length xs + length ys ≤ m
    → nat_le (length (xs ++ ys)) m ≡ true
room_for xs ys m h = fewer (length (xs ++ ys)) m (omega (arith, length-append xs ys))

module _ (e : EnvTree) (kept : is_environment e ≡ true) where
  no_more : (nat_le (length (e.names ++ [])) most_entries ≡ true)
      × (nat_le (length (e.funs ++ [])) most_entries ≡ true)
      × (nat_le (length (e.systems ++ [])) most_entries ≡ true)
      × (nat_le (length (e.stmts ++ [])) most_entries ≡ true)
  no_more =
      let n = and_parts (nat_le (length e.names) most_entries) _ (environment_numbered e kept) in
      let f = and_parts (nat_le (length e.funs) most_entries) _ n.1 in
      let s = and_parts (nat_le (length e.systems) most_entries) _ f.1 in
      (as_before e.names n.0, as_before e.funs f.0, as_before e.systems s.0, as_before e.stmts s.1)
    where
      as_before : {A : Type 0} (xs : List A) → nat_le (length xs) most_entries ≡ true
          → nat_le (length (xs ++ [])) most_entries ≡ true
      as_before xs h =
          subst (λ ys. nat_le (length ys) most_entries ≡ true) (sym (nothing_more xs)) h

  four : (a b c d : Bool) → a ≡ true → b ≡ true → c ≡ true → d ≡ true
      → (a && (b && (c && d))) ≡ true
  four a b c d p q r s =
      both_true a (b && (c && d)) p (both_true b (c && d) q (both_true c d r s))

  pub environment_names : (ns : List ℕ) → length e.names + length ns ≤ most_entries
      → is_environment (record e { names = e.names ++ ns }) ≡ true
  environment_names ns room =
      subst (λ (d : EnvTree). is_environment d ≡ true)
      (λ i. record {
        names = e.names ++ ns;
        funs = nothing_more e.funs i;
        systems = nothing_more e.systems i;
        stmts = nothing_more e.stmts i;
      })
      (environment_extended e ns [] [] []
      (four _ _ _ _ (room_for e.names ns most_entries room) no_more.1 no_more.2 no_more.3)
      kept refl refl refl)

  pub environment_functions : (fs : List FunDecl) → length e.funs + length fs ≤ most_entries
      → are_declared any_function fs ≡ true
      → is_environment (record e { funs = e.funs ++ fs }) ≡ true
  environment_functions fs room f =
      subst (λ (d : EnvTree). is_environment d ≡ true)
      (λ i. record {
        names = nothing_more e.names i;
        funs = e.funs ++ fs;
        systems = nothing_more e.systems i;
        stmts = nothing_more e.stmts i;
      })
      (environment_extended e [] fs [] []
      (four _ _ _ _ no_more.0 (room_for e.funs fs most_entries room) no_more.2 no_more.3)
      kept f refl refl)

  pub environment_system : (s : SystemTree) → length e.systems + 1 ≤ most_entries
      → is_well_sorted e s ≡ true
      → is_environment (record e { systems = e.systems ++ s ∷ [] }) ≡ true
  environment_system s room f =
      subst (λ (d : EnvTree). is_environment d ≡ true)
      (λ i. record {
        names = nothing_more e.names i;
        funs = nothing_more e.funs i;
        systems = e.systems ++ s ∷ [];
        stmts = nothing_more e.stmts i;
      })
      (environment_extended e [] [] (s ∷ []) []
      (four _ _ _ _ no_more.0 no_more.1 (room_for e.systems (s ∷ []) most_entries room) no_more.3)
      kept refl (both_true _ true (system_within e [] [] (s ∷ []) [] s f) refl) refl)

  pub environment_statement : (g : StmtTree) → length e.stmts + 1 ≤ most_entries
      → is_statement e g ≡ true
      → is_environment (record e { stmts = e.stmts ++ g ∷ [] }) ≡ true
  environment_statement g room f =
      subst (λ (d : EnvTree). is_environment d ≡ true)
      (λ i. record {
        names = nothing_more e.names i;
        funs = nothing_more e.funs i;
        systems = nothing_more e.systems i;
        stmts = e.stmts ++ g ∷ [];
      })
      (environment_extended e [] [] [] (g ∷ [])
      (four _ _ _ _ no_more.0 no_more.1 no_more.2 (room_for e.stmts (g ∷ []) most_entries room))
      kept refl refl (both_true _ true (statement_within e [] [] [] (g ∷ []) g f) refl))

-- the environment without declarations
pub without_declarations_is : is_environment without_declarations ≡ true
unfolding is_environment
without_declarations_is = refl
