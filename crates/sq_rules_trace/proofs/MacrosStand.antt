-- What the rows of macros and of induction ask and assume may stand in the sequent.
use Rattle.std.proofs.Common.{◌≡◌, refl, sym, ap, ◌∙◌, subst, ℕ, zero, suc, ◌+◌, ◌-◌, List, []}
use Rattle.std.proofs.Common.{◌∷◌, ◌++◌, length, map, Option, Some, None, Bool, true, false, arith}
use Rattle.std.specs.Prelude.{◌==◌, ◌&&◌, ◌||◌, nat_le, nat_lt, slice_get, replicate, unwrap_or}
use Rattle.std.specs.Prelude.{if◌then◌else◌, not}
use Rattle.std.proofs.lemmas.Bool.{eqb-true}
use Rattle.std.proofs.lemmas.Bool.Decides.{nat_tests}
use Rattle.sq_base.specs.declared.sort.Sort.{Sort}
use Rattle.sq_base.specs.declared.sort.Sort.TheVariants.{Message, Boolean, Index, Timestamp}
use Rattle.sq_term.specs.declared.term.Idx.{Idx}
use Rattle.sq_term.specs.declared.term.Idx.TheVariants.{Free, Bound}
use Rattle.sq_term.specs.declared.term.Macro.{Macro}
use Rattle.sq_term.specs.declared.term.Macro.TheVariants.{Input, Output, Cond, Exec, Frame}
use Rattle.sq_term.specs.declared.term.Side.{Side}
use Rattle.sq_term.specs.declared.term.Side.TheVariants.{Left, Right, Both}
use Rattle.sq_term.specs.Arguments.{ArgTree, an_index}
use Rattle.sq_term.specs.Formulas.{unary, negation, both, implies, equal, equivalent, empty, pair}
use Rattle.sq_term.specs.Formulas.{conditional, of_bool}
use Rattle.sq_term.specs.Pure.{is_pure}
use Rattle.sq_term.specs.Builtins.{arguments}
use Rattle.sq_term.specs.Measure.{count_terms}
use Rattle.sq_term.specs.Symbols as kind
use Rattle.sq_term.specs.Symbols.{Kind}
use Rattle.sq_term.specs.Syntax.{TsTree, free, bound, init, pred, action, TermTree, macro, le}
use Rattle.sq_term.specs.Syntax.{ts_eq, happens, all, fun, TermTrees, nil, cons}
use Rattle.sq_term.specs.Systems.{SystemTree, ActionTree, action_at}
use Rattle.sq_term.proofs.BoolTests.{and_split, and_both}
use Rattle.sq_term.proofs.SameTrees.{is_same_sort-decides}
use Rattle.sq_typing.specs.Diffs.{holds_diff}
use Rattle.sq_typing.specs.Functions.{builtin_function, are_functions}
use Rattle.sq_typing.specs.Standing.{Subject, of_trace, of_side, suits, may_stand}
use Rattle.sq_typing.specs.Typing.{Signature, has_sort_at, is_index, are_indices, is_timestamp}
use Rattle.sq_typing.specs.Typing.{macro_sort, has_sort, have_sorts}
use Rattle.sq_typing.proofs.Formulas.{stands, stands-from, IsBuiltin, application-sorted}
use Rattle.sq_typing.proofs.Formulas.{both-stands}
use Rattle.sq_typing.proofs.Formulas.{equivalent-stands, equal-stands, negation-stands}
use Rattle.sq_subst.specs.Leaves.{map_term}
use Rattle.sq_subst.specs.Projection.{projected}
use Rattle.sq_subst.specs.Renaming.{close_index, closing, closed_over}
use Rattle.sq_subst.specs.Substitution.{index_or, time_or, past, put_index, substitution}
use Rattle.sq_system.specs.Scopes.{signature_of}
use Rattle.sq_system.specs.Statements.{EnvTree}
use Rattle.sq_formula.proofs.KeptParts.{pure_kept, no_diff, or_neither}
use Rattle.sq_formula.proofs.KeptSorts.{with_variables, no_some, sort_kept}
use Rattle.sq_formula.proofs.SideSorts.{side-stands}
use Rattle.sq_rules_trace.specs.Induction.{earlier}
use Rattle.sq_rules_trace.specs.Unfolding.{has_value, initial, undefined, body_at, is_behind_init}
use Rattle.sq_rules_trace.proofs.FactsStand.{index_anywhere}

nothing_so : {P : Type 0} → false ≡ true → P
nothing_so e = absurd (let f : false ≡ true = e in cc)

-- ---- the goal at an earlier time

module _ (g : Signature) (ok : are_functions g.funs ≡ true) (v : ℕ)
    (sort : has_sort_at g.vars v Timestamp ≡ true) where
  -- behind the sorts of m binders stands that of the time
  record Behind (m : ℕ) (bs cs : List Sort) : Type 0 where
    same : (k : ℕ) (s : Sort) → has_sort_at bs k s ≡ true → has_sort_at cs k s ≡ true
    last : has_sort_at cs m Timestamp ≡ true

  deeper : (m : ℕ) (bs cs : List Sort) (b : Sort) → Behind m bs cs
      → Behind (m + 1) (b ∷ bs) (b ∷ cs)
  deeper m bs cs b r = record {
    same = at;
    last =
        let e : suc m ≡ m + 1 = omega arith in
        subst (λ n. has_sort_at (b ∷ cs) n Timestamp ≡ true) e r.last;
  }
    where
      at : (k : ℕ) (s : Sort) → has_sort_at (b ∷ bs) k s ≡ true
          → has_sort_at (b ∷ cs) k s ≡ true
      at zero s h = h
      at (suc k) s h = r.same k s h

  one_sort : (xs : List Sort) (k : ℕ) → has_sort_at xs k Timestamp ≡ true
      → has_sort_at xs k Index ≡ true → true ≡ false
  one_sort [] k h i = nothing_so h
  one_sort (x ∷ xs) zero h i =
      let p : x ≡ Timestamp = (is_same_sort-decides x Timestamp).0 h in
      let q : x ≡ Index = (is_same_sort-decides x Index).0 i in
      let z : Timestamp ≡ Index = sym p ∙ q in absurd (cc)
  one_sort (x ∷ xs) (suc k) h i = one_sort xs k h i

  index_closes : (m : ℕ) (bs cs : List Sort) (i : Idx) → Behind m bs cs → is_index g bs i ≡ true
      → is_index g cs (close_index v m i) ≡ true
  index_closes m bs cs (Free k) r h = by_test (k == v) refl
    where
      by_test : (b : Bool) → (k == v) ≡ b
          → is_index g cs (if b then Bound m else Free k) ≡ true
      by_test true e =
          let z : true ≡ false =
          one_sort g.vars v sort (subst (λ j. has_sort_at g.vars j Index ≡ true) (eqb-true k v e) h)
          in absurd (cc)
      by_test false e = h
  index_closes m bs cs (Bound k) r h = r.same k Index h

  time_closes : (m k : ℕ) (bs cs : List Sort) → Behind m bs cs
      → has_sort_at g.vars k Timestamp ≡ true
      → is_timestamp g cs (if k == v then bound m else free k) ≡ true
  time_closes m k bs cs r h = by_test (k == v)
    where
      by_test : (b : Bool) → is_timestamp g cs (if b then bound m else free k) ≡ true
      by_test true = r.last
      by_test false = h

  none_within : Behind 0 [] (Timestamp ∷ [])
  none_within = record { same = λ k s h. nothing_so h; last = refl }

  closed_sorted : (t : TermTree) → has_sort g [] Boolean t ≡ true
      → has_sort g (Timestamp ∷ []) Boolean (closed_over v t) ≡ true
  closed_sorted t h =
      sort_kept (closing v) g g.schemas g.vars Behind deeper index_closes time_closes
      (λ m k bs cs r q. r.same k Timestamp q) (λ m k bs cs r q. q)
      (λ m bs cs t u r q p. no_some u p) (λ m bs cs s t u r q p. no_some u p) t 0 []
      (Timestamp ∷ []) Boolean none_within h

  abbrev before : TermTree
  before = both (le (bound 0) (free v)) (negation (ts_eq (bound 0) (free v)))

  abbrev bs : List Sort
  bs = Timestamp ∷ []

  before_sorted : has_sort g bs Boolean before ≡ true
  before_sorted =
      application-sorted g ok kind.conjunction bs
      (cons (le (bound 0) (free v)) (cons (negation (ts_eq (bound 0) (free v))) nil)) refl refl
      (and_both (has_sort g bs Boolean (le (bound 0) (free v))) _ sort
      (and_both (has_sort g bs Boolean (negation (ts_eq (bound 0) (free v)))) true
      (application-sorted g ok kind.negation bs (cons (ts_eq (bound 0) (free v)) nil) refl refl
      (and_both (has_sort g bs Boolean (ts_eq (bound 0) (free v))) true sort refl))
      refl))

  earlier_sorted : (t : TermTree) → has_sort g [] Boolean t ≡ true
      → has_sort g [] Boolean (earlier v t) ≡ true
  earlier_sorted t h =
      application-sorted g ok kind.implication bs (cons before (cons (closed_over v t) nil)) refl
      refl
      (and_both (has_sort g bs Boolean before) _ before_sorted
      (and_both (has_sort g bs Boolean (closed_over v t)) true (closed_sorted t h) refl))

  pub earlier_stands : (about : Subject) (t : TermTree) → may_stand g about Boolean t ≡ true
      → may_stand g about Boolean (earlier v t) ≡ true
  earlier_stands about t h =
      stands-from g g about Boolean Boolean t (earlier v t) (earlier_sorted t)
      (λ p. and_both (is_pure (closed_over v t)) true
      (pure_kept (closing v) (λ u. refl) t 0 p) refl)
      (λ d. or_neither (holds_diff (closed_over v t)) false
      (no_diff (closing v) (λ m k. refl) (λ t u q. no_some u q) t 0 (λ q. d)) refl) h

-- ---- an action's body

module _ (g : Signature) (is : List Idx) (sorted : are_indices g [] is ≡ true) (n : ℕ)
    (many : length is ≡ n) where
  abbrev args : List ArgTree
  args = map an_index is

  -- the signature of a body with these indices
  abbrev pub own : Signature
  own = record {
    names = g.names;
    funs = g.funs;
    actions = g.actions;
    schemas = 0;
    vars = replicate n Index;
  }

  no_outer : (b : Bool) (k : ℕ) → (if b then slice_get {X = ArgTree} [] k else None) ≡ None
  no_outer true k = refl
  no_outer false k = refl

  -- the argument for variable k
  record Given (o : Option ArgTree) (cs : List Sort) : Type 0 where
    index : Idx
    there : o ≡ Some (an_index index)
    fits : is_index g cs index ≡ true

  given : (js : List Idx) (k c : ℕ) (cs : List Sort) → are_indices g [] js ≡ true
      → length js ≡ c → has_sort_at (replicate c Index) k Index ≡ true
      → Given (slice_get (map an_index js) k) cs
  given [] k zero cs a l h = nothing_so h
  given [] k (suc c) cs a l h = absurd (omega (arith, l))
  given (j ∷ js) k zero cs a l h = absurd (omega (arith, l))
  given (j ∷ js) zero (suc c) cs a l h =
      record {
        index = j;
        there = refl;
        fits = index_anywhere g j cs (and_split (is_index g [] j) (are_indices g [] js) a).0;
      }
  given (j ∷ js) (suc k) (suc c) cs a l h =
      given js k c cs (and_split (is_index g [] j) (are_indices g [] js) a).1 (omega (arith, l)) h

  no_time : {P : Type 0} (c k : ℕ) → has_sort_at (replicate c Index) k Timestamp ≡ true → P
  no_time zero k h = nothing_so h
  no_time (suc c) zero h = nothing_so h
  no_time (suc c) (suc k) h = no_time c k h

  index_put : (m : ℕ) (bs cs : List Sort) (i : Idx) → bs ≡ cs → is_index own bs i ≡ true
      → is_index g cs (put_index args [] m i) ≡ true
  index_put m bs cs (Free k) r h =
      let q : Given (slice_get args k) cs = given is k n cs sorted many h in
      subst (λ o. is_index g cs (index_or o (Free k)) ≡ true) (sym q.there) q.fits
  index_put m bs cs (Bound k) r h =
      subst (λ o. is_index g cs (index_or o (Bound k)) ≡ true)
      (sym (no_outer (nat_le m k) (k - m)))
      (subst (λ xs. has_sort_at xs k Index ≡ true) r h)

  bound_put : (m k : ℕ) (bs cs : List Sort) → bs ≡ cs → has_sort_at bs k Timestamp ≡ true
      → is_timestamp g cs (time_or (past [] m k) (bound k)) ≡ true
  bound_put m k bs cs r h =
      subst (λ o. is_timestamp g cs (time_or o (bound k)) ≡ true)
      (sym (no_outer (nat_le m k) (k - m)))
      (subst (λ xs. has_sort_at xs k Timestamp ≡ true) r h)

  none_below : {P : Type 0} (k : ℕ) → nat_lt k 0 ≡ true → P
  none_below k h = absurd (grind (arith, nat_tests))

  put_sorted : (s : Sort) (t : TermTree) → has_sort own [] s t ≡ true
      → has_sort g [] s (map_term (substitution args [] []) 0 t) ≡ true
  put_sorted s t h =
      sort_kept (substitution args [] []) own g.schemas g.vars (λ m bs cs. bs ≡ cs)
      (λ m bs cs b r. ap (λ xs. b ∷ xs) r) index_put (λ m k bs cs r q. no_time n k q) bound_put
      (λ m k bs cs r q. none_below k q) (λ m bs cs t u r q p. no_some u p)
      (λ m bs cs s t u r q p. no_some u p) t 0 [] [] s refl h

  pub body_stands : (side : Side) (s : Sort) (body : TermTree) → has_sort own [] s body ≡ true
      → may_stand g (of_side side) s (body_at side is body) ≡ true
  body_stands side s body h =
      stands-from own g (of_side side) s s (projected side body) (body_at side is body)
      (put_sorted s (projected side body))
      (λ p. pure_kept (substitution args [] []) (λ u. refl) (projected side body) 0 p)
      (λ d. no_diff (substitution args [] []) (λ m k. refl) (λ t u q. no_some u q)
      (projected side body) 0 (λ q. d))
      (side-stands own side s body (stands own (of_side Both) s body h refl))

-- ---- macros

module _ (g : Signature) (ok : are_functions g.funs ≡ true) (side : Side) where
  abbrev Stand : Sort → TermTree → Type 0
  Stand s t = may_stand g (of_side side) s t ≡ true

  abbrev Time : TsTree → Type 0
  Time t = is_timestamp g [] t ≡ true

  suits_all : (who : Side) (F : TermTree) → holds_diff F ≡ false → suits (of_side who) F ≡ true
  suits_all Both F d = refl
  suits_all Left F d = ap not d
  suits_all Right F d = ap not d

  plain : (s : Sort) (t : TermTree) → has_sort g [] s t ≡ true → holds_diff t ≡ false → Stand s t
  plain s t h d = stands g (of_side side) s t h (suits_all side t d)

  pub empty_stands : Stand Message empty
  empty_stands =
      plain Message empty (application-sorted g ok kind.empty [] nil refl refl refl) refl

  -- what a macro is said to be
  pub value_stands : (m : Macro) (t : TsTree) (u : TermTree) → Time t → Stand (macro_sort m) u
      → Stand Boolean (has_value m t u)
  value_stands Input t u h k =
      equal-stands g ok side (macro Input t) u (plain Message (macro Input t) h refl) k
  value_stands Output t u h k =
      equal-stands g ok side (macro Output t) u (plain Message (macro Output t) h refl) k
  value_stands Cond t u h k =
      equivalent-stands g ok (of_side side) (macro Cond t) u
      (plain Boolean (macro Cond t) h refl) k
  value_stands Exec t u h k =
      equivalent-stands g ok (of_side side) (macro Exec t) u
      (plain Boolean (macro Exec t) h refl) k
  value_stands Frame t u h k =
      equal-stands g ok side (macro Frame t) u (plain Message (macro Frame t) h refl) k

  pub initial_stands : (m : Macro) → Stand Boolean (initial m)
  initial_stands Input = value_stands Input init empty refl empty_stands
  initial_stands Output = value_stands Output init empty refl empty_stands
  initial_stands Cond = plain Boolean (macro Cond init) refl refl
  initial_stands Exec = plain Boolean (macro Exec init) refl refl
  initial_stands Frame = value_stands Frame init empty refl empty_stands

  pub undefined_stands : (m : Macro) (t : TsTree) → Time t → Stand Boolean (undefined m t)
  undefined_stands Input t h = value_stands Input t empty h empty_stands
  undefined_stands Output t h = value_stands Output t empty h empty_stands
  undefined_stands Cond t h =
      negation-stands g ok (of_side side) (macro Cond t) (plain Boolean (macro Cond t) h refl)
  undefined_stands Exec t h =
      negation-stands g ok (of_side side) (macro Exec t) (plain Boolean (macro Exec t) h refl)
  undefined_stands Frame t h = value_stands Frame t empty h empty_stands

  pub happens_stands : (t : TsTree) → Time t → Stand Boolean (happens t)
  happens_stands t h = plain Boolean (happens t) h refl

  pub nowhere_stands : (t : TsTree) → Time t → Stand Boolean (negation (happens t))
  nowhere_stands t h = negation-stands g ok (of_side side) (happens t) (happens_stands t h)

  pub behind_stands : (t : TsTree) → Time t → Stand Boolean (is_behind_init t)
  behind_stands t h =
      both-stands g ok (of_side side) (happens t) (negation (ts_eq t init)) (happens_stands t h)
      (negation-stands g ok (of_side side) (ts_eq t init)
      (plain Boolean (ts_eq t init) (and_both (is_timestamp g [] t) true h refl) refl))

  -- ---- what is made of what stands before

  applied : (f : Kind) (ts : TermTrees) → IsBuiltin f → count_terms ts ≡ arguments f
      → have_sorts g [] f 0 ts ≡ true
      → has_sort g [] (builtin_function f).result (fun f [] ts) ≡ true
  applied f ts e n h = application-sorted g ok f [] ts e n h

  pub input_stands : (t : TsTree) → Time t
      → Stand Message (unary kind.attacker (macro Frame (pred t)))
  input_stands t h =
      plain Message (unary kind.attacker (macro Frame (pred t)))
      (applied kind.attacker (cons (macro Frame (pred t)) nil) refl refl
      (and_both (has_sort g [] Message (macro Frame (pred t))) true h refl)) refl

  pub exec_stands : (t : TsTree) → Time t
      → Stand Boolean (both (macro Exec (pred t)) (macro Cond t))
  exec_stands t h =
      both-stands g ok (of_side side) (macro Exec (pred t)) (macro Cond t)
      (plain Boolean (macro Exec (pred t)) h refl) (plain Boolean (macro Cond t) h refl)

  abbrev sent : TsTree → TermTree
  sent t = conditional (macro Exec t) (macro Output t) empty

  sent_sorted : (t : TsTree) → Time t → has_sort g [] Message (sent t) ≡ true
  sent_sorted t h =
      applied kind.conditional (cons (macro Exec t) (cons (macro Output t) (cons empty nil))) refl
      refl
      (and_both (has_sort g [] Boolean (macro Exec t)) _ h
      (and_both (has_sort g [] Message (macro Output t)) _ h
      (and_both (has_sort g [] Message empty) true
      (applied kind.empty nil refl refl refl) refl)))

  test_sorted : (t : TsTree) → Time t → has_sort g [] Message (of_bool (macro Exec t)) ≡ true
  test_sorted t h =
      applied kind.of_bool (cons (macro Exec t) nil) refl refl
      (and_both (has_sort g [] Boolean (macro Exec t)) true h refl)

  pub frame_stands : (t : TsTree) → Time t
      → Stand Message (pair (macro Frame (pred t)) (pair (of_bool (macro Exec t)) (sent t)))
  frame_stands t h =
      plain Message (pair (macro Frame (pred t)) (pair (of_bool (macro Exec t)) (sent t)))
      (applied kind.pairing
      (cons (macro Frame (pred t)) (cons (pair (of_bool (macro Exec t)) (sent t)) nil)) refl refl
      (and_both (has_sort g [] Message (macro Frame (pred t))) _ h
      (and_both (has_sort g [] Message (pair (of_bool (macro Exec t)) (sent t))) true
      (applied kind.pairing (cons (of_bool (macro Exec t)) (cons (sent t) nil)) refl refl
      (and_both (has_sort g [] Message (of_bool (macro Exec t))) _ (test_sorted t h)
      (and_both (has_sort g [] Message (sent t)) true (sent_sorted t h) refl))) refl))) refl
