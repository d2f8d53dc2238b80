-- What terms mean where one timestamp variable has another value.
use Rattle.std.proofs.Common.{◌≡◌, ◌≢◌, refl, sym, ap, ◌∙◌, subst, ℕ, zero, suc, ◌+◌, ◌<◌, List, []}
use Rattle.std.proofs.Common.{◌∷◌, map, Option, Some, None, Bool, true, false, arith}
use Rattle.std.specs.Prelude.{◌==◌, ◌&&◌, get_or, not, nat_lt, if◌then◌else◌}
use Rattle.std.proofs.lemmas.Bool.{eqb-true}
use Rattle.std.proofs.lemmas.Bool.Decides.{nat_tests}
use Rattle.sq_base.specs.declared.sort.Sort.{Sort}
use Rattle.sq_base.specs.declared.sort.Sort.TheVariants.{Timestamp}
use Rattle.sq_term.specs.declared.model.Value.{Value}
use Rattle.sq_term.specs.declared.model.Value.TheVariants.{Time as Moment}
use Rattle.sq_term.specs.declared.term.Idx.{Idx}
use Rattle.sq_term.specs.declared.term.Idx.TheVariants.{Free, Bound}
use Rattle.sq_term.specs.Closed.{idx_closed, is_closed}
use Rattle.sq_term.specs.Ground.{atom}
use Rattle.sq_term.specs.Lists.{Member, here, there}
use Rattle.sq_term.specs.Syntax.{TsTree, free, bound, init, pred, action, TermTree, name, fun}
use Rattle.sq_term.specs.Syntax.{macro, schema, diff, le, ts_eq, idx_eq, happens, all, some, find}
use Rattle.sq_term.specs.Syntax.{TermTrees, nil, cons}
use Rattle.sq_term.specs.Translate.{World, Times, Assignment, number_of, time_of, idx_value}
use Rattle.sq_term.specs.Translate.{ts_value}
use Rattle.sq_term.specs.Translate.{domain, translate}
use Rattle.sq_term.proofs.BoolTests.{and_split, and_both}
use Rattle.sq_term.proofs.SameTrees.{is_same_sort-decides}
use Rattle.sq_typing.specs.Typing.{has_sort_at}
use Rattle.sq_subst.specs.Laws.{at_no_time}
use Rattle.sq_subst.specs.Leaves.{keeping}
use Rattle.sq_subst.specs.Renaming.{close_index, closing, closed_over}
use Rattle.sq_subst.specs.Tests.{indices_pass, ts_passes, passes, all_pass}
use Rattle.sq_subst.proofs.Fusion.{kept}
use Rattle.sq_subst.proofs.LeavesLaw.{leaves_law}
use Rattle.sq_subst.proofs.TestLaws.{closed_tests, no_tests, is_closed-passes, passes_none}
use Rattle.sq_ground.specs.Holding.{Fits}
use Rattle.sq_rules_trace.specs.Induction.{time_is_free_of, is_free_of, are_free_of}

abbrev nothing : Value
nothing = Moment None

-- ---- one value of a list

abbrev pub put : ℕ → Value → List Value → List Value
put k x [] = []
put zero x (y ∷ ys) = x ∷ ys
put (suc k) x (y ∷ ys) = y ∷ put k x ys

pub put_other : (k : ℕ) (x : Value) (ys : List Value) (j : ℕ) → j ≢ k
    → get_or (put k x ys) j nothing ≡ get_or ys j nothing
put_other k x [] j d = refl
put_other zero x (y ∷ ys) zero d = absurd (d refl)
put_other zero x (y ∷ ys) (suc j) d = refl
put_other (suc k) x (y ∷ ys) zero d = refl
put_other (suc k) x (y ∷ ys) (suc j) d = put_other k x ys j (λ e. d (ap suc e))

put_same : (k : ℕ) (ys : List Value) → put k (get_or ys k nothing) ys ≡ ys
put_same k [] = refl
put_same zero (y ∷ ys) = refl
put_same (suc k) (y ∷ ys) = ap (λ zs. y ∷ zs) (put_same k ys)

no_place : {P : Type 0} → false ≡ true → P
no_place e = absurd (let f : false ≡ true = e in cc)

pub put_here : (w : Times) (vars : List Sort) (ys : List Value) (k : ℕ) (x : Value) → Fits w vars ys
    → has_sort_at vars k Timestamp ≡ true → get_or (put k x ys) k nothing ≡ x
put_here w [] ys k x f h = no_place h
put_here w (s ∷ ss) [] k x f h = absurd f
put_here w (s ∷ ss) (y ∷ ys) zero x f h = refl
put_here w (s ∷ ss) (y ∷ ys) (suc k) x f h = put_here w ss ys k x f.1 h

pub put_fits : (w : Times) (vars : List Sort) (ys : List Value) (k : ℕ) (x : Value) → Fits w vars ys
    → has_sort_at vars k Timestamp ≡ true → Member (domain w Timestamp) x
    → Fits w vars (put k x ys)
put_fits w [] ys k x f h i = no_place h
put_fits w (s ∷ ss) [] k x f h i = absurd f
put_fits w (s ∷ ss) (y ∷ ys) zero x f h i =
    (subst (λ r. Member (domain w r) x) (sym ((is_same_sort-decides s Timestamp).0 h)) i, f.1)
put_fits w (s ∷ ss) (y ∷ ys) (suc k) x f h i = (f.0, put_fits w ss ys k x f.1 h i)

pub value_there : (w : Times) (vars : List Sort) (ys : List Value) (k : ℕ) → Fits w vars ys
    → has_sort_at vars k Timestamp ≡ true → Member (domain w Timestamp) (get_or ys k nothing)
value_there w [] ys k f h = no_place h
value_there w (s ∷ ss) [] k f h = absurd f
value_there w (s ∷ ss) (y ∷ ys) zero f h =
    subst (λ r. Member (domain w r) y) ((is_same_sort-decides s Timestamp).0 h) f.0
value_there w (s ∷ ss) (y ∷ ys) (suc k) f h = value_there w ss ys k f.1 h

-- the assignment where variable k has this value
abbrev pub at_time : ℕ → Assignment → Value → Assignment
at_time k a x = record { variables = put k x a.variables; schemas = a.schemas }

pub at_own_time : (k : ℕ) (a : Assignment) → at_time k a (get_or a.variables k nothing) ≡ a
at_own_time k a =
    ap (λ vs. record { variables = vs; schemas = a.schemas }) (put_same k a.variables)

no_some : {A B : Type 0} (u : A) → None ≡ Some u → B
no_some u e = absurd (let f : None ≡ Some u = e in cc)

number_differs : (j k : ℕ) → (j == k) ≡ false → j ≢ k
number_differs j k e = λ f. absurd (grind (arith, nat_tests))

-- ---- the variable stands at no place

two : (a b c d : Bool) → (a ≡ true → c ≡ true) → (b ≡ true → d ≡ true) → (a && b) ≡ true
    → (c && d) ≡ true
two a b c d f g h = let p = and_split a b h in and_both c d (f p.0) (g p.1)

module _ (v : ℕ) where
  indices_pass_all : (m : ℕ) (is : List Idx) → indices_pass (at_no_time v) m is ≡ true
  indices_pass_all m [] = refl
  indices_pass_all m (i ∷ is) = indices_pass_all m is

  time_passes : (m : ℕ) (t : TsTree) → time_is_free_of v t ≡ true
      → ts_passes (at_no_time v) m t ≡ true
  time_passes m (free k) h = h
  time_passes m (bound k) h = refl
  time_passes m init h = refl
  time_passes m (pred t) h = time_passes m t h
  time_passes m (action n is) h = indices_pass_all m is

  mutual
    term_passes : (m : ℕ) (t : TermTree) → is_free_of v t ≡ true
        → passes (at_no_time v) m t ≡ true
    term_passes m (name n is) h = indices_pass_all m is
    term_passes m (fun f is ts) h =
        and_both (indices_pass (at_no_time v) m is) (all_pass (at_no_time v) m ts)
        (indices_pass_all m is) (terms_pass m ts h)
    term_passes m (macro x t) h = time_passes m t h
    term_passes m (schema k) h = refl
    term_passes m (diff a b) h =
        two (is_free_of v a) (is_free_of v b) (passes (at_no_time v) m a)
        (passes (at_no_time v) m b) (term_passes m a) (term_passes m b) h
    term_passes m (le t s) h =
        two (time_is_free_of v t) (time_is_free_of v s) (ts_passes (at_no_time v) m t)
        (ts_passes (at_no_time v) m s) (time_passes m t) (time_passes m s) h
    term_passes m (ts_eq t s) h =
        two (time_is_free_of v t) (time_is_free_of v s) (ts_passes (at_no_time v) m t)
        (ts_passes (at_no_time v) m s) (time_passes m t) (time_passes m s) h
    term_passes m (idx_eq i j) h = refl
    term_passes m (happens t) h = time_passes m t h
    term_passes m (all s t) h = term_passes (m + 1) t h
    term_passes m (some s t) h = term_passes (m + 1) t h
    term_passes m (find c t a b) h =
        two (is_free_of v t) (is_free_of v a && is_free_of v b) (passes (at_no_time v) (m + c) t)
        (passes (at_no_time v) (m + c) a && passes (at_no_time v) m b) (term_passes (m + c) t)
        (two (is_free_of v a) (is_free_of v b) (passes (at_no_time v) (m + c) a)
        (passes (at_no_time v) m b) (term_passes (m + c) a) (term_passes m b)) h

    terms_pass : (m : ℕ) (ts : TermTrees) → are_free_of v ts ≡ true
        → all_pass (at_no_time v) m ts ≡ true
    terms_pass m nil h = refl
    terms_pass m (cons t ts) h =
        two (is_free_of v t) (are_free_of v ts) (passes (at_no_time v) m t)
        (all_pass (at_no_time v) m ts) (term_passes m t) (terms_pass m ts) h

-- ---- a term that does not hold the variable

module _ (w : World) (a : Assignment) (v : ℕ) (x : Value)
    (no_number : number_of (get_or a.variables v nothing) ≡ 0) (moment : number_of x ≡ 0)
    (there_is : get_or (put v x a.variables) v nothing ≡ x) where
  abbrev c : Assignment
  c = at_time v a x

  abbrev AreSame : ℕ → List Value → List Value → Type 0
  AreSame m bs cs = bs ≡ cs

  number_same : (k : ℕ) → number_of (get_or a.variables k nothing)
      ≡ number_of (get_or c.variables k nothing)
  number_same k = by_test (k == v) refl
    where
      by_test : (b : Bool) → (k == v) ≡ b → number_of (get_or a.variables k nothing)
          ≡ number_of (get_or c.variables k nothing)
      by_test true e =
          subst
          (λ j. number_of (get_or a.variables j nothing)
          ≡ number_of (get_or c.variables j nothing))
          (sym (eqb-true k v e))
          (no_number ∙ sym (ap number_of there_is ∙ moment))
      by_test false e = ap number_of (sym (put_other v x a.variables k (number_differs k v e)))

  index_same : (m : ℕ) (bs cs : List Value) (i : Idx) → bs ≡ cs → true ≡ true
      → idx_value a bs i ≡ idx_value c cs i
  index_same m bs cs (Free k) r h = number_same k
  index_same m bs cs (Bound k) r h = ap (λ vs. number_of (get_or vs k nothing)) r

  time_same : (m : ℕ) (bs cs : List Value) (k : ℕ) → bs ≡ cs → not (k == v) ≡ true
      → time_of (get_or a.variables k nothing) ≡ ts_value w.times c cs (free k)
  time_same m bs cs k r h = by_test (k == v) refl h
    where
      by_test : (b : Bool) → (k == v) ≡ b → not b ≡ true
          → time_of (get_or a.variables k nothing) ≡ time_of (get_or c.variables k nothing)
      by_test true e g = no_place g
      by_test false e g = ap time_of (sym (put_other v x a.variables k (number_differs k v e)))

  pub unheld : (t : TermTree) → is_free_of v t ≡ true → translate w a [] t ≡ translate w c [] t
  unheld t h =
      leaves_law keeping (at_no_time v) w a c AreSame (λ m bs cs y r. ap (λ vs. y ∷ vs) r)
      index_same time_same (λ m bs cs k r g. ap (λ vs. time_of (get_or vs k nothing)) r)
      (λ m bs cs k r g. refl) (λ m bs cs t u r g e. no_some u e)
      (λ m bs cs t u r g e. no_some u e) refl t 0 [] [] refl (term_passes v 0 t h)
      ∙ ap (translate w c [])
      (kept keeping no_tests (λ m i g. refl) (λ m k g. refl) (λ m k g. refl) (λ m k g. refl) 0 t
      (passes_none 0 t))

-- ---- a term closed over the variable

-- bs are the values of m binders within, and behind them in cs stands the variable's
record Closes (x : Value) (m : ℕ) (bs cs : List Value) : Type 0 where
  below : (k : ℕ) → k < m → get_or bs k nothing ≡ get_or cs k nothing
  last : get_or cs m nothing ≡ x

closes_pushed : (x : Value) (m : ℕ) (bs cs : List Value) (y : Value) → Closes x m bs cs
    → Closes x (m + 1) (y ∷ bs) (y ∷ cs)
closes_pushed x m bs cs y r = record {
  below = at;
  last =
      let e : suc m ≡ m + 1 = omega arith in
      subst (λ n. get_or (y ∷ cs) n nothing ≡ x) e r.last;
}
  where
    at : (k : ℕ) → k < m + 1 → get_or (y ∷ bs) k nothing ≡ get_or (y ∷ cs) k nothing
    at zero l = refl
    at (suc k) l = r.below k (omega arith)

module _ (w : World) (a c : Assignment) (v : ℕ) (x : Value)
    (value : get_or a.variables v nothing ≡ x)
    (others : (k : ℕ) → k ≢ v → get_or a.variables k nothing ≡ get_or c.variables k nothing)
    (schemas : a.schemas ≡ c.schemas) where
  abbrev R : ℕ → List Value → List Value → Type 0
  R m bs cs = Closes x m bs cs

  below_true : (k m : ℕ) → nat_lt k m ≡ true → k < m
  below_true k m h = grind (arith, nat_tests)

  index_closes : (m : ℕ) (bs cs : List Value) (i : Idx) → R m bs cs → idx_closed m i ≡ true
      → idx_value a bs i ≡ idx_value c cs (close_index v m i)
  index_closes m bs cs (Free k) r h = by_test (k == v) refl
    where
      by_test : (b : Bool) → (k == v) ≡ b
          → number_of (get_or a.variables k nothing)
          ≡ idx_value c cs (if b then Bound m else Free k)
      by_test true e =
          ap number_of
          (ap (λ j. get_or a.variables j nothing) (eqb-true k v e) ∙ (value ∙ sym r.last))
      by_test false e = ap number_of (others k (number_differs k v e))
  index_closes m bs cs (Bound k) r h = ap number_of (r.below k (below_true k m h))

  time_closes : (m : ℕ) (bs cs : List Value) (k : ℕ) → R m bs cs → true ≡ true
      → time_of (get_or a.variables k nothing)
      ≡ ts_value w.times c cs (if k == v then bound m else free k)
  time_closes m bs cs k r h = by_test (k == v) refl
    where
      by_test : (b : Bool) → (k == v) ≡ b
          → time_of (get_or a.variables k nothing)
          ≡ ts_value w.times c cs (if b then bound m else free k)
      by_test true e =
          ap time_of
          (ap (λ j. get_or a.variables j nothing) (eqb-true k v e) ∙ (value ∙ sym r.last))
      by_test false e = ap time_of (others k (number_differs k v e))

  pub closed_meaning : (t : TermTree) → is_closed 0 t ≡ true
      → translate w a [] t ≡ translate w c (x ∷ []) (closed_over v t)
  closed_meaning t h =
      leaves_law (closing v) closed_tests w a c R (λ m bs cs y r. closes_pushed x m bs cs y r)
      index_closes time_closes
      (λ m bs cs k r g. ap time_of (r.below k (below_true k m g)))
      (λ m bs cs k r g. ap (λ gs. get_or gs k (atom k)) schemas)
      (λ m bs cs t u r g e. no_some u e) (λ m bs cs t u r g e. no_some u e) refl t 0 [] (x ∷ [])
      (record { below = λ k l. absurd (omega arith); last = refl }) (is_closed-passes 0 t h)
