-- What the formula of a list says at an assignment.
use Rattle.std.proofs.Common.{◌≡◌, refl, sym, ap, ◌∙◌, subst, suc, ◌⊎◌, inl, inr, ⊎_elim}
use Rattle.std.proofs.Common.{List, [], ◌∷◌, ◌++◌, map, length, Bool, true, false, if◌then◌else◌}
use Rattle.std.proofs.Common.{◌==◌}
use Rattle.std.proofs.lemmas.Bool.{eqb-true, eq-eqb}
use Rattle.sq_base.specs.declared.sort.Sort.{Sort}
use Rattle.sq_term.specs.declared.model.Value.{Value}
use Rattle.sq_term.specs.declared.term.Idx.{Idx}
use Rattle.sq_term.specs.Closed.{indices_closed, idx_closed}
use Rattle.sq_term.specs.Formulas.{truth}
use Rattle.sq_term.specs.Ground.{Ground}
use Rattle.sq_term.specs.GroundFormulas as ground
use Rattle.sq_term.specs.Lists.{Member, here, there, Each}
use Rattle.sq_term.specs.Syntax.{TermTree, idx_eq, some}
use Rattle.sq_term.specs.TreeEquality.{is_same_tree}
use Rattle.sq_term.specs.Translate.{World, Assignment, idx_value, idx_values, domain, translate}
use Rattle.sq_term.proofs.BoolTests.{and_split}
use Rattle.sq_term.proofs.Members.{member-map, member-map_from, member-append_left}
use Rattle.sq_term.proofs.Members.{member-append_right, each-append, each-map, each_none}
use Rattle.sq_term.proofs.Members.{each_cons, each_single}
use Rattle.sq_term.proofs.SameTrees.{is_same_tree-decides}
use Rattle.sq_subst.proofs.Laws.{free_idx}
use Rattle.sq_ground.specs.Holding.{Fits}
use Rattle.sq_ground.specs.Truth.{IsTrueAt}
use Rattle.sq_ground.proofs.Propositional.{conj-from, conj-to, disj-from, disj-cases}
use Rattle.sq_ground.proofs.TraceFormulas.{value-truth_of}
use Rattle.sq_occ.specs.Entries.{OccTree}
use Rattle.sq_occ.specs.Facts.{conj_of, disj_of_all, without, distinct, disj_of, some_bound}
use Rattle.sq_occ.specs.Facts.{equations, guards, entry_formula}
use Rattle.sq_occ.specs.Met.{IsMet}

-- the elements of a list stay where repeats are taken out
kept_or_same : (t u x : TermTree) (us : List TermTree) (b : Bool) → is_same_tree t u ≡ b
    → Member (u ∷ us) x → (Member us x → (t ≡ x) ⊎ Member (without t us) x)
    → (t ≡ x) ⊎ Member (if b then without t us else (u ∷ without t us)) x
kept_or_same t u x us true e here later = inl ((is_same_tree-decides t u).0 e)
kept_or_same t u x us true e (there j) later = later j
kept_or_same t u x us false e here later = inr here
kept_or_same t u x us false e (there j) later =
    ⊎_elim (λ k. inl k) (λ k. inr (there k)) (later j)

member-without : (t : TermTree) (us : List TermTree) (x : TermTree) → Member us x
    → (t ≡ x) ⊎ Member (without t us) x
member-without t [] x i = elim i [ ]
member-without t (u ∷ us) x i =
    kept_or_same t u x us (is_same_tree t u) refl i (λ j. member-without t us x j)

member-distinct : (ts : List TermTree) (x : TermTree) → Member ts x → Member (distinct ts) x
member-distinct [] x i = elim i [ ]
member-distinct (t ∷ ts) x here = here
member-distinct (t ∷ ts) x (there i) =
    ⊎_elim (λ e. subst (λ y. Member (distinct (t ∷ ts)) y) e here) (λ j. there j)
    (member-without t (distinct ts) x (member-distinct ts x i))

was_kept : (t u x : TermTree) (us : List TermTree) (b : Bool)
    → Member (if b then without t us else (u ∷ without t us)) x
    → (Member (without t us) x → Member us x) → Member (u ∷ us) x
was_kept t u x us true i later = there (later i)
was_kept t u x us false here later = here
was_kept t u x us false (there i) later = there (later i)

without-member : (t : TermTree) (us : List TermTree) (x : TermTree) → Member (without t us) x
    → Member us x
without-member t [] x i = elim i [ ]
without-member t (u ∷ us) x i =
    was_kept t u x us (is_same_tree t u) i (λ j. without-member t us x j)

distinct-member : (ts : List TermTree) (x : TermTree) → Member (distinct ts) x → Member ts x
distinct-member [] x i = elim i [ ]
distinct-member (t ∷ ts) x here = here
distinct-member (t ∷ ts) x (there i) =
    there (distinct-member ts x (without-member t (distinct ts) x i))

module _ (w : World) (a : Assignment) where
  conj-meaning : (es : List Value) (ts : List TermTree)
      → translate w a es (conj_of ts) ≡ ground.conj (map (translate w a es) ts)
  conj-meaning es [] = refl
  conj-meaning es (t ∷ []) = refl
  conj-meaning es (t ∷ u ∷ rest) =
      ap (ground.both (translate w a es t)) (conj-meaning es (u ∷ rest))

  disj-meaning : (es : List Value) (ts : List TermTree)
      → translate w a es (disj_of_all ts) ≡ ground.disj_of_all (map (translate w a es) ts)
  disj-meaning es [] = refl
  disj-meaning es (t ∷ []) = refl
  disj-meaning es (t ∷ u ∷ rest) =
      ap (ground.either (translate w a es t)) (disj-meaning es (u ∷ rest))

  module _ (v : Ground → Bool) where
    abbrev pub IsTrue : List Value → TermTree → Type 0
    IsTrue es t = IsTrueAt v (translate w a es t)

    conj_from : (es : List Value) (ts : List TermTree) → Each (IsTrue es) ts
        → IsTrue es (conj_of ts)
    conj_from es ts h =
        subst (IsTrueAt v) (sym (conj-meaning es ts))
        (conj-from v (map (translate w a es) ts) (each-map (translate w a es) ts (IsTrueAt v) h))

    conj_to : (es : List Value) (ts : List TermTree) → IsTrue es (conj_of ts) → Each (IsTrue es) ts
    conj_to es ts h x i =
        conj-to v (map (translate w a es) ts) (subst (IsTrueAt v) (conj-meaning es ts) h)
        (translate w a es x) (member-map (translate w a es) ts x i)

    pub disj_from : (es : List Value) (ts : List TermTree) (x : TermTree) → Member ts x
        → IsTrue es x → IsTrue es (disj_of ts)
    disj_from es ts x i h =
        subst (IsTrueAt v) (sym (disj-meaning es (distinct ts)))
        (disj-from v (map (translate w a es) (distinct ts)) (translate w a es x)
        (member-map (translate w a es) (distinct ts) x (member-distinct ts x i)) h)

    pub disj_to : (es : List Value) (ts : List TermTree) → IsTrue es (disj_of ts)
        → (x : TermTree) × Member ts x × IsTrue es x
    disj_to es ts h =
        disj-cases v (map (translate w a es) (distinct ts)) _
        (subst (IsTrueAt v) (disj-meaning es (distinct ts)) h) (λ y i k.
        let r : (x : TermTree) × Member (distinct ts) x × (y ≡ translate w a es x) =
        member-map_from (translate w a es) (distinct ts) y i in
        (r.0, distinct-member ts r.0 r.1, subst (IsTrueAt v) r.2 k))

    some_from : (b : List Sort) (es : List Value) (t : TermTree) → Fits w.times b es → IsTrue es t
        → IsTrue [] (some_bound b t)
    some_from [] [] t f h = h
    some_from [] (x ∷ es) t f h = absurd f
    some_from (s ∷ b) [] t f h = absurd f
    some_from (s ∷ b) (x ∷ es) t f h =
        some_from b es (some s t) f.1
        (disj-from v (map (λ y. translate w a (y ∷ es) t) (domain w.times s))
        (translate w a (x ∷ es) t)
        (member-map (λ y. translate w a (y ∷ es) t) (domain w.times s) x f.0) h)

    some_to : (b : List Sort) (t : TermTree) → IsTrue [] (some_bound b t)
        → (es : List Value) × Fits w.times b es × IsTrue es t
    some_to [] t h = ([], tt, h)
    some_to (s ∷ b) t h =
        let r : (es : List Value) × Fits w.times b es × IsTrue es (some s t) =
        some_to b (some s t) h in
        disj-cases v (map (λ y. translate w a (y ∷ r.0) t) (domain w.times s)) _ r.2 (λ y i k.
        let q : (x : Value) × Member (domain w.times s) x × (y ≡ translate w a (x ∷ r.0) t) =
        member-map_from (λ y. translate w a (y ∷ r.0) t) (domain w.times s) y i in
        (q.0 ∷ r.0, (q.1, r.1), subst (IsTrueAt v) q.2 k))

    guard_from : (es : List Value) (g : TermTree) → IsTrue es g → Each (IsTrue es) (guards g)
    guard_from es g h = at (is_same_tree g truth)
      where
        at : (b : Bool) → Each (IsTrue es) (if b then [] else (g ∷ []))
        at true = each_none (IsTrue es)
        at false = each_single g (IsTrue es) h

    guard_to : (es : List Value) (g : TermTree) → Each (IsTrue es) (guards g) → IsTrue es g
    guard_to es g h = at (is_same_tree g truth) refl h
      where
        at : (b : Bool) → is_same_tree g truth ≡ b → Each (IsTrue es) (if b then [] else (g ∷ []))
            → IsTrue es g
        at true e k = subst (IsTrue es) (sym ((is_same_tree-decides g truth).0 e)) refl
        at false e k = k g here

    equations_from : (es : List Value) (is js : List Idx)
        → idx_values a es is ≡ idx_values a es js → Each (IsTrue es) (equations is js)
    equations_from es [] js e = each_none (IsTrue es)
    equations_from es (i ∷ is) [] e = each_none (IsTrue es)
    equations_from es (i ∷ is) (j ∷ js) e =
        let f : idx_value a es i ≡ idx_value a es j = cc in
        let rest : idx_values a es is ≡ idx_values a es js = cc in
        each_cons (idx_eq i j) (equations is js) (IsTrue es)
        (value-truth_of v (idx_value a es i == idx_value a es j) ∙ eq-eqb _ _ f)
        (equations_from es is js rest)

    equations_to : (es : List Value) (is js : List Idx) → length is ≡ length js
        → Each (IsTrue es) (equations is js) → idx_values a es is ≡ idx_values a es js
    equations_to es [] [] l h = refl
    equations_to es [] (j ∷ js) l h = absurd (let f : 0 ≡ suc (length js) = l in cc)
    equations_to es (i ∷ is) [] l h = absurd (let f : suc (length is) ≡ 0 = l in cc)
    equations_to es (i ∷ is) (j ∷ js) l h =
        let shorter : length is ≡ length js = cc in
        let f : idx_value a es i ≡ idx_value a es j =
        eqb-true _ _ (sym (value-truth_of v (idx_value a es i == idx_value a es j))
        ∙ h _ here) in
        let rest : idx_values a es is ≡ idx_values a es js =
        equations_to es is js shorter (λ x k. h x (there k)) in
        cc

  -- indices of the sequent have one value under all binders
  pub closed_values : (es : List Value) (is : List Idx) → indices_closed 0 is ≡ true
      → idx_values a es is ≡ idx_values a [] is
  closed_values es [] h = refl
  closed_values es (i ∷ is) h =
      let p = and_split (idx_closed 0 i) (indices_closed 0 is) h in
      let first = free_idx w a es [] i p.0 in
      cc (first, closed_values es is p.1)

  -- the formula of an entry is true exactly where values of its binders meet its guard, the
  -- equations and what more is asked
  module _ (v : Ground → Bool) (is : List Idx) (closed : indices_closed 0 is ≡ true) (u : OccTree)
      (more : List TermTree) where
    pub formula_from : IsMet w a v is u more
        → IsTrueAt v (translate w a [] (entry_formula is u more))
    formula_from h =
        some_from v u.bound h.values (conj_of (guards u.guard ++ (equations is u.args ++ more)))
        h.fit
        (conj_from v h.values (guards u.guard ++ (equations is u.args ++ more))
        (each-append (guards u.guard) (equations is u.args ++ more) (IsTrue v h.values)
        (guard_from v h.values u.guard h.guard)
        (each-append (equations is u.args) more (IsTrue v h.values)
        (equations_from v h.values is u.args
        (closed_values h.values is closed ∙ sym h.numbers)) h.others)))

    pub formula_to : length is ≡ length u.args
        → IsTrueAt v (translate w a [] (entry_formula is u more)) → IsMet w a v is u more
    formula_to long h =
        let r : (es : List Value) × Fits w.times u.bound es
        × IsTrue v es (conj_of (guards u.guard ++ (equations is u.args ++ more))) =
        some_to v u.bound (conj_of (guards u.guard ++ (equations is u.args ++ more))) h in
        let each : Each (IsTrue v r.0) (guards u.guard ++ (equations is u.args ++ more)) =
        conj_to v r.0 (guards u.guard ++ (equations is u.args ++ more)) r.2 in
        record {
          values = r.0;
          fit = r.1;
          guard =
              guard_to v r.0 u.guard
              (λ x i. each x (member-append_left (guards u.guard) _ x i));
          numbers =
              sym (equations_to v r.0 is u.args long
              (λ x i. each x (member-append_right (guards u.guard) _ x
              (member-append_left (equations is u.args) more x i))))
              ∙ closed_values r.0 is closed;
          others =
              λ x i. each x (member-append_right (guards u.guard) _ x
              (member-append_right (equations is u.args) more x i));
        }
