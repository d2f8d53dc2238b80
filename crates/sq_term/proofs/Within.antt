-- The value of a further variable does not matter to a term that does not name it.
use Rattle.std.proofs.Common.{◌≡◌, refl, ap, ◌∙◌, List, [], ◌∷◌, length, map}
use Rattle.std.specs.Prelude.{None}
use Rattle.sq_term.specs.declared.term.Idx.{Idx}
use Rattle.sq_term.specs.declared.term.Idx.TheVariants.{Free, Bound}
use Rattle.sq_term.specs.declared.model.Value.{Value}
use Rattle.sq_term.specs.declared.model.Value.TheVariants.{Time as Moment}
use Rattle.sq_term.specs.Lists.{here, there, Each, fold_right}
use Rattle.sq_term.specs.Syntax.{TsTree, free, bound, init, pred, action, TermTree, name, fun}
use Rattle.sq_term.specs.Syntax.{macro, schema, diff, le, ts_eq, idx_eq, happens, all, some, find}
use Rattle.sq_term.specs.Syntax.{TermTrees, nil, cons}
use Rattle.sq_term.specs.Ground.{Ground, named}
use Rattle.sq_term.specs.GroundFormulas.{conditional, truth_of, conj, disj_of_all}
use Rattle.sq_term.specs.Translate.{World, Assignment, number_of, time_of, before, idx_value}
use Rattle.sq_term.specs.Translate.{idx_values, macro_value, ts_value, is_position, domain, choices}
use Rattle.sq_term.specs.Translate.{translate, translate_all}
use Rattle.sq_term.specs.Within.{IdxWithin, TsWithin, IsWithin, AreWithin, with_value}
use Rattle.sq_term.proofs.Lists.{get_or-front, map_same, fold_same}

module _ (w : World) (a : Assignment) (x : Value) where
  idx_unchanged : (bs : List Value) (i : Idx) → IdxWithin (length a.variables) i
      → idx_value (with_value a x) bs i ≡ idx_value a bs i
  idx_unchanged bs (Free k) h = ap number_of (get_or-front a.variables (x ∷ []) k (Moment None) h)
  idx_unchanged bs (Bound k) h = refl

  idxs_unchanged : (bs : List Value) (is : List Idx) → Each (IdxWithin (length a.variables)) is
      → idx_values (with_value a x) bs is ≡ idx_values a bs is
  idxs_unchanged bs [] h = refl
  idxs_unchanged bs (i ∷ is) h =
      cc (idx_unchanged bs i (h i here), idxs_unchanged bs is (λ y j. h y (there j)))

  pub ts_unchanged : (bs : List Value) (t : TsTree) → TsWithin (length a.variables) t
      → ts_value w.times (with_value a x) bs t ≡ ts_value w.times a bs t
  ts_unchanged bs (free k) h = ap time_of (get_or-front a.variables (x ∷ []) k (Moment None) h)
  ts_unchanged bs (bound k) h = refl
  ts_unchanged bs init h = refl
  ts_unchanged bs (pred t) h = ap before (ts_unchanged bs t h)
  ts_unchanged bs (action n is) h = ap (w.times.place n) (idxs_unchanged bs is h)

  mutual
    pub unchanged : (t : TermTree) (bs : List Value) → IsWithin (length a.variables) t
        → translate w (with_value a x) bs t ≡ translate w a bs t
    unchanged (name n is) bs h = ap (named n) (idxs_unchanged bs is h)
    unchanged (fun f is ts) bs h = cc (idxs_unchanged bs is h.0, all_unchanged ts bs h.1)
    unchanged (macro m t) bs h = ap (w.values (macro_value a bs m)) (ts_unchanged bs t h.1)
    unchanged (schema k) bs h = refl
    unchanged (diff l r) bs h = cc (unchanged l bs h.0, unchanged r bs h.1)
    unchanged (le t s) bs h = cc (ts_unchanged bs t h.0, ts_unchanged bs s h.1)
    unchanged (ts_eq t s) bs h = cc (ts_unchanged bs t h.0, ts_unchanged bs s h.1)
    unchanged (idx_eq i j) bs h = cc (idx_unchanged bs i h.0, idx_unchanged bs j h.1)
    unchanged (happens t) bs h = ap (λ y. truth_of (is_position y)) (ts_unchanged bs t h)
    unchanged (all s body) bs h =
        ap conj (map_same _ _ (domain w.times s) (λ y i. unchanged body (y ∷ bs) h))
    unchanged (some s body) bs h =
        ap disj_of_all (map_same _ _ (domain w.times s) (λ y i. unchanged body (y ∷ bs) h))
    unchanged (find c test found other) bs h =
        let F : List Value → Ground → Ground =
        λ xs rest. conditional (translate w (with_value a x) xs test)
        (translate w (with_value a x) xs found) rest in
        let G : List Value → Ground → Ground =
        λ xs rest. conditional (translate w a xs test) (translate w a xs found) rest in
        let e : fold_right F (translate w (with_value a x) bs other) (choices w.times c bs)
        ≡ fold_right G (translate w (with_value a x) bs other) (choices w.times c bs) =
        fold_same F G (choices w.times c bs)
        (λ xs i r. cc (unchanged test xs h.0, unchanged found xs h.1))
        (translate w (with_value a x) bs other) in
        e ∙ ap (λ b. fold_right G b (choices w.times c bs)) (unchanged other bs h.2)

    pub all_unchanged : (ts : TermTrees) (bs : List Value) → AreWithin (length a.variables) ts
        → translate_all w (with_value a x) bs ts ≡ translate_all w a bs ts
    all_unchanged nil bs h = refl
    all_unchanged (cons t ts) bs h = cc (unchanged t bs h.0, all_unchanged ts bs h.1)

  pub each_unchanged : (ts : List TermTree) → Each (IsWithin (length a.variables)) ts
      → map (translate w (with_value a x) []) ts ≡ map (translate w a []) ts
  each_unchanged [] h = refl
  each_unchanged (t ∷ ts) h =
      cc (unchanged t [] (h t here), each_unchanged ts (λ y i. h y (there i)))
