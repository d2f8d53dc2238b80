-- From values that fit an entry and make its guard true back to the instance that it speaks of.
use Rattle.std.proofs.Common.{◌≡◌, refl, sym, ap, ◌∙◌, ℕ, zero, suc, ◌+◌, ◌<◌, ◌≤◌, List, []}
use Rattle.std.proofs.Common.{◌∷◌, ◌++◌, length, map, get_or, Bool, true, false, if◌then◌else◌}
use Rattle.std.proofs.Common.{nat_le, ◌==◌}
use Rattle.std.proofs.Common.{Option, Some, None, arith, ◌⊎◌, inl, inr}
use Rattle.std.proofs.lemmas.Bool.{eqb-true}
use Rattle.std.proofs.lemmas.Bool.Decides.{nat_tests}
use Rattle.sq_base.specs.declared.sort.Sort.{Sort}
use Rattle.sq_base.specs.declared.sort.Sort.TheVariants.{Index}
use Rattle.sq_term.specs.declared.model.Inst.{Inst}
use Rattle.sq_term.specs.declared.model.Value.{Value}
use Rattle.sq_term.specs.declared.model.Value.TheVariants.{Index as Number}
use Rattle.sq_term.specs.declared.signature.FunDecl.{FunDecl}
use Rattle.sq_term.specs.declared.term.Macro.{Macro}
use Rattle.sq_term.specs.declared.term.Macro.TheVariants.{Input, Output, Cond, Exec, Frame}
use Rattle.sq_term.specs.declared.term.Side.{Side}
use Rattle.sq_term.specs.Lists.{Member, ElementAt, count, same_numbers}
use Rattle.sq_term.specs.Models.{is_instance, place_from}
use Rattle.sq_term.specs.Syntax.{TsTree}
use Rattle.sq_term.specs.Systems.{ActionTree, no_action}
use Rattle.sq_term.specs.Translate.{Times, Assignment, before, is_upto, ts_value}
use Rattle.sq_term.proofs.BoolTests.{and_split, same_numbers-true}
use Rattle.sq_term.proofs.Members.{member-map_from}
use Rattle.sq_ground.specs.Holding.{Fits}
use Rattle.sq_occ.specs.Entries.{OccTree, with_indices}
use Rattle.sq_occ.specs.Searches.{reach, in_action, action_places, in_actions}
use Rattle.sq_occ.proofs.Positions.{lag}
use Rattle.sq_occ.proofs.Roles.{no_truth, member-append_from}
use Rattle.sq_occ.proofs.Values.{values_of}

pub fits-split : (w : Times) (b c : List Sort) (xs : List Value) → Fits w (b ++ c) xs
    → (ys : List Value) × (zs : List Value) × (xs ≡ ys ++ zs) × Fits w b ys × Fits w c zs
fits-split w [] c xs h = ([], xs, refl, tt, h)
fits-split w (s ∷ b) c [] h = absurd h
fits-split w (s ∷ b) c (x ∷ xs) h =
    let r : (ys : List Value) × (zs : List Value) × (xs ≡ ys ++ zs) × Fits w b ys × Fits w c zs =
    fits-split w b c xs h.1 in
    (x ∷ r.0, r.1, ap (λ q. x ∷ q) r.2, (h.0, r.3), r.4)

-- the values of indices are numbers
pub fits-indices_from : (w : Times) (c : ℕ) (b : List Sort) (xs : List Value)
    → Fits w (with_indices c b) xs
    → (ns : List ℕ) × (es : List Value) × (xs ≡ values_of ns es) × (length ns ≡ c) × Fits w b es
fits-indices_from w zero b xs h = ([], xs, refl, refl, h)
fits-indices_from w (suc c) b xs h = one_more (fits-indices_from w c (Index ∷ b) xs h)
  where
    one_more : (ns : List ℕ) × (es : List Value) × (xs ≡ values_of ns es) × (length ns ≡ c)
        × Fits w (Index ∷ b) es
        → (ns : List ℕ) × (es : List Value) × (xs ≡ values_of ns es) × (length ns ≡ suc c)
        × Fits w b es
    one_more (ns, [], e, l, f) = absurd f
    one_more (ns, x ∷ es, e, l, f) =
        let q : (i : ℕ) × Member (count 0 w.indices) i × (x ≡ Number i) =
        member-map_from Number (count 0 w.indices) x f.0 in
        (q.0 ∷ ns, es, e ∙ ap (λ y. values_of ns (y ∷ es)) q.2, ap suc l, f.1)

-- an instance that has a place stands in the trace
pub place_inverse : (p : ℕ) (list : List Inst) (k : ℕ) (ns : List ℕ) (r : ℕ)
    → place_from p list k ns ≡ Some r
    → (q : ℕ) × (i : Inst) × ElementAt list q i × (i.act ≡ k) × (i.idx ≡ ns) × (r ≡ p + q)
place_inverse p [] k ns r e = absurd (let f : None ≡ Some r = e in cc)
place_inverse p (j ∷ list) k ns r e =
    go (is_instance k ns j) refl e (λ f. place_inverse (suc p) list k ns r f)
  where
    go : (b : Bool) → is_instance k ns j ≡ b
        → (if b then Some p else place_from (suc p) list k ns) ≡ Some r
        → (place_from (suc p) list k ns ≡ Some r
        → (q : ℕ) × (i : Inst) × ElementAt list q i × (i.act ≡ k) × (i.idx ≡ ns)
        × (r ≡ suc p + q))
        → (q : ℕ) × (i : Inst) × ElementAt (j ∷ list) q i × (i.act ≡ k) × (i.idx ≡ ns)
        × (r ≡ p + q)
    go true f g later =
        let parts : ((k == j.act) ≡ true) × (same_numbers ns j.idx ≡ true) =
        and_split (k == j.act) (same_numbers ns j.idx) f in
        let at : p ≡ r = cc in (
          0,
          j,
          refl,
          sym (eqb-true k j.act parts.0),
          sym (same_numbers-true ns j.idx parts.1),
          omega arith,
        )
    go false f g later =
        let x : (q : ℕ) × (i : Inst) × ElementAt list q i × (i.act ≡ k) × (i.idx ≡ ns)
        × (r ≡ suc p + q) = later g in
        (suc x.0, x.1, x.2, x.3, x.4, omega (arith, x.5))

lesser_equal : (p r : ℕ) → nat_le p r ≡ true → p ≤ r
lesser_equal p r e = grind (arith, nat_tests)

before_inverse : (v : Option ℕ) (p : ℕ) → is_upto (Some p) (before v) ≡ true
    → (r : ℕ) × (v ≡ Some r) × (p + 1 ≤ r)
before_inverse (Some zero) p e = absurd (no_truth e)
before_inverse (Some (suc r)) p e =
    (suc r, refl, (let l : p ≤ r = lesser_equal p r e in omega arith))
before_inverse None p e = absurd (no_truth e)

at_inverse : (v : Option ℕ) (p : ℕ) → is_upto (Some p) v ≡ true
    → (r : ℕ) × (v ≡ Some r) × (p + 0 ≤ r)
at_inverse (Some r) p e = (r, refl, (let l : p ≤ r = lesser_equal p r e in omega arith))
at_inverse None p e = absurd (no_truth e)

pub reach_inverse : (w : Times) (a : Assignment) (es : List Value) (mac : Macro) (t : TsTree)
    (p : ℕ) → is_upto (Some p) (ts_value w a es (reach mac t)) ≡ true
    → (r : ℕ) × (ts_value w a es t ≡ Some r) × (p + lag mac ≤ r)
reach_inverse w a es Input t p e = before_inverse (ts_value w a es t) p e
reach_inverse w a es Output t p e = at_inverse (ts_value w a es t) p e
reach_inverse w a es Cond t p e = at_inverse (ts_value w a es t) p e
reach_inverse w a es Exec t p e = at_inverse (ts_value w a es t) p e
reach_inverse w a es Frame t p e = at_inverse (ts_value w a es t) p e

pub position_is : (v x : Option ℕ) → is_upto v x ≡ true
    → (p : ℕ) × (v ≡ Some p) × (is_upto (Some p) x ≡ true)
position_is (Some p) x e = (p, refl, e)
position_is None x e = absurd (no_truth e)

-- the place of an action that an entry is made of
pub in_actions-from : (funs : List FunDecl) (n : ℕ) (side : Side) (b : List Sort) (mac : Macro)
    (t : TsTree) (acts : List ActionTree) (j : ℕ) (u : OccTree)
    → Member (in_actions funs n side b mac t j acts) u
    → (k : ℕ) × (o : OccTree) × (k < length acts)
    × Member (action_places funs n side (get_or acts k no_action)) o
    × (u ≡ in_action (j + k) (get_or acts k no_action).arity b mac t o)
in_actions-from funs n side b mac t [] j u i = elim i [ ]
in_actions-from funs n side b mac t (a ∷ acts) j u i =
    go (member-append_from (map (in_action j a.arity b mac t) (action_places funs n side a)) _ u i)
    (λ l. in_actions-from funs n side b mac t acts (suc j) u l)
  where
    go : Member (map (in_action j a.arity b mac t) (action_places funs n side a)) u
        ⊎ Member (in_actions funs n side b mac t (suc j) acts) u
        → (Member (in_actions funs n side b mac t (suc j) acts) u
        → (k : ℕ) × (o : OccTree) × (k < length acts)
        × Member (action_places funs n side (get_or acts k no_action)) o
        × (u ≡ in_action (suc j + k) (get_or acts k no_action).arity b mac t o))
        → (k : ℕ) × (o : OccTree) × (k < length (a ∷ acts))
        × Member (action_places funs n side (get_or (a ∷ acts) k no_action)) o
        × (u ≡ in_action (j + k) (get_or (a ∷ acts) k no_action).arity b mac t o)
    go (inl l) later =
        let r : (o : OccTree) × Member (action_places funs n side a) o
        × (u ≡ in_action j a.arity b mac t o) =
        member-map_from (in_action j a.arity b mac t) (action_places funs n side a) u l in
        let e : j ≡ j + 0 = omega arith in
        (0, r.0, omega arith, r.1, r.2 ∙ ap (λ x. in_action x a.arity b mac t r.0) e)
    go (inr l) later =
        let r = later l in
        let e : suc j + r.0 ≡ j + suc r.0 = omega arith in (
          suc r.0,
          r.1,
          (let q : r.0 < length acts = r.2 in omega arith),
          r.3,
          r.4 ∙ ap (λ x. in_action x (get_or acts r.0 no_action).arity b mac t r.1) e,
        )
