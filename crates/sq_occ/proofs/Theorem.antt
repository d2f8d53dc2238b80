-- The occurrence theorem: each ground occurrence is the value of an entry whose guard is true.
use Rattle.std.proofs.Common.{◌≡◌, refl, sym, ap, ◌∙◌, subst, ℕ, zero, suc, ◌+◌, inl}
use Rattle.std.proofs.Common.{⊎_elim, List, [], ◌∷◌, ◌++◌, length, map, get_or, Bool, true, false}
use Rattle.std.proofs.Common.{◌<◌}
use Rattle.std.proofs.Common.{arith, Some, replicate, ◌==◌, nat_lt}
use Rattle.std.specs.List.{list_all}
use Rattle.std.proofs.lemmas.Bool.{eqb-true}
use Rattle.std.proofs.lemmas.Bool.Decides.{nat_tests}
use Rattle.sq_base.specs.declared.sort.Sort.{Sort}
use Rattle.sq_base.specs.declared.sort.Sort.TheVariants.{Message, Boolean, Index}
use Rattle.sq_term.specs.declared.model.Inst.{Inst}
use Rattle.sq_term.specs.declared.model.Model.{Model}
use Rattle.sq_term.specs.declared.model.Value.{Value}
use Rattle.sq_term.specs.declared.signature.FunDecl.{FunDecl}
use Rattle.sq_term.specs.declared.term.Macro.{Macro}
use Rattle.sq_term.specs.declared.term.Side.{Side}
use Rattle.sq_term.specs.declared.term.Side.TheVariants.{Both}
use Rattle.sq_term.specs.GroundOccurrences as ground
use Rattle.sq_term.specs.GroundOccurrences.{Role, occurrences}
use Rattle.sq_term.specs.Lists.{Member, Each, ElementAt}
use Rattle.sq_term.specs.Models.{times_of, IsTraceModel, are_below}
use Rattle.sq_term.specs.Records.{own_indices, world}
use Rattle.sq_term.specs.Syntax.{TsTree, action, TermTree, le}
use Rattle.sq_term.specs.Systems.{SystemTree, ActionTree, no_action, action_at}
use Rattle.sq_term.specs.Translate.{World, Assignment, idx_values, ts_value, translate}
use Rattle.sq_term.proofs.BoolTests.{and_split}
use Rattle.sq_term.proofs.Members.{member-append_left, member-append_right, member-map, each-append}
use Rattle.sq_term.proofs.Members.{element-member}
use Rattle.sq_system.specs.Facts.{IsSystem}
use Rattle.sq_system.specs.Statements.{EnvTree}
use Rattle.sq_system.specs.Scopes.{signature_of}
use Rattle.sq_system.specs.WellFormed.{is_body, are_bodies, is_well_sorted}
use Rattle.sq_typing.specs.Typing.{Signature, has_sort}
use Rattle.sq_subst.specs.Leaves.{map_term}
use Rattle.sq_subst.specs.Projection.{projected}
use Rattle.sq_ground.specs.Holding.{Fits}
use Rattle.sq_ground.specs.Truth.{is_true}
use Rattle.sq_subst.specs.Renaming.{bound_index, binding}
use Rattle.sq_subst.specs.Tests.{indices_pass}
use Rattle.sq_occ.specs.Entries.{RoleTree, bare, public, key, OccTree, with_indices}
use Rattle.sq_occ.specs.Searches.{binders, lifted_ts, reach}
use Rattle.sq_occ.specs.Searches.{bound_role, in_action, body_places, action_places, in_actions}
use Rattle.sq_occ.specs.Searches.{side_places, holds_schema}
use Rattle.sq_occ.specs.Listed.{Covers, IsListed, side_of, EveryOccurrenceIsListed}
use Rattle.sq_occ.proofs.Roles.{no_truth}
use Rattle.sq_occ.proofs.Sides.{plain_places}
use Rattle.sq_occ.proofs.WalkLaw.{walk_law}
use Rattle.sq_occ.proofs.Positions.{Early, macro_use, on_that_side}
use Rattle.sq_occ.proofs.Scopes.{own_scope, sorted_own, RolePasses, EntryPasses, walk_passes}
use Rattle.sq_occ.proofs.Values.{values_of, around_values, bound_values, bound_meaning}
use Rattle.sq_occ.proofs.Values.{guard_met, true_of, fits-append, fits-length, fits-indices}
use Rattle.sq_occ.proofs.Values.{place_found}

-- the entry of an action's place is in the list
in_actions-member : (funs : List FunDecl) (n : ℕ) (side : Side) (b : List Sort) (mac : Macro)
    (t : TsTree) (acts : List ActionTree) (j k : ℕ) (u : OccTree)
    → Member (action_places funs n side (get_or acts k no_action)) u
    → k < length acts
    → Member (in_actions funs n side b mac t j acts)
    (in_action (j + k) (get_or acts k no_action).arity b mac t u)
in_actions-member funs n side b mac t [] j k u i l = absurd (omega arith)
in_actions-member funs n side b mac t (a ∷ acts) j zero u i l =
    let e : j ≡ j + 0 = omega arith in
    subst (λ x. Member (in_actions funs n side b mac t j (a ∷ acts))
    (in_action x a.arity b mac t u)) e
    (member-append_left (map (in_action j a.arity b mac t) (action_places funs n side a)) _ _
    (member-map (in_action j a.arity b mac t) (action_places funs n side a) u i))
in_actions-member funs n side b mac t (a ∷ acts) j (suc k) u i l =
    let e : suc j + k ≡ j + suc k = omega arith in
    member-append_right (map (in_action j a.arity b mac t) (action_places funs n side a))
    (in_actions funs n side b mac t (suc j) acts) _
    (subst (λ x. Member (in_actions funs n side b mac t (suc j) acts)
    (in_action x (get_or acts k no_action).arity b mac t u)) e
    (in_actions-member funs n side b mac t acts (suc j) k u i (omega arith)))

-- each of the bodies of a system is well-sorted
bodies_at : (e : EnvTree) (s : SystemTree) (acts : List ActionTree) (k : ℕ) → k < length acts
    → list_all (are_bodies e s) acts ≡ true
    → are_bodies e s (get_or acts k no_action) ≡ true
bodies_at e s [] k l h = absurd (omega arith)
bodies_at e s (a ∷ acts) zero l h = (and_split (are_bodies e s a) _ h).0
bodies_at e s (a ∷ acts) (suc k) l h =
    bodies_at e s acts k (omega arith) (and_split (are_bodies e s a) _ h).1

below_length : (k n : ℕ) → nat_lt k n ≡ true → k < n
below_length k n h = grind (arith, nat_tests)

module _ (e : EnvTree) (s : SystemTree) (facts : IsSystem s) (sorted : is_well_sorted e s ≡ true)
    (m : Model) (M : IsTraceModel s m) (left : Bool) (n : ℕ) (js : List ℕ) where
  abbrev trace : World
  trace = world s m left

  abbrev Uses : Bool → Role → Assignment → List Value → TermTree → Type 0
  Uses side r a es t = Member (occurrences e.funs n js side (translate trace a es t)) r

  -- what is known of an instance
  instance_facts : (q : ℕ) (i : Inst) → ElementAt m.list q i
      → (i.act < length s.actions) × (length i.idx ≡ (action_at s i.act).arity)
      × (are_below m.indices i.idx ≡ true)
  instance_facts q i el =
      let p = and_split (nat_lt i.act (length s.actions)) _
      (M.instances i (element-member m.list q i el)) in
      let r = and_split (length i.idx == (action_at s i.act).arity) _ p.1 in
      (below_length i.act (length s.actions) p.0, eqb-true _ _ r.0, r.1)

  body_passes : (k : ℕ) (sort : Sort) (t : TermTree)
      → is_body (signature_of e s 0 (replicate k Index)) sort t ≡ true
      → Each (EntryPasses (own_scope k)) (body_places e.funs n (side_of left) t)
  body_passes k sort t h =
      let g : Signature = signature_of e s 0 (replicate k Index) in
      walk_passes (own_scope k) e.funs n (projected (side_of left) t) [] 0 false refl
      (sorted_own g k refl refl (side_of left) t [] 0 sort refl
      (and_split (has_sort g [] sort t) _ h).0)

  -- an entry of an action speaks of its indices and of the binders above it alone
  pub action_passes : (k : ℕ) → k < length s.actions
      → Each (EntryPasses (own_scope (action_at s k).arity))
      (action_places e.funs n (side_of left) (action_at s k))
  action_passes k l =
      let a : ActionTree = action_at s k in
      let p = and_split (is_body (signature_of e s 0 (replicate a.arity Index)) Boolean a.cond) _
      (bodies_at e s s.actions k l sorted) in
      each-append (body_places e.funs n (side_of left) a.cond)
      (body_places e.funs n (side_of left) a.output) (EntryPasses (own_scope a.arity))
      (body_passes a.arity Boolean a.cond p.0) (body_passes a.arity Message a.output p.1)

  module _ (a : Assignment) where
    -- the role of a place in a body is covered where the action's indices are bound
    covers_bound : (i : Inst) (fs es : List Value) (o : RoleTree) (r : Role)
        → RolePasses (own_scope (length i.idx)) (length fs) o
        → Covers trace (own_indices i) fs o r
        → Covers trace a (fs ++ values_of i.idx es) (bound_role (length i.idx) (length fs) o) r
    covers_bound i fs es bare r h c = tt
    covers_bound i fs es public r h c = c
    covers_bound i fs es (key f t test) r h (side, is, mono) =
        let same : translate trace (own_indices i) fs t
        ≡ translate trace a (fs ++ values_of i.idx es)
        (map_term (binding (length i.idx) Both) (length fs) t) =
        bound_meaning trace i a (length fs) fs (fs ++ values_of i.idx es) t
        (around_values i.idx fs es) h in
        (side, is ∙ ap (λ y. ground.key f y side) same, mono)

    -- an occurrence in a macro's value has an entry whose guard is true
    pub early_listed : (b : List Sort) (es : List Value) (mac : Macro) (t : TsTree) (r : Role)
        → Fits (times_of m) b es
        → (p : ℕ) × (ts_value (times_of m) a es t ≡ Some p) × Early e.funs s m left n js mac p r
        → IsListed trace a js r (in_actions e.funs n (side_of left) b mac t 0 s.actions)
    early_listed b es mac t r f (p, value, (q, late, (i, el, h))) =
        let act : ActionTree = action_at s i.act in
        let u : OccTree = h.entry in
        let fs : List Value = h.values in
        let known = instance_facts q i el in
        let arity : length i.idx ≡ act.arity = known.1 in
        let long : length u.bound ≡ length fs = fits-length (times_of m) u.bound fs h.fit in
        let pass : EntryPasses (own_scope act.arity) u = action_passes i.act known.0 u h.is_in in
        let found = place_found 1 m.list q i el in
        let no_more : 0 + i.act ≡ i.act = omega arith in
        record {
          entry = in_action i.act act.arity b mac t u;
          is_in =
              subst (λ k. Member (in_actions e.funs n (side_of left) b mac t 0 s.actions)
              (in_action k act.arity b mac t u)) no_more
              (in_actions-member e.funs n (side_of left) b mac t s.actions 0 i.act u h.is_in
              known.0);
          values = fs ++ values_of i.idx es;
          fit =
              fits-append (times_of m) u.bound (with_indices act.arity b) fs (values_of i.idx es)
              h.fit
              (subst (λ k. Fits (times_of m) (with_indices k b) (values_of i.idx es)) arity
              (fits-indices (times_of m) i.idx b es known.2 f));
          numbers =
              subst (λ k. idx_values a (fs ++ values_of i.idx es)
              (map (bound_index k (length u.bound)) u.args) ≡ js)
              arity
              (subst (λ d. idx_values a (fs ++ values_of i.idx es)
              (map (bound_index (length i.idx) d) u.args) ≡ js)
              (sym long)
              (sym (bound_values trace i a (length fs) fs (fs ++ values_of i.idx es) u.args
              (around_values i.idx fs es)
              (subst (λ d. indices_pass (own_scope (length i.idx)) d
              u.args ≡ true) long
              (subst (λ k. indices_pass (own_scope k) (length u.bound)
              u.args ≡ true) (sym arity) pass.0)))
              ∙ h.numbers));
          is_met =
              subst (λ k. is_true
              (translate trace a (fs ++ values_of i.idx es)
              (in_action i.act k b mac t u).guard) ≡ true) arity
              (subst (λ d. is_true
              (translate trace a (fs ++ values_of i.idx es)
              (le
              (action i.act
              (binders d (length i.idx)))
              (lifted_ts (d + length i.idx)
              (reach mac t)))) ≡ true) (sym long)
              (true_of _
              (guard_met (times_of m) a fs i.idx es i.act mac t found.0 q p found.1 value
              (omega (arith, found.2)) late)));
          covers =
              subst (λ k. Covers trace a (fs ++ values_of i.idx es)
              (bound_role k (length u.bound) u.role) r) arity
              (subst (λ d. Covers trace a (fs ++ values_of i.idx es)
              (bound_role (length i.idx) d u.role) r) (sym long)
              (covers_bound i fs es u.role r
              (subst (λ d. RolePasses (own_scope (length i.idx)) d u.role) long
              (subst (λ k. RolePasses (own_scope k) (length u.bound) u.role) (sym arity) pass.1))
              h.covers));
        }

    pub term_listed : (t : TermTree) (equated : Bool) (r : Role) → holds_schema t ≡ false
        → Uses equated r a [] t
        → IsListed trace a js r (side_places e.funs n (side_of left) s t)
    term_listed t equated r plain i =
        ⊎_elim (λ h. h) (λ no. absurd no)
        (walk_law e.funs n js trace a (λ r. ⊥) (λ r no. no)
        (λ b mac t. in_actions e.funs n (side_of left) b mac t 0 s.actions) (λ b k. [])
        (λ es mac t. Unit {0}) (λ k. ⊥)
        (λ b es mac t side r f p u. inl (early_listed b es mac t r f
        (macro_use e.funs s m left n js facts M mac (ts_value (times_of m) a es t) side r u)))
        (λ k side r no u. no)
        (projected (side_of left) t) [] [] false equated (λ x. absurd (no_truth x))
        (plain_places (times_of m) (λ es mac t. Unit {0}) (λ k. ⊥) (side_of left)
        (λ es mac t. tt) t 0 [] plain) tt r
        (subst (λ y. Member (occurrences e.funs n js equated y) r)
        (sym (on_that_side trace left refl a t)) i))

pub every_occurrence : EveryOccurrenceIsListed
every_occurrence e s m left a n js t equated r facts sorted M plain i =
    term_listed e s facts sorted m M left n js a t equated r plain i
