-- What occurs in the message of an entry has an entry.
use Rattle.std.proofs.Common.{◌≡◌, refl, sym, ap, ◌∙◌, subst, ℕ, suc, ◌+◌, ◌<◌, ◌≤◌, inl}
use Rattle.std.proofs.Common.{inr, ⊎_elim, List, [], ◌∷◌, ◌++◌, length, Bool, true, false, arith}
use Rattle.std.proofs.Common.{Some}
use Rattle.sq_base.specs.declared.sort.Sort.{Sort}
use Rattle.sq_term.specs.declared.model.Inst.{Inst}
use Rattle.sq_term.specs.declared.model.Model.{Model}
use Rattle.sq_term.specs.declared.model.Value.{Value}
use Rattle.sq_term.specs.declared.term.Macro.{Macro}
use Rattle.sq_term.specs.declared.term.Macro.TheVariants.{Input, Output}
use Rattle.sq_term.specs.declared.term.Side.TheVariants.{Both}
use Rattle.sq_term.specs.GroundOccurrences.{Role, occurrences}
use Rattle.sq_term.specs.Lists.{Member, Each, ElementAt}
use Rattle.sq_term.specs.Models.{times_of, place_from, IsTraceModel}
use Rattle.sq_term.specs.Reads.{IsEarlyInput}
use Rattle.sq_term.specs.Records.{own_indices, world}
use Rattle.sq_term.specs.Symbols.{Kind}
use Rattle.sq_term.specs.Syntax.{TsTree, TermTree, action, le}
use Rattle.sq_term.specs.Systems.{SystemTree, ActionTree, action_at}
use Rattle.sq_term.specs.Translate.{World, Assignment, is_upto, macro_value, ts_value, translate}
use Rattle.sq_term.proofs.Members.{member-append_left, member-append_right}
use Rattle.sq_system.specs.Facts.{IsAction, IsBody, IsSystem}
use Rattle.sq_system.specs.Statements.{EnvTree}
use Rattle.sq_system.specs.WellFormed.{is_well_sorted}
use Rattle.sq_subst.specs.Leaves.{map_term}
use Rattle.sq_subst.specs.Projection.{projected}
use Rattle.sq_subst.specs.Renaming.{binding}
use Rattle.sq_ground.specs.Holding.{Fits}
use Rattle.sq_ground.specs.Truth.{is_true}
use Rattle.sq_ground.proofs.TraceFormulas.{value-truth_of}
use Rattle.sq_ground.proofs.Traces.{instance-action}
use Rattle.sq_occ.specs.Entries.{RoleTree, bare, public, key, OccTree, with_indices}
use Rattle.sq_occ.specs.Searches.{binders, lifted_ts, reach, bound_role, in_action, body_places}
use Rattle.sq_occ.specs.Searches.{action_places, in_actions, side_places, holds_schema}
use Rattle.sq_occ.specs.Walks.{walk}
use Rattle.sq_occ.specs.Listed.{IsListed, side_of}
use Rattle.sq_occ.specs.Reads.{AtPlaces}
use Rattle.sq_occ.specs.ClosedLists.{MessagesAreListed}
use Rattle.sq_occ.proofs.Roles.{no_truth, member-append_from}
use Rattle.sq_occ.proofs.Sides.{at_places, plain_places}
use Rattle.sq_occ.proofs.WalkLaw.{listed_more, walk_law}
use Rattle.sq_occ.proofs.Positions.{lag, Early, early_bare, InputsUpTo, macro_read, macro_use}
use Rattle.sq_occ.proofs.Positions.{all_good, body_read}
use Rattle.sq_occ.proofs.Scopes.{own_scope, RolePasses, EntryPasses}
use Rattle.sq_occ.proofs.Values.{values_of, around_values, bound_meaning, own_binders, lifted_time}
use Rattle.sq_occ.proofs.Values.{fits-length}
use Rattle.sq_occ.proofs.Origins.{inner, RoleAt, Origin, origin}
use Rattle.sq_occ.proofs.Inverses.{fits-split, fits-indices_from, place_inverse, reach_inverse}
use Rattle.sq_occ.proofs.Inverses.{position_is, in_actions-from}
use Rattle.sq_occ.proofs.Theorem.{action_passes, early_listed}

abbrev none_at : List Sort → Macro → TsTree → List OccTree
none_at b m t = []

module _ (e : EnvTree) (s : SystemTree) (facts : IsSystem s) (sorted : is_well_sorted e s ≡ true)
    (m : Model) (M : IsTraceModel s m) (left : Bool) (k n : ℕ) (js : List ℕ) where
  abbrev trace : World
  trace = world s m left

  abbrev for_name : List Sort → TermTree → List OccTree
  for_name b t = walk e.funs n none_at (λ b k. []) b false t

  abbrev Uses : Bool → Role → Assignment → List Value → TermTree → Type 0
  Uses side r a es t = Member (occurrences e.funs n js side (translate trace a es t)) r

  -- ---- in a body

  -- what a body's entry for the key gives: the walk through its message is among the places of the
  -- other name, and the message reads early inputs alone
  record InBody (q : ℕ) (i : Inst) (u : OccTree) : Type 0 where
    walked : Each (Member (action_places e.funs n (side_of left) (action_at s i.act)))
        (inner e.funs k n none_at none_at (times_of m)
        (IsEarlyInput (times_of m) (own_indices i) (suc q)) (λ c. ⊥) u.bound u.role)
    reads : (fs : List Value) → Fits (times_of m) u.bound fs
        → RoleAt e.funs k n none_at none_at (times_of m)
        (IsEarlyInput (times_of m) (own_indices i) (suc q)) (λ c. ⊥) fs u.role

  one_body : (q : ℕ) (i : Inst) → ElementAt m.list q i → (t : TermTree) (u : OccTree)
      → IsBody s i.act (action_at s i.act).arity t
      → Each (Member (action_places e.funs n (side_of left) (action_at s i.act)))
      (body_places e.funs n (side_of left) t)
      → Member (body_places e.funs k (side_of left) t) u → InBody q i u
  one_body q i el t u body sub mem =
      from (origin e.funs k n none_at none_at (times_of m)
      (IsEarlyInput (times_of m) (own_indices i) (suc q)) (λ c. ⊥)
      (projected (side_of left) t) [] false false u around mem)
    where
      around : (es : List Value) → Fits (times_of m) [] es
          → AtPlaces (times_of m) (IsEarlyInput (times_of m) (own_indices i) (suc q)) (λ c. ⊥) es
          (projected (side_of left) t)
      around [] f =
          at_places (times_of m) (IsEarlyInput (times_of m) (own_indices i) (suc q)) (λ c. ⊥)
          (projected (side_of left) t) []
          (body_read e.funs s m left n js facts M q i el t body)
      around (x ∷ es) f = absurd f

      from : Origin e.funs k n none_at none_at (times_of m)
          (IsEarlyInput (times_of m) (own_indices i) (suc q)) (λ c. ⊥)
          (body_places e.funs n (side_of left) t) u → InBody q i u
      from (inl h) = record { walked = λ x j. sub x (h.0 x j); reads = h.1 }
      from (inr (b, mac, y, j, h)) = elim j [ ]

  in_body : (q : ℕ) (i : Inst) → ElementAt m.list q i → (u : OccTree)
      → Member (action_places e.funs k (side_of left) (action_at s i.act)) u → InBody q i u
  in_body q i el u mem =
      let a : ActionTree = action_at s i.act in
      let one : IsAction s i.act a = facts i.act a (instance-action s m q i M el) in
      ⊎_elim
      (λ j. one_body q i el a.cond u one.cond_is
      (λ x l. member-append_left _ (body_places e.funs n (side_of left) a.output) x l) j)
      (λ j. one_body q i el a.output u one.output_is
      (λ x l. member-append_right (body_places e.funs n (side_of left) a.cond) _ x l) j)
      (member-append_from (body_places e.funs k (side_of left) a.cond) _ u mem)

  inputs : (q : ℕ) → InputsUpTo e.funs s m left n js q
  inputs q p b side r u = all_good e.funs s m left n js facts M p p (omega arith) Input side r u

  message_early : (q : ℕ) (i : Inst) → ElementAt m.list q i → (u : OccTree)
      → Member (action_places e.funs k (side_of left) (action_at s i.act)) u
      → (f : Kind) (message : TermTree) (test : Bool) → u.role ≡ key f message test
      → (fs : List Value) → Fits (times_of m) u.bound fs → (side : Bool) (r : Role)
      → Uses side r (own_indices i) fs message → Early e.funs s m left n js Output (suc q) r
  message_early q i el u mem f message test is fs fit side r used =
      let known : InBody q i u = in_body q i el u mem in
      let sub : Each (Member (action_places e.funs n (side_of left) (action_at s i.act)))
      (for_name u.bound message) =
      subst (λ o. Each (Member (action_places e.funs n (side_of left) (action_at s i.act)))
      (inner e.funs k n none_at none_at (times_of m)
      (IsEarlyInput (times_of m) (own_indices i) (suc q)) (λ c. ⊥) u.bound o)) is known.walked in
      let at : AtPlaces (times_of m) (IsEarlyInput (times_of m) (own_indices i) (suc q)) (λ c. ⊥)
      fs message =
      subst (RoleAt e.funs k n none_at none_at (times_of m)
      (IsEarlyInput (times_of m) (own_indices i) (suc q)) (λ c. ⊥) fs) is (known.reads fs fit) in
      ⊎_elim
      (λ h. (q, omega arith, (i, el, listed_more trace (own_indices i) js r _ _ sub h)))
      (λ h. h)
      (walk_law e.funs n js trace (own_indices i) (Early e.funs s m left n js Output (suc q))
      (early_bare e.funs s m left n js Output (suc q)) none_at (λ b k. [])
      (IsEarlyInput (times_of m) (own_indices i) (suc q)) (λ c. ⊥)
      (λ b es mac t side r f p x.
      inr (macro_read e.funs s m left n js q (inputs (suc q)) (macro_value (own_indices i) es mac)
      (ts_value (times_of m) (own_indices i) es t) side r p.0 p.1 x))
      (λ c side r no x. no)
      message u.bound fs false side (λ x. absurd (no_truth x)) at fit r used)

  -- ---- at a macro

  module _ (a : Assignment) where
    -- where the instance of the entry's action stands, and that the macro reaches it
    record Reached (j : ℕ) (ns : List ℕ) (es : List Value) (mac : Macro) (t : TsTree) : Type 0 where
      before : ℕ
      there_is : Inst
      stands : ElementAt m.list before there_is
      action_is : there_is.act ≡ j
      numbers_are : there_is.idx ≡ ns
      at : ℕ
      time_is : ts_value (times_of m) a es t ≡ Some at
      late : suc before + lag mac ≤ at

    guard_reached : (j : ℕ) (fs : List Value) (ns : List ℕ) (es : List Value) (mac : Macro)
        (t : TsTree)
        → is_upto (ts_value (times_of m) a (fs ++ values_of ns es)
        (action j (binders (length fs) (length ns))))
        (ts_value (times_of m) a (fs ++ values_of ns es)
        (lifted_ts (length fs + length ns) (reach mac t))) ≡ true
        → Reached j ns es mac t
    guard_reached j fs ns es mac t h =
        let left_is : ts_value (times_of m) a (fs ++ values_of ns es)
        (action j (binders (length fs) (length ns))) ≡ place_from 1 m.list j ns =
        ap (place_from 1 m.list j) (own_binders a fs ns es) in
        let right_is : ts_value (times_of m) a (fs ++ values_of ns es)
        (lifted_ts (length fs + length ns) (reach mac t))
        ≡ ts_value (times_of m) a es (reach mac t) =
        lifted_time (times_of m) a fs ns es (reach mac t) in
        let test : is_upto (place_from 1 m.list j ns) (ts_value (times_of m) a es (reach mac t))
        ≡ true =
        sym (ap (λ x. is_upto x (ts_value (times_of m) a es (reach mac t))) left_is)
        ∙ (sym (ap (is_upto (ts_value (times_of m) a (fs ++ values_of ns es)
        (action j (binders (length fs) (length ns))))) right_is) ∙ h) in
        let p : (p : ℕ) × (place_from 1 m.list j ns ≡ Some p)
        × (is_upto (Some p) (ts_value (times_of m) a es (reach mac t)) ≡ true) =
        position_is (place_from 1 m.list j ns) (ts_value (times_of m) a es (reach mac t)) test in
        let i : (q : ℕ) × (i : Inst) × ElementAt m.list q i × (i.act ≡ j) × (i.idx ≡ ns)
        × (p.0 ≡ 1 + q) = place_inverse 1 m.list j ns p.0 p.1 in
        let v : (r : ℕ) × (ts_value (times_of m) a es t ≡ Some r) × (p.0 + lag mac ≤ r) =
        reach_inverse (times_of m) a es mac t p.0 p.2 in
        record {
          before = i.0;
          there_is = i.1;
          stands = i.2;
          action_is = i.3;
          numbers_are = i.4;
          at = v.0;
          time_is = v.1;
          late = omega (arith, i.5, v.2);
        }

    -- a used in the message of a body's entry, at an instance that the macro reaches
    instance_listed : (b : List Sort) (mac : Macro) (t : TsTree) (o : OccTree) (f : Kind)
        (message : TermTree) (test : Bool) (fs es : List Value) (j : ℕ) (ns : List ℕ)
        → Reached j ns es mac t
        → Member (action_places e.funs k (side_of left) (action_at s j)) o
        → o.role ≡ key f message test → Fits (times_of m) o.bound fs → Fits (times_of m) b es
        → RolePasses (own_scope (length ns)) (length fs) o.role
        → (side : Bool) (r : Role)
        → Uses side r a (fs ++ values_of ns es)
        (map_term (binding (length ns) Both) (length fs) message)
        → IsListed trace a js r (in_actions e.funs n (side_of left) b mac t 0 s.actions)
    instance_listed b mac t o f message test fs es j ns known mem is fit fits pass side r used =
        let i : Inst = known.there_is in
        let mem' : Member (action_places e.funs k (side_of left) (action_at s i.act)) o =
        subst (λ z. Member (action_places e.funs k (side_of left) (action_at s z)) o)
        (sym known.action_is) mem in
        let pass' : RolePasses (own_scope (length i.idx)) (length fs) (key f message test) =
        subst (λ z. RolePasses (own_scope (length z)) (length fs) (key f message test))
        (sym known.numbers_are)
        (subst (RolePasses (own_scope (length ns)) (length fs)) is pass) in
        let used' : Uses side r a (fs ++ values_of i.idx es)
        (map_term (binding (length i.idx) Both) (length fs) message) =
        subst (λ z. Uses side r a (fs ++ values_of z es)
        (map_term (binding (length z) Both) (length fs) message)) (sym known.numbers_are) used in
        let same : translate trace (own_indices i) fs message
        ≡ translate trace a (fs ++ values_of i.idx es)
        (map_term (binding (length i.idx) Both) (length fs) message) =
        bound_meaning trace i a (length fs) fs (fs ++ values_of i.idx es) message
        (around_values i.idx fs es) pass' in
        let early : Early e.funs s m left n js Output (suc known.before) r =
        message_early known.before i known.stands o mem' f message test is fs fit side r
        (subst (λ y. Member (occurrences e.funs n js side y) r) (sym same) used') in
        early_listed e s facts sorted m M left n js a b es mac t r fits (
          known.at,
          known.time_is,
          (early.0, later early.0 known.before known.at (lag mac) early.1 known.late, early.2),
        )
      where
        later : (x y z g : ℕ) → suc x + 0 ≤ suc y → suc y + g ≤ z → suc x + g ≤ z
        later x y z g h l = omega arith

    macro_listed : (b : List Sort) (mac : Macro) (t : TsTree) (u : OccTree) (f : Kind)
        (message : TermTree) (test : Bool) (gs : List Value) (side : Bool) (r : Role)
        → Member (in_actions e.funs k (side_of left) b mac t 0 s.actions) u
        → u.role ≡ key f message test → Fits (times_of m) u.bound gs
        → is_true (translate trace a gs u.guard) ≡ true → Uses side r a gs message
        → IsListed trace a js r (in_actions e.funs n (side_of left) b mac t 0 s.actions)
    macro_listed b mac t u f message test gs side r mem is fit guard used =
        let o = in_actions-from e.funs k (side_of left) b mac t s.actions 0 u mem in
        let j : ℕ = o.0 in
        let arity : ℕ = (action_at s j).arity in
        let none_more : 0 + j ≡ j = omega arith in
        let u_is : u ≡ in_action j arity b mac t o.1 =
        o.4 ∙ ap (λ x. in_action x arity b mac t o.1) none_more in
        made o.1 j arity b mac t f message test gs side r refl o.2 o.3
        (sym (ap (λ x. x.role) u_is) ∙ is)
        (subst (λ x. Fits (times_of m) x.bound gs) u_is fit)
        (subst (λ x. is_true (translate trace a gs x.guard) ≡ true) u_is guard) used
      where
        role_from : (o : RoleTree) (c d : ℕ) (f : Kind) (message : TermTree) (test : Bool)
            → bound_role c d o ≡ key f message test
            → (inside : TermTree) × (o ≡ key f inside test)
            × (message ≡ map_term (binding c Both) d inside)
        role_from bare c d f message test h = absurd (let x : bare ≡ key f message test = h in cc)
        role_from public c d f message test h =
            absurd (let x : public ≡ key f message test = h in cc)
        role_from (key g inside x) c d f message test h = (inside, cc, cc)

        made : (o : OccTree) (j arity : ℕ) (b : List Sort) (mac : Macro) (t : TsTree) (f : Kind)
            (message : TermTree) (test : Bool) (gs : List Value) (side : Bool) (r : Role)
            → (action_at s j).arity ≡ arity → j < length s.actions
            → Member (action_places e.funs k (side_of left) (action_at s j)) o
            → bound_role arity (length o.bound) o.role ≡ key f message test
            → Fits (times_of m) (o.bound ++ with_indices arity b) gs
            → is_true (translate trace a gs (in_action j arity b mac t o).guard) ≡ true
            → Uses side r a gs message
            → IsListed trace a js r (in_actions e.funs n (side_of left) b mac t 0 s.actions)
        made o j arity b mac t f message test gs side r ar less mem is fit guard used =
            let p = fits-split (times_of m) o.bound (with_indices arity b) gs fit in
            let fs : List Value = p.0 in
            let q = fits-indices_from (times_of m) arity b p.1 p.4 in
            let ns : List ℕ = q.0 in
            let es : List Value = q.1 in
            let gs_is : gs ≡ fs ++ values_of ns es = p.2 ∙ ap (λ x. fs ++ x) q.2 in
            let long : length o.bound ≡ length fs = fits-length (times_of m) o.bound fs p.3 in
            let inside = role_from o.role arity (length o.bound) f message test is in
            let pass : EntryPasses (own_scope (action_at s j).arity) o =
            action_passes e s facts sorted m M left k [] j less o mem in
            let pass' : RolePasses (own_scope (length ns)) (length fs) o.role =
            subst (λ c. RolePasses (own_scope c) (length fs) o.role) (ar ∙ sym q.3)
            (subst (λ d. RolePasses (own_scope (action_at s j).arity) d o.role) long pass.1) in
            let met : is_upto (ts_value (times_of m) a (fs ++ values_of ns es)
            (action j (binders (length fs) (length ns))))
            (ts_value (times_of m) a (fs ++ values_of ns es)
            (lifted_ts (length fs + length ns) (reach mac t))) ≡ true =
            sym (value-truth_of (λ x. false) _)
            ∙ subst (λ d. is_true (translate trace a (fs ++ values_of ns es)
            (le (action j (binders d (length ns)))
            (lifted_ts (d + length ns) (reach mac t)))) ≡ true) long
            (subst (λ c. is_true (translate trace a (fs ++ values_of ns es)
            (in_action j c b mac t o).guard) ≡ true) (sym q.3)
            (subst (λ x. is_true (translate trace a x (in_action j arity b mac t o).guard) ≡ true)
            gs_is guard)) in
            let used' : Uses side r a (fs ++ values_of ns es)
            (map_term (binding (length ns) Both) (length fs) inside.0) =
            subst (λ d. Uses side r a (fs ++ values_of ns es)
            (map_term (binding (length ns) Both) d inside.0)) long
            (subst (λ c. Uses side r a (fs ++ values_of ns es)
            (map_term (binding c Both) (length o.bound) inside.0)) (sym q.3)
            (subst (λ y. Uses side r a (fs ++ values_of ns es) y) inside.2
            (subst (λ x. Uses side r a x message) gs_is used))) in
            instance_listed b mac t o f inside.0 test fs es j ns
            (guard_reached j fs ns es mac t met) mem inside.1 p.3 q.4 pass' side r used'

    -- ---- in the term itself

    pub message_listed : (t : TermTree) (u : OccTree) (f : Kind) (message : TermTree) (test : Bool)
        (es : List Value) (side : Bool) (r : Role)
        → holds_schema t ≡ false
        → Member (side_places e.funs k (side_of left) s t) u → u.role ≡ key f message test
        → Fits (times_of m) u.bound es → is_true (translate trace a es u.guard) ≡ true
        → Uses side r a es message
        → IsListed trace a js r (side_places e.funs n (side_of left) s t)
    message_listed t u f message test es side r plain mem is fit guard used =
        from (origin e.funs k n
        (λ b mac t. in_actions e.funs k (side_of left) b mac t 0 s.actions)
        (λ b mac t. in_actions e.funs n (side_of left) b mac t 0 s.actions) (times_of m)
        (λ es mac t. Unit {0}) (λ c. ⊥) (projected (side_of left) t) [] false false u around mem)
      where
        around : (es : List Value) → Fits (times_of m) [] es
            → AtPlaces (times_of m) (λ es mac t. Unit {0}) (λ c. ⊥) es (projected (side_of left) t)
        around es f =
            plain_places (times_of m) (λ es mac t. Unit {0}) (λ c. ⊥) (side_of left)
            (λ es mac t. tt) t 0 es plain

        from : Origin e.funs k n
            (λ b mac t. in_actions e.funs k (side_of left) b mac t 0 s.actions)
            (λ b mac t. in_actions e.funs n (side_of left) b mac t 0 s.actions) (times_of m)
            (λ es mac t. Unit {0}) (λ c. ⊥) (side_places e.funs n (side_of left) s t) u
            → IsListed trace a js r (side_places e.funs n (side_of left) s t)
        from (inr (b, mac, y, j, sub)) =
            listed_more trace a js r _ _ sub
            (macro_listed b mac y u f message test es side r j is fit guard used)
        from (inl h) =
            let walked = subst (λ o. Each (Member (side_places e.funs n (side_of left) s t))
            (inner e.funs k n (λ b mac t. in_actions e.funs k (side_of left) b mac t 0 s.actions)
            (λ b mac t. in_actions e.funs n (side_of left) b mac t 0 s.actions) (times_of m)
            (λ es mac t. Unit {0}) (λ c. ⊥) u.bound o)) is h.0 in
            let at : AtPlaces (times_of m) (λ es mac t. Unit {0}) (λ c. ⊥) es message =
            subst (RoleAt e.funs k n
            (λ b mac t. in_actions e.funs k (side_of left) b mac t 0 s.actions)
            (λ b mac t. in_actions e.funs n (side_of left) b mac t 0 s.actions) (times_of m)
            (λ es mac t. Unit {0}) (λ c. ⊥) es) is (h.1 es fit) in
            listed_more trace a js r _ _ walked
            (⊎_elim (λ x. x) (λ no. absurd no)
            (walk_law e.funs n js trace a (λ r. ⊥) (λ r no. no)
            (λ b mac t. in_actions e.funs n (side_of left) b mac t 0 s.actions) (λ b k. [])
            (λ es mac t. Unit {0}) (λ k. ⊥)
            (λ b es mac t side r f p x.
            inl (early_listed e s facts sorted m M left n js a b es mac t
            r f (macro_use e.funs s m left n js facts M mac (ts_value (times_of m) a es t) side r
            x)))
            (λ k side r no x. no) message u.bound es false side (λ x. absurd (no_truth x)) at fit r
            used))

pub messages_listed : MessagesAreListed
messages_listed e s m left a k n js t u f message test es equated r facts sorted M plain mem is fit
    guard used =
    message_listed e s facts sorted m M left k n js a t u f message test es equated r plain mem is
    fit guard used
