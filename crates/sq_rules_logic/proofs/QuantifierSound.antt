-- The rows of quantifiers keep what holds.
use Rattle.std.proofs.Common.{◌≡◌, refl, sym, subst, List, ◌∷◌, [], map, length, Some, Bool}
use Rattle.std.proofs.Common.{true, false, ◌||◌}
use Rattle.std.specs.List.{list_all}
use Rattle.sq_base.specs.declared.sort.Sort.{Sort}
use Rattle.sq_base.specs.declared.sort.Sort.TheVariants.{Message, Boolean}
use Rattle.sq_term.specs.declared.model.Value.{Value}
use Rattle.sq_term.specs.declared.term.Side.TheVariants.{Left, Right}
use Rattle.sq_term.specs.Arguments.{ArgTree}
use Rattle.sq_term.specs.Ground.{Ground}
use Rattle.sq_term.specs.Lists.{Member, Each}
use Rattle.sq_term.specs.Syntax.{TermTree, all, some}
use Rattle.sq_term.specs.Translate.{Assignment, domain, translate}
use Rattle.sq_term.specs.Within.{IsWithin}
use Rattle.sq_term.proofs.BoolTests.{and_split}
use Rattle.sq_term.proofs.Members.{each_none, each_cons, member-map}
use Rattle.sq_typing.specs.Standing.{Subject, of_trace, of_side, may_stand, suits}
use Rattle.sq_typing.specs.Typing.{Signature, has_sort}
use Rattle.sq_subst.specs.Laws.{arg_value}
use Rattle.sq_subst.specs.Substitution.{opened}
use Rattle.sq_subst.proofs.Laws.{open_law}
use Rattle.sq_system.specs.Sequents.{Item, item, SequentTree, trace, local, equiv, vars_of, hyps_of}
use Rattle.sq_system.specs.WellFormed.{has_both_sorts, is_item}
use Rattle.sq_system.specs.WellFormed.{is_sorted}
use Rattle.sq_ground.specs.Truth.{IsTrueAt}
use Rattle.sq_ground.specs.Theories.{Theory, world_at}
use Rattle.sq_ground.specs.Holding.{Fits, IsAssignment, HoldsAt}
use Rattle.sq_ground.proofs.Propositional.{conj-to, disj-from}
use Rattle.sq_sequent.specs.Views.{goal_of}
use Rattle.sq_sequent.specs.Premises.{asking, assuming, with_variable, new_variable}
use Rattle.sq_formula.proofs.Opened.{is_value}
use Rattle.sq_sequent.proofs.Reaches.{sorted_within}
use Rattle.sq_sequent.proofs.Values.{value-closed}
use Rattle.sq_rules_logic.proofs.FurtherVariable.{ItemWithin, alli_trace, alli_local, exe_trace}
use Rattle.sq_rules_logic.proofs.FurtherVariable.{exe_local, exe_equiv}
use Rattle.sq_rules_logic.proofs.Holding.{asked_sound, assume_sound, hyp_true}
use Rattle.sq_rules_logic.proofs.Domains.{IsPlaced, value_member}

-- ---- at a value

module _ (th : Theory) (placed : IsPlaced th.times) (g : Signature) (s : SequentTree)
    (over : g.vars ≡ vars_of s) (x : Sort) (F : TermTree) (w : ArgTree)
    (fit : is_value g x w ≡ true) where
  abbrev at_value : Bool → Assignment → Value → Ground
  at_value left a v = translate (world_at th left) a (v ∷ []) F

  meaning : (left : Bool) (a : Assignment)
      → translate (world_at th left) a [] (opened w F) ≡ at_value left a (arg_value th.times a w)
  meaning left a = open_law (world_at th left) a w F (value-closed g x w fit)

  among : (left : Bool) (a : Assignment) → IsAssignment th (vars_of s) a
      → Member (map (at_value left a) (domain th.times x))
      (at_value left a (arg_value th.times a w))
  among left a f =
      member-map (at_value left a) (domain th.times x) (arg_value th.times a w)
      (value_member th.times placed g a
      (subst (λ vs. Fits th.times vs a.variables) (sym over) f.values)
      x w fit)

  pub exi_sound : goal_of s ≡ Some (some x F) → HoldsAt th (asking s (opened w F)) → HoldsAt th s
  exi_sound e =
      asked_sound th s (some x F) e (opened w F)
      (λ left a f v h i.
      disj-from v (map (at_value left a) (domain th.times x))
      (at_value left a (arg_value th.times a w)) (among left a f)
      (subst (IsTrueAt v) (meaning left a) i))

  pub alle_sound : Member (hyps_of s) (all x F) → HoldsAt th (assuming s (opened w F))
      → HoldsAt th s
  alle_sound m =
      assume_sound th s (opened w F)
      (λ left a f v h.
      subst (IsTrueAt v) (sym (meaning left a))
      (conj-to v (map (at_value left a) (domain th.times x))
      (hyp_true th (hyps_of s) (all x F) m left a v h)
      (at_value left a (arg_value th.times a w)) (among left a f)))

-- ---- variables that a sequent names

all_each : {A : Type 0} (p : A → Bool) (P : A → Type 0) → ((x : A) → p x ≡ true → P x)
    → (xs : List A) → list_all p xs ≡ true → Each P xs
all_each p P f [] h = each_none P
all_each p P f (x ∷ xs) h =
    let k = and_split (p x) (list_all p xs) h in
    each_cons x xs P (f x k.0) (all_each p P f xs k.1)

module _ (g : Signature) (vars : List Sort) (over : g.vars ≡ vars) where
  within : (about : Subject) (s : Sort) (t : TermTree) → may_stand g about s t ≡ true
      → IsWithin (length vars) t
  within about s t h =
      subst (λ vs. IsWithin (length vs) t) over
      (sorted_within g [] s t (and_split (has_sort g [] s t) (suits about t) h).0)

  all_within : (about : Subject) (ts : List TermTree)
      → list_all (may_stand g about Boolean) ts ≡ true
      → Each (IsWithin (length vars)) ts
  all_within about ts h =
      all_each (may_stand g about Boolean) (IsWithin (length vars)) (within about Boolean) ts h

  item_within : (i : Item) → is_item g i ≡ true → ItemWithin (length vars) i
  item_within (item t u) h = go (has_both_sorts g Message (item t u)) refl h
    where
      parts : (s : Sort) → has_both_sorts g s (item t u) ≡ true
          → ItemWithin (length vars) (item t u)
      parts s k =
          let p = and_split (may_stand g (of_side Left) s t) (may_stand g (of_side Right) s u) k in
          (within (of_side Left) s t p.0, within (of_side Right) s u p.1)

      go : (b : Bool) → has_both_sorts g Message (item t u) ≡ b
          → (b || has_both_sorts g Boolean (item t u)) ≡ true → ItemWithin (length vars) (item t u)
      go true e k = parts Message e
      go false e k = parts Boolean k

  items_within : (is : List Item) → list_all (is_item g) is ≡ true
      → Each (ItemWithin (length vars)) is
  items_within is h = all_each (is_item g) (ItemWithin (length vars)) item_within is h

-- ---- at a new variable

module _ (th : Theory) (g : Signature) (x : Sort) (F : TermTree) where
  pub alli_sound : (s : SequentTree) → g.vars ≡ vars_of s → is_sorted g s ≡ true
      → goal_of s ≡ Some (all x F)
      → HoldsAt th (with_variable x (asking s (opened (new_variable x s) F))) → HoldsAt th s
  unfolding goal_of asking with_variable
  alli_sound (trace vars H c) over h e p =
      let z : c ≡ all x F = cc in
      let k = and_split (list_all (may_stand g of_trace Boolean) H)
      (may_stand g of_trace Boolean c) h in
      let f : IsWithin (length vars) (all x F) =
      subst (IsWithin (length vars)) z (within g vars over of_trace Boolean c k.1) in
      subst (λ t. HoldsAt th (trace vars H t)) (sym z)
      (alli_trace th vars H x F (all_within g vars over of_trace H k.0) f p)
  alli_sound (local side vars H c) over h e p =
      let z : c ≡ all x F = cc in
      let about : Subject = of_side side in
      let k = and_split (list_all (may_stand g about Boolean) H) (may_stand g about Boolean c) h in
      let f : IsWithin (length vars) (all x F) =
      subst (IsWithin (length vars)) z (within g vars over about Boolean c k.1) in
      subst (λ t. HoldsAt th (local side vars H t)) (sym z)
      (alli_local th vars H x F (all_within g vars over about H k.0) side f p)
  alli_sound (equiv vars H known items) over h e p = absurd (cc)

  pub exe_sound : (s : SequentTree) → g.vars ≡ vars_of s → is_sorted g s ≡ true
      → Member (hyps_of s) (some x F)
      → HoldsAt th (with_variable x (assuming s (opened (new_variable x s) F))) → HoldsAt th s
  unfolding assuming with_variable
  exe_sound (trace vars H c) over h m p =
      let k = and_split (list_all (may_stand g of_trace Boolean) H)
      (may_stand g of_trace Boolean c) h in
      exe_trace th vars H x F (all_within g vars over of_trace H k.0) m c
      (within g vars over of_trace Boolean c k.1) p
  exe_sound (local side vars H c) over h m p =
      let about : Subject = of_side side in
      let k = and_split (list_all (may_stand g about Boolean) H) (may_stand g about Boolean c) h in
      exe_local th vars H x F (all_within g vars over about H k.0) m side c
      (within g vars over about Boolean c k.1) p
  exe_sound (equiv vars H known items) over h m p =
      let j = and_split (list_all (may_stand g of_trace Boolean) H) _ h in
      let l = and_split (list_all (list_all (is_item g)) known) (list_all (is_item g) items) j.1 in
      exe_equiv th vars H x F (all_within g vars over of_trace H j.0) m known items
      (all_each (list_all (is_item g)) (Each (ItemWithin (length vars))) (items_within g vars over)
      known l.0)
      (items_within g vars over items l.1) p
