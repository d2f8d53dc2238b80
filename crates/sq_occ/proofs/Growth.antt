-- Lists that grow one after the other.
use Rattle.std.proofs.Common.{◌≡◌, refl, sym, ap, ◌∙◌, subst, ℕ, zero, suc, ◌+◌, ◌<◌, List, [], ◌∷◌}
use Rattle.std.proofs.Common.{◌++◌, length}
use Rattle.std.proofs.Common.{replicate, arith, append_assoc}
use Rattle.std.proofs.Common.{drop, get_or}
use Rattle.std.proofs.lemmas.List.{drop_more}
use Rattle.std.specs.Prelude.{Result, Ok, Err, IsErrAnd, reverse, ◌-◌}
use Rattle.sq_term.specs.declared.term.Idx.{Idx}
use Rattle.sq_term.specs.declared.term.Idx.TheVariants.{Bound}
use Rattle.sq_base.specs.declared.sort.Sort.{Sort}
use Rattle.sq_base.specs.declared.sort.Sort.TheVariants.{Index}
use Rattle.std.proofs.lemmas.List.{length-reverse, reverse-append}
use Rattle.sq_system.specs.declared.fault.OccFault.{OccFault}
use Rattle.sq_term.proofs.Members.{member-append_left, member-append_right}
use Rattle.sq_term.proofs.Views.{tree_rules}
use Rattle.sq_occ.specs.Entries.{OccTree, with_indices}
use Rattle.sq_occ.specs.Searches.{binders}
use Rattle.sq_occ.specs.Sizes.{list_nodes}
use Rattle.sq_system.specs.declared.fault.Occ.{Occ}
use Rattle.sq_occ.specs.Calls.Lists.{Growing, HaveShallowMessages, Refuses, Adds}
use Rattle.sq_occ.specs.Calls.Views.{occ_tree, occ_trees}

pub append_none : {A : Type 0} (xs : List A) → xs ++ [] ≡ xs
append_none [] = refl
append_none (x ∷ xs) = ap (λ ys. x ∷ ys) (append_none xs)

pub list_nodes-append : (us vs : List OccTree) → list_nodes (us ++ vs)
    ≡ list_nodes us + list_nodes vs
list_nodes-append [] vs = omega arith
list_nodes-append (u ∷ us) vs = omega (arith, list_nodes-append us vs)

pub shallow-left : (us vs : List OccTree) → HaveShallowMessages (us ++ vs)
    → HaveShallowMessages us
shallow-left us vs h x i = h x (member-append_left us vs x i)

pub shallow-right : (us vs : List OccTree) → HaveShallowMessages (us ++ vs)
    → HaveShallowMessages vs
shallow-right us vs h x i = h x (member-append_right us vs x i)

-- nothing, one list after the other, and a list that has no room
pub adds_none : {A : Type 0} (v : A) (g : Growing) → Adds g g (Ok v) []
adds_none v g = (sym (append_none g.entries), omega arith)

pub refuses_then : (e : OccFault) (old mid : ℕ) (us vs : List OccTree)
    → mid + list_nodes us ≡ old → Refuses e mid vs → Refuses e old (us ++ vs)
refuses_then e old mid us vs f k n =
    let p = k n in (
      p.0,
      λ shallow.
          let b : mid < list_nodes vs = p.1 (shallow-right us vs shallow) in
          omega (arith, list_nodes-append us vs),
    )

pub adds_then : {A : Type 0} (r : Result A OccFault) (old mid new : Growing) (us vs : List OccTree)
    → mid.entries ≡ old.entries ++ us → mid.room + list_nodes us ≡ old.room
    → Adds mid new r vs → Adds old new r (us ++ vs)
adds_then (Ok w) old mid new us vs h f k = (
  k.0 ∙ (ap (λ es. es ++ vs) h ∙ append_assoc old.entries us vs),
  (let e : new.room + list_nodes vs ≡ mid.room = k.1 in
      omega (arith, list_nodes-append us vs)),
)
adds_then (Err e) old mid new us vs h f k = refuses_then e old.room mid.room us vs f k

pub adds_stop : (e : OccFault) (old : ℕ) (us vs : List OccTree) → Refuses e old us
    → Refuses e old (us ++ vs)
adds_stop e old us vs h n =
    let p = h n in (
      p.0,
      λ shallow.
          let b : old < list_nodes us = p.1 (shallow-left us vs shallow) in
          omega (arith, list_nodes-append us vs),
    )

pub adds_stop_one : (e : OccFault) (old : ℕ) (u : OccTree) (vs : List OccTree)
    → Refuses e old (u ∷ []) → Refuses e old (u ∷ vs)
adds_stop_one e old u vs h = adds_stop e old (u ∷ []) vs h

pub adds_err : {A : Type 0} (r : Result A OccFault) (e : OccFault) (old new : Growing)
    (us : List OccTree) → IsErrAnd r (λ x. x ≡ e) → Refuses e old.room us → Adds old new r us
adds_err (Ok v) e old new us same h = absurd same
adds_err (Err x) e old new us same h = subst (λ y. Refuses y old.room us) (sym same) h

pub adds_nothing : (g : Growing) (us : List OccTree) → us ≡ []
    → (g.entries ≡ g.entries ++ us) × (g.room + list_nodes us ≡ g.room)
adds_nothing g us none =
    let nodes : list_nodes us ≡ 0 = ap list_nodes none in
    (sym (append_none g.entries) ∙ ap (λ vs. g.entries ++ vs) (sym none), omega (arith, nodes))

pub drop_next : {A : Type 0} (xs : List A) (k : ℕ) (x : A) → k < length xs → x ≡ get_or xs k x
    → drop k xs ≡ x ∷ drop (k + 1) xs
drop_next xs k x l e = drop_more xs k x l ∙ ap (λ y. y ∷ drop (k + 1) xs) (sym e)

-- some entries were added, and the rest is still to come
pub record Continues (start mid : Growing) (rest whole : List OccTree) : Type 0 where
  pub done : List OccTree
  pub entries_are : mid.entries ≡ start.entries ++ done
  pub room_is : mid.room + list_nodes done ≡ start.room
  pub whole_is : done ++ rest ≡ whole

pub continues_first : (g : Growing) (whole : List OccTree) → Continues g g whole whole
continues_first g whole = record {
  done = [];
  entries_are = sym (append_none g.entries);
  room_is = omega arith;
  whole_is = refl;
}

pub continues_next : (start mid new : Growing) (us rest whole : List OccTree)
    → Continues start mid (us ++ rest) whole → new.entries ≡ mid.entries ++ us
    → new.room + list_nodes us ≡ mid.room → Continues start new rest whole
continues_next start mid new us rest whole c e f = record {
  done = c.done ++ us;
  entries_are = e ∙ (ap (λ es. es ++ us) c.entries_are ∙ append_assoc start.entries c.done us);
  room_is = omega (arith, f, c.room_is, list_nodes-append c.done us);
  whole_is = append_assoc c.done us rest ∙ c.whole_is;
}

pub continues_stop : (x : OccFault) (start mid : Growing) (us rest whole : List OccTree)
    → Continues start mid (us ++ rest) whole → Refuses x mid.room us → Refuses x start.room whole
continues_stop x start mid us rest whole c r n =
    let p = r n in
    let parts : c.done ++ (us ++ rest) ≡ whole = c.whole_is in (
      p.0,
      λ shallow.
          let within : HaveShallowMessages (us ++ rest) =
          shallow-right c.done (us ++ rest) (subst HaveShallowMessages (sym parts) shallow) in
          let b : mid.room < list_nodes us = p.1 (shallow-left us rest within) in
          let whole_nodes : list_nodes (c.done ++ (us ++ rest)) ≡ list_nodes whole =
          ap list_nodes parts in
          omega (
            arith,
            b,
            whole_nodes,
            c.room_is,
            list_nodes-append c.done (us ++ rest),
            list_nodes-append us rest,
          ),
    )

-- one entry after the other
pub continues_one : (start mid new : Growing) (u v : OccTree) (rest whole : List OccTree)
    → Continues start mid (u ∷ rest) whole → v ≡ u → new.entries ≡ mid.entries ++ v ∷ []
    → new.room + list_nodes (v ∷ []) ≡ mid.room → Continues start new rest whole
continues_one start mid new u v rest whole c e f g =
    continues_next start mid new (v ∷ []) rest whole
    (subst (λ w. Continues start mid (w ∷ rest) whole) (sym e) c) f g

pub continues_stop_one : (x : OccFault) (start mid : Growing) (u v : OccTree)
    (rest whole : List OccTree) → Continues start mid (u ∷ rest) whole → v ≡ u
    → Refuses x mid.room (v ∷ []) → Refuses x start.room whole
continues_stop_one x start mid u v rest whole c e r =
    continues_stop x start mid (v ∷ []) rest whole
    (subst (λ w. Continues start mid (w ∷ rest) whole) (sym e) c) r

pub continues_last : {A : Type 0} (v : A) (start mid : Growing) (whole : List OccTree)
    → Continues start mid [] whole → Adds start mid (Ok v) whole
continues_last v start mid whole c =
    let all : c.done ≡ whole = sym (append_none c.done) ∙ c.whole_is in (
      c.entries_are ∙ ap (λ us. start.entries ++ us) all,
      ap (λ us. mid.room + list_nodes us) (sym all) ∙ c.room_is,
    )

-- binders
pub replicate-push : {A : Type 0} (xs : List A) (c : ℕ) (x : A)
    → (xs ++ replicate c x) ++ x ∷ [] ≡ xs ++ replicate (suc c) x
replicate-push [] zero x = refl
replicate-push [] (suc c) x = ap (λ ys. x ∷ ys) (replicate-push [] c x)
replicate-push (y ∷ xs) c x = ap (λ ys. y ∷ ys) (replicate-push xs c x)

pub occ_trees-push : (os : List Occ) (o : Occ) → occ_trees (os ++ o ∷ []) ≡ occ_trees os
    ++ occ_tree o ∷ []
occ_trees-push [] o = refl
occ_trees-push (x ∷ os) o = ap (λ us. occ_tree x ∷ us) (occ_trees-push os o)

-- the variables of binders, one after the other
pub binders_next : (out : List Idx) (d c k x : ℕ) (whole : List Idx) → k < c
    → x ≡ d + (c - 1 - k) → out ++ binders d (c - k) ≡ whole
    → (out ++ Bound x ∷ []) ++ binders d (c - (k + 1)) ≡ whole
binders_next out d c k x whole l e h =
    let more : c - k ≡ suc (c - (k + 1)) = omega arith in
    let same : x ≡ d + (c - (k + 1)) = e ∙ omega arith in
    append_assoc out (Bound x ∷ []) (binders d (c - (k + 1)))
    ∙ (ap (λ y. out ++ Bound y ∷ binders d (c - (k + 1))) same
    ∙ (ap (λ n. out ++ binders d n) (sym more) ∙ h))

pub binders_done : (out : List Idx) (d c : ℕ) (whole : List Idx)
    → out ++ binders d (c - c) ≡ whole → out ≡ whole
binders_done out d c whole h =
    let none : c - c ≡ 0 = omega arith in
    sym (append_none out) ∙ (ap (λ n. out ++ binders d n) (sym none) ∙ h)

-- the binders above a place in a body, from outside in
pub with_indices-reverse : (c : ℕ) (above : List Sort)
    → with_indices c (reverse above) ≡ reverse (above ++ replicate c Index)
with_indices-reverse zero above = ap reverse (sym (append_none above))
with_indices-reverse (suc c) above =
    let one : Index ∷ reverse above ≡ reverse (above ++ Index ∷ []) =
    sym (reverse-append above (Index ∷ [])) in
    ap (with_indices c) one
    ∙ (with_indices-reverse c (above ++ Index ∷ [])
    ∙ ap reverse (append_assoc above (Index ∷ []) (replicate c Index)))

pub met_binders : (above own : List Sort) (c : ℕ)
    → reverse ((above ++ replicate c Index) ++ own) ≡ reverse own ++ with_indices c (reverse above)
met_binders above own c =
    reverse-append (above ++ replicate c Index) own
    ∙ ap (λ ys. reverse own ++ ys) (sym (with_indices-reverse c above))

pub ruleset binders_rules = (binders_next, binders_done)

pub ruleset add_rules = (occ_trees-push)

pub ruleset under_rules = (replicate-push, append_none)

pub ruleset growth_rules = (adds_none, adds_then, adds_stop, tree_rules)

pub ruleset walk_rules = (
  growth_rules,
  continues_first,
  continues_next,
  continues_stop,
  continues_last,
)

pub ruleset application_rules = (walk_rules, adds_stop_one)

pub ruleset scan_rules = (application_rules, adds_nothing, append_none)

pub ruleset guard_rules = (tree_rules)

pub ruleset met_rules = (tree_rules, met_binders, length-reverse)
