-- A system keeps its facts when an action is added.
use Rattle.std.proofs.Common.{◌≡◌, ℕ, zero, suc, ◌<◌, List, [], ◌∷◌, ◌++◌, Option, Some, None}
use Rattle.std.proofs.Common.{IfSome, length, slice_get, map, option_map, refl, sym, ap, ◌∙◌, subst}
use Rattle.std.proofs.Common.{⊎_elim, ◌⊎◌, inl, inr, sum_by, length-append, arith}
use Rattle.std.specs.Prelude.{◌||◌, false, Bool, true}
use Rattle.std.specs.List.{list_any}
use Rattle.std.proofs.lemmas.Option.{slice_get-map}
use Rattle.sq_term.specs.declared.action.Action.{Action}
use Rattle.sq_term.specs.Syntax.{TermTree, name, fun, macro, schema, diff, le, ts_eq, idx_eq}
use Rattle.sq_term.specs.Syntax.{happens, all, some, find, TermTrees, nil, cons}
use Rattle.sq_term.specs.Systems.{ActionTree, action_tree, SystemTree, system_tree, indices_bound}
use Rattle.sq_system.specs.Limits.{most_actions}
use Rattle.sq_system.specs.Facts.{OnLine, itself, before, IsBody, AreBodies, IsParent, IsAction}
use Rattle.sq_system.specs.Facts.{IsSystem, IsShallow, AreShallow, KeepsFacts, action_holds_diff}
use Rattle.sq_system.specs.Facts.{some_diff}

-- what stands in a list stands there in a longer one
pub slice_get-append : {A : Type 0} (xs ys : List A) (k : ℕ) (x : A) → slice_get xs k ≡ Some x
    → slice_get (xs ++ ys) k ≡ Some x
slice_get-append [] ys k x h = cc
slice_get-append (y ∷ xs) ys zero x h = h
slice_get-append (y ∷ xs) ys (suc k) x h = slice_get-append xs ys k x h

-- an element of a list with one more is one of the list or the last
pub slice_get-push : {A : Type 0} (xs : List A) (y : A) (k : ℕ) (x : A)
    → slice_get (xs ++ y ∷ []) k ≡ Some x
    → (slice_get xs k ≡ Some x) ⊎ ((k ≡ length xs) × (x ≡ y))
slice_get-push [] y zero x h = let e : x ≡ y = cc in inr (refl, e)
slice_get-push [] y (suc k) x h = let e : None ≡ Some x = h in cc
slice_get-push (z ∷ xs) y zero x h = inl h
slice_get-push (z ∷ xs) y (suc k) x h =
    ⊎_elim (λ e. inl e) (λ e. inr (ap suc e.0, e.1)) (slice_get-push xs y k x h)

-- the system with one more action
abbrev pub with_action : SystemTree → ActionTree → SystemTree
with_action s y = record s { actions = s.actions ++ y ∷ [] }

module _ (s : SystemTree) (y : ActionTree) where
  abbrev t : SystemTree
  t = with_action s y

  there_too : (k : ℕ) (x : ActionTree) → slice_get s.actions k ≡ Some x
      → slice_get t.actions k ≡ Some x
  there_too k x h = slice_get-append s.actions (y ∷ []) k x h

  OnLine-more : {k b : ℕ} → OnLine s k b → OnLine t k b
  OnLine-more itself = itself
  OnLine-more (before {a} {p} {b} {x} there parent rest) =
      before (there_too a x there) parent (OnLine-more rest)

  mutual
    IsBody-more : (k n : ℕ) (u : TermTree) → IsBody s k n u → IsBody t k n u
    IsBody-more k n (name m is) h = h
    IsBody-more k n (fun f is ts) h = (h.0, AreBodies-more k n ts h.1)
    IsBody-more k n (macro r at) h =
        record {
          at = h.at;
          there = h.there;
          there_is = there_too h.at h.there h.there_is;
          on_line = OnLine-more h.on_line;
          read_is = h.read_is;
          time_is = h.time_is;
        }
    IsBody-more k n (schema m) h = h
    IsBody-more k n (diff a b) h = (IsBody-more k n a h.0, IsBody-more k n b h.1)
    IsBody-more k n (le a b) h = h
    IsBody-more k n (ts_eq a b) h = h
    IsBody-more k n (idx_eq i j) h = h
    IsBody-more k n (happens at) h = h
    IsBody-more k n (all r u) h = IsBody-more k n u h
    IsBody-more k n (some r u) h = IsBody-more k n u h
    IsBody-more k n (find c u a b) h =
        (IsBody-more k n u h.0, IsBody-more k n a h.1, IsBody-more k n b h.2)

    AreBodies-more : (k n : ℕ) (us : TermTrees) → AreBodies s k n us → AreBodies t k n us
    AreBodies-more k n nil h = h
    AreBodies-more k n (cons u us) h = (IsBody-more k n u h.0, AreBodies-more k n us h.1)

  IsParent-more : (k n : ℕ) (o : Option ℕ) → IfSome o (IsParent s k n) → IfSome o (IsParent t k n)
  IsParent-more k n None h = h
  IsParent-more k n (Some p) h =
      record {
        earlier = h.earlier;
        there = h.there;
        there_is = there_too p h.there h.there_is;
        fewer = h.fewer;
      }

  IsAction-more : (k : ℕ) (a : ActionTree) → IsAction s k a → IsAction t k a
  IsAction-more k a h =
      record {
        parent_is = IsParent-more k a.arity a.parent h.parent_is;
        arity_is = h.arity_is;
        cond_is = IsBody-more k a.arity a.cond h.cond_is;
        output_is = IsBody-more k a.arity a.output h.output_is;
      }

  pub IsSystem-push : IsSystem s → IsAction t (length s.actions) y → IsSystem t
  IsSystem-push old one k a there =
      ⊎_elim (λ in_old. IsAction-more k a (old k a in_old))
      (λ new. subst (λ b. IsAction t k b) (sym new.1) (subst (λ n. IsAction t n y) (sym new.0) one))
      (slice_get-push s.actions y k a there)

  pub AreShallow-push : AreShallow s → IsShallow y → AreShallow t
  AreShallow-push old one k a there =
      ⊎_elim (λ in_old. old k a in_old) (λ new. subst IsShallow (sym new.1) one)
      (slice_get-push s.actions y k a there)

map_push : {A B : Type 0} (f : A → B) (xs : List A) (y : A)
    → map f (xs ++ y ∷ []) ≡ map f xs ++ f y ∷ []
map_push f [] y = refl
map_push f (x ∷ xs) y = ap (λ ys. f x ∷ ys) (map_push f xs y)

pub system_tree-push : (xs : List Action) (a : Action)
    → system_tree (xs ++ a ∷ []) ≡ with_action (system_tree xs) (action_tree a)
system_tree-push xs a = ap (λ ys. record { actions = ys }) (map_push action_tree xs a)

pub length-actions : (xs : List Action) → length (system_tree xs).actions ≡ length xs
length-actions [] = refl
length-actions (b ∷ bs) = ap suc (length-actions bs)

or_assoc : (a b c : Bool) → (a || (b || c)) ≡ ((a || b) || c)
or_assoc true b c = refl
or_assoc false b c = refl

or_false : (a : Bool) → (a || false) ≡ a
or_false true = refl
or_false false = refl

any_push : (xs : List ActionTree) (a : ActionTree)
    → list_any action_holds_diff (xs ++ a ∷ [])
    ≡ (list_any action_holds_diff xs || action_holds_diff a)
any_push [] a = or_false (action_holds_diff a)
any_push (x ∷ xs) a =
    ap (λ b. action_holds_diff x || b) (any_push xs a)
    ∙ or_assoc (action_holds_diff x) (list_any action_holds_diff xs) (action_holds_diff a)

-- what a system keeps when an action is added
pub KeepsFacts-push : (xs : List Action) (a : Action) → KeepsFacts xs → length xs < most_actions
    → IsAction (system_tree (xs ++ a ∷ [])) (length xs) (action_tree a) → IsShallow (action_tree a)
    → KeepsFacts (xs ++ a ∷ [])
KeepsFacts-push xs a facts room one shallow =
    let now : system_tree (xs ++ a ∷ []) ≡ with_action (system_tree xs) (action_tree a) =
    system_tree-push xs a in
    record {
      few = omega (arith, length-append xs (a ∷ []));
      system =
          subst IsSystem (sym now)
          (IsSystem-push (system_tree xs) (action_tree a) facts.system
          (subst (λ s. IsAction s (length (system_tree xs).actions) (action_tree a)) now
          (subst (λ n. IsAction (system_tree (xs ++ a ∷ [])) n (action_tree a))
          (sym (length-actions xs)) one)));
      shallow =
          subst AreShallow (sym now)
          (AreShallow-push (system_tree xs) (action_tree a) facts.shallow shallow);
    }

pub has_diff-push : (b : Bool) (xs : List Action) (a : Action) → b ≡ some_diff (system_tree xs)
    → (b || action_holds_diff (action_tree a)) ≡ some_diff (system_tree (xs ++ a ∷ []))
has_diff-push b xs a e =
    ap (λ c. c || action_holds_diff (action_tree a)) e
    ∙ (sym (any_push (system_tree xs).actions (action_tree a))
    ∙ ap some_diff (sym (system_tree-push xs a)))

-- the path of an action binds as many indices as it has
pub indices_of_path : (xs : List Action) (k : ℕ) (x : Action) → KeepsFacts xs
    → slice_get xs k ≡ Some x → sum_by indices_bound x.path ≡ x.arity
indices_of_path xs k x facts there =
    sym (facts.system k (action_tree x)
    (slice_get-map action_tree xs k ∙ ap (option_map action_tree) there)).arity_is
