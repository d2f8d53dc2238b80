-- Names and the roles of their occurrences.
use Rattle.std.proofs.Common.{◌≡◌, refl, ℕ, List, [], ◌∷◌, ◌++◌, Bool, true, false}
use Rattle.std.proofs.Common.{◌&&◌, ◌==◌, ◌⊎◌, inl, inr}
use Rattle.std.proofs.lemmas.Bool.{eqb-true}
use Rattle.sq_term.specs.declared.signature.FunDecl.{FunDecl}
use Rattle.sq_term.specs.Ground.{Ground, named, applied, atom}
use Rattle.sq_term.specs.GroundOccurrences as ground
use Rattle.sq_term.specs.Lists.{Member, here, there, same_numbers}
use Rattle.sq_term.specs.Signatures.{function_role, is_keyed, is_equality}
use Rattle.sq_term.specs.Symbols.{Kind, declared}
use Rattle.sq_term.specs.Syntax.{TermTree, name}
use Rattle.sq_term.proofs.BoolTests.{and_split, and_both, number_itself, same_numbers-true}
use Rattle.sq_term.proofs.BoolTests.{same_numbers_itself}
use Rattle.sq_occ.specs.Walks.{is_name, name_args}

pub no_truth : false ≡ true → ⊥
no_truth e = cc

pub name_itself : (n : ℕ) (js : List ℕ) → ground.is_name n js (named n js) ≡ true
name_itself n js =
    and_both (n == n) (same_numbers js js) (number_itself n) (same_numbers_itself js)

pub ground_name_is : (n : ℕ) (js : List ℕ) (t : Ground) → ground.is_name n js t ≡ true
    → t ≡ named n js
ground_name_is n js (named k is) e =
    let p : ((k == n) ≡ true) × (same_numbers is js ≡ true) = and_split (k == n) _ e in
    cc (eqb-true k n p.0, same_numbers-true is js p.1)
ground_name_is n js (applied f is ts) e = absurd (no_truth e)
ground_name_is n js (atom k) e = absurd (no_truth e)

pub name_is : (n : ℕ) (t : TermTree) → is_name n t ≡ true → t ≡ name n (name_args t)
name_is n (name k is) e = let q : k ≡ n = eqb-true k n e in cc
name_is n _ e = absurd (no_truth e)

pub keyed_not_equality : (funs : List FunDecl) (f : Kind)
    → is_keyed (function_role funs f) ≡ true → is_equality f ≡ false
keyed_not_equality funs (declared k) e = refl
keyed_not_equality funs _ e = absurd (no_truth e)

pub and_weaker : (s t h : Bool) → (s ≡ true → t ≡ true) → (s && h) ≡ true → (t && h) ≡ true
and_weaker true t h f e = and_both t h (f refl) e
and_weaker false t h f e = absurd (no_truth e)

-- a member of two lists is in one of them
pub member-append_from : {A : Type 0} (xs ys : List A) (x : A) → Member (xs ++ ys) x
    → Member xs x ⊎ Member ys x
member-append_from [] ys x i = inr i
member-append_from (y ∷ xs) ys x here = inl here
member-append_from (y ∷ xs) ys x (there i) = later (member-append_from xs ys x i)
  where
    later : Member xs x ⊎ Member ys x → Member (y ∷ xs) x ⊎ Member ys x
    later (inl j) = inl (there j)
    later (inr j) = inr j

pub member-only : {A : Type 0} (xs : List A) (x : A) → Member (xs ++ []) x → Member xs x
member-only [] x i = i
member-only (y ∷ xs) x here = here
member-only (y ∷ xs) x (there i) = there (member-only xs x i)

pub member-either : {A : Type 0} (xs ys : List A) (x : A) → Member (xs ++ (ys ++ [])) x
    → Member xs x ⊎ Member ys x
member-either xs ys x i = later (member-append_from xs (ys ++ []) x i)
  where
    later : Member xs x ⊎ Member (ys ++ []) x → Member xs x ⊎ Member ys x
    later (inl j) = inl j
    later (inr j) = inr (member-only ys x j)
