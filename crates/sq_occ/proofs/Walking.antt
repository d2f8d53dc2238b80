-- What the walk lists at binders and at applications, by the lists that it adds one after the
-- other.
use Rattle.std.proofs.Common.{◌≡◌, refl, sym, ap, ◌∙◌, subst, ℕ, List, [], ◌∷◌, ◌++◌, replicate}
use Rattle.std.proofs.Common.{length, get_or, Bool, false, ◌&&◌, ◌==◌, Some, None, arith}
use Rattle.std.proofs.lemmas.Bool.Decides.{nat_tests}
use Rattle.std.specs.Prelude.{reverse}
use Rattle.std.proofs.lemmas.List.{reverse-append}
use Rattle.sq_base.specs.declared.sort.Sort.{Sort}
use Rattle.sq_base.specs.declared.sort.Sort.TheVariants.{Index}
use Rattle.sq_term.specs.declared.signature.FunRole.{FunRole}
use Rattle.sq_term.specs.declared.term.Idx.{Idx}
use Rattle.sq_term.specs.declared.term.Term.{Term}
use Rattle.sq_term.specs.Signatures.{function_role, is_hash, is_equality}
use Rattle.sq_term.specs.Symbols.{Kind, empty, truth, falsity, negation, conjunction, disjunction}
use Rattle.sq_term.specs.Symbols.{implication, equality, conditional, pairing, first, second}
use Rattle.sq_term.specs.Symbols.{of_bool, attacker, declared, kind_of, function_number}
use Rattle.sq_term.specs.Syntax.{TermTree, TermTrees, fun, find}
use Rattle.sq_term.specs.View.{term_tree, term_trees}
use Rattle.sq_term.proofs.KindNumbers.{function_number-kind_of}
use Rattle.sq_occ.specs.Entries.{public, with_indices}
use Rattle.sq_occ.specs.Walks.{first_term}
use Rattle.sq_occ.specs.Calls.Scans.{Scan, keyed, only, at_name, scanned, key_of, key_role, scan}
use Rattle.sq_occ.specs.Calls.Scans.{scan_first, scan_all}
use Rattle.sq_occ.proofs.Growth.{with_indices-reverse}

module _ (S : Scan) (above : List Sort) (e : Bool) where
  pub find_parts : (k : ℕ) (i j : List Sort) (t a b o x y z : TermTree) → t ≡ find k a b o
      → i ≡ above ++ replicate k Index → j ≡ above ++ replicate k Index
      → x ≡ a → y ≡ b → z ≡ o
      → scan S (reverse above) e t
      ≡ scan S (reverse i) false x
      ++ (scan S (reverse j) false y ++ scan S (reverse above) false z)
  find_parts k i j t a b o x y z is p q u v w =
      let one : with_indices k (reverse above) ≡ reverse i =
      with_indices-reverse k above ∙ ap reverse (sym p) in
      let two : with_indices k (reverse above) ≡ reverse j =
      with_indices-reverse k above ∙ ap reverse (sym q) in
      ap (scan S (reverse above) e) is ∙ cc (one, two, u, v, w)

  pub below_is : (s : Sort) (i : List Sort) (x y : TermTree) → i ≡ above ++ s ∷ [] → y ≡ x
      → scan S (s ∷ reverse above) false x ≡ scan S (reverse i) false y
  below_is s i x y p u =
      let one : reverse i ≡ s ∷ reverse above =
      ap reverse p ∙ reverse-append above (s ∷ []) in
      cc (one, u)

-- ---- applications

by_kind : (k : Kind) → (function_number k == 7) ≡ is_equality k
by_kind empty = refl
by_kind truth = refl
by_kind falsity = refl
by_kind negation = refl
by_kind conjunction = refl
by_kind disjunction = refl
by_kind implication = refl
by_kind equality = refl
by_kind conditional = refl
by_kind pairing = refl
by_kind first = refl
by_kind second = refl
by_kind of_bool = refl
by_kind attacker = refl
by_kind (declared j) = grind (arith, nat_tests)

pub equality_test : (f n : ℕ) → n ≡ 7 → (f == n) ≡ is_equality (kind_of f)
equality_test f n h =
    ap (λ x. f == x) h
    ∙ (ap (λ x. x == 7) (sym (function_number-kind_of f)) ∙ by_kind (kind_of f))

module _ (S : Scan) (b : List Sort) (e : Bool) (f : Kind) (role : FunRole)
    (role_is : role ≡ function_role S.funs f) where
  -- an application to a message and the name
  pub key_parts : (args : List Term) (is : List Idx) (m n : Term) (test : Bool)
      → keyed S.name S.left role (term_trees args) ≡ Some is → length args ≡ 2
      → m ≡ get_or args 0 m → n ≡ get_or args 0 n → test ≡ (e && is_hash role)
      → scan S b e (fun f [] (term_trees args))
      ≡ scanned S is (key_of S f (term_tree m) test b) b ∷ scan S b false (term_tree n)
  key_parts [] is m n test h two p q t = absurd (omega (arith, two))
  key_parts (x ∷ xs) is m n test h two p q t =
      let here : keyed S.name S.left (function_role S.funs f) (term_trees (x ∷ xs)) ≡ Some is =
      subst (λ r. keyed S.name S.left r (term_trees (x ∷ xs)) ≡ Some is) role_is h in
      let message : term_tree x ≡ term_tree m = ap term_tree (sym p) in
      let rest : term_tree x ≡ term_tree n = ap term_tree (sym q) in
      let tests : (e && is_hash (function_role S.funs f)) ≡ test =
      ap (λ r. e && is_hash r) (sym role_is) ∙ sym t in
      ap (λ o. at_name o
      (λ js. scanned S js (key_role S e f (term_tree x) b) b ∷ scan S b false (term_tree x))
      (at_name (only S.name S.left (function_role S.funs f) (term_trees (x ∷ xs)))
      (λ js. scanned S js public b ∷ [])
      (scan_all S b (is_equality f) (term_trees (x ∷ xs))))) here
      ∙ cc (message, rest, tests)

  pub all_parts : (ts : TermTrees) (equation : Bool) → keyed S.name S.left role ts ≡ None
      → only S.name S.left role ts ≡ None → equation ≡ is_equality f
      → scan S b e (fun f [] ts) ≡ scan_all S b equation ts
  all_parts ts equation h k q =
      let keyed_none : keyed S.name S.left (function_role S.funs f) ts ≡ None =
      subst (λ r. keyed S.name S.left r ts ≡ None) role_is h in
      let only_none : only S.name S.left (function_role S.funs f) ts ≡ None =
      subst (λ r. only S.name S.left r ts ≡ None) role_is k in
      ap (λ o. at_name o
      (λ js. scanned S js (key_role S e f (first_term ts) b) b ∷ scan_first S b ts)
      (at_name (only S.name S.left (function_role S.funs f) ts)
      (λ js. scanned S js public b ∷ []) (scan_all S b (is_equality f) ts))) keyed_none
      ∙ (ap (λ o. at_name o (λ js. scanned S js public b ∷ [])
      (scan_all S b (is_equality f) ts)) only_none
      ∙ ap (λ c. scan_all S b c ts) (sym q))
