-- What holds of an outcome, and the steps that keep it.
use Rattle.std.proofs.Common.{◌≡◌, Bool, true, false, if◌then◌else◌, List, [], ◌∷◌, refl, ap, subst}
use Rattle.std.proofs.Common.{rules}
use Rattle.std.specs.Prelude.{⊤, Option, Some, None}
use Rattle.std.proofs.lemmas.Slice.Eq.{bytes_eq-Decides}
use Rattle.std.proofs.lemmas.Bool.Decides.{Decides-eqb}
use denote.Enum.Bare.{same_true, true_same}
use Rattle.sq_base.specs.declared.sort.Sort.{Sort}
use Rattle.sq_base.specs.declared.sort.Sort.TheVariants as sort
use Rattle.sq_token.specs.contracts.kind.Reserved.{the_type as reserved_type}
use Rattle.sq_token.specs.contracts.kind.Punctuation.{the_type as mark_type}
use Rattle.sq_token.specs.declared.kind.Reserved.{Reserved}
use Rattle.sq_token.specs.declared.kind.Reserved.TheVariants as r
use Rattle.sq_token.specs.Sign.{Sign, word, number, reserved, mark}
use Rattle.sq_ast.specs.Grammar.{sort_word, IsBinderSort}
use Rattle.sq_parse_term.specs.Parse.{Read, deep, none, got, bind, recover, same, eat, identifier}
use Rattle.sq_parse_term.specs.Parse.{sort_of, got_some, sort_name}

abbrev pub Holds : {A : Type 0} → Type 0 → Type 0 → (A → List Sign → Type 0) → Read A → Type 0
Holds d n Q deep = d
Holds d n Q none = n
Holds d n Q (got a q) = Q a q

-- whatever was read has Q
abbrev pub Tells : {A : Type 0} → (A → List Sign → Type 0) → Read A → Type 0
Tells Q m = Holds ⊤ ⊤ Q m

-- something was read, and has Q, unless the place runs deep
abbrev pub Finds : {A : Type 0} → (A → List Sign → Type 0) → Read A → Type 0
Finds Q m = Holds ⊤ ⊥ Q m

module _ {A B : Type 0} (d n : Type 0) (P : A → List Sign → Type 0)
    (Q : B → List Sign → Type 0) where
  pub bind_holds : (m : Read A) (f : A → List Sign → Read B) → Holds d n P m
      → ((a : A) (q : List Sign) → P a q → Holds d n Q (f a q)) → Holds d n Q (bind m f)
  bind_holds deep f h g = h
  bind_holds none f h g = h
  bind_holds (got a q) f h g = g a q h

  pub recover_holds : (k : Type 0) (m : Read A) (f : A → List Sign → Read B) (e : Read B)
      → Holds d k P m → ((a : A) (q : List Sign) → P a q → Holds d n Q (f a q)) → Holds d n Q e
      → Holds d n Q (recover m f e)
  recover_holds k deep f e h g i = h
  recover_holds k none f e h g i = i
  recover_holds k (got a q) f e h g i = g a q h

  pub recover_finds : (m : Read A) (f : A → List Sign → Read B) (e : Read B) → Holds d ⊥ P m
      → ((a : A) (q : List Sign) → P a q → Holds d n Q (f a q)) → Holds d n Q (recover m f e)
  recover_finds deep f e h g = h
  recover_finds none f e h g = absurd h
  recover_finds (got a q) f e h g = g a q h

pub and_tells : {A : Type 0} (d n : Type 0) (P Q : A → List Sign → Type 0) (m : Read A)
    → Holds d n P m → Tells Q m → Holds d n (λ a q. P a q × Q a q) m
and_tells d n P Q deep h t = h
and_tells d n P Q none h t = h
and_tells d n P Q (got a q) h t = (h, t)

pub weaken : {A : Type 0} (d n : Type 0) (P Q : A → List Sign → Type 0) (m : Read A) → Holds d n P m
    → ((a : A) (q : List Sign) → P a q → Q a q) → Holds d n Q m
weaken d n P Q deep h f = h
weaken d n P Q none h f = h
weaken d n P Q (got a q) h f = f a q h

-- never deep, and whatever was read has Q
abbrev pub Never : {A : Type 0} → (A → List Sign → Type 0) → Read A → Type 0
Never Q m = Holds ⊥ ⊤ Q m

-- what is never deep is as one likes where it is deep
pub never_holds : {A : Type 0} (d : Type 0) (Q : A → List Sign → Type 0) (m : Read A) → Never Q m
    → Holds d ⊤ Q m
never_holds d Q deep h = absurd h
never_holds d Q none h = h
never_holds d Q (got a q) h = h

-- ---- single tokens

pub same_is : (s t : Sign) → same s t ≡ true → s ≡ t
unfolding same
same_is (word v) (word w) h = ap word ((bytes_eq-Decides v w).0 h)
same_is (number m) (number n) h = ap number ((Decides-eqb m n).0 h)
same_is (reserved v) (reserved w) h = ap reserved (same_true reserved_type (search rules) v w h)
same_is (mark i) (mark j) h = ap mark (same_true mark_type (search rules) i j h)
same_is _ _ h = cc

pub same_self : (s : Sign) → same s s ≡ true
unfolding same
same_self (word v) = (bytes_eq-Decides v v).1 refl
same_self (number m) = (Decides-eqb m m).1 refl
same_self (reserved v) = true_same reserved_type v v refl
same_self (mark i) = true_same mark_type i i refl

pub eat_never : (s : Sign) (ts : List Sign) → Never (λ u q. ts ≡ s ∷ q) (eat s ts)
unfolding eat
eat_never s [] = tt
eat_never s (t ∷ q) = by (same t s) refl
  where
    by : (b : Bool) → same t s ≡ b
        → Never (λ u v. t ∷ q ≡ s ∷ v) (if b then got (tt {0}) q else none)
    by true e = ap (λ x. x ∷ q) (same_is t s e)
    by false e = tt

pub eat_self : (s : Sign) (q : List Sign) → eat s (s ∷ q) ≡ got (tt {0}) q
unfolding eat
eat_self s q = rw (same_self s) refl

pub eat_other : (s t : Sign) (q : List Sign) → (t ≡ s → ⊥) → eat s (t ∷ q) ≡ none
unfolding eat
eat_other s t q h = by (same t s) refl
  where
    by : (b : Bool) → same t s ≡ b → (if b then got (tt {0}) q else none) ≡ none
    by true e = absurd (h (same_is t s e))
    by false e = refl

pub eat_nothing : (s : Sign) → eat s [] ≡ none
unfolding eat
eat_nothing s = refl

pub identifier_never : (ts : List Sign) → Never (λ n q. ts ≡ word n ∷ q) (identifier ts)
identifier_never [] = tt
identifier_never (word w ∷ q) = refl
identifier_never (number n ∷ q) = tt
identifier_never (reserved w ∷ q) = tt
identifier_never (mark i ∷ q) = tt

pub sort_of_is : (w : Reserved) (s : Sort) → sort_of w ≡ Some s → (w ≡ sort_word s) × IsBinderSort s
sort_of_is r.Index s h = let e : sort.Index ≡ s = cc in (ap sort_word e, subst IsBinderSort e tt)
sort_of_is r.Timestamp s h = let e : sort.Timestamp ≡ s = cc in
    (ap sort_word e, subst IsBinderSort e tt)
sort_of_is r.Message s h = let e : sort.Message ≡ s = cc in
    (ap sort_word e, subst IsBinderSort e tt)
sort_of_is _ s h = cc

pub sort_of_word : (s : Sort) → IsBinderSort s → sort_of (sort_word s) ≡ Some s
sort_of_word sort.Message h = refl
sort_of_word sort.Boolean h = absurd h
sort_of_word sort.Index h = refl
sort_of_word sort.Timestamp h = refl

pub sort_name_never : (ts : List Sign)
    → Never (λ s q. (ts ≡ reserved (sort_word s) ∷ q) × IsBinderSort s) (sort_name ts)
sort_name_never [] = tt
sort_name_never (word w ∷ q) = tt
sort_name_never (number n ∷ q) = tt
sort_name_never (mark i ∷ q) = tt
sort_name_never (reserved w ∷ q) = by (sort_of w) refl
  where
    by : (o : Option Sort) → sort_of w ≡ o
        → Never (λ s v. (reserved w ∷ q ≡ reserved (sort_word s) ∷ v) × IsBinderSort s)
        (got_some o q)
    by None e = tt
    by (Some s) e = let i = sort_of_is w s e in (ap (λ x. reserved x ∷ q) i.0, i.1)
