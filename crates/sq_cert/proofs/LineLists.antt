-- A text as its lines: where a line ends, and which lines stand at the front.
use Rattle.std.proofs.Common.{◌≡◌, ◌≢◌, ℕ, suc, Bool, true, false, ◌&&◌, nat_eq}
use Rattle.std.proofs.Common.{List, [], ◌∷◌, ◌++◌}
use Rattle.std.proofs.Common.{length, refl, sym, ap, ◌∙◌, append_assoc, arith}
use Rattle.std.specs.List.{list_all}
use Rattle.std.proofs.lemmas.Bool.Decides.{nat_tests}
use Rattle.sq_cert.specs.Certificates.{lines_text}
use Rattle.sq_cert.specs.Refusals.{IsOneLine}

-- ---- tests of a list

pub both : (a b : Bool) → (a && b) ≡ true → (a ≡ true) × (b ≡ true)
both true true h = (refl, refl)
both true false h = cc
both false b h = cc

pub and_true : (a b : Bool) → a ≡ true → b ≡ true → (a && b) ≡ true
and_true a b ha hb = rw (ha, hb)

pub list_all-joined : {A : Type 0} (p : A → Bool) (xs ys : List A) → list_all p xs ≡ true
    → list_all p ys ≡ true → list_all p (xs ++ ys) ≡ true
list_all-joined p [] ys hx hy = hy
list_all-joined p (x ∷ xs) ys hx hy =
    let fit = both (p x) (list_all p xs) hx in
    and_true (p x) (list_all p (xs ++ ys)) fit.0 (list_all-joined p xs ys fit.1 hy)

-- ---- lines

abbrev pub HasNoNewline : List ℕ → Type 0
HasNoNewline [] = Unit {0}
HasNoNewline (c ∷ cs) = (nat_eq c 10 ≡ false) × HasNoNewline cs

abbrev pub AreLines : List (List ℕ) → Type 0
AreLines [] = Unit {0}
AreLines (l ∷ ls) = HasNoNewline l × AreLines ls

pub no_newline : (l : List ℕ) → IsOneLine l → HasNoNewline l
no_newline [] h = tt
no_newline (c ∷ cs) h =
    let other : c ≢ 10 = h 0 c (omega arith) in (
      grind (arith, nat_tests),
      no_newline cs (λ k d within. h (suc k) d (omega arith)),
    )

pub no_newline-append : (a b : List ℕ) → HasNoNewline a → HasNoNewline b → HasNoNewline (a ++ b)
no_newline-append [] b ha hb = hb
no_newline-append (c ∷ a) b ha hb = (ha.0, no_newline-append a b ha.1 hb)

pub are_lines-append : (a b : List (List ℕ)) → AreLines a → AreLines b → AreLines (a ++ b)
are_lines-append [] b ha hb = hb
are_lines-append (l ∷ a) b ha hb = (ha.0, are_lines-append a b ha.1 hb)

pub are_lines-front : (a b : List (List ℕ)) → AreLines (a ++ b) → AreLines a
are_lines-front [] b h = tt
are_lines-front (l ∷ a) b h = (h.0, are_lines-front a b h.1)

pub lines_text-append : (a b : List (List ℕ)) → lines_text (a ++ b) ≡ lines_text a ++ lines_text b
lines_text-append [] b = refl
lines_text-append (l ∷ a) b = ap (λ x. l ++ 10 ∷ x) (lines_text-append a b)
    ∙ sym (append_assoc l (10 ∷ lines_text a) (lines_text b))

-- ---- the line in front of a newline

-- where no newline stands in two lines, they end at the same place
pub cut_same : (l k x y : List ℕ) → HasNoNewline l → HasNoNewline k → l ++ 10 ∷ x ≡ k ++ 10 ∷ y
    → (l ≡ k) × (x ≡ y)
cut_same [] [] x y hl hk e = (refl, cc)
cut_same [] (d ∷ k) x y hl hk e =
    let same : 10 ≡ d = cc in absurd (cc (hk.0, ap (λ c. nat_eq c 10) same))
cut_same (c ∷ l) [] x y hl hk e =
    let same : 10 ≡ c = cc in absurd (cc (hl.0, ap (λ c. nat_eq c 10) same))
cut_same (c ∷ l) (d ∷ k) x y hl hk e =
    let first : c ≡ d = cc in
    let rest : l ++ 10 ∷ x ≡ k ++ 10 ∷ y = cc in
    let more = cut_same l k x y hl.1 hk.1 rest in
    ((λ i. first i ∷ more.0 i), more.1)

pub no_cut : (r k y : List ℕ) → HasNoNewline r → r ≢ k ++ 10 ∷ y
no_cut [] [] y h e = cc
no_cut [] (d ∷ k) y h e = cc
no_cut (c ∷ r) [] y h e = let same : c ≡ 10 = cc in cc (h.0, ap (λ c. nat_eq c 10) same)
no_cut (c ∷ r) (d ∷ k) y h e = let rest : r ≡ k ++ 10 ∷ y = cc in no_cut r k y h.1 rest

-- ---- the lines at the front of a text

-- what stands in front of an unfinished line begins with each list of whole lines at the front
pub lines_front : (ls ks : List (List ℕ)) (r q : List ℕ) → AreLines ls → AreLines ks
    → HasNoNewline r → lines_text ls ++ r ≡ lines_text ks ++ q
    → (more : List (List ℕ)) × (ls ≡ ks ++ more)
lines_front ls [] r q hl hk hr e = (ls, refl)
lines_front [] (k ∷ ks) r q hl hk hr e =
    absurd (no_cut r k (lines_text ks ++ q) hr (e ∙ append_assoc k (10 ∷ lines_text ks) q))
lines_front (l ∷ ls) (k ∷ ks) r q hl hk hr e =
    let cut =
    cut_same l k (lines_text ls ++ r) (lines_text ks ++ q) hl.0 hk.0
    (sym (append_assoc l (10 ∷ lines_text ls) r) ∙ e ∙ append_assoc k (10 ∷ lines_text ks) q) in
    let rest = lines_front ls ks r q hl.1 hk.1 hr cut.1 in
    (rest.0, (λ i. cut.0 i ∷ rest.1 i))

-- of two lists of whole lines at the front of a text one begins with the other
pub data Front (ls ks : List (List ℕ)) : Type 0 where
  longer : (more : List (List ℕ)) → ls ≡ ks ++ more → Front ls ks
  shorter : (next : List ℕ) (more : List (List ℕ)) → ks ≡ ls ++ next ∷ more → Front ls ks

pub front_of : (ls ks : List (List ℕ)) (r q : List ℕ) → AreLines ls → AreLines ks
    → lines_text ls ++ r ≡ lines_text ks ++ q → Front ls ks
front_of ls [] r q hl hk e = longer ls refl
front_of [] (k ∷ ks) r q hl hk e = shorter k ks refl
front_of (l ∷ ls) (k ∷ ks) r q hl hk e =
    let cut =
    cut_same l k (lines_text ls ++ r) (lines_text ks ++ q) hl.0 hk.0
    (sym (append_assoc l (10 ∷ lines_text ls) r) ∙ e ∙ append_assoc k (10 ∷ lines_text ks) q) in
    more_of cut.0 (front_of ls ks r q hl.1 hk.1 cut.1)
  where
    more_of : l ≡ k → Front ls ks → Front (l ∷ ls) (k ∷ ks)
    more_of same (longer more is) = longer more (λ i. same i ∷ is i)
    more_of same (shorter next more is) = shorter next more (λ i. sym same i ∷ is i)

-- ---- lists of one length in front of others

pub append_same : {A : Type 0} (a b x y : List A) → length a ≡ length b → a ++ x ≡ b ++ y
    → (a ≡ b) × (x ≡ y)
append_same [] [] x y n e = (refl, e)
append_same [] (d ∷ b) x y n e = absurd (omega arith)
append_same (c ∷ a) [] x y n e = absurd (omega arith)
append_same (c ∷ a) (d ∷ b) x y n e =
    let first : c ≡ d = cc in
    let rest : a ++ x ≡ b ++ y = cc in
    let count : length a ≡ length b = omega arith in
    let more = append_same a b x y count rest in
    ((λ i. first i ∷ more.0 i), more.1)

-- a list that ends with this element and begins with another list is that list, or what stands in
-- front of the element begins with it
pub data Last {A : Type 0} (front ks : List A) (x : A) : Type 0 where
  here : front ++ x ∷ [] ≡ ks → Last front ks x
  before : (more : List A) → front ≡ ks ++ more → Last front ks x

pub last_of : {A : Type 0} (front ks more : List A) (x : A) → front ++ x ∷ [] ≡ ks ++ more
    → Last front ks x
last_of front [] more x e = before front refl
last_of [] (k ∷ []) more x e = here (ap (λ y. y ∷ []) cc)
last_of [] (k ∷ j ∷ ks) more x e = cc
last_of (l ∷ front) (k ∷ ks) more x e =
    let first : l ≡ k = cc in
    let rest : front ++ x ∷ [] ≡ ks ++ more = cc in
    further first (last_of front ks more x rest)
  where
    further : l ≡ k → Last front ks x → Last (l ∷ front) (k ∷ ks) x
    further same (here is) = here (λ i. same i ∷ is i)
    further same (before others is) = before others (λ i. same i ∷ is i)
