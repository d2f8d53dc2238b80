-- A word is told by exactly its own text.
use Rattle.std.proofs.Common.{◌≡◌, ◌<◌, ◌^◌, ℕ, ◌+◌, ◌%◌, Bool, true, false, if◌then◌else◌, nat_eq}
use Rattle.std.proofs.Common.{nat_lt}
use Rattle.std.proofs.Common.{List, [], ◌∷◌, ◌++◌, take, drop, find, slice_index, Option}
use Rattle.std.proofs.Common.{Some, None, option_map, codes, decimal, bytes_eq, refl, sym, ap, ◌∙◌}
use Rattle.std.proofs.Common.{subst, arith, rules}
use Rattle.std.specs.List.{starts_with}
use Rattle.std.specs.Char.{is_ascii_digit}
use Rattle.std.proofs.lemmas.Slice.Eq.{bytes_eq-Decides}
use Rattle.std.proofs.lemmas.Bool.Decides.{nat_tests}
use Rattle.std.proofs.lemmas.Fmt.{decimal_by_steps}
use Rattle.std.proofs.lemmas.List.{take-append-drop}
use Rattle.sq_cert_words.specs.declared.word.Plain.{Plain}
use Rattle.sq_cert_words.specs.declared.word.Plain.TheVariants as plain
use Rattle.sq_cert_words.specs.declared.word.Word.{Word}
use Rattle.sq_cert_words.specs.declared.word.Word.TheVariants as word
use Rattle.sq_cert_words.specs.Numbers.{last_number, two_numbers, three_numbers}
use Rattle.sq_cert_words.specs.Words.{plain_text, plain_words, plain_of, a_plain_word, word_text}
use Rattle.sq_cert_words.specs.Words.{word_of, IsSmall}
use Rattle.sq_cert_words.proofs.NumberLaws.{same_value, last_of_decimal, two_of_decimals}
use Rattle.sq_cert_words.proofs.NumberLaws.{three_of_decimals, last_tells, two_tell, three_tell}
use Rattle.sq_cert_words.proofs.NumberLaws.{decimal_begins}
use Rattle.sq_cert_words.proofs.LineLaws.{IsUnparted}

-- what is found passes the test
pub found_passes : {X : Type 0} (test : X → Bool) (xs : List X) (x : X) → find test xs ≡ Some x
    → test x ≡ true
found_passes test [] x e = cc
found_passes test (y ∷ ys) x e = by (test y) refl e (found_passes test ys x)
  where
    by : (b : Bool) → test y ≡ b → (if b then Some y else find test ys) ≡ Some x
        → (find test ys ≡ Some x → test x ≡ true) → test x ≡ true
    by true p q h = cc
    by false p q h = h q

plain_tells : (text : List ℕ) (p : Plain) → plain_of text ≡ Some p → text ≡ plain_text p
unfolding plain_of
plain_tells text p e =
    sym ((bytes_eq-Decides (plain_text p) text).0
    (found_passes (λ w. bytes_eq (plain_text w) text) plain_words p e))

pub plain_reads : (p : Plain) → word_of (plain_text p) ≡ Some (word.Plain p)
unfolding plain_of
plain_reads plain.Init = refl
plain_reads plain.Pred = refl
plain_reads plain.Input = refl
plain_reads plain.Output = refl
plain_reads plain.Cond = refl
plain_reads plain.Exec = refl
plain_reads plain.Frame = refl
plain_reads plain.Diff = refl
plain_reads plain.Le = refl
plain_reads plain.TsEq = refl
plain_reads plain.IdxEq = refl
plain_reads plain.Happens = refl
plain_reads plain.ForallIndex = refl
plain_reads plain.ForallTimestamp = refl
plain_reads plain.ExistsIndex = refl
plain_reads plain.ExistsTimestamp = refl

-- behind f there is a digit
function_reads : (k : ℕ) (rest : List ℕ) → k < 2 ^ 32
    → is_ascii_digit (slice_index (decimal k ++ rest) 0) ≡ true
function_reads k rest small =
    let h = decimal_begins k (omega arith) in
    ap (λ x. is_ascii_digit (slice_index (x ++ rest) 0)) h.is ∙ h.digit

pub word_reads : (w : Word) → IsSmall w → word_of (word_text w) ≡ Some w
word_reads (word.Plain p) h = plain_reads p
word_reads (word.Free k) h = rw (last_of_decimal k h)
word_reads (word.Bound k) h = rw (last_of_decimal k h)
word_reads (word.Schema k) h = rw (last_of_decimal k h)
word_reads (word.Find c) h = rw (last_of_decimal c h)
word_reads (word.Action k n) h = rw (two_of_decimals k n h.0 h.1)
word_reads (word.Name k n) h = rw (two_of_decimals k n h.0 h.1)
word_reads (word.Function k n m) h =
    rw (
      function_reads k
          (47 ∷ (decimal n ++ 47 ∷ decimal m)) h.0,
      three_of_decimals k n m h.0 h.1 h.2,
    )

-- ---- and back

abbrev Tells : List ℕ → Word → Type 0
Tells text w = (text ≡ word_text w) × IsSmall w

mapped : {A : Type 0} (f : A → Word) (o : Option A) (w : Word) → option_map f o ≡ Some w
    → (a : A) × (o ≡ Some a) × (f a ≡ w)
mapped f None w e = cc
mapped f (Some a) w e = (a, refl, same_value (f a) w e)

numbered_tells : (letter : ℕ) (f : ℕ → Word) (cs : List ℕ) (w : Word)
    → ((k : ℕ) → k < 2 ^ 32 → Tells (letter ∷ decimal k) (f k))
    → option_map f (last_number cs) ≡ Some w → Tells (letter ∷ cs) w
numbered_tells letter f cs w each e =
    let k = mapped f (last_number cs) w e in
    let told = last_tells cs k.0 k.1 in
    let h = each k.0 told.1 in
    (ap (λ x. letter ∷ x) told.0 ∙ h.0 ∙ ap word_text k.2, subst IsSmall k.2 h.1)

counted_tells : (letter : ℕ) (f : ℕ × ℕ → Word) (cs : List ℕ) (w : Word)
    → ((p : ℕ × ℕ) → p.0 < 2 ^ 32 → p.1 < 2 ^ 32
    → Tells (letter ∷ (decimal p.0 ++ 47 ∷ decimal p.1)) (f p))
    → option_map f (two_numbers cs) ≡ Some w → Tells (letter ∷ cs) w
counted_tells letter f cs w each e =
    let p = mapped f (two_numbers cs) w e in
    let told = two_tell cs p.0 p.1 in
    let h = each p.0 told.1 told.2 in
    (ap (λ x. letter ∷ x) told.0 ∙ h.0 ∙ ap word_text p.2, subst IsSmall p.2 h.1)

plain_word_tells : (text : List ℕ) (w : Word) → a_plain_word text ≡ Some w → Tells text w
plain_word_tells text w e =
    let p = mapped word.Plain (plain_of text) w e in
    (plain_tells text p.0 p.1 ∙ ap word_text p.2, subst IsSmall p.2 tt)

function_tells : (cs : List ℕ) (w : Word)
    → option_map (λ p. word.Function p.0 p.1.0 p.1.1) (three_numbers cs) ≡ Some w
    → Tells (102 ∷ cs) w
function_tells cs w e =
    let p = mapped (λ p. word.Function p.0 p.1.0 p.1.1) (three_numbers cs) w e in
    let told = three_tell cs p.0 p.1 in
    (ap (λ x. 102 ∷ x) told.0 ∙ ap word_text p.2, subst IsSmall p.2 (told.1, told.2, told.3))

find_tells : (cs : List ℕ) (w : Word) → starts_with nat_eq cs (codes "ind") ≡ true
    → option_map word.Find (last_number (drop 3 cs)) ≡ Some w → Tells (102 ∷ cs) w
find_tells cs w begins e =
    let k = mapped word.Find (last_number (drop 3 cs)) w e in
    let told = last_tells (drop 3 cs) k.0 k.1 in
    let front : codes "ind" ≡ take 3 cs = (bytes_eq-Decides (codes "ind") (take 3 cs)).0 begins in (
      ap (λ x. 102 ∷ x) (sym (take-append-drop 3 cs) ∙ (λ i. sym front i ++ told.0 i))
          ∙ ap word_text k.2,
      subst IsSmall k.2 told.1,
    )

with_f_tells : (cs : List ℕ) (w : Word) → (a b : Bool) → starts_with nat_eq cs (codes "ind") ≡ b
    → (if a then option_map (λ p. word.Function p.0 p.1.0 p.1.1) (three_numbers cs) else if b
    then option_map word.Find (last_number (drop 3 cs)) else a_plain_word (102 ∷ cs)) ≡ Some w
    → Tells (102 ∷ cs) w
with_f_tells cs w true b begins e = function_tells cs w e
with_f_tells cs w false true begins e = find_tells cs w begins e
with_f_tells cs w false false begins e = plain_word_tells (102 ∷ cs) w e

at_letter : (c letter : ℕ) (cs : List ℕ) (w : Word) (b : Bool) (found other : Option Word)
    → nat_eq c letter ≡ b
    → (found ≡ Some w → Tells (letter ∷ cs) w) → (other ≡ Some w → Tells (c ∷ cs) w)
    → (if b then found else other) ≡ Some w → Tells (c ∷ cs) w
at_letter c letter cs w true found other t here behind e =
    let same : letter ≡ c = grind (arith, nat_tests) in
    subst (λ x. Tells (x ∷ cs) w) same (here e)
at_letter c letter cs w false found other t here behind e = behind e

pub word_tells : (text : List ℕ) (w : Word) → word_of text ≡ Some w → Tells text w
word_tells [] w e = cc
word_tells (c ∷ cs) w e =
    at_letter c 120 cs w (nat_eq c 120) _ _ refl
    (numbered_tells 120 word.Free cs w (λ k h. (refl, h)))
    (at_letter c 98 cs w (nat_eq c 98) _ _ refl
    (numbered_tells 98 word.Bound cs w (λ k h. (refl, h)))
    (at_letter c 115 cs w (nat_eq c 115) _ _ refl
    (numbered_tells 115 word.Schema cs w (λ k h. (refl, h)))
    (at_letter c 97 cs w (nat_eq c 97) _ _ refl
    (counted_tells 97 (λ p. word.Action p.0 p.1) cs w (λ p h g. (refl, (h, g))))
    (at_letter c 110 cs w (nat_eq c 110) _ _ refl
    (counted_tells 110 (λ p. word.Name p.0 p.1) cs w (λ p h g. (refl, (h, g))))
    (at_letter c 102 cs w (nat_eq c 102) _ _ refl
    (with_f_tells cs w (is_ascii_digit (slice_index cs 0))
    (starts_with nat_eq cs (codes "ind")) refl)
    (plain_word_tells (c ∷ cs) w)))))) e

-- ---- no blank stands in a word

pub unparted-append : (a b : List ℕ) → IsUnparted a → IsUnparted b → IsUnparted (a ++ b)
unparted-append [] b ha hb = hb
unparted-append (c ∷ cs) b ha hb = (ha.0, unparted-append cs b ha.1 hb)

no_blank : (d : ℕ) → d < 10 → nat_lt 32 (48 + d) ≡ true
no_blank d small = grind (arith, nat_tests)

pub decimal_unparted : (n : ℕ) → n < 2 ^ 64 → IsUnparted (decimal n)
decimal_unparted = decimal_by_steps (λ n bs. IsUnparted bs) (λ n small. (no_blank n small, tt))
    (λ n ds large h. unparted-append ds ((48 + n % 10) ∷ []) h
    (no_blank (n % 10) (omega arith), tt))

slashed_unparted : (k n : ℕ) → k < 2 ^ 32 → n < 2 ^ 32 → IsUnparted (decimal k ++ 47 ∷ decimal n)
slashed_unparted k n small few =
    unparted-append (decimal k) (47 ∷ decimal n) (decimal_unparted k (omega arith))
    (refl, decimal_unparted n (omega arith))

plain_unparted : (p : Plain) → IsUnparted (plain_text p)
plain_unparted plain.Init = search rules
plain_unparted plain.Pred = search rules
plain_unparted plain.Input = search rules
plain_unparted plain.Output = search rules
plain_unparted plain.Cond = search rules
plain_unparted plain.Exec = search rules
plain_unparted plain.Frame = search rules
plain_unparted plain.Diff = search rules
plain_unparted plain.Le = search rules
plain_unparted plain.TsEq = search rules
plain_unparted plain.IdxEq = search rules
plain_unparted plain.Happens = search rules
plain_unparted plain.ForallIndex = search rules
plain_unparted plain.ForallTimestamp = search rules
plain_unparted plain.ExistsIndex = search rules
plain_unparted plain.ExistsTimestamp = search rules

pub word_unparted : (w : Word) → IsSmall w → IsUnparted (word_text w)
word_unparted (word.Plain p) h = plain_unparted p
word_unparted (word.Free k) h = (refl, decimal_unparted k (omega arith))
word_unparted (word.Bound k) h = (refl, decimal_unparted k (omega arith))
word_unparted (word.Schema k) h = (refl, decimal_unparted k (omega arith))
word_unparted (word.Find c) h = (refl, (refl, (refl, (refl, decimal_unparted c (omega arith)))))
word_unparted (word.Action k n) h = (refl, slashed_unparted k n h.0 h.1)
word_unparted (word.Name k n) h = (refl, slashed_unparted k n h.0 h.1)
word_unparted (word.Function k n m) h = (
  refl,
  unparted-append (decimal k) (47 ∷ (decimal n ++ 47 ∷ decimal m))
      (decimal_unparted k (omega (arith, h.0))) (refl, slashed_unparted n m h.1 h.2),
)
