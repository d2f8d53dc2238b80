-- How tokens grow byte by byte, and where they end.
use Rattle.std.proofs.Common.{◌≡◌, inl, inr, ℕ, Bool, true, false, ◌&&◌, ◌||◌, ◌==◌, nat_le, List}
use Rattle.std.proofs.Common.{[], ◌∷◌, ◌++◌, refl, sym, ◌∙◌, ap, subst, codes}
use Rattle.std.proofs.lemmas.Bool.{and_parts}
use Rattle.std.proofs.lemmas.Bool.Decides.{Decides-eqb}
use Rattle.std.specs.List.{list_all}
use Rattle.std.specs.Str.{bytes_eq}
use Rattle.std.proofs.lemmas.Slice.Eq.{bytes_eq-Decides}
use Rattle.sq_run.specs.Scanning.{is_blank, is_start, is_part, is_word, is_mark, is_token}
use Rattle.sq_run.specs.Scanning.{goes_on, extends}
use Rattle.sq_run.proofs.Scans.{either}

-- what holds of each blank
pub each_blank : (P : ℕ → Type 0) → P 32 → P 9 → P 13 → P 10 → (b : ℕ) → is_blank b ≡ true → P b
each_blank P space tab return line b h =
    elim (either (((b == 32) || (b == 9)) || (b == 13)) (b == 10) h) [
      | inr is ↦ subst P (sym ((Decides-eqb b 10).0 is)) line
      | inl h ↦ elim (either ((b == 32) || (b == 9)) (b == 13) h) [
        | inr is ↦ subst P (sym ((Decides-eqb b 13).0 is)) return
        | inl h ↦ elim (either (b == 32) (b == 9) h) [
          | inr is ↦ subst P (sym ((Decides-eqb b 9).0 is)) tab
          | inl is ↦ subst P (sym ((Decides-eqb b 32).0 is)) space
        ]
      ]
    ]

-- what holds of each mark
pub each_mark : (P : List ℕ → Type 0) → P (codes ":") → P (codes "=>") → P (codes "&&")
    → (t : List ℕ) → is_mark t ≡ true → P t
each_mark P colon arrow and t h =
    elim (either (bytes_eq t (codes ":") || bytes_eq t (codes "=>")) (bytes_eq t (codes "&&")) h) [
      | inr is ↦ subst P (sym ((bytes_eq-Decides t (codes "&&")).0 is)) and
      | inl h ↦ elim (either (bytes_eq t (codes ":")) (bytes_eq t (codes "=>")) h) [
        | inl is ↦ subst P (sym ((bytes_eq-Decides t (codes ":")).0 is)) colon
        | inr is ↦ subst P (sym ((bytes_eq-Decides t (codes "=>")).0 is)) arrow
      ]
    ]

-- what holds of words and of marks holds of tokens
pub each_token : (P : List ℕ → Type 0) → ((t : List ℕ) → is_word t ≡ true → P t)
    → ((t : List ℕ) → is_mark t ≡ true → P t) → (t : List ℕ) → is_token t ≡ true → P t
each_token P word mark t h =
    elim (either (is_word t) (is_mark t) h) [ inl is ↦ word t is | inr is ↦ mark t is ]

and_false : (x : Bool) → x && false ≡ false
and_false true = refl
and_false false = refl

not_then : (x y : Bool) → (x ≡ true → y ≡ true) → y ≡ false → x ≡ false
not_then true y f n = sym (f refl) ∙ n
not_then false y f n = refl

-- a letter or `_` is none of the bytes that marks begin with
start_is_not : (f k : ℕ) → is_start k ≡ false → is_start f ≡ true → (f == k) ≡ false
start_is_not f k n is = split (f == k) refl
  where
    split : (e : Bool) → (f == k) ≡ e → e ≡ false
    split true same = absurd (cc (sym is ∙ ap is_start ((Decides-eqb f k).0 same) ∙ n))
    split false same = refl

ends_word : (t : List ℕ) (c : ℕ) → is_word t ≡ true → is_part c ≡ false → extends t c ≡ false
ends_word [] c is n = absurd (cc (is))
ends_word (f ∷ []) c is n =
    let starts = (and_parts (is_start f) (list_all is_part (f ∷ [])) is).0 in
    (λ i. (is_start f && n i) || (start_is_not f 61 refl starts i && (c == 62)) ||
    (start_is_not f 38 refl starts i && (c == 38))) ∙ or_false (is_start f)
  where
    or_false : (x : Bool) → (x && false) || false || false ≡ false
    or_false true = refl
    or_false false = refl
ends_word (f ∷ g ∷ gs) c is n = ap (λ (x : Bool). is_start f && x) n ∙ and_false (is_start f)

-- a token ends in front of a byte that goes on with no word
pub ends : (t : List ℕ) (c : ℕ) → is_token t ≡ true → (is_word t ≡ true → is_part c ≡ false)
    → extends t c ≡ false
ends t c is =
    each_token (λ u. (is_word u ≡ true → is_part c ≡ false) → extends u c ≡ false)
    (λ u word n. ends_word u c word (n word))
    (λ u mark n. each_mark (λ v. extends v c ≡ false) refl refl refl u mark) t is

-- what has come of a token goes on with each of these bytes in turn
abbrev pub Grows : List ℕ → List ℕ → Type 0
Grows token [] = Unit {0}
Grows token (b ∷ bytes) = (extends token b ≡ true) × Grows (token ++ b ∷ []) bytes

pub part_goes_on : (f : ℕ) (rest : List ℕ) (b : ℕ) → is_start f ≡ true → is_part b ≡ true
    → goes_on f rest b ≡ true
part_goes_on f [] b start part =
    λ i. (start (i) && part i) || ((f == 61) && (b == 62)) || ((f == 38) && (b == 38))
part_goes_on f (c ∷ cs) b start part = λ i. start i && part i

parts_grow : (f : ℕ) (rest bytes : List ℕ) → is_start f ≡ true → list_all is_part bytes ≡ true
    → Grows (f ∷ rest) bytes
parts_grow f rest [] start parts = tt
parts_grow f rest (b ∷ bytes) start parts =
    let p = and_parts (is_part b) (list_all is_part bytes) parts in
    (part_goes_on f rest b start p.0, parts_grow f (rest ++ b ∷ []) bytes start p.1)

word_grows : (t : List ℕ) → is_word t ≡ true → Grows [] t
word_grows [] is = tt
word_grows (f ∷ bytes) is =
    let p = and_parts (is_start f) (list_all is_part (f ∷ bytes)) is in (
      ap (λ (x : Bool). x || (f == 58) || (f == 61) || (f == 38)) p.0,
      parts_grow f [] bytes p.0
          (and_parts (is_part f) (list_all is_part bytes) p.1).1,
    )

-- a token is as long as it can be while it grows
pub token_grows : (t : List ℕ) → is_token t ≡ true → Grows [] t
token_grows =
    each_token (λ t. Grows [] t) word_grows
    (each_mark (λ t. Grows [] t) (refl, tt) (refl, (refl, tt)) (refl, (refl, tt)))

abbrev Fits : List ℕ → Type 0
Fits [] = Unit {0}
Fits (c ∷ cs) = is_word (c ∷ cs) ≡ false → is_part c ≡ false

-- the first byte of a token that goes on with a word begins a word
pub word_from : (b : ℕ) (t : List ℕ) → is_token (b ∷ t) ≡ true → is_word (b ∷ t) ≡ false
    → is_part b ≡ false
word_from b t is n =
    each_token (λ u. Fits u) (λ u word. words u word)
    (λ u mark. each_mark (λ v. Fits v) (λ n. refl) (λ n. refl) (λ n. refl) u mark) (b ∷ t) is n
  where
    words : (u : List ℕ) → is_word u ≡ true → Fits u
    words [] h = tt
    words (c ∷ cs) h = λ n. absurd (cc (sym h ∙ n))

-- words begin with a byte that goes on with a word
pub word_begins : (b : ℕ) (t : List ℕ) → is_word (b ∷ t) ≡ true → is_part b ≡ true
word_begins b t h =
    ap (λ (x : Bool). x || (nat_le 48 b && nat_le b 57))
    (and_parts (is_start b) (list_all is_part (b ∷ t)) h).0
