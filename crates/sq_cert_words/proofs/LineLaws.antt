-- A line is its words, and the words of a line are those that it was joined of.
use Rattle.std.proofs.Common.{◌≡◌, ◌≢◌, ◌≤◌, ℕ, ◌+◌, Bool, true, false, if◌then◌else◌, nat_eq}
use Rattle.std.proofs.Common.{nat_lt}
use Rattle.std.proofs.Common.{List, []}
use Rattle.std.proofs.Common.{◌∷◌, ◌++◌, length, take, refl, sym, ap, ◌∙◌, append_assoc, append-nil}
use Rattle.std.proofs.Common.{length-append, length-take, arith}
use Rattle.std.proofs.Math.Seq.{take-append_seam}
use Rattle.std.proofs.lemmas.Bool.Decides.{nat_tests}
use Rattle.sq_cert_words.specs.Spelling.{blanked, joined}
use Rattle.sq_cert_words.specs.Lines.{words_on, words}

-- one letter further in a line
pub one_letter : (line rest behind : List ℕ) (n c : ℕ) → rest ≡ c ∷ behind
    → take n line ++ rest ≡ line → n ≤ length line
    → (n + 1 ≤ length line) × (take (n + 1) line ++ behind ≡ line)
    × (take (n + 1) line ≡ take n line ++ (c ∷ []))
one_letter line rest behind n c begins whole within =
    let front : List ℕ = take n line in
    let split : (front ++ (c ∷ [])) ++ behind ≡ line =
    append_assoc front (c ∷ []) behind ∙ ap (λ x. front ++ x) (sym begins) ∙ whole in
    let size : length (front ++ (c ∷ [])) ≡ n + 1 =
    omega (arith, length-append front (c ∷ []), length-take n line) in
    let more : take (n + 1) line ≡ front ++ (c ∷ []) =
    ap (λ x. take x line) (sym size) ∙ ap (λ x. take (length (front ++ (c ∷ []))) x) (sym split)
    ∙ take-append_seam (front ++ (c ∷ [])) behind in (
      omega (arith, ap length split, length-append (front ++ (c ∷ [])) behind),
      ap
          (λ x. x ++ behind) more ∙ split,
      more,
    )

-- one turn: the letter is no blank
pub letter_on : (line rest behind : List ℕ) (n c : ℕ) (ws : List (List ℕ)) → rest ≡ c ∷ behind
    → take n line ++ rest ≡ line → n ≤ length line
    → c ≢ 32 → words_on (take n line) rest ≡ ws → words_on (take (n + 1) line) behind ≡ ws
letter_on line rest behind n c ws begins whole within other same =
    let more = (one_letter line rest behind n c begins whole within).2 in
    let letter : nat_eq c 32 ≡ false = grind (arith, nat_tests) in
    let turn : words_on (take n line) (c ∷ behind) ≡ words_on (take n line ++ (c ∷ [])) behind =
    rw letter in
    ap (λ x. words_on x behind) more ∙ sym turn ∙ ap (words_on (take n line)) (sym begins) ∙ same

-- ---- both ways

-- no letter is a blank or a control byte, such as a newline
abbrev pub IsUnparted : List ℕ → Type 0
IsUnparted [] = Unit {0}
IsUnparted (c ∷ cs) = (nat_lt 32 c ≡ true) × IsUnparted cs

abbrev pub AreUnparted : List (List ℕ) → Type 0
AreUnparted [] = Unit {0}
AreUnparted (w ∷ ws) = IsUnparted w × AreUnparted ws

words_on-append : (front w rest : List ℕ) → IsUnparted w
    → words_on front (w ++ rest) ≡ words_on (front ++ w) rest
words_on-append front [] rest u = ap (λ x. words_on x rest) (sym (append-nil front))
words_on-append front (c ∷ cs) rest u =
    let letter = u.0 in
    let other : nat_eq c 32 ≡ false = grind (arith, nat_tests) in
    rw other (words_on-append (front ++ (c ∷ [])) cs rest u.1
    ∙ ap (λ x. words_on x rest) (append_assoc front (c ∷ []) cs))

words_on-blanked : (front : List ℕ) (ws : List (List ℕ)) → AreUnparted ws
    → words_on front (blanked ws) ≡ front ∷ ws
words_on-blanked front [] u = refl
words_on-blanked front (w ∷ ws) u =
    ap (λ x. front ∷ x) (words_on-append [] w (blanked ws) u.0 ∙ words_on-blanked w ws u.1)

-- words without blanks are the words of the line that joins them
pub words-joined : (w : List ℕ) (ws : List (List ℕ)) → IsUnparted w → AreUnparted ws
    → words (joined (w ∷ ws)) ≡ w ∷ ws
words-joined w ws first others =
    words_on-append [] w (blanked ws) first ∙ words_on-blanked w ws others

-- a line has a first word
pub first_word : (front line : List ℕ)
    → (w : List ℕ) × (ws : List (List ℕ)) × (words_on front line ≡ w ∷ ws)
first_word front [] = (front, [], refl)
first_word front (c ∷ cs) = by (nat_eq c 32) (first_word (front ++ (c ∷ [])) cs)
  where
    by : (b : Bool)
        → (w : List ℕ) × (ws : List (List ℕ)) × (words_on (front ++ (c ∷ [])) cs ≡ w ∷ ws)
        → (w : List ℕ) × (ws : List (List ℕ))
        × ((if b then front ∷ words_on [] cs else words_on (front ++ (c ∷ [])) cs) ≡ w ∷ ws)
    by true h = (front, words_on [] cs, refl)
    by false h = h

blanked-joined : (ws : List (List ℕ)) (w : List ℕ) (vs : List (List ℕ)) → ws ≡ w ∷ vs
    → blanked ws ≡ 32 ∷ joined ws
blanked-joined ws w vs e = ap blanked e ∙ ap (λ x. 32 ∷ joined x) (sym e)

joined_on : (front line : List ℕ) → joined (words_on front line) ≡ front ++ line
joined_on front [] = refl
joined_on front (c ∷ cs) =
    by (nat_eq c 32) refl (first_word [] cs) (joined_on [] cs) (joined_on (front ++ (c ∷ [])) cs)
  where
    by : (b : Bool) → nat_eq c 32 ≡ b
        → (w : List ℕ) × (ws : List (List ℕ)) × (words_on [] cs ≡ w ∷ ws)
        → joined (words_on [] cs) ≡ cs
        → joined (words_on (front ++ (c ∷ [])) cs) ≡ (front ++ (c ∷ [])) ++ cs
        → joined (if b then front ∷ words_on [] cs else words_on (front ++ (c ∷ [])) cs)
        ≡ front ++ (c ∷ cs)
    by true t f new on =
        let blank : c ≡ 32 = grind (arith, nat_tests) in
        ap (λ x. front ++ x) (blanked-joined (words_on [] cs) f.0 f.1 f.2
        ∙ (λ i. sym blank i ∷ new i))
    by false t f new on = on ∙ append_assoc front (c ∷ []) cs

-- the words of a line join to the line
pub joined-words : (line : List ℕ) → joined (words line) ≡ line
joined-words line = joined_on [] line

-- ---- words at the end of a text

pub blanked-append : (ws vs : List (List ℕ)) → blanked (ws ++ vs) ≡ blanked ws ++ blanked vs
blanked-append [] vs = refl
blanked-append (w ∷ ws) vs = ap (λ x. 32 ∷ (w ++ x)) (blanked-append ws vs)
    ∙ ap (λ x. 32 ∷ x) (sym (append_assoc w (blanked ws) (blanked vs)))

pub wrote-first : (out w : List ℕ) (ws : List (List ℕ))
    → (out ++ 32 ∷ w) ++ blanked ws ≡ out ++ blanked (w ∷ ws)
wrote-first out w ws = append_assoc out (32 ∷ w) (blanked ws)

pub wrote-more : (out : List ℕ) (ws vs : List (List ℕ))
    → (out ++ blanked ws) ++ blanked vs ≡ out ++ blanked (ws ++ vs)
wrote-more out ws vs = append_assoc out (blanked ws) (blanked vs)
    ∙ ap (λ x. out ++ x) (sym (blanked-append ws vs))

pub wrote-one : (out w : List ℕ) → out ++ 32 ∷ w ≡ out ++ blanked (w ∷ [])
wrote-one out w = ap (λ x. out ++ 32 ∷ x) (sym (append-nil w))

pub words-some : (line : List ℕ) → words line ≢ []
words-some line e = let h = first_word [] line in let q = h.2 in cc

pub ruleset left_rules = (words-some)
