-- Goal lines: each is told from the others, and no newline stands in one.
use Rattle.std.proofs.Common.{◌≡◌, ◌<◌, ◌^◌, ℕ, Bool, true, false, ◌&&◌, if◌then◌else◌, List, []}
use Rattle.std.proofs.Common.{◌∷◌}
use Rattle.std.proofs.Common.{◌++◌, Option, Some, None, option_map, option_and_then, codes, decimal}
use Rattle.std.proofs.Common.{bytes_eq, refl, sym, ap, ◌∙◌, subst, append-nil, arith}
use Rattle.std.proofs.lemmas.Slice.Eq.{bytes_eq-Decides}
use Rattle.std.proofs.lemmas.Bool.Decides.{nat_tests}
use Rattle.sq_token.specs.Kinds.{is_identifier}
use Rattle.sq_cert_words.specs.Numbers.{number, alone}
use Rattle.sq_cert_words.specs.Spelling.{blanked, joined}
use Rattle.sq_cert_words.specs.Lines.{words}
use Rattle.sq_cert_words.proofs.LineLaws.{IsUnparted, AreUnparted, words-joined, joined-words}
use Rattle.sq_cert_words.proofs.NumberLaws.{same_value, same_found, number_of_decimal, number_tells}
use Rattle.sq_cert_words.proofs.WordLaws.{decimal_unparted}
use Rattle.sq_cert.specs.Certificates.{goal_line, count_in, goal_in, IsGoalLine}
use Rattle.sq_cert.specs.Refusals.{HasNoGoal}
use Rattle.sq_cert.proofs.Identifiers.{identifier_unparted}
use Rattle.sq_cert.proofs.LineLists.{HasNoNewline, no_newline-append}

-- ---- lines of words

pub word_no_newline : (w : List ℕ) → IsUnparted w → HasNoNewline w
word_no_newline [] u = tt
word_no_newline (c ∷ cs) u =
    let above = u.0 in (grind (arith, nat_tests), word_no_newline cs u.1)

pub blanked_no_newline : (ws : List (List ℕ)) → AreUnparted ws → HasNoNewline (blanked ws)
blanked_no_newline [] u = tt
blanked_no_newline (w ∷ ws) u =
    (refl, no_newline-append w (blanked ws) (word_no_newline w u.0) (blanked_no_newline ws u.1))

abbrev goal_words : List ℕ → ℕ → List (List ℕ)
goal_words name n = codes "goal" ∷ name ∷ decimal n ∷ []

goal_line-joined : (name : List ℕ) (n : ℕ) → goal_line name n ≡ joined (goal_words name n)
goal_line-joined name n = ap (λ x. codes "goal " ++ (name ++ 32 ∷ x)) (sym (append-nil (decimal n)))

goal_unparted : (name : List ℕ) (n : ℕ) → is_identifier name ≡ true → n < 2 ^ 64
    → AreUnparted (name ∷ decimal n ∷ [])
goal_unparted name n h small = (identifier_unparted name h, (decimal_unparted n small, tt))

word_goal : IsUnparted (codes "goal")
word_goal = (refl, (refl, (refl, (refl, tt))))

pub goal_no_newline : (name : List ℕ) (n : ℕ) → is_identifier name ≡ true → n < 2 ^ 64
    → HasNoNewline (goal_line name n)
goal_no_newline name n h small =
    subst HasNoNewline (sym (goal_line-joined name n))
    (no_newline-append (codes "goal") (blanked (name ∷ decimal n ∷ []))
    (word_no_newline (codes "goal") word_goal)
    (blanked_no_newline (name ∷ decimal n ∷ []) (goal_unparted name n h small)))

-- ---- what is read of a goal line

count_reads : (n : ℕ) → n < 2 ^ 64 → count_in (decimal n) ≡ Some n
count_reads n small =
    let e = number_of_decimal 18446744073709551615 n [] (omega arith) (omega arith) tt in
    ap (option_and_then alone)
    (ap (number 18446744073709551615) (sym (append-nil (decimal n))) ∙ e)

goal_reads : (name : List ℕ) (n : ℕ) → is_identifier name ≡ true → n < 2 ^ 64
    → goal_in (words (goal_line name n)) ≡ Some (name, n)
goal_reads name n h small =
    ap (λ x. goal_in (words x)) (goal_line-joined name n)
    ∙ ap goal_in
    (words-joined (codes "goal") (name ∷ decimal n ∷ []) word_goal (goal_unparted name n h small))
    ∙ rw (h, count_reads n small)

-- a goal line is that of one name and count
pub goal_same : (name other : List ℕ) (n k : ℕ) → is_identifier name ≡ true → n < 2 ^ 64
    → is_identifier other ≡ true → k < 2 ^ 64 → goal_line name n ≡ goal_line other k
    → (name ≡ other) × (n ≡ k)
goal_same name other n k h small ho smallo e =
    let read : Some (name, n) ≡ Some (other, k) =
    sym (goal_reads name n h small) ∙ ap (λ x. goal_in (words x)) e
    ∙ goal_reads other k ho smallo in
    same_found (name, n) (other, k) read

pub no_goal : (line : List ℕ) → goal_in (words line) ≡ None → HasNoGoal line
no_goal line none name count h small e =
    let read : goal_in (words line) ≡ Some (name, count) =
    ap (λ x. goal_in (words x)) (sym e) ∙ goal_reads name count h small in
    cc

-- ---- and back

count_tells : (text : List ℕ) (n : ℕ) → count_in text ≡ Some n → (text ≡ decimal n) × (n < 2 ^ 64)
count_tells text n e = by (number 18446744073709551615 text) refl e
  where
    by : (o : Option (ℕ × List ℕ)) → number 18446744073709551615 text ≡ o
        → option_and_then alone o ≡ Some n → (text ≡ decimal n) × (n < 2 ^ 64)
    by None f q = cc
    by (Some (k, [])) f q =
        let told = number_tells 18446744073709551615 text k [] (omega arith) (omega arith) f in
        let same = same_value k n q in
        (told.0 ∙ append-nil (decimal k) ∙ ap decimal same, omega (arith, told.1))
    by (Some (k, c ∷ cs)) f q = cc

pub goal_tells : (line : List ℕ) (g : List ℕ × ℕ) → goal_in (words line) ≡ Some g
    → IsGoalLine line g.0 g.1
goal_tells line g e = by (words line) refl e
  where
    at_count : (w name count : List ℕ) → words line ≡ w ∷ name ∷ count ∷ [] → w ≡ codes "goal"
        → is_identifier name ≡ true
        → (o : Option ℕ) → count_in count ≡ o → option_map (λ n. (name, n)) o ≡ Some g
        → IsGoalLine line g.0 g.1
    at_count w name count cut word named None f q = cc
    at_count w name count cut word named (Some n) f q =
        let told = count_tells count n f in
        let same = same_found (name, n) g q in
        let value = same.1 in
        record {
          whole = (λ i. goal_line (sym same.0 i) (sym value i)) ∙ goal_line-joined name n
              ∙ (λ i. joined (sym word i ∷ name ∷ sym told.0 i ∷ []))
              ∙ ap joined (sym cut) ∙ joined-words line;
          named = ap is_identifier (sym same.0) ∙ named;
          few = omega (arith, told.1);
        }

    at_name : (w name count : List ℕ) → words line ≡ w ∷ name ∷ count ∷ [] → (a b : Bool)
        → bytes_eq w (codes "goal") ≡ a → is_identifier name ≡ b
        → (if a && b then option_map (λ n. (name, n)) (count_in count) else None) ≡ Some g
        → IsGoalLine line g.0 g.1
    at_name w name count cut true true s t q =
        at_count w name count cut ((bytes_eq-Decides w (codes "goal")).0 s) t (count_in count) refl
        q
    at_name w name count cut true false s t q = cc
    at_name w name count cut false b s t q = cc

    by : (ws : List (List ℕ)) → words line ≡ ws → goal_in ws ≡ Some g → IsGoalLine line g.0 g.1
    by [] f q = cc
    by (w ∷ []) f q = cc
    by (w ∷ name ∷ []) f q = cc
    by (w ∷ name ∷ count ∷ []) f q =
        at_name w name count f (bytes_eq w (codes "goal")) (is_identifier name) refl refl q
    by (w ∷ name ∷ count ∷ d ∷ ws) f q = cc

pub goal_of : (line name : List ℕ) (count : ℕ) → goal_in (words line) ≡ Some (name, count)
    → IsGoalLine line name count
goal_of line name count e = goal_tells line (name, count) e

pub ruleset goal_line_rules = (no_goal)
