-- The loops over identifiers, numbers and arrows, a turn at a time.
use Rattle.std.proofs.Common.{◌≡◌, ℕ, zero, suc, ◌+◌, List, [], ◌∷◌, ◌++◌, refl, sym, ap, ◌∙◌}
use Rattle.std.proofs.Common.{◌-◌, ◌<◌, arith}
use Rattle.sq_token.specs.declared.kind.Reserved.{Reserved}
use Rattle.sq_token.specs.Sign.{Sign, word, number}
use Rattle.sq_parse_term.specs.Parse.{Read, deep, none, got, bind, recover}
use Rattle.sq_parse_term.proofs.Turns.{with_front, front_twice}
use Rattle.sq_parse_file.specs.Read.{all_words, all_numbers, arrow, arrows_within}

pub words_turn : (found : List (List ℕ)) (n : List ℕ) (q : List Sign) (m : Read (List (List ℕ)))
    → with_front found (all_words (word n ∷ q)) ≡ m → with_front (found ++ n ∷ []) (all_words q) ≡ m
words_turn found n q m e = sym (front_twice found (n ∷ []) (all_words q)) ∙ e

pub numbers_turn : (found : List ℕ) (k : ℕ) (q : List Sign) (m : Read (List ℕ))
    → with_front found (all_numbers (number k ∷ q)) ≡ m
    → with_front (found ++ k ∷ []) (all_numbers q) ≡ m
numbers_turn found k q m e = sym (front_twice found (k ∷ []) (all_numbers q)) ∙ e

-- so many arrows before those that are read
abbrev pub after : ℕ → Read ℕ → Read ℕ
after k m = bind m (λ l q. got (k + l) q)

after_one : (k : ℕ) (m : Read ℕ) → after k (bind m (λ l q. got (suc l) q)) ≡ after (k + 1) m
after_one k deep = refl
after_one k none = refl
after_one k (got l q) = let same : k + suc l ≡ k + 1 + l = omega arith in ap (λ n. got n q) same

nothing_more : (k : ℕ) (ts : List Sign) → after k (got 0 ts) ≡ got k ts
nothing_more k ts = let same : k + 0 ≡ k = omega arith in ap (λ n. got n ts) same

next_arrow : (v : Reserved) (n : ℕ) (ts q : List Sign) → 0 < n → arrow v ts ≡ got (tt {0}) q
    → arrows_within n v ts ≡ bind (arrows_within (n - 1) v q) (λ l u. got (suc l) u)
unfolding arrows_within
next_arrow v zero ts q h e = absurd (omega arith)
next_arrow v (suc n) ts q h e = let less : suc n - 1 ≡ n = omega arith in rw (e, less) refl

no_arrow : (v : Reserved) (n : ℕ) (ts : List Sign) → 0 < n → arrow v ts ≡ none
    → arrows_within n v ts ≡ got 0 ts
unfolding arrows_within
no_arrow v zero ts h e = absurd (omega arith)
no_arrow v (suc n) ts h e = rw e refl

no_turn : (v : Reserved) (ts : List Sign) → arrows_within 0 v ts ≡ got 0 ts
unfolding arrows_within
no_turn v ts = refl

module _ (v : Reserved) (n k : ℕ) (ts : List Sign) (m : Read ℕ)
    (before : after k (arrows_within n v ts) ≡ m) where
  pub arrows_next : 0 < n → (q : List Sign) → arrow v ts ≡ got (tt {0}) q
      → after (k + 1) (arrows_within (n - 1) v q) ≡ m
  arrows_next h q e = sym (after_one k (arrows_within (n - 1) v q))
      ∙ (ap (after k) (sym (next_arrow v n ts q h e)) ∙ before)

  pub arrows_end : 0 < n → arrow v ts ≡ none → m ≡ got k ts
  arrows_end h e = sym before ∙ (ap (after k) (no_arrow v n ts h e) ∙ nothing_more k ts)

  pub arrows_out : n ≡ 0 → m ≡ got k ts
  arrows_out e = sym before
      ∙ (ap (after k) (ap (λ l. arrows_within l v ts) e ∙ no_turn v ts) ∙ nothing_more k ts)
