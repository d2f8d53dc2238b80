-- Sentences by their words.
use Rattle.std.proofs.Common.{◌≡◌, ◌≤◌, ◌-◌, ℕ, true, List, [], ◌∷◌, length, take, drop}
use Rattle.std.proofs.Common.{get_or, codes, sym, ◌∙◌, ap, arith}
use Rattle.std.specs.Str.{bytes_eq}
use Rattle.sq_run.specs.declared.script.Script.{Script}
use Rattle.sq_run.specs.Scripts.{is_name, is_outside, stated_formula, stated}
use Rattle.sq_run.proofs.Bytes.{take_short}

-- a lemma's sentence, its words behind the colon being the formula
pub stated_words : (s : Script) (words : List (List ℕ)) (word colon : List ℕ) → 2 ≤ length words
    → word ≡ get_or words 0 word → colon ≡ get_or words 1 colon
    → bytes_eq colon (codes ":") ≡ true → is_outside s.stage ≡ true → is_name word ≡ true
    → stated_formula s word (take (length words - 2) (drop 2 words)) ≡ stated s words
stated_words s [] word colon two w c mark outside new = absurd (omega arith)
stated_words s (a ∷ []) word colon two w c mark outside new = absurd (omega arith)
stated_words s (a ∷ b ∷ more) word colon two w c mark outside new =
    let len : length (a ∷ b ∷ more) - 2 ≡ length more = omega arith in
    let here : bytes_eq b (codes ":") ≡ true = ap (λ (x : List ℕ). bytes_eq x (codes ":")) (sym c)
    ∙ mark in
    let named : is_name a ≡ true = ap is_name (sym w) ∙ new in
    rw here (rw outside (rw named (
    (λ i. stated_formula s (w i) (take (len i) more))
    ∙ ap (stated_formula s a) (take_short (length more) more (omega arith)))))
