use Rattle.std.proofs.Common.{◌≡◌, ◌++◌, List, ℕ, encode_utf8, ap, sym, ◌∙◌, arith}
use Rattle.sq_lex.proofs.Names.{name_started, length_past_char}
use Rattle.sq_lex.proofs.piece.name_len.Goals as goal

-- a text that begins with a character
begins : (text rest after behind : List ℕ) (c : ℕ) → rest ≡ text → rest ≡ encode_utf8 c ++ after
    → behind ≡ after → text ≡ encode_utf8 c ++ behind
begins text rest after behind c r s e = sym r ∙ (s ∙ ap (λ t. encode_utf8 c ++ t) (sym e))

pub overflow_add-result : goal.overflow_add-result
overflow_add-result c =
    let step = c.in-Some.ensures.steps.0 in
    let split = begins _ _ _ _ _ c.chars-rest.ensures.rest step c.as_str.ensures in
    omega (arith, length_past_char _ _ _ split)

pub returns-in-Some : goal.returns-in-Some
returns-in-Some c =
    let step = c.in-Some.ensures.steps.0 in
    let split = begins _ _ _ _ _ c.chars-rest.ensures.rest step c.as_str.ensures in
    let starts = sym c.is_start.ensures ∙ c.if-is_start.true in
    rw (c.len_utf8.ensures.value, c.continued.ensures.value)
    (sym (name_started _ _ _ c.utf8.text split starts))
