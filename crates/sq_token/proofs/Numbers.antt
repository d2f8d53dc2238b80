-- What `parse` answers on the text of a number.
use Rattle.std.proofs.Common.{◌≡◌, ◌<◌, ◌^◌, ℕ, Bool, true, false, ◌&&◌, nat_lt, List, [], ◌∷◌}
use Rattle.std.proofs.Common.{Option, Result, Ok, refl, subst, arith, IsTrue}
use Rattle.std.proofs.lemmas.Str.Parse.{IsNumeralModel, numerals_by_value, tells_all_ascii_digits}
use Rattle.std.proofs.lemmas.Str.Parse.{parse_gives}
use Rattle.std.proofs.lemmas.Bool.Decides.{nat_tests}
use Rattle.std.specs.Str.{all_ascii_digits}
use Rattle.std.specs.Str.Parse.{digits_value, ParsesUnsigned}
use Rattle.std.specs.Result.{result_ok}
use Rattle.sq_token.specs.declared.kind.TokenKind.{TokenKind}
use Rattle.sq_token.specs.declared.kind.TokenKind.TheVariants.{Identifier, Reserved, Number}
use Rattle.sq_token.specs.declared.kind.TokenKind.TheVariants.{Punctuation}
use Rattle.sq_token.specs.Kinds.{is_number, is_of_kind, number_value}
use Rattle.sq_token.specs.Sign.{sign, number_of}

own : IsNumeralModel (λ ds. all_ascii_digits ds ≡ true) (digits_value 10)
own = numerals_by_value (λ ds. all_ascii_digits ds ≡ true) tells_all_ascii_digits

split_and : (a b : Bool) → (a && b) ≡ true → (a ≡ true) × (b ≡ true)
split_and true true e = (refl, refl)
split_and true false e = cc
split_and false b e = cc

pub parse_number : {E : Type 0} (text : List ℕ) (r : Result ℕ E) → ParsesUnsigned 128 10 text r
    → IsTrue (is_number text) → r ≡ Ok (number_value text)
parse_number [] r h n = cc
parse_number (c ∷ cs) r h n =
    let both = split_and (all_ascii_digits (c ∷ cs)) (nat_lt (number_value (c ∷ cs)) (2 ^ 128)) n in
    let small : number_value (c ∷ cs) < 2 ^ 128 = grind (arith, nat_tests) in
    parse_gives own 128 (c ∷ cs) r h both.0 (omega arith) small

-- the value of a token of the kind number
pub number_read : {E : Type 0} (k : TokenKind) (text s : List ℕ) (r : Result ℕ E) (o : Option ℕ)
    → k ≡ Number → s ≡ text → ParsesUnsigned 128 10 s r → IsTrue (is_of_kind k text) → o
    ≡ result_ok r → o ≡ number_of (sign k text)
number_read Number text s r o e same h n v =
    rw (v, parse_number text r (subst (λ x. ParsesUnsigned 128 10 x r) same h) n) refl
number_read Identifier text s r o e same h n v = cc
number_read (Reserved w) text s r o e same h n v = cc
number_read (Punctuation p) text s r o e same h n v = cc
