-- The texts of reserved words.
use Rattle.std.proofs.Common.{◌≡◌, Bool, true, nat_lt, bytes_eq, refl}
use Rattle.std.specs.List.{list_all}
use Rattle.std.specs.Str.{chars, IsUtf8}
use Rattle.std.proofs.lemmas.Str.{IsUtf8-from_ascii}
use Rattle.unicode_ident.proofs.Computing.{unicode_ident}
use Rattle.sq_token.specs.declared.kind.Reserved.{Reserved}
use Rattle.sq_token.specs.Kinds.{is_name, reserved_of, reserved_text, reserved_words}
use Rattle.sq_token.proofs.Words.{found_by_text}
use Rattle.sq_lex.proofs.Found.{found_holds}
use Rattle.sq_lex.proofs.Symbols.{ascii}

-- what holds of all words of the list holds of each word
every_word : (holds : Reserved → Bool) → list_all holds reserved_words ≡ true → (w : Reserved)
    → holds w ≡ true
unfolding reserved_of
every_word holds all w =
    found_holds (λ v. bytes_eq (reserved_text v) (reserved_text w)) holds reserved_words w
    (found_by_text w) all

pub reserved_name : (w : Reserved) → is_name (chars (reserved_text w)) ≡ true
unfolding chars unicode_ident
reserved_name w = every_word (λ v. is_name (chars (reserved_text v))) refl w

pub reserved_utf8 : (w : Reserved) → IsUtf8 (reserved_text w)
reserved_utf8 w =
    let low = every_word (λ v. list_all (λ b. nat_lt b 128) (reserved_text v)) refl w in
    IsUtf8-from_ascii (reserved_text w) (ascii (reserved_text w) low)
