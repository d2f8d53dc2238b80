-- Bytes that stand between tokens, and what begins a text.
use Rattle.std.specs.Prelude.{ℕ, Bool, ◌||◌, ◌&&◌, ◌==◌, List, slice_index}
use Rattle.std.specs.Char.{is_ascii_digit}
use Rattle.std.specs.Str.{byte}

abbrev pub is_blank : ℕ → Bool
is_blank b = (b == byte " ") || (b == byte "\t") || (b == byte "\r") || (b == byte "\n")

abbrev pub is_newline : ℕ → Bool
is_newline b = b == byte "\n"

abbrev pub opens : ℕ → ℕ → Bool
opens b c = (b == byte "(") && (c == byte "*")

abbrev pub closes : ℕ → ℕ → Bool
closes b c = (b == byte "*") && (c == byte ")")

abbrev pub begins_with_blank : List ℕ → Bool
begins_with_blank text = is_blank (slice_index text 0)

abbrev pub begins_with_comment : List ℕ → Bool
begins_with_comment text = opens (slice_index text 0) (slice_index text 1)

abbrev pub begins_with_digit : List ℕ → Bool
begins_with_digit text = is_ascii_digit (slice_index text 0)
