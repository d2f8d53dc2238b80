-- How bytes are parted into sentences of tokens.
use Rattle.std.specs.Prelude.{ℕ, Bool, false, ◌&&◌, ◌||◌, ◌==◌, nat_le, ◌+◌, List, [], ◌∷◌, ◌++◌}
use Rattle.std.specs.Prelude.{Option, Some, None, if◌then◌else◌, codes}
use Rattle.std.specs.Option.{option_and_then}
use Rattle.std.specs.List.{list_all}
use Rattle.std.specs.Str.{bytes_eq}
use Rattle.sq_run.specs.declared.scan.Sentence.{Sentence}
use Rattle.sq_run.specs.declared.scan.Scanner.{Scanner}

-- space, tab, carriage return and newline
abbrev pub is_blank : ℕ → Bool
is_blank b = (b == 32) || (b == 9) || (b == 13) || (b == 10)

-- an ASCII letter or `_`
abbrev pub is_start : ℕ → Bool
is_start b = (nat_le 97 b && nat_le b 122) || (nat_le 65 b && nat_le b 90) || (b == 95)

abbrev pub is_part : ℕ → Bool
is_part b = is_start b || (nat_le 48 b && nat_le b 57)

-- a letter or `_`, and then letters, digits and `_`
abbrev pub is_word : List ℕ → Bool
is_word [] = false
is_word (b ∷ bs) = is_start b && list_all is_part (b ∷ bs)

abbrev pub is_mark : List ℕ → Bool
is_mark text = bytes_eq text (codes ":") || bytes_eq text (codes "=>") || bytes_eq text (codes "&&")

-- the tokens but for the stop
abbrev pub is_token : List ℕ → Bool
is_token text = is_word text || is_mark text

-- whether a token may begin with the byte
abbrev pub begins : ℕ → Bool
begins b = is_start b || (b == 58) || (b == 61) || (b == 38)

-- whether the byte goes on with what has come of a token that began with the byte `first`: a token
-- is as long as it can be
abbrev pub goes_on : ℕ → List ℕ → ℕ → Bool
goes_on first [] b =
    (is_start first && is_part b) || ((first == 61) && (b == 62)) || ((first == 38) && (b == 38))
goes_on first (c ∷ cs) b = is_start first && is_part b

abbrev pub extends : List ℕ → ℕ → Bool
extends [] b = begins b
extends (first ∷ rest) b = goes_on first rest b

-- the place behind the first token of a sentence, where this token ends
abbrev pub first_end : List (List ℕ) → ℕ → ℕ → ℕ
first_end [] before now = now
first_end (w ∷ ws) before now = before

abbrev pub with_token : Scanner → ℕ → List ℕ → Scanner
with_token s at token =
    record {
      done = s.done;
      words = s.words ++ token ∷ [];
      at = first_end s.words s.at at;
      token = [];
    }

-- what has come of a token ends at this place, where it is one
abbrev pub ended_token : Scanner → ℕ → List ℕ → Option Scanner
ended_token s at [] = Some s
ended_token s at (b ∷ bs) =
    if is_token (b ∷ bs) then Some (with_token s at (b ∷ bs)) else None

abbrev pub ended : Scanner → ℕ → Option Scanner
ended s at = ended_token s at s.token

-- the sentence ends
abbrev pub stopped : Scanner → Scanner
stopped s =
    record {
      done = s.done ++ record { words = s.words; at = s.at } ∷ [];
      words = [];
      at = s.at;
      token = s.token;
    }

-- a byte that no token takes: a blank, the stop, or the first of a token
abbrev pub after_other : ℕ → Scanner → Option Scanner
after_other b s =
    if is_blank b then Some s
    else (if b == 46 then Some (stopped s)
    else (if begins b then Some (record s { token = b ∷ [] }) else None))

abbrev pub after_byte : Scanner → ℕ → ℕ → Option Scanner
after_byte s at b =
    if extends s.token b then Some (record s { token = s.token ++ b ∷ [] })
    else option_and_then (after_other b) (ended s at)

abbrev pub sentences_where : List Sentence → List (List ℕ) → List ℕ → Option (List Sentence)
sentences_where done [] [] = Some done
sentences_where done words token = None

-- where nothing of a sentence stands behind the last stop
abbrev pub finished : Scanner → Option (List Sentence)
finished s = sentences_where s.done s.words s.token

abbrev pub start : Scanner
start = record { done = []; words = []; at = 0; token = [] }

-- the sentences, where this much was scanned and the bytes from a place on are left
abbrev pub scanned : Option Scanner → ℕ → List ℕ → Option Scanner
scanned None at bytes = None
scanned (Some s) at [] = Some s
scanned (Some s) at (b ∷ bytes) = scanned (after_byte s at b) (at + 1) bytes

-- the sentences of the bytes, where each byte stands in a token, is a blank or a stop, and no token
-- stands behind the last stop
unfoldable pub sentences_of : List ℕ → Option (List Sentence)
sentences_of bytes = option_and_then finished (scanned (Some start) 0 bytes)
