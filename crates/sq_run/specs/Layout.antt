-- Where the tokens of a file stand: each behind some blanks, each sentence in front of its stop,
-- and blanks behind the last stop.
use Rattle.std.specs.Prelude.{◌≡◌, ℕ, Bool, true, not, ◌&&◌, ◌+◌, List, [], ◌∷◌, ◌++◌}
use Rattle.std.specs.Prelude.{length, map, flat_map}
use Rattle.std.specs.List.{list_all}
use Rattle.sq_run.specs.declared.scan.Sentence.{Sentence}
use Rattle.sq_run.specs.Scanning.{is_blank, is_word, is_token}

-- a token behind blanks
pub record Spaced : Type 0 where
  pub blanks : List ℕ
  pub token : List ℕ

-- the tokens of a sentence, and the blanks in front of its stop
pub record Line : Type 0 where
  pub tokens : List Spaced
  pub blanks : List ℕ

-- the sentences of a file, and the blanks behind the last stop
pub record Layout : Type 0 where
  pub lines : List Line
  pub blanks : List ℕ

abbrev pub spaced_bytes : Spaced → List ℕ
spaced_bytes s = s.blanks ++ s.token

abbrev pub line_bytes : Line → List ℕ
line_bytes l = flat_map spaced_bytes l.tokens ++ (l.blanks ++ 46 ∷ [])

abbrev pub layout_bytes : Layout → List ℕ
layout_bytes f = flat_map line_bytes f.lines ++ f.blanks

abbrev pub are_blank : List ℕ → Bool
are_blank bytes = list_all is_blank bytes

-- two words that follow one another have a blank between them, since a token is as long as it can
-- be
abbrev pub is_apart : List ℕ → List ℕ → List ℕ → Bool
is_apart before [] token = not (is_word before && is_word token)
is_apart before (b ∷ blanks) token = true

-- a token behind another, or the first of its sentence where this is empty
pub record IsSpaced (before : List ℕ) (s : Spaced) : Type 0 where
  pub blank : are_blank s.blanks ≡ true
  pub token : is_token s.token ≡ true
  pub apart : is_apart before s.blanks s.token ≡ true

abbrev pub AreSpaced : List ℕ → List Spaced → Type 0
AreSpaced before [] = Unit {0}
AreSpaced before (s ∷ tokens) = IsSpaced before s × AreSpaced s.token tokens

pub record IsLine (l : Line) : Type 0 where
  pub tokens : AreSpaced [] l.tokens
  pub blank : are_blank l.blanks ≡ true

abbrev pub AreLines : List Line → Type 0
AreLines [] = Unit {0}
AreLines (l ∷ lines) = IsLine l × AreLines lines

pub record IsLayout (f : Layout) : Type 0 where
  pub lines : AreLines f.lines
  pub blank : are_blank f.blanks ≡ true

-- the place behind the first token of a sentence that begins at a place, or that of the sentence
-- before it where it has no token
abbrev pub place_of : List Spaced → ℕ → ℕ → ℕ
place_of [] at before = before
place_of (s ∷ tokens) at before = at + length (spaced_bytes s)

abbrev pub token_of : Spaced → List ℕ
token_of s = s.token

-- the sentences of the lines from a place on
abbrev pub sentences_at : List Line → ℕ → ℕ → List Sentence
sentences_at [] at before = []
sentences_at (l ∷ lines) at before =
    record { words = map token_of l.tokens; at = place_of l.tokens at before }
    ∷ sentences_at lines (at + length (line_bytes l)) (place_of l.tokens at before)

abbrev pub layout_sentences : Layout → List Sentence
layout_sentences f = sentences_at f.lines 0 0

-- the bytes are laid out as these sentences
pub record AreLaidOut (file : List ℕ) (found : List Sentence) : Type 0 where
  pub layout : Layout
  pub good : IsLayout layout
  pub bytes : layout_bytes layout ≡ file
  pub sentences : layout_sentences layout ≡ found
