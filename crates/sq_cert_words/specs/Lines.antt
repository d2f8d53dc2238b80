-- A line as words that are parted by one blank.
use Rattle.std.specs.Prelude.{ℕ, if◌then◌else◌, ◌==◌, List, [], ◌∷◌, ◌++◌, Option, Some, None}

-- the words of a line whose first word begins with this front and goes on with this text; two
-- blanks have an empty word between them
abbrev pub words_on : List ℕ → List ℕ → List (List ℕ)
words_on front [] = front ∷ []
words_on front (c ∷ cs) = if c == 32 then front ∷ words_on [] cs else words_on (front ++ c ∷ []) cs

abbrev pub words : List ℕ → List (List ℕ)
words line = words_on [] line

-- the words of what is left of a line, if something is
abbrev pub words_left : Option (List ℕ) → List (List ℕ)
words_left None = []
words_left (Some text) = words text
