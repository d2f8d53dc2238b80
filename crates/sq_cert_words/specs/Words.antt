-- The words of terms, timestamps and indices, and how each is told from the others.
use Rattle.std.specs.Prelude.{◌<◌, ◌^◌, ℕ, if◌then◌else◌, ◌==◌, nat_eq, List, [], ◌∷◌, drop}
use Rattle.std.specs.Prelude.{filter, find, slice_index, Option, None, option_map, codes, bytes_eq}
use Rattle.std.specs.Char.{is_ascii_digit}
use Rattle.std.specs.List.{starts_with}
use Rattle.sq_base.specs.declared.sort.Sort.TheVariants as sort
use Rattle.sq_term.specs.declared.term.Macro.TheVariants as macro_of
use Rattle.sq_cert_words.specs.Spelling.{numbered, counted, applied, macro_word, universal_word}
use Rattle.sq_cert_words.specs.Spelling.{existential_word}
use Rattle.sq_cert_words.specs.declared.word.Plain.{Plain}
use Rattle.sq_cert_words.specs.declared.word.Plain.TheVariants as plain
use Rattle.sq_cert_words.specs.declared.word.Word.{Word}
use Rattle.sq_cert_words.specs.declared.word.Word.TheVariants as word
use Rattle.sq_cert_words.specs.Numbers.{last_number, two_numbers, three_numbers}

abbrev pub plain_text : Plain → List ℕ
plain_text plain.Init = codes "init"
plain_text plain.Pred = codes "pred"
plain_text plain.Input = macro_word macro_of.Input
plain_text plain.Output = macro_word macro_of.Output
plain_text plain.Cond = macro_word macro_of.Cond
plain_text plain.Exec = macro_word macro_of.Exec
plain_text plain.Frame = macro_word macro_of.Frame
plain_text plain.Diff = codes "diff"
plain_text plain.Le = codes "le"
plain_text plain.TsEq = codes "teq"
plain_text plain.IdxEq = codes "ieq"
plain_text plain.Happens = codes "hap"
plain_text plain.ForallIndex = universal_word sort.Index
plain_text plain.ForallTimestamp = universal_word sort.Timestamp
plain_text plain.ExistsIndex = existential_word sort.Index
plain_text plain.ExistsTimestamp = existential_word sort.Timestamp

abbrev pub plain_words : List Plain
plain_words =
    plain.Init ∷ plain.Pred ∷ plain.Input ∷ plain.Output ∷ plain.Cond ∷ plain.Exec ∷ plain.Frame ∷
    plain.Diff ∷ plain.Le ∷ plain.TsEq ∷ plain.IdxEq
    ∷ plain.Happens ∷ plain.ForallIndex ∷ plain.ForallTimestamp ∷ plain.ExistsIndex ∷
    plain.ExistsTimestamp ∷ []

-- the words without numbers that begin with this letter
abbrev pub plain_beginning : ℕ → List Plain
plain_beginning letter = filter (λ p. slice_index (plain_text p) 0 == letter) plain_words

-- the word without numbers that is written so
unfoldable pub plain_of : List ℕ → Option Plain
plain_of text = find (λ p. bytes_eq (plain_text p) text) plain_words

abbrev pub word_text : Word → List ℕ
word_text (word.Plain p) = plain_text p
word_text (word.Free k) = numbered (codes "x") k
word_text (word.Bound k) = numbered (codes "b") k
word_text (word.Schema k) = numbered (codes "s") k
word_text (word.Find c) = numbered (codes "find") c
word_text (word.Action k n) = counted (codes "a") k n
word_text (word.Name k n) = counted (codes "n") k n
word_text (word.Function k n m) = applied k n m

-- numbers as the program's types hold them
abbrev pub IsSmall : Word → Type 0
IsSmall (word.Plain p) = Unit {0}
IsSmall (word.Free k) = k < 2 ^ 32
IsSmall (word.Bound k) = k < 2 ^ 32
IsSmall (word.Schema k) = k < 2 ^ 32
IsSmall (word.Find c) = c < 2 ^ 32
IsSmall (word.Action k n) = (k < 2 ^ 32) × (n < 2 ^ 32)
IsSmall (word.Name k n) = (k < 2 ^ 32) × (n < 2 ^ 32)
IsSmall (word.Function k n m) = (k < 2 ^ 32) × (n < 2 ^ 32) × (m < 2 ^ 32)

-- ---- telling them apart by the first letter

abbrev pub a_plain_word : List ℕ → Option Word
a_plain_word text = option_map word.Plain (plain_of text)

-- what begins with f: a function, a find or a word without numbers
abbrev pub with_f : List ℕ → Option Word
with_f behind =
    if is_ascii_digit (slice_index behind 0) then option_map (λ p. word.Function p.0 p.1.0 p.1.1)
    (three_numbers behind)
    else (if starts_with nat_eq behind (codes "ind") then option_map word.Find
    (last_number (drop 3 behind)) else a_plain_word (102 ∷ behind))

abbrev pub word_of : List ℕ → Option Word
word_of [] = None
word_of (c ∷ cs) =
    if c == 120 then option_map word.Free (last_number cs)
    else (if c == 98 then option_map word.Bound (last_number cs)
    else (if c == 115 then option_map word.Schema (last_number cs)
    else (if c == 97 then option_map (λ p. word.Action p.0 p.1) (two_numbers cs)
    else (if c == 110 then option_map (λ p. word.Name p.0 p.1) (two_numbers cs)
    else (if c == 102 then with_f cs
    else a_plain_word (c ∷ cs))))))
