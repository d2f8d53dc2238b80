-- The certificate text, version 1.
use Rattle.std.specs.Prelude.{◌≡◌, ◌<◌, ◌^◌, ℕ, Bool, IsTrue, ◌&&◌, nat_lt, List, [], ◌∷◌, ◌++◌}
use Rattle.std.specs.Prelude.{map, length, codes}
use Rattle.std.specs.Prelude.{decimal, bytes_eq, false, Option, None, option_map}
use Rattle.std.specs.Prelude.{option_and_then, if◌then◌else◌}
use Rattle.std.specs.List.{list_all}
use Rattle.std.specs.Option.{is_none}
use Rattle.sq_token.specs.Kinds.{is_start, is_name, is_identifier, reserved_of}
use Rattle.sq_step.specs.declared.step.Step.{Step}
use Rattle.sq_cert_words.specs.Numbers.{number, alone}
use Rattle.sq_cert_steps.specs.Lines.{step_line, is_writable, is_spelled}

-- ---- the text

-- the name of a goal and its steps
abbrev pub Block : Type 0
Block = List ℕ × List Step

-- lines, each with its newline
abbrev pub lines_text : List (List ℕ) → List ℕ
lines_text [] = []
lines_text (l ∷ ls) = l ++ 10 ∷ lines_text ls

abbrev pub goal_line : List ℕ → ℕ → List ℕ
goal_line name count = codes "goal " ++ (name ++ 32 ∷ decimal count)

abbrev pub block_lines : Block → List (List ℕ)
block_lines b = goal_line b.0 (length b.1) ∷ map step_line b.1

abbrev pub blocks_lines : List Block → List (List ℕ)
blocks_lines [] = codes "end" ∷ []
blocks_lines (b ∷ more) = block_lines b ++ blocks_lines more

abbrev pub header : List ℕ
header = codes "squirrel certificate 1"

abbrev pub certificate_lines : List Block → List (List ℕ)
certificate_lines bs = header ∷ blocks_lines bs

abbrev pub certificate : List Block → List ℕ
certificate bs = lines_text (certificate_lines bs)

-- ---- what has a text

-- The name of a block is an identifier and no reserved word, and each of its steps can be written.
abbrev pub is_block_writable : Block → Bool
is_block_writable b = is_identifier b.0 && list_all is_writable b.1

abbrev pub are_writable : List Block → Bool
are_writable bs = list_all is_block_writable bs

-- and each number of the steps is below 2^32, and their count below 2^64, as in the program
abbrev pub is_block_spelled : Block → Bool
is_block_spelled b =
    is_identifier b.0 && (nat_lt (length b.1) 18446744073709551616 && list_all is_spelled b.1)

abbrev pub are_spelled : List Block → Bool
are_spelled bs = list_all is_block_spelled bs

-- ---- goal lines

abbrev pub begins : List ℕ → Bool
begins [] = false
begins (c ∷ cs) = is_start c

-- a text with these characters is written as an identifier and is no reserved word
abbrev pub is_name_alone : List ℕ → List ℕ → Bool
is_name_alone cs text = is_name cs && is_none (reserved_of text)

-- a count of steps is below 2^64
abbrev pub count_in : List ℕ → Option ℕ
count_in text = option_and_then alone (number 18446744073709551615 text)

-- the name and the count of the words of a goal line
abbrev pub goal_in : List (List ℕ) → Option (List ℕ × ℕ)
goal_in (g ∷ name ∷ count ∷ []) =
    if bytes_eq g (codes "goal") && is_identifier name
    then option_map (λ n. (name, n)) (count_in count) else None
goal_in _ = None

-- the line is the goal line of this name and count
pub record IsGoalLine (line name : List ℕ) (count : ℕ) : Type 0 where
  pub whole : goal_line name count ≡ line
  pub named : IsTrue (is_identifier name)
  pub few : count < 2 ^ 64
