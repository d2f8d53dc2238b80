-- Why a text is no certificate, told by its lines.
use Rattle.std.specs.Prelude.{◌≡◌, ◌≢◌, ◌<◌, ◌^◌, ◌+◌, ℕ, List, [], ◌∷◌, ◌++◌, length, All, IsTrue}
use Rattle.std.specs.Prelude.{⊤}
use Rattle.sq_token.specs.Kinds.{is_identifier}
use Rattle.sq_step.specs.declared.step.Step.{Step}
use Rattle.sq_cert_steps.specs.Lines.{step_line, is_spelled}
use Rattle.sq_cert.specs.declared.fault.ReadFault.{ReadFault}
use Rattle.sq_cert.specs.declared.fault.ReadFault.TheVariants.{Truncated, Trailing, BadStep}
use Rattle.sq_cert.specs.declared.fault.ReadFault.TheVariants.{NoMemory}
use Rattle.sq_cert.specs.Certificates.{Block, lines_text, goal_line, certificate_lines, certificate}
use Rattle.sq_cert.specs.Certificates.{are_spelled}

-- no newline stands in the text
abbrev pub IsOneLine : List ℕ → Type 0
IsOneLine line = All (λ c. c ≢ 10) line

-- ---- lines that a certificate may have

-- some certificate begins with these lines and goes on behind them
pub record GoesOn (front : List (List ℕ)) : Type 0 where
  pub blocks : List Block
  pub next : List ℕ
  pub more : List (List ℕ)
  pub spelled : IsTrue (are_spelled blocks)
  pub lines : certificate_lines blocks ≡ front ++ next ∷ more

-- no certificate that begins with these lines has this one behind them
abbrev pub HasNoForm : List (List ℕ) → List ℕ → Type 0
HasNoForm front line = (blocks : List Block) (more : List (List ℕ)) → IsTrue (are_spelled blocks)
    → certificate_lines blocks ≢ front ++ line ∷ more

abbrev pub HasNoStep : List ℕ → Type 0
HasNoStep line = (s : Step) → IsTrue (is_spelled s) → step_line s ≢ line

abbrev pub HasNoGoal : List ℕ → Type 0
HasNoGoal line =
    (name : List ℕ) (count : ℕ) → IsTrue (is_identifier name) → count < 2 ^ 64
    → goal_line name count ≢ line

-- ---- refusals

-- each whole line may stand in its place, and the end line has not come
pub record IsTruncated (text : List ℕ) : Type 0 where
  pub front : List (List ℕ)
  pub rest : List ℕ
  pub whole : text ≡ lines_text front ++ rest
  pub unfinished : IsOneLine rest
  pub open_front : GoesOn front

-- a byte stands behind a whole certificate, in the line with this number
pub record IsTrailing (text : List ℕ) (number : ℕ) : Type 0 where
  pub blocks : List Block
  pub rest : List ℕ
  pub spelled : IsTrue (are_spelled blocks)
  pub whole : text ≡ certificate blocks ++ rest
  pub some : rest ≢ []
  pub counted : number ≡ length (certificate_lines blocks) + 1

-- the whole line with this number is the first one that may not stand in its place
pub record IsBadStep (text : List ℕ) (number : ℕ) : Type 0 where
  pub front : List (List ℕ)
  pub line : List ℕ
  pub rest : List ℕ
  pub whole : text ≡ lines_text front ++ (line ++ 10 ∷ rest)
  pub one_line : IsOneLine line
  pub open_front : GoesOn front
  pub refused : HasNoForm front line
  pub counted : number ≡ length front + 1

abbrev pub IsRefused : List ℕ → ReadFault → Type 0
IsRefused text Truncated = IsTruncated text
IsRefused text (Trailing number) = IsTrailing text number
IsRefused text (BadStep number) = IsBadStep text number
IsRefused text NoMemory = ⊤
