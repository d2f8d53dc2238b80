-- Which tokens a text is read as.
use Rattle.std.specs.Prelude.{◌≡◌, ℕ, ⊤, List, [], ◌∷◌, map, Option, Some, None, Result, Ok, Err}
use Rattle.sq_token.specs.Kinds.{IsIdentifier}
use Rattle.sq_token.specs.Sign.{Sign, sign}
use Rattle.sq_lex.specs.declared.fault.LexFault.{LexFault}
use Rattle.sq_lex.specs.Lexemes.{Lexeme}
use Rattle.sq_lex.specs.Lex.{lexemes}
use Rattle.sq_ast.specs.Tree.{Group, FormulaTree, quantified, binary, group, pair, constant}
use Rattle.sq_ast.specs.Tree.{conditional, find, diff, unary, value, name, apply, FormulaTrees}
use Rattle.sq_ast.specs.Tree.{none, more}

abbrev pub sign_at : Lexeme → Sign
sign_at l = sign l.kind l.text

abbrev pub signs_read : Result (List Lexeme) LexFault → Option (List Sign)
signs_read (Ok ls) = Some (map sign_at ls)
signs_read (Err e) = None

-- the text is read as these tokens, wherever it begins
abbrev pub IsRead : List ℕ → List Sign → Type 0
IsRead text ss = (at : ℕ) → signs_read (lexemes 0 at text) ≡ Some ss

-- all names are identifiers
abbrev pub AreIdentifiers : List (List ℕ) → Type 0
AreIdentifiers [] = ⊤
AreIdentifiers (x ∷ xs) = IsIdentifier x × AreIdentifiers xs

abbrev pub AreNamedGroups : List Group → Type 0
AreNamedGroups [] = ⊤
AreNamedGroups (g ∷ gs) = AreIdentifiers g.0 × AreNamedGroups gs

-- so are all names in a tree
abbrev mutual
  pub IsNamed : FormulaTree → Type 0
  IsNamed (quantified q gs a) = AreNamedGroups gs × IsNamed a
  IsNamed (binary o a b) = IsNamed a × IsNamed b
  IsNamed (group a) = IsNamed a
  IsNamed (pair a b) = IsNamed a × IsNamed b
  IsNamed (constant k) = ⊤
  IsNamed (conditional a b c) = IsNamed a × IsNamed b × IsNamed c
  IsNamed (find xs a b c) = AreIdentifiers xs × IsNamed a × IsNamed b × IsNamed c
  IsNamed (diff a b) = IsNamed a × IsNamed b
  IsNamed (unary u a) = IsNamed a
  IsNamed (value m a) = IsNamed a
  IsNamed (name x) = IsIdentifier x
  IsNamed (apply x xs) = IsIdentifier x × AreNamed xs

  pub AreNamed : FormulaTrees → Type 0
  AreNamed none = ⊤
  AreNamed (more a xs) = IsNamed a × AreNamed xs
