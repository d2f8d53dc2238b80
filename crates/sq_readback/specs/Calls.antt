-- What the lexer, the parser and the resolver make of a printed term.
use Rattle.std.specs.Prelude.{◌≡◌, ◌≤◌, ℕ, List, [], ◌∷◌, ◌++◌, map, codes, Some, Ok, slice_get}
use Rattle.sq_base.specs.declared.sort.Sort.{Sort}
use Rattle.sq_token.specs.declared.token.Sentence.{Sentence}
use Rattle.sq_token.specs.Sign.{Sign, signs}
use Rattle.sq_lex.specs.Lexemes.{Line}
use Rattle.sq_lex.specs.Lex.{sentences}
use Rattle.sq_ast.specs.Tree.{FormulaTree}
use Rattle.sq_ast.specs.Deep.{height}
use Rattle.sq_parse_term.specs.Answers.{IsFormula, HasNone, IsTooDeep}
use Rattle.sq_term.specs.Measure.{size}
use Rattle.sq_term.specs.Syntax.{TermTree}
use Rattle.sq_resolve.specs.Limits.{most_formula_nodes}
use Rattle.sq_resolve.specs.Scopes.{Context}
use Rattle.sq_resolve.specs.Resolved.{term_of}
use Rattle.sq_resolve.specs.Built.{limited_term}
use Rattle.sq_printed.specs.Trees.{term_syntax}
use Rattle.sq_printed.specs.Reads.{sign_at}
use Rattle.sq_readback.specs.Readable.{names_of}

-- the greatest depth of a formula that the parser reads
abbrev pub most_levels : ℕ
most_levels = 256

-- the term and its syntax tree pass no limit
pub record IsWithinLimits (c : Context) (t : TermTree) : Type 0 where
  pub nodes : size t ≤ most_formula_nodes
  pub depth : height (term_syntax (names_of c) [] t) ≤ most_levels

-- The parser of formulas may answer this tree for the tokens, with none of them left, and it may
-- answer nothing else: no other
-- tree, and neither that there is none nor that it is too deep.
pub record IsOnlyFormula (ts : List Sign) (t : FormulaTree) : Type 0 where
  pub formula : IsFormula ts t []
  pub only : (u : FormulaTree) (q : List Sign) → IsFormula ts u q → (u ≡ t) × (q ≡ [])
  pub some : HasNone ts → ⊥
  pub shallow : IsTooDeep ts → ⊥

-- With a stop behind it, the text is one sentence. Its tokens can be parsed as one formula only,
-- and that resolves to the term.
pub record ComesBack (c : Context) (s : Sort) (text : List ℕ) (t : TermTree) : Type 0 where
  pub sentence : Line
  pub lexed : sentences (text ++ codes ".") ≡ Ok (sentence ∷ [])
  pub tree : FormulaTree
  pub parsed : IsOnlyFormula (map sign_at sentence.tokens) tree
  pub resolved : limited_term (term_of c [] s tree) ≡ Ok t

-- the first sentence begins with the formula
pub record IsFormulaOf (found : List Sentence) (f : FormulaTree) : Type 0 where
  pub first : Sentence
  pub there : slice_get found 0 ≡ Some first
  pub rest : List Sign
  pub formula : IsFormula (signs first.tokens) f rest
