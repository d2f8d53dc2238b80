-- Formulas of a file: declared names joined by `&&` and `=>`, both to the right, `&&` binding
-- tighter.
use Rattle.std.specs.Prelude.{ℕ, Bool, List, [], ◌∷◌, Option, Some, None, if◌then◌else◌, codes}
use Rattle.std.specs.Prelude.{nat_le}
use Rattle.std.specs.Str.{bytes_eq}
use Rattle.sq_sym.specs.declared.symbol.Symbol.{Symbol}
use Rattle.sq_sym.specs.declared.symbol.Symbol.TheVariants.{Fun}
use Rattle.sq_sym.specs.Declarations.{found}
use Rattle.sq_term.specs.Formulas as formula
use Rattle.sq_term.specs.Symbols.{kind_of}
use Rattle.sq_term.specs.Syntax.{TermTree}
use Rattle.sq_term.specs.Measure.{depth}
use Rattle.sq_run.specs.declared.formula.Connective.{Connective}
use Rattle.sq_run.specs.declared.formula.Connective.TheVariants.{And, Implies}
use Rattle.sq_run.specs.declared.formula.Link.{Link}
use Rattle.sq_run.specs.declared.formula.Chain.{Chain}

abbrev pub Declarations : Type 0
Declarations = List (List ℕ × Symbol)

-- the constant with this number among the functions
abbrev pub constant : ℕ → TermTree
constant f = formula.constant (kind_of f)

-- what stands in front of the first `=>` of a formula, and what stands behind it
pub record Halves : Type 0 where
  pub front : TermTree
  pub back : Option TermTree

abbrev pub joined : TermTree → Option TermTree → TermTree
joined front None = front
joined front (Some back) = formula.implies front back

abbrev pub whole : Halves → TermTree
whole h = joined h.front h.back

-- a name in front of a formula
abbrev pub linked : ℕ → Connective → Halves → Halves
linked f And h = record { front = formula.both (constant f) h.front; back = h.back }
linked f Implies h = record { front = constant f; back = Some (whole h) }

abbrev pub halves_of : List Link → ℕ → Halves
halves_of [] last = record { front = constant last; back = None }
halves_of (l ∷ ls) last = linked l.function l.connective (halves_of ls last)

-- the tree of a formula
abbrev pub tree_of : Chain → TermTree
tree_of c = whole (halves_of c.links c.last)

-- the greatest depth of a formula
abbrev pub most_depth : ℕ
most_depth = 256

abbrev pub is_shallow : Chain → Bool
is_shallow c = nat_le (depth (tree_of c)) most_depth

abbrev pub function_in : Option (ℕ × Symbol) → Option ℕ
function_in (Some (at, Fun f)) = Some f
function_in found = None

-- the function that an `abstract` sentence has declared under this name
abbrev pub function_of : Declarations → List ℕ → Option ℕ
function_of table name = function_in (found name table)

abbrev pub connective_of : List ℕ → Option Connective
connective_of text =
    if bytes_eq text (codes "&&") then Some And
    else (if bytes_eq text (codes "=>") then Some Implies else None)

abbrev pub one : Option ℕ → Option Chain
one None = None
one (Some f) = Some (record { links = []; last = f })

abbrev pub longer : Option ℕ → Option Connective → Option Chain → Option Chain
longer (Some f) (Some c) (Some chain) =
    Some (record {
      links = record { function = f; connective = c } ∷ chain.links;
      last = chain.last;
    })
longer f c chain = None

-- the formula that the words spell
abbrev pub chain_of : Declarations → List (List ℕ) → Option Chain
chain_of table [] = None
chain_of table (name ∷ []) = one (function_of table name)
chain_of table (name ∷ sign ∷ words) =
    longer (function_of table name) (connective_of sign) (chain_of table words)
