-- How the functions that every file has are written, and what they take and give: the one table
-- for resolving, printing and reading back.
use Rattle.std.specs.Prelude.{ℕ, zero, List, Bool, true, false, codes, Option, Some, None}
use Rattle.sq_term.specs.declared.layout.Layout.{Layout}
use Rattle.sq_term.specs.declared.layout.Layout.TheVariants.{Word, Infix, Pair, Conditional}
use Rattle.sq_term.specs.declared.layout.Level.{Level}
use Rattle.sq_term.specs.declared.layout.Level.TheVariants.{Atom, Conjunction, Disjunction, Formula}
use Rattle.sq_term.specs.declared.builtin.Builtin.{Builtin}
use Rattle.sq_term.specs.declared.builtin.Builtin.TheVariants as b
use Rattle.sq_term.specs.Symbols as kind
use Rattle.sq_term.specs.Symbols.{Kind, declared}

-- what the program's name of a function means
abbrev pub builtin_kind : Builtin → Kind
builtin_kind b.Empty = kind.empty
builtin_kind b.True = kind.truth
builtin_kind b.False = kind.falsity
builtin_kind b.Not = kind.negation
builtin_kind b.And = kind.conjunction
builtin_kind b.Or = kind.disjunction
builtin_kind b.Implies = kind.implication
builtin_kind b.Eq = kind.equality
builtin_kind b.Ite = kind.conditional
builtin_kind b.Pair = kind.pairing
builtin_kind b.Fst = kind.first
builtin_kind b.Snd = kind.second
builtin_kind b.OfBool = kind.of_bool
builtin_kind b.Att = kind.attacker

-- how an application of the function is laid out
abbrev pub layout : Kind → Layout
layout kind.conjunction = Infix Conjunction
layout kind.disjunction = Infix Disjunction
layout kind.implication = Infix Formula
layout kind.equality = Infix Atom
layout kind.pairing = Pair
layout kind.conditional = Conditional
layout k = Word

-- the sign between the two sides
abbrev pub sign : Level → List ℕ
sign Atom = codes "="
sign Conjunction = codes "&&"
sign Disjunction = codes "||"
sign Formula = codes "=>"

-- the word of a built-in function that is written as one
abbrev pub word : Kind → Option (List ℕ)
word kind.empty = Some (codes "empty")
word kind.truth = Some (codes "true")
word kind.falsity = Some (codes "false")
word kind.negation = Some (codes "not")
word kind.first = Some (codes "fst")
word kind.second = Some (codes "snd")
word kind.of_bool = Some (codes "of_bool")
word kind.attacker = Some (codes "att")
word k = None

-- how many arguments a built-in function takes
abbrev pub arguments : Kind → ℕ
arguments kind.empty = 0
arguments kind.truth = 0
arguments kind.falsity = 0
arguments kind.negation = 1
arguments kind.conjunction = 2
arguments kind.disjunction = 2
arguments kind.implication = 2
arguments kind.equality = 2
arguments kind.conditional = 3
arguments kind.pairing = 2
arguments kind.first = 1
arguments kind.second = 1
arguments kind.of_bool = 1
arguments kind.attacker = 1
arguments (declared k) = 0

-- argument k of the function, counted from 0, is a Boolean; declared functions take messages
abbrev pub takes_boolean : Kind → ℕ → Bool
takes_boolean kind.negation k = true
takes_boolean kind.conjunction k = true
takes_boolean kind.disjunction k = true
takes_boolean kind.implication k = true
takes_boolean kind.conditional zero = true
takes_boolean kind.of_bool k = true
takes_boolean f k = false

-- the built-in function gives a Boolean
abbrev pub gives_boolean : Kind → Bool
gives_boolean kind.truth = true
gives_boolean kind.falsity = true
gives_boolean kind.negation = true
gives_boolean kind.conjunction = true
gives_boolean kind.disjunction = true
gives_boolean kind.implication = true
gives_boolean kind.equality = true
gives_boolean k = false
