-- Terms of the built-in functions. Definitions may match on all but `equivalent`.
use Rattle.std.specs.Prelude.{[]}
use Rattle.sq_term.specs.Symbols as kind
use Rattle.sq_term.specs.Symbols.{Kind}
use Rattle.sq_term.specs.Syntax.{TermTree, fun, nil, cons}

pattern abbrev pub constant : Kind → TermTree
constant k = fun k [] nil

pattern abbrev pub unary : Kind → TermTree → TermTree
unary k a = fun k [] (cons a nil)

pattern abbrev pub binary : Kind → TermTree → TermTree → TermTree
binary k a b = fun k [] (cons a (cons b nil))

pattern abbrev pub ternary : Kind → TermTree → TermTree → TermTree → TermTree
ternary k a b c = fun k [] (cons a (cons b (cons c nil)))

pattern abbrev pub truth : TermTree
truth = constant kind.truth

pattern abbrev pub falsity : TermTree
falsity = constant kind.falsity

pattern abbrev pub negation : TermTree → TermTree
negation a = unary kind.negation a

pattern abbrev pub both : TermTree → TermTree → TermTree
both a b = binary kind.conjunction a b

pattern abbrev pub either : TermTree → TermTree → TermTree
either a b = binary kind.disjunction a b

pattern abbrev pub implies : TermTree → TermTree → TermTree
implies a b = binary kind.implication a b

-- each implies the other
abbrev pub equivalent : TermTree → TermTree → TermTree
equivalent a b = both (implies a b) (implies b a)

-- of messages
pattern abbrev pub equal : TermTree → TermTree → TermTree
equal u v = binary kind.equality u v

pattern abbrev pub empty : TermTree
empty = constant kind.empty

pattern abbrev pub conditional : TermTree → TermTree → TermTree → TermTree
conditional c u v = ternary kind.conditional c u v

pattern abbrev pub pair : TermTree → TermTree → TermTree
pair u v = binary kind.pairing u v

pattern abbrev pub first : TermTree → TermTree
first u = unary kind.first u

pattern abbrev pub second : TermTree → TermTree
second u = unary kind.second u

-- the message of a Boolean
pattern abbrev pub of_bool : TermTree → TermTree
of_bool a = unary kind.of_bool a
