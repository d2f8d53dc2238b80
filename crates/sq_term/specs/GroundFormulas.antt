-- Ground terms of the built-in functions, equality of ground terms, and conjunctions and
-- disjunctions of lists. Definitions may match on all formulas but `equivalent`.
use Rattle.std.specs.Prelude.{List, [], ◌∷◌, Bool, true, false, ◌&&◌, ◌==◌, if◌then◌else◌}
use Rattle.sq_term.specs.Lists.{same_numbers}
use Rattle.sq_term.specs.Symbols as kind
use Rattle.sq_term.specs.Symbols.{Kind, same_kind}
use Rattle.sq_term.specs.Ground.{Ground, named, applied, atom, Grounds, none, more}

pattern abbrev pub constant : Kind → Ground
constant k = applied k [] none

pattern abbrev pub unary : Kind → Ground → Ground
unary k a = applied k [] (more a none)

pattern abbrev pub binary : Kind → Ground → Ground → Ground
binary k a b = applied k [] (more a (more b none))

pattern abbrev pub ternary : Kind → Ground → Ground → Ground → Ground
ternary k a b c = applied k [] (more a (more b (more c none)))

pattern abbrev pub truth : Ground
truth = constant kind.truth

pattern abbrev pub falsity : Ground
falsity = constant kind.falsity

pattern abbrev pub negation : Ground → Ground
negation a = unary kind.negation a

pattern abbrev pub both : Ground → Ground → Ground
both a b = binary kind.conjunction a b

pattern abbrev pub either : Ground → Ground → Ground
either a b = binary kind.disjunction a b

pattern abbrev pub implies : Ground → Ground → Ground
implies a b = binary kind.implication a b

-- each implies the other
abbrev pub equivalent : Ground → Ground → Ground
equivalent a b = both (implies a b) (implies b a)

-- of messages
pattern abbrev pub equal : Ground → Ground → Ground
equal u v = binary kind.equality u v

pattern abbrev pub empty : Ground
empty = constant kind.empty

pattern abbrev pub conditional : Ground → Ground → Ground → Ground
conditional c u v = ternary kind.conditional c u v

pattern abbrev pub pair : Ground → Ground → Ground
pair u v = binary kind.pairing u v

pattern abbrev pub first : Ground → Ground
first u = unary kind.first u

pattern abbrev pub second : Ground → Ground
second u = unary kind.second u

-- the message of a Boolean
pattern abbrev pub of_bool : Ground → Ground
of_bool a = unary kind.of_bool a

-- what the attacker makes of a message
pattern abbrev pub attacked : Ground → Ground
attacked u = unary kind.attacker u

abbrev pub truth_of : Bool → Ground
truth_of b = if b then truth else falsity

-- true when empty, the element when single, else nested to the right
abbrev pub conj : List Ground → Ground
conj [] = truth
conj (t ∷ []) = t
conj (t ∷ u ∷ rest) = both t (conj (u ∷ rest))

-- likewise with false and or, each element kept
abbrev pub disj_of_all : List Ground → Ground
disj_of_all [] = falsity
disj_of_all (t ∷ []) = t
disj_of_all (t ∷ u ∷ rest) = either t (disj_of_all (u ∷ rest))

-- equality of ground terms
abbrev mutual
  pub same_ground : Ground → Ground → Bool
  same_ground (named n is) (named m js) = (n == m) && same_numbers is js
  same_ground (applied f is ts) (applied g js us) =
      same_kind f g && (same_numbers is js && same_grounds ts us)
  same_ground (atom k) (atom l) = k == l
  same_ground _ _ = false

  pub same_grounds : Grounds → Grounds → Bool
  same_grounds none none = true
  same_grounds (more t ts) (more u us) = same_ground t u && same_grounds ts us
  same_grounds _ _ = false

-- the elements other than t
abbrev pub without : Ground → List Ground → List Ground
without t [] = []
without t (u ∷ us) = if same_ground t u then without t us else u ∷ without t us

-- the first occurrence of each element
abbrev pub distinct : List Ground → List Ground
distinct [] = []
distinct (t ∷ ts) = t ∷ without t (distinct ts)

-- the disjunction after each element that is the same as an earlier one was taken out
abbrev pub disj : List Ground → Ground
disj ts = disj_of_all (distinct ts)
