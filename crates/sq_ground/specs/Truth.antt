-- Truth of ground terms under a valuation.
use Rattle.std.specs.Prelude.{◌≡◌, List, [], ◌∷◌, Bool, true, false, if◌then◌else◌}
use Rattle.sq_term.specs.Symbols.{Kind, truth, falsity, negation, conjunction, disjunction}
use Rattle.sq_term.specs.Symbols.{implication}
use Rattle.sq_term.specs.Ground.{Ground, named, applied, atom, Grounds, none, more}

-- the truth tables of the connectives; a term with another head has the value `other`
abbrev pub table : Kind → List Bool → Bool → Bool
table truth [] other = true
table falsity [] other = false
table negation (a ∷ []) other = if a then false else true
table conjunction (a ∷ b ∷ []) other = if a then b else false
table disjunction (a ∷ b ∷ []) other = if a then true else b
table implication (a ∷ b ∷ []) other = if a then b else true
table kind values other = other

-- the value of a term, where v gives the values of the terms without a connective at their head
abbrev mutual
  pub value : (Ground → Bool) → Ground → Bool
  value v (named n is) = v (named n is)
  value v (applied f is ts) = table f (values v ts) (v (applied f is ts))
  value v (atom k) = v (atom k)

  pub values : (Ground → Bool) → Grounds → List Bool
  values v none = []
  values v (more t ts) = value v t ∷ values v ts

abbrev pub IsTrueAt : (Ground → Bool) → Ground → Type 0
IsTrueAt v t = value v t ≡ true

-- the value of a term that is built by connectives alone, as the translation of a trace formula is
abbrev pub is_true : Ground → Bool
is_true t = value (λ u. false) t
