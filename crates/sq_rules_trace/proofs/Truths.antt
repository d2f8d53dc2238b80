-- Truth of formulas under a valuation.
use Rattle.std.proofs.Common.{◌≡◌, sym, ◌∙◌, subst, List, [], ◌∷◌, map, Bool, true, false}
use Rattle.sq_term.specs.Ground.{Ground}
use Rattle.sq_term.specs.GroundFormulas.{truth_of, negation, both, either, implies}
use Rattle.sq_ground.specs.Truth.{value, IsTrueAt}
use Rattle.sq_ground.proofs.Propositional.{if_from, if_to, not_from, not_to, and_from, and_left}
use Rattle.sq_ground.proofs.Propositional.{and_right, or_left, or_right, or_cases}
use Rattle.sq_ground.proofs.TraceFormulas.{value-truth_of}

module _ (v : Ground → Bool) where
  -- what is decided
  pub on : (b : Bool) → b ≡ true → IsTrueAt v (truth_of b)
  on b h = value-truth_of v b ∙ h

  pub off : (b : Bool) → IsTrueAt v (truth_of b) → b ≡ true
  off b h = sym (value-truth_of v b) ∙ h

  pub implied : (a b : Ground) → (IsTrueAt v a → IsTrueAt v b) → IsTrueAt v (implies a b)
  implied a b f = if_from (value v a) (value v b) f

  pub applied_to : (a b : Ground) → IsTrueAt v (implies a b) → IsTrueAt v a → IsTrueAt v b
  applied_to a b f h = if_to (value v a) (value v b) f h

  pub denied : (a : Ground) → (IsTrueAt v a → false ≡ true) → IsTrueAt v (negation a)
  denied a f = not_from (value v a) f

  pub refuted : (a : Ground) → IsTrueAt v (negation a) → IsTrueAt v a → false ≡ true
  refuted a f h = not_to (value v a) f h

  pub joined : (a b : Ground) → IsTrueAt v a → IsTrueAt v b → IsTrueAt v (both a b)
  joined a b f g = and_from (value v a) (value v b) f g

  pub first_part : (a b : Ground) → IsTrueAt v (both a b) → IsTrueAt v a
  first_part a b f = and_left (value v a) (value v b) f

  pub second_part : (a b : Ground) → IsTrueAt v (both a b) → IsTrueAt v b
  second_part a b f = and_right (value v a) (value v b) f

  pub by_first : (a b : Ground) → IsTrueAt v a → IsTrueAt v (either a b)
  by_first a b f = or_left (value v a) (value v b) f

  pub by_second : (a b : Ground) → IsTrueAt v b → IsTrueAt v (either a b)
  by_second a b f = or_right (value v a) (value v b) f
