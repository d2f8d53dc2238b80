-- Equality by the ground rules: reflexive, symmetric, transitive, and passed on by functions.
use Rattle.std.proofs.Common.{◌≡◌, refl, List, [], ◌∷◌, Bool, true, false}
use Rattle.std.specs.Prelude.{if◌then◌else◌}
use Rattle.sq_term.proofs.Members.{each_none}
use Rattle.sq_term.specs.Ground.{Ground, more, none}
use Rattle.sq_term.specs.GroundFormulas.{implies, equivalent, equal, conj}
use Rattle.sq_term.specs.Symbols as kind
use Rattle.sq_ground.specs.Truth.{value, IsTrueAt}
use Rattle.sq_ground.specs.Lines.{fact}
use Rattle.sq_ground.specs.Rules.{FollowsBy}
use Rattle.sq_ground.specs.Theories.{Theory}
use Rattle.sq_ground.specs.Derivations.{HasDerivation}
use Rattle.sq_ground.proofs.Derivations.{derive_outright}
use Rattle.sq_ground.proofs.Propositional.{claim, Proved, by_two, by_three, from_fact, and_left}
use Rattle.sq_ground.proofs.Propositional.{if_to}

-- with A for u = v, R for a reflexive equation, and A and R giving that X and Y are equivalent
swap_truth : (A R X Y : Bool)
    → (if (if A then R else false) then
    (if (if X then Y else true) then (if Y then X else true) else false) else true) ≡ true
    → A ≡ true → R ≡ true → X ≡ true → Y ≡ true
swap_truth true true true Y e a r x = and_left Y (if Y then true else true) e
swap_truth true true false Y e a r x = cc
swap_truth true false X Y e a r x = cc
swap_truth false R X Y e a r x = cc

chain_truth : (R C X Y : Bool)
    → (if (if R then C else false) then
    (if (if X then Y else true) then (if Y then X else true) else false) else true) ≡ true
    → R ≡ true → C ≡ true → (if X then Y else true) ≡ true
chain_truth R C false Y e r c = refl
chain_truth true true true Y e r c = and_left Y (if Y then true else true) e
chain_truth true false true Y e r c = cc
chain_truth false C true Y e r c = cc

module _ (th : Theory) (left : Bool) where
  pub reflexive : (H : List Ground) (u : Ground) → Proved th left H (equal u u)
  reflexive H u =
      from_fact th left H (equal u u)
      (derive_outright th (fact left (equal u u)) (FollowsBy.reflexive left u))

  -- u = v and p = q give that u = p and v = q are equivalent
  equal_equations : (u p v q : Ground)
      → HasDerivation th
      (fact left (implies (conj (equal u v ∷ equal p q ∷ [])) (equivalent (equal u p) (equal v q))))
  equal_equations u p v q =
      derive_outright th _
      (FollowsBy.congruent left kind.equality [] (more u (more p none)) (more v (more q none)) refl)

  pub symmetric : (H : List Ground) (u v : Ground) → Proved th left H (equal v u)
      → Proved th left H (equal u v)
  symmetric H u v p =
      by_three th left (claim H (equal v u)) (claim H (equal v v))
      (claim [] (implies (conj (equal v u ∷ equal v v ∷ [])) (equivalent (equal v v) (equal u v))))
      (claim H (equal u v)) p (reflexive H v) (equal_equations v v u v)
      (λ w x y z h.
      swap_truth (value w (equal v u)) (value w (equal v v)) (value w (equal v v))
      (value w (equal u v)) (z (each_none (IsTrueAt w))) (x h) (y h) (y h))

  pub transitive : (H : List Ground) (u w v : Ground) → Proved th left H (equal u w)
      → Proved th left H (equal w v) → Proved th left H (equal u v)
  transitive H u w v p q =
      by_two th left (claim H (equal u w)) (claim H (implies (equal u w) (equal u v)))
      (claim H (equal u v)) p
      (by_three th left (claim H (equal u u)) (claim H (equal w v))
      (claim [] (implies (conj (equal u u ∷ equal w v ∷ [])) (equivalent (equal u w) (equal u v))))
      (claim H (implies (equal u w) (equal u v))) (reflexive H u) q (equal_equations u w u v)
      (λ t x y z h.
      chain_truth (value t (equal u u)) (value t (equal w v)) (value t (equal u w))
      (value t (equal u v)) (z (each_none (IsTrueAt t))) (x h) (y h)))
      (λ t x y h. if_to (value t (equal u w)) (value t (equal u v)) (y h) (x h))
