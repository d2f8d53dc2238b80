-- What the calculus knows of a term has a derivation.
use Rattle.std.proofs.Common.{◌≡◌, subst, [], ◌∷◌, ◌++◌, Bool, true}
use Rattle.sq_base.specs.declared.sort.Sort.{Sort}
use Rattle.sq_term.specs.declared.term.Side.{Side}
use Rattle.sq_term.specs.Closed.{is_closed}
use Rattle.sq_term.specs.Lists.{Member}
use Rattle.sq_term.specs.Syntax.{TermTree}
use Rattle.sq_term.specs.Translate.{Assignment, translate}
use Rattle.sq_term.proofs.Members.{each_none}
use Rattle.sq_system.specs.Sequents.{SequentTree, trace, local, equiv, vars_of, body_of}
use Rattle.sq_ground.specs.Derivations.{HasDerivation}
use Rattle.sq_ground.specs.Holding.{sides_of, IsAssignment, claim_of, HoldsAt}
use Rattle.sq_ground.specs.Lines.{fact}
use Rattle.sq_ground.specs.Rules.{FollowsBy}
use Rattle.sq_ground.specs.Theories.{Theory, world_at}
use Rattle.sq_ground.specs.Truth.{IsTrueAt}
use Rattle.sq_ground.proofs.Derivations.{derive_outright}
use Rattle.sq_ground.proofs.Propositional.{claim, by_two, andi}
use Rattle.sq_sequent.specs.Premises.{assuming}
use Rattle.sq_formula.specs.Facts.{HasFact}
use Rattle.sq_sequent.specs.Rows.{IsOn}
use Rattle.sq_rules_logic.proofs.FindFact.{find-known}
use Rattle.sq_rules_logic.proofs.Holding.{each-map_push}

module _ (th : Theory) where
  -- the formula has a derivation without hypotheses, on a side and under an assignment
  abbrev pub Known : Bool → Assignment → TermTree → Type 0
  Known left a F = HasDerivation th (fact left (translate (world_at th left) a [] F))

  -- what is known on each side and under each assignment may be a hypothesis of a local sequent
  pub known_sound : (s : SequentTree) (side : Side) (F : TermTree) → IsOn (body_of s) side
      → ((left : Bool) → Member (sides_of side) left → (a : Assignment)
      → IsAssignment th (vars_of s) a → Known left a F)
      → HoldsAt th (assuming s F) → HoldsAt th s
  unfolding assuming
  known_sound (local own vars H g) side F e k p = λ a f left m.
      by_two th left (claim [] (translate (world_at th left) a [] F))
      (claim_of (world_at th left) a (H ++ F ∷ []) g) (claim_of (world_at th left) a H g)
      (k left (subst (λ q. Member (sides_of q) left) e m) a f) (p a f left m)
      (λ v x y h.
      y (each-map_push (translate (world_at th left) a []) H F (IsTrueAt v) h
      (x (each_none (IsTrueAt v)))))
  known_sound (trace vars H g) side F e k p = absurd e
  known_sound (equiv vars H known items) side F e k p = absurd e

  pub fact_known : (x : Sort) (t F : TermTree) → is_closed 0 t ≡ true → HasFact th.funs x t F
      → (left : Bool) (a : Assignment) → Known left a F
  fact_known x t F closed (HasFact.of_conditional b u v) left a =
      andi th left [] _ _
      (derive_outright th _
      (FollowsBy.when_true left (translate (world_at th left) a [] b)
      (translate (world_at th left) a [] u) (translate (world_at th left) a [] v)))
      (derive_outright th _
      (FollowsBy.when_false left (translate (world_at th left) a [] b)
      (translate (world_at th left) a [] u) (translate (world_at th left) a [] v)))
  fact_known x t F closed (HasFact.of_first u v) left a =
      derive_outright th _
      (FollowsBy.first_of_pair left (translate (world_at th left) a [] u)
      (translate (world_at th left) a [] v))
  fact_known x t F closed (HasFact.of_second u v) left a =
      derive_outright th _
      (FollowsBy.second_of_pair left (translate (world_at th left) a [] u)
      (translate (world_at th left) a [] v))
  fact_known x t F closed (HasFact.of_boolean b) left a =
      derive_outright th _ (FollowsBy.boolean_message left (translate (world_at th left) a [] b))
  fact_known x t F closed (HasFact.of_signature f m k is) left a =
      derive_outright th _
      (FollowsBy.signed_checks left f (translate (world_at th left) a [] m)
      (translate (world_at th left) a [] k) is)
  fact_known x t F closed (HasFact.of_find c G u v) left a = find-known th left a c G u v closed
