-- A formula's side with messages in the place of its schema variables is past the limits where the
-- side is.
use Rattle.std.proofs.Common.{◌≡◌, refl, ap, List, [], Bool, true, false, Ok, Err}
use Rattle.std.specs.Prelude.{if◌then◌else◌}
use Rattle.sq_term.specs.declared.term.Side.{Side}
use Rattle.sq_term.specs.declared.term.SizeFault.TheVariants as size_fault
use Rattle.sq_term.specs.Measure.{size, depth}
use Rattle.sq_term.specs.Syntax.{TermTree}
use Rattle.sq_subst.specs.Projection.{projected}
use Rattle.sq_subst.specs.Room.{fits, within}
use Rattle.sq_subst.specs.Substitution.{substitution, instance_of}
use Rattle.sq_system.specs.declared.fault.RuleFault.TheVariants.{TooLarge}
use Rattle.sq_system.specs.Limits.{most_nodes}
use Rattle.sq_formula.proofs.NoSmaller.{no-smaller, no-flatter}
use Rattle.sq_sequent.specs.Logic.{held}
use Rattle.sq_sequent.specs.Sides.{instance_on}
use Rattle.sq_sequent.proofs.Held.{larger}

-- where the formula's side is too large, so is its instance
pub side-refused : (side : Side) (ms : List TermTree) (F : TermTree)
    → within most_nodes (projected side F) ≡ Err size_fault.TooLarge
    → held (instance_on side ms F) ≡ Err TooLarge
side-refused side ms F h =
    ap (λ b. if b then Ok (instance_on side ms F) else Err TooLarge)
    (larger (size (projected side F)) (depth (projected side F)) (size (instance_on side ms F))
    (depth (instance_on side ms F)) (unfit (fits most_nodes (projected side F)) h)
    (no-smaller (substitution [] [] ms) (projected side F) 0)
    (no-flatter (substitution [] [] ms) (projected side F) 0))
  where
    unfit : (b : Bool) → (if b then Ok (projected side F) else Err size_fault.TooLarge)
        ≡ Err size_fault.TooLarge → b ≡ false
    unfit true e = absurd (cc)
    unfit false e = refl

side-answered : (side : Side) (F c : TermTree) → within most_nodes (projected side F) ≡ Ok c
    → c ≡ projected side F
side-answered side F c = go (fits most_nodes (projected side F))
  where
    go : (b : Bool) → (if b then Ok (projected side F) else Err size_fault.TooLarge) ≡ Ok c
        → c ≡ projected side F
    go true e = cc
    go false e = absurd (cc)

-- and where it is not, the instance is that of the side
pub of-side : (side : Side) (ms : List TermTree) (F c : TermTree)
    → within most_nodes (projected side F) ≡ Ok c
    → held (instance_of [] ms c) ≡ held (instance_on side ms F)
of-side side ms F c h = ap (λ t. held (instance_of [] ms t)) (side-answered side F c h)

pub ruleset instance_rules = (side-refused, of-side)
