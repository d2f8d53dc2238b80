-- What an instance with messages says, on a side, is what the formula means of the messages'
-- meanings.
use Rattle.std.proofs.Common.{◌≡◌, ℕ, refl, ap, ◌∙◌, List, [], length}
use Rattle.std.proofs.Common.{true, false, nat_lt}
use Rattle.sq_base.specs.declared.sort.Sort.{Sort}
use Rattle.sq_base.specs.declared.sort.Sort.TheVariants.{Boolean, Index, Timestamp}
use Rattle.sq_term.specs.declared.term.Side.{Side}
use Rattle.sq_term.specs.Syntax.{TermTree}
use Rattle.sq_term.specs.Translate.{World, Assignment, translate}
use Rattle.sq_typing.specs.Typing.{Signature, has_sort_at}
use Rattle.sq_typing.specs.Typing.{has_sort}
use Rattle.sq_subst.specs.Laws.{is_read_on, terms_closed, instance_values}
use Rattle.sq_subst.specs.Projection.{projected}
use Rattle.sq_subst.proofs.Laws.{instance_law, project_law}
use Rattle.sq_sequent.specs.Sides.{instance_on}
use Rattle.sq_formula.proofs.KeptSorts.{with_variables}
use Rattle.sq_formula.proofs.Reached.{all_reached}
use Rattle.sq_formula.proofs.SideSorts.{side-sort}

module _ (symbols : Signature) (n : ℕ) (ms : List TermTree) (many : length ms ≡ n) where
  abbrev bare : Signature
  bare = with_variables symbols n []

  no_variable : {A : Type 0} (k : ℕ) (s : Sort) → has_sort_at bare.vars k s ≡ true → A
  no_variable k s h = let z : false ≡ true = h in absurd (cc)

  pub instance_meaning : (w : World) (a : Assignment) (side : Side) (F : TermTree)
      → is_read_on side w ≡ true → terms_closed ms ≡ true → has_sort bare [] Boolean F ≡ true
      → translate w a [] (instance_on side ms F) ≡ translate w (instance_values w a [] ms) [] F
  instance_meaning w a side F e c h =
      instance_law w a [] refl ms (projected side F) c
      (all_reached bare [] ms (λ k p. no_variable k Index p) (λ k p. no_variable k Timestamp p)
      (λ k p. ap (nat_lt k) many ∙ p) 0 [] Boolean (projected side F)
      (side-sort bare side [] Boolean F h))
      ∙ project_law w (instance_values w a [] ms) [] side F e
