use Rattle.sq_resolve.proofs.Sorted.{unchanged, kept, opened}
use Rattle.sq_resolve.proofs.TypedLaws.{term_typed}
use Rattle.sq_base.specs.declared.sort.Sort.TheVariants.{Index}
use Rattle.sq_resolve.specs.Resolved.{group_variables}
use Rattle.sq_resolve.proofs.sort_laws.a_resolved_term_is_well_sorted.Goals as goal

pub returns : goal.returns
returns c =
    record {
      own = λ k g around want f u fits value is.
          unchanged k g fits around want f u value (term_typed k around want f u is);
      below = λ k g values around want f u fits value is.
          kept k g values fits around want f u value (term_typed k around want f u is);
      opened = λ k g values names outer want f u fits many are_free value is.
          opened k g values fits names outer many are_free want f u value
          (term_typed k (group_variables Index names) want f u is);
    }
