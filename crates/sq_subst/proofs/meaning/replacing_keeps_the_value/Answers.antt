use Rattle.std.proofs.Common.{[]}
use Rattle.sq_subst.proofs.Laws.{replace_ts_law, replace_idx_law}
use Rattle.sq_subst.proofs.meaning.replacing_keeps_the_value.Goals as goal

pub returns : goal.returns
returns c =
    λ w a t. (
      λ from to e f v. replace_ts_law w a from to e f v [] t,
      λ from to e f v.
          replace_idx_law w a from to e f v [] t,
    )
