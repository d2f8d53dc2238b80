use Rattle.sq_subst.proofs.Laws.{round_index_law, round_time_law}
use Rattle.sq_subst.proofs.meaning.opening_undoes_closing.Goals as goal

pub returns : goal.returns
returns c = λ x t e. (λ h. round_index_law x t e h, λ h. round_time_law x t e h)
