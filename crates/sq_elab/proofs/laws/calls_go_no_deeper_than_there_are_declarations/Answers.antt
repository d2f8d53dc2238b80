use Rattle.sq_elab.proofs.InliningLaws.{deeper_calls_change_nothing}
use Rattle.sq_elab.proofs.laws.calls_go_no_deeper_than_there_are_declarations.Goals as goal

pub returns : goal.returns
returns c = deeper_calls_change_nothing
