use Rattle.sq_rules_trace.proofs.RowSound.{row_sound}
use Rattle.sq_rules_trace.proofs.laws.time_rows_are_sound.Goals as goal

pub returns : goal.returns
returns c = row_sound
