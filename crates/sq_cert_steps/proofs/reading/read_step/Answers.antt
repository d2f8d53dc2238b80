use Rattle.sq_cert_steps.proofs.Answered.{line_ok, line_writable, line_bad}
use Rattle.sq_cert_steps.proofs.reading.read_step.Goals as goal

pub returns-clause-ok : goal.returns-clause-ok
returns-clause-ok c = line_ok c.args.text.now _ c.step_of_line.ensures

pub returns-clause-writable : goal.returns-clause-writable
returns-clause-writable c = line_writable c.args.text.now _ c.step_of_line.ensures

pub returns-clause-bad : goal.returns-clause-bad
returns-clause-bad c = line_bad c.args.text.now _ c.step_of_line.ensures
