use Rattle.sq_run.proofs.LaidOut.{scanned_laid_out, laid_out_scanned, laid_out_once}
use Rattle.sq_run.proofs.scan.sentences_are_laid_out.Goals as goal

pub returns-clause-laid_out : goal.returns-clause-laid_out
returns-clause-laid_out c = scanned_laid_out

pub returns-clause-complete : goal.returns-clause-complete
returns-clause-complete c = laid_out_scanned

pub returns-clause-once : goal.returns-clause-once
returns-clause-once c = laid_out_once
