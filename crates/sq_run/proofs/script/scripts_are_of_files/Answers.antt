use Rattle.sq_run.proofs.FilesRead.{script_is_of_file, file_is_read}
use Rattle.sq_run.proofs.script.scripts_are_of_files.Goals as goal

pub returns-clause-file : goal.returns-clause-file
returns-clause-file c = script_is_of_file

pub returns-clause-complete : goal.returns-clause-complete
returns-clause-complete c = file_is_read
