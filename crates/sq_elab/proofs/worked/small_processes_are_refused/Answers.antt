use Rattle.sq_elab.proofs.Examples.{hidden, no-process-reads-input, index-takes-none}
use Rattle.sq_elab.proofs.Examples.{init-is-no-message, no-process-speaks-of-init}
use Rattle.sq_elab.proofs.Examples.{own-name-is-unknown, call-is-short, variable-is-unseen}
use Rattle.sq_elab.proofs.Examples.{no-process-calls-itself, process-is-hidden}
use Rattle.sq_elab.proofs.Examples.{index-is-not-found, name-takes-none, index-is-wanted}
use Rattle.sq_elab.proofs.worked.small_processes_are_refused.Goals as goal

pub returns : goal.returns
returns c = record {
  hidden = hidden;
  no_process_reads_input = no-process-reads-input;
  index_takes_none = index-takes-none;
  init_is_no_message = init-is-no-message;
  no_process_speaks_of_init = no-process-speaks-of-init;
  own_name_is_unknown = own-name-is-unknown;
  call_is_short = call-is-short;
  variable_is_unseen = variable-is-unseen;
  no_process_calls_itself = no-process-calls-itself;
  process_is_hidden = process-is-hidden;
  index_is_not_found = index-is-not-found;
  name_takes_none = name-takes-none;
  index_is_wanted = index-is-wanted;
}
