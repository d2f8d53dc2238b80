use Rattle.sq_elab.proofs.Examples.{answering-gives, two-inputs-give, searching-gives}
use Rattle.sq_elab.proofs.Examples.{deciding-gives, side-by-side-gives, creating-gives}
use Rattle.sq_elab.proofs.Examples.{labelled-gives, calling-gives, tags-give, readers-give}
use Rattle.sq_elab.proofs.Examples.{basic-hash-paths, finding-gives, one-name-twice-gives}
use Rattle.sq_elab.proofs.Examples.{late-labels-give, sending-first-gives, calling-twice-gives}
use Rattle.sq_elab.proofs.Examples.{nothing-gives}
use Rattle.sq_elab.proofs.worked.small_processes_have_these_actions.Goals as goal

pub returns : goal.returns
returns c = record {
  answering_gives = answering-gives;
  two_inputs_give = two-inputs-give;
  searching_gives = searching-gives;
  deciding_gives = deciding-gives;
  side_by_side_gives = side-by-side-gives;
  creating_gives = creating-gives;
  labelled_gives = labelled-gives;
  calling_gives = calling-gives;
  tags_give = tags-give;
  readers_give = readers-give;
  basic_hash_paths = basic-hash-paths;
  finding_gives = finding-gives;
  one_name_twice_gives = one-name-twice-gives;
  late_labels_give = late-labels-give;
  sending_first_gives = sending-first-gives;
  calling_twice_gives = calling-twice-gives;
  nothing_gives = nothing-gives;
}
