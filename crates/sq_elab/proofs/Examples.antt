-- The small processes, by computation.
use Rattle.std.specs.Prelude.{◌≡◌, refl, [], ◌∷◌, Some, None, Err, codes}
use Rattle.std.specs.Fmt.{digits}
use Rattle.sq_base.specs.declared.sort.Sort.TheVariants.{Message, Index, Timestamp}
use Rattle.sq_elab.specs.declared.fault.ElabFault.TheVariants as fault
use Rattle.sq_elab.specs.Outcome.{outcome}
use Rattle.sq_term.specs.Systems.{clash}
use Rattle.sq_elab.specs.Worked.{base, answering, answering_gives, two_inputs}
use Rattle.sq_elab.specs.Worked.{two_inputs_give, searching, searching_gives, deciding}
use Rattle.sq_elab.specs.Worked.{deciding_gives, side_by_side, side_by_side_gives, creating}
use Rattle.sq_elab.specs.Worked.{creating_gives, with_label, labelled, labelled_gives, process_p}
use Rattle.sq_elab.specs.Worked.{process_q, both_processes, calling, calling_gives, tag, reader}
use Rattle.sq_elab.specs.Worked.{tag_and_reader, basic_hash, basic_hash_paths, finding}
use Rattle.sq_elab.specs.Worked.{counts_and_paths, tags, tags_give, readers, readers_give}
use Rattle.sq_elab.specs.Worked.{finding_gives, finding_path, nothing_found_path, hidden_channel}
use Rattle.sq_elab.specs.Worked.{reading_input, index_with_argument, sending_init}
use Rattle.sq_elab.specs.Worked.{comparing_init, own_action, short_call, unseen_variable}
use Rattle.sq_elab.specs.Worked.{sending_x, self_call, one_process, c_, x_, i_, a_}
use Rattle.sq_elab.specs.Worked.{one_name_twice, one_name_twice_gives, late_labels}
use Rattle.sq_elab.specs.Worked.{late_labels_give, sending_first, sending_first_gives}
use Rattle.sq_elab.specs.Worked.{equal_parameters, calling_twice, calling_twice_gives, nothing}
use Rattle.sq_elab.specs.Worked.{nothing_gives, hidden_process, index_elsewhere}
use Rattle.sq_elab.specs.Worked.{name_with_argument, message_argument}

pub answering-gives : outcome (base [] []) answering ≡ answering_gives
unfolding digits
answering-gives = refl

pub two-inputs-give : outcome (base [] []) two_inputs ≡ two_inputs_give
unfolding digits
two-inputs-give = refl

pub searching-gives : outcome (base [] []) searching ≡ searching_gives
unfolding digits
searching-gives = refl

pub deciding-gives : outcome (base [] []) deciding ≡ deciding_gives
unfolding digits
deciding-gives = refl

pub side-by-side-gives : outcome (base [] []) side_by_side ≡ side_by_side_gives
unfolding digits
side-by-side-gives = refl

pub creating-gives : outcome (base [] []) creating ≡ creating_gives
unfolding digits
creating-gives = refl

pub labelled-gives : outcome (base with_label []) labelled ≡ labelled_gives
unfolding digits
labelled-gives = refl

pub calling-gives :
    outcome (base both_processes (process_p ∷ process_q ∷ [])) calling ≡ calling_gives
unfolding digits
calling-gives = refl

pub tags-give : outcome (base tag_and_reader (tag ∷ reader ∷ [])) tags ≡ tags_give
unfolding digits
tags-give = refl

pub readers-give : outcome (base tag_and_reader (tag ∷ reader ∷ [])) readers ≡ readers_give
unfolding digits
readers-give = refl

pub basic-hash-paths :
    counts_and_paths (base tag_and_reader (tag ∷ reader ∷ [])) basic_hash ≡ basic_hash_paths
basic-hash-paths = refl

pub finding-gives : outcome (base [] []) finding ≡ finding_gives
unfolding digits
finding-gives = refl

-- the two actions of `finding`: where it found and not, and where it found twice
pub found-and-not :
    clash finding_path nothing_found_path 0 ≡ Some (record { agree = 1; differ = 0 })
found-and-not = refl

pub found-twice : clash finding_path finding_path 0 ≡ Some (record { agree = 1; differ = 2 })
found-twice = refl

pub not-found-twice : clash nothing_found_path nothing_found_path 0 ≡ None
not-found-twice = refl

-- ---- refusals

pub hidden : outcome (base [] []) hidden_channel ≡ Err (fault.Unknown c_)
hidden = refl

pub no-process-reads-input : outcome (base [] []) reading_input ≡ Err fault.ProcessShape
no-process-reads-input = refl

pub index-takes-none : outcome (base [] []) index_with_argument ≡ Err (fault.Arity i_ 0 1)
index-takes-none = refl

pub init-is-no-message : outcome (base [] []) sending_init ≡ Err (fault.SortClash Message Timestamp)
init-is-no-message = refl

pub no-process-speaks-of-init : outcome (base [] []) comparing_init ≡ Err fault.ProcessShape
no-process-speaks-of-init = refl

pub own-name-is-unknown : outcome (base [] []) own_action ≡ Err (fault.Unknown a_)
own-name-is-unknown = refl

pub call-is-short :
    outcome (base both_processes (process_p ∷ process_q ∷ [])) short_call
    ≡ Err (fault.Arity (codes "P") 2 1)
call-is-short = refl

pub variable-is-unseen :
    outcome (base one_process (sending_x ∷ [])) unseen_variable ≡ Err (fault.Unknown x_)
variable-is-unseen = refl

-- process P = P names a process that was not declared before it
pub no-process-calls-itself :
    outcome (base one_process (self_call ∷ [])) self_call.body ≡ Err (fault.Unknown (codes "P"))
no-process-calls-itself = refl

-- ---- and some more

pub one-name-twice-gives : outcome (base [] []) one_name_twice ≡ one_name_twice_gives
unfolding digits
one-name-twice-gives = refl

pub late-labels-give : outcome (base [] []) late_labels ≡ late_labels_give
late-labels-give = refl

pub sending-first-gives : outcome (base [] []) sending_first ≡ sending_first_gives
unfolding digits
sending-first-gives = refl

pub calling-twice-gives :
    outcome (base one_process (equal_parameters ∷ [])) calling_twice ≡ calling_twice_gives
calling-twice-gives = refl

pub nothing-gives : outcome (base [] []) nothing ≡ nothing_gives
nothing-gives = refl

pub process-is-hidden :
    outcome (base one_process (self_call ∷ [])) hidden_process ≡ Err (fault.Unknown (codes "P"))
process-is-hidden = refl

pub index-is-not-found : outcome (base [] []) index_elsewhere ≡ Err (fault.Unknown i_)
index-is-not-found = refl

pub name-takes-none : outcome (base [] []) name_with_argument ≡ Err (fault.Arity x_ 0 1)
name-takes-none = refl

pub index-is-wanted :
    outcome (base one_process (equal_parameters ∷ [])) message_argument
    ≡ Err (fault.SortClash Index Message)
index-is-wanted = refl
