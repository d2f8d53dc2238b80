use Rattle.std.proofs.Common.{◌≡◌, map, length}
use Rattle.sq_cert_steps.specs.Lines.{value_of}
use Rattle.sq_cert_words.specs.Reads.{left}
use Rattle.sq_cert_steps.specs.Reading.{of_value, arguments_on, all_arguments}
use Rattle.sq_cert_steps.proofs.reading.values.Given as goal

abbrev pub invariant-rest : goal.invariant-rest
invariant-rest l =
    arguments_on of_value (map value_of l.values) (length (left l.words)) (left l.words)
    ≡ all_arguments of_value (left l.fn.words)

abbrev pub decreases-rest : goal.decreases-rest
decreases-rest l = length (left l.words)
