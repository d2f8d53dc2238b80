use Rattle.std.proofs.Common.{◌≡◌, map, length}
use Rattle.sq_cert_steps.specs.Lines.{term_of}
use Rattle.sq_cert_words.specs.Reads.{left}
use Rattle.sq_cert_steps.specs.Reading.{of_term, arguments_on, all_arguments}
use Rattle.sq_cert_steps.proofs.reading.terms.Given as goal

abbrev pub invariant-rest : goal.invariant-rest
invariant-rest l =
    arguments_on of_term (map term_of l.terms) (length (left l.words)) (left l.words)
    ≡ all_arguments of_term (left l.fn.words)

abbrev pub decreases-rest : goal.decreases-rest
decreases-rest l = length (left l.words)
