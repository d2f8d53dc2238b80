use Rattle.std.proofs.Common.{◌≡◌, ◌++◌, map, drop}
use Rattle.sq_cert_words.specs.Spelling.{blanked}
use Rattle.sq_cert_steps.specs.Lines.{number, arguments_words}
use Rattle.sq_cert_steps.proofs.writing.write_numbers.Given as goal

abbrev pub invariant-loop-number : goal.invariant-loop-number
invariant-loop-number l =
    l.out ++ blanked (arguments_words (map number (drop l.number-index l.numbers)))
    ≡ l.fn.out ++ blanked (arguments_words (map number l.numbers))
