use Rattle.std.proofs.Common.{◌≡◌, ◌++◌, map, drop}
use Rattle.sq_cert_words.specs.Spelling.{blanked}
use Rattle.sq_cert_steps.specs.Lines.{value_of, arguments_words}
use Rattle.sq_cert_steps.proofs.writing.write_values.Given as goal

abbrev pub invariant-loop-value : goal.invariant-loop-value
invariant-loop-value l =
    l.out ++ blanked (arguments_words (map value_of (drop l.value-index l.values)))
    ≡ l.fn.out ++ blanked (arguments_words (map value_of l.values))
