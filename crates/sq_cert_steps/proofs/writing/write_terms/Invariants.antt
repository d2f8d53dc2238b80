use Rattle.std.proofs.Common.{◌≡◌, ◌++◌, map, drop}
use Rattle.sq_cert_words.specs.Spelling.{blanked}
use Rattle.sq_cert_steps.specs.Lines.{term_of, arguments_words}
use Rattle.sq_cert_steps.proofs.writing.write_terms.Given as goal

abbrev pub invariant-loop-term : goal.invariant-loop-term
invariant-loop-term l =
    l.out ++ blanked (arguments_words (map term_of (drop l.term-index l.terms)))
    ≡ l.fn.out ++ blanked (arguments_words (map term_of l.terms))
