use Rattle.std.proofs.Common.{◌≡◌, ◌++◌, drop}
use Rattle.sq_term.specs.View.{term_trees}
use Rattle.sq_cert_words.specs.Spelling.{all_words}
use Rattle.sq_cert_words.specs.Spelling.{blanked}
use Rattle.sq_cert_terms.proofs.writing.+write.Given as goal

abbrev pub invariant-write_terms-loop-term : goal.invariant-write_terms-loop-term
invariant-write_terms-loop-term l =
    l.out ++ blanked (all_words (term_trees (drop l.term-index l.terms)))
    ≡ l.fn.out ++ blanked (all_words (term_trees l.terms))
