use Rattle.std.proofs.Common.{◌≡◌, ◌++◌, drop}
use Rattle.sq_cert_words.specs.Spelling.{index_words}
use Rattle.sq_cert_words.specs.Spelling.{blanked}
use Rattle.sq_cert_terms.proofs.writing.write_indices.Given as goal

abbrev pub invariant-loop-index : goal.invariant-loop-index
invariant-loop-index l =
    l.out ++ blanked (index_words (drop l.index-index l.indices))
    ≡ l.fn.out ++ blanked (index_words l.indices)
