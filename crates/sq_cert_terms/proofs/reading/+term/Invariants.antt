use Rattle.std.proofs.Common.{◌≡◌, ◌+◌, ◌*◌, [], map}
use Rattle.sq_term.specs.View.{term_tree}
use Rattle.sq_cert_words.specs.Reads.{left}
use Rattle.sq_cert_terms.specs.Reading as spec
use Rattle.sq_cert_terms.proofs.reading.+term.Given as goal

abbrev pub invariant-terms-terms : goal.invariant-terms-terms
invariant-terms-terms l =
    spec.terms_on (spec.term l.depth) (map term_tree l.terms) l.remaining (left l.words)
    ≡ spec.terms_on (spec.term l.depth) [] l.count (left l.fn.words)

abbrev pub decreases-terms-terms : goal.decreases-terms-terms
decreases-terms-terms l = l.remaining

abbrev pub decreases-term : goal.decreases-term
decreases-term l = 5 * l.depth

abbrev pub decreases-terms : goal.decreases-terms
decreases-terms l = 5 * l.depth + 1

abbrev pub decreases-boxed : goal.decreases-boxed
decreases-boxed l = 5 * l.depth + 1

abbrev pub decreases-plain_term : goal.decreases-plain_term
decreases-plain_term l = 5 * l.room + 2

abbrev pub decreases-term_of : goal.decreases-term_of
decreases-term_of l = 5 * l.room + 3
