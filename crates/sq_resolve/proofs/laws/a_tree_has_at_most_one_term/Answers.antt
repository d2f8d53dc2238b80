use Rattle.sq_resolve.proofs.TypedLaws.{term_typed, typed_term, one_term}
use Rattle.sq_resolve.proofs.laws.a_tree_has_at_most_one_term.Goals as goal

pub returns : goal.returns
returns c = record { given = term_typed; found = typed_term; one = one_term }
