use Rattle.sq_resolve.proofs.PlaceLaws.{term_places, index_places, time_places}
use Rattle.sq_resolve.proofs.laws.a_refusal_is_that_of_the_first_place.Goals as goal

pub returns : goal.returns
returns c = record { term = term_places; index = index_places; timestamp = time_places }
