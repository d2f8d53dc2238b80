use Rattle.sq_parse_term.proofs.parser.+parser.Given as goal

abbrev pub decreases-parse_form : goal.decreases-parse_form
decreases-parse_form l = l.depth
