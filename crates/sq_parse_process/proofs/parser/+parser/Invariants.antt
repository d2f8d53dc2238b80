use Rattle.sq_parse_process.proofs.parser.+parser.Given as goal

abbrev pub decreases-parse_process : goal.decreases-parse_process
decreases-parse_process l = l.depth
