-- How large a term may be that a file writes.
use Rattle.std.specs.Prelude.{ℕ}

abbrev pub most_formula_nodes : ℕ
most_formula_nodes = 65536

abbrev pub most_formula_depth : ℕ
most_formula_depth = 1000
