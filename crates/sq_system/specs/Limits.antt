-- How much there may be.
use Rattle.std.specs.Prelude.{ℕ}

-- nodes of a sequent inside a derivation, and its depth
abbrev pub most_nodes : ℕ
most_nodes = 8388608

abbrev pub most_depth : ℕ
most_depth = 1024

-- actions of a system
abbrev pub most_actions : ℕ
most_actions = 1024

-- entries of each list of an environment
abbrev pub most_entries : ℕ
most_entries = 4294967295
