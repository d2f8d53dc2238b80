use Rattle.std.proofs.Common.{◌≡◌, map, take}
use Rattle.sq_ast.specs.View.{trees, formula_tree}
use Rattle.sq_parse_term.specs.Parse.{named}
use Rattle.sq_parse_term.proofs.alternatives.named.Given as goal

abbrev pub invariant-loop-name : goal.invariant-loop-name
invariant-loop-name l = trees (map formula_tree l.found) ≡ named (take l.name-index l.fn.names)
