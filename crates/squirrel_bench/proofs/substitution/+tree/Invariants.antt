use Rattle.squirrel_bench.proofs.substitution.+tree.Given as goal

abbrev pub decreases-tree : goal.decreases-tree
decreases-tree l = l.leaves
