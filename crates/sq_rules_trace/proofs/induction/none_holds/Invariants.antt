use Rattle.std.proofs.Common.{◌≡◌, ◌&&◌, drop, map}
use Rattle.std.specs.List.{list_all}
use Rattle.sq_term.specs.View.{term_tree}
use Rattle.sq_rules_trace.specs.Induction.{is_free_of}
use Rattle.sq_rules_trace.proofs.induction.none_holds.Given as goal

abbrev pub invariant-loop-hyp : goal.invariant-loop-hyp
invariant-loop-hyp l =
    (l.free && list_all (is_free_of l.v) (map term_tree (drop l.hyp-index l.hyps)))
    ≡ list_all (is_free_of l.v) (map term_tree l.hyps)
