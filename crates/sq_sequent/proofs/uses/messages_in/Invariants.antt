use Rattle.std.proofs.Common.{◌≡◌, map, drop}
use Rattle.sq_term.specs.View.{term_tree}
use Rattle.sq_sequent.specs.Sites.{site_tree}
use Rattle.sq_sequent.specs.Uses.{messages_in}
use Rattle.sq_sequent.proofs.Messages.{before}
use Rattle.sq_sequent.proofs.uses.messages_in.Given as goal

abbrev pub invariant-loop-arg : goal.invariant-loop-arg
invariant-loop-arg l =
    before (map term_tree l.messages) (messages_in (site_tree l.at) (drop l.arg-index l.args))
    ≡ messages_in (site_tree l.at) l.args
