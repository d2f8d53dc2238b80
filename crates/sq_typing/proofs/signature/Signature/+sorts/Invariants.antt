use Rattle.std.proofs.Common.{◌≡◌, drop}
use Rattle.sq_term.specs.Symbols.{kind_of}
use Rattle.sq_term.specs.View.{term_trees}
use Rattle.sq_typing.specs.Typing.{have_sorts}
use Rattle.sq_typing.specs.Views.{signature_tree, binder_sorts}
use Rattle.sq_typing.proofs.signature.Signature.+sorts.Given as goal

abbrev pub invariant-have_sorts-loop-arg : goal.invariant-have_sorts-loop-arg
invariant-have_sorts-loop-arg l =
    (l.k ≡ l.arg-index)
    × (have_sorts (signature_tree l.self) (binder_sorts l.binders) (kind_of l.function) l.k
    (term_trees (drop l.arg-index l.args))
    ≡ have_sorts (signature_tree l.self) (binder_sorts l.binders) (kind_of l.function) 0
    (term_trees l.args))
