use Rattle.std.proofs.Common.{◌≡◌, drop}
use Rattle.sq_typing.specs.Typing.{are_indices}
use Rattle.sq_typing.specs.Views.{signature_tree, binder_sorts}
use Rattle.sq_typing.proofs.signature.Signature.are_indices.Given as goal

abbrev pub invariant-loop-i : goal.invariant-loop-i
invariant-loop-i l =
    are_indices (signature_tree l.self) (binder_sorts l.binders) (drop l.i-index l.indices)
    ≡ are_indices (signature_tree l.self) (binder_sorts l.binders) l.indices
