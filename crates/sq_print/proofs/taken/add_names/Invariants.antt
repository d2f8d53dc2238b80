use Rattle.std.proofs.Common.{◌≡◌, ◌||◌, ℕ, List, drop}
use Rattle.std.specs.HashSet.{contains_text}
use Rattle.sq_sym.specs.Candidates.{among}
use Rattle.sq_print.proofs.taken.add_names.Given as goal

abbrev pub invariant-loop-name : goal.invariant-loop-name
invariant-loop-name l =
    (q : List ℕ) → (contains_text l.names q || among q (drop l.name-index l.more))
    ≡ (contains_text l.initial.names q || among q l.more)
