use Rattle.std.proofs.Common.{◌≡◌, ℕ, List, drop}
use Rattle.std.specs.List.{position_from}
use Rattle.std.specs.Str.{bytes_eq}
use Rattle.sq_run.proofs.goal.labelled.Given as goal

abbrev pub invariant-loop-at : goal.invariant-loop-at
invariant-loop-at l =
    position_from (λ (own : List ℕ). bytes_eq own l.label) l.at (drop l.at l.labels)
    ≡ position_from (λ (own : List ℕ). bytes_eq own l.label) 0 l.labels
