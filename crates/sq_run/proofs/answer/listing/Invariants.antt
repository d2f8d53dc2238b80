use Rattle.std.proofs.Common.{◌≡◌, ◌++◌, drop}
use Rattle.std.specs.List.{flat_map}
use Rattle.sq_run.specs.Answering.{name_of}
use Rattle.sq_run.specs.Headline.{proved_line}
use Rattle.sq_run.proofs.answer.listing.Given as goal

abbrev pub invariant-loop-lemma : goal.invariant-loop-lemma
invariant-loop-lemma l =
    l.text ++ flat_map (λ m. proved_line (name_of m)) (drop l.lemma-index l.lemmas)
    ≡ l.fn.text ++ flat_map (λ m. proved_line (name_of m)) l.lemmas
