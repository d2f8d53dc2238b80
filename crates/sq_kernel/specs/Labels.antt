-- The labels of a starting sequent's hypotheses.
use Rattle.std.specs.Prelude.{ℕ, zero, suc, List, [], ◌∷◌, ◌++◌, codes}
use Rattle.std.specs.Fmt.{decimal}

abbrev pub hypothesis_label : ℕ → List ℕ
hypothesis_label k = codes "H" ++ decimal k

-- H0, H1, H2 and so on, so many
abbrev pub hypothesis_labels : ℕ → List (List ℕ)
hypothesis_labels zero = []
hypothesis_labels (suc n) = hypothesis_labels n ++ hypothesis_label n ∷ []
