-- What a name that is not taken is chosen from: a stem, then the stem and 1, and so on.
use Rattle.std.specs.Prelude.{ℕ, ◌^◌, List, ◌++◌, Bool, nat_eq, if◌then◌else◌}
use Rattle.std.specs.List.{list_any}
use Rattle.std.specs.Str.{bytes_eq}
use Rattle.std.specs.Fmt.{decimal}

-- the stem, then the stem and 1, the stem and 2, and so on
abbrev pub candidate : List ℕ → ℕ → List ℕ
candidate s k = if nat_eq k 0 then s else s ++ decimal k

-- so many candidates of a stem differ, as a number is written with 64 digits at most
abbrev pub candidate_count : ℕ
candidate_count = 10 ^ 64

-- whether a text is one of these names
abbrev pub among : List ℕ → List (List ℕ) → Bool
among text names = list_any (bytes_eq text) names
