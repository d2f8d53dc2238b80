-- What the calls of a shelf and of a sink do to the contents that are told, and when they fail.
use Rattle.std.specs.Prelude.{◌≡◌, ◌⊎◌, ◌≤◌, ◌<◌, ◌+◌, ◌-◌, ◌^◌, ℕ, List, ◌++◌, length, take, drop}
use Rattle.std.specs.Prelude.{min, Result, IsErrOf, IsSomeAnd, unwrap_or, [], None}
use Rattle.std.specs.declared.option.Option.{Option}
use Rattle.std.specs.declared.cmp.Ordering.{Ordering}
use Rattle.std.specs.Option.{option_map, option_and_then}
use Rattle.std.specs.Ordering.{nat_cmp}
use Rattle.std.specs.Cmp.Lexicographic.{slice_cmp}
use Rattle.std.specs.FinMap.{FinMap, get, insert}
use Rattle.sq_edge.specs.declared.shelf.ShelfError.{ShelfError}
use Rattle.sq_edge.specs.declared.shelf.ShelfError.TheVariants.{Failed, Missing}

-- names in the order of their bytes
abbrev pub name_cmp : List ℕ → List ℕ → Ordering
name_cmp = slice_cmp nat_cmp

-- the bytes of each file
abbrev pub Files : Type 0
Files = FinMap name_cmp (List ℕ)

-- the bytes of the file with this name, where files are told and it is there
abbrev pub held : Option Files → List ℕ → Option (List ℕ)
held files name = option_and_then (λ m. get m name) files

-- files are told, and the name is not there
abbrev pub Lacks : Option Files → List ℕ → Type 0
Lacks files name = IsSomeAnd files (λ m. get m name ≡ None)

-- the files with this content under the name, where they are told
abbrev pub with_file : Option Files → List ℕ → List ℕ → Option Files
with_file files name bytes = option_map (λ m. insert m name bytes) files

-- the files with these bytes behind what stands under the name, where they are told
abbrev pub with_more : Option Files → List ℕ → List ℕ → Option Files
with_more files name bytes = option_map
    (λ m. insert m name (unwrap_or (get m name) [] ++ bytes)) files

-- after an append that failed: what was there, or that with a front of the piece behind a file that
-- is there
abbrev pub KeptOrFront : Option Files → Option Files → List ℕ → List ℕ → Type 0
KeptOrFront old new name piece = (new ≡ old)
    ⊎ ((n : ℕ) × (Lacks old name → ⊥) × (new ≡ with_more old name (take n piece)))

-- the bytes that a sink held and then these, where they are told
abbrev pub and_then_bytes : Option (List ℕ) → List ℕ → Option (List ℕ)
and_then_bytes known bytes = option_map (λ old. old ++ bytes) known

-- a piece of the file from that place on. None comes only where no byte is left or none was asked
-- for
pub record IsPiece (file : List ℕ) (at room : ℕ) (piece : List ℕ) : Type 0 where
  pub front : piece ≡ take (length piece) (drop at file)
  pub end : 0 < room → length piece ≡ 0 → length file ≤ at

-- a count has risen, or stands at its end
abbrev pub Rose : ℕ → ℕ → Type 0
Rose before now = min (before + 1) (2 ^ 64 - 1) ≤ now

-- the counts don't fall, and where an error comes its count has risen
pub record HasCause {T : Type 0} (faults misses faults_after misses_after : ℕ)
    (result : Result T ShelfError) : Type 0 where
  pub faults_rise : faults ≤ faults_after
  pub misses_rise : misses ≤ misses_after
  pub failed : IsErrOf result Failed → Rose faults faults_after
  pub missing : IsErrOf result Missing → Rose misses misses_after
