-- What the shelf and the sink in memory do besides: exact answers and exact counts.
use Rattle.std.specs.Prelude.{◌≡◌, ◌⊎◌, ℕ, Bool, true, false, not, ◌&&◌, ◌||◌, List, [], ◌∷◌, ◌+◌}
use Rattle.std.specs.Prelude.{◌-◌, ◌^◌, min, take, drop, if◌then◌else◌, ◌==◌, Result, Ok, Err, IsOk}
use Rattle.std.specs.Prelude.{None, Some, is_none}
use Rattle.std.specs.declared.option.Option.{Option}
use Rattle.std.specs.List.{list_any}
use Rattle.std.specs.Str.{bytes_eq}
use Rattle.std.specs.FinMap.{get, from_entries}
use Rattle.sq_edge.specs.declared.shelf.ShelfError.{ShelfError}
use Rattle.sq_edge.specs.declared.shelf.ShelfError.TheVariants.{Failed, Missing}
use Rattle.sq_edge.specs.declared.sink.SinkFault.{SinkFault}
use Rattle.sq_edge.specs.Edge.{name_cmp, Files}

-- files with their names, in the order in which they were put
abbrev pub Entries : Type 0
Entries = List (List ℕ × List ℕ)

-- the files that a shelf in memory tells
abbrev pub told : Entries → Option Files
told files = Some (from_entries {R = name_cmp} files)

-- the bytes of the file with this name
abbrev pub file_of : Entries → List ℕ → Option (List ℕ)
file_of files name = get (from_entries {R = name_cmp} files) name

-- whether no name stands twice
abbrev pub names_differ : Entries → Bool
names_differ [] = true
names_differ (e ∷ es) = not (list_any (λ f. bytes_eq f.0 e.0) es) && names_differ es

-- one more, up to the end of a count
abbrev pub one_more : ℕ → ℕ
one_more n = min (n + 1) (2 ^ 64 - 1)

-- one more where the test holds
abbrev pub counted : Bool → ℕ → ℕ
counted b n = if b then one_more n else n

-- two counts together, up to the end of a count
abbrev pub together : ℕ → ℕ → ℕ
together m n = min (m + n) (2 ^ 64 - 1)

-- whether the call with this number fails
abbrev pub fails_at : List ℕ → ℕ → Bool
fails_at fails call = list_any (λ n. n == call) fails

-- whether a call that is to find this file misses it: one that fails does not look
abbrev pub is_miss : Bool → Option (List ℕ) → Bool
is_miss fails file = not fails && is_none file

-- a read: all bytes from the place on, or the first `room` of them where there are more
abbrev pub read_outcome : Bool → Option (List ℕ) → ℕ → ℕ → Result (List ℕ) ShelfError
read_outcome true file at room = Err Failed
read_outcome false None at room = Err Missing
read_outcome false (Some file) at room = Ok (take room (drop at file))

abbrev pub create_outcome : Bool → Result (Unit {0}) ShelfError
create_outcome true = Err Failed
create_outcome false = Ok tt

abbrev pub append_outcome : Bool → Option (List ℕ) → Result (Unit {0}) ShelfError
append_outcome true file = Err Failed
append_outcome false None = Err Missing
append_outcome false (Some file) = Ok tt

-- The call gives its outcome, and `starved` stays. Or memory ran out: what would have been done
-- fails, and `starved` rises.
abbrev pub GivesOrStarves : {A E : Type 0} → E → Result A E → Result A E → ℕ → ℕ → Type 0
GivesOrStarves fault outcome result before after =
    ((result ≡ outcome) × (after ≡ before))
    ⊎ (IsOk outcome × (result ≡ Err fault) × (after ≡ one_more before))

-- the one fault of a sink
abbrev pub sink_fault : SinkFault
sink_fault = record {}

-- a put: the lesser of the most that the sink takes and the piece's length
abbrev pub put_outcome : Bool → ℕ → ℕ → Result ℕ SinkFault
put_outcome true most len = Err sink_fault
put_outcome false most len = Ok (min most len)

-- whether a put counts as a failed one: its number fails, or nothing can be taken of a piece that
-- is not empty
abbrev pub is_failed_put : Bool → ℕ → ℕ → Bool
is_failed_put fails most len = fails || ((most == 0) && not (len == 0))
