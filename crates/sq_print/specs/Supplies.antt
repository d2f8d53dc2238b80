-- The names that binders take one after another.
use Rattle.std.specs.Prelude.{◌≡◌, ◌<◌, ◌^◌, ◌&&◌, ℕ, zero, suc, not, nat_lt, List, [], ◌∷◌, ◌++◌}
use Rattle.std.specs.Prelude.{length, take, if◌then◌else◌}
use Rattle.sq_base.specs.declared.sort.Sort.TheVariants.{Index, Timestamp}
use Rattle.sq_print.specs.declared.binders.Supply.{Supply}
use Rattle.sq_print.specs.declared.binders.Binders.{Binders}
use Rattle.sq_print.specs.declared.binders.Mark.{Mark}
use Rattle.sq_print.specs.Names.{Names, is_used, stem}
use Rattle.sq_sym.specs.Candidates.{among, candidate}

-- those of the first candidates that are not used
abbrev pub free_names : Names → List ℕ → ℕ → List (List ℕ)
free_names ns s zero = []
free_names ns s (suc n) =
    if is_used ns
    (candidate s n) then free_names ns s n else free_names ns s n ++ candidate s n ∷ []

-- the names found are the free ones among those tried
pub record IsSupply (ns : Names) (s : List ℕ) (p : Supply) : Type 0 where
  pub found : p.found ≡ free_names ns s p.tried
  pub within : p.tried < 2 ^ 32

-- of the candidates with a stem, the binders around have the first free ones, so many of them
pub record HasFirst (ns : Names) (s : List ℕ) (used : ℕ) (around : List (List ℕ)) : Type 0 where
  pub taken : (k : ℕ) → k < 2 ^ 32
      → among (candidate s k) around
      ≡ (not (is_used ns (candidate s k)) && nat_lt (length (free_names ns s k)) used)

-- the supplies are right, and the binders around have taken their names from them
pub record IsAround (ns : Names) (b : Binders) : Type 0 where
  pub indices : IsSupply ns (stem Index) b.indices
  pub times : IsSupply ns (stem Timestamp) b.times
  pub index_names : HasFirst ns (stem Index) b.indices.used b.around
  pub time_names : HasFirst ns (stem Timestamp) b.times.used b.around

-- the same binders are around, and the supplies are right
pub record Kept (ns : Names) (old new : Binders) : Type 0 where
  pub around : new.around ≡ old.around
  pub indices : new.indices.used ≡ old.indices.used
  pub times : new.times.used ≡ old.times.used
  pub is_around : IsAround ns new

-- as many binders are around as at the mark, and the supplies stay
pub record Released (mark : Mark) (old new : Binders) : Type 0 where
  pub around : new.around ≡ take mark.depth old.around
  pub indices : new.indices.used ≡ mark.indices
  pub times : new.times.used ≡ mark.times
  pub index_found : new.indices.found ≡ old.indices.found
  pub index_tried : new.indices.tried ≡ old.indices.tried
  pub time_found : new.times.found ≡ old.times.found
  pub time_tried : new.times.tried ≡ old.times.tried
