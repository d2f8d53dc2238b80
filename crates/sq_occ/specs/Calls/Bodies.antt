-- What is found once in the bodies of a system, and what a macro lists of it.
use Rattle.std.specs.Prelude.{◌≡◌, ◌≢◌, ◌<◌, ◌+◌, suc, ℕ, List, [], ◌∷◌, ◌++◌, map, length}
use Rattle.std.specs.Prelude.{false, Result, Ok, Err}
use Rattle.sq_base.specs.declared.sort.Sort.{Sort}
use Rattle.sq_term.specs.declared.term.Macro.{Macro}
use Rattle.sq_term.specs.Lists.{Each}
use Rattle.sq_term.specs.Syntax.{TsTree, action, le}
use Rattle.sq_term.specs.Systems.{ActionTree}
use Rattle.sq_system.specs.declared.fault.OccFault.{OccFault}
use Rattle.sq_system.specs.declared.fault.OccFault.TheVariants.{TooLarge, NoMemory}
use Rattle.sq_occ.specs.declared.place.Scan.{Scan as ScanOf}
use Rattle.sq_occ.specs.declared.bodies.ActionPlaces.{ActionPlaces as PlacesOf}
use Rattle.sq_occ.specs.Entries.{OccTree, with_indices}
use Rattle.sq_occ.specs.Searches.{binders, lifted_ts, reach}
use Rattle.sq_occ.specs.Sizes.{list_nodes}
use Rattle.sq_occ.specs.Calls.Scans.{ActionPlaces, Scan, scan}
use Rattle.sq_occ.specs.Calls.Views.{occ_trees}
use Rattle.sq_occ.specs.Calls.Lists.{HaveShallowMessages, Refuses}

abbrev pub places_of : PlacesOf → ActionPlaces
places_of p =
    record { action = p.action; arity = p.arity; places = occ_trees p.places }

-- a place in a body as it is met where macro m is read at t under the binders b
abbrev pub met_at : ActionPlaces → List Sort → Macro → TsTree → OccTree → OccTree
met_at p b m t u = record u {
  bound = u.bound ++ with_indices p.arity b;
  guard = le (action p.action (binders (length u.bound) p.arity))
      (lifted_ts (length u.bound + p.arity) (reach m t));
}

abbrev pub met_in : ActionPlaces → List Sort → Macro → TsTree → List OccTree
met_in p b m t = map (met_at p b m t) p.places

abbrev pub met_in_all : List ActionPlaces → List Sort → Macro → TsTree → List OccTree
met_in_all [] b m t = []
met_in_all (p ∷ ps) b m t = met_in p b m t ++ met_in_all ps b m t

abbrev pub scan_of : ScanOf → Scan
scan_of s = record {
  funs = s.funs.now;
  name = s.name;
  left = s.left;
  arity = s.arity;
  at_macro = met_in_all (map places_of s.bodies.now);
}

-- the same below the indices of an action, where macros are passed over
abbrev pub within_action : Scan → ℕ → Scan
within_action S r = record S { arity = r; at_macro = λ b m t. [] }

abbrev pub places_in : Scan → ℕ → ActionTree → ActionPlaces
places_in S j a = record {
  action = j;
  arity = a.arity;
  places = scan (within_action S a.arity) [] false a.cond
      ++ scan (within_action S a.arity) [] false a.output;
}

-- in each action, the first of the list being number j
abbrev pub all_places_in : Scan → ℕ → List ActionTree → List ActionPlaces
all_places_in S j [] = []
all_places_in S j (a ∷ rest) = places_in S j a ∷ all_places_in S (suc j) rest

abbrev pub all_nodes : List ActionPlaces → ℕ
all_nodes [] = 0
all_nodes (p ∷ ps) = list_nodes p.places + all_nodes ps

abbrev pub HaveShallowPlaces : List ActionPlaces → Type 0
HaveShallowPlaces ps = Each (λ p. HaveShallowMessages p.places) ps

-- the places in the bodies of an action, or refused where they would pass the room
abbrev pub FindsIn : ℕ → ℕ → Result PlacesOf OccFault → ActionPlaces → Type 0
FindsIn old new (Ok p) q = (places_of p ≡ q) × (new + list_nodes q.places ≡ old)
FindsIn old new (Err e) q = Refuses e old q.places

-- all places in bodies, or refused where they would pass the room
abbrev pub FindsWithin : ℕ → Result (List PlacesOf) OccFault → List ActionPlaces → Type 0
FindsWithin room (Ok ps) qs = map places_of ps ≡ qs
FindsWithin room (Err e) qs =
    e ≢ NoMemory → (e ≡ TooLarge) × (HaveShallowPlaces qs → room < all_nodes qs)
