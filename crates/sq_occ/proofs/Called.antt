-- What a side of a term lists, with the bodies' places found once or with none.
use Rattle.std.proofs.Common.{◌≡◌, ◌≢◌, refl, sym, ap, ◌∙◌, subst, ℕ, ◌+◌, ◌<◌, ◌≤◌, List, [], map}
use Rattle.std.proofs.Common.{Bool, true, false, if◌then◌else◌, nat_le, arith}
use Rattle.std.proofs.lemmas.Bool.Decides.{nat_tests}
use Rattle.std.specs.Prelude.{Ok, Err}
use Rattle.sq_base.specs.declared.sort.Sort.{Sort}
use Rattle.sq_term.specs.declared.signature.FunDecl.{FunDecl}
use Rattle.sq_term.specs.declared.term.Macro.{Macro}
use Rattle.sq_term.specs.declared.term.Side.{Side}
use Rattle.sq_term.specs.declared.term.Side.TheVariants.{Left, Right, Both}
use Rattle.sq_term.specs.Measure.{depth}
use Rattle.sq_term.specs.Syntax.{TsTree, TermTree}
use Rattle.sq_term.specs.Systems.{SystemTree}
use Rattle.sq_term.proofs.Members.{each-append}
use Rattle.sq_system.specs.declared.fault.OccFault.{OccFault}
use Rattle.sq_system.specs.declared.fault.OccFault.TheVariants.{HasSchema, TooLarge, NoMemory}
use Rattle.sq_system.specs.Facts.{AreShallow}
use Rattle.sq_occ.specs.declared.bodies.ActionPlaces.{ActionPlaces as PlacesOf}
use Rattle.sq_occ.specs.Entries.{OccTree}
use Rattle.sq_occ.specs.Searches.{side_places, places, holds_schema}
use Rattle.sq_occ.specs.Sizes.{list_nodes, within_nodes, outcome}
use Rattle.sq_occ.specs.Listed.{side_of}
use Rattle.sq_occ.specs.Calls.Scans.{Scan, ActionPlaces, reads_macro, scan}
use Rattle.sq_occ.specs.Calls.Lists.{IsShallowRole, HaveShallowMessages, Refuses}
use Rattle.sq_occ.specs.Calls.Bodies.{places_of, met_in_all, all_places_in, all_nodes}
use Rattle.sq_occ.specs.Calls.Bodies.{HaveShallowPlaces}
use Rattle.sq_occ.proofs.Found.{met_is, side_is, scan_same}
use Rattle.sq_occ.proofs.BodyPlaces.{scan_shallow, met_all_more, met_shallow, places_shallow}
use Rattle.sq_occ.proofs.BodyPlaces.{bodies_shallow, part_more, part_shallow}

abbrev pub search_of : List FunDecl → ℕ → Bool → (List Sort → Macro → TsTree → List OccTree)
    → Scan
search_of funs n left M =
    record { funs = funs; name = n; left = left; arity = 0; at_macro = M }

module _ (funs : List FunDecl) (n : ℕ) (left : Bool) (s : SystemTree) (t : TermTree) where
  abbrev found : List ActionPlaces
  found = all_places_in (search_of funs n left (λ b m x. [])) 0 s.actions

  abbrev whole : Scan
  whole = search_of funs n left (met_in_all found)

  pub side_whole : scan whole [] false t ≡ side_places funs n (side_of left) s t
  side_whole =
      side_is whole s t refl
      (λ b m x. met_is (search_of funs n left (λ b m x. [])) s.actions 0 b m x)

  -- a term that reads no macro
  pub side_plain : (M : List Sort → Macro → TsTree → List OccTree) → reads_macro left t ≡ false
      → scan (search_of funs n left M) [] false t ≡ side_places funs n (side_of left) s t
  side_plain M h = scan_same (search_of funs n left M) (met_in_all found) t [] false h ∙ side_whole

  pub side_found : (ps : List PlacesOf) → map places_of ps ≡ found
      → scan (search_of funs n left (met_in_all (map places_of ps))) [] false t
      ≡ side_places funs n (side_of left) s t
  side_found ps e =
      ap (λ qs. scan (search_of funs n left (met_in_all qs)) [] false t) e ∙ side_whole

  -- bodies that pass the room
  pub side_stop : (e : OccFault) (room : ℕ) → reads_macro left t ≡ true
      → (e ≢ NoMemory → (e ≡ TooLarge) × (HaveShallowPlaces found → room < all_nodes found))
      → Refuses e room (side_places funs n (side_of left) s t)
  side_stop e room reads h none =
      let p = h none in (
        p.0,
        λ shallow.
            let here : HaveShallowMessages (scan whole [] false t) =
            subst HaveShallowMessages (sym side_whole) shallow in
            let part : (b : List Sort) × (m : Macro) × (x : TsTree)
            × HaveShallowMessages (met_in_all found b m x) =
            part_shallow whole t [] false reads here in
            let b : room < all_nodes found =
            p.1 (places_shallow found part.0 part.1 part.2 part.3) in
            let more : all_nodes found ≤ list_nodes (scan whole [] false t) =
            part_more whole t [] false (all_nodes found) reads
            (λ b m x. met_all_more (search_of funs n left (λ b m x. [])) s.actions 0 b m x) in
            let same : list_nodes (scan whole [] false t)
            ≡ list_nodes (side_places funs n (side_of left) s t) = ap list_nodes side_whole in
            omega (arith, b, more, same),
      )

  -- a term and bodies that are not too deep hold no message that is
  pub side_shallow : AreShallow s → depth t ≤ 1024
      → HaveShallowMessages (side_places funs n (side_of left) s t)
  side_shallow bodies d =
      subst HaveShallowMessages side_whole
      (scan_shallow whole t [] false
      (λ b m x. met_shallow found b m x
      (bodies_shallow (search_of funs n left (λ b m x. [])) s.actions 0 bodies)) d)

-- ---- both sides

module _ (funs : List FunDecl) (s : SystemTree) (n : ℕ) (t : TermTree) where
  pub all_shallow : (side : Side) → AreShallow s → depth t ≤ 1024
      → HaveShallowMessages (places funs s n side t)
  all_shallow Left bodies d = side_shallow funs n true s t bodies d
  all_shallow Right bodies d = side_shallow funs n false s t bodies d
  all_shallow Both bodies d =
      each-append (side_places funs n Left s t) (side_places funs n Right s t)
      (λ u. IsShallowRole u.role) (side_shallow funs n true s t bodies d)
      (side_shallow funs n false s t bodies d)

  pub outcome_schema : (side : Side) → holds_schema t ≡ true
      → outcome funs s n side t ≡ Err HasSchema
  outcome_schema side h =
      ap (λ b. (if b then Err HasSchema else within_nodes (places funs s n side t))) h

  pub outcome_list : (side : Side) (us : List OccTree) (room : ℕ) → holds_schema t ≡ false
      → us ≡ places funs s n side t → room + list_nodes (places funs s n side t) ≡ 8388608
      → outcome funs s n side t ≡ Ok us
  outcome_list side us room h e r =
      let fits : nat_le (list_nodes (places funs s n side t)) 8388608 ≡ true =
      grind (arith, nat_tests) in
      ap (λ b. (if b then Err HasSchema else within_nodes (places funs s n side t))) h
      ∙ (ap (λ b. (if b then Ok (places funs s n side t) else Err TooLarge)) fits ∙ ap Ok (sym e))

  pub outcome_large : (side : Side) → holds_schema t ≡ false
      → 8388608 < list_nodes (places funs s n side t) → outcome funs s n side t ≡ Err TooLarge
  outcome_large side h l =
      let passes : nat_le (list_nodes (places funs s n side t)) 8388608 ≡ false =
      grind (arith, nat_tests) in
      ap (λ b. (if b then Err HasSchema else within_nodes (places funs s n side t))) h
      ∙ ap (λ b. (if b then Ok (places funs s n side t) else Err TooLarge)) passes
