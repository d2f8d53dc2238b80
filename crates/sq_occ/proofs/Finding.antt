-- The bodies' places as they are found one after the other.
use Rattle.std.proofs.Common.{◌≡◌, ◌≢◌, refl, sym, ap, ◌∙◌, subst, ℕ, suc, ◌+◌, ◌<◌, List, []}
use Rattle.std.proofs.Common.{◌∷◌, ◌++◌, map, length, arith, append_assoc, drop}
use Rattle.std.specs.Prelude.{Result, Ok, Err, IsErrAnd}
use Rattle.sq_system.specs.declared.fault.OccFault.{OccFault}
use Rattle.sq_system.specs.declared.fault.OccFault.TheVariants.{TooLarge, NoMemory}
use Rattle.sq_term.specs.Lists.{here}
use Rattle.sq_term.specs.declared.action.Action.{Action}
use Rattle.sq_term.specs.Systems.{action_tree, action_trees}
use Rattle.sq_term.proofs.Members.{member-append_right}
use Rattle.sq_occ.specs.declared.bodies.ActionPlaces.{ActionPlaces as PlacesOf}
use Rattle.sq_occ.specs.Entries.{OccTree}
use Rattle.sq_occ.specs.Sizes.{list_nodes}
use Rattle.sq_occ.specs.Calls.Scans.{ActionPlaces, Scan}
use Rattle.sq_occ.specs.Calls.Lists.{Growing, Refuses}
use Rattle.sq_occ.specs.Calls.Bodies.{places_of, places_in, all_places_in, all_nodes}
use Rattle.sq_occ.specs.Calls.Bodies.{HaveShallowPlaces, FindsIn, FindsWithin}
use Rattle.sq_occ.proofs.Growth.{append_none, list_nodes-append}
use Rattle.sq_occ.proofs.Scanning.{map-append}

all_nodes-append : (ps qs : List ActionPlaces) → all_nodes (ps ++ qs) ≡ all_nodes ps + all_nodes qs
all_nodes-append [] qs = omega arith
all_nodes-append (p ∷ ps) qs = omega (arith, all_nodes-append ps qs)

-- the places in some actions were found, and those in the rest are still to come
pub record Finds (room left : ℕ) (found : List PlacesOf) (rest whole : List ActionPlaces) : Type 0
  where
    pub room_is : left + all_nodes (map places_of found) ≡ room
    pub whole_is : map places_of found ++ rest ≡ whole

pub finds_first : (room : ℕ) (whole : List ActionPlaces) → Finds room room [] whole whole
finds_first room whole = record { room_is = omega arith; whole_is = refl }

pub finds_next : (room mid left : ℕ) (found : List PlacesOf) (p : PlacesOf) (q : ActionPlaces)
    (rest whole : List ActionPlaces) → Finds room mid found (q ∷ rest) whole → places_of p ≡ q
    → left + list_nodes q.places ≡ mid → Finds room left (found ++ p ∷ []) rest whole
finds_next room mid left found p q rest whole f e l =
    let split : map places_of (found ++ p ∷ []) ≡ map places_of found ++ places_of p ∷ [] =
    map-append places_of found (p ∷ []) in
    let one : list_nodes q.places ≡ list_nodes (places_of p).places =
    ap (λ (x : ActionPlaces). list_nodes x.places) (sym e) in
    let nodes : all_nodes (map places_of (found ++ p ∷ []))
    ≡ all_nodes (map places_of found ++ places_of p ∷ []) = ap all_nodes split in
    record {
      room_is = omega (
        arith,
        f.room_is,
        l,
        one,
        nodes,
        all_nodes-append (map places_of found) (places_of p ∷ []),
      );
      whole_is = ap (λ ps. ps ++ rest) split
          ∙ (append_assoc (map places_of found) (places_of p ∷ []) rest
          ∙ (ap (λ x. map places_of found ++ x ∷ rest) e ∙ f.whole_is));
    }

pub finds_stop : (x : OccFault) (room mid : ℕ) (found : List PlacesOf) (q : ActionPlaces)
    (rest whole : List ActionPlaces) → Finds room mid found (q ∷ rest) whole
    → Refuses x mid q.places
    → x ≢ NoMemory → (x ≡ TooLarge) × (HaveShallowPlaces whole → room < all_nodes whole)
finds_stop x room mid found q rest whole f r n =
    let p = r n in (
      p.0,
      λ shallow.
          let all : HaveShallowPlaces (map places_of found ++ q ∷ rest) =
          subst HaveShallowPlaces (sym f.whole_is) shallow in
          let b : mid < list_nodes q.places = p.1
          (all q (member-append_right (map places_of found) (q ∷ rest) q here)) in
          let nodes : all_nodes (map places_of found ++ q ∷ rest) ≡ all_nodes whole =
          ap all_nodes f.whole_is in
          omega (arith, b, nodes, f.room_is, all_nodes-append (map places_of found) (q ∷ rest)),
    )

pub finds_last : (room left : ℕ) (found : List PlacesOf) (whole : List ActionPlaces)
    → Finds room left found [] whole → map places_of found ≡ whole
finds_last room left found whole f = sym (append_none (map places_of found)) ∙ f.whole_is

-- where the loop stands
pub finds_here : (S : Scan) (room left : ℕ) (found : List PlacesOf) (xs : List Action) (i : ℕ)
    (a : Action) (number : ℕ) (whole : List ActionPlaces) → drop i xs ≡ a ∷ drop (i + 1) xs
    → number ≡ i → Finds room left found (all_places_in S i (action_trees (drop i xs))) whole
    → Finds room left found
    (places_in S number (action_tree a)
    ∷ all_places_in S (i + 1) (action_trees (drop (i + 1) xs))) whole
finds_here S room left found xs i a number whole e n f =
    let next : suc i ≡ i + 1 = omega arith in
    subst (λ k. Finds room left found
    (places_in S k (action_tree a)
    ∷ all_places_in S (i + 1) (action_trees (drop (i + 1) xs))) whole) (sym n)
    (subst (λ j. Finds room left found
    (places_in S i (action_tree a) ∷ all_places_in S j (action_trees (drop (i + 1) xs))) whole)
    next
    (subst (λ ys. Finds room left found (all_places_in S i (action_trees ys)) whole) e f))

pub one_longer : {A : Type 0} (xs : List A) (x : A) → length (xs ++ x ∷ []) ≡ length xs + 1
one_longer [] x = refl
one_longer (y ∷ xs) x = omega (arith, one_longer xs x)

pub finds_err : (r : Result (List PlacesOf) OccFault) (e : OccFault) (room : ℕ)
    (whole : List ActionPlaces) → IsErrAnd r (λ x. x ≡ e)
    → (e ≢ NoMemory → (e ≡ TooLarge) × (HaveShallowPlaces whole → room < all_nodes whole))
    → FindsWithin room r whole
finds_err (Ok v) e room whole same h = absurd same
finds_err (Err x) e room whole same h =
    subst (λ y. y ≢ NoMemory → (y ≡ TooLarge) × (HaveShallowPlaces whole → room < all_nodes whole))
    (sym same) h

-- ---- in one action

pub found_err : (r : Result PlacesOf OccFault) (e : OccFault) (old new : ℕ) (q : ActionPlaces)
    → IsErrAnd r (λ x. x ≡ e) → Refuses e old q.places → FindsIn old new r q
found_err (Ok v) e old new q same h = absurd same
found_err (Err x) e old new q same h = subst (λ y. Refuses y old q.places) (sym same) h

pub found_two : (start one two : Growing) (us vs : List OccTree) → start.entries ≡ []
    → one.entries ≡ start.entries ++ us → one.room + list_nodes us ≡ start.room
    → two.entries ≡ one.entries ++ vs → two.room + list_nodes vs ≡ one.room
    → (two.entries ≡ us ++ vs) × (two.room + list_nodes (us ++ vs) ≡ start.room)
found_two start one two us vs none e f g h = (
  g ∙ ap (λ xs. xs ++ vs) (e ∙ ap (λ xs. xs ++ us) none),
  omega (arith, f, h, list_nodes-append us vs),
)

pub ruleset finding_rules = (finds_first, finds_next, finds_stop, finds_last)
