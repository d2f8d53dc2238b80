-- The next free name of a supply is the name of the next binder.
use Rattle.std.proofs.Common.{◌≡◌, ◌≢◌, ◌<◌, ◌≤◌, ◌+◌, ◌^◌, ◌⊎◌, inl, inr, ℕ, zero, suc, Bool, true}
use Rattle.std.proofs.Common.{false, if◌then◌else◌, not, ◌&&◌, ◌||◌, nat_eq, nat_lt, List, [], ◌∷◌}
use Rattle.std.proofs.Common.{◌++◌}
use Rattle.std.proofs.Common.{length, Option, Some, None, option_map, is_some, slice_get, map, take}
use Rattle.std.proofs.Common.{refl, sym, ap, ◌∙◌, subst, arith, length-append, ⊎_elim}
use Rattle.std.specs.Str.{bytes_eq}
use Rattle.std.proofs.lemmas.Bool.{false≢true, cases_eq, cases_lt}
use Rattle.std.proofs.lemmas.Bool.Decides.{nat_tests}
use Rattle.std.proofs.lemmas.List.{length-map}
use Rattle.std.proofs.lemmas.List.Folds.{list_any-append}
use Rattle.std.proofs.Math.Seq.{take-append_seam}
use Rattle.sq_sym.specs.declared.symbol.Symbol.{Symbol}
use Rattle.sq_sym.specs.Declarations.{found}
use Rattle.sq_base.specs.declared.sort.Sort.{Sort}
use Rattle.sq_print.specs.Names.{Names, is_used, first_free}
use Rattle.sq_sym.specs.Candidates.{candidate, candidate_count, among}
use Rattle.sq_print.specs.Names.{names_count, binder_name, stem}
use Rattle.sq_base.specs.declared.sort.Sort.TheVariants.{Index, Timestamp, Message, Boolean}
use Rattle.sq_print.specs.declared.binders.Binders.{Binders}
use Rattle.sq_print.specs.declared.binders.Supply.{Supply}
use Rattle.sq_print.specs.Supplies.{free_names, HasFirst, IsSupply, IsAround, Kept, Released}
use Rattle.sq_print.specs.declared.binders.Mark.{Mark}
use Rattle.sq_sym.proofs.Candidates.{candidate-injective, differ, equal, bounded, other_stem}

-- a candidate that is not used, and how many free ones are before it
pub record IsFree (ns : Names) (s : List ℕ) (n d : ℕ) (x : List ℕ) : Type 0 where
  pub k : ℕ
  pub below : k < n
  pub is : x ≡ candidate s k
  pub unused : is_used ns (candidate s k) ≡ false
  pub rank : length (free_names ns s k) ≡ d

slice_get-push : {A : Type 0} (xs : List A) (x y : A) (d : ℕ) → slice_get (xs ++ x ∷ []) d ≡ Some y
    → (slice_get xs d ≡ Some y) ⊎ ((d ≡ length xs) × (y ≡ x))
slice_get-push [] x y zero e = inr (refl, cc)
slice_get-push [] x y (suc d) e = cc
slice_get-push (z ∷ zs) x y zero e = inl e
slice_get-push (z ∷ zs) x y (suc d) e =
    ⊎_elim (λ h. inl h) (λ h. inr (ap suc h.0, h.1)) (slice_get-push zs x y d e)

pub nth_free : (ns : Names) (s : List ℕ) (n d : ℕ) (x : List ℕ)
    → slice_get (free_names ns s n) d ≡ Some x → IsFree ns s n d x
nth_free ns s zero d x e = cc
nth_free ns s (suc n) d x e = by (is_used ns (candidate s n)) refl e (λ h. nth_free ns s n d x h)
  where
    more : IsFree ns s n d x → IsFree ns s (suc n) d x
    more f = record { k = f.k; below = omega arith; is = f.is; unused = f.unused; rank = f.rank }

    by : (b : Bool) → is_used ns (candidate s n) ≡ b
        → slice_get (if b then free_names ns s n else (free_names ns s n ++ candidate s n ∷ [])) d
        ≡ Some x
        → (slice_get (free_names ns s n) d ≡ Some x → IsFree ns s n d x) → IsFree ns s (suc n) d x
    by true u h rest = more (rest h)
    by false u h rest =
        ⊎_elim (λ g. more (rest g))
        (λ g. record { k = n; below = omega arith; is = g.1; unused = u; rank = sym g.0 })
        (slice_get-push (free_names ns s n) (candidate s n) x d h)

-- the number of free candidates grows past each of them
pub rank_grows : (ns : Names) (s : List ℕ) (j k : ℕ) → j < k → is_used ns (candidate s j) ≡ false
    → length (free_names ns s j) < length (free_names ns s k)
rank_grows ns s j zero h u = absurd (omega arith)
rank_grows ns s j (suc k) lt u =
    by (is_used ns (candidate s k)) refl (cases_eq j k) (λ g. rank_grows ns s j k g u)
  where
    by : (b : Bool) → is_used ns (candidate s k) ≡ b → (j ≡ k) ⊎ (j ≢ k)
        → (j < k → length (free_names ns s j) < length (free_names ns s k))
        → length (free_names ns s j) < length
        (if b then free_names ns s k else (free_names ns s k ++ candidate s k ∷ []))
    by true b (inl e) rest =
        absurd (false≢true (sym u ∙ (ap (λ n. is_used ns (candidate s n)) e ∙ b)))
    by true b (inr ne) rest = rest (omega arith)
    by false b (inl e) rest = let p = length-append (free_names ns s k) (candidate s k ∷ []) in
        let q = ap (λ n. length (free_names ns s n)) e in omega arith
    by false b (inr ne) rest = let p = length-append (free_names ns s k) (candidate s k ∷ []) in
        let q = rest (omega arith) in omega arith

-- the first free candidate from j on
pub first_from : (ns : Names) (around : List (List ℕ)) (s : List ℕ) (left j k : ℕ) → j ≤ k
    → k ≤ j + left
    → ((i : ℕ) → i < k → (is_used ns (candidate s i) || among (candidate s i) around) ≡ true)
    → (is_used ns (candidate s k) || among (candidate s k) around) ≡ false
    → first_free ns around s left j ≡ candidate s k
first_from ns around s zero j k low high taken free = let e : j ≡ k =
    omega arith in ap (candidate s) e
first_from ns around s (suc left) j k low high taken free =
    by (is_used ns (candidate s j) || among (candidate s j) around) refl (cases_eq j k)
    (λ h. first_from ns around s left (j + 1) k h (omega arith) taken free)
  where
    by : (b : Bool) → (is_used ns (candidate s j) || among (candidate s j) around) ≡ b
        → (j ≡ k) ⊎ (j ≢ k) → (j + 1 ≤ k → first_free ns around s left (j + 1) ≡ candidate s k)
        → (if b then first_free ns around s left (j + 1) else candidate s j) ≡ candidate s k
    by true t (inl e) rest =
        absurd (false≢true
        (sym free
        ∙ (ap (λ n. is_used ns (candidate s n) || among (candidate s n) around) (sym e) ∙ t)))
    by true t (inr ne) rest = rest (omega arith)
    by false t (inl e) rest = ap (candidate s) e
    by false t (inr ne) rest = absurd (false≢true (sym t ∙ taken j (omega arith)))

-- the names of a table
found_among : (q : List ℕ) (ds : List (List ℕ × Symbol))
    → is_some (found q ds) ≡ among q (map (λ d. d.0) ds)
found_among q [] = refl
found_among q (d ∷ ds) = by (bytes_eq q d.0) (found q ds) (found_among q ds)
  where
    by : (b : Bool) (o : Option (ℕ × Symbol)) → is_some o ≡ among q (map (λ d. d.0) ds)
        → is_some {T = ℕ × Symbol} (if b then Some (0, d.1) else option_map (λ r. (r.0 + 1, r.1)) o)
        ≡ (b || among q (map (λ d. d.0) ds))
    by true o e = refl
    by false None e = e
    by false (Some r) e = e

abbrev all_names : Names → List (List ℕ) → List (List ℕ)
all_names ns around = map (λ d. d.0) ns.table ++ ((ns.vars ++ ns.schemas) ++ around)

among_all : (ns : Names) (around : List (List ℕ)) (q : List ℕ)
    → among q (all_names ns around) ≡ (is_used ns q || among q around)
among_all ns around q =
    let a = list_any-append (bytes_eq q) (map (λ d. d.0) ns.table)
    ((ns.vars ++ ns.schemas) ++ around) in
    let b = list_any-append (bytes_eq q) (ns.vars ++ ns.schemas) around in
    let c = list_any-append (bytes_eq q) ns.vars ns.schemas in
    let d = found_among q ns.table in
    a ∙ (ap (λ r. among q (map (λ d. d.0) ns.table) || r) (b ∙ ap (λ r. r || among q around) c)
    ∙ (ap (λ t. t || ((among q ns.vars || among q ns.schemas) || among q around)) (sym d)
    ∙ assoc (is_some (found q ns.table)) (among q ns.vars || among q ns.schemas) (among q around)))
  where
    assoc : (x y z : Bool) → (x || (y || z)) ≡ ((x || y) || z)
    assoc true y z = refl
    assoc false y z = refl

length-all : (ns : Names) (around : List (List ℕ))
    → length (all_names ns around) ≡ names_count ns around
length-all ns around =
    let a = length-append (map (λ d. d.0) ns.table) ((ns.vars ++ ns.schemas) ++ around) in
    let b = length-append (ns.vars ++ ns.schemas) around in
    let c = length-append ns.vars ns.schemas in
    let d = length-map ns.table (λ (d : List ℕ × Symbol). d.0) in
    omega arith

-- candidates that are all taken are no more than the names
pub few : (ns : Names) (around : List (List ℕ)) (s : List ℕ) (k : ℕ) → k ≤ candidate_count
    → ((i : ℕ) → i < k → (is_used ns (candidate s i) || among (candidate s i) around) ≡ true)
    → k ≤ names_count ns around
few ns around s k w taken = let l = length-all ns around in let b =
    bounded s (all_names ns around) k w (λ i h. among_all ns around (candidate s i) ∙ taken i h) in
    omega arith

-- the name that a supply gives next, with the binders around that have taken from it
pub record IsNext (ns : Names) (s : List ℕ) (around : List (List ℕ)) (d : ℕ) (x : List ℕ)
    : Type 0 where
  pub free : IsFree ns s (2 ^ 32) d x
  pub first : (left : ℕ) → names_count ns around ≤ left → first_free ns around s left 0 ≡ x

taken_below : (ns : Names) (s : List ℕ) (around : List (List ℕ)) (d i k : ℕ) → i < k → k < 2 ^ 32
    → length (free_names ns s k) ≡ d → HasFirst ns s d around
    → (is_used ns (candidate s i) || among (candidate s i) around) ≡ true
taken_below ns s around d i k h w rank has = by (is_used ns (candidate s i)) refl
  where
    by : (b : Bool) → is_used ns (candidate s i) ≡ b → (b || among (candidate s i) around) ≡ true
    by true e = refl
    by false e =
        let grows = rank_grows ns s i k h e in
        let less : nat_lt (length (free_names ns s i)) d ≡ true = grind (arith, nat_tests) in
        has.taken i (omega arith)
        ∙ (ap (λ b. not b && nat_lt (length (free_names ns s i)) d) e ∙ less)

free_at : (ns : Names) (s : List ℕ) (around : List (List ℕ)) (d k : ℕ) → k < 2 ^ 32
    → length (free_names ns s k) ≡ d → is_used ns (candidate s k) ≡ false → HasFirst ns s d around
    → (is_used ns (candidate s k) || among (candidate s k) around) ≡ false
free_at ns s around d k w rank unused has =
    let not_less : nat_lt (length (free_names ns s k)) d ≡ false = grind (arith, nat_tests) in
    let out =
    has.taken k w
    ∙ (ap (λ b. not b && nat_lt (length (free_names ns s k)) d) unused ∙ not_less) in
    rw (unused, out) refl

pub next_is : (ns : Names) (s : List ℕ) (around : List (List ℕ)) (n d : ℕ) (x : List ℕ) → n ≤ 2 ^ 32
    → HasFirst ns s d around → slice_get (free_names ns s n) d ≡ Some x → IsNext ns s around d x
next_is ns s around n d x w has e =
    let f = nth_free ns s n d x e in
    let taken =
    λ (i : ℕ) (h : i < f.k). taken_below ns s around d i f.k h (omega arith) f.rank has in
    record {
      free = record { k = f.k; below = omega arith; is = f.is; unused = f.unused; rank = f.rank };
      first = λ left enough. let most = few ns around s f.k (omega arith) taken in
          first_from ns around s left 0 f.k (omega arith) (omega arith) taken
          (free_at ns s around d f.k (omega arith) f.rank f.unused has) ∙ sym f.is;
    }

or_true : (b : Bool) → (b || (true || false)) ≡ true
or_true true = refl
or_true false = refl

or_false : (b : Bool) → (b || (false || false)) ≡ b
or_false true = refl
or_false false = refl

-- candidates that are not used have different numbers of free ones before them
rank_differs : (ns : Names) (s : List ℕ) (j k : ℕ) → j ≢ k → is_used ns (candidate s j) ≡ false
    → is_used ns (candidate s k) ≡ false → length (free_names ns s j) ≢ length (free_names ns s k)
rank_differs ns s j k ne u v e =
    ⊎_elim (λ h. let g = rank_grows ns s j k h u in absurd (omega arith))
    (λ h. let g = rank_grows ns s k j (omega arith) v in absurd (omega arith)) (cases_lt j k)

joined_is : (ns : Names) (s : List ℕ) (around : List (List ℕ)) (k : ℕ) (x : List ℕ)
    → among (candidate s k) (around ++ x ∷ [])
    ≡ (among (candidate s k) around || (bytes_eq (candidate s k) x || false))
joined_is ns s around k x = list_any-append (bytes_eq (candidate s k)) around (x ∷ [])

-- with that name around, one more is taken from the supply
pub taken_next : (ns : Names) (s : List ℕ) (around : List (List ℕ)) (d : ℕ) (x : List ℕ)
    → HasFirst ns s d around → IsNext ns s around d x → HasFirst ns s (d + 1) (around ++ x ∷ [])
taken_next ns s around d x has next =
    record { taken = λ k w. joined_is ns s around k x ∙ at k w (cases_eq k next.free.k) }
  where
    rest : (k : ℕ) (u : Bool) → is_used ns (candidate s k) ≡ u → k ≢ next.free.k
        → (not u && nat_lt (length (free_names ns s k)) d)
        ≡ (not u && nat_lt (length (free_names ns s k)) (d + 1))
    rest k true e ne = refl
    rest k false e ne =
        let apart = rank_differs ns s k next.free.k ne e next.free.unused in
        let d_is = next.free.rank in
        grind (arith, nat_tests)

    at : (k : ℕ) → k < 2 ^ 32 → (k ≡ next.free.k) ⊎ (k ≢ next.free.k)
        → (among (candidate s k) around || (bytes_eq (candidate s k) x || false))
        ≡ (not (is_used ns (candidate s k)) && nat_lt (length (free_names ns s k)) (d + 1))
    at k w (inl e) =
        let same : bytes_eq (candidate s k) x ≡ true =
        equal (candidate s k) x (ap (candidate s) e ∙ sym next.free.is) in
        let unused : is_used ns (candidate s k) ≡ false =
        ap (λ n. is_used ns (candidate s n)) e ∙ next.free.unused in
        let rank : length (free_names ns s k) ≡ d =
        ap (λ n. length (free_names ns s n)) e ∙ next.free.rank in
        let less : nat_lt (length (free_names ns s k)) (d + 1) ≡ true = grind (arith, nat_tests) in
        ap (λ b. among (candidate s k) around || (b || false)) same
        ∙ (or_true (among (candidate s k) around)
        ∙ sym (ap (λ b. not b && nat_lt (length (free_names ns s k)) (d + 1)) unused ∙ less))
    at k w (inr ne) =
        let other : bytes_eq (candidate s k) x ≡ false =
        differ (candidate s k) x
        (λ e. ne (candidate-injective s k next.free.k (omega arith)
        (let b = next.free.below in omega arith) (e ∙ next.free.is))) in
        ap (λ b. among (candidate s k) around || (b || false)) other
        ∙ (or_false (among (candidate s k) around)
        ∙ (has.taken k w ∙ rest k (is_used ns (candidate s k)) refl ne))

-- the names of another stem stay as they are
pub taken_other : (ns : Names) (s : List ℕ) (around : List (List ℕ)) (d : ℕ) (x : List ℕ)
    → ((k : ℕ) → candidate s k ≢ x) → HasFirst ns s d around → HasFirst ns s d (around ++ x ∷ [])
taken_other ns s around d x apart has = record {
  taken = λ k w.
      joined_is ns s around k x
      ∙ (ap (λ b. among (candidate s k) around || (b || false))
      (differ (candidate s k) x (apart k))
      ∙ (or_false (among (candidate s k) around) ∙ has.taken k w));
}

-- one more candidate is tried
pub tried_more : (ns : Names) (s : List ℕ) (p q : Supply) (x : List ℕ) → IsSupply ns s p
    → q.tried < 2 ^ 32 → q.tried ≡ p.tried + 1 → x ≡ candidate s p.tried
    → q.found ≡ (if is_used ns x then p.found else (p.found ++ x ∷ [])) → IsSupply ns s q
tried_more ns s p q x is within tried name found =
    let next : q.tried ≡ suc p.tried = omega arith in
    record {
      found = found
          ∙ ((λ i. (if is_used ns (name i) then is.found i else (is.found i ++ name i ∷ [])))
          ∙ ap (free_names ns s) (sym next));
      within = within;
    }

t_no_i : ◌≡◌ {A = ℕ} 116 105 → ⊥
t_no_i h = false≢true (ap (λ n. nat_eq n 105) h)

-- a supply gives the name of the next binder
name_is : (ns : Names) (around : List (List ℕ)) (s : Sort) (d : ℕ) (x : List ℕ)
    → IsNext ns (stem s) around d x → binder_name ns around s ≡ x
unfolding binder_name
name_is ns around s d x next = next.first (names_count ns around) (omega arith)

abbrev IsBound : Names → Binders → Binders → Sort → Type 0
IsBound ns old new s =
    (new.around ≡ old.around ++ binder_name ns old.around s ∷ []) × IsAround ns new

pub bound_index : (ns : Names) (old new : Binders) (x : List ℕ) → IsAround ns old
    → IsSupply ns (stem Index) new.indices
    → new.indices.used ≡ old.indices.used + 1 → slice_get new.indices.found old.indices.used
    ≡ Some x → new.times ≡ old.times → new.around ≡ old.around ++ x ∷ []
    → IsBound ns old new Index
bound_index ns old new x is supply used here times around =
    let next =
    next_is ns (stem Index) old.around new.indices.tried old.indices.used x
    (let w = supply.within in omega arith) is.index_names
    (ap (λ f. slice_get f old.indices.used) (sym supply.found) ∙ here) in
    let first = taken_next ns (stem Index) old.around old.indices.used x is.index_names next in
    let others =
    taken_other ns (stem Timestamp) old.around old.times.used x
    (λ k e. other_stem 116 105 k next.free.k t_no_i (e ∙ next.free.is)) is.time_names in (
      around ∙ ap (λ n. old.around ++ n ∷ [])
          (sym (name_is ns old.around Index old.indices.used x next)),
      record {
        indices = supply;
        times = subst (λ t. IsSupply ns (stem Timestamp) t) (sym times) is.times;
        index_names =
            subst (λ a. HasFirst ns (stem Index) new.indices.used a) (sym around)
            (subst (λ d. HasFirst ns (stem Index) d (old.around ++ x ∷ [])) (sym used) first);
        time_names =
            subst (λ a. HasFirst ns (stem Timestamp) new.times.used a) (sym around)
            (subst (λ t. HasFirst ns (stem Timestamp) t.used (old.around ++ x ∷ []))
            (sym times) others);
      },
    )

pub bound_time : (ns : Names) (old new : Binders) (x : List ℕ) → IsAround ns old
    → IsSupply ns (stem Timestamp) new.times
    → new.times.used ≡ old.times.used + 1 → slice_get new.times.found old.times.used ≡ Some x
    → new.indices ≡ old.indices → new.around ≡ old.around ++ x ∷ []
    → IsBound ns old new Timestamp
bound_time ns old new x is supply used here indices around =
    let next =
    next_is ns (stem Timestamp) old.around new.times.tried old.times.used x
    (let w = supply.within in omega arith) is.time_names
    (ap (λ f. slice_get f old.times.used) (sym supply.found) ∙ here) in
    let first = taken_next ns (stem Timestamp) old.around old.times.used x is.time_names next in
    let others =
    taken_other ns (stem Index) old.around old.indices.used x
    (λ k e. other_stem 105 116 k next.free.k (λ h. t_no_i (sym h)) (e ∙ next.free.is))
    is.index_names in (
      around ∙ ap (λ n. old.around ++ n ∷ [])
          (sym (name_is ns old.around Timestamp old.times.used x next)),
      record {
        times = supply;
        indices = subst (λ t. IsSupply ns (stem Index) t) (sym indices) is.indices;
        time_names =
            subst (λ a. HasFirst ns (stem Timestamp) new.times.used a) (sym around)
            (subst (λ d. HasFirst ns (stem Timestamp) d (old.around ++ x ∷ [])) (sym used) first);
        index_names =
            subst (λ a. HasFirst ns (stem Index) new.indices.used a) (sym around)
            (subst (λ t. HasFirst ns (stem Index) t.used (old.around ++ x ∷ []))
            (sym indices) others);
      },
    )

-- the other sorts are named as indices are
pub named_as_index : (ns : Names) (around : List (List ℕ))
    → (binder_name ns around Message ≡ binder_name ns around Index)
    × (binder_name ns around Boolean ≡ binder_name ns around Index)
unfolding binder_name
named_as_index ns around = (refl, refl)

-- after the binders since a mark are left, what was around is around again
pub released : (ns : Names) (mark : Mark) (old mid new : Binders) (xs : List (List ℕ))
    → mark.depth ≡ length old.around → mark.indices ≡ old.indices.used → mark.times ≡ old.times.used
    → IsAround ns old → IsAround ns mid → mid.around ≡ old.around ++ xs → Released mark mid new
    → Kept ns old new
released ns mark old mid new xs depth indices times is now grown r =
    let same : new.around ≡ old.around =
    r.around ∙
    (ap (λ n. take n mid.around) depth
    ∙ (ap (take (length old.around)) grown ∙ take-append_seam old.around xs)) in
    let index_used = r.indices ∙ indices in
    let time_used = r.times ∙ times in
    record {
      around = same;
      indices = index_used;
      times = time_used;
      is_around = record {
        indices =
            record {
              found = r.index_found
                  ∙ (now.indices.found ∙ ap (free_names ns (stem Index)) (sym r.index_tried));
              within =
                  subst (λ n. n < 2 ^ 32) (sym r.index_tried) now.indices.within;
            };
        times = record {
          found = r.time_found
              ∙ (now.times.found ∙ ap (free_names ns (stem Timestamp)) (sym r.time_tried));
          within =
              subst (λ n. n < 2 ^ 32) (sym r.time_tried) now.times.within;
        };
        index_names =
            subst (λ a. HasFirst ns (stem Index) new.indices.used a) (sym same)
            (subst (λ d. HasFirst ns (stem Index) d old.around) (sym index_used) is.index_names);
        time_names =
            subst (λ a. HasFirst ns (stem Timestamp) new.times.used a) (sym same)
            (subst (λ d. HasFirst ns (stem Timestamp) d old.around) (sym time_used) is.time_names);
      };
    }
