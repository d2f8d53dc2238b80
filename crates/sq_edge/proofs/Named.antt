-- Lists of files with names, and the map that they stand for.
use Rattle.std.proofs.Common.{◌≡◌, ◌<◌, ◌≤◌, ℕ, zero, suc, Bool, true, false, cond, if◌then◌else◌}
use Rattle.std.proofs.Common.{List, [], ◌∷◌}
use Rattle.std.proofs.Common.{◌++◌, length, take, drop, length-take, length-drop, Some, None, refl}
use Rattle.std.proofs.Common.{sym, ◌∙◌, ap, subst, arith, slice_get, get_or, IfSome, inl, inr}
use Rattle.std.proofs.Common.{Result, Ok, Err, IsOk}
use Rattle.std.specs.declared.option.Option.{Option}
use Rattle.std.proofs.Math.ListN.{set}
use Rattle.std.specs.Ordering.{eq_by_cmp, is_eq}
use Rattle.std.specs.Cmp.{Equal-is}
use Rattle.std.specs.Str.{bytes_eq}
use Rattle.std.specs.FinMap.{find, get, from_entries, insert, get-from_entries, get-insert}
use Rattle.std.specs.FinMap.{same_map, slice_cmp-IsAntisymmetric, nat_cmp-IsAntisymmetric}
use Rattle.std.specs.FinMap.{IsAntisymmetric, from_entries_push}
use Rattle.std.proofs.lemmas.Cmp.{nat_list_cmp_total, tied_itself}
use Rattle.std.proofs.lemmas.Slice.Eq.{bytes_eq-Decides}
use Rattle.std.proofs.lemmas.Map.Lookups.{exact_bytes}
use Rattle.sq_edge.specs.declared.shelf.ShelfError.TheVariants.{Missing}
use Rattle.sq_edge.specs.Edge.{name_cmp, IsPiece}
use Rattle.sq_edge.specs.Memory.{Entries, one_more, counted, is_miss, read_outcome, append_outcome}
use Rattle.sq_edge.specs.Memory.{GivesOrStarves}

only_equal : IsAntisymmetric name_cmp
only_equal = slice_cmp-IsAntisymmetric nat_cmp-IsAntisymmetric

-- names whose test fails don't tie
pub apart : (name k : List ℕ) → bytes_eq k name ≡ false → eq_by_cmp name_cmp name k ≡ false
apart name k differ =
    elim (eq_by_cmp name_cmp name k) as (λ b. eq_by_cmp name_cmp name k ≡ b → b ≡ false) [
      | true ↦ λ t. let same : name ≡ k = exact_bytes name k ((Equal-is (name_cmp name k)).0 t) in
          let yes : bytes_eq k name ≡ true = (bytes_eq-Decides k name).1 (sym same) in cc
      | false ↦ λ _. refl
    ] refl

pub alike : (name k : List ℕ) → k ≡ name → eq_by_cmp name_cmp name k ≡ true
alike name k same = subst (λ (x : List ℕ). eq_by_cmp name_cmp name x ≡ true) (sym same)
    (ap is_eq (tied_itself nat_list_cmp_total name))

-- one file more that has another name
pub front_more : (name : List ℕ) (es : Entries) (i : ℕ) (e : List ℕ × List ℕ) → slice_get es i
    ≡ Some e → find name_cmp name (take i es) ≡ None → bytes_eq e.0 name ≡ false
    → find name_cmp name (take (suc i) es) ≡ None
front_more name [] i e is none differ = absurd (cc (is))
front_more name (f ∷ es) zero e is none differ =
    let same : f ≡ e = cc in
    rw (apart name f.0 (ap (λ (x : List ℕ × List ℕ). bytes_eq x.0 name) same ∙ differ)) refl
front_more name (f ∷ es) (suc i) e is none differ =
    elim (eq_by_cmp name_cmp name f.0) as
    (λ b. (if b then Some f.1 else find name_cmp name (take i es)) ≡ None
    → (if b then Some f.1 else find name_cmp name (take (suc i) es)) ≡ None) [
      | true ↦ λ h. absurd (cc (h))
      | false ↦ λ h. front_more name es i e is h differ
    ] none

-- what the map has where the first file with the name stands
pub find_here : (name : List ℕ) (es : Entries) (i : ℕ) (e : List ℕ × List ℕ) → slice_get es i
    ≡ Some e → find name_cmp name (take i es) ≡ None → e.0 ≡ name → find name_cmp name es ≡ Some e.1
find_here name [] i e is none same = absurd (cc (is))
find_here name (f ∷ es) zero e is none same =
    let first : f ≡ e = cc in
    rw (alike name f.0 (ap (λ (x : List ℕ × List ℕ). x.0) first ∙ same))
    (ap (λ (x : List ℕ × List ℕ). Some x.1) first)
find_here name (f ∷ es) (suc i) e is none same =
    elim (eq_by_cmp name_cmp name f.0) as
    (λ b. (if b then Some f.1 else find name_cmp name (take i es)) ≡ None
    → (if b then Some f.1 else find name_cmp name es) ≡ Some e.1) [
      | true ↦ λ h. absurd (cc (h))
      | false ↦ λ h. find_here name es i e is h same
    ] none

hidden : {A : Type 0} (b : Bool) (x y z : A) → (if b then x else z)
    ≡ (if b then x else if b then y else z)
hidden true x y z = refl
hidden false x y z = refl

swapped : {A : Type 0} (a b : Bool) (x y z : A) → (a ≡ true → b ≡ true → ⊥)
    → (if a then x else if b then y else z) ≡ (if b then y else if a then x else z)
swapped true true x y z n = absurd (n refl refl)
swapped true false x y z n = refl
swapped false b x y z n = refl

find_set : (name bytes q : List ℕ) (es : Entries) (i : ℕ) (e : List ℕ × List ℕ) → slice_get es i
    ≡ Some e → find name_cmp name (take i es) ≡ None → e.0 ≡ name
    → find name_cmp q (set es i (name, bytes))
    ≡ (if eq_by_cmp name_cmp q name then Some bytes else find name_cmp q es)
find_set name bytes q [] i e is none same = absurd (cc (is))
find_set name bytes q (f ∷ es) zero e is none same =
    let first : f ≡ e = cc in
    let here : f.0 ≡ name = ap (λ (x : List ℕ × List ℕ). x.0) first ∙ same in
    subst (λ (x : List ℕ). (if eq_by_cmp name_cmp q name then Some bytes else find name_cmp q es)
    ≡ (if eq_by_cmp name_cmp q name then Some bytes else if eq_by_cmp name_cmp q x then Some f.1
    else find name_cmp q es)) (sym here)
    (hidden (eq_by_cmp name_cmp q name) (Some bytes) (Some f.1) (find name_cmp q es))
find_set name bytes q (f ∷ es) (suc i) e is none same =
    elim (eq_by_cmp name_cmp name f.0) as (λ b. eq_by_cmp name_cmp name f.0 ≡ b
    → (if b then Some f.1 else find name_cmp name (take i es)) ≡ None
    → find name_cmp q (set (f ∷ es) (suc i) (name, bytes))
    ≡ (if eq_by_cmp name_cmp q name then Some bytes else find name_cmp q (f ∷ es))) [
      | true ↦ λ t h. absurd (cc (h))
      | false ↦ λ t h.
          ap (cond (eq_by_cmp name_cmp q f.0) (Some f.1)) (find_set name bytes q es i e is h same)
          ∙ swapped (eq_by_cmp name_cmp q f.0) (eq_by_cmp name_cmp q name) _ _ _ (λ a b.
          let x : q ≡ f.0 = exact_bytes q f.0 ((Equal-is (name_cmp q f.0)).0 a) in
          let y : q ≡ name = exact_bytes q name ((Equal-is (name_cmp q name)).0 b) in
          let z : eq_by_cmp name_cmp name f.0 ≡ true = alike name f.0 (sym x ∙ y) in cc)
    ] refl none

-- a file in the place of the first with its name
pub set_is_insert : (name bytes : List ℕ) (es : Entries) (i : ℕ) (e : List ℕ × List ℕ)
    → slice_get es i ≡ Some e → find name_cmp name (take i es) ≡ None → e.0 ≡ name
    → from_entries {R = name_cmp} (set es i (name, bytes)) ≡ insert (from_entries es) name bytes
set_is_insert name bytes es i e is none same =
    same_map nat_list_cmp_total only_equal _ _ (λ q.
    get-from_entries nat_list_cmp_total (set es i (name, bytes)) q
    ∙ find_set name bytes q es i e is none same
    ∙ sym (get-insert nat_list_cmp_total (from_entries es) name bytes q
    ∙ ap (cond (eq_by_cmp name_cmp q name) (Some bytes))
    (get-from_entries nat_list_cmp_total es q)))

-- a new file at the end
pub push_is_insert : (name bytes : List ℕ) (es : Entries) → find name_cmp name es ≡ None
    → from_entries {R = name_cmp} (es ++ (name, bytes) ∷ []) ≡ insert (from_entries es) name bytes
push_is_insert name bytes es none = from_entries_push nat_list_cmp_total only_equal es name bytes
    none

pub get_found : (name : List ℕ) (es : Entries) → get (from_entries {R = name_cmp} es) name
    ≡ find name_cmp name es
get_found name es = get-from_entries nat_list_cmp_total es name

-- the item that was read at a place
pub item_at : {X : Type 0} (es : List X) (i : ℕ) (e : X) → i < length es → e ≡ get_or es i e
    → slice_get es i ≡ Some e
item_at [] i e lt is = absurd (omega arith)
item_at (f ∷ es) zero e lt is = ap Some (sym is)
item_at (f ∷ es) (suc i) e lt is = item_at es i e (omega arith) is

-- an item put back
pub set_back : {X : Type 0} (es : List X) (i : ℕ) (e f : X) → slice_get es i ≡ Some f
    → set (set es i e) i f ≡ es
set_back [] i e f is = refl
set_back (g ∷ es) zero e f is = let same : g ≡ f = cc in ap (λ x. x ∷ es) (sym same)
set_back (g ∷ es) (suc i) e f is = ap (λ l. g ∷ l) (set_back es i e f is)

-- no file has the name
pub none_there : (name : List ℕ) (es fs : Entries) → es ≡ fs → find name_cmp name es ≡ None
    → get (from_entries {R = name_cmp} fs) name ≡ None
none_there name es fs same none = get_found name fs ∙ ap (λ (l : Entries). find name_cmp name l)
    (sym same) ∙ none

-- the first file with the name
pub record There (name : List ℕ) (fs : Entries) (i : ℕ) : Type 0 where
  pub file : List ℕ × List ℕ
  pub at : slice_get fs i ≡ Some file
  pub front : find name_cmp name (take i fs) ≡ None
  pub named : file.0 ≡ name
  pub told : get (from_entries {R = name_cmp} fs) name ≡ Some file.1

past_end : {X : Type 0} (es : List X) (i : ℕ) → slice_get es i ≡ None → length es ≤ i
past_end [] i is = omega arith
past_end (e ∷ es) zero is = absurd (cc (is))
past_end (e ∷ es) (suc i) is = omega (arith, past_end es i is)

there_same : (name : List ℕ) (es : Entries) (i : ℕ) (o : Option (List ℕ × List ℕ)) → slice_get es i
    ≡ o → i < length es → find name_cmp name (take i es) ≡ None → IfSome o (λ e. e.0 ≡ name)
    → There name es i
there_same name es i None is lt front named = absurd (omega (arith, past_end es i is))
there_same name es i (Some e) is lt front named =
    record {
      file = e;
      at = is;
      front = front;
      named = named;
      told = get_found name es
          ∙ find_here name es i e is front named;
    }

pub some_there : (name : List ℕ) (es fs : Entries) (i : ℕ) → es ≡ fs → i < length es
    → find name_cmp name (take i es) ≡ None → IfSome (slice_get es i) (λ e. e.0 ≡ name)
    → There name fs i
some_there name es fs i same lt front named =
    subst (λ (l : Entries). There name l i) same
    (there_same name es i (slice_get es i) refl lt front named)

take_own_length : {X : Type 0} (n : ℕ) (ys : List X) → take n ys ≡ take (length (take n ys)) ys
take_own_length zero ys = refl
take_own_length (suc n) [] = refl
take_own_length (suc n) (y ∷ ys) = ap (λ l. y ∷ l) (take_own_length n ys)

-- the front of what stands from a place on is a piece
pub is_piece : (file piece : List ℕ) (at room : ℕ) → piece ≡ take room (drop at file)
    → IsPiece file at room piece
is_piece file piece at room is = record {
  front = is ∙ take_own_length room (drop at file)
      ∙ ap (λ (l : List ℕ). take (length l) (drop at file)) (sym is);
  end = λ some none. omega
      (arith, ap length is, length-take room (drop at file), length-drop at file);
}

-- What calls come to that do not fail, at a file that is there and at one that is not.
module _ (fails : Bool) (file : Option (List ℕ)) (quiet : fails ≡ false) where
  module _ (bytes : List ℕ) (there : file ≡ Some bytes) where
    pub read_there : (piece : List ℕ) (at room : ℕ) → piece ≡ take room (drop at bytes)
        → read_outcome fails file at room ≡ Ok piece
    read_there piece at room is = (λ i. read_outcome (quiet i) (there i) at room) ∙ ap Ok (sym is)

    pub append_there : append_outcome fails file ≡ Ok tt
    append_there = λ i. append_outcome (quiet i) (there i)

    pub no_miss : (before now : ℕ) → now ≡ before → now ≡ counted (is_miss fails file) before
    no_miss before now same = same ∙ (λ i. counted (is_miss (sym quiet i) (sym there i)) before)

  module _ (gone : file ≡ None) where
    pub read_gone : (at room : ℕ) → read_outcome fails file at room ≡ Err Missing
    read_gone at room = λ i. read_outcome (quiet i) (gone i) at room

    pub append_gone : append_outcome fails file ≡ Err Missing
    append_gone = λ i. append_outcome (quiet i) (gone i)

    pub one_miss : (before now : ℕ) → now ≡ one_more before → now
        ≡ counted (is_miss fails file) before
    one_miss before now more = more ∙ (λ i. counted (is_miss (sym quiet i) (sym gone i)) before)

-- A call that gives its outcome, and one for which memory ran out.
pub gives : {A E : Type 0} (fault : E) (outcome result : Result A E) (before after : ℕ) → outcome
    ≡ result → after ≡ before → GivesOrStarves fault outcome result before after
gives fault outcome result before after is same = inl (sym is, same)

pub starves : {A E : Type 0} (fault : E) (value : A) (outcome : Result A E) (before after : ℕ)
    → outcome ≡ Ok value → after ≡ one_more before → GivesOrStarves fault outcome (Err fault) before
    after
starves fault value outcome before after is more = inr (subst IsOk (sym is) refl, refl, more)
