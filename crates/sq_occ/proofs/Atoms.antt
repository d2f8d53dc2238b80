-- No atom stands in what a term means: bodies hold no schema variable, so that no record has one.
use Rattle.std.proofs.Common.{◌≡◌, refl, ℕ, zero, suc, List, [], ◌∷◌}
use Rattle.std.proofs.Common.{◌++◌, map, get_or, Bool, true, false, if◌then◌else◌, ◌||◌, Option}
use Rattle.std.proofs.Common.{Some}
use Rattle.std.proofs.Common.{None, slice_get}
use Rattle.sq_term.specs.declared.model.Inst.{Inst}
use Rattle.sq_term.specs.declared.model.Model.{Model}
use Rattle.sq_term.specs.declared.model.Value.{Value}
use Rattle.sq_term.specs.declared.term.Macro.TheVariants.{Input, Output, Cond, Exec, Frame}
use Rattle.sq_term.specs.Ground.{Ground}
use Rattle.sq_term.specs.GroundFormulas.{conditional, truth_of, conj, disj_of_all, attacked}
use Rattle.sq_term.specs.GroundOccurrences.{holds_no_atom, hold_no_atom}
use Rattle.sq_term.specs.Lists.{here, there, Each, fold_right}
use Rattle.sq_term.specs.Macros.{GroundMacro, word}
use Rattle.sq_term.specs.Records.{Record, at_init, at_undefined, next_record, field, value_in}
use Rattle.sq_term.specs.Records.{world_over, own_indices, record_of, records_from, records_of}
use Rattle.sq_term.specs.Records.{world}
use Rattle.sq_term.specs.Syntax.{TermTree, name, fun, macro, schema, diff, le, ts_eq, idx_eq}
use Rattle.sq_term.specs.Syntax.{happens, all, some, find, TermTrees, nil, cons}
use Rattle.sq_term.specs.Systems.{SystemTree, ActionTree, no_action, action_at}
use Rattle.sq_term.specs.Translate.{World, Assignment, domain, choices, translate, translate_all}
use Rattle.sq_term.proofs.BoolTests.{and_both}
use Rattle.sq_term.proofs.Members.{each-append, each_single}
use Rattle.sq_system.specs.Facts.{IsBody, AreBodies, IsSystem}
use Rattle.sq_occ.specs.Searches.{holds_schema, hold_schema}
use Rattle.sq_occ.specs.Atoms.{MeaningsHoldNoAtom}
use Rattle.sq_occ.proofs.Sides.{neither}

abbrev Free : Ground → Type 0
Free t = holds_no_atom t ≡ true

conj-free : (f : Value → Ground) (xs : List Value) → ((x : Value) → Free (f x))
    → Free (conj (map f xs))
conj-free f [] h = refl
conj-free f (x ∷ []) h = h x
conj-free f (x ∷ y ∷ xs) h =
    and_both _ _ (h x) (and_both _ _ (conj-free f (y ∷ xs) h) refl)

disj-free : (f : Value → Ground) (xs : List Value) → ((x : Value) → Free (f x))
    → Free (disj_of_all (map f xs))
disj-free f [] h = refl
disj-free f (x ∷ []) h = h x
disj-free f (x ∷ y ∷ xs) h =
    and_both _ _ (h x) (and_both _ _ (disj-free f (y ∷ xs) h) refl)

truth-free : (b : Bool) → Free (truth_of b)
truth-free true = refl
truth-free false = refl

find-free : (f g : List Value → Ground) (o : Ground) (xss : List (List Value))
    → ((xs : List Value) → Free (f xs)) → ((xs : List Value) → Free (g xs)) → Free o
    → Free (fold_right (λ xs rest. conditional (f xs) (g xs) rest) o xss)
find-free f g o [] h k l = l
find-free f g o (xs ∷ xss) h k l =
    and_both _ _ (h xs) (and_both _ _ (k xs) (and_both _ _ (find-free f g o xss h k l) refl))

module _ (w : World) (a : Assignment)
    (values : (m : GroundMacro) (v : Option ℕ) → Free (w.values m v)) where
  one_side : (b : Bool) (x y : Ground) → Free x → Free y → Free (if b then x else y)
  one_side true x y h k = h
  one_side false x y h k = k

  mutual
    pub meaning-free : (t : TermTree) (es : List Value) → holds_schema t ≡ false
        → Free (translate w a es t)
    meaning-free (name n is) es h = refl
    meaning-free (fun f is ts) es h = meanings-free ts es h
    meaning-free (macro m t) es h = values _ _
    meaning-free (schema k) es h = absurd (let f : true ≡ false = h in cc)
    meaning-free (diff x y) es h =
        let p = neither (holds_schema x) (holds_schema y) h in
        one_side w.left (translate w a es x) (translate w a es y)
        (meaning-free x es p.0) (meaning-free y es p.1)
    meaning-free (le t s) es h = truth-free _
    meaning-free (ts_eq t s) es h = truth-free _
    meaning-free (idx_eq i j) es h = truth-free _
    meaning-free (happens t) es h = truth-free _
    meaning-free (all s body) es h =
        conj-free (λ x. translate w a (x ∷ es) body) (domain w.times s)
        (λ x. meaning-free body (x ∷ es) h)
    meaning-free (some s body) es h =
        disj-free (λ x. translate w a (x ∷ es) body) (domain w.times s)
        (λ x. meaning-free body (x ∷ es) h)
    meaning-free (find c test found other) es h =
        let p = neither (holds_schema test) (holds_schema found || holds_schema other) h in
        let q = neither (holds_schema found) (holds_schema other) p.1 in
        find-free (λ xs. translate w a xs test) (λ xs. translate w a xs found)
        (translate w a es other) (choices w.times c es)
        (λ xs. meaning-free test xs p.0) (λ xs. meaning-free found xs q.0)
        (meaning-free other es q.1)

    meanings-free : (ts : TermTrees) (es : List Value) → hold_schema ts ≡ false
        → hold_no_atom (translate_all w a es ts) ≡ true
    meanings-free nil es h = refl
    meanings-free (cons t ts) es h =
        let p = neither (holds_schema t) (hold_schema ts) h in
        and_both _ _ (meaning-free t es p.0) (meanings-free ts es p.1)

-- ---- records

abbrev FreeRecord : Record → Type 0
FreeRecord r = (m : GroundMacro) → Free (field m r)

undefined-free : FreeRecord at_undefined
undefined-free (word Input) = refl
undefined-free (word Output) = refl
undefined-free (word Cond) = refl
undefined-free (word Exec) = refl
undefined-free (word Frame) = refl

init-free : FreeRecord at_init
init-free (word Input) = refl
init-free (word Output) = refl
init-free (word Cond) = refl
init-free (word Exec) = refl
init-free (word Frame) = refl

half-free : (input : Ground) → Free input → FreeRecord (record at_undefined { input = input })
half-free input h (word Input) = h
half-free input h (word Output) = refl
half-free input h (word Cond) = refl
half-free input h (word Exec) = refl
half-free input h (word Frame) = refl

next-free : (last : Record) (o c : Ground) → FreeRecord last → Free o → Free c
    → FreeRecord (next_record last (attacked last.frame) o c)
next-free last o c h ho hc = parts
  where
    exe : Free (next_record last (attacked last.frame) o c).exec
    exe = and_both _ _ (h (word Exec)) (and_both _ _ hc refl)

    parts : FreeRecord (next_record last (attacked last.frame) o c)
    parts (word Input) = and_both _ _ (h (word Frame)) refl
    parts (word Output) = ho
    parts (word Cond) = hc
    parts (word Exec) = exe
    parts (word Frame) =
        and_both _ _ (h (word Frame))
        (and_both _ _
        (and_both _ _ (and_both _ _ exe refl)
        (and_both _ _ (and_both _ _ exe (and_both _ _ ho (and_both _ _ refl refl))) refl))
        refl)

get_or-each : (P : Record → Type 0) (xs : List Record) (k : ℕ) → Each P xs → P at_undefined
    → P (get_or xs k at_undefined)
get_or-each P [] k h d = d
get_or-each P (x ∷ xs) zero h d = h x here
get_or-each P (x ∷ xs) (suc k) h d = get_or-each P xs k (λ y i. h y (there i)) d

value-free : (records : List Record) → Each FreeRecord records → (m : GroundMacro) (v : Option ℕ)
    → Free (value_in records m v)
value-free records h m (Some p) = get_or-each FreeRecord records p h undefined-free m
value-free records h m None = undefined-free m

-- ---- bodies

or_none : (p q : Bool) → p ≡ false → q ≡ false → (p || q) ≡ false
or_none true q e f = e
or_none false q e f = f

mutual
  body-plain : (s : SystemTree) (k n : ℕ) (t : TermTree) → IsBody s k n t → holds_schema t ≡ false
  body-plain s k n (name c is) h = refl
  body-plain s k n (fun f is ts) h = bodies-plain s k n ts h.1
  body-plain s k n (macro r t) h = refl
  body-plain s k n (schema c) h = absurd h
  body-plain s k n (diff a b) h = or_none _ _ (body-plain s k n a h.0) (body-plain s k n b h.1)
  body-plain s k n (le a b) h = refl
  body-plain s k n (ts_eq a b) h = refl
  body-plain s k n (idx_eq a b) h = refl
  body-plain s k n (happens t) h = refl
  body-plain s k n (all c t) h = body-plain s k n t h
  body-plain s k n (some c t) h = body-plain s k n t h
  body-plain s k n (find c t a b) h =
      or_none _ _ (body-plain s k n t h.0)
      (or_none _ _ (body-plain s k n a h.1) (body-plain s k n b h.2))

  bodies-plain : (s : SystemTree) (k n : ℕ) (ts : TermTrees) → AreBodies s k n ts
      → hold_schema ts ≡ false
  bodies-plain s k n nil h = refl
  bodies-plain s k n (cons t ts) h =
      or_none _ _ (body-plain s k n t h.0) (bodies-plain s k n ts h.1)

record Plain (a : ActionTree) : Type 0 where
  cond_is : holds_schema a.cond ≡ false
  output_is : holds_schema a.output ≡ false

at_or_none : (xs : List ActionTree) (k : ℕ)
    → ((j : ℕ) (a : ActionTree) → slice_get xs j ≡ Some a → Plain a) → Plain (get_or xs k no_action)
at_or_none [] k h = record { cond_is = refl; output_is = refl }
at_or_none (x ∷ xs) zero h = h 0 x refl
at_or_none (x ∷ xs) (suc k) h = at_or_none xs k (λ j a e. h (suc j) a e)

module _ (s : SystemTree) (facts : IsSystem s) where
  action-plain : (k : ℕ) → Plain (action_at s k)
  action-plain k =
      at_or_none s.actions k
      (λ j a e. record {
        cond_is = body-plain s j a.arity a.cond (facts j a e).cond_is;
        output_is = body-plain s j a.arity a.output (facts j a e).output_is;
      })

  records-free : (m : Model) (left : Bool) (rest : List Inst) (records : List Record)
      (last : Record) → Each FreeRecord records → FreeRecord last
      → Each FreeRecord (records_from s m left records last rest)
  records-free m left [] records last h l = h
  records-free m left (i ∷ rest) records last h l =
      let a : ActionTree = action_at s i.act in
      let input : Ground = attacked last.frame in
      let half : Record = record at_undefined { input = input } in
      let seen : Each FreeRecord (records ++ half ∷ []) =
      each-append records (half ∷ []) FreeRecord h
      (each_single half FreeRecord (half-free input (and_both _ _ (l (word Frame)) refl))) in
      let w : World = world_over m left (records ++ half ∷ []) in
      let free : (mac : GroundMacro) (v : Option ℕ) → Free (w.values mac v) =
      value-free (records ++ half ∷ []) seen in
      let r : Record = record_of s m left records last i in
      let next : FreeRecord r =
      next-free last (translate w (own_indices i) [] a.output)
      (translate w (own_indices i) [] a.cond) l
      (meaning-free w (own_indices i) free a.output [] (action-plain i.act).output_is)
      (meaning-free w (own_indices i) free a.cond [] (action-plain i.act).cond_is) in
      records-free m left rest (records ++ r ∷ []) r
      (each-append records (r ∷ []) FreeRecord h (each_single r FreeRecord next)) next

  pub world-free : (m : Model) (left : Bool) (mac : GroundMacro) (v : Option ℕ)
      → Free ((world s m left).values mac v)
  world-free m left mac v =
      value-free (records_of s m left)
      (records-free m left m.list (at_init ∷ []) at_init
      (each_single at_init FreeRecord init-free) init-free) mac v

pub no_atom : MeaningsHoldNoAtom
no_atom s m left a t facts h =
    meaning-free (world s m left) a (world-free s facts m left) t [] h
