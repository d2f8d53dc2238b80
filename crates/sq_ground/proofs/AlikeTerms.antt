-- Where the macros' values are the same up to the limits, so are translations.
use Rattle.std.proofs.Common.{◌≡◌, refl, sym, ap, subst, ℕ, zero, suc, ◌⊎◌, inl, inr, List, [], ◌∷◌}
use Rattle.std.proofs.Common.{◌++◌, map, length, Bool, true, false, arith}
use Rattle.std.specs.Prelude.{get_or, Option, Some, None, if◌then◌else◌}
use Rattle.sq_term.specs.Macros.{GroundMacro, word}
use Rattle.sq_term.specs.declared.term.Macro.TheVariants.{Input, Output, Cond, Exec, Frame}
use Rattle.sq_term.specs.declared.model.Value.{Value}
use Rattle.sq_term.specs.Lists.{fold_right}
use Rattle.sq_term.specs.Symbols as kind
use Rattle.sq_term.specs.Symbols.{Kind}
use Rattle.sq_term.specs.Syntax.{TermTree, name, fun, macro, schema, diff, le, ts_eq, idx_eq}
use Rattle.sq_term.specs.Syntax.{happens, all, some, find, TermTrees, nil, cons}
use Rattle.sq_term.specs.Ground.{Ground, applied, Grounds, none, more}
use Rattle.sq_term.specs.GroundFormulas.{both, empty, pair, of_bool, conditional, conj, disj_of_all}
use Rattle.sq_term.specs.Translate.{Times, World, Assignment, idx_values, macro_value, ts_value}
use Rattle.sq_term.specs.Translate.{domain, choices, translate, translate_all}
use Rattle.sq_term.specs.Records.{Record, at_undefined, next_record, value_in}
use Rattle.sq_ground.specs.Calls.Builds.{Passes, AllPass}
use Rattle.sq_ground.specs.Calls.Alike.{Alike, AlikeRecord, AlikeRecords}

module _ (room : ℕ) where
  pub alike_same : (x : Ground) → Alike room x x
  alike_same x = inl refl

  pub alike_trans : (x y z : Ground) → Alike room x y → Alike room y z → Alike room x z
  alike_trans x y z (inl e) q = subst (λ t. Alike room t z) (sym e) q
  alike_trans x y z (inr p) (inl f) = inr (p.0, subst (Passes room) f p.1)
  alike_trans x y z (inr p) (inr q) = inr (p.0, q.1)

  abbrev AlikeRow : Grounds → Grounds → Type 0
  AlikeRow xs ys = (xs ≡ ys) ⊎ (AllPass room xs × AllPass room ys)

  first_passes : (x : Ground) (xs : Grounds) → Passes room x → AllPass room (more x xs)
  first_passes x xs (inl h) = inl (omega arith)
  first_passes x xs (inr h) = inr (omega arith)

  rest_passes : (x : Ground) (xs : Grounds) → AllPass room xs → AllPass room (more x xs)
  rest_passes x xs (inl h) = inl (omega arith)
  rest_passes x xs (inr h) = inr (omega arith)

  whole_passes : (f : Kind) (is : List ℕ) (xs : Grounds) → AllPass room xs
      → Passes room (applied f is xs)
  whole_passes f is xs (inl h) = inl (omega arith)
  whole_passes f is xs (inr h) = inr (omega arith)

  alike_more : (x y : Ground) (xs ys : Grounds) → Alike room x y → AlikeRow xs ys
      → AlikeRow (more x xs) (more y ys)
  alike_more x y xs ys (inl e) (inl f) = inl (λ i. more (e i) (f i))
  alike_more x y xs ys (inr p) q = inr (first_passes x xs p.0, first_passes y ys p.1)
  alike_more x y xs ys (inl e) (inr q) = inr (rest_passes x xs q.0, rest_passes y ys q.1)

  alike_applied : (f : Kind) (is : List ℕ) (xs ys : Grounds) → AlikeRow xs ys
      → Alike room (applied f is xs) (applied f is ys)
  alike_applied f is xs ys (inl e) = inl (ap (applied f is) e)
  alike_applied f is xs ys (inr p) = inr (whole_passes f is xs p.0, whole_passes f is ys p.1)

  pub alike_one : (f : Kind) (x y : Ground) → Alike room x y
      → Alike room (applied f [] (more x none)) (applied f [] (more y none))
  alike_one f x y p =
      alike_applied f [] (more x none) (more y none) (alike_more x y none none p (inl refl))

  pub alike_two : (f : Kind) (x y z u : Ground) → Alike room x y → Alike room z u
      → Alike room (applied f [] (more x (more z none))) (applied f [] (more y (more u none)))
  alike_two f x y z u p q =
      alike_applied f [] (more x (more z none)) (more y (more u none))
      (alike_more x y (more z none) (more u none) p (alike_more z u none none q (inl refl)))

  pub alike_three : (f : Kind) (x y z u v w : Ground) → Alike room x y → Alike room z u
      → Alike room v w
      → Alike room (applied f [] (more x (more z (more v none))))
      (applied f [] (more y (more u (more w none))))
  alike_three f x y z u v w p q r =
      alike_applied f [] (more x (more z (more v none))) (more y (more u (more w none)))
      (alike_more x y (more z (more v none)) (more u (more w none)) p
      (alike_more z u (more v none) (more w none) q (alike_more v w none none r (inl refl))))

  alike_conj : {A : Type 0} (F G : A → Ground) (xs : List A) → ((x : A) → Alike room (F x) (G x))
      → Alike room (conj (map F xs)) (conj (map G xs))
  alike_conj F G [] h = inl refl
  alike_conj F G (x ∷ []) h = h x
  alike_conj F G (x ∷ y ∷ xs) h =
      alike_two kind.conjunction (F x) (G x) (conj (map F (y ∷ xs))) (conj (map G (y ∷ xs))) (h x)
      (alike_conj F G (y ∷ xs) h)

  alike_disj : {A : Type 0} (F G : A → Ground) (xs : List A) → ((x : A) → Alike room (F x) (G x))
      → Alike room (disj_of_all (map F xs)) (disj_of_all (map G xs))
  alike_disj F G [] h = inl refl
  alike_disj F G (x ∷ []) h = h x
  alike_disj F G (x ∷ y ∷ xs) h =
      alike_two kind.disjunction (F x) (G x) (disj_of_all (map F (y ∷ xs)))
      (disj_of_all (map G (y ∷ xs))) (h x) (alike_disj F G (y ∷ xs) h)

  alike_fold : {A : Type 0} (F G H K : A → Ground) (z u : Ground) (xs : List A)
      → ((x : A) → Alike room (F x) (H x)) → ((x : A) → Alike room (G x) (K x)) → Alike room z u
      → Alike room (fold_right (λ x rest. conditional (F x) (G x) rest) z xs)
      (fold_right (λ x rest. conditional (H x) (K x) rest) u xs)
  alike_fold F G H K z u [] h k o = o
  alike_fold F G H K z u (x ∷ xs) h k o =
      alike_three kind.conditional (F x) (H x) (G x) (K x) _ _ (h x) (k x)
      (alike_fold F G H K z u xs h k o)

  module _ (w : Times) (l : Bool) (m k : GroundMacro → Option ℕ → Ground) (a : Assignment)
      (same : (read : GroundMacro) (v : Option ℕ) → Alike room (m read v) (k read v)) where
    abbrev one : World
    one = record { times = w; values = m; left = l }

    abbrev other_one : World
    other_one = record { times = w; values = k; left = l }

    either_side : (b : Bool) (x y z u : Ground) → Alike room x z → Alike room y u
        → Alike room (if b then x else y) (if b then z else u)
    either_side true x y z u p q = p
    either_side false x y z u p q = q

    mutual
      -- a term's translations
      pub alike : (t : TermTree) (bs : List Value)
          → Alike room (translate one a bs t) (translate other_one a bs t)
      alike (name n is) bs = inl refl
      alike (fun f is ts) bs =
          alike_applied f (idx_values a bs is) (translate_all one a bs ts)
          (translate_all other_one a bs ts) (alike_all ts bs)
      alike (macro x t) bs = same (macro_value a bs x) (ts_value w a bs t)
      alike (schema n) bs = inl refl
      alike (diff x y) bs =
          either_side l (translate one a bs x) (translate one a bs y) (translate other_one a bs x)
          (translate other_one a bs y) (alike x bs) (alike y bs)
      alike (le t s) bs = inl refl
      alike (ts_eq t s) bs = inl refl
      alike (idx_eq i j) bs = inl refl
      alike (happens t) bs = inl refl
      alike (all s body) bs =
          alike_conj (λ x. translate one a (x ∷ bs) body) (λ x. translate other_one a (x ∷ bs) body)
          (domain w s) (λ x. alike body (x ∷ bs))
      alike (some s body) bs =
          alike_disj (λ x. translate one a (x ∷ bs) body) (λ x. translate other_one a (x ∷ bs) body)
          (domain w s) (λ x. alike body (x ∷ bs))
      alike (find c test found other) bs =
          alike_fold (λ xs. translate one a xs test) (λ xs. translate one a xs found)
          (λ xs. translate other_one a xs test) (λ xs. translate other_one a xs found)
          (translate one a bs other) (translate other_one a bs other) (choices w c bs)
          (λ xs. alike test xs) (λ xs. alike found xs) (alike other bs)

      alike_all : (ts : TermTrees) (bs : List Value)
          → AlikeRow (translate_all one a bs ts) (translate_all other_one a bs ts)
      alike_all nil bs = inl refl
      alike_all (cons t ts) bs =
          alike_more (translate one a bs t) (translate other_one a bs t) (translate_all one a bs ts)
          (translate_all other_one a bs ts) (alike t bs) (alike_all ts bs)

  pub alike_record : (r s : Record) → Alike room r.input s.input → Alike room r.output s.output
      → Alike room r.cond s.cond → Alike room r.exec s.exec → Alike room r.frame s.frame
      → AlikeRecord room r s
  alike_record r s i o c e f (word Input) = i
  alike_record r s i o c e f (word Output) = o
  alike_record r s i o c e f (word Cond) = c
  alike_record r s i o c e f (word Exec) = e
  alike_record r s i o c e f (word Frame) = f

  -- the record behind alike ones
  pub alike_next : (r s : Record) (i j o p c d : Ground) → AlikeRecord room r s → Alike room i j
      → Alike room o p → Alike room c d
      → AlikeRecord room (next_record r i o c) (next_record s j p d)
  alike_next r s i j o p c d h hi ho hc (word Input) = hi
  alike_next r s i j o p c d h hi ho hc (word Output) = ho
  alike_next r s i j o p c d h hi ho hc (word Cond) = hc
  alike_next r s i j o p c d h hi ho hc (word Exec) =
      alike_two kind.conjunction r.exec s.exec c d (h (word Exec)) hc
  alike_next r s i j o p c d h hi ho hc (word Frame) =
      let e : Alike room (both r.exec c) (both s.exec d) =
      alike_two kind.conjunction r.exec s.exec c d (h (word Exec)) hc in
      alike_two kind.pairing r.frame s.frame _ _ (h (word Frame))
      (alike_two kind.pairing _ _ _ _ (alike_one kind.of_bool _ _ e)
      (alike_three kind.conditional _ _ o p empty empty e ho (inl refl)))

  -- a frame over what is kept of `exec`
  pub alike_frame : (r : Record) (i o c e f : Ground) → Alike room e (next_record r i o c).exec
      → Alike room f (pair r.frame (pair (of_bool e) (conditional e o empty)))
      → Alike room f (next_record r i o c).frame
  alike_frame r i o c e f h k =
      alike_trans f _ _ k
      (alike_two kind.pairing r.frame r.frame _ _ (inl refl)
      (alike_two kind.pairing _ _ _ _ (alike_one kind.of_bool e _ h)
      (alike_three kind.conditional e _ o o empty empty h (inl refl) (inl refl))))

  pub alike_at : (rs ss : List Record) → AlikeRecords room rs ss → (p : ℕ)
      → AlikeRecord room (get_or rs p at_undefined) (get_or ss p at_undefined)
  alike_at [] [] h p read = inl refl
  alike_at [] (s ∷ ss) h p read = absurd h
  alike_at (r ∷ rs) [] h p read = absurd h
  alike_at (r ∷ rs) (s ∷ ss) h zero read = h.0 read
  alike_at (r ∷ rs) (s ∷ ss) h (suc p) read = alike_at rs ss h.1 p read

  pub alike_values : (rs ss : List Record) → AlikeRecords room rs ss
      → (read : GroundMacro) (v : Option ℕ) → Alike room (value_in rs read v) (value_in ss read v)
  alike_values rs ss h read None = inl refl
  alike_values rs ss h read (Some p) = alike_at rs ss h p read

  pub alike_push : (rs ss : List Record) (r s : Record) → AlikeRecords room rs ss
      → AlikeRecord room r s → AlikeRecords room (rs ++ r ∷ []) (ss ++ s ∷ [])
  alike_push [] [] r s h k = (k, tt)
  alike_push [] (y ∷ ss) r s h k = absurd h
  alike_push (x ∷ rs) [] r s h k = absurd h
  alike_push (x ∷ rs) (y ∷ ss) r s h k = (h.0, alike_push rs ss r s h.1 k)

  pub alike_themselves : (rs : List Record) → AlikeRecords room rs rs
  alike_themselves [] = tt
  alike_themselves (r ∷ rs) = (λ read. inl refl, alike_themselves rs)

  pub alike_length : (rs ss : List Record) → AlikeRecords room rs ss → length rs ≡ length ss
  alike_length [] [] h = refl
  alike_length [] (s ∷ ss) h = absurd h
  alike_length (r ∷ rs) [] h = absurd h
  alike_length (r ∷ rs) (s ∷ ss) h = ap suc (alike_length rs ss h.1)
