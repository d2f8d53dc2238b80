-- What is put together of held terms and values is a body of an action.
use Rattle.std.proofs.Common.{◌≡◌, ℕ, zero, suc, ◌+◌, ◌-◌, ◌<◌, ◌≤◌, List, [], ◌∷◌, ◌++◌, map}
use Rattle.std.proofs.Common.{length}
use Rattle.std.proofs.Common.{Bool, true, false, if◌then◌else◌, Option, Some, None, sym}
use Rattle.std.proofs.Common.{arith, subst, slice_get, unwrap_or, nat_eq, option_map}
use Rattle.std.specs.Prelude.{zip, nat_le, reverse}
use Rattle.std.proofs.lemmas.List.{reverse-append}
use Rattle.sq_base.specs.declared.sort.Sort.{Sort}
use Rattle.sq_base.specs.declared.sort.Sort.TheVariants.{Message, Boolean, Index, Timestamp}
use Rattle.sq_ast.specs.Tree.{FormulaTree, name}
use Rattle.sq_sym.specs.declared.symbol.Symbol.{Symbol}
use Rattle.sq_sym.specs.declared.symbol.Symbol.TheVariants as symbol
use Rattle.sq_sym.specs.Declarations.{found}
use Rattle.sq_term.specs.declared.action.Action.{Action}
use Rattle.sq_term.specs.declared.signature.FunDecl.{FunDecl}
use Rattle.sq_term.specs.declared.term.Idx.{Idx}
use Rattle.sq_term.specs.declared.term.Idx.TheVariants as idx
use Rattle.sq_term.specs.Arguments.{ArgTree, an_index, a_time}
use Rattle.sq_term.specs.Lists.{count}
use Rattle.sq_term.specs.Syntax as t
use Rattle.sq_term.specs.Syntax.{TermTree, TermTrees, nil, cons}
use Rattle.sq_term.specs.Systems.{SystemTree}
use Rattle.sq_subst.specs.Leaves.{map_term, map_terms}
use Rattle.sq_subst.specs.Substitution.{index_or, put_index, substitution}
use Rattle.sq_system.specs.Facts.{IsIndexOf}
use Rattle.sq_system.specs.Facts.{AreIndicesOf, IsBody, AreBodies}
use Rattle.sq_elab.specs.Meanings.{Base, Visible, scope_of, numbered, index_number}
use Rattle.sq_elab.specs.Meanings.{argument_number, visible, let_sort}
use Rattle.sq_elab.specs.Meanings.{value_count, held}
use Rattle.sq_elab.specs.Meanings.{indices_from}
use Rattle.sq_resolve.specs.declared.head.Head.{Head}
use Rattle.sq_resolve.specs.declared.head.Head.TheVariants as head
use Rattle.sq_resolve.specs.declared.fault.ResolveFault.TheVariants.{SortClash, Arity}
use Rattle.sq_resolve.specs.Places.{identifier_fault, own_fault}
use Rattle.sq_resolve.specs.declared.scope.Given.TheVariants as given
use Rattle.sq_resolve.specs.declared.scope.Given.{Given}
use Rattle.sq_resolve.specs.Scopes.{last_given, given_head, first_some, symbol_head}
use Rattle.sq_resolve.specs.Scopes.{action_head}
use Rattle.sq_resolve.specs.Resolved.{as_index, judged, group_variables}
use Rattle.sq_elab.specs.Ways.{creates, receives, repeats, sends, tests, finds, defines}
use Rattle.sq_elab.specs.Ways.{part, labels, enters, Way, indices}
use Rattle.sq_elab.proofs.FitWays.{IsFitWay, AreIndicesThere}
use Rattle.sq_elab.proofs.HeldTerms.{IsHeld, AreHeld, AreGivenFit, IsGivenFit, IsGivenFitOr}
use Rattle.sq_elab.proofs.HeldTerms.{last-given-fits, indices-no-times}
use Rattle.sq_elab.proofs.HeldTerms.{or-falsity-held}
use Rattle.sq_elab.proofs.Timeless.{IsTimeless}

-- ---- what is visible

wider-given : (v n v' n' : ℕ) (g : Given) → v ≤ v' → n ≤ n' → IsGivenFit v n g
    → IsGivenFit v' n' g
wider-given v n v' n' (given.Index k) a b h = let below : k < n = h in omega arith
wider-given v n v' n' (given.Value k s) a b h = let below : k < v = h in omega arith

wider : (v n v' n' : ℕ) (gs : Visible) → v ≤ v' → n ≤ n' → AreGivenFit v n gs
    → AreGivenFit v' n' gs
wider v n v' n' [] a b h = tt
wider v n v' n' (g ∷ gs) a b h = (wider-given v n v' n' g.1 a b h.0, wider v n v' n' gs a b h.1)

given-append : (v n : ℕ) (gs hs : Visible) → AreGivenFit v n gs → AreGivenFit v n hs
    → AreGivenFit v n (gs ++ hs)
given-append v n [] hs h g = g
given-append v n (x ∷ gs) hs h g = (h.0, given-append v n gs hs h.1 g)

numbered-fit : (v n k : ℕ) (ns : List (List ℕ)) → k + length ns ≤ n
    → AreGivenFit v n (numbered k ns)
numbered-fit v n k [] h = tt
numbered-fit v n k (x ∷ ns) h = (omega arith, numbered-fit v n (suc k) ns (omega arith))

-- ---- arguments of calls

abbrev AreArgumentsThere : Base → Visible → List (List ℕ) → Type 0
AreArgumentsThere b seen [] = Unit {0}
AreArgumentsThere b seen (y ∷ ys) =
    (own_fault (scope_of b seen) [] Index (name y) ≡ None) × AreArgumentsThere b seen ys

-- what an argument may mean by what is visible or by the table
abbrev IsArgumentHead : ℕ → Option Head → Type 0
IsArgumentHead n None = Unit {0}
IsArgumentHead n (Some (head.Free k s)) = k < n
IsArgumentHead n (Some (head.Bound k s)) = ⊥
IsArgumentHead n (Some h) = Unit {0}

both-some : {A : Type 0} (c : Bool) (x z : A) → (if c then Some x else (Some z)) ≡ None → ⊥
both-some true x z e = cc (e)
both-some false x z e = cc (e)

argument-below : (n : ℕ) (y : List ℕ) (h : Option Head) → IsArgumentHead n h
    → identifier_fault Index y 0 h ≡ None → index_number (judged as_index Index y 0 h) < n
argument-below n y None g e = absurd (cc (e))
argument-below n y (Some (head.Bound k s)) g e = absurd g
argument-below n y (Some (head.Free k Index)) g e = g
argument-below n y (Some (head.Free k Timestamp)) g e = absurd (cc (e))
argument-below n y (Some (head.Free k Message)) g e = absurd (cc (e))
argument-below n y (Some (head.Free k Boolean)) g e = absurd (cc (e))
argument-below n y (Some (head.Schema k s)) g e = absurd (cc (e))
argument-below n y (Some (head.Name a k)) g e =
    absurd (both-some (nat_eq k 0) (SortClash Index Message) (Arity y k 0) e)
argument-below n y (Some (head.Function a i k s)) g e =
    absurd (both-some (nat_eq (i + k) 0) (SortClash Index s) (Arity y (i + k) 0) e)
argument-below n y (Some (head.Action a k)) g e =
    absurd (both-some (nat_eq k 0) (SortClash Index Timestamp) (Arity y k 0) e)

name-argument : (n a : ℕ) (o : Option ℕ)
    → IsArgumentHead n (option_map (λ k. head.Name a k) o)
name-argument n a None = tt
name-argument n a (Some k) = tt

function-argument : (n a : ℕ) (o : Option FunDecl)
    → IsArgumentHead n (option_map (λ d. head.Function a d.idx d.args d.result) o)
function-argument n a None = tt
function-argument n a (Some d) = tt

action-argument : (n a : ℕ) (o : Option (List Action)) → IsArgumentHead n (action_head a o)
action-argument n a None = tt
action-argument n a (Some xs) = by (slice_get xs a)
  where
    by : (o : Option Action) → IsArgumentHead n (option_map (λ x. head.Action a x.arity) o)
    by None = tt
    by (Some x) = tt

symbol-argument : (b : Base) (seen : Visible) (n : ℕ) (o : Option (ℕ × Symbol))
    → IsArgumentHead n (symbol_head (scope_of b seen) o)
symbol-argument b seen n None = tt
symbol-argument b seen n (Some (at, symbol.Name a)) = name-argument n a (slice_get b.names a)
symbol-argument b seen n (Some (at, symbol.Fun a)) = function-argument n a (slice_get b.funs a)
symbol-argument b seen n (Some (at, symbol.Action s a)) = by (nat_eq s (length b.systems))
  where
    by : (c : Bool) → IsArgumentHead n (if c then action_head a (slice_get b.systems s) else None)
    by true = action-argument n a (slice_get b.systems s)
    by false = tt
symbol-argument b seen n (Some (at, symbol.Channel)) = tt
symbol-argument b seen n (Some (at, symbol.Process k)) = tt
symbol-argument b seen n (Some (at, symbol.System k)) = tt
symbol-argument b seen n (Some (at, symbol.Statement k)) = tt

given-argument : (v n : ℕ) (o : Option Given) (p : Option Head) → IsGivenFitOr v n o
    → IsArgumentHead n p → IsArgumentHead n (first_some (given_head o) p)
given-argument v n None p g h = h
given-argument v n (Some (given.Index k)) p g h = g
given-argument v n (Some (given.Value k s)) p g h = tt

pub argument-fits : (b : Base) (seen : Visible) (v n : ℕ) (y : List ℕ) → AreGivenFit v n seen
    → own_fault (scope_of b seen) [] Index (name y) ≡ None → argument_number b seen y < n
argument-fits b seen v n y g e =
    let o = symbol_head (scope_of b seen) (found y b.table) in
    argument-below n y (first_some (given_head (last_given None y seen)) o)
    (given-argument v n (last_given None y seen) o (last-given-fits v n None y seen tt g)
    (symbol-argument b seen n (found y b.table))) e

parameters-fit : (b : Base) (seen : Visible) (v n v' : ℕ) (xs ys : List (List ℕ))
    → AreGivenFit v n seen → AreArgumentsThere b seen ys
    → AreGivenFit v' n (zip xs (map (λ y. given.Index (argument_number b seen y)) ys))
parameters-fit b seen v n v' [] ys g h = tt
parameters-fit b seen v n v' (x ∷ xs) [] g h = tt
parameters-fit b seen v n v' (x ∷ xs) (y ∷ ys) g h =
    (argument-fits b seen v n y g h.0, parameters-fit b seen v n v' xs ys g h.1)

arguments-there : (b : Base) (w : Way) (ys : List (List ℕ)) → AreIndicesThere b w ys
    → AreArgumentsThere b (visible b w) ys
arguments-there b w [] h = tt
arguments-there b w (y ∷ ys) h = (h.0, arguments-there b w ys h.1)

pub visible-fits : (b : Base) (w : Way) → IsFitWay b w
    → AreGivenFit (value_count w) (indices w) (visible b w)
visible-fits b [] h = tt
visible-fits b (creates x k ∷ w) h =
    let v = value_count w in let n = indices w in
    given-append (v + 1) (n + 0) (visible b w) ((x, given.Value v Message) ∷ [])
    (wider v n (v + 1) (n + 0) (visible b w) (omega arith) (omega arith) (visible-fits b w h))
    (omega arith, tt)
visible-fits b (receives x a ∷ w) h =
    let v = value_count w in let n = indices w in
    given-append (v + 1) (n + 0) (visible b w) ((x, given.Value v Message) ∷ [])
    (wider v n (v + 1) (n + 0) (visible b w) (omega arith) (omega arith) (visible-fits b w h))
    (omega arith, tt)
visible-fits b (defines x f ∷ w) h =
    let v = value_count w in let n = indices w in
    given-append (v + 1) (n + 0) (visible b w) ((x, given.Value v (let_sort b w f)) ∷ [])
    (wider v n (v + 1) (n + 0) (visible b w) (omega arith) (omega arith) (visible-fits b w h.1))
    (omega arith, tt)
visible-fits b (repeats x a ∷ w) h =
    let v = value_count w in let n = indices w in
    given-append (v + 0) (n + 1) (visible b w) ((x, given.Index n) ∷ [])
    (wider v n (v + 0) (n + 1) (visible b w) (omega arith) (omega arith) (visible-fits b w h))
    (omega arith, tt)
visible-fits b (finds ns f true ∷ w) h =
    let v = value_count w in let n = indices w in
    given-append (v + 0) (n + length ns) (visible b w) (numbered n ns)
    (wider v n (v + 0) (n + length ns) (visible b w) (omega arith) (omega arith)
    (visible-fits b w h.1)) (numbered-fit (v + 0) (n + length ns) n ns (omega arith))
visible-fits b (finds ns f false ∷ w) h =
    wider (value_count w) (indices w) (value_count w + 0) (indices w + 0) (visible b w)
    (omega arith) (omega arith) (visible-fits b w h.1)
visible-fits b (sends m a ∷ w) h =
    wider (value_count w) (indices w) (value_count w + 0) (indices w + 0) (visible b w)
    (omega arith) (omega arith) (visible-fits b w h)
visible-fits b (tests f x ∷ w) h =
    wider (value_count w) (indices w) (value_count w + 0) (indices w + 0) (visible b w)
    (omega arith) (omega arith) (visible-fits b w h.1)
visible-fits b (part k more a ∷ w) h =
    wider (value_count w) (indices w) (value_count w + 0) (indices w + 0) (visible b w)
    (omega arith) (omega arith) (visible-fits b w h)
visible-fits b (labels l ∷ w) h =
    wider (value_count w) (indices w) (value_count w + 0) (indices w + 0) (visible b w)
    (omega arith) (omega arith) (visible-fits b w h)
visible-fits b (enters xs ys ∷ w) h =
    let v = value_count w in let n = indices w in
    let seen = zip xs (map (λ y. given.Index (argument_number b (visible b w) y)) ys) in
    wider v n (v + 0) (n + 0) seen (omega arith) (omega arith)
    (parameters-fit b (visible b w) v n v xs ys (visible-fits b w h.1)
    (arguments-there b w ys h.0))

-- ---- held terms

pub held-fits : (b : Base) (w : Way) (f : FormulaTree) (s : Sort) → IsFitWay b w → IsTimeless f
    → IsHeld (value_count w) (indices w) (held b w [] s f)
held-fits b w f s h l =
    or-falsity-held b (visible b w) (value_count w) (indices w) (visible-fits b w h) f [] s l tt

pub held-find-fits : (b : Base) (w : Way) (ns : List (List ℕ)) (f : FormulaTree) (s : Sort)
    → IsFitWay b w → IsTimeless f
    → IsHeld (value_count w) (indices w) (held b w (group_variables Index ns) s f)
held-find-fits b w ns f s h l =
    or-falsity-held b (visible b w) (value_count w) (indices w) (visible-fits b w h) f
    (group_variables Index ns) s l (indices-no-times ns)

-- ---- putting in

-- bodies of action k with n indices
module _ (s : SystemTree) (k n : ℕ) where
  abbrev pub AreAllBodies : List TermTree → Type 0
  AreAllBodies [] = Unit {0}
  AreAllBodies (u ∷ us) = IsBody s k n u × AreAllBodies us

  pub bodies-append : (us ws : List TermTree) → AreAllBodies us → AreAllBodies ws
      → AreAllBodies (us ++ ws)
  bodies-append [] ws h g = g
  bodies-append (u ∷ us) ws h g = (h.0, bodies-append us ws h.1 g)

  abbrev pub AreArgs : List ArgTree → Type 0
  AreArgs [] = Unit {0}
  AreArgs (an_index i ∷ xs) = IsIndexOf n i × AreArgs xs
  AreArgs (a_time u ∷ xs) = ⊥

  args-append : (xs bs : List ArgTree) → AreArgs xs → AreArgs bs → AreArgs (xs ++ bs)
  args-append [] bs h g = g
  args-append (an_index i ∷ xs) bs h g = (h.0, args-append xs bs h.1 g)
  args-append (a_time u ∷ xs) bs h g = absurd h

  args-reverse : (xs : List ArgTree) → AreArgs xs → AreArgs (reverse xs)
  args-reverse [] h = tt
  args-reverse (an_index i ∷ xs) h =
      subst AreArgs (sym (reverse-append (an_index i ∷ []) xs))
      (args-append (reverse xs) (an_index i ∷ []) (args-reverse xs h.1) (h.0, tt))
  args-reverse (a_time u ∷ xs) h = absurd h

  args-count : (a c : ℕ) → a + c ≤ n → AreArgs (map (λ i. an_index (idx.Free i)) (count a c))
  args-count a zero h = tt
  args-count a (suc c) h = (omega arith, args-count (suc a) c (omega arith))

  pub args-from : (a c : ℕ) → a + c ≤ n → AreArgs (indices_from a c)
  args-from a c h =
      args-reverse (map (λ i. an_index (idx.Free i)) (count a c)) (args-count a c h)

  body-at : (us : List TermTree) (j : ℕ) (d : TermTree) → AreAllBodies us → j < length us
      → IsBody s k n (unwrap_or (slice_get us j) d)
  body-at [] j d h l = absurd (omega arith)
  body-at (u ∷ us) zero d h l = h.0
  body-at (u ∷ us) (suc j) d h l = body-at us j d h.1 (omega arith)

  arg-at : (xs : List ArgTree) (j : ℕ) (i : Idx) → AreArgs xs → IsIndexOf n i
      → IsIndexOf n (index_or (slice_get xs j) i)
  arg-at [] j i h g = g
  arg-at (an_index a ∷ xs) zero i h g = h.0
  arg-at (an_index a ∷ xs) (suc j) i h g = arg-at xs j i h.1 g
  arg-at (a_time u ∷ xs) j i h g = absurd h

  module _ (v c : ℕ) (fewer : c ≤ n) (us : List TermTree) (bodies : AreAllBodies us)
      (long : length us ≡ v) (outer : List ArgTree) (args : AreArgs outer) where
    index-put : (m : ℕ) (i : Idx) → IsIndexOf c i → IsIndexOf n (put_index [] outer m i)
    index-put m (idx.Free j) h = let below : j < c = h in omega arith
    index-put m (idx.Bound j) h = by (nat_le m j)
      where
        by : (x : Bool)
            → IsIndexOf n (index_or (if x then slice_get outer (j - m) else None) (idx.Bound j))
        by true = arg-at outer (j - m) (idx.Bound j) args tt
        by false = tt

    indices-put : (m : ℕ) (is : List Idx) → AreIndicesOf c is
        → AreIndicesOf n (map (put_index [] outer m) is)
    indices-put m [] h = tt
    indices-put m (i ∷ is) h = (index-put m i h.0, indices-put m is h.1)

    mutual
      pub put-body : (u : TermTree) (m : ℕ) → IsHeld v c u
          → IsBody s k n (map_term (substitution [] outer us) m u)
      put-body (t.name a is) m h = indices-put m is h
      put-body (t.fun f is ts) m h = (indices-put m is h.0, put-bodies ts m h.1)
      put-body (t.macro r u) m h = absurd h
      put-body (t.schema j) m h =
          let below : j < v = h in body-at us j (t.schema j) bodies (omega arith)
      put-body (t.diff a d) m h = (put-body a m h.0, put-body d m h.1)
      put-body (t.le a d) m h = absurd h
      put-body (t.ts_eq a d) m h = absurd h
      put-body (t.idx_eq i j) m h = (index-put m i h.0, index-put m j h.1)
      put-body (t.happens u) m h = absurd h
      put-body (t.all r a) m h = put-body a (m + 1) h
      put-body (t.some r a) m h = put-body a (m + 1) h
      put-body (t.find x a d e) m h =
          (put-body a (m + x) h.0, put-body d (m + x) h.1, put-body e m h.2)

      put-bodies : (ts : TermTrees) (m : ℕ) → AreHeld v c ts
          → AreBodies s k n (map_terms (substitution [] outer us) m ts)
      put-bodies nil m h = tt
      put-bodies (cons a ts) m h = (put-body a m h.0, put-bodies ts m h.1)
