-- A walk keeps the sorts of terms where each thing that it puts in has the sort of what it stands
-- for.
use Rattle.std.proofs.Common.{◌≡◌, ℕ, zero, suc, ◌+◌, refl, ap, ◌∙◌, subst, List, [], ◌∷◌, ◌++◌}
use Rattle.std.proofs.Common.{map, length, Option, Some, None, Bool, true, false, ◌&&◌, nat_lt}
use Rattle.std.proofs.Common.{arith}
use Rattle.std.specs.Prelude.{slice_get, replicate, unwrap_or}
use Rattle.std.proofs.lemmas.List.{length-map}
use Rattle.sq_base.specs.declared.sort.Sort.{Sort}
use Rattle.sq_base.specs.declared.sort.Sort.TheVariants.{Message, Boolean, Index, Timestamp}
use Rattle.sq_term.specs.declared.term.Idx.{Idx}
use Rattle.sq_term.specs.declared.term.Side.{Side}
use Rattle.sq_term.specs.declared.term.Side.TheVariants.{Left, Right, Both}
use Rattle.sq_term.specs.declared.signature.FunDecl.{FunDecl}
use Rattle.sq_term.specs.Measure.{count_terms}
use Rattle.sq_term.specs.Pure.{is_binder_sort}
use Rattle.sq_term.specs.Symbols.{Kind, function_number}
use Rattle.sq_term.specs.Syntax.{TsTree, free, bound, init, pred, action, TermTree, name, fun}
use Rattle.sq_term.specs.Syntax.{macro, schema, diff, le, ts_eq, idx_eq, happens, all, some, find}
use Rattle.sq_term.specs.Syntax.{TermTrees, nil, cons}
use Rattle.sq_term.specs.TreeEquality.{is_same_sort}
use Rattle.sq_term.proofs.BoolTests.{and_split, and_both}
use Rattle.sq_typing.specs.Typing.{Signature, has_sort_at, has_count_at, is_index, are_indices}
use Rattle.sq_typing.specs.Typing.{is_timestamp, applies, result_sort, macro_sort, argument_sort}
use Rattle.sq_typing.specs.Typing.{has_sort, have_sorts}
use Rattle.sq_subst.specs.Leaves.{Leaves, on_side, ts_below, map_ts, term_below, map_term}
use Rattle.sq_subst.specs.Leaves.{map_terms}

-- the symbols of a signature, with other schema variables and other variables
abbrev pub with_variables : Signature → ℕ → List Sort → Signature
with_variables g n vars =
    record { names = g.names; funs = g.funs; actions = g.actions; schemas = n; vars = vars }

-- nothing is put in
pub no_some : {A B : Type 0} (u : A) → None ≡ Some u → B
no_some u e = absurd (let f : None ≡ Some u = e in cc)

pub both_kept : (a b c d : Bool) → (a ≡ true → c ≡ true) → (b ≡ true → d ≡ true) → (a && b) ≡ true
    → (c && d) ≡ true
both_kept a b c d f k e = let p = and_split a b e in and_both c d (f p.0) (k p.1)

pub application_kept : (g h : Signature) (s : Sort) (i n i' n' : ℕ) (o : Option FunDecl)
    (a b c d : Bool) → i' ≡ i → n' ≡ n → (a ≡ true → c ≡ true) → (b ≡ true → d ≡ true)
    → (is_same_sort (result_sort o) s && (applies o i n && (a && b))) ≡ true
    → (is_same_sort (result_sort o) s && (applies o i' n' && (c && d))) ≡ true
application_kept g h s i n i' n' (Some x) a b c d ei en f k e =
    let p = and_split (is_same_sort x.result s) _ e in
    let q = and_split (applies (Some x) i n) (a && b) p.1 in
    let same : applies (Some x) i' n' ≡ applies (Some x) i n =
    λ t. applies (Some x) (ei t) (en t) in
    and_both (is_same_sort x.result s) _ p.0
    (and_both (applies (Some x) i' n') (c && d) (same ∙ q.0) (both_kept a b c d f k q.1))
application_kept g h s i n i' n' None a b c d ei en f k e =
    let q = and_split (applies None i n) (a && b) (and_split (is_same_sort Index s) _ e).1 in
    let z : false ≡ true = q.0 in absurd (cc)

-- R m bs cs: below m binders the sorts bs become cs
module _ (L : Leaves) (g : Signature) (n : ℕ) (vars : List Sort)
    (R : ℕ → List Sort → List Sort → Type 0)
    (pushed : (m : ℕ) (bs cs : List Sort) (b : Sort) → R m bs cs → R (m + 1) (b ∷ bs) (b ∷ cs))
    (index : (m : ℕ) (bs cs : List Sort) (i : Idx) → R m bs cs → is_index g bs i ≡ true
    → is_index (with_variables g n vars) cs (L.index m i) ≡ true)
    (free_time : (m k : ℕ) (bs cs : List Sort) → R m bs cs → has_sort_at g.vars k Timestamp ≡ true
    → is_timestamp (with_variables g n vars) cs (L.free_time m k) ≡ true)
    (bound_time : (m k : ℕ) (bs cs : List Sort) → R m bs cs → has_sort_at bs k Timestamp ≡ true
    → is_timestamp (with_variables g n vars) cs (L.bound_time m k) ≡ true)
    (message : (m k : ℕ) (bs cs : List Sort) → R m bs cs → nat_lt k g.schemas ≡ true
    → has_sort (with_variables g n vars) cs Message (L.message m k) ≡ true)
    (time : (m : ℕ) (bs cs : List Sort) (t u : TsTree) → R m bs cs → is_timestamp g bs t ≡ true
    → L.time t ≡ Some u → is_timestamp (with_variables g n vars) cs u ≡ true)
    (term : (m : ℕ) (bs cs : List Sort) (s : Sort) (t u : TermTree) → R m bs cs
    → has_sort g bs s t ≡ true → L.term t ≡ Some u
    → has_sort (with_variables g n vars) cs s u ≡ true) where
  abbrev h : Signature
  h = with_variables g n vars

  many_pushed : (c m : ℕ) (bs cs : List Sort) → R m bs cs
      → R (m + c) (replicate c Index ++ bs) (replicate c Index ++ cs)
  many_pushed zero m bs cs r = let e : m ≡ m + 0 = omega arith in subst (λ k. R k bs cs) e r
  many_pushed (suc c) m bs cs r =
      let e : (m + c) + 1 ≡ m + suc c = omega arith in
      subst (λ k. R k (Index ∷ (replicate c Index ++ bs)) (Index ∷ (replicate c Index ++ cs))) e
      (pushed (m + c) (replicate c Index ++ bs) (replicate c Index ++ cs) Index
      (many_pushed c m bs cs r))

  indices_kept : (is : List Idx) (m : ℕ) (bs cs : List Sort) → R m bs cs
      → are_indices g bs is ≡ true → are_indices h cs (map (L.index m) is) ≡ true
  indices_kept [] m bs cs r e = refl
  indices_kept (i ∷ is) m bs cs r e =
      both_kept (is_index g bs i) (are_indices g bs is) (is_index h cs (L.index m i)) _
      (index m bs cs i r) (indices_kept is m bs cs r) e

  counted : (counts : List ℕ) (k m : ℕ) (is : List Idx) → has_count_at counts k (length is) ≡ true
      → has_count_at counts k (length (map (L.index m) is)) ≡ true
  counted counts k m is e = ap (has_count_at counts k) (length-map is (L.index m)) ∙ e

  -- what is put in the place of a timestamp, and what stands below where nothing is
  time_put : (m : ℕ) (bs cs : List Sort) (t : TsTree) (o : Option TsTree) → R m bs cs
      → is_timestamp g bs t ≡ true → L.time t ≡ o → is_timestamp h cs (ts_below L m t) ≡ true
      → is_timestamp h cs (unwrap_or o (ts_below L m t)) ≡ true
  time_put m bs cs t (Some u) r e p k = time m bs cs t u r e p
  time_put m bs cs t None r e p k = k

  ts_below_kept : (t : TsTree) (m : ℕ) (bs cs : List Sort) → R m bs cs → is_timestamp g bs t ≡ true
      → is_timestamp h cs (ts_below L m t) ≡ true
  ts_below_kept (free k) m bs cs r e = free_time m k bs cs r e
  ts_below_kept (bound k) m bs cs r e = bound_time m k bs cs r e
  ts_below_kept init m bs cs r e = refl
  ts_below_kept (pred t) m bs cs r e =
      time_put m bs cs t (L.time t) r e refl (ts_below_kept t m bs cs r e)
  ts_below_kept (action a is) m bs cs r e =
      both_kept (has_count_at g.actions a (length is)) (are_indices g bs is)
      (has_count_at g.actions a (length (map (L.index m) is))) _ (counted g.actions a m is)
      (indices_kept is m bs cs r) e

  pub time_kept : (t : TsTree) (m : ℕ) (bs cs : List Sort) → R m bs cs → is_timestamp g bs t ≡ true
      → is_timestamp h cs (map_ts L m t) ≡ true
  time_kept t m bs cs r e = time_put m bs cs t (L.time t) r e refl (ts_below_kept t m bs cs r e)

  count_kept : (ts : TermTrees) (m : ℕ) → count_terms (map_terms L m ts) ≡ count_terms ts
  count_kept nil m = refl
  count_kept (cons t ts) m = ap suc (count_kept ts m)

  schema_kept : (s : Sort) (k m : ℕ) (bs cs : List Sort) → R m bs cs
      → (is_same_sort Message s && nat_lt k g.schemas) ≡ true
      → has_sort h cs s (L.message m k) ≡ true
  schema_kept Message k m bs cs r e = message m k bs cs r e
  schema_kept Boolean k m bs cs r e = let z : false ≡ true = e in absurd (cc)
  schema_kept Index k m bs cs r e = let z : false ≡ true = e in absurd (cc)
  schema_kept Timestamp k m bs cs r e = let z : false ≡ true = e in absurd (cc)

  -- what is put in the place of a term, and what stands below where nothing is
  term_put : (m : ℕ) (bs cs : List Sort) (s : Sort) (t : TermTree) (o : Option TermTree)
      → R m bs cs → has_sort g bs s t ≡ true → L.term t ≡ o
      → has_sort h cs s (term_below L m t) ≡ true
      → has_sort h cs s (unwrap_or o (term_below L m t)) ≡ true
  term_put m bs cs s t (Some u) r e p k = term m bs cs s t u r e p
  term_put m bs cs s t None r e p k = k

  whole : (t : TermTree) (m : ℕ) (bs cs : List Sort) (s : Sort) → R m bs cs
      → has_sort g bs s t ≡ true → has_sort h cs s (term_below L m t) ≡ true
      → has_sort h cs s (map_term L m t) ≡ true
  whole t m bs cs s r e k = term_put m bs cs s t (L.term t) r e refl k

  side_kept : (o : Side) (s : Sort) (cs : List Sort) (x y : TermTree) → has_sort h cs s x ≡ true
      → has_sort h cs s y ≡ true → has_sort h cs s (on_side o x y) ≡ true
  side_kept Left s cs x y e f = e
  side_kept Right s cs x y e f = f
  side_kept Both s cs x y e f = and_both (has_sort h cs s x) (has_sort h cs s y) e f

  mutual
    below_kept : (t : TermTree) (m : ℕ) (bs cs : List Sort) (s : Sort) → R m bs cs
        → has_sort g bs s t ≡ true → has_sort h cs s (term_below L m t) ≡ true
    below_kept (name k is) m bs cs s r e =
        both_kept (is_same_sort Message s) _ (is_same_sort Message s) _ (λ q. q)
        (both_kept (has_count_at g.names k (length is)) (are_indices g bs is)
        (has_count_at g.names k (length (map (L.index m) is))) _ (counted g.names k m is)
        (indices_kept is m bs cs r)) e
    below_kept (fun f is ts) m bs cs s r e =
        application_kept g h s (length is) (count_terms ts) (length (map (L.index m) is))
        (count_terms (map_terms L m ts)) (slice_get g.funs (function_number f))
        (are_indices g bs is) (have_sorts g bs f 0 ts) (are_indices h cs (map (L.index m) is))
        (have_sorts h cs f 0 (map_terms L m ts))
        (length-map is (L.index m)) (count_kept ts m) (indices_kept is m bs cs r)
        (sorts_kept ts m bs cs f 0 r) e
    below_kept (macro x t) m bs cs s r e =
        both_kept (is_same_sort (macro_sort x) s) (is_timestamp g bs t)
        (is_same_sort (macro_sort x) s) _ (λ q. q) (time_kept t m bs cs r) e
    below_kept (schema k) m bs cs s r e = schema_kept s k m bs cs r e
    below_kept (diff a b) m bs cs s r e =
        let p = and_split (has_sort g bs s a) (has_sort g bs s b) e in
        side_kept L.side s cs (map_term L m a) (map_term L m b)
        (whole a m bs cs s r p.0 (below_kept a m bs cs s r p.0))
        (whole b m bs cs s r p.1 (below_kept b m bs cs s r p.1))
    below_kept (le t u) m bs cs s r e =
        both_kept (is_same_sort Boolean s) _ (is_same_sort Boolean s) _ (λ q. q)
        (both_kept (is_timestamp g bs t) (is_timestamp g bs u) (is_timestamp h cs (map_ts L m t)) _
        (time_kept t m bs cs r) (time_kept u m bs cs r)) e
    below_kept (ts_eq t u) m bs cs s r e =
        both_kept (is_same_sort Boolean s) _ (is_same_sort Boolean s) _ (λ q. q)
        (both_kept (is_timestamp g bs t) (is_timestamp g bs u) (is_timestamp h cs (map_ts L m t)) _
        (time_kept t m bs cs r) (time_kept u m bs cs r)) e
    below_kept (idx_eq i j) m bs cs s r e =
        both_kept (is_same_sort Boolean s) _ (is_same_sort Boolean s) _ (λ q. q)
        (both_kept (is_index g bs i) (is_index g bs j) (is_index h cs (L.index m i)) _
        (index m bs cs i r) (index m bs cs j r)) e
    below_kept (happens t) m bs cs s r e =
        both_kept (is_same_sort Boolean s) (is_timestamp g bs t) (is_same_sort Boolean s) _ (λ q. q)
        (time_kept t m bs cs r) e
    below_kept (all b t) m bs cs s r e =
        both_kept (is_same_sort Boolean s) _ (is_same_sort Boolean s) _ (λ q. q)
        (both_kept (is_binder_sort b) (has_sort g (b ∷ bs) Boolean t) (is_binder_sort b) _ (λ q. q)
        (λ q. whole t (m + 1) (b ∷ bs) (b ∷ cs) Boolean (pushed m bs cs b r) q
        (below_kept t (m + 1) (b ∷ bs) (b ∷ cs) Boolean (pushed m bs cs b r) q))) e
    below_kept (some b t) m bs cs s r e =
        both_kept (is_same_sort Boolean s) _ (is_same_sort Boolean s) _ (λ q. q)
        (both_kept (is_binder_sort b) (has_sort g (b ∷ bs) Boolean t) (is_binder_sort b) _ (λ q. q)
        (λ q. whole t (m + 1) (b ∷ bs) (b ∷ cs) Boolean (pushed m bs cs b r) q
        (below_kept t (m + 1) (b ∷ bs) (b ∷ cs) Boolean (pushed m bs cs b r) q))) e
    below_kept (find c t a b) m bs cs s r e =
        let inner : R (m + c) (replicate c Index ++ bs) (replicate c Index ++ cs) =
        many_pushed c m bs cs r in
        both_kept (is_same_sort Message s) _ (is_same_sort Message s) _ (λ q. q)
        (both_kept (has_sort g (replicate c Index ++ bs) Boolean t) _
        (has_sort h (replicate c Index ++ cs) Boolean (map_term L (m + c) t)) _
        (λ q. whole t (m + c) (replicate c Index ++ bs) (replicate c Index ++ cs) Boolean inner q
        (below_kept t (m + c) (replicate c Index ++ bs) (replicate c Index ++ cs) Boolean inner q))
        (both_kept (has_sort g (replicate c Index ++ bs) Message a) (has_sort g bs Message b)
        (has_sort h (replicate c Index ++ cs) Message (map_term L (m + c) a)) _
        (λ q. whole a (m + c) (replicate c Index ++ bs) (replicate c Index ++ cs) Message inner q
        (below_kept a (m + c) (replicate c Index ++ bs) (replicate c Index ++ cs) Message inner q))
        (λ q. whole b m bs cs Message r q
        (below_kept b m bs cs Message r q)))) e

    sorts_kept : (ts : TermTrees) (m : ℕ) (bs cs : List Sort) (f : Kind) (k : ℕ) → R m bs cs
        → have_sorts g bs f k ts ≡ true → have_sorts h cs f k (map_terms L m ts) ≡ true
    sorts_kept nil m bs cs f k r e = refl
    sorts_kept (cons t ts) m bs cs f k r e =
        both_kept (has_sort g bs (argument_sort f k) t) (have_sorts g bs f (suc k) ts)
        (has_sort h cs (argument_sort f k) (map_term L m t)) _
        (λ q. whole t m bs cs (argument_sort f k) r q
        (below_kept t m bs cs (argument_sort f k) r q)) (sorts_kept ts m bs cs f (suc k) r) e

  pub sort_kept : (t : TermTree) (m : ℕ) (bs cs : List Sort) (s : Sort) → R m bs cs
      → has_sort g bs s t ≡ true → has_sort h cs s (map_term L m t) ≡ true
  sort_kept t m bs cs s r e = whole t m bs cs s r e (below_kept t m bs cs s r e)
