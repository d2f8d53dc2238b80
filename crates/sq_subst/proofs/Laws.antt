-- The laws of the substitutions, each an instance of the law of leaves or an induction of its own.
use Rattle.std.proofs.Common.{◌≡◌, refl, sym, ap, ◌∙◌, subst, ℕ, zero, suc, ◌+◌, ◌-◌, ◌<◌, ◌≤◌}
use Rattle.std.proofs.Common.{List, [], ◌∷◌, length, map, get_or, Bool, true, false}
use Rattle.std.proofs.Common.{◌&&◌, not, nat_lt, nat_le, nat_eq, Option, Some, None}
use Rattle.std.proofs.Common.{slice_get, unwrap_or, arith}
use Rattle.std.specs.Prelude.{if◌then◌else◌}
use Rattle.std.proofs.lemmas.Bool.Decides.{nat_tests, Decides-eqb, Decides-ltb}
use Rattle.sq_term.specs.declared.term.Idx.{Idx}
use Rattle.sq_term.specs.declared.term.Idx.TheVariants.{Free, Bound}
use Rattle.sq_term.specs.declared.term.Side.{Side}
use Rattle.sq_term.specs.declared.model.Value.{Value}
use Rattle.sq_term.specs.declared.model.Value.TheVariants.{Time as Moment}
use Rattle.sq_term.specs.Arguments.{ArgTree, an_index, a_time}
use Rattle.sq_term.specs.Closed.{idx_closed, ts_closed, is_closed}
use Rattle.sq_term.specs.Syntax.{TsTree, free, bound, TermTree, schema}
use Rattle.sq_term.specs.TsEquality.{is_same_idx, is_same_idx-decides, is_same_ts_tree}
use Rattle.sq_term.specs.TsEquality.{is_same_ts_tree-decides}
use Rattle.sq_term.specs.Ground.{Ground}
use Rattle.sq_term.specs.Translate.{World, Assignment, number_of, time_of}
use Rattle.sq_term.specs.Translate.{idx_value}
use Rattle.sq_term.specs.Translate.{ts_value, translate}
use Rattle.sq_subst.specs.Leaves.{Leaves, keeping, map_ts}
use Rattle.sq_subst.specs.Tests.{passes}
use Rattle.sq_subst.specs.Substitution.{index_or, time_or, past, put_index, substitution, opened}
use Rattle.sq_subst.specs.Substitution.{instance_of}
use Rattle.sq_subst.specs.Renaming.{closing, close_index, exchanging, closed_over, idx_replaced}
use Rattle.sq_subst.specs.Replacement.{exchanging_times, ts_replaced}
use Rattle.sq_subst.specs.Projection.{projecting, projected}
use Rattle.sq_subst.specs.Laws.{arg_value, arg_closed, args_closed, terms_closed, is_read_on}
use Rattle.sq_subst.specs.Laws.{is_other_idx, at_no_time, at_no_index, takes_index, takes_time}
use Rattle.sq_subst.specs.Laws.{idx_takes, reached, instance_values}
use Rattle.sq_subst.proofs.LeavesLaw.{first_of_both, second_of_both, ts_law, leaves_law}
use Rattle.sq_subst.proofs.TestLaws.{closed_tests, no_tests, both_tests, ts_closed-passes}
use Rattle.sq_subst.proofs.TestLaws.{is_closed-passes, passes_both, passes_none}
use Rattle.sq_subst.proofs.Fusion.{compose, fused, ts_kept, kept}

abbrev nothing : Value
nothing = Moment None

no_some : {A B : Type 0} (u : A) → None ≡ Some u → B
no_some u e = absurd (let f : None ≡ Some u = e in cc)

-- ---- a term without loose bound variables means the same under any binders

-- the first m values are the same
abbrev AgreeBelow : ℕ → List Value → List Value → Type 0
AgreeBelow m bs cs = (k : ℕ) → k < m → get_or bs k nothing ≡ get_or cs k nothing

agree_pushed : (m : ℕ) (bs cs : List Value) (x : Value) → AgreeBelow m bs cs
    → AgreeBelow (m + 1) (x ∷ bs) (x ∷ cs)
agree_pushed m bs cs x h zero l = refl
agree_pushed m bs cs x h (suc k) l = h k (omega arith)

module _ (w : World) (a : Assignment) where
  closed_idx_law : (m : ℕ) (bs cs : List Value) (i : Idx) → AgreeBelow m bs cs
      → idx_closed m i ≡ true → idx_value a bs i ≡ idx_value a cs i
  closed_idx_law m bs cs (Free k) h e = refl
  closed_idx_law m bs cs (Bound k) h e = let l : k < m =
      grind (arith, nat_tests) in ap number_of (h k l)

  closed_time_law : (m : ℕ) (bs cs : List Value) (k : ℕ) → AgreeBelow m bs cs → nat_lt k m ≡ true
      → time_of (get_or bs k nothing) ≡ time_of (get_or cs k nothing)
  closed_time_law m bs cs k h e = let l : k < m = grind (arith, nat_tests) in ap time_of (h k l)

  none_below : (bs cs : List Value) → AgreeBelow 0 bs cs
  none_below bs cs k l = absurd (omega arith)

  pub free_idx : (bs cs : List Value) (i : Idx) → idx_closed 0 i ≡ true
      → idx_value a bs i ≡ idx_value a cs i
  free_idx bs cs i e = closed_idx_law 0 bs cs i (none_below bs cs) e

  pub free_ts : (bs cs : List Value) (t : TsTree) → ts_closed 0 t ≡ true
      → ts_value w.times a bs t ≡ ts_value w.times a cs t
  free_ts bs cs t e =
      ts_law keeping closed_tests w a a AgreeBelow agree_pushed closed_idx_law
      (λ m bs cs k r h. refl) closed_time_law (λ m bs cs k r h. refl)
      (λ m bs cs t u r h e. no_some u e) (λ m bs cs t u r h e. no_some u e) refl
      0 bs cs t
      (none_below bs cs) (ts_closed-passes 0 t e)
      ∙ ap (ts_value w.times a cs)
      (ts_kept keeping closed_tests (λ m i h. refl) (λ m k h. refl) (λ m k h. refl)
      (λ t. refl) 0 t (ts_closed-passes 0 t e))

  pub free_term : (bs cs : List Value) (t : TermTree) → is_closed 0 t ≡ true
      → translate w a bs t ≡ translate w a cs t
  free_term bs cs t e =
      leaves_law keeping closed_tests w a a AgreeBelow agree_pushed closed_idx_law
      (λ m bs cs k r h. refl) closed_time_law (λ m bs cs k r h. refl)
      (λ m bs cs t u r h e. no_some u e) (λ m bs cs t u r h e. no_some u e) refl
      t 0 bs cs
      (none_below bs cs) (is_closed-passes 0 t e)
      ∙ ap (translate w a cs)
      (kept keeping closed_tests (λ m i h. refl) (λ m k h. refl) (λ m k h. refl)
      (λ m k h. refl) 0 t (is_closed-passes 0 t e))

-- ---- the body opened

-- bs are the values cs of the binders within, and then v
pub record Ends (v : Value) (m : ℕ) (bs cs : List Value) : Type 0 where
  pub below : (k : ℕ) → k < m → get_or bs k nothing ≡ get_or cs k nothing
  pub there : get_or bs m nothing ≡ v
  pub above : (k : ℕ) → m < k → get_or bs k nothing ≡ nothing
  pub past_end : (k : ℕ) → m ≤ k → get_or cs k nothing ≡ nothing

above_pushed : (m : ℕ) (bs : List Value) (x : Value)
    → ((k : ℕ) → m < k → get_or bs k nothing ≡ nothing) → (k : ℕ) → m + 1 < k
    → get_or (x ∷ bs) k nothing ≡ nothing
above_pushed m bs x h zero l = absurd (omega arith)
above_pushed m bs x h (suc k) l = h k (omega arith)

past_pushed : (m : ℕ) (cs : List Value) (x : Value)
    → ((k : ℕ) → m ≤ k → get_or cs k nothing ≡ nothing) → (k : ℕ) → m + 1 ≤ k
    → get_or (x ∷ cs) k nothing ≡ nothing
past_pushed m cs x h zero l = absurd (omega arith)
past_pushed m cs x h (suc k) l = h k (omega arith)

ends_pushed : (v : Value) (m : ℕ) (bs cs : List Value) (x : Value) → Ends v m bs cs
    → Ends v (m + 1) (x ∷ bs) (x ∷ cs)
ends_pushed v m bs cs x h =
    let e : m + 1 ≡ suc m = omega arith in
    record {
      below = agree_pushed m bs cs x h.below;
      there = subst (λ n. get_or (x ∷ bs) n nothing ≡ v) (sym e) h.there;
      above = above_pushed m bs x h.above;
      past_end = past_pushed m cs x h.past_end;
    }

above_first : (v : Value) (k : ℕ) → 0 < k → get_or (v ∷ []) k nothing ≡ nothing
above_first v zero l = absurd (omega arith)
above_first v (suc k) l = refl

ends_first : (v : Value) → Ends v 0 (v ∷ []) []
ends_first v =
    record {
      below = λ k l. absurd (omega arith);
      there = refl;
      above = above_first v;
      past_end =
          λ k l. refl;
    }

module _ (w : World) (a : Assignment) where
  index_here : (arg : ArgTree) → arg_closed arg ≡ true → (m k : ℕ) (bs cs : List Value)
      → Ends (arg_value w.times a arg) m bs cs → k ≡ m
      → number_of (get_or bs k nothing) ≡ idx_value a cs (index_or (Some arg) (Bound k))
  index_here (an_index i) e m k bs cs h q = ap (λ n. number_of (get_or bs n nothing)) q
      ∙ (ap number_of h.there ∙ free_idx w a [] cs i e)
  index_here (a_time t) e m k bs cs h q =
      let p : get_or cs k nothing ≡ nothing = h.past_end k (omega arith) in
      ap (λ n. number_of (get_or bs n nothing)) q ∙ (ap number_of h.there ∙ sym (ap number_of p))

  index_case : (arg : ArgTree) → arg_closed arg ≡ true → (m k : ℕ) (bs cs : List Value)
      → Ends (arg_value w.times a arg) m bs cs → (b : Bool) → nat_le m k ≡ b → (n : ℕ) → k - m ≡ n
      → number_of (get_or bs k nothing)
      ≡ idx_value a cs (index_or (if b then slice_get (arg ∷ []) n else None) (Bound k))
  index_case arg e m k bs cs h false q n d = let l : k < m =
      grind (arith, nat_tests) in ap number_of (h.below k l)
  index_case arg e m k bs cs h true q zero d = let l : m ≤ k =
      grind (arith, nat_tests) in index_here arg e m k bs cs h (omega arith)
  index_case arg e m k bs cs h true q (suc n) d =
      let l : m < k = omega arith in
      ap number_of (h.above k l) ∙ sym (ap number_of (h.past_end k (omega arith)))

  open_idx_law : (arg : ArgTree) → arg_closed arg ≡ true → (m : ℕ) (bs cs : List Value) (i : Idx)
      → Ends (arg_value w.times a arg) m bs cs
      → idx_value a bs i ≡ idx_value a cs (put_index [] (arg ∷ []) m i)
  open_idx_law arg e m bs cs (Free k) h = refl
  open_idx_law arg e m bs cs (Bound k) h =
      index_case arg e m k bs cs h (nat_le m k) refl (k - m) refl

  time_here : (arg : ArgTree) → arg_closed arg ≡ true → (m k : ℕ) (bs cs : List Value)
      → Ends (arg_value w.times a arg) m bs cs → k ≡ m
      → time_of (get_or bs k nothing) ≡ ts_value w.times a cs (time_or (Some arg) (bound k))
  time_here (an_index i) e m k bs cs h q =
      let p : get_or cs k nothing ≡ nothing = h.past_end k (omega arith) in
      ap (λ n. time_of (get_or bs n nothing)) q ∙ (ap time_of h.there ∙ sym (ap time_of p))
  time_here (a_time t) e m k bs cs h q = ap (λ n. time_of (get_or bs n nothing)) q
      ∙ (ap time_of h.there ∙ free_ts w a [] cs t e)

  time_case : (arg : ArgTree) → arg_closed arg ≡ true → (m k : ℕ) (bs cs : List Value)
      → Ends (arg_value w.times a arg) m bs cs → (b : Bool) → nat_le m k ≡ b → (n : ℕ) → k - m ≡ n
      → time_of (get_or bs k nothing)
      ≡ ts_value w.times a cs (time_or (if b then slice_get (arg ∷ []) n else None) (bound k))
  time_case arg e m k bs cs h false q n d = let l : k < m =
      grind (arith, nat_tests) in ap time_of (h.below k l)
  time_case arg e m k bs cs h true q zero d = let l : m ≤ k =
      grind (arith, nat_tests) in time_here arg e m k bs cs h (omega arith)
  time_case arg e m k bs cs h true q (suc n) d =
      let l : m < k = omega arith in
      ap time_of (h.above k l) ∙ sym (ap time_of (h.past_end k (omega arith)))

  pub open_law : (arg : ArgTree) (body : TermTree) → arg_closed arg ≡ true
      → translate w a [] (opened arg body) ≡ translate w a (arg_value w.times a arg ∷ []) body
  open_law arg body e =
      sym (leaves_law (substitution [] (arg ∷ []) []) no_tests w a a
      (Ends (arg_value w.times a arg)) (ends_pushed (arg_value w.times a arg))
      (λ m bs cs i r h. open_idx_law arg e m bs cs i r)
      (λ m bs cs k r h. refl)
      (λ m bs cs k r h. time_case arg e m k bs cs r (nat_le m k) refl (k - m) refl)
      (λ m bs cs k r h. refl)
      (λ m bs cs t u r h e. no_some u e) (λ m bs cs t u r h e. no_some u e) refl
      body 0 (arg_value w.times a arg ∷ []) [] (ends_first (arg_value w.times a arg))
      (passes_none 0 body))

-- ---- an index or a timestamp for another of the same value

abbrev AreSame : ℕ → List Value → List Value → Type 0
AreSame m bs cs = bs ≡ cs

module _ (w : World) (a : Assignment) where
  exchanged_case : (from to : Idx) → idx_closed 0 from ≡ true → idx_closed 0 to ≡ true
      → idx_value a [] from ≡ idx_value a [] to
      → (bs cs : List Value) (i : Idx) → bs ≡ cs → (b : Bool) → is_same_idx i from ≡ b
      → idx_value a bs i ≡ idx_value a cs (if b then to else i)
  exchanged_case from to e f v bs cs i r true q =
      let is : i ≡ from = (is_same_idx-decides i from).0 q in
      ap (idx_value a bs) is ∙ (free_idx w a bs [] from e ∙ (v ∙ free_idx w a [] cs to f))
  exchanged_case from to e f v bs cs i r false q = ap (λ x. idx_value a x i) r

  pub replace_idx_law : (from to : Idx) → idx_closed 0 from ≡ true → idx_closed 0 to ≡ true
      → idx_value a [] from ≡ idx_value a [] to
      → (bs : List Value) (t : TermTree)
      → translate w a bs (idx_replaced from to t) ≡ translate w a bs t
  replace_idx_law from to e f v bs t =
      sym (leaves_law (exchanging from to) no_tests w a a AreSame
      (λ m bs cs x r. ap (λ xs. x ∷ xs) r)
      (λ m bs cs i r h. exchanged_case from to e f v bs cs i r (is_same_idx i from) refl)
      (λ m bs cs k r h. refl)
      (λ m bs cs k r h. ap (λ xs. time_of (get_or xs k nothing)) r)
      (λ m bs cs k r h. refl)
      (λ m bs cs t u r h e. no_some u e) (λ m bs cs t u r h e. no_some u e) refl
      t 0 bs bs refl (passes_none 0 t))

  exchanged_time : (from to : TsTree) → ts_closed 0 from ≡ true → ts_closed 0 to ≡ true
      → ts_value w.times a [] from ≡ ts_value w.times a [] to
      → (bs cs : List Value) (t u : TsTree) (b : Bool) → is_same_ts_tree t from ≡ b
      → (if b then Some to else None) ≡ Some u
      → ts_value w.times a bs t ≡ ts_value w.times a cs u
  exchanged_time from to e f v bs cs t u true q h =
      let is : t ≡ from = (is_same_ts_tree-decides t from).0 q in
      let new : Some to ≡ Some u = h in
      let there : to ≡ u = cc in
      ap (ts_value w.times a bs) is
      ∙ (free_ts w a bs [] from e
      ∙ (v ∙ (free_ts w a [] cs to f ∙ ap (ts_value w.times a cs) there)))
  exchanged_time from to e f v bs cs t u false q h = no_some u h

  pub replace_ts_law : (from to : TsTree) → ts_closed 0 from ≡ true → ts_closed 0 to ≡ true
      → ts_value w.times a [] from ≡ ts_value w.times a [] to
      → (bs : List Value) (t : TermTree)
      → translate w a bs (ts_replaced from to t) ≡ translate w a bs t
  replace_ts_law from to e f v bs t =
      sym (leaves_law (exchanging_times from to) no_tests w a a AreSame
      (λ m bs cs x r. ap (λ xs. x ∷ xs) r)
      (λ m bs cs i r h. ap (λ xs. idx_value a xs i) r)
      (λ m bs cs k r h. refl)
      (λ m bs cs k r h. ap (λ xs. time_of (get_or xs k nothing)) r)
      (λ m bs cs k r h. refl)
      (λ m bs cs t u r h p. exchanged_time from to e f v bs cs t u (is_same_ts_tree t from) refl p)
      (λ m bs cs t u r h e. no_some u e) refl
      t 0 bs bs refl (passes_none 0 t))

  -- ---- one side

  pub project_law : (bs : List Value) (side : Side) (t : TermTree) → is_read_on side w ≡ true
      → translate w a bs (projected side t) ≡ translate w a bs t
  project_law bs side t e =
      sym (leaves_law (projecting side) no_tests w a a AreSame
      (λ m bs cs x r. ap (λ xs. x ∷ xs) r)
      (λ m bs cs i r h. ap (λ xs. idx_value a xs i) r)
      (λ m bs cs k r h. refl)
      (λ m bs cs k r h. ap (λ xs. time_of (get_or xs k nothing)) r)
      (λ m bs cs k r h. refl)
      (λ m bs cs t u r h e. no_some u e) (λ m bs cs t u r h e. no_some u e) e
      t 0 bs bs refl (passes_none 0 t))

-- ---- all at once

map_at : {A B : Type 0} (f : A → B) (xs : List A) (k : ℕ) (d : B) (v : A) → slice_get xs k ≡ Some v
    → get_or (map f xs) k d ≡ f v
map_at f [] k d v e = cc
map_at f (x ∷ xs) zero d v e = cc
map_at f (x ∷ xs) (suc k) d v e = map_at f xs k d v e

arg_closed_at : (vars : List ArgTree) (k : ℕ) (v : ArgTree) → args_closed vars ≡ true
    → slice_get vars k ≡ Some v → arg_closed v ≡ true
arg_closed_at [] k v h e = cc
arg_closed_at (x ∷ xs) zero v h e = let is : x ≡ v =
    cc in subst (λ y. arg_closed y ≡ true) is (first_of_both _ _ h)
arg_closed_at (x ∷ xs) (suc k) v h e = arg_closed_at xs k v (second_of_both (arg_closed x) _ h) e

module _ (w : World) (a : Assignment) (vars : List ArgTree) (closed : args_closed vars ≡ true) where
  index_at : (cs : List Value) (k : ℕ) (o : Option ArgTree) → slice_get vars k ≡ o
      → takes_index o ≡ true
      → number_of (get_or (map (arg_value w.times a) vars) k nothing)
      ≡ idx_value a cs (index_or o (Free k))
  index_at cs k None e h = cc
  index_at cs k (Some (a_time t)) e h = cc
  index_at cs k (Some (an_index i)) e h =
      ap number_of (map_at (arg_value w.times a) vars k nothing (an_index i) e)
      ∙ free_idx w a [] cs i (arg_closed_at vars k (an_index i) closed e)

  time_at : (cs : List Value) (k : ℕ) (o : Option ArgTree) → slice_get vars k ≡ o
      → takes_time o ≡ true
      → time_of (get_or (map (arg_value w.times a) vars) k nothing)
      ≡ ts_value w.times a cs (time_or o (free k))
  time_at cs k None e h = cc
  time_at cs k (Some (an_index i)) e h = cc
  time_at cs k (Some (a_time t)) e h =
      ap time_of (map_at (arg_value w.times a) vars k nothing (a_time t) e)
      ∙ free_ts w a [] cs t (arg_closed_at vars k (a_time t) closed e)

  no_outer : (b : Bool) (n : ℕ) → (if b then slice_get {X = ArgTree} [] n else None) ≡ None
  no_outer true n = refl
  no_outer false n = refl

  index_leaf : (m : ℕ) (bs cs : List Value) (i : Idx) (schemas : List TermTree) → bs ≡ cs
      → idx_takes vars i ≡ true
      → idx_value (instance_values w a vars schemas) bs i ≡ idx_value a cs (put_index vars [] m i)
  index_leaf m bs cs (Free k) schemas r h = index_at cs k (slice_get vars k) refl h
  index_leaf m bs cs (Bound k) schemas r h =
      ap (λ xs. number_of (get_or xs k nothing)) r
      ∙ sym (ap (λ o. idx_value a cs (index_or o (Bound k))) (no_outer (nat_le m k) (k - m)))

  message_at : (cs : List Value) (ts : List TermTree) (k : ℕ) (d : Ground) (s : TermTree)
      → terms_closed ts ≡ true → nat_lt k (length ts) ≡ true
      → get_or (map (translate w a []) ts) k d ≡ translate w a cs (unwrap_or (slice_get ts k) s)
  message_at cs [] k d s h l = absurd (grind (arith, nat_tests))
  message_at cs (t ∷ ts) zero d s h l = free_term w a [] cs t (first_of_both _ _ h)
  message_at cs (t ∷ ts) (suc k) d s h l =
      let q : suc k < length (t ∷ ts) = (Decides-ltb (suc k) (length (t ∷ ts))).0 l in
      message_at cs ts k d s (second_of_both (is_closed 0 t) _ h)
      ((Decides-ltb k (length ts)).1 (omega arith))

  pub instance_law : (schemas : List TermTree) (t : TermTree) → terms_closed schemas ≡ true
      → passes (reached vars schemas) 0 t ≡ true
      → translate w a [] (instance_of vars schemas t)
      ≡ translate w (instance_values w a vars schemas) [] t
  instance_law schemas t h p =
      sym (leaves_law (substitution vars [] schemas) (reached vars schemas) w
      (instance_values w a vars schemas) a AreSame (λ m bs cs x r. ap (λ xs. x ∷ xs) r)
      (λ m bs cs i r q. index_leaf m bs cs i schemas r q)
      (λ m bs cs k r q. time_at cs k (slice_get vars k) refl q)
      (λ m bs cs k r q. ap (λ xs. time_of (get_or xs k nothing)) r
      ∙ sym (ap (λ o. ts_value w.times a cs (time_or o (bound k)))
      (no_outer (nat_le m k) (k - m))))
      (λ m bs cs k r q. message_at cs schemas k _ (schema k) h q)
      (λ m bs cs t u r h e. no_some u e) (λ m bs cs t u r h e. no_some u e) refl
      t 0 [] [] refl p)

-- ---- a variable closed and opened again

same_number : (k x : ℕ) → nat_eq k x ≡ true → k ≡ x
same_number k x e = (Decides-eqb k x).0 e

opened_again : (m : ℕ) (v : ArgTree) (b : Bool) → nat_le m m ≡ b → (n : ℕ) → m - m ≡ n
    → (if b then slice_get (v ∷ []) n else None) ≡ Some v
opened_again m v true e zero d = refl
opened_again m v true e (suc n) d = absurd (omega arith)
opened_again m v false e n d = absurd (grind (arith, nat_tests))

not_reached : (m k : ℕ) (v : ArgTree) → nat_lt k m ≡ true → (b : Bool) → nat_le m k ≡ b → (n : ℕ)
    → (if b then slice_get (v ∷ []) n else None) ≡ None
not_reached m k v h true e n = absurd (grind (arith, nat_tests))
not_reached m k v h false e n = refl

module _ (x : ℕ) where
  abbrev round : ArgTree → Leaves
  round v = compose (substitution [] (v ∷ []) []) (closing x)

  bound_again : (v : ArgTree) (m k : ℕ) → nat_lt k m ≡ true
      → time_or (past (v ∷ []) m k) (bound k) ≡ bound k
  bound_again v m k h =
      ap (λ o. time_or o (bound k)) (not_reached m k v h (nat_le m k) refl (k - m))

  bound_index_again : (v : ArgTree) (m k : ℕ) → nat_lt k m ≡ true
      → index_or (past (v ∷ []) m k) (Bound k) ≡ Bound k
  bound_index_again v m k h =
      ap (λ o. index_or o (Bound k)) (not_reached m k v h (nat_le m k) refl (k - m))

  free_index_again : (m k : ℕ) (b : Bool) → nat_eq k x ≡ b
      → put_index [] (an_index (Free x) ∷ []) m (if b then Bound m else Free k) ≡ Free k
  free_index_again m k true e =
      ap (λ o. index_or o (Bound m))
      (opened_again m (an_index (Free x)) (nat_le m m) refl (m - m) refl)
      ∙ ap Free (sym (same_number k x e))
  free_index_again m k false e = refl

  other_index : (v : ArgTree) (m k : ℕ) (b : Bool) → not b ≡ true → nat_eq k x ≡ b
      → put_index [] (v ∷ []) m (if b then Bound m else Free k) ≡ Free k
  other_index v m k true n e = cc
  other_index v m k false n e = refl

  free_time_again : (m k : ℕ) (b : Bool) → nat_eq k x ≡ b
      → map_ts (substitution [] (a_time (free x) ∷ []) []) m (if b then bound m else free k)
      ≡ free k
  free_time_again m k true e =
      ap (λ o. time_or o (bound m))
      (opened_again m (a_time (free x)) (nat_le m m) refl (m - m) refl)
      ∙ ap free (sym (same_number k x e))
  free_time_again m k false e = refl

  other_time : (v : ArgTree) (m k : ℕ) (b : Bool) → not b ≡ true → nat_eq k x ≡ b
      → map_ts (substitution [] (v ∷ []) []) m (if b then bound m else free k) ≡ free k
  other_time v m k true n e = cc
  other_time v m k false n e = refl

  index_round : (m : ℕ) (i : Idx) → (idx_closed m i && true) ≡ true
      → put_index [] (an_index (Free x) ∷ []) m (close_index x m i) ≡ i
  index_round m (Free k) h = free_index_again m k (nat_eq k x) refl
  index_round m (Bound k) h = bound_index_again (an_index (Free x)) m k (first_of_both _ true h)

  index_round_time : (m : ℕ) (i : Idx) → (idx_closed m i && is_other_idx x i) ≡ true
      → put_index [] (a_time (free x) ∷ []) m (close_index x m i) ≡ i
  index_round_time m (Free k) h = other_index (a_time (free x)) m k (nat_eq k x) h refl
  index_round_time m (Bound k) h = bound_index_again (a_time (free x)) m k (first_of_both _ true h)

  pub round_index_law : (t : TermTree) → is_closed 0 t ≡ true → passes (at_no_time x) 0 t ≡ true
      → opened (an_index (Free x)) (closed_over x t) ≡ t
  round_index_law t h g =
      fused (substitution [] (an_index (Free x) ∷ []) []) (closing x) 0 t
      ∙ kept (round (an_index (Free x))) (both_tests closed_tests (at_no_time x))
      index_round
      (λ m k p. other_time (an_index (Free x)) m k (nat_eq k x) p refl)
      (λ m k p. bound_again (an_index (Free x)) m k (first_of_both _ true p))
      (λ m k p. refl)
      0 t (passes_both closed_tests (at_no_time x) 0 t (is_closed-passes 0 t h) g)

  pub round_time_law : (t : TermTree) → is_closed 0 t ≡ true → passes (at_no_index x) 0 t ≡ true
      → opened (a_time (free x)) (closed_over x t) ≡ t
  round_time_law t h g =
      fused (substitution [] (a_time (free x) ∷ []) []) (closing x) 0 t
      ∙ kept (round (a_time (free x))) (both_tests closed_tests (at_no_index x))
      index_round_time
      (λ m k p. free_time_again m k (nat_eq k x) refl)
      (λ m k p. bound_again (a_time (free x)) m k (first_of_both _ true p))
      (λ m k p. refl)
      0 t (passes_both closed_tests (at_no_index x) 0 t (is_closed-passes 0 t h) g)
