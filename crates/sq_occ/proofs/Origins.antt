-- Where an entry of a walk comes from: a place in the term itself, whose message is walked too by a
-- walk for any other name; or one macro of the term.
use Rattle.std.proofs.Common.{◌≡◌, refl, sym, subst, ℕ, zero, suc, ◌⊎◌, inl, inr, ⊎_elim, List, []}
use Rattle.std.proofs.Common.{◌∷◌, ◌++◌, Bool, true, false, if◌then◌else◌, ◌&&◌, ◌==◌}
use Rattle.sq_base.specs.declared.sort.Sort.{Sort}
use Rattle.sq_base.specs.declared.sort.Sort.TheVariants.{Index}
use Rattle.sq_term.specs.declared.model.Value.{Value}
use Rattle.sq_term.specs.declared.signature.FunDecl.{FunDecl}
use Rattle.sq_term.specs.declared.signature.FunRole.{FunRole}
use Rattle.sq_term.specs.declared.signature.FunRole.TheVariants.{Hash, Sign}
use Rattle.sq_term.specs.declared.term.Idx.{Idx}
use Rattle.sq_term.specs.declared.term.Macro.{Macro}
use Rattle.sq_term.specs.Lists.{Member, here, there, Each}
use Rattle.sq_term.specs.Signatures.{function_role, is_hash, is_keyed, is_pk, is_equality}
use Rattle.sq_term.specs.Symbols.{Kind}
use Rattle.sq_term.specs.Syntax.{TsTree, TermTree, name, fun, macro, schema, diff, le, ts_eq}
use Rattle.sq_term.specs.Syntax.{idx_eq, happens, all, some, find, TermTrees, nil, cons}
use Rattle.sq_term.specs.Translate.{Times, domain, choices}
use Rattle.sq_term.proofs.Members.{member-append_left, member-append_right, member-flat_map}
use Rattle.sq_term.proofs.Members.{each_none}
use Rattle.sq_ground.specs.Holding.{Fits}
use Rattle.sq_occ.specs.Entries.{RoleTree, bare, public, key, OccTree, place, with_indices}
use Rattle.sq_occ.specs.Walks.{is_name, name_args, is_keyed_by, is_only_name, first_term}
use Rattle.sq_occ.specs.Walks.{first_args, second_args, walk, walk_first, walk_all}
use Rattle.sq_occ.specs.Reads.{AtPlaces, AllAtPlaces}
use Rattle.sq_occ.proofs.Roles.{no_truth, name_is, keyed_not_equality, member-append_from}
use Rattle.sq_occ.proofs.Roles.{member-only}

-- values that fit the binders of a find are one of its choices
fits-choice : (w : Times) (c : ℕ) (b : List Sort) (fs : List Value) → Fits w (with_indices c b) fs
    → (es : List Value) × Fits w b es × Member (choices w c es) fs
fits-choice w zero b fs h = (fs, h, here)
fits-choice w (suc c) b fs h = outer (fits-choice w c (Index ∷ b) fs h)
  where
    outer : (es : List Value) × Fits w (Index ∷ b) es × Member (choices w c es) fs
        → (es : List Value) × Fits w b es × Member (choices w (suc c) es) fs
    outer ([], f, i) = absurd f
    outer (x ∷ es, f, i) =
        (es, f.1, member-flat_map (λ y. choices w c (y ∷ es)) (domain w Index) x fs f.0 i)

keyed_not_pk : (role : FunRole) → is_keyed role ≡ true → is_pk role ≡ false
keyed_not_pk Hash e = refl
keyed_not_pk Sign e = refl
keyed_not_pk _ e = absurd (no_truth e)

-- the walks for two names over one term
module _ (funs : List FunDecl) (k n : ℕ) (Mk Mn : List Sort → Macro → TsTree → List OccTree)
    (w : Times) (P : List Value → Macro → TsTree → Type 0) (S : ℕ → Type 0) where
  abbrev pub for_key : List Sort → Bool → TermTree → List OccTree
  for_key = walk funs k Mk (λ b i. [])

  abbrev pub for_name : List Sort → Bool → TermTree → List OccTree
  for_name = walk funs n Mn (λ b i. [])

  -- the walk for the other name through the message of a role
  abbrev pub inner : List Sort → RoleTree → List OccTree
  inner b bare = []
  inner b public = []
  inner b (key f m test) = for_name b false m

  abbrev pub RoleAt : List Value → RoleTree → Type 0
  RoleAt es bare = Unit {0}
  RoleAt es public = Unit {0}
  RoleAt es (key f m test) = AtPlaces w P S es m

  abbrev pub Origin : List OccTree → OccTree → Type 0
  Origin vs u =
      (Each (Member vs) (inner u.bound u.role)
      × ((es : List Value) → Fits w u.bound es → RoleAt es u.role))
      ⊎ ((b : List Sort) × (m : Macro) × (t : TsTree) × Member (Mk b m t) u
      × Each (Member vs) (Mn b m t))

  origin_more : (vs ws : List OccTree) (u : OccTree) → Each (Member ws) vs → Origin vs u
      → Origin ws u
  origin_more vs ws u sub (inl h) = inl ((λ x i. sub x (h.0 x i)), h.1)
  origin_more vs ws u sub (inr (b, m, t, i, h)) = inr (b, m, t, i, λ x j. sub x (h x j))

  abbrev Around : List Sort → TermTree → Type 0
  Around b x = (es : List Value) → Fits w b es → AtPlaces w P S es x

  abbrev AllAround : List Sort → TermTrees → Type 0
  AllAround b ts = (es : List Value) → Fits w b es → AllAtPlaces w P S es ts

  bare_origin : (c : Bool) (is : List Idx) (b : List Sort) (vs : List OccTree) (u : OccTree)
      → Member (if c then place k is bare b ∷ [] else []) u → Origin vs u
  bare_origin true is b vs u here = inl (each_none (Member vs), λ es f. tt)
  bare_origin true is b vs u (there i) = elim i [ ]
  bare_origin false is b vs u i = elim i [ ]

  -- a name has a bare place alone
  name_origin : (x : TermTree) (b : List Sort) (s : Bool) (vs : List OccTree) (u : OccTree)
      → is_name n x ≡ true → Member (for_key b s x) u → Origin vs u
  name_origin x b s vs u e i =
      bare_origin (n == k) (name_args x) b vs u
      (subst (λ y. Member (for_key b s y) u) (name_is n x e) i)

  public_origin : (is : List Idx) (b : List Sort) (vs : List OccTree) (u : OccTree)
      → Member (place k is public b ∷ []) u → Origin vs u
  public_origin is b vs u here = inl (each_none (Member vs), λ es f. tt)
  public_origin is b vs u (there i) = elim i [ ]

  -- below a key the other walk goes through the first argument
  module _ (f : Kind) (is : List Idx) (b : List Sort) (s : Bool) where
    abbrev whole : TermTrees → List OccTree
    whole ts = for_name b s (fun f is ts)

    first_included : (ts : TermTrees) → is_keyed (function_role funs f) ≡ true
        → Each (Member (whole ts)) (walk_first funs n Mn (λ b i. []) b ts)
    first_included nil e x i = elim i [ ]
    first_included (cons m ts) e x i =
        at (is_keyed (function_role funs f) && is_keyed_by n (cons m ts))
      where
        at : (c : Bool)
            → Member (if c then place n (second_args (cons m ts))
            (key f m (s && is_hash (function_role funs f))) b ∷ for_name b false m
            else (if is_pk (function_role funs f) && is_only_name n (cons m ts)
            then place n (first_args (cons m ts)) public b ∷ []
            else walk_all funs n Mn (λ b i. []) b (is_equality f) (cons m ts))) x
        at true = there i
        at false =
            subst (λ c. Member (if c && is_only_name n (cons m ts)
            then place n (first_args (cons m ts)) public b ∷ []
            else walk_all funs n Mn (λ b i. []) b (is_equality f) (cons m ts)) x)
            (sym (keyed_not_pk (function_role funs f) e))
            (member-append_left (for_name b (is_equality f) m) _ x
            (subst (λ c. Member (for_name b c m) x) (sym (keyed_not_equality funs f e)) i))

    first_term_included : (ts : TermTrees) → is_keyed (function_role funs f) ≡ true
        → is_keyed_by k ts ≡ true → Each (Member (whole ts)) (for_name b false (first_term ts))
    first_term_included nil e g = absurd (no_truth g)
    first_term_included (cons m ts) e g = first_included (cons m ts) e

    both_true : (p q : Bool) → (p && q) ≡ true → (p ≡ true) × (q ≡ true)
    both_true true q h = (refl, h)
    both_true false q h = absurd (no_truth h)

    -- one argument, and two, where the walk for the key goes through all of them
    one_origin : (c d : Bool) (x : TermTree) (u : OccTree) → is_name n x ≡ d
        → (Member (for_key b (is_equality f) x) u → Origin (for_name b (is_equality f) x) u)
        → Member (for_key b (is_equality f) x ++ []) u
        → Origin (if c && d then place n (name_args x) public b ∷ []
        else (for_name b (is_equality f) x ++ [])) u
    one_origin true true x u e ih i =
        name_origin x b (is_equality f) _ u e (member-only (for_key b (is_equality f) x) u i)
    one_origin true false x u e ih i =
        origin_more _ _ u (λ y j. member-append_left _ [] y j)
        (ih (member-only (for_key b (is_equality f) x) u i))
    one_origin false d x u e ih i =
        origin_more _ _ u (λ y j. member-append_left _ [] y j)
        (ih (member-only (for_key b (is_equality f) x) u i))

    general_two : (m x : TermTree) (u : OccTree)
        → (Member (for_key b (is_equality f) m) u → Origin (for_name b (is_equality f) m) u)
        → (Member (for_key b (is_equality f) x) u → Origin (for_name b (is_equality f) x) u)
        → Member (for_key b (is_equality f) m ++ (for_key b (is_equality f) x ++ [])) u
        → Origin (for_name b (is_equality f) m ++ (for_name b (is_equality f) x ++ [])) u
    general_two m x u hm hx i =
        ⊎_elim (λ j. origin_more _ _ u (λ y l. member-append_left _ _ y l) (hm j))
        (λ j. origin_more _ _ u
        (λ y l. member-append_right (for_name b (is_equality f) m) _ y
        (member-append_left _ [] y l))
        (hx (member-only (for_key b (is_equality f) x) u j)))
        (member-append_from (for_key b (is_equality f) m) _ u i)

    two_origin : (c d : Bool) (role : RoleTree) (m x : TermTree) (u : OccTree)
        → is_keyed (function_role funs f) ≡ c → is_name n x ≡ d
        → (Member (for_key b (is_equality f) m) u → Origin (for_name b (is_equality f) m) u)
        → (Member (for_key b (is_equality f) x) u → Origin (for_name b (is_equality f) x) u)
        → Member (for_key b (is_equality f) m ++ (for_key b (is_equality f) x ++ [])) u
        → Origin (if c && d then place n (name_args x) role b ∷ for_name b false m
        else (for_name b (is_equality f) m ++ (for_name b (is_equality f) x ++ []))) u
    two_origin true true role m x u ec ed hm hx i =
        ⊎_elim
        (λ j. origin_more _ _ u
        (λ y l. there (subst (λ e. Member (for_name b e m) y) (keyed_not_equality funs f ec) l))
        (hm j))
        (λ j. name_origin x b (is_equality f) _ u ed
        (member-only (for_key b (is_equality f) x) u j))
        (member-append_from (for_key b (is_equality f) m) _ u i)
    two_origin true false role m x u ec ed hm hx i = general_two m x u hm hx i
    two_origin false d role m x u ec ed hm hx i = general_two m x u hm hx i

  under : (b : List Sort) (o : Sort) (body : TermTree)
      → ((es : List Value) → Fits w b es → (x : Value) → Member (domain w o) x
      → AtPlaces w P S (x ∷ es) body)
      → Around (o ∷ b) body
  under b o body h [] f = absurd f
  under b o body h (x ∷ es) f = h es f.1 x f.0

  no_key : (c : Bool) (vs ws zs : List OccTree) (u : OccTree)
      → Member (if c && false then vs else ws) u
      → (Member ws u → Origin zs u) → Origin zs u
  no_key true vs ws zs u i h = h i
  no_key false vs ws zs u i h = h i

  no_other : (c d : Bool) (vs ws zs : List OccTree) (u : OccTree) → Origin zs u
      → Origin (if c && false then vs else (if d && false then ws else zs)) u
  no_other true true vs ws zs u h = h
  no_other true false vs ws zs u h = h
  no_other false true vs ws zs u h = h
  no_other false false vs ws zs u h = h

  keyed_at : (f : Kind) (is : List Idx) (b : List Sort) (s s' : Bool) (ts : TermTrees) (u : OccTree)
      (c : Bool) (rest : List OccTree)
      → (is_keyed (function_role funs f) && is_keyed_by k ts) ≡ c → AllAround b ts
      → (Member (walk_first funs k Mk (λ b i. []) b ts) u
      → Origin (walk_first funs n Mn (λ b i. []) b ts) u)
      → (Member rest u → Origin (for_name b s' (fun f is ts)) u)
      → Member (if c then place k (second_args ts)
      (key f (first_term ts) (s && is_hash (function_role funs f))) b
      ∷ walk_first funs k Mk (λ b i. []) b ts else rest) u
      → Origin (for_name b s' (fun f is ts)) u
  keyed_at f is b s s' ts u true rest e h hf hr here =
      let p = both_true f is b s' (is_keyed (function_role funs f)) (is_keyed_by k ts) e in
      inl (first_term_included f is b s' ts p.0 p.1, λ es g. first_at es ts (h es g))
    where
      first_at : (es : List Value) (ts : TermTrees) → AllAtPlaces w P S es ts
          → AtPlaces w P S es (first_term ts)
      first_at es nil h = tt
      first_at es (cons t ts) h = h.0
  keyed_at f is b s s' ts u true rest e h hf hr (there i) =
      let p = both_true f is b s' (is_keyed (function_role funs f)) (is_keyed_by k ts) e in
      origin_more _ _ u (first_included f is b s' ts p.0) (hf i)
  keyed_at f is b s s' ts u false rest e h hf hr i = hr i

  only_at : (c : Bool) (is : List Idx) (b : List Sort) (rest vs : List OccTree) (u : OccTree)
      → (Member rest u → Origin vs u) → Member (if c then place k is public b ∷ [] else rest) u
      → Origin vs u
  only_at true is b rest vs u h i = public_origin is b vs u i
  only_at false is b rest vs u h i = h i

  -- in a row, from what is known of its first term and of the others
  row_origin : (t : TermTree) (ts : TermTrees) (b : List Sort) (s : Bool) (u : OccTree)
      → (Member (for_key b s t) u → Origin (for_name b s t) u)
      → (Member (walk_all funs k Mk (λ b i. []) b s ts) u
      → Origin (walk_all funs n Mn (λ b i. []) b s ts) u)
      → Member (walk_all funs k Mk (λ b i. []) b s (cons t ts)) u
      → Origin (walk_all funs n Mn (λ b i. []) b s (cons t ts)) u
  row_origin t ts b s u one rest i =
      ⊎_elim
      (λ j. origin_more _ _ u (λ z l. member-append_left _ _ z l) (one j))
      (λ j. origin_more _ _ u (λ z l. member-append_right (for_name b s t) _ z l) (rest j))
      (member-append_from (for_key b s t) _ u i)

  mutual
    pub origin : (x : TermTree) (b : List Sort) (s s' : Bool) (u : OccTree) → Around b x
        → Member (for_key b s x) u → Origin (for_name b s' x) u
    origin (name c is) b s s' u h i = bare_origin (c == k) is b _ u i
    origin (fun f is ts) b s s' u h i =
        keyed_at f is b s s' ts u (is_keyed (function_role funs f) && is_keyed_by k ts) _ refl h
        (λ j. firsts_origin ts b u h j)
        (λ j. only_at (is_pk (function_role funs f) && is_only_name k ts) (first_args ts) b _ _ u
        (λ l. args_origin f is ts b s' u h l) j) i
    origin (macro m t) b s s' u h i = inr (b, m, t, i, λ x j. j)
    origin (schema c) b s s' u h i = elim i [ ]
    origin (diff x y) b s s' u h i =
        ⊎_elim
        (λ j. origin_more _ _ u (λ z l. member-append_left _ _ z l)
        (origin x b s s' u (λ es f. (h es f).0) j))
        (λ j. origin_more _ _ u (λ z l. member-append_right (for_name b s' x) _ z l)
        (origin y b s s' u (λ es f. (h es f).1) j))
        (member-append_from (for_key b s x) _ u i)
    origin (le t s) b e e' u h i = elim i [ ]
    origin (ts_eq t s) b e e' u h i = elim i [ ]
    origin (idx_eq t s) b e e' u h i = elim i [ ]
    origin (happens t) b s s' u h i = elim i [ ]
    origin (all o body) b s s' u h i = origin body (o ∷ b) false false u (under b o body h) i
    origin (some o body) b s s' u h i = origin body (o ∷ b) false false u (under b o body h) i
    origin (find c test found other) b s s' u h i =
        ⊎_elim
        (λ j. origin_more _ _ u (λ z l. member-append_left _ _ z l)
        (origin test (with_indices c b) false false u
        (λ fs f. let e = fits-choice w c b fs f in ((h e.0 e.1).0 fs e.2).0) j))
        (λ j. ⊎_elim
        (λ l. origin_more _ _ u
        (λ z q. member-append_right (for_name (with_indices c b) false test) _ z
        (member-append_left _ _ z q))
        (origin found (with_indices c b) false false u
        (λ fs f. let e = fits-choice w c b fs f in ((h e.0 e.1).0 fs e.2).1) l))
        (λ l. origin_more _ _ u
        (λ z q. member-append_right (for_name (with_indices c b) false test) _ z
        (member-append_right (for_name (with_indices c b) false found) _ z q))
        (origin other b false false u (λ es f. (h es f).1) l))
        (member-append_from (for_key (with_indices c b) false found) _ u j))
        (member-append_from (for_key (with_indices c b) false test) _ u i)

    firsts_origin : (ts : TermTrees) (b : List Sort) (u : OccTree) → AllAround b ts
        → Member (walk_first funs k Mk (λ b i. []) b ts) u
        → Origin (walk_first funs n Mn (λ b i. []) b ts) u
    firsts_origin nil b u h i = elim i [ ]
    firsts_origin (cons t ts) b u h i = origin t b false false u (λ es f. (h es f).0) i

    args_origin : (f : Kind) (is : List Idx) (ts : TermTrees) (b : List Sort) (s' : Bool)
        (u : OccTree) → AllAround b ts
        → Member (walk_all funs k Mk (λ b i. []) b (is_equality f) ts) u
        → Origin (for_name b s' (fun f is ts)) u
    args_origin f is nil b s' u h i = elim i [ ]
    args_origin f is (cons x nil) b s' u h i =
        at (is_keyed (function_role funs f)) _ _
        (one_origin f is b s' (is_pk (function_role funs f)) (is_name n x) x u refl
        (λ j. origin x b (is_equality f) (is_equality f) u (λ es g. (h es g).0) j) i)
      where
        at : (c : Bool) (vs ws : List OccTree) → Origin ws u
            → Origin (if c && false then vs else ws) u
        at true vs ws o = o
        at false vs ws o = o
    args_origin f is (cons m (cons x nil)) b s' u h i =
        at (is_keyed (function_role funs f)) (is_name n x) (is_pk (function_role funs f)) _ _ _
        (two_origin f is b s' (is_keyed (function_role funs f)) (is_name n x)
        (key f m (s' && is_hash (function_role funs f))) m x u refl refl
        (λ j. origin m b (is_equality f) (is_equality f) u (λ es g. (h es g).0) j)
        (λ j. origin x b (is_equality f) (is_equality f) u (λ es g. (h es g).1.0) j) i)
      where
        at : (c d p : Bool) (vs ws zs : List OccTree) → Origin (if c && d then vs else zs) u
            → Origin (if c && d then vs else (if p && false then ws else zs)) u
        at c d true vs ws zs o = o
        at c d false vs ws zs o = o
    args_origin f is (cons m (cons x (cons y ts))) b s' u h i =
        no_other (is_keyed (function_role funs f)) (is_pk (function_role funs f)) _ _ _ u
        (row_origin m (cons x (cons y ts)) b (is_equality f) u
        (λ j. origin m b (is_equality f) (is_equality f) u (λ es g. (h es g).0) j)
        (row_origin x (cons y ts) b (is_equality f) u
        (λ j. origin x b (is_equality f) (is_equality f) u (λ es g. (h es g).1.0) j)
        (row_origin y ts b (is_equality f) u
        (λ j. origin y b (is_equality f) (is_equality f) u (λ es g. (h es g).1.1.0) j)
        (λ j. alls_origin ts b (is_equality f) u (λ es g. (h es g).1.1.1) j))) i)

    alls_origin : (ts : TermTrees) (b : List Sort) (s : Bool) (u : OccTree) → AllAround b ts
        → Member (walk_all funs k Mk (λ b i. []) b s ts) u
        → Origin (walk_all funs n Mn (λ b i. []) b s ts) u
    alls_origin nil b s u h i = elim i [ ]
    alls_origin (cons t ts) b s u h i =
        row_origin t ts b s u (λ j. origin t b s s u (λ es f. (h es f).0) j)
        (λ j. alls_origin ts b s u (λ es f. (h es f).1) j) i
