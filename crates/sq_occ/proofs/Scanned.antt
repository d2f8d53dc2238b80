-- What holds of each place that a walk of the program adds, and what it has where the term reads a
-- macro.
use Rattle.std.proofs.Common.{◌≡◌, refl, sym, ap, ◌∙◌, subst, ℕ, ◌+◌, ◌≤◌, List, [], ◌∷◌}
use Rattle.std.proofs.Common.{◌++◌, Bool, true, false, if◌then◌else◌, ◌&&◌, ◌||◌, ◌==◌, Option}
use Rattle.std.proofs.Common.{Some, None, arith, append_assoc}
use Rattle.sq_base.specs.declared.sort.Sort.{Sort}
use Rattle.sq_term.specs.declared.signature.FunRole.{FunRole}
use Rattle.sq_term.specs.declared.term.Idx.{Idx}
use Rattle.sq_term.specs.declared.term.Macro.{Macro}
use Rattle.sq_term.specs.Lists.{Each}
use Rattle.sq_term.specs.Measure.{depth, depths}
use Rattle.sq_term.specs.Signatures.{function_role, is_hash, is_keyed, is_pk, is_equality}
use Rattle.sq_term.specs.Symbols.{Kind}
use Rattle.sq_term.specs.Syntax.{TsTree, TermTree, name, fun, macro, schema, diff, le, ts_eq}
use Rattle.sq_term.specs.Syntax.{idx_eq, happens, all, some, find, TermTrees, nil, cons}
use Rattle.sq_term.proofs.Members.{each-append, each_none, each_cons, each_single}
use Rattle.sq_occ.specs.Entries.{bare, public, OccTree, with_indices}
use Rattle.sq_occ.specs.Walks.{first_term}
use Rattle.sq_occ.specs.Calls.Scans.{Scan, named, keyed, only, at_name, reads_macro, read_macro}
use Rattle.sq_occ.specs.Calls.Scans.{scanned, key_of, key_role, scan, scan_first, scan_all}

each_cond : {A : Type 0} (P : A → Type 0) (b : Bool) (xs ys : List A) → Each P xs → Each P ys
    → Each P (if b then xs else ys)
each_cond P true xs ys h k = h
each_cond P false xs ys h k = k

each_at_name : (Q : OccTree → Type 0) (o : Option (List Idx)) (f : List Idx → List OccTree)
    (rest : List OccTree) → ((is : List Idx) → Each Q (f is)) → Each Q rest
    → Each Q (at_name o f rest)
each_at_name Q (Some is) f rest h k = h is
each_at_name Q None f rest h k = k

-- a property of bare places, of public keys, of keys of a message that is not too deep, and of what
-- macros list
module _ (S : Scan) (Q : OccTree → Type 0) (d : ℕ)
    (bare_is : (is : List Idx) (b : List Sort) → Q (scanned S is bare b))
    (public_is : (is : List Idx) (b : List Sort) → Q (scanned S is public b))
    (key_is : (is : List Idx) (f : Kind) (m : TermTree) (test : Bool) (b : List Sort)
    → depth m ≤ d → Q (scanned S is (key_of S f m test b) b))
    (macro_is : (b : List Sort) (m : Macro) (t : TsTree) → Each Q (S.at_macro b m t)) where
  first_depth : (ts : TermTrees) → depths ts + 1 ≤ d → depth (first_term ts) ≤ d
  first_depth nil h = omega (arith, h)
  first_depth (cons t ts) h = omega (arith, h)

  mutual
    pub scan_each : (x : TermTree) (b : List Sort) (e : Bool) → depth x ≤ d → Each Q (scan S b e x)
    scan_each (name k is) b e h =
        each_cond Q (k == S.name) _ _ (each_single _ Q (bare_is is b)) (each_none Q)
    scan_each (fun f is ts) b e h =
        let below : depths ts + 1 ≤ d = omega (arith, h) in
        each_at_name Q (keyed S.name S.left (function_role S.funs f) ts) _ _
        (λ js. each_cons _ _ Q
        (key_is js f (first_term ts) (e && is_hash (function_role S.funs f)) b
        (first_depth ts below))
        (first_each ts b below))
        (each_at_name Q (only S.name S.left (function_role S.funs f) ts) _ _
        (λ js. each_single _ Q (public_is js b)) (all_each ts b (is_equality f) below))
    scan_each (macro m t) b e h = macro_is b m t
    scan_each (schema k) b e h = each_none Q
    scan_each (diff x y) b e h =
        let one : depth x ≤ d = omega (arith, h) in
        let two : depth y ≤ d = omega (arith, h) in
        each_cond Q S.left _ _ (scan_each x b e one) (scan_each y b e two)
    scan_each (le t s) b e h = each_none Q
    scan_each (ts_eq t s) b e h = each_none Q
    scan_each (idx_eq i j) b e h = each_none Q
    scan_each (happens t) b e h = each_none Q
    scan_each (all s t) b e h =
        let below : depth t ≤ d = omega (arith, h) in scan_each t (s ∷ b) false below
    scan_each (some s t) b e h =
        let below : depth t ≤ d = omega (arith, h) in scan_each t (s ∷ b) false below
    scan_each (find c t a o) b e h =
        let one : depth t ≤ d = omega (arith, h) in
        let two : depth a ≤ d = omega (arith, h) in
        let three : depth o ≤ d = omega (arith, h) in
        each-append _ _ Q (scan_each t (with_indices c b) false one)
        (each-append _ _ Q (scan_each a (with_indices c b) false two)
        (scan_each o b false three))

    first_each : (ts : TermTrees) (b : List Sort) → depths ts + 1 ≤ d
        → Each Q (scan_first S b ts)
    first_each nil b h = each_none Q
    first_each (cons t ts) b h =
        let below : depth t ≤ d = omega (arith, h) in scan_each t b false below

    all_each : (ts : TermTrees) (b : List Sort) (e : Bool) → depths ts + 1 ≤ d
        → Each Q (scan_all S b e ts)
    all_each nil b e h = each_none Q
    all_each (cons t ts) b e h =
        let below : depth t ≤ d = omega (arith, h) in
        let rest : depths ts + 1 ≤ d = omega (arith, h) in
        each-append _ _ Q (scan_each t b e below) (all_each ts b e rest)

-- ---- where a term reads a macro

-- what a macro lists is a part of the list
pub record HasMacro (S : Scan) (us : List OccTree) : Type 0 where
  pub before : List OccTree
  pub after : List OccTree
  pub binders : List Sort
  pub read : Macro
  pub time : TsTree
  pub is_part : us ≡ before ++ (S.at_macro binders read time ++ after)

module _ (S : Scan) where
  left_of : (us vs : List OccTree) → HasMacro S us → HasMacro S (us ++ vs)
  left_of us vs h = record {
    before = h.before;
    after = h.after ++ vs;
    binders = h.binders;
    read = h.read;
    time = h.time;
    is_part = ap (λ xs. xs ++ vs) h.is_part
        ∙ (append_assoc h.before (S.at_macro h.binders h.read h.time ++ h.after) vs
        ∙ ap (λ xs. h.before ++ xs)
        (append_assoc (S.at_macro h.binders h.read h.time) h.after vs));
  }

  right_of : (us vs : List OccTree) → HasMacro S vs → HasMacro S (us ++ vs)
  right_of us vs h = record {
    before = us ++ h.before;
    after = h.after;
    binders = h.binders;
    read = h.read;
    time = h.time;
    is_part = ap (λ xs. us ++ xs) h.is_part
        ∙ sym (append_assoc us h.before (S.at_macro h.binders h.read h.time ++ h.after));
  }

  either_of : (p q : Bool) (us vs : List OccTree) → (p || q) ≡ true
      → (p ≡ true → HasMacro S us) → (q ≡ true → HasMacro S vs) → HasMacro S (us ++ vs)
  either_of true q us vs e f g = left_of us vs (f refl)
  either_of false q us vs e f g = right_of us vs (g e)

  -- the name has no macro
  named_none : (k : TermTree) (is : List Idx) → named S.name S.left k ≡ Some is
      → reads_macro S.left k ≡ false
  named_none (name k js) is e = refl
  named_none (diff x y) is e = at S.left refl (named_none x is) (named_none y is)
    where
      at : (l : Bool) → S.left ≡ l
          → (named S.name S.left x ≡ Some is → reads_macro S.left x ≡ false)
          → (named S.name S.left y ≡ Some is → reads_macro S.left y ≡ false)
          → (if S.left then reads_macro S.left x else reads_macro S.left y) ≡ false
      at true f hx hy =
          let here : named S.name S.left x ≡ Some is =
          sym (ap (λ c. (if c then named S.name S.left x else named S.name S.left y)) f) ∙ e in
          ap (λ c. (if c then reads_macro S.left x else reads_macro S.left y)) f ∙ hx here
      at false f hx hy =
          let here : named S.name S.left y ≡ Some is =
          sym (ap (λ c. (if c then named S.name S.left x else named S.name S.left y)) f) ∙ e in
          ap (λ c. (if c then reads_macro S.left x else reads_macro S.left y)) f ∙ hy here
  named_none (fun f js ts) is e = absurd (differ e)
    where
      differ : None ≡ Some is → ⊥
      differ q = cc
  named_none (macro m t) is e = absurd (differ e)
    where
      differ : None ≡ Some is → ⊥
      differ q = cc
  named_none (schema k) is e = refl
  named_none (le t s) is e = refl
  named_none (ts_eq t s) is e = refl
  named_none (idx_eq i j) is e = refl
  named_none (happens t) is e = refl
  named_none (all s t) is e = absurd (differ e)
    where
      differ : None ≡ Some is → ⊥
      differ q = cc
  named_none (some s t) is e = absurd (differ e)
    where
      differ : None ≡ Some is → ⊥
      differ q = cc
  named_none (find c t a o) is e = absurd (differ e)
    where
      differ : None ≡ Some is → ⊥
      differ q = cc

  when_some : {A : Type 0} (b : Bool) (o : Option A) (x : A) → (if b then o else None) ≡ Some x → o
      ≡ Some x
  when_some true o x e = e
  when_some false o x e = absurd (differ e)
    where
      differ : None ≡ Some x → ⊥
      differ q = cc

  not_both : (b : Bool) → b ≡ true → b ≡ false → ⊥
  not_both b e f = let x : true ≡ false = sym e ∙ f in cc

  -- under a key the first argument alone reads macros
  keyed_first : (role : FunRole) (ts : TermTrees) (is : List Idx) → keyed S.name S.left role ts
      ≡ Some is → read_macro S.left ts ≡ true → (t : TermTree) × (rest : TermTrees)
      × (ts ≡ cons t rest) × (reads_macro S.left t ≡ true)
  keyed_first role nil is e h = absurd (let x : false ≡ true = h in cc)
  keyed_first role (cons x nil) is e h = absurd (let q : None ≡ Some is = e in cc)
  keyed_first role (cons x (cons k nil)) is e h =
      let none : reads_macro S.left k ≡ false =
      named_none k is (when_some (is_keyed role) (named S.name S.left k) is e) in
      (x, cons k nil, refl, at (reads_macro S.left x) (reads_macro S.left k) none h)
    where
      at : (p q : Bool) → q ≡ false → (p || (q || false)) ≡ true → p ≡ true
      at true q f h = refl
      at false q f h = absurd (let x : false ≡ true = sym (ap (λ c. c || false) f) ∙ h in cc)
  keyed_first role (cons x (cons k (cons y ts))) is e h = absurd (let q : None ≡ Some is = e in cc)

  only_none : (role : FunRole) (ts : TermTrees) (is : List Idx) → only S.name S.left role ts
      ≡ Some is → read_macro S.left ts ≡ true → ⊥
  only_none role nil is e h = let x : false ≡ true = h in cc
  only_none role (cons k nil) is e h =
      let none : reads_macro S.left k ≡ false =
      named_none k is (when_some (is_pk role) (named S.name S.left k) is e) in
      at (reads_macro S.left k) none h
    where
      at : (q : Bool) → q ≡ false → (q || false) ≡ true → ⊥
      at q f h = let x : false ≡ true = sym (ap (λ c. c || false) f) ∙ h in cc
  only_none role (cons x (cons k ts)) is e h = let q : None ≡ Some is = e in cc

  application : (f : Kind) (ts : TermTrees) (b : List Sort) (e : Bool)
      → read_macro S.left ts ≡ true
      → ((t : TermTree) (rest : TermTrees) → ts ≡ cons t rest → reads_macro S.left t ≡ true
      → HasMacro S (scan_first S b ts))
      → HasMacro S (scan_all S b (is_equality f) ts)
      → HasMacro S (scan S b e (fun f [] ts))
  application f ts b e h first every =
      at (keyed S.name S.left role ts) (only S.name S.left role ts) refl refl
    where
      role : FunRole
      role = function_role S.funs f

      at : (k o : Option (List Idx)) → keyed S.name S.left role ts ≡ k
          → only S.name S.left role ts ≡ o
          → HasMacro S (at_name k
          (λ js. scanned S js (key_role S e f (first_term ts) b) b ∷ scan_first S b ts)
          (at_name o (λ js. scanned S js public b ∷ []) (scan_all S b (is_equality f) ts)))
      at (Some is) o p q =
          let (t, rest, here, reads) = keyed_first role ts is p h in
          right_of (scanned S is (key_role S e f (first_term ts) b) b ∷ []) (scan_first S b ts)
          (first t rest here reads)
      at None (Some is) p q = absurd (only_none role ts is q h)
      at None None p q = every

  mutual
    pub macro_part : (x : TermTree) (b : List Sort) (e : Bool) → reads_macro S.left x ≡ true
        → HasMacro S (scan S b e x)
    macro_part (name k is) b e h = absurd (let x : false ≡ true = h in cc)
    macro_part (fun f is ts) b e h =
        application f ts b e h (λ t rest here reads. first_part ts b t rest here reads)
        (all_part ts b (is_equality f) h)
    macro_part (macro m t) b e h = record {
      before = [];
      after = [];
      binders = b;
      read = m;
      time = t;
      is_part = sym (nothing_after (S.at_macro b m t));
    }
      where
        nothing_after : (us : List OccTree) → us ++ [] ≡ us
        nothing_after [] = refl
        nothing_after (u ∷ us) = ap (λ xs. u ∷ xs) (nothing_after us)
    macro_part (schema k) b e h = absurd (let x : false ≡ true = h in cc)
    macro_part (diff x y) b e h =
        at S.left refl (macro_part x b e) (macro_part y b e)
      where
        at : (l : Bool) → S.left ≡ l
            → (reads_macro S.left x ≡ true → HasMacro S (scan S b e x))
            → (reads_macro S.left y ≡ true → HasMacro S (scan S b e y))
            → HasMacro S (if S.left then scan S b e x else scan S b e y)
        at true f hx hy =
            let here : reads_macro S.left x ≡ true =
            sym (ap (λ c. (if c then reads_macro S.left x else reads_macro S.left y)) f) ∙ h in
            let same : scan S b e x ≡ (if S.left then scan S b e x else scan S b e y) =
            sym (ap (λ c. (if c then scan S b e x else scan S b e y)) f) in
            subst (HasMacro S) same (hx here)
        at false f hx hy =
            let here : reads_macro S.left y ≡ true =
            sym (ap (λ c. (if c then reads_macro S.left x else reads_macro S.left y)) f) ∙ h in
            let same : scan S b e y ≡ (if S.left then scan S b e x else scan S b e y) =
            sym (ap (λ c. (if c then scan S b e x else scan S b e y)) f) in
            subst (HasMacro S) same (hy here)
    macro_part (le t s) b e h = absurd (let x : false ≡ true = h in cc)
    macro_part (ts_eq t s) b e h = absurd (let x : false ≡ true = h in cc)
    macro_part (idx_eq i j) b e h = absurd (let x : false ≡ true = h in cc)
    macro_part (happens t) b e h = absurd (let x : false ≡ true = h in cc)
    macro_part (all s t) b e h = macro_part t (s ∷ b) false h
    macro_part (some s t) b e h = macro_part t (s ∷ b) false h
    macro_part (find c t a o) b e h =
        either_of (reads_macro S.left t) (reads_macro S.left a || reads_macro S.left o) _ _ h
        (macro_part t (with_indices c b) false)
        (λ g. either_of (reads_macro S.left a) (reads_macro S.left o) _ _ g
        (macro_part a (with_indices c b) false) (macro_part o b false))

    first_part : (ts : TermTrees) (b : List Sort) (t : TermTree) (rest : TermTrees)
        → ts ≡ cons t rest → reads_macro S.left t ≡ true → HasMacro S (scan_first S b ts)
    first_part nil b t rest here reads = absurd (let x : nil ≡ cons t rest = here in cc)
    first_part (cons x xs) b t rest here reads =
        let same : x ≡ t = cc in
        macro_part x b false (ap (reads_macro S.left) same ∙ reads)

    all_part : (ts : TermTrees) (b : List Sort) (e : Bool) → read_macro S.left ts ≡ true
        → HasMacro S (scan_all S b e ts)
    all_part nil b e h = absurd (let x : false ≡ true = h in cc)
    all_part (cons t ts) b e h =
        either_of (reads_macro S.left t) (read_macro S.left ts) _ _ h (macro_part t b e)
        (all_part ts b e)
