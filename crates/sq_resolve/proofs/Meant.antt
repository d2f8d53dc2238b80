-- What an identifier means is there in a signature that fits its scope.
use Rattle.std.proofs.Common.{◌≡◌, ◌<◌, ◌+◌, ◌-◌, ◌⊎◌, inl, inr, ℕ, zero, suc, Bool, true, false}
use Rattle.std.proofs.Common.{cond, if◌then◌else◌}
use Rattle.std.proofs.Common.{List, [], ◌∷◌, ◌++◌, length, map, reverse, Option, Some, None}
use Rattle.std.proofs.Common.{option_map, slice_get, refl, sym, ap, ◌∙◌, subst, arith, ◌==◌}
use Rattle.std.specs.Str.{bytes_eq}
use Rattle.std.proofs.lemmas.Bool.Decides.{nat_tests}
use Rattle.std.proofs.lemmas.List.{length-map, length-reverse, reverse-append}
use Rattle.std.proofs.lemmas.Option.{slice_get-map}
use Rattle.sq_base.specs.declared.sort.Sort.{Sort}
use Rattle.sq_base.specs.declared.sort.Sort.TheVariants.{Message, Index}
use Rattle.sq_sym.specs.declared.symbol.Symbol.{Symbol}
use Rattle.sq_sym.specs.declared.symbol.Symbol.TheVariants as symbol
use Rattle.sq_sym.specs.Declarations.{found}
use Rattle.sq_term.specs.declared.action.Action.{Action}
use Rattle.sq_term.specs.declared.signature.FunDecl.{FunDecl}
use Rattle.sq_term.specs.Symbols.{IsDeclared, kind_of}
use Rattle.sq_term.specs.Syntax.{TermTree}
use Rattle.sq_term.specs.TreeEquality.{is_same_sort}
use Rattle.sq_term.proofs.SameTrees.{is_same_sort-decides}
use Rattle.sq_typing.specs.Typing.{Signature, has_sort_at, has_count_at, has_sort}
use Rattle.sq_resolve.specs.declared.scope.Given.{Given}
use Rattle.sq_resolve.specs.declared.scope.Given.TheVariants as given
use Rattle.sq_resolve.specs.declared.head.Head.{Head}
use Rattle.sq_resolve.specs.declared.head.Head.TheVariants as head
use Rattle.sq_resolve.specs.Fitting.{binder_sorts, filling, Fits}
use Rattle.sq_resolve.specs.Scopes.{Variable, Context, last_from, last_of, last_name_from}
use Rattle.sq_resolve.specs.Scopes.{last_name}
use Rattle.sq_resolve.specs.Scopes.{last_given, first_some, bound_head, given_head, free_head}
use Rattle.sq_resolve.specs.Scopes.{schema_head, symbol_head, action_head, meaning}
use Rattle.sq_resolve.proofs.Further.{place_further}

-- the declared function with this number, these counts and this result
pub record IsFunction (g : Signature) (f i n : ℕ) (s : Sort) : Type 0 where
  pub decl : FunDecl
  pub there : slice_get g.funs f ≡ Some decl
  pub indices : decl.idx ≡ i
  pub arguments : decl.args ≡ n
  pub result : decl.result ≡ s
  pub declared : IsDeclared (kind_of f)

-- what the head stands for is there, behind binders of these sorts
abbrev pub Has : Signature → List TermTree → List Sort → Head → Type 0
Has g values ss (head.Bound k s) = has_sort_at ss k s ≡ true
Has g values ss (head.Free k s) = has_sort_at g.vars k s ≡ true
Has g values ss (head.Schema k s) = has_sort g [] s (filling values k) ≡ true
Has g values ss (head.Name n k) = has_count_at g.names n k ≡ true
Has g values ss (head.Function f i n s) = IsFunction g f i n s
Has g values ss (head.Action a k) = has_count_at g.actions a k ≡ true

-- ---- the last of a name is in its list

pub record IsAt (k : ℕ) (vs : List Variable) (r : ℕ × Sort) : Type 0 where
  pub place : ℕ
  pub var : Variable
  pub there : slice_get vs place ≡ Some var
  pub number : r.0 ≡ k + place
  pub sort : r.1 ≡ var.1

last_there : (k : ℕ) (best : Option (ℕ × Sort)) (x : List ℕ) (vs : List Variable) (r : ℕ × Sort)
    → last_from k best x vs ≡ Some r → (best ≡ Some r) ⊎ IsAt k vs r
last_there k best x [] r e = inl e
last_there k best x (v ∷ vs) r e =
    by (bytes_eq x v.0)
    (last_there (k + 1) (if bytes_eq x v.0 then Some (k, v.1) else best) x vs r e)
  where
    by : (b : Bool) → ((if b then Some (k, v.1) else best) ≡ Some r) ⊎ IsAt (k + 1) vs r
        → (best ≡ Some r) ⊎ IsAt k (v ∷ vs) r
    by true (inl h) =
        let same : (k, v.1) ≡ r = cc in
        let place : k ≡ k + 0 = omega arith in
        inr (record {
          place = 0;
          var = v;
          there = refl;
          number = sym (ap (λ (w : ℕ × Sort). w.0) same) ∙ place;
          sort = sym (ap (λ (w : ℕ × Sort). w.1) same);
        })
    by false (inl h) = inl h
    by b (inr h) =
        let at = h.number in
        let place : k + 1 + h.place ≡ k + suc h.place = omega arith in
        inr (record {
          place = suc h.place;
          var = h.var;
          there = h.there;
          number = at ∙ place;
          sort = h.sort;
        })

last_at : (x : List ℕ) (vs : List Variable) (r : ℕ × Sort) → last_of x vs ≡ Some r → IsAt 0 vs r
last_at x vs r e = by (last_there 0 None x vs r e)
  where
    by : (None ≡ Some r) ⊎ IsAt 0 vs r → IsAt 0 vs r
    by (inl h) = let n : ⊥ = cc in absurd n
    by (inr h) = h

name_there : (k : ℕ) (best : Option ℕ) (x : List ℕ) (ys : List (List ℕ)) (r : ℕ)
    → last_name_from k best x ys ≡ Some r → (best ≡ Some r) ⊎ (r < k + length ys)
name_there k best x [] r e = inl e
name_there k best x (y ∷ ys) r e =
    by (bytes_eq x y) (name_there (k + 1) (if bytes_eq x y then Some k else best) x ys r e)
  where
    by : (b : Bool) → ((if b then Some k else best) ≡ Some r) ⊎ (r < k + 1 + length ys)
        → (best ≡ Some r) ⊎ (r < k + length (y ∷ ys))
    by true (inl h) = let same : k ≡ r = cc in inr (omega arith)
    by false (inl h) = inl h
    by b (inr h) = inr (omega arith)

name_within : (x : List ℕ) (ys : List (List ℕ)) (r : ℕ) → last_name x ys ≡ Some r → r < length ys
name_within x ys r e = by (name_there 0 None x ys r e)
  where
    by : (None ≡ Some r) ⊎ (r < 0 + length ys) → r < length ys
    by (inl h) = let n : ⊥ = cc in absurd n
    by (inr h) = omega arith

-- a place of a list that holds this, with some name
abbrev Holds : {A : Type 0} → List (List ℕ × A) → A → Type 0
Holds {A} gs m = (k : ℕ) × ((y : List ℕ) × (slice_get gs k ≡ Some (y, m)))

given_there : (best : Option Given) (x : List ℕ) (gs : List (List ℕ × Given)) (m : Given)
    → last_given best x gs ≡ Some m → (best ≡ Some m) ⊎ Holds gs m
given_there best x [] m e = inl e
given_there best x (g ∷ gs) m e =
    by (bytes_eq x g.0) (given_there (if bytes_eq x g.0 then Some g.1 else best) x gs m e)
  where
    by : (b : Bool) → ((if b then Some g.1 else best) ≡ Some m) ⊎ Holds gs m
        → (best ≡ Some m) ⊎ Holds (g ∷ gs) m
    by true (inl h) =
        let same : g.1 ≡ m = cc in
        inr (0, (g.0, ap (λ (w : Given). Some (g.0, w)) same))
    by false (inl h) = inl h
    by b (inr h) = inr (suc h.0, h.1)

given_at : (x : List ℕ) (gs : List (List ℕ × Given)) (m : Given) → last_given None x gs ≡ Some m
    → Holds gs m
given_at x gs m e = by (given_there None x gs m e)
  where
    by : (None ≡ Some m) ⊎ Holds gs m → Holds gs m
    by (inl h) = let n : ⊥ = cc in absurd n
    by (inr h) = h

some_same : (p q : ℕ × Symbol) → Some p ≡ Some q → p ≡ q
some_same p q e = cc

found_at : (x : List ℕ) (ds : List (List ℕ × Symbol)) (at : ℕ) (s : Symbol)
    → found x ds ≡ Some (at, s) → Holds ds s
found_at x [] at s e = let n : ⊥ = cc in absurd n
found_at x (d ∷ ds) at s e =
    by (bytes_eq x d.0) (found x ds) (λ n h. found_at x ds n s h) refl e
  where
    by : (b : Bool) (o : Option (ℕ × Symbol))
        → ((n : ℕ) → found x ds ≡ Some (n, s) → Holds ds s) → found x ds ≡ o
        → cond {A = Option (ℕ × Symbol)} b (Some (0, d.1))
        (option_map (λ (r : ℕ × Symbol). (r.0 + 1, r.1)) o) ≡ Some (at, s)
        → Holds (d ∷ ds) s
    by true o more i h =
        let pair : ℕ × Symbol = (0, d.1) in
        let that : ℕ × Symbol = (at, s) in
        let whole : pair ≡ that = some_same pair that h in
        let same : d.1 ≡ s = ap (λ (w : ℕ × Symbol). w.1) whole in
        (0, (d.0, ap (λ (w : Symbol). Some (d.0, w)) same))
    by false None more i h = let n : ⊥ = cc in absurd n
    by false (Some r) more i h =
        let pair : ℕ × Symbol = (r.0 + 1, r.1) in
        let that : ℕ × Symbol = (at, s) in
        let whole : pair ≡ that = some_same pair that h in
        let same : r.1 ≡ s = ap (λ (w : ℕ × Symbol). w.1) whole in
        let rest = more r.0 (i ∙ ap (λ (w : Symbol). Some (r.0, w)) same) in
        (suc rest.0, rest.1)

-- ---- binders, counted from the innermost

at_end : (ys : List Sort) (x s : Sort)
    → has_sort_at (ys ++ x ∷ []) (length ys) s ≡ is_same_sort x s
at_end [] x s = refl
at_end (y ∷ ys) x s = at_end ys x s

reversed_at : (xs : List Sort) (j : ℕ) (s : Sort) → slice_get xs j ≡ Some s
    → has_sort_at (reverse xs) (length xs - 1 - j) s ≡ true
reversed_at [] j s e = let n : ⊥ = cc in absurd n
reversed_at (x ∷ xs) zero s e =
    let same : x ≡ s = cc in
    let turned : reverse (x ∷ xs) ≡ reverse xs ++ x ∷ [] = reverse-append (x ∷ []) xs in
    let many = length-reverse xs in
    let place : length (x ∷ xs) - 1 - 0 ≡ length (reverse xs) = omega arith in
    (λ i. has_sort_at (turned i) (place i) s)
    ∙ (at_end (reverse xs) x s ∙ (is_same_sort-decides x s).1 same)
reversed_at (x ∷ xs) (suc j) s e =
    let turned : reverse (x ∷ xs) ≡ reverse xs ++ x ∷ [] = reverse-append (x ∷ []) xs in
    let place : length (x ∷ xs) - 1 - suc j ≡ length xs - 1 - j = omega arith in
    (λ i. has_sort_at (turned i) (place i) s)
    ∙ place_further (x ∷ []) (reverse xs) (length xs - 1 - j) s (reversed_at xs j s e)

bound_at : (x : List ℕ) (bs : List Variable) (r : ℕ × Sort) → last_of x bs ≡ Some r
    → has_sort_at (binder_sorts bs) (length bs - 1 - r.0) r.1 ≡ true
bound_at x bs r e =
    let at = last_at x bs r e in
    let sorts = map (λ (v : Variable). v.1) bs in
    let there : slice_get sorts at.place ≡ Some at.var.1 =
    slice_get-map (λ (v : Variable). v.1) bs at.place
    ∙ ap (option_map (λ (v : Variable). v.1)) at.there in
    let many : length sorts ≡ length bs = length-map bs (λ (v : Variable). v.1) in
    let number = at.number in
    let place : length bs - 1 - r.0 ≡ length sorts - 1 - at.place = omega arith in
    (λ i. has_sort_at (binder_sorts bs) (place i) (at.sort i)) ∙ reversed_at sorts at.place at.var.1
    there

-- ---- each meaning

module _ (c : Context) (g : Signature) (values : List TermTree) (fits : Fits c g values) where
  free_at : (x : List ℕ) (r : ℕ × Sort) → last_of x c.vars ≡ Some r
      → has_sort_at g.vars r.0 r.1 ≡ true
  free_at x r e =
      let at = last_at x c.vars r e in
      let number = at.number in
      let place : r.0 ≡ at.place = omega arith in
      (λ i. has_sort_at g.vars (place i) (at.sort i)) ∙ fits.vars at.place at.var at.there

  given_has : (ss : List Sort) (x : List ℕ) (m : Given) (h : Head)
      → last_given None x c.given ≡ Some m → given_head (Some m) ≡ Some h → Has g values ss h
  given_has ss x (given.Index k) h i e =
      let there = given_at x c.given (given.Index k) i in
      let same : head.Free k Index ≡ h = cc in
      subst (Has g values ss) same (fits.given there.0 there.1.0 (given.Index k) there.1.1)
  given_has ss x (given.Value k s) h i e =
      let there = given_at x c.given (given.Value k s) i in
      let same : head.Schema k s ≡ h = cc in
      subst (Has g values ss) same (fits.given there.0 there.1.0 (given.Value k s) there.1.1)

  action_has : (ss : List Sort) (a : ℕ) (o : Option (List Action)) (h : Head)
      → slice_get c.systems c.system ≡ o → action_head a o ≡ Some h → Has g values ss h
  action_has ss a None h i e = let n : ⊥ = cc in absurd n
  action_has ss a (Some own) h i e = by (slice_get own a) refl e
    where
      by : (o : Option Action) → slice_get own a ≡ o
          → option_map (λ (x : Action). head.Action a x.arity) o ≡ Some h → Has g values ss h
      by None j f = let n : ⊥ = cc in absurd n
      by (Some x) j f =
          let same : head.Action a x.arity ≡ h = cc in
          subst (Has g values ss) same (fits.actions own a x i j)

  symbol_has : (ss : List Sort) (x : List ℕ) (o : Option (ℕ × Symbol)) (h : Head)
      → found x c.table ≡ o → symbol_head c o ≡ Some h → Has g values ss h
  symbol_has ss x None h i e = let n : ⊥ = cc in absurd n
  symbol_has ss x (Some (at, symbol.Name n)) h i e = by (slice_get c.names n) refl e
    where
      by : (o : Option ℕ) → slice_get c.names n ≡ o
          → option_map (λ k. head.Name n k) o ≡ Some h → Has g values ss h
      by None j f = let n : ⊥ = cc in absurd n
      by (Some k) j f =
          let same : head.Name n k ≡ h = cc in
          subst (Has g values ss) same (fits.names n k j)
  symbol_has ss x (Some (at, symbol.Fun f)) h i e = by (slice_get c.funs f) refl e
    where
      by : (o : Option FunDecl) → slice_get c.funs f ≡ o
          → option_map (λ (d : FunDecl). head.Function f d.idx d.args d.result) o ≡ Some h
          → Has g values ss h
      by None j k = let n : ⊥ = cc in absurd n
      by (Some d) j k =
          let same : head.Function f d.idx d.args d.result ≡ h = cc in
          let named = found_at x c.table at (symbol.Fun f) i in
          subst (Has g values ss) same
          (record {
            decl = d;
            there = fits.funs f d j;
            indices = refl;
            arguments = refl;
            result = refl;
            declared = fits.declared named.0 named.1.0 f named.1.1;
          })
  symbol_has ss x (Some (at, symbol.Action s a)) h i e = by (s == c.system) refl e
    where
      by : (b : Bool) → (s == c.system) ≡ b
          → (if b then action_head a (slice_get c.systems s) else None) ≡ Some h → Has g values ss h
      by true j f =
          let own : s ≡ c.system = grind (arith, nat_tests) in
          action_has ss a (slice_get c.systems s) h (ap (slice_get c.systems) (sym own)) f
      by false j f = let n : ⊥ = cc in absurd n
  symbol_has ss x (Some (at, _)) h i e = let n : ⊥ = cc in absurd n

  module _ (bs : List Variable) (x : List ℕ) (h : Head) where
    abbrev There : Type 0
    There = Has g values (binder_sorts bs) h

    of_schema : (o : Option ℕ) → last_name x c.schemas ≡ o
        → first_some (schema_head o) (symbol_head c (found x c.table)) ≡ Some h → There
    of_schema (Some k) i e =
        let same : head.Schema k Message ≡ h = cc in
        subst (Has g values (binder_sorts bs)) same (fits.schemas k (name_within x c.schemas k i))
    of_schema None i e = symbol_has (binder_sorts bs) x (found x c.table) h refl e

    of_variable : (o : Option (ℕ × Sort)) → last_of x c.vars ≡ o
        → first_some (free_head o)
        (first_some (schema_head (last_name x c.schemas)) (symbol_head c (found x c.table)))
        ≡ Some h → There
    of_variable (Some r) i e =
        let same : head.Free r.0 r.1 ≡ h = cc in
        subst (Has g values (binder_sorts bs)) same (free_at x r i)
    of_variable None i e = of_schema (last_name x c.schemas) refl e

    abbrev behind_given : Option Head
    behind_given =
        first_some (free_head (last_of x c.vars))
        (first_some (schema_head (last_name x c.schemas)) (symbol_head c (found x c.table)))

    of_given : (o : Option Given) → last_given None x c.given ≡ o
        → first_some (given_head o) behind_given ≡ Some h → There
    of_given (Some (given.Index k)) i e = given_has (binder_sorts bs) x (given.Index k) h i e
    of_given (Some (given.Value k s)) i e = given_has (binder_sorts bs) x (given.Value k s) h i e
    of_given None i e = of_variable (last_of x c.vars) refl e

    of_binder : (o : Option (ℕ × Sort)) → last_of x bs ≡ o
        → first_some (bound_head (length bs) o)
        (first_some (given_head (last_given None x c.given)) behind_given) ≡ Some h → There
    of_binder (Some r) i e =
        let same : head.Bound (length bs - 1 - r.0) r.1 ≡ h = cc in
        subst (Has g values (binder_sorts bs)) same (bound_at x bs r i)
    of_binder None i e = of_given (last_given None x c.given) refl e

    -- what the identifier means behind the binders is there
    pub meant : meaning c bs x ≡ Some h → There
    meant e = of_binder (last_of x bs) refl e
