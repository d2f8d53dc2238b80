-- Where all names of a scope are plain, each stands for what it is the name of.
use Rattle.std.proofs.Common.{◌≡◌, ◌≢◌, ◌<◌, ◌+◌, ℕ, zero, suc, Bool, true, false, if◌then◌else◌}
use Rattle.std.proofs.Common.{◌&&◌}
use Rattle.std.proofs.Common.{nat_eq, List, [], ◌∷◌, ◌++◌, length, map, Option, Some, None}
use Rattle.std.proofs.Common.{option_map, unwrap_or, slice_get, refl, sym, ap, ◌∙◌, subst, arith}
use Rattle.std.specs.Str.{bytes_eq}
use Rattle.std.proofs.lemmas.Bool.Decides.{nat_tests}
use Rattle.std.proofs.lemmas.Option.{slice_get-map, slice_get_within}
use Rattle.sq_base.specs.declared.sort.Sort.{Sort}
use Rattle.sq_token.specs.Kinds.{IsIdentifier}
use Rattle.sq_sym.specs.declared.symbol.Symbol.{Symbol}
use Rattle.sq_sym.specs.declared.symbol.Symbol.TheVariants as symbol
use Rattle.sq_sym.specs.Declarations.{found, NamesDiffer}
use Rattle.std.proofs.lemmas.Bool.{and_parts}
use Rattle.sq_term.specs.Symbols.{declared_number}
use Rattle.sq_term.specs.declared.action.Action.{Action}
use Rattle.sq_print.specs.Names.{is_name, is_function, is_action, spelling}
use Rattle.sq_sym.proofs.Candidates.{differ, equal}
use Rattle.sq_resolve.specs.Scopes.{Variable, Context, last_from, last_of, last_name_from}
use Rattle.sq_resolve.specs.Scopes.{last_name}
use Rattle.sq_printed.specs.Reads.{AreIdentifiers}
use Rattle.sq_readback.specs.Readable.{HasPlainNames, Declares, own_names, own_actions}
use Rattle.sq_readback.proofs.Standing.{IsDeclared, IsPlain}

-- ---- places of a list

identifier_at : (xs : List (List ℕ)) (k : ℕ) (x : List ℕ) → AreIdentifiers xs
    → slice_get xs k ≡ Some x → IsIdentifier x
identifier_at [] k x h e = cc
identifier_at (y ∷ ys) zero x h e = let same : y ≡ x = cc in subst IsIdentifier same h.0
identifier_at (y ∷ ys) (suc k) x h e = identifier_at ys k x h.1 e

get_left : (xs ys : List (List ℕ)) (k : ℕ) (x : List ℕ) → slice_get xs k ≡ Some x
    → slice_get (xs ++ ys) k ≡ Some x
get_left [] ys k x e = cc
get_left (z ∷ zs) ys zero x e = e
get_left (z ∷ zs) ys (suc k) x e = get_left zs ys k x e

get_right : (xs ys : List (List ℕ)) (k n : ℕ) → n ≡ length xs + k
    → slice_get (xs ++ ys) n ≡ slice_get ys k
get_right [] ys k n e = let same : n ≡ k = omega arith in ap (slice_get ys) same
get_right (z ∷ zs) ys k zero e = absurd (omega arith)
get_right (z ∷ zs) ys k (suc n) e = get_right zs ys k n (omega arith)

some_at : {A : Type 0} (xs : List A) (k : ℕ) (x : A) → slice_get xs k ≡ Some x → k < length xs
some_at xs k x e = slice_get_within xs k x e

-- ---- the last of a name

-- none has the name
absent : (j : ℕ) (best : Option (ℕ × Sort)) (x : List ℕ) (vs : List Variable)
    → ((i : ℕ) (w : Variable) → slice_get vs i ≡ Some w → w.0 ≢ x) → last_from j best x vs ≡ best
absent j best x [] h = refl
absent j best x (v ∷ vs) h =
    let other : bytes_eq x v.0 ≡ false = differ x v.0 (λ e. h 0 v refl (sym e)) in
    ap (λ b. last_from (j + 1) (if b then Some (j, v.1) else best) x vs) other
    ∙ absent (j + 1) best x vs (λ i w e. h (suc i) w e)

-- one place alone has the name
last_at : (j : ℕ) (best : Option (ℕ × Sort)) (x : List ℕ) (vs : List Variable) (k : ℕ)
    (v : Variable) → slice_get vs k ≡ Some v → v.0 ≡ x
    → ((i : ℕ) (w : Variable) → slice_get vs i ≡ Some w → w.0 ≡ x → i ≡ k)
    → last_from j best x vs ≡ Some (j + k, v.1)
last_at j best x [] k v e same h = cc
last_at j best x (u ∷ us) zero v e same h =
    let here : u ≡ v = cc in
    let equal_here : bytes_eq x u.0 ≡ true = equal x u.0 (sym same ∙ ap (λ w. w.0) (sym here)) in
    let place : j ≡ j + 0 = omega arith in
    ap (λ b. last_from (j + 1) (if b then Some (j, u.1) else best) x us) equal_here
    ∙ (absent (j + 1) (Some (j, u.1)) x us (λ i w f g. let clash = h (suc i) w f g in omega arith)
    ∙ (λ i. Some (place i, (here i).1)))
last_at j best x (u ∷ us) (suc k) v e same h =
    let place : j + 1 + k ≡ j + suc k = omega arith in
    last_at (j + 1) (if bytes_eq x u.0 then Some (j, u.1) else best) x us k v e same
    (λ i w f g. let at = h (suc i) w f g in omega arith) ∙ ap (λ n. Some (n, v.1)) place

no_name : (j : ℕ) (best : Option ℕ) (x : List ℕ) (ys : List (List ℕ))
    → ((i : ℕ) (y : List ℕ) → slice_get ys i ≡ Some y → y ≢ x) → last_name_from j best x ys ≡ best
no_name j best x [] h = refl
no_name j best x (y ∷ ys) h =
    let other : bytes_eq x y ≡ false = differ x y (λ e. h 0 y refl (sym e)) in
    ap (λ b. last_name_from (j + 1) (if b then Some j else best) x ys) other
    ∙ no_name (j + 1) best x ys (λ i z e. h (suc i) z e)

name_at : (j : ℕ) (best : Option ℕ) (x : List ℕ) (ys : List (List ℕ)) (k : ℕ)
    → slice_get ys k ≡ Some x → ((i : ℕ) (y : List ℕ) → slice_get ys i ≡ Some y → y ≡ x → i ≡ k)
    → last_name_from j best x ys ≡ Some (j + k)
name_at j best x [] k e h = cc
name_at j best x (y ∷ ys) zero e h =
    let here : y ≡ x = cc in
    let place : j ≡ j + 0 = omega arith in
    ap (λ b. last_name_from (j + 1) (if b then Some j else best) x ys) (equal x y (sym here))
    ∙ (no_name (j + 1) (Some j) x ys (λ i z f g. let clash = h (suc i) z f g in omega arith)
    ∙ ap Some place)
name_at j best x (y ∷ ys) (suc k) e h =
    let place : j + 1 + k ≡ j + suc k = omega arith in
    name_at (j + 1) (if bytes_eq x y then Some j else best) x ys k e
    (λ i z f g. let at = h (suc i) z f g in omega arith) ∙ ap Some place

-- ---- declarations

-- the name that is printed for a symbol is found again, with a symbol that passes the same test
pub record IsSpelled (test : Symbol → Bool) (x : List ℕ) (table : List (List ℕ × Symbol))
    : Type 0 where
  pub identifier : IsIdentifier x
  pub place : ℕ
  pub what : Symbol
  pub found_is : found x table ≡ Some (place, what)
  pub passes : test what ≡ true

further : (x y : List ℕ) (s : Symbol) (ds : List (List ℕ × Symbol)) (place : ℕ) (what : Symbol)
    → found y ds ≡ None → found x ds ≡ Some (place, what)
    → found x ((y, s) ∷ ds) ≡ Some (place + 1, what)
further x y s ds place what none there =
    let other : bytes_eq x y ≡ false =
    differ x y (λ e. let clash : found x ds ≡ None = ap (λ z. found z ds) e ∙ none in
    let never : ⊥ = cc in never) in
    rw (other, there) refl

spelled_by : (test : Symbol → Bool) (ds : List (List ℕ × Symbol)) (k : ℕ) (x : List ℕ) (s : Symbol)
    → AreIdentifiers (map (λ d. d.0) ds) → NamesDiffer ds → slice_get ds k ≡ Some (x, s)
    → test s ≡ true → IsSpelled test (spelling test ds) ds
spelled_by test [] k x s named apart there passes = cc
spelled_by test (d ∷ ds) zero x s named apart there passes =
    let here : d ≡ (x, s) = cc in
    let first : test d.1 ≡ true = ap (λ e. test e.1) here ∙ passes in
    subst (λ b. IsSpelled test (if b then d.0 else spelling test ds) (d ∷ ds)) (sym first)
    (record {
      identifier = named.0;
      place = 0;
      what = d.1;
      found_is = ap
          (λ b. (if b then Some (0, d.1) else option_map (λ r. (r.0 + 1, r.1)) (found d.0 ds)))
          (equal d.0 d.0 refl);
      passes = first;
    })
spelled_by test (d ∷ ds) (suc k) x s named apart there passes =
    by (test d.1) refl (spelled_by test ds k x s named.1 apart.1 there passes)
  where
    by : (b : Bool) → test d.1 ≡ b → IsSpelled test (spelling test ds) ds
        → IsSpelled test (if b then d.0 else spelling test ds) (d ∷ ds)
    by true first rest =
        record {
          identifier = named.0;
          place = 0;
          what = d.1;
          found_is = ap
              (λ b. (if b then Some (0, d.1) else option_map (λ r. (r.0 + 1, r.1)) (found d.0 ds)))
              (equal d.0 d.0 refl);
          passes = first;
        }
    by false first rest =
        record {
          identifier = rest.identifier;
          place = rest.place + 1;
          what = rest.what;
          found_is =
              further (spelling test ds) d.0 d.1 ds rest.place rest.what apart.0 rest.found_is;
          passes
              = rest.passes;
        }

name_is : (n : ℕ) (s : Symbol) → is_name n s ≡ true → s ≡ symbol.Name n
name_is n (symbol.Name k) e = let same : k ≡ n = grind (arith, nat_tests) in ap symbol.Name same
name_is n _ e = cc

function_is : (f : ℕ) (s : Symbol) → is_function f s ≡ true → s ≡ symbol.Fun f
function_is f (symbol.Fun k) e = let same : k ≡ f = grind (arith, nat_tests) in ap symbol.Fun same
function_is f _ e = cc

action_is : (system a : ℕ) (s : Symbol) → is_action system a s ≡ true → s ≡ symbol.Action system a
action_is system a (symbol.Action t b) e =
    let parts = and_parts (nat_eq t system) (nat_eq b a) e in
    let first = parts.0 in
    let second = parts.1 in
    let same_system : t ≡ system = grind (arith, nat_tests) in
    let same : b ≡ a = grind (arith, nat_tests) in
    λ i. symbol.Action (same_system i) (same i)
action_is system a _ e = cc

module _ (c : Context) (p : HasPlainNames c) where
  variable_at : (k : ℕ) (v : Variable) → slice_get c.vars k ≡ Some v
      → slice_get (own_names c) k ≡ Some v.0
  variable_at k v e =
      get_left (map (λ w. w.0) c.vars) c.schemas k v.0
      (slice_get-map (λ (w : Variable). w.0) c.vars k ∙ ap (option_map (λ (w : Variable). w.0)) e)

  schema_at : (k : ℕ) (x : List ℕ) → slice_get c.schemas k ≡ Some x
      → slice_get (own_names c) (length (map (λ w. w.0) c.vars) + k) ≡ Some x
  schema_at k x e =
      get_right (map (λ w. w.0) c.vars) c.schemas k (length (map (λ w. w.0) c.vars) + k) refl ∙ e

  -- a variable stands before each schema variable
  before : (i k : ℕ) (v : Variable) → slice_get c.vars i ≡ Some v
      → i < length (map (λ w. w.0) c.vars) + k
  before i k v e =
      let there : slice_get (map (λ w. w.0) c.vars) i ≡ Some v.0 =
      slice_get-map (λ (w : Variable). w.0) c.vars i
      ∙ ap (option_map (λ (w : Variable). w.0)) e in
      let low = some_at (map (λ w. w.0) c.vars) i v.0 there in
      omega arith

  variables_plain : (k : ℕ) (v : Variable) → slice_get c.vars k ≡ Some v
      → IsIdentifier v.0 × (last_of v.0 c.vars ≡ Some (k, v.1))
  variables_plain k v e =
      let place : 0 + k ≡ k = omega arith in (
        identifier_at (own_names c) k v.0 p.identifiers (variable_at k v e),
        last_at 0 None v.0 c.vars k v e refl
            (λ i w f g. p.apart i k v.0 (variable_at i w f ∙ ap Some g) (variable_at k v e))
            ∙ ap (λ n. Some (n, v.1)) place,
      )

  schemas_plain : (k : ℕ) (x : List ℕ) → slice_get c.schemas k ≡ Some x
      → IsIdentifier x × (last_of x c.vars ≡ None) × (last_name x c.schemas ≡ Some k)
  schemas_plain k x e =
      let n = length (map (λ w. w.0) c.vars) in
      let place : 0 + k ≡ k = omega arith in (
        identifier_at (own_names c) (n + k) x p.identifiers (schema_at k x e),
        absent 0 None x c.vars
            (λ i w f g. let same = p.apart i (n + k) x (variable_at i w f ∙ ap Some g)
            (schema_at k x e) in let low = before i k w f in omega arith),
        name_at 0 None x c.schemas k e
            (λ i y f g. let same = p.apart (n + i) (n + k) x (schema_at i y f ∙ ap Some g)
            (schema_at k x e) in omega arith) ∙ ap Some place,
      )

  -- a declared symbol is what its printed name stands for
  declared_plain : (test : Symbol → Bool) (s : Symbol) → Declares c.table s → test s ≡ true
      → ((r : Symbol) → test r ≡ true → r ≡ s) → IsDeclared c (spelling test c.table) s
  declared_plain test s d passes only =
      let x = spelling test c.table in
      let m = spelled_by test c.table d.0 d.1.0 s p.declared_identifiers p.declared_once d.1.1
      passes in
      let there : found x c.table ≡ Some (m.place, s) =
      m.found_is ∙ ap (λ r. Some (m.place, r)) (only m.what m.passes) in
      record {
        identifier = m.identifier;
        place = m.place;
        found_is = there;
        no_variable =
            absent 0 None x c.vars
            (λ i w f g. let none = p.no_symbols i x (variable_at i w f ∙ ap Some g) in
            let never : ⊥ = cc in never);
        no_schema =
            no_name 0 None x c.schemas
            (λ i y f g. let none = p.no_symbols (length (map (λ w. w.0) c.vars) + i) x
            (schema_at i y f ∙ ap Some g) in let never : ⊥ = cc in never);
      }

  names_plain : (n : ℕ) → Declares c.table (symbol.Name n)
      → IsDeclared c (spelling (is_name n) c.table) (symbol.Name n)
  names_plain n d =
      let own : nat_eq n n ≡ true = grind (arith, nat_tests) in
      declared_plain (is_name n) (symbol.Name n) d own (name_is n)

  functions_plain : (k : ℕ) → Declares c.table (symbol.Fun (declared_number k))
      → IsDeclared c (spelling (is_function (declared_number k)) c.table)
      (symbol.Fun (declared_number k))
  functions_plain k d =
      let f = declared_number k in
      let own : nat_eq f f ≡ true = grind (arith, nat_tests) in
      declared_plain (is_function f) (symbol.Fun f) d own (function_is f)

  actions_plain : (a : ℕ) → Declares c.table (symbol.Action c.system a)
      → IsDeclared c (spelling (is_action c.system a) c.table) (symbol.Action c.system a)
  actions_plain a d =
      let same_system : nat_eq c.system c.system ≡ true = grind (arith, nat_tests) in
      let same : nat_eq a a ≡ true = grind (arith, nat_tests) in
      declared_plain (is_action c.system a) (symbol.Action c.system a) d
      (ap (λ b. b && nat_eq a a) same_system ∙ same) (action_is c.system a)

  -- the system of an action is there
  system_there : (a : ℕ) (x : Action) → slice_get (own_actions c) a ≡ Some x
      → slice_get c.systems c.system ≡ Some (own_actions c)
  system_there a x = by (slice_get c.systems c.system)
    where
      by : (o : Option (List Action)) → slice_get (unwrap_or o []) a ≡ Some x
          → o ≡ Some (unwrap_or o [])
      by None e = cc
      by (Some own) e = refl

  pub plain_names : IsPlain c (own_actions c)
  plain_names =
      record {
        nothing_given = p.nothing_given;
        vars = variables_plain;
        schemas = schemas_plain;
        names = names_plain;
        functions =
            functions_plain;
        builtin = p.builtin;
        actions_are = system_there;
        actions = actions_plain;
      }
