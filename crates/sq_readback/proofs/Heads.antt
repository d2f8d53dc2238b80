-- What the printed names of variables and symbols mean in their scope.
use Rattle.std.proofs.Common.{◌≡◌, ◌<◌, ◌-◌, ℕ, zero, suc, Bool, true, false, ◌||◌, ◌==◌, List}
use Rattle.std.proofs.Common.{[], ◌∷◌, length, map, reverse, Some, None, option_map, unwrap_or}
use Rattle.std.proofs.Common.{is_some, slice_get, refl, sym, ap, ◌∙◌, subst, arith}
use Rattle.std.specs.Str.{bytes_eq}
use Rattle.std.proofs.lemmas.Bool.{false≢true}
use Rattle.std.proofs.lemmas.Bool.Decides.{nat_tests}
use Rattle.std.proofs.lemmas.Option.{slice_get-map}
use Rattle.sq_base.specs.declared.sort.Sort.{Sort}
use Rattle.sq_base.specs.declared.sort.Sort.TheVariants.{Message}
use Rattle.sq_token.specs.Kinds.{IsIdentifier}
use Rattle.sq_sym.specs.declared.symbol.Symbol.{Symbol}
use Rattle.sq_sym.specs.declared.symbol.Symbol.TheVariants as symbol
use Rattle.sq_sym.specs.Declarations.{found}
use Rattle.sq_term.specs.Symbols.{declared_number}
use Rattle.sq_term.specs.declared.action.Action.{Action}
use Rattle.sq_term.specs.declared.signature.FunDecl.{FunDecl}
use Rattle.sq_term.proofs.SameTrees.{is_same_sort-decides}
use Rattle.sq_typing.specs.Typing.{has_sort_at, has_count_at}
use Rattle.sq_print.specs.Names.{Names, text_at, is_used, is_name, is_function, is_action}
use Rattle.sq_sym.specs.Candidates.{among}
use Rattle.sq_print.specs.Names.{spelling, name_word, action_word}
use Rattle.sq_sym.proofs.Candidates.{equal}
use Rattle.sq_resolve.specs.declared.head.Head.{Head}
use Rattle.sq_resolve.specs.declared.head.Head.TheVariants as head
use Rattle.sq_resolve.specs.Scopes.{Variable, Context, meaning, symbol_head, last_given}
use Rattle.sq_readback.specs.Readable.{Declares}
use Rattle.sq_readback.proofs.Standing.{AreNamesOf, IsDeclared, IsPlain, StandAround}

-- the name is an identifier and means this
pub record Means (c : Context) (bs : List Variable) (x : List ℕ) (h : Head) : Type 0 where
  pub identifier : IsIdentifier x
  pub meaning_is : meaning c bs x ≡ Some h

-- ---- places of lists

among_at : (xs : List (List ℕ)) (k : ℕ) (x : List ℕ) → slice_get xs k ≡ Some x → among x xs ≡ true
among_at [] k x e = cc
among_at (y ∷ ys) zero x e = let same : y ≡ x =
    cc in ap (λ b. b || among x ys) (equal x y (sym same))
among_at (y ∷ ys) (suc k) x e = ap (λ b. bytes_eq x y || b) (among_at ys k x e)
    ∙ or_true (bytes_eq x y)
  where
    or_true : (b : Bool) → (b || true) ≡ true
    or_true true = refl
    or_true false = refl

pub sort_at : (vs : List Variable) (k : ℕ) (s : Sort) → has_sort_at (map (λ v. v.1) vs) k s ≡ true
    → (v : Variable) × ((slice_get vs k ≡ Some v) × (v.1 ≡ s))
sort_at [] k s e = absurd (false≢true e)
sort_at (v ∷ vs) zero s e = (v, (refl, (is_same_sort-decides v.1 s).0 e))
sort_at (v ∷ vs) (suc k) s e = sort_at vs k s e

pub count_at : (ms : List ℕ) (k n : ℕ) → has_count_at ms k n ≡ true → slice_get ms k ≡ Some n
count_at [] k n e = absurd (false≢true e)
count_at (m ∷ ms) zero n e = let same : m ≡ n = grind (arith, nat_tests) in ap Some same
count_at (m ∷ ms) (suc k) n e = count_at ms k n e

pub action_at : (actions : List Action) (k n : ℕ) → has_count_at (map (λ a. a.arity) actions) k n
    ≡ true → (x : Action) × ((slice_get actions k ≡ Some x) × (x.arity ≡ n))
action_at [] k n e = absurd (false≢true e)
action_at (x ∷ xs) zero n e = let same : x.arity ≡ n = grind (arith, nat_tests) in (x, (refl, same))
action_at (x ∷ xs) (suc k) n e = action_at xs k n e

module _ (c : Context) (ns : Names) (actions : List Action) (same : AreNamesOf ns c)
    (plain : IsPlain c actions) (bs : List Variable) (ss : List Sort)
    (st : StandAround ns bs ss) where
  -- ---- names that are used hide no binder, and no binder hides them

  used_variable : (x : List ℕ) → among x ns.vars ≡ true → is_used ns x ≡ true
  used_variable x e = by (is_some (found x ns.table)) (among x ns.vars) (among x ns.schemas) e
    where
      by : (a b d : Bool) → b ≡ true → (a || (b || d)) ≡ true
      by true b d e = refl
      by false true d e = refl
      by false false d e = cc

  used_schema : (x : List ℕ) → among x ns.schemas ≡ true → is_used ns x ≡ true
  used_schema x e = by (is_some (found x ns.table)) (among x ns.vars) (among x ns.schemas) e
    where
      by : (a b d : Bool) → d ≡ true → (a || (b || d)) ≡ true
      by true b d e = refl
      by false true d e = refl
      by false false true e = refl
      by false false false e = cc

  used_symbol : (x : List ℕ) (r : ℕ × Symbol) → found x ns.table ≡ Some r → is_used ns x ≡ true
  used_symbol x r e = ap (λ o. is_some o || (among x ns.vars || among x ns.schemas)) e

  none_given : (x : List ℕ) → last_given None x c.given ≡ None
  none_given x = ap (last_given None x) plain.nothing_given

  -- ---- variables

  variable_at : (k : ℕ) (v : Variable) → slice_get c.vars k ≡ Some v
      → slice_get ns.vars k ≡ Some v.0
  variable_at k v e =
      ap (λ l. slice_get l k) same.vars
      ∙ (slice_get-map (λ (w : Variable). w.0) c.vars k ∙ ap (option_map (λ (w : Variable). w.0)) e)

  pub free_means : (k : ℕ) (s : Sort) → has_sort_at (map (λ v. v.1) c.vars) k s ≡ true
      → Means c bs (text_at ns.vars k) (head.Free k s)
  free_means k s e =
      let found_var = sort_at c.vars k s e in
      let v = found_var.0 in
      let at = variable_at k v found_var.1.0 in
      let text : v.0 ≡ text_at ns.vars k = sym (ap (λ o. unwrap_or o []) at) in
      let named = plain.vars k v found_var.1.0 in
      let no_binder = st.unused v.0 (used_variable v.0 (among_at ns.vars k v.0 at)) in
      let nothing = none_given v.0 in
      let known = named.1 in
      let means : meaning c bs v.0 ≡ Some (head.Free k v.1) =
      rw (no_binder, nothing, known) refl in
      subst (λ x. Means c bs x (head.Free k s)) text
      (record {
        identifier = named.0;
        meaning_is = means
            ∙ ap (λ r. Some (head.Free k r)) found_var.1.1;
      })

  pub bound_means : (k : ℕ) (s : Sort) → has_sort_at ss k s ≡ true
      → Means c bs (text_at (reverse (map (λ v. v.0) bs)) k) (head.Bound k s)
  bound_means k s e =
      let b = st.inner k s e in
      let text : b.x ≡ text_at (reverse (map (λ v. v.0) bs)) k =
      sym (ap (λ o. unwrap_or o []) b.there) in
      let last = b.last in
      let inside = b.from_inside in
      let place : length bs - 1 - b.place ≡ k = omega arith in
      let means : meaning c bs b.x ≡ Some (head.Bound (length bs - 1 - b.place) s) = rw last refl in
      subst (λ x. Means c bs x (head.Bound k s)) text
      (record {
        identifier = b.identifier;
        meaning_is = means
            ∙ ap (λ n. Some (head.Bound n s)) place;
      })

  pub schema_means : (k : ℕ) → k < length c.schemas
      → Means c bs (text_at ns.schemas k) (head.Schema k Message)
  schema_means k h =
      let there = some_at c.schemas k h in
      let x = there.0 in
      let at : slice_get ns.schemas k ≡ Some x = ap (λ l. slice_get l k) same.schemas ∙ there.1 in
      let text : x ≡ text_at ns.schemas k = sym (ap (λ o. unwrap_or o []) at) in
      let named = plain.schemas k x there.1 in
      let no_binder = st.unused x (used_schema x (among_at ns.schemas k x at)) in
      let nothing = none_given x in
      let no_variable = named.1 in
      let known = named.2 in
      let means : meaning c bs x ≡ Some (head.Schema k Message) =
      rw (no_binder, nothing, no_variable, known) refl in
      subst (λ y. Means c bs y (head.Schema k Message)) text
      (record { identifier = named.0; meaning_is = means })
    where
      some_at : (xs : List (List ℕ)) (k : ℕ) → k < length xs
          → (x : List ℕ) × (slice_get xs k ≡ Some x)
      some_at [] k h = absurd (omega arith)
      some_at (x ∷ xs) zero h = (x, refl)
      some_at (x ∷ xs) (suc k) h = some_at xs k (omega arith)

  -- ---- symbols

  declared_means : (x : List ℕ) (s : Symbol) → IsDeclared c x s
      → (place : ℕ) × (meaning c bs x ≡ symbol_head c (Some (place, s)))
  declared_means x s d =
      let table_is : found x ns.table ≡ Some (d.place, s) = ap (found x) same.table ∙ d.found_is in
      let no_binder = st.unused x (used_symbol x (d.place, s) table_is) in
      let nothing = none_given x in
      let no_variable = d.no_variable in
      let no_schema = d.no_schema in
      let known = d.found_is in
      (d.place, rw (no_binder, nothing, no_variable, no_schema, known) refl)

  pub name_means : (n k : ℕ) → slice_get c.names n ≡ Some k → Declares c.table (symbol.Name n)
      → Means c bs (name_word ns n) (head.Name n k)
  unfolding name_word
  name_means n k e known =
      let d = plain.names n known in
      let x = spelling (is_name n) c.table in
      let m = declared_means x (symbol.Name n) d in
      let word : x ≡ spelling (is_name n) ns.table = ap (spelling (is_name n)) (sym same.table) in
      subst (λ y. Means c bs y (head.Name n k)) word
      (record {
        identifier = d.identifier;
        meaning_is = m.1
            ∙ ap (option_map (λ j. head.Name n j)) e;
      })

  pub function_means : (k : ℕ) (d : FunDecl) → slice_get c.funs (declared_number k) ≡ Some d
      → Declares c.table (symbol.Fun (declared_number k))
      → Means c bs (spelling (is_function (declared_number k)) ns.table)
      (head.Function (declared_number k) d.idx d.args d.result)
  function_means k d e known =
      let f = declared_number k in
      let decl = plain.functions k known in
      let x = spelling (is_function f) c.table in
      let m = declared_means x (symbol.Fun f) decl in
      let word : x ≡ spelling (is_function f) ns.table =
      ap (spelling (is_function f)) (sym same.table) in
      subst (λ y. Means c bs y (head.Function f d.idx d.args d.result)) word
      (record {
        identifier = decl.identifier;
        meaning_is = m.1
            ∙ ap (option_map (λ (j : FunDecl). head.Function f j.idx j.args j.result)) e;
      })

  pub action_means : (a n : ℕ) → has_count_at (map (λ x. x.arity) actions) a n ≡ true
      → Declares c.table (symbol.Action c.system a)
      → Means c bs (action_word ns a) (head.Action a n)
  unfolding action_word
  action_means a n e known =
      let at = action_at actions a n e in
      let d = plain.actions a known in
      let x = spelling (is_action c.system a) c.table in
      let m = declared_means x (symbol.Action c.system a) d in
      let word : x ≡ spelling (is_action ns.system a) ns.table =
      λ i. spelling (is_action (sym same.system i) a) (sym same.table i) in
      let own : (c.system == c.system) ≡ true = grind (arith, nat_tests) in
      let system = plain.actions_are a at.0 at.1.0 in
      let action = at.1.0 in
      let head_is : symbol_head c (Some (m.0, symbol.Action c.system a))
      ≡ Some (head.Action a (at.0).arity) = rw (own, system, action) refl in
      subst (λ y. Means c bs y (head.Action a n)) word
      (record {
        identifier = d.identifier;
        meaning_is = m.1
            ∙ (head_is ∙ ap (λ j. Some (head.Action a j)) at.1.1);
      })
