-- An environment to which something is added.
use Rattle.std.proofs.Common.{◌≡◌, ◌≤◌, ◌+◌, length, take, List, [], ◌∷◌, ◌++◌, map, ℕ, zero, suc}
use Rattle.std.proofs.Common.{true, refl, sym, ap, ◌∙◌, subst, OnOk, OnErr}
use Rattle.std.specs.Prelude.{Result, Ok, Err}
use Rattle.std.proofs.lemmas.List.{length-map}
use Rattle.std.specs.Coded.{Coded-set, coded_bool}
use Rattle.sq_term.specs.declared.action.Action.{Action}
use Rattle.sq_term.specs.declared.signature.FunDecl.{FunDecl}
use Rattle.sq_term.specs.Systems.{system_tree}
use Rattle.sq_system.specs.declared.env.Env.{Env}
use Rattle.sq_system.specs.declared.env.Stmt.{Stmt}
use Rattle.sq_typing.specs.Functions.{any_function, are_declared, builtin_functions}
use Rattle.sq_system.specs.Limits.{most_entries}
use Rattle.sq_system.specs.Statements.{EnvTree, stmt_tree}
use Rattle.sq_system.specs.Environments.{env_tree, without_declarations, truncated}
use Rattle.sq_system.specs.WellFormed.{is_environment, is_statement, is_well_sorted}
use Rattle.sq_system.proofs.EnvLaws.{environment_names, environment_functions, environment_system}
use Rattle.sq_system.proofs.EnvLaws.{environment_statement, without_declarations_is}

abbrev fields : List ℕ → List FunDecl → List (List Action) → List Stmt → EnvTree
fields names funs systems stmts =
    record {
      names = names;
      funs = funs;
      systems = map system_tree systems;
      stmts =
          map stmt_tree stmts;
    }

abbrev Kept : List ℕ → List FunDecl → List (List Action) → List Stmt → Type 0
Kept names funs systems stmts = is_environment (fields names funs systems stmts) ≡ true

abbrev made : (names : List ℕ) (funs : List FunDecl) (systems : List (List Action))
    (stmts : List Stmt) → Kept names funs systems stmts → Env
made names funs systems stmts kept =
    record { names = names; funs = funs; systems = systems; stmts = stmts; well_formed = kept }

-- environments with the same fields are the same
module _ (names : List ℕ) (funs : List FunDecl) (systems : List (List Action)) (stmts : List Stmt)
    (kept : Kept names funs systems stmts) where
  same : (kept' : Kept names funs systems stmts)
      → made names funs systems stmts kept' ≡ made names funs systems stmts kept
  same kept' =
      ap (made names funs systems stmts)
      (Coded-set coded_bool (is_environment (fields names funs systems stmts)) true kept' kept)

  pub same_names : (new : List ℕ) (other : Kept new funs systems stmts) → new ≡ names
      → made new funs systems stmts other ≡ made names funs systems stmts kept
  same_names new other is =
      subst (λ (l : List ℕ). (k : Kept l funs systems stmts)
      → made l funs systems stmts k ≡ made names funs systems stmts kept) (sym is) same other

  pub same_funs : (new : List FunDecl) (other : Kept names new systems stmts) → new ≡ funs
      → made names new systems stmts other ≡ made names funs systems stmts kept
  same_funs new other is =
      subst (λ (l : List FunDecl). (k : Kept names l systems stmts)
      → made names l systems stmts k ≡ made names funs systems stmts kept) (sym is) same other

  pub same_systems : (new : List (List Action)) (other : Kept names funs new stmts) → new ≡ systems
      → made names funs new stmts other ≡ made names funs systems stmts kept
  same_systems new other is =
      subst (λ (l : List (List Action)). (k : Kept names funs l stmts)
      → made names funs l stmts k ≡ made names funs systems stmts kept) (sym is) same other

  pub same_stmts : (new : List Stmt) (other : Kept names funs systems new) → new ≡ stmts
      → made names funs systems new other ≡ made names funs systems stmts kept
  same_stmts new other is =
      subst (λ (l : List Stmt). (k : Kept names funs systems l)
      → made names funs systems l k ≡ made names funs systems stmts kept) (sym is) same other

pub on_err : {T E P : Type 0} (r : Result T E) → P → OnErr r P
on_err (Ok v) p = tt
on_err (Err e) p = p

-- what holds of the list before and with more holds of what a push leaves
after_push : {A T E : Type 0} (P : List A → Type 0) (r : Result T E) (xs ys new : List A) → P xs
    → P (xs ++ ys) → OnOk r (new ≡ xs ++ ys) → OnErr r (new ≡ xs) → P new
after_push P (Ok v) xs ys new p q ok err = subst P (sym ok) q
after_push P (Err e) xs ys new p q ok err = subst P (sym err) p

map_push : {A B : Type 0} (f : A → B) (xs : List A) (y : A)
    → map f xs ++ f y ∷ [] ≡ map f (xs ++ y ∷ [])
map_push f [] y = refl
map_push f (x ∷ xs) y = ap (λ (l : List _). f x ∷ l) (map_push f xs y)

module _ {T E : Type 0} (e : Env) (r : Result T E) where
  pub with_names : (ns new : List ℕ) → length e.names + length ns ≤ most_entries
      → OnOk r (new ≡ e.names ++ ns) → OnErr r (new ≡ e.names)
      → Kept new e.funs e.systems e.stmts
  with_names ns new room ok err =
      after_push (λ l. Kept l e.funs e.systems e.stmts) r e.names ns new e.well_formed
      (environment_names (env_tree e) e.well_formed ns room) ok err

  pub with_functions : (fs new : List FunDecl) → length e.funs + length fs ≤ most_entries
      → are_declared any_function fs ≡ true
      → OnOk r (new ≡ e.funs ++ fs) → OnErr r (new ≡ e.funs) → Kept e.names new e.systems e.stmts
  with_functions fs new room declared ok err =
      after_push (λ l. Kept e.names l e.systems e.stmts) r e.funs fs new e.well_formed
      (environment_functions (env_tree e) e.well_formed fs room declared) ok err

  pub with_system : (s : List Action) (new : List (List Action))
      → length e.systems + 1 ≤ most_entries
      → is_well_sorted (env_tree e) (system_tree s) ≡ true
      → OnOk r (new ≡ e.systems ++ s ∷ []) → OnErr r (new ≡ e.systems)
      → Kept e.names e.funs new e.stmts
  with_system s new room sorted ok err =
      after_push (λ l. Kept e.names e.funs l e.stmts) r e.systems (s ∷ []) new e.well_formed
      (subst
      (λ l. is_environment (record (env_tree e) { systems = l }) ≡ true)
      (map_push system_tree e.systems s)
      (environment_system (env_tree e) e.well_formed (system_tree s)
      (subst (λ n. n + 1 ≤ most_entries) (sym (length-map e.systems system_tree)) room) sorted))
      ok err

  pub with_statement : (g : Stmt) (new : List Stmt) → length e.stmts + 1 ≤ most_entries
      → is_statement (env_tree e) (stmt_tree g) ≡ true
      → OnOk r (new ≡ e.stmts ++ g ∷ []) → OnErr r (new ≡ e.stmts)
      → Kept e.names e.funs e.systems new
  with_statement g new room stands ok err =
      after_push (λ l. Kept e.names e.funs e.systems l) r e.stmts (g ∷ []) new e.well_formed
      (subst
      (λ l. is_environment (record (env_tree e) { stmts = l }) ≡ true)
      (map_push stmt_tree e.stmts g)
      (environment_statement (env_tree e) e.well_formed (stmt_tree g)
      (subst (λ n. n + 1 ≤ most_entries) (sym (length-map e.stmts stmt_tree)) room) stands))
      ok err

-- an environment with these fields
pub kept_as : (e : EnvTree) (names : List ℕ) (funs : List FunDecl) (systems : List (List Action))
    (stmts : List Stmt) → is_environment e ≡ true → names ≡ e.names → funs ≡ e.funs
    → map system_tree systems ≡ e.systems → map stmt_tree stmts ≡ e.stmts
    → Kept names funs systems stmts
kept_as e names funs systems stmts is n f s g =
    ap is_environment (λ i. record { names = n i; funs = f i; systems = s i; stmts = g i }) ∙ is

pub first_kept : (names : List ℕ) (funs : List FunDecl) (systems : List (List Action))
    (stmts : List Stmt) → names ≡ [] → funs ≡ builtin_functions → systems ≡ [] ∷ [] → stmts ≡ []
    → Kept names funs systems stmts
first_kept names funs systems stmts n f s g =
    kept_as without_declarations names funs systems stmts without_declarations_is n f
    (ap (map system_tree) s) (ap (map stmt_tree) g)

map_take : {A B : Type 0} (f : A → B) (n : ℕ) (xs : List A) → map f (take n xs) ≡ take n (map f xs)
map_take f zero [] = refl
map_take f zero (x ∷ xs) = refl
map_take f (suc n) [] = refl
map_take f (suc n) (x ∷ xs) = ap (λ (l : List _). f x ∷ l) (map_take f n xs)

-- a shorter one, where it is an environment
pub truncated_kept : (e : Env) (n m : ℕ) (names : List ℕ) (systems : List (List Action))
    → is_environment (truncated n m (env_tree e)) ≡ true
    → names ≡ take n e.names → systems ≡ take m e.systems → Kept names e.funs systems e.stmts
truncated_kept e n m names systems is p q =
    kept_as (truncated n m (env_tree e)) names e.funs systems e.stmts is p refl
    (ap (map system_tree) q ∙ map_take system_tree m e.systems) refl

pub truncated_tree : (m : ℕ) (old new : List (List Action)) → new ≡ take m old
    → map system_tree new ≡ take m (map system_tree old)
truncated_tree m old new q = ap (map system_tree) q ∙ map_take system_tree m old
