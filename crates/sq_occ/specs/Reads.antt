-- What a term holds at its macros and schema variables.
use Rattle.std.specs.Prelude.{ℕ, List, ◌∷◌}
use Rattle.sq_term.specs.declared.term.Macro.{Macro}
use Rattle.sq_term.specs.declared.model.Value.{Value}
use Rattle.sq_term.specs.Lists.{Member}
use Rattle.sq_term.specs.Syntax.{TsTree, TermTree, name, fun, macro, schema, diff, le, ts_eq}
use Rattle.sq_term.specs.Syntax.{idx_eq, happens, all, some, find, TermTrees, nil, cons}
use Rattle.sq_term.specs.Translate.{Times, domain, choices}

-- each macro has a property at the values of the binders around it, and each schema variable one
module _ (w : Times) (P : List Value → Macro → TsTree → Type 0) (S : ℕ → Type 0) where
  abbrev mutual
    pub AtPlaces : List Value → TermTree → Type 0
    AtPlaces es (name n is) = Unit {0}
    AtPlaces es (fun f is ts) = AllAtPlaces es ts
    AtPlaces es (macro m t) = P es m t
    AtPlaces es (schema k) = S k
    AtPlaces es (diff x y) = AtPlaces es x × AtPlaces es y
    AtPlaces es (le t s) = Unit {0}
    AtPlaces es (ts_eq t s) = Unit {0}
    AtPlaces es (idx_eq i j) = Unit {0}
    AtPlaces es (happens t) = Unit {0}
    AtPlaces es (all s body) = (x : Value) → Member (domain w s) x → AtPlaces (x ∷ es) body
    AtPlaces es (some s body) = (x : Value) → Member (domain w s) x → AtPlaces (x ∷ es) body
    AtPlaces es (find c test found other) =
        ((xs : List Value) → Member (choices w c es) xs → AtPlaces xs test × AtPlaces xs found)
        × AtPlaces es other

    pub AllAtPlaces : List Value → TermTrees → Type 0
    AllAtPlaces es nil = Unit {0}
    AllAtPlaces es (cons t ts) = AtPlaces es t × AllAtPlaces es ts
