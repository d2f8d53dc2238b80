-- Which macros a term reads, at the values of the binders around each.
use Rattle.std.specs.Prelude.{◌≡◌, ℕ, ◌≤◌, List, ◌∷◌, Option, Some, None}
use Rattle.sq_term.specs.declared.term.Macro.{Macro}
use Rattle.sq_term.specs.declared.term.Macro.TheVariants.{Input}
use Rattle.sq_term.specs.declared.model.Value.{Value}
use Rattle.sq_term.specs.Lists.{Member}
use Rattle.sq_term.specs.Macros.{word}
use Rattle.sq_term.specs.Syntax.{TsTree, TermTree, name, fun, macro, schema, diff, le, ts_eq}
use Rattle.sq_term.specs.Syntax.{idx_eq, happens, all, some, find, TermTrees, nil, cons}
use Rattle.sq_term.specs.Translate.{Times, Assignment, macro_value, ts_value, domain, choices}

-- no schema variable, and each macro has the property
module _ (w : Times) (P : List Value → Macro → TsTree → Type 0) where
  abbrev mutual
    pub AtMacros : List Value → TermTree → Type 0
    AtMacros bs (name n is) = Unit {0}
    AtMacros bs (fun f is ts) = AllAtMacros bs ts
    AtMacros bs (macro m t) = P bs m t
    AtMacros bs (schema k) = ⊥
    AtMacros bs (diff x y) = AtMacros bs x × AtMacros bs y
    AtMacros bs (le t s) = Unit {0}
    AtMacros bs (ts_eq t s) = Unit {0}
    AtMacros bs (idx_eq i j) = Unit {0}
    AtMacros bs (happens t) = Unit {0}
    AtMacros bs (all s body) = (x : Value) → Member (domain w s) x → AtMacros (x ∷ bs) body
    AtMacros bs (some s body) = (x : Value) → Member (domain w s) x → AtMacros (x ∷ bs) body
    AtMacros bs (find c test found other) =
        ((es : List Value) → Member (choices w c bs) es → AtMacros es test × AtMacros es found)
        × AtMacros bs other

    pub AllAtMacros : List Value → TermTrees → Type 0
    AllAtMacros bs nil = Unit {0}
    AllAtMacros bs (cons t ts) = AtMacros bs t × AllAtMacros bs ts

-- undefined, or position p or an earlier one
abbrev pub IsNoLater : ℕ → Option ℕ → Type 0
IsNoLater p (Some r) = r ≤ p
IsNoLater p None = Unit {0}

abbrev pub IsEarlyInput : Times → Assignment → ℕ → List Value → Macro → TsTree → Type 0
IsEarlyInput w a p bs m t = (macro_value a bs m ≡ word Input) × IsNoLater p (ts_value w a bs t)

-- the term reads inputs alone, at position p or earlier
abbrev pub ReadsUpTo : Times → Assignment → ℕ → List Value → TermTree → Type 0
ReadsUpTo w a p bs t = AtMacros w (IsEarlyInput w a p) bs t
