-- Terms whose free variables are among the first n.
use Rattle.std.specs.Prelude.{ℕ, ◌<◌, [], ◌∷◌, ◌++◌}
use Rattle.sq_term.specs.declared.term.Idx.{Idx}
use Rattle.sq_term.specs.declared.term.Idx.TheVariants.{Free, Bound}
use Rattle.sq_term.specs.declared.model.Value.{Value}
use Rattle.sq_term.specs.Lists.{Each}
use Rattle.sq_term.specs.Macros.{macro_indices}
use Rattle.sq_term.specs.Syntax.{TsTree, free, bound, init, pred, action, TermTree, name, fun}
use Rattle.sq_term.specs.Syntax.{macro, schema, diff, le, ts_eq, idx_eq, happens, all, some, find}
use Rattle.sq_term.specs.Syntax.{TermTrees, nil, cons}
use Rattle.sq_term.specs.Translate.{Assignment}

abbrev pub IdxWithin : ℕ → Idx → Type 0
IdxWithin n (Free k) = k < n
IdxWithin n (Bound k) = Unit {0}

abbrev pub TsWithin : ℕ → TsTree → Type 0
TsWithin n (free k) = k < n
TsWithin n (bound k) = Unit {0}
TsWithin n init = Unit {0}
TsWithin n (pred t) = TsWithin n t
TsWithin n (action k is) = Each (IdxWithin n) is

abbrev mutual
  pub IsWithin : ℕ → TermTree → Type 0
  IsWithin n (name k is) = Each (IdxWithin n) is
  IsWithin n (fun f is ts) = Each (IdxWithin n) is × AreWithin n ts
  IsWithin n (macro m t) = Each (IdxWithin n) (macro_indices m) × TsWithin n t
  IsWithin n (schema k) = Unit {0}
  IsWithin n (diff x y) = IsWithin n x × IsWithin n y
  IsWithin n (le t s) = TsWithin n t × TsWithin n s
  IsWithin n (ts_eq t s) = TsWithin n t × TsWithin n s
  IsWithin n (idx_eq i j) = IdxWithin n i × IdxWithin n j
  IsWithin n (happens t) = TsWithin n t
  IsWithin n (all s body) = IsWithin n body
  IsWithin n (some s body) = IsWithin n body
  IsWithin n (find c test found other) = IsWithin n test × IsWithin n found × IsWithin n other

  pub AreWithin : ℕ → TermTrees → Type 0
  AreWithin n nil = Unit {0}
  AreWithin n (cons t ts) = IsWithin n t × AreWithin n ts

-- the value of one more variable
abbrev pub with_value : Assignment → Value → Assignment
with_value a x = record { variables = a.variables ++ x ∷ []; schemas = a.schemas }
