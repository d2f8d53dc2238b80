-- Statements of an environment, as the program looks them up.
use Rattle.std.proofs.Common.{◌≡◌, ℕ, zero, suc, List, [], ◌∷◌, map, get_or, Option, Some, None}
use Rattle.std.proofs.Common.{refl, ap, ◌∙◌}
use Rattle.std.specs.Prelude.{slice_get}
use Rattle.sq_system.specs.declared.env.Stmt.{Stmt}
use Rattle.sq_system.specs.Statements.{stmt_tree}
use Rattle.sq_system.specs.Usable.{no_statement, statement_or_none}

abbrev pub found_or : {A B : Type 0} → (A → B) → B → Option A → B
found_or f d None = d
found_or f d (Some x) = f x

pub get_or-map : {A B : Type 0} (f : A → B) (d : B) (xs : List A) (k : ℕ)
    → found_or f d (slice_get xs k) ≡ get_or (map f xs) k d
get_or-map f d [] k = refl
get_or-map f d (x ∷ xs) zero = refl
get_or-map f d (x ∷ xs) (suc k) = get_or-map f d xs k

-- a statement as it is looked up
pub statement-is : (stmts : List Stmt) (k : ℕ) (o : Option Stmt) → o ≡ slice_get stmts k
    → statement_or_none o ≡ get_or (map stmt_tree stmts) k no_statement
statement-is stmts k o e =
    ap statement_or_none e ∙ (same (slice_get stmts k) ∙ get_or-map stmt_tree no_statement stmts k)
  where
    same : (q : Option Stmt) → statement_or_none q ≡ found_or stmt_tree no_statement q
    same None = refl
    same (Some x) = refl

pub ruleset statement_rules = (statement-is)
