-- The name at the place of a symbol is the name of its first declaration.
use Rattle.std.proofs.Common.{◌≡◌, ◌+◌, ℕ, Bool, true, false, if◌then◌else◌, List, [], ◌∷◌, ◌++◌}
use Rattle.std.proofs.Common.{Some}
use Rattle.std.proofs.Common.{slice_get, length, nat_eq, append_assoc, length-append, refl, ap, ◌∙◌}
use Rattle.std.specs.HashMap.{get}
use Rattle.sq_sym.specs.declared.symbol.Symbol.{Symbol}
use Rattle.sq_print.specs.Spellings.{place_from, word_at, TellsFrom}
use Rattle.sq_print.specs.declared.spelling.Spellings.{Spellings}
use Rattle.sq_print.specs.Names.{spelling, is_name, is_action, is_function}

abbrev Declarations : Type 0
Declarations = List (List ℕ × Symbol)

here : (front : Declarations) (d : List ℕ × Symbol) (ds : Declarations)
    → slice_get (front ++ d ∷ ds) (length front) ≡ Some d
here [] d ds = refl
here (x ∷ xs) d ds = here xs d ds

longer : (front : Declarations) (d : List ℕ × Symbol) → length (front ++ d ∷ []) ≡ length front + 1
longer front d = length-append front (d ∷ [])

word_behind : (test : Symbol → Bool) (front rest : Declarations)
    → word_at (front ++ rest) (place_from (length front) test rest) ≡ spelling test rest
word_behind test front [] = refl
word_behind test front (d ∷ ds) = by (test d.1) (word_behind test (front ++ d ∷ []) ds)
  where
    by : (b : Bool)
        → word_at ((front ++ d ∷ []) ++ ds) (place_from (length (front ++ d ∷ [])) test ds)
        ≡ spelling test ds
        → word_at (front ++ d ∷ ds)
        (if b then Some (length front) else place_from (length front + 1) test ds)
        ≡ (if b then d.0 else spelling test ds)
    by true next = rw (here front d ds) refl
    by false next = rw (append_assoc, longer front d) at next

pub word_is : (test : Symbol → Bool) (ds : Declarations)
    → word_at ds (place_from 0 test ds) ≡ spelling test ds
word_is test ds = word_behind test [] ds

pub name_is : (ds : Declarations) (system : ℕ) (s : Spellings) (n : ℕ) → TellsFrom 0 ds system s
    → word_at ds (get nat_eq s.names n) ≡ spelling (is_name n) ds
name_is ds system s n t = ap (word_at ds) (t.names n) ∙ word_is (is_name n) ds

pub function_is : (ds : Declarations) (system : ℕ) (s : Spellings) (f : ℕ) → TellsFrom 0 ds system s
    → word_at ds (get nat_eq s.functions f) ≡ spelling (is_function f) ds
function_is ds system s f t = ap (word_at ds) (t.functions f) ∙ word_is (is_function f) ds

pub action_is : (ds : Declarations) (system : ℕ) (s : Spellings) (a : ℕ) → TellsFrom 0 ds system s
    → word_at ds (get nat_eq s.actions a) ≡ spelling (is_action system a) ds
action_is ds system s a t = ap (word_at ds) (t.actions a) ∙ word_is (is_action system a) ds
