-- The facts of terms: what the calculus knows of a term by its shape.
use Rattle.std.specs.Prelude.{ℕ, zero, suc, ◌≡◌, List, true}
use Rattle.sq_base.specs.declared.sort.Sort.{Sort}
use Rattle.sq_base.specs.declared.sort.Sort.TheVariants.{Message, Boolean, Index}
use Rattle.sq_term.specs.declared.signature.FunDecl.{FunDecl}
use Rattle.sq_term.specs.Formulas.{unary, binary, ternary, truth, negation, both, either, implies}
use Rattle.sq_term.specs.Formulas.{equal, equivalent, conditional, pair, first, second, of_bool}
use Rattle.sq_term.specs.Signatures.{is_signature}
use Rattle.sq_term.specs.Symbols.{declared}
use Rattle.sq_term.specs.Syntax.{TermTree, all, some, find}

-- t is `if b then u else v`
abbrev pub conditional_fact : TermTree → TermTree → TermTree → TermTree → TermTree
conditional_fact t b u v = both (implies b (equal t u)) (implies (negation b) (equal t v))

-- t is the message of the Boolean b
abbrev pub boolean_fact : TermTree → TermTree → TermTree
boolean_fact t b = equivalent (equal t (of_bool truth)) b

-- so many quantifiers over indices
abbrev pub all_indices : ℕ → TermTree → TermTree
all_indices zero t = t
all_indices (suc c) t = all Index (all_indices c t)

abbrev pub some_indices : ℕ → TermTree → TermTree
some_indices zero t = t
some_indices (suc c) t = some Index (some_indices c t)

-- t is `find .. such that F in u else v` with c indices. No index of t is loose, so that t stands
-- as it is below the quantifiers.
abbrev pub find_fact : TermTree → ℕ → TermTree → TermTree → TermTree → TermTree
find_fact t c F u v =
    either (some_indices c (both F (equal t u))) (both (all_indices c (negation F)) (equal t v))

-- checksign(m,sign(m,k),pk(k)), where sign is declared function f
abbrev pub signed : ℕ → TermTree → TermTree → TermTree
signed f m k =
    ternary (declared (suc f)) m (binary (declared f) m k) (unary (declared (suc (suc f))) k)

-- what the calculus knows of a term of this sort by its shape
pub data HasFact (funs : List FunDecl) : Sort → TermTree → TermTree → Type 0 where
  of_conditional : (b u v : TermTree)
      → HasFact funs Message (conditional b u v) (conditional_fact (conditional b u v) b u v)
  of_first : (u v : TermTree)
      → HasFact funs Message (first (pair u v)) (equal (first (pair u v)) u)
  of_second : (u v : TermTree)
      → HasFact funs Message (second (pair u v)) (equal (second (pair u v)) v)
  of_boolean : (b : TermTree) → HasFact funs Message (of_bool b) (boolean_fact (of_bool b) b)
  of_signature : (f : ℕ) (m k : TermTree) → is_signature funs f ≡ true
      → HasFact funs Boolean (signed f m k) (signed f m k)
  of_find : (c : ℕ) (F u v : TermTree)
      → HasFact funs Message (find c F u v) (find_fact (find c F u v) c F u v)
