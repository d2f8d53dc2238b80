-- The premises of rows, made from the sequent that they are to show.
use Rattle.std.specs.Prelude.{ℕ, zero, suc, length, List, [], ◌∷◌, ◌++◌, Bool, if◌then◌else◌}
use Rattle.sq_base.specs.declared.sort.Sort.{Sort}
use Rattle.sq_base.specs.declared.sort.Sort.TheVariants as sort
use Rattle.sq_term.specs.declared.term.Idx.TheVariants as idx
use Rattle.sq_term.specs.Arguments.{ArgTree, an_index, a_time}
use Rattle.sq_term.specs.Builtins.{takes_boolean}
use Rattle.sq_term.specs.Formulas.{falsity, equal, equivalent}
use Rattle.sq_term.specs.Pure.{is_pure}
use Rattle.sq_term.specs.Symbols.{Kind}
use Rattle.sq_term.specs.Syntax.{free, TermTree, TermTrees, cons}
use Rattle.sq_system.specs.Sequents.{Body, trace_body, local_body, equiv_body, SequentTree, sequent}
use Rattle.sq_system.specs.Sequents.{vars_of}

-- `g` in place of what a sequent asks. Of an equivalence it is asked as a formula on the trace.
abbrev pub asked : Body → TermTree → Body
asked (trace_body goal) g = trace_body g
asked (local_body side goal) g = local_body side g
asked (equiv_body known items) g = trace_body g

-- `H : g`: the same hypotheses and another goal
unfoldable pub asking : SequentTree → TermTree → SequentTree
asking (sequent vars hyps body) g = sequent vars hyps (asked body g)

-- `H + f : ..`: one more hypothesis
unfoldable pub assuming : SequentTree → TermTree → SequentTree
assuming (sequent vars hyps body) f = sequent vars (hyps ++ f ∷ []) body

-- other hypotheses
unfoldable pub with_hyps : List TermTree → SequentTree → SequentTree
with_hyps hyps (sequent vars old body) = sequent vars hyps body

-- one more variable
unfoldable pub with_variable : Sort → SequentTree → SequentTree
with_variable s (sequent vars hyps body) = sequent (vars ++ s ∷ []) hyps body

-- variable k, of this sort
abbrev pub variable : Sort → ℕ → ArgTree
variable sort.Index k = an_index (idx.Free k)
variable s k = a_time (free k)

-- the variable behind those of the sequent
abbrev pub new_variable : Sort → SequentTree → ArgTree
new_variable s q = variable s (length (vars_of q))

-- a list without its element k
abbrev pub without : {A : Type 0} → List A → ℕ → List A
without [] k = []
without (x ∷ xs) zero = xs
without (x ∷ xs) (suc k) = x ∷ without xs k

-- the trace formulas among these
abbrev pub pure_ones : List TermTree → List TermTree
pure_ones [] = []
pure_ones (t ∷ ts) = if is_pure t then t ∷ pure_ones ts else pure_ones ts

abbrev pub pure_or_false : TermTree → TermTree
pure_or_false t = if is_pure t then t else falsity

-- what is asked of two arguments: that Booleans are equivalent, that messages are equal
abbrev pub asked_alike : Bool → TermTree → TermTree → TermTree
asked_alike boolean u v = if boolean then equivalent u v else equal u v

-- each argument of the one list alike that of the other, from argument k of function f on
abbrev pub arguments_asked : SequentTree → Kind → ℕ → TermTrees → TermTrees → List SequentTree
arguments_asked s f k (cons u us) (cons v vs) =
    asking s (asked_alike (takes_boolean f k) u v) ∷ arguments_asked s f (suc k) us vs
arguments_asked s f k us vs = []
