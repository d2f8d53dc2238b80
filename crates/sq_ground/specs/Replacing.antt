-- What replacing a term by an equal one does to a translation.
use Rattle.std.specs.Prelude.{◌≡◌, List, [], Bool, true}
use Rattle.sq_base.specs.declared.sort.Sort.{Sort}
use Rattle.sq_term.specs.Closed.{is_closed}
use Rattle.sq_term.specs.Ground.{Ground}
use Rattle.sq_term.specs.Signatures.{is_boolean_sort}
use Rattle.sq_term.specs.Syntax.{TermTree}
use Rattle.sq_term.specs.Translate.{Assignment, translate}
use Rattle.sq_subst.specs.Replacement.{term_replaced}
use Rattle.sq_typing.specs.Functions.{are_functions}
use Rattle.sq_typing.specs.Typing.{Signature, has_sort}
use Rattle.sq_ground.specs.Lines.{Line, local, alike}
use Rattle.sq_ground.specs.Replaced.{Replaced}
use Rattle.sq_ground.specs.Theories.{Theory, world_at}
use Rattle.sq_ground.specs.Derivations.{HasDerivation}

abbrev pub meaning : Theory → Bool → Assignment → TermTree → Ground
meaning th left a t = translate (world_at th left) a [] t

-- under the hypotheses, two terms of the sort mean the same: equal messages, or Booleans that imply
-- each other
abbrev pub alike_line : Theory → Bool → Assignment → List Ground → Sort → TermTree → TermTree → Line
alike_line th left a hyps s t u =
    local left
    (record {
      hyps = hyps;
      goal = alike (is_boolean_sort s) (meaning th left a t) (meaning th left a u);
    })

-- the functions of a signature are those that the rules read
abbrev pub IsReadBy : Theory → Signature → Type 0
IsReadBy th g = (g.funs ≡ th.funs) × (are_functions th.funs ≡ true)

-- The result means the term with some places of the meaning of `from` replaced by that of `to`.
abbrev pub ReplacesTheMeaning : Type 0
ReplacesTheMeaning =
    (th : Theory) (left : Bool) (a : Assignment) (from to t : TermTree) → is_closed 0 from ≡ true
    → is_closed 0 to ≡ true
    → Replaced (meaning th left a from) (meaning th left a to) (meaning th left a t)
    (meaning th left a (term_replaced from to t))

-- In a well-sorted term, where a line says that both mean the same, a line says so of the term and
-- the result.
abbrev pub ReplacingEqualsIsCongruent : Type 0
ReplacingEqualsIsCongruent =
    (th : Theory) (left : Bool) (a : Assignment) (g : Signature) (hyps : List Ground) (r s : Sort)
    (from to t : TermTree) → IsReadBy th g → is_closed 0 from ≡ true → is_closed 0 to ≡ true
    → has_sort g [] r from ≡ true → has_sort g [] s t ≡ true
    → HasDerivation th (alike_line th left a hyps r from to)
    → HasDerivation th (alike_line th left a hyps s t (term_replaced from to t))
