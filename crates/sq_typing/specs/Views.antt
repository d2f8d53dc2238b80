-- Signatures and binders as the program holds them.
use Rattle.std.specs.Prelude.{ℕ, List, [], ◌++◌, map, replicate}
use Rattle.sq_base.specs.declared.sort.Sort.{Sort}
use Rattle.sq_term.specs.declared.action.Action.{Action}
use Rattle.sq_typing.specs.Typing.{Signature}
use Rattle.sq_typing.specs.Standing.{Subject, of_trace, of_side}
use Rattle.sq_typing.specs.declared.signature.Signature.{Signature as SignatureOf}
use Rattle.sq_typing.specs.declared.signature.Binders.{Binders, fold-Binders}
use Rattle.sq_typing.specs.declared.signature.Binders.TheOpen.{Binders-F}
use Rattle.sq_typing.specs.declared.standing.Subject.{Subject as SubjectOf}
use Rattle.sq_typing.specs.declared.standing.Subject.TheVariants as about

abbrev pub arities : List Action → List ℕ
arities actions = map (λ (a : Action). a.arity) actions

abbrev pub signature_tree : SignatureOf → Signature
signature_tree s = record {
  names = s.names.now;
  funs = s.funs.now;
  actions = arities s.actions.now;
  schemas = s.schemas;
  vars = s.vars.now;
}

abbrev pub binder_step : Binders-F (List Sort) → List Sort
binder_step Binders-F.Outermost = []
binder_step (Binders-F.Around s count outer) = replicate count s ++ outer.now

-- the sorts of the binders, the innermost first
unfoldable pub binder_sorts : Binders → List Sort
binder_sorts = fold-Binders (List Sort) binder_step

abbrev pub subject : SubjectOf → Subject
subject about.Trace = of_trace
subject (about.Side side) = of_side side
