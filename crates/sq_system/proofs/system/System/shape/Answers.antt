use Rattle.std.proofs.Common.{◌≡◌, ◌<◌, length, slice_get, Some, get_or, sum_by, ap, sym, ◌∙◌}
use Rattle.std.proofs.Common.{subst}
use Rattle.std.proofs.lemmas.Option.{slice_get-get_or}
use Rattle.sq_term.specs.Systems.{indices_bound}
use Rattle.sq_system.proofs.SystemLaws.{indices_of_path}
use Rattle.sq_system.proofs.system.System.shape.Goals as goal

pub returns-clause-bound : goal.returns-clause-bound
returns-clause-bound c =
    let xs = c.self.inside.actions in
    let x = c.index-as_slice-a.result in
    let within : c.args.a < length xs =
    subst (λ ys. c.args.a < length ys) (sym c.self.view_is) c.requires in
    let at : x ≡ get_or xs c.args.a x =
    c.index-as_slice-a.is ∙ ap (λ ys. get_or ys c.args.a x) c.as_slice.ensures in
    let there : slice_get xs c.args.a ≡ Some x =
    slice_get-get_or xs c.args.a x within ∙ ap Some (sym at) in
    ap (sum_by indices_bound) c.as_slice-2.ensures
    ∙ indices_of_path xs c.args.a x c.self.invariant.0 there
