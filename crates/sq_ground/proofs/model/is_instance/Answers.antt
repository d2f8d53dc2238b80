use Rattle.std.proofs.Common.{◌≡◌, ap, sym, ◌∙◌, true}
use Rattle.std.specs.Prelude.{◌&&◌, ◌==◌}
use Rattle.std.proofs.lemmas.Bool.{eq-eqb}
use Rattle.sq_term.specs.Lists.{same_numbers}
use Rattle.sq_ground.proofs.model.is_instance.Goals as goal

pub returns-then-n-i : goal.returns-then-n-i
returns-then-n-i c =
    let e : (c.args.n == c.args.i.now.act) ≡ true =
    eq-eqb c.args.n c.args.i.now.act c.if-n-i.true in
    c.are_same-same.ensures
    ∙ (ap (same_numbers c.args.idx.now) c.as_slice.ensures
    ∙ ap (λ b. b && same_numbers c.args.idx.now c.args.i.now.idx) (sym e))
