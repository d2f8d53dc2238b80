use Rattle.std.proofs.Common.{◌∙◌, ◌∷◌, [], sym, subst}
use Rattle.sq_elab.specs.Declarations.{IsTried}
use Rattle.sq_elab.proofs.DeclareLaws.{tried-behind}
use Rattle.sq_elab.proofs.declare.add.Goals as goal

pub returns-in-Ok-clause-tried : goal.returns-in-Ok-clause-tried
returns-in-Ok-clause-tried c =
    let one = (c.as_str-2.result.now, c.args.one.now.what) ∷ [] in
    subst (λ t. IsTried t c.insert.new.self) (sym c.in-Ok.ensures.ok.1)
    (tried-behind c.args.table.now one c.args.tried.now c.insert.new.self
    c.in_ok-from_str.field-0 c.args.one.now.name.now c.in_ok-name.number
    (c.in_ok-from_str.ensures.ok ∙ c.as_str.ensures) c.requires c.in_ok-name.ensures.taken
    c.in_ok-insert.ensures.updates)
