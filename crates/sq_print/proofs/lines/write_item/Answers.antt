use Rattle.std.proofs.Common.{sym, ◌∙◌}
use Rattle.std.proofs.lemmas.Bool.{false≢true}
use Rattle.sq_print.specs.Scopes.{names_of}
use Rattle.sq_print.proofs.Items.{one_side, two_sides}
use Rattle.sq_print.proofs.lines.write_item.Goals as goal

pub returns-then-same-clause-text : goal.returns-then-same-clause-text
returns-then-same-clause-text c =
    let item = c.args.item.now in
    c.in_ok-write_whole.ensures.text
    ∙ one_side (names_of c.args.scope.now) c.args.out.now item.left item.right
    (c.same.ensures.0 c.if-same.true)

pub returns-clause-text : goal.returns-clause-text
returns-clause-text c =
    let item = c.args.item.now in
    two_sides
    (names_of c.args.scope.now) c.args.out.now c.push_str.new.self c.write_whole-2.new.out
    c.push_str-2.new.self c.write_whole-3.new.out c.push_str-3.new.self item.left item.right
    (λ h. false≢true (sym c.if-same.false ∙ c.same.ensures.1 h))
    c.in_ok-push_str.ensures.ok c.in_ok-write_whole-2.ensures.text c.in_ok-push_str-2.ensures.ok
    c.in_ok-write_whole-3.ensures.text c.in_ok-push_str-3.ensures.ok
