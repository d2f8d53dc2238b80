use Rattle.sq_term.specs.Models.{times_of}
use Rattle.sq_ground.proofs.InstanceLists.{none_listed, one_listed}
use Rattle.sq_ground.proofs.instances.choices.Goals as goal

pub returns-then-m-eq0 : goal.returns-then-m-eq0
returns-then-m-eq0 c =
    none_listed (times_of c.args.m.now) c.args.c c.args.bs.now c.new-lists.result c.if-m-eq0.true
    c.if-c-eq0.false c.new-lists.ensures

pub returns : goal.returns
returns c =
    one_listed (times_of c.args.m.now) c.args.c c.args.bs.now c.in_ok-only_choice.field-0
    c.new-lists.result c.push.new.self c.if-m-gt1.false c.if-m-eq0.false c.new-lists.ensures
    c.in_ok-push.ensures.ok c.in_ok-only_choice.ensures
