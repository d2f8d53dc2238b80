use Rattle.sq_term.specs.Records.{next_record}
use Rattle.sq_ground.specs.Calls.Readings.{kept, kept_record}
use Rattle.sq_ground.proofs.AlikeTerms.{alike_record, alike_same, alike_frame}
use Rattle.sq_ground.proofs.keeping.next_entry.Goals as goal

pub returns : goal.returns
returns c =
    let r = c.args.room in
    let a = c.args in
    let e = c.in_ok-exec.ensures r _ c.exec.ensures in
    alike_record r _
    (next_record (kept_record a.last.now) (kept a.input) (kept a.output) (kept a.cond))
    (alike_same r (kept a.input)) (alike_same r (kept a.output)) (alike_same r (kept a.cond)) e
    (alike_frame r (kept_record a.last.now) (kept a.input) (kept a.output) (kept a.cond)
    (kept c.in_ok-exec.exec) (kept c.in_ok-frame.frame) e
    (c.in_ok-frame.ensures r _ c.frame.ensures))
