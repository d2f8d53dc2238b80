use Rattle.std.proofs.Common.{sym, subst, ◌-◌, ◌<◌, ◌+◌, List, length, drop}
use Rattle.std.specs.Prelude.{get_or}
use Rattle.std.proofs.lemmas.List.{drop_all}
use Rattle.sq_term.specs.Systems.{system_tree}
use Rattle.sq_term.specs.Records.{at_undefined, record_of}
use Rattle.sq_ground.specs.declared.reading.Entry.{Entry}
use Rattle.sq_ground.specs.Calls.Alike.{AlikeRecord}
use Rattle.sq_ground.specs.Calls.Readings.{kept_record, kept_records}
use Rattle.sq_ground.proofs.Grounds.{next_of}
use Rattle.sq_ground.proofs.Tables.{PassSoFar, pass_start, some_entries, pass_next, pass_done}
use Rattle.sq_ground.proofs.table.entries_of.Goals as goal

pub loop-i-init : goal.loop-i-init
loop-i-init c =
    let actions = system_tree c.args.s.now in
    subst (PassSoFar c.args.room actions c.args.m.now c.args.left c.push.new.self)
    (sym c.as_slice-i-items.ensures)
    (pass_start c.args.room actions c.args.m.now c.args.left c.push.new.self c.new-entries.result
    c.in_ok-init_entry.field-0 c.new-entries.ensures c.in_ok-push.ensures.ok
    c.in_ok-init_entry.ensures)

pub entry_after-requires-clause-some : goal.entry_after-requires-clause-some
entry_after-requires-clause-some c =
    subst (λ (es : List Entry). 0 < length es) (sym c.as_slice.ensures)
    (some_entries c.args.room
    (system_tree c.args.s.now) c.args.m.now c.args.left c.loop-i.entries _ c.loop-i.invariant)

pub loop-i-preserved : goal.loop-i-preserved
loop-i-preserved c =
    let actions = system_tree c.args.s.now in
    let items = c.as_slice-i-items.result.now in
    let left = next_of items c.loop-i.i-index c.i-item.result c.loop-i-test.true c.i-item.is in
    let e = c.in_ok-entry.entry in
    let h : AlikeRecord c.args.room (kept_record e)
    (record_of actions c.args.m.now c.args.left (kept_records c.loop-i.entries)
    (get_or (kept_records c.loop-i.entries) (length c.loop-i.entries - 1) at_undefined)
    c.i-item.result) =
    subst (λ (es : List Entry). AlikeRecord c.args.room (kept_record e)
    (record_of actions c.args.m.now c.args.left (kept_records es)
    (get_or (kept_records es) (length es - 1) at_undefined) c.i-item.result)) c.as_slice.ensures
    c.in_ok-entry.ensures in
    pass_next c.args.room actions c.args.m.now c.args.left c.loop-i.entries
    c.push-in-loop-i.new.self e c.i-item.result (drop c.loop-i.i-index items)
    (drop (c.loop-i.i-index + 1) items) left c.in_ok-push-2.ensures.ok h c.loop-i.invariant

pub returns : goal.returns
returns c =
    pass_done c.args.room (system_tree c.args.s.now) c.args.m.now c.args.left c.loop-i.entries _
    (drop_all _ _ c.loop-i-test.false) c.loop-i.invariant
