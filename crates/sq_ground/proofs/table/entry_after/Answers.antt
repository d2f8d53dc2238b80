use Rattle.std.proofs.Common.{◌≡◌, ap, sym, ◌∙◌, subst, ◌-◌, ◌++◌, List, [], ◌∷◌, length, map}
use Rattle.std.proofs.Common.{arith}
use Rattle.std.specs.Prelude.{get_or}
use Rattle.sq_term.specs.declared.term.Macro.TheVariants.{Input}
use Rattle.sq_term.specs.declared.model.Value.{Value}
use Rattle.sq_term.specs.declared.model.Value.TheVariants.{Index as Number}
use Rattle.sq_term.specs.Macros.{word}
use Rattle.sq_term.specs.GroundFormulas.{attacked}
use Rattle.sq_term.specs.Systems.{action_at, system_tree}
use Rattle.sq_term.specs.Translate.{translate}
use Rattle.sq_term.specs.Records.{Record, at_undefined, own_indices, record_of, world_over}
use Rattle.sq_ground.specs.Calls.Alike.{Alike, AlikeRecord}
use Rattle.sq_ground.specs.Calls.Translations.{values_alone}
use Rattle.sq_ground.specs.Calls.Readings.{kept, kept_record, kept_records}
use Rattle.sq_ground.proofs.Kept.{entry_at, ok_map}
use Rattle.sq_ground.proofs.Tables.{alike_record_trans, with_input, alike_after}
use Rattle.sq_ground.proofs.table.entry_after.Goals as goal

pub returns : goal.returns
returns c =
    let room = c.args.room in
    let actions = system_tree c.args.s.now in
    let m = c.args.m.now in
    let es = c.args.entries.now in
    let last = c.index-entries-entries.result in
    let half = c.in_ok-half.half in
    let before = kept_records es in
    let w = world_over m c.args.left (before ++ kept_record half ∷ []) in
    let at_end : get_or before (length es - 1) at_undefined ≡ kept_record last =
    entry_at es (length es - 1) last
    (omega (arith, c.requires.some)) c.index-entries-entries.is in
    let values : c.as_slice-2.result.now ≡ map Number c.args.i.now.idx =
    c.as_slice-2.ensures ∙ (c.in_ok-values.ensures ∙ ap (map Number) c.as_slice.ensures) in
    let hb : AlikeRecord room (kept_record half)
    (record at_undefined { input = attacked (kept_record last).frame }) =
    alike_record_trans room (kept_record half)
    (record at_undefined { input = kept c.in_ok-input.input }) _ c.in_ok-half.ensures
    (with_input room (kept c.in_ok-input.input)
    (attacked (kept_record last).frame) c.in_ok-input.ensures) in
    let ho : Alike room (kept c.in_ok-output.output)
    (translate w (own_indices c.args.i.now) [] (action_at actions c.args.i.now.act).output) =
    subst (λ (vs : List Value). Alike room (kept c.in_ok-output.output)
    (translate w (values_alone vs) [] (action_at actions c.args.i.now.act).output)) values
    c.in_ok-output.ensures in
    let hc : Alike room (kept c.in_ok-cond.cond)
    (translate w (own_indices c.args.i.now) [] (action_at actions c.args.i.now.act).cond) =
    subst (λ (vs : List Value). Alike room (kept c.in_ok-cond.cond)
    (translate w (values_alone vs) [] (action_at actions c.args.i.now.act).cond)) values
    c.in_ok-cond.ensures in
    let j : Alike room (kept c.own_input.result) (attacked (kept_record last).frame) =
    subst (λ x. Alike room (kept x) (attacked (kept_record last).frame)) (sym c.own_input.ensures)
    (hb (word Input)) in
    subst (λ (r : Record). Rattle.std.specs.Prelude.IfOk c.next_entry.result
    (λ e. AlikeRecord room (kept_record e)
    (record_of actions m c.args.left before r c.args.i.now))) (sym at_end)
    (ok_map c.next_entry.result _ _ c.next_entry.ensures
    (λ e h. alike_after room actions m c.args.left before (kept_record last) (kept_record half)
    (kept_record e) c.args.i.now
    (kept c.in_ok-output.output) (kept c.in_ok-cond.cond) (kept c.own_input.result) hb ho hc j h))
