use Rattle.std.proofs.Common.{sym, subst, Bool, List, [], ◌∷◌, ◌++◌}
use Rattle.sq_term.specs.declared.model.Value.{Value}
use Rattle.sq_term.specs.View.{term_tree}
use Rattle.sq_term.specs.Symbols.{empty}
use Rattle.sq_term.specs.GroundFormulas.{constant}
use Rattle.sq_term.specs.Systems.{system_tree}
use Rattle.sq_term.specs.Translate.{translate}
use Rattle.sq_term.specs.Records.{at_undefined, world, world_over}
use Rattle.sq_ground.specs.declared.reading.Entry.{Entry}
use Rattle.sq_ground.specs.Calls.Alike.{Alike, AlikeRecord}
use Rattle.sq_ground.specs.Calls.Readings.{kept, kept_record, kept_records}
use Rattle.sq_ground.specs.Calls.Translations.{is_left, values_alone}
use Rattle.sq_ground.proofs.Tables.{alike_record_trans, with_input, alike_translation}
use Rattle.sq_ground.proofs.call.translate.Goals as goal

pub returns : goal.returns
returns c =
    let room = c.args.room in
    let actions = system_tree c.args.s.now in
    let m = c.args.m.now in
    let left = c.reads_left-left.result in
    let tree = term_tree c.args.t.now in
    let es = c.in_ok-entries.entries in
    let behind = c.in_ok-behind.behind in
    let a = values_alone c.args.a.now.vars in
    let undefined : AlikeRecord room (kept_record behind) at_undefined =
    alike_record_trans room (kept_record behind)
    (record at_undefined { input = kept c.in_ok-nothing.nothing }) at_undefined
    c.in_ok-behind.ensures
    (with_input room (kept c.in_ok-nothing.nothing) (constant empty)
    (c.in_ok-nothing.ensures room (constant empty) c.empty_message.ensures)) in
    let near =
    alike_translation room actions m left es
    (kept_record behind) a tree c.in_ok-entries.ensures undefined in
    let whole
    : Alike room
    (translate (world_over m left (kept_records es ++ kept_record behind ∷ [])) a [] tree)
    (translate (world actions m (is_left c.args.side)) a [] tree) =
    subst (λ (l : Bool). Alike room
    (translate (world_over m left (kept_records es ++ kept_record behind ∷ [])) a [] tree)
    (translate (world actions m l) a [] tree)) c.reads_left-left.ensures near in
    let read : Alike room
    (translate
    (world_over m left (kept_records c.as_slice-2.result.now ++ kept_record behind ∷ []))
    (values_alone c.as_slice.result.now) [] tree)
    (translate (world actions m (is_left c.args.side)) a [] tree) =
    subst (λ (vs : List Value). Alike room
    (translate
    (world_over m left (kept_records c.as_slice-2.result.now ++ kept_record behind ∷ []))
    (values_alone vs) [] tree) (translate (world actions m (is_left c.args.side)) a [] tree))
    (sym c.as_slice.ensures)
    (subst (λ (xs : List Entry). Alike room
    (translate (world_over m left (kept_records xs ++ kept_record behind ∷ [])) a [] tree)
    (translate (world actions m (is_left c.args.side)) a [] tree))
    (sym c.as_slice-2.ensures) whole) in
    c.answer.ensures room _ _ read c.build.ensures
