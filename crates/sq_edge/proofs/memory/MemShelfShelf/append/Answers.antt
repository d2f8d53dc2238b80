use Rattle.std.proofs.Common.{◌≡◌, ◌++◌, ℕ, List, [], Some, slice_set, unwrap_or, sym, ◌∙◌, ap}
use Rattle.std.specs.declared.option.Option.{Option}
use Rattle.std.specs.FinMap.{get, from_entries, insert}
use Rattle.sq_edge.specs.Edge.{name_cmp}
use Rattle.sq_edge.specs.Memory.{file_of, one_more}
use Rattle.sq_edge.proofs.Named.{some_there, none_there, set_is_insert, append_there, append_gone}
use Rattle.sq_edge.proofs.Named.{no_miss, one_miss, gives, starves}
use Rattle.sq_edge.proofs.memory.MemShelfShelf.append.Goals as goal

pub returns-in-None-clause-absent : goal.returns-in-None-clause-absent
returns-in-None-clause-absent c err file is =
    let none = none_there c.args.name.now c.as_slice.result.now c.args.self.now.files
    (c.as_slice.ensures ∙ c.counts.ensures.files) c.in-None.ensures.none in
    cc (none)

pub returns-in-Ok-clause-present : goal.returns-in-Ok-clause-present
returns-in-Ok-clause-present c ok none =
    let t = some_there c.args.name.now c.as_slice.result.now c.args.self.now.files c.in-Some.i
    (c.as_slice.ensures ∙ c.counts.ensures.files) c.in-Some.ensures.within
    c.in-Some.ensures.first c.in-Some.ensures.here in
    cc (t.told)

pub returns-in-Ok-clause-ok : goal.returns-in-Ok-clause-ok
returns-in-Ok-clause-ok c =
    let files = c.counts.new.self.files in
    let t = some_there c.args.name.now c.as_slice.result.now files c.in-Some.i c.as_slice.ensures
    c.in-Some.ensures.within c.in-Some.ensures.first c.in-Some.ensures.here in
    let grown = rw t.at at c.in-Ok.ensures.ok in
    let told : get (from_entries {R = name_cmp} files) c.args.name.now ≡ Some t.file.1 = t.told in
    let kept : files ≡ c.args.self.now.files = c.counts.ensures.files in
    let before : get (from_entries {R = name_cmp} c.args.self.now.files) c.args.name.now
    ≡ Some t.file.1 = ap
    (λ (l : List (List ℕ × List ℕ)). get (from_entries {R = name_cmp} l) c.args.name.now)
    (sym kept) ∙ told in
    ap (λ (l : List (List ℕ × List ℕ)). Some (from_entries {R = name_cmp} l))
    (grown ∙ ap (λ (n : List ℕ). slice_set files c.in-Some.i (n, t.file.1 ++ c.args.piece.now))
    t.named)
    ∙ ap Some (set_is_insert c.args.name.now (t.file.1 ++ c.args.piece.now) files c.in-Some.i t.file
    t.at t.front t.named)
    ∙ (λ i. Some (insert (from_entries {R = name_cmp} (kept i)) c.args.name.now
    (t.file.1 ++ c.args.piece.now)))
    ∙ ap (λ (o : Option (List ℕ)). Some
    (insert (from_entries {R = name_cmp} c.args.self.now.files) c.args.name.now
    (unwrap_or o [] ++ c.args.piece.now))) (sym before)

pub returns-in-None-clause-outcome : goal.returns-in-None-clause-outcome
returns-in-None-clause-outcome c =
    let none = none_there c.args.name.now c.as_slice.result.now c.args.self.now.files
    (c.as_slice.ensures ∙ c.counts.ensures.files) c.in-None.ensures.none in
    gives _ _ _ _ _ (append_gone _ (file_of c.args.self.now.files c.args.name.now)
    (sym c.counts.ensures.answer ∙ c.if-counts.false) none) c.counts.ensures.starved

pub returns-in-None-clause-misses : goal.returns-in-None-clause-misses
returns-in-None-clause-misses c =
    let none = none_there c.args.name.now c.as_slice.result.now c.args.self.now.files
    (c.as_slice.ensures ∙ c.counts.ensures.files) c.in-None.ensures.none in
    one_miss _ (file_of c.args.self.now.files c.args.name.now)
    (sym c.counts.ensures.answer ∙ c.if-counts.false) none _ _
    (c.saturating_add-self.ensures ∙ ap one_more c.counts.ensures.misses)

pub returns-in-Ok-clause-outcome : goal.returns-in-Ok-clause-outcome
returns-in-Ok-clause-outcome c =
    let t = some_there c.args.name.now c.as_slice.result.now c.args.self.now.files c.in-Some.i
    (c.as_slice.ensures ∙ c.counts.ensures.files) c.in-Some.ensures.within
    c.in-Some.ensures.first c.in-Some.ensures.here in
    gives _ _ _ _ _ (append_there _ (file_of c.args.self.now.files c.args.name.now)
    (sym c.counts.ensures.answer ∙ c.if-counts.false) _ t.told) c.counts.ensures.starved

pub returns-in-Ok-clause-misses : goal.returns-in-Ok-clause-misses
returns-in-Ok-clause-misses c =
    let t = some_there c.args.name.now c.as_slice.result.now c.args.self.now.files c.in-Some.i
    (c.as_slice.ensures ∙ c.counts.ensures.files) c.in-Some.ensures.within
    c.in-Some.ensures.first c.in-Some.ensures.here in
    no_miss _ (file_of c.args.self.now.files c.args.name.now)
    (sym c.counts.ensures.answer ∙ c.if-counts.false) _ t.told _ _ c.counts.ensures.misses

pub returns-in-Err-clause-outcome : goal.returns-in-Err-clause-outcome
returns-in-Err-clause-outcome c =
    let t = some_there c.args.name.now c.as_slice.result.now c.args.self.now.files c.in-Some.i
    (c.as_slice.ensures ∙ c.counts.ensures.files) c.in-Some.ensures.within
    c.in-Some.ensures.first c.in-Some.ensures.here in
    starves _ _ _ _ _ (append_there _ (file_of c.args.self.now.files c.args.name.now)
    (sym c.counts.ensures.answer ∙ c.if-counts.false) _ t.told)
    (c.saturating_add-self-in-Err.ensures ∙ ap one_more c.counts.ensures.starved)

pub returns-in-Err-clause-misses : goal.returns-in-Err-clause-misses
returns-in-Err-clause-misses c =
    let t = some_there c.args.name.now c.as_slice.result.now c.args.self.now.files c.in-Some.i
    (c.as_slice.ensures ∙ c.counts.ensures.files) c.in-Some.ensures.within
    c.in-Some.ensures.first c.in-Some.ensures.here in
    no_miss _ (file_of c.args.self.now.files c.args.name.now)
    (sym c.counts.ensures.answer ∙ c.if-counts.false) _ t.told _ _ c.counts.ensures.misses
