use Rattle.std.proofs.Common.{◌≡◌, ℕ, List, Some, sym, ◌∙◌, ap, subst}
use Rattle.sq_edge.specs.Edge.{IsPiece}
use Rattle.sq_edge.specs.Memory.{file_of, one_more}
use Rattle.sq_edge.proofs.Named.{some_there, none_there, item_at, is_piece, read_there, read_gone}
use Rattle.sq_edge.proofs.Named.{no_miss, one_miss}
use Rattle.sq_edge.proofs.memory.MemShelfShelf.read.Goals as goal

pub returns-in_ok-piece_of-in-Some-clause-bytes : goal.returns-in_ok-piece_of-in-Some-clause-bytes
returns-in_ok-piece_of-in-Some-clause-bytes c file is =
    let t = some_there c.args.name.now c.as_slice-files.result.now c.args.self.now.files c.in-Some.i
    (c.as_slice-files.ensures ∙ c.counts.ensures.files) c.in-Some.ensures.within
    c.in-Some.ensures.first c.in-Some.ensures.here in
    let here = item_at c.as_slice-files.result.now c.in-Some.i c.index-files-i.result
    c.in-Some.ensures.within c.index-files-i.is in
    let told : file_of c.args.self.now.files c.args.name.now ≡ Some t.file.1 = t.told in
    let same_files : c.as_slice-files.result.now ≡ c.args.self.now.files = c.as_slice-files.ensures
    ∙ c.counts.ensures.files in
    let same_entry : c.index-files-i.result ≡ t.file = cc (here, t.at, same_files) in
    let same : c.as_slice.result.now ≡ file = c.as_slice.ensures ∙ ap (λ (x : List ℕ × List ℕ). x.1)
    (sym c.index-files-i.is ∙ same_entry) ∙ cc (told, is) in
    subst (λ (x : List ℕ). IsPiece x c.args.at c.args.room c.in_ok-piece_of-in-Some.field-0.items)
    same
    (is_piece c.as_slice.result.now c.in_ok-piece_of-in-Some.field-0.items c.args.at c.args.room
    c.in_ok-piece_of-in-Some.ensures)

pub returns-in_ok-piece_of-in-Some-clause-present :
    goal.returns-in_ok-piece_of-in-Some-clause-present
returns-in_ok-piece_of-in-Some-clause-present c ok none =
    let t = some_there c.args.name.now c.as_slice-files.result.now c.args.self.now.files c.in-Some.i
    (c.as_slice-files.ensures ∙ c.counts.ensures.files) c.in-Some.ensures.within
    c.in-Some.ensures.first c.in-Some.ensures.here in
    cc (t.told)

pub returns-in_ok-piece_of-in-Some-clause-outcome :
    goal.returns-in_ok-piece_of-in-Some-clause-outcome
returns-in_ok-piece_of-in-Some-clause-outcome c =
    let t = some_there c.args.name.now c.as_slice-files.result.now c.args.self.now.files c.in-Some.i
    (c.as_slice-files.ensures ∙ c.counts.ensures.files) c.in-Some.ensures.within
    c.in-Some.ensures.first c.in-Some.ensures.here in
    let here = item_at c.as_slice-files.result.now c.in-Some.i c.index-files-i.result
    c.in-Some.ensures.within c.index-files-i.is in
    let same_files : c.as_slice-files.result.now ≡ c.args.self.now.files = c.as_slice-files.ensures
    ∙ c.counts.ensures.files in
    let same_entry : c.index-files-i.result ≡ t.file = cc (here, t.at, same_files) in
    let same : c.as_slice.result.now ≡ t.file.1 = c.as_slice.ensures
    ∙ ap (λ (x : List ℕ × List ℕ). x.1) (sym c.index-files-i.is ∙ same_entry) in
    read_there _ (file_of c.args.self.now.files c.args.name.now)
    (sym c.counts.ensures.answer ∙ c.if-counts.false) c.as_slice.result.now
    (t.told ∙ ap Some (sym same)) _ c.args.at c.args.room c.in_ok-piece_of-in-Some.ensures

pub returns-in_ok-piece_of-in-Some-clause-misses : goal.returns-in_ok-piece_of-in-Some-clause-misses
returns-in_ok-piece_of-in-Some-clause-misses c =
    let t = some_there c.args.name.now c.as_slice-files.result.now c.args.self.now.files c.in-Some.i
    (c.as_slice-files.ensures ∙ c.counts.ensures.files) c.in-Some.ensures.within
    c.in-Some.ensures.first c.in-Some.ensures.here in
    no_miss _ (file_of c.args.self.now.files c.args.name.now)
    (sym c.counts.ensures.answer ∙ c.if-counts.false) _ t.told _ _ c.counts.ensures.misses

pub returns-in_err-piece_of-in-Some-clause-misses :
    goal.returns-in_err-piece_of-in-Some-clause-misses
returns-in_err-piece_of-in-Some-clause-misses c =
    let t = some_there c.args.name.now c.as_slice-files.result.now c.args.self.now.files c.in-Some.i
    (c.as_slice-files.ensures ∙ c.counts.ensures.files) c.in-Some.ensures.within
    c.in-Some.ensures.first c.in-Some.ensures.here in
    no_miss _ (file_of c.args.self.now.files c.args.name.now)
    (sym c.counts.ensures.answer ∙ c.if-counts.false) _ t.told _ _ c.counts.ensures.misses

pub returns-in-None-clause-absent : goal.returns-in-None-clause-absent
returns-in-None-clause-absent c err file is =
    let none = none_there c.args.name.now c.as_slice-files.result.now c.args.self.now.files
    (c.as_slice-files.ensures ∙ c.counts.ensures.files) c.in-None.ensures.none in
    cc (none)

pub returns-in-None-clause-outcome : goal.returns-in-None-clause-outcome
returns-in-None-clause-outcome c other =
    let none = none_there c.args.name.now c.as_slice-files.result.now c.args.self.now.files
    (c.as_slice-files.ensures ∙ c.counts.ensures.files) c.in-None.ensures.none in
    read_gone _ (file_of c.args.self.now.files c.args.name.now)
    (sym c.counts.ensures.answer ∙ c.if-counts.false) none c.args.at c.args.room

pub returns-in-None-clause-misses : goal.returns-in-None-clause-misses
returns-in-None-clause-misses c =
    let none = none_there c.args.name.now c.as_slice-files.result.now c.args.self.now.files
    (c.as_slice-files.ensures ∙ c.counts.ensures.files) c.in-None.ensures.none in
    one_miss _ (file_of c.args.self.now.files c.args.name.now)
    (sym c.counts.ensures.answer ∙ c.if-counts.false) none _ _
    (c.saturating_add-self.ensures ∙ ap one_more c.counts.ensures.misses)
