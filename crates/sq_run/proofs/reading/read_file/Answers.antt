use Rattle.std.proofs.Common.{◌≡◌, ◌∙◌, ◌++◌, ℕ, List, length, length-append, arith, sym, ap}
use Rattle.std.proofs.Common.{vec_len, subst, refl}
use Rattle.std.proofs.lemmas.Bool.Decides.{nat_tests}
use Rattle.sq_edge.specs.Edge.{held, Lacks}
use Rattle.sq_run.proofs.Bytes.{read_more, read_all, read_most}
use Rattle.sq_run.proofs.reading.read_file.Goals as goal

pub pieces-preserved : goal.pieces-preserved
pieces-preserved g c =
    let v = c.pieces.bytes in
    let at : c.len-in-pieces-2.result ≡ length v.items = c.len-in-pieces-2.ensures ∙ v.ok.0 in
    let grown =
    c.in_ok-extend_from_slice.ensures.items
    ∙ ap (λ (l : List ℕ). v.items ++ l) c.deref.ensures.value in
    record {
      within = omega (
        arith,
        ap length grown,
        length-append v.items c.in_ok-piece.piece.items,
        c.in_ok-piece.ensures.room,
        c.len-in-pieces.ensures,
        v.ok.0,
        c.min-room.ensures,
        c.pieces.invariant.within,
      );
      front = λ file is. read_more file v.items c.in_ok-piece.piece.items
          c.extend_from_slice.new.self.items c.len-in-pieces-2.result c.min-room.result at
          (c.pieces.invariant.front file is)
          (c.in_ok-piece.ensures.bytes file
          (ap (λ f. held f c.args.name.now) c.pieces.invariant.files ∙ is)) grown;
      present = λ some lacks. c.in_ok-piece.ensures.present refl
          (subst (λ f. Lacks f c.args.name.now) (sym c.pieces.invariant.files) lacks);
      files = c.in_ok-piece.ensures.files ∙ c.pieces.invariant.files;
      faults = omega (arith, c.in_ok-piece.ensures.cause.faults_rise, c.pieces.invariant.faults);
      misses = omega (arith, c.in_ok-piece.ensures.cause.misses_rise, c.pieces.invariant.misses);
    }

pub returns-then-is_empty-clause-bytes : goal.returns-then-is_empty-clause-bytes
returns-then-is_empty-clause-bytes g c file is =
    let v = c.pieces.bytes in
    let at : c.len-in-pieces-2.result ≡ length v.items = c.len-in-pieces-2.ensures ∙ v.ok.0 in
    let none : length c.in_ok-piece.piece.items ≡ 0 = let h =
    c.if-is_empty.ensures in let zero_len : vec_len c.in_ok-piece.piece ≡ 0 =
    grind (arith, nat_tests) in sym c.in_ok-piece.piece.ok.0 ∙ zero_len in
    read_all file v.items c.in_ok-piece.piece.items c.len-in-pieces-2.result c.min-room.result
    1048577 at (c.pieces.invariant.front file is)
    (c.in_ok-piece.ensures.bytes file (ap (λ f. held f c.args.name.now) c.pieces.invariant.files
    ∙ is))
    c.pieces.invariant.within
    (omega (
      arith,
      c.min-room.ensures,
      c.len-in-pieces.ensures,
      c.len.ensures,
      c.pieces-test.true,
    )) none

pub returns-then-is_empty-clause-present : goal.returns-then-is_empty-clause-present
returns-then-is_empty-clause-present g c lacks =
    c.in_ok-piece.ensures.present refl
    (subst (λ f. Lacks f c.args.name.now) (sym c.pieces.invariant.files) lacks)

pub returns-clause-bytes : goal.returns-clause-bytes
returns-clause-bytes g c file is =
    let v = c.pieces.bytes in
    read_most file v.items 1048577 (c.pieces.invariant.front file is) c.pieces.invariant.within
    (omega (arith, c.len.ensures, v.ok.0, c.pieces-test.false))

pub returns-clause-present : goal.returns-clause-present
returns-clause-present g c lacks =
    let v = c.pieces.bytes in
    c.pieces.invariant.present
    (omega (arith, c.len.ensures, v.ok.0, c.pieces-test.false)) lacks
