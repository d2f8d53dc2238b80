use Rattle.std.proofs.Common.{rules, ◌≡◌, ◌+◌, ◌-◌, ap, sym, ◌∙◌, subst, List, ◌∷◌, map, drop}
use Rattle.std.proofs.Common.{arith}
use Rattle.std.proofs.lemmas.List.{drop_all}
use Rattle.sq_term.specs.declared.term.SizeFault.TheVariants.{TooLarge}
use Rattle.sq_term.specs.View.{term_tree, term_trees}
use Rattle.sq_term.specs.Translate.{translate, translate_all}
use Rattle.sq_term.specs.declared.model.Value.{Value}
use Rattle.sq_term.specs.Ground.{Ground}
use Rattle.sq_term.proofs.Views.{term_tree-Forall, term_tree-Exists, term_tree-Find}
use Rattle.sq_ground.specs.Calls.Builds.{Passes, AllPass}
use Rattle.sq_ground.specs.Calls.Readings.{seen, given}
use Rattle.sq_ground.specs.Calls.Rows.{RowPasses}
use Rattle.sq_ground.proofs.Grounds.{next_of, row_start, row_next, row_done, row_too_large}
use Rattle.sq_ground.proofs.Joins.{parts_next, parts_too_large}
use Rattle.sq_ground.proofs.Quantified.{all_is, some_is, find_is, lists_pass, row_passes}
use Rattle.sq_ground.proofs.Quantified.{joined_builds, choices_pass, tests_pass, founds_pass}
use Rattle.sq_ground.proofs.Quantified.{other_passes, nested_builds, as_many_parts}
use Rattle.sq_ground.proofs.translation.+build.Goals as goal

pub build-returns-in_err-lists-in-Forall : goal.build-returns-in_err-lists-in-Forall
build-returns-in_err-lists-in-Forall t c =
    let w = seen c.args.w.now in
    let a = given c.args.w.now in
    let bs = c.args.bs.now in
    let tree = term_tree c.args.t.now in
    let whole = translate w a bs tree in
    let is = all_is w a bs tree c.in-Forall.sort (term_tree c.in-Forall.body)
    (ap term_tree c.in-Forall.is ∙ term_tree-Forall c.in-Forall.sort c.in-Forall.body) in
    let h : c.in_err-lists-in-Forall.field-0.0 ≡ TooLarge → Passes c.args.room whole =
    λ e. lists_pass _ _ _ c.args.room whole _ is (c.in_err-lists-in-Forall.ensures e) in
    search rules

pub build-returns-in_err-row-in-Forall : goal.build-returns-in_err-row-in-Forall
build-returns-in_err-row-in-Forall t c =
    let w = seen c.args.w.now in
    let a = given c.args.w.now in
    let bs = c.args.bs.now in
    let tree = term_tree c.args.t.now in
    let whole = translate w a bs tree in
    let is = all_is w a bs tree c.in-Forall.sort (term_tree c.in-Forall.body)
    (ap term_tree c.in-Forall.is ∙ term_tree-Forall c.in-Forall.sort c.in-Forall.body) in
    let h : c.in_err-row-in-Forall.field-0.0 ≡ TooLarge → Passes c.args.room whole =
    λ e. row_passes _ _ _ c.args.room whole _ is c.as_slice-in-Forall.result.now
    (c.as_slice-in-Forall.ensures ∙ c.in_ok-lists-in-Forall.ensures.0)
    (c.in_err-row-in-Forall.ensures e) in
    search rules

pub build-returns-in_ok-row-in-Forall : goal.build-returns-in_ok-row-in-Forall
build-returns-in_ok-row-in-Forall t c =
    let w = seen c.args.w.now in
    let a = given c.args.w.now in
    let bs = c.args.bs.now in
    let tree = term_tree c.args.t.now in
    let whole = translate w a bs tree in
    let is = all_is w a bs tree c.in-Forall.sort (term_tree c.in-Forall.body)
    (ap term_tree c.in-Forall.is ∙ term_tree-Forall c.in-Forall.sort c.in-Forall.body) in
    joined_builds _ _ _ c.args.room whole _ is c.as_slice-in-Forall.result.now
    c.in_ok-row-in-Forall.row.parts c.join.result
    (c.as_slice-in-Forall.ensures
    ∙ c.in_ok-lists-in-Forall.ensures.0) c.in_ok-row-in-Forall.ensures.0 c.join.ensures

pub build-returns-in_err-lists-in-Exists : goal.build-returns-in_err-lists-in-Exists
build-returns-in_err-lists-in-Exists t c =
    let w = seen c.args.w.now in
    let a = given c.args.w.now in
    let bs = c.args.bs.now in
    let tree = term_tree c.args.t.now in
    let whole = translate w a bs tree in
    let is = some_is w a bs tree c.in-Exists.sort (term_tree c.in-Exists.body)
    (ap term_tree c.in-Exists.is ∙ term_tree-Exists c.in-Exists.sort c.in-Exists.body) in
    let h : c.in_err-lists-in-Exists.field-0.0 ≡ TooLarge → Passes c.args.room whole =
    λ e. lists_pass _ _ _ c.args.room whole _ is (c.in_err-lists-in-Exists.ensures e) in
    search rules

pub build-returns-in_err-row-in-Exists : goal.build-returns-in_err-row-in-Exists
build-returns-in_err-row-in-Exists t c =
    let w = seen c.args.w.now in
    let a = given c.args.w.now in
    let bs = c.args.bs.now in
    let tree = term_tree c.args.t.now in
    let whole = translate w a bs tree in
    let is = some_is w a bs tree c.in-Exists.sort (term_tree c.in-Exists.body)
    (ap term_tree c.in-Exists.is ∙ term_tree-Exists c.in-Exists.sort c.in-Exists.body) in
    let h : c.in_err-row-in-Exists.field-0.0 ≡ TooLarge → Passes c.args.room whole =
    λ e. row_passes _ _ _ c.args.room whole _ is c.as_slice-in-Exists.result.now
    (c.as_slice-in-Exists.ensures ∙ c.in_ok-lists-in-Exists.ensures.0)
    (c.in_err-row-in-Exists.ensures e) in
    search rules

pub build-returns-in_ok-row-in-Exists : goal.build-returns-in_ok-row-in-Exists
build-returns-in_ok-row-in-Exists t c =
    let w = seen c.args.w.now in
    let a = given c.args.w.now in
    let bs = c.args.bs.now in
    let tree = term_tree c.args.t.now in
    let whole = translate w a bs tree in
    let is = some_is w a bs tree c.in-Exists.sort (term_tree c.in-Exists.body)
    (ap term_tree c.in-Exists.is ∙ term_tree-Exists c.in-Exists.sort c.in-Exists.body) in
    joined_builds _ _ _ c.args.room whole _ is c.as_slice-in-Exists.result.now
    c.in_ok-row-in-Exists.row.parts c.join-in-Exists.result
    (c.as_slice-in-Exists.ensures
    ∙ c.in_ok-lists-in-Exists.ensures.0) c.in_ok-row-in-Exists.ensures.0
    c.join-in-Exists.ensures

pub build-returns-in_err-lists-in-Find : goal.build-returns-in_err-lists-in-Find
build-returns-in_err-lists-in-Find t c =
    let w = seen c.args.w.now in
    let a = given c.args.w.now in
    let bs = c.args.bs.now in
    let tree = term_tree c.args.t.now in
    let whole = translate w a bs tree in
    let f = c.in-Find in
    let is = find_is w a bs tree f.c (term_tree f.test) (term_tree f.found) (term_tree f.other)
    (ap term_tree f.is ∙ term_tree-Find f.c f.test f.found f.other) in
    let h : c.in_err-lists-in-Find.field-0.0 ≡ TooLarge → Passes c.args.room whole =
    λ e. choices_pass _ _ _ c.args.room whole _ is (c.in_err-lists-in-Find.ensures e) in
    search rules

pub build-returns-in_err-tests-in-Find : goal.build-returns-in_err-tests-in-Find
build-returns-in_err-tests-in-Find t c =
    let w = seen c.args.w.now in
    let a = given c.args.w.now in
    let bs = c.args.bs.now in
    let tree = term_tree c.args.t.now in
    let whole = translate w a bs tree in
    let f = c.in-Find in
    let is = find_is w a bs tree f.c (term_tree f.test) (term_tree f.found) (term_tree f.other)
    (ap term_tree f.is ∙ term_tree-Find f.c f.test f.found f.other) in
    let h : c.in_err-tests-in-Find.field-0.0 ≡ TooLarge → Passes c.args.room whole =
    λ e. tests_pass _ _ _ c.args.room whole _ is c.as_slice-in-Find.result.now
    (c.as_slice-in-Find.ensures ∙ c.in_ok-lists-in-Find.ensures.0)
    (c.in_err-tests-in-Find.ensures e) in
    search rules

pub build-returns-in_err-founds-in-Find : goal.build-returns-in_err-founds-in-Find
build-returns-in_err-founds-in-Find t c =
    let w = seen c.args.w.now in
    let a = given c.args.w.now in
    let bs = c.args.bs.now in
    let tree = term_tree c.args.t.now in
    let whole = translate w a bs tree in
    let f = c.in-Find in
    let is = find_is w a bs tree f.c (term_tree f.test) (term_tree f.found) (term_tree f.other)
    (ap term_tree f.is ∙ term_tree-Find f.c f.test f.found f.other) in
    let h : c.in_err-founds-in-Find.field-0.0 ≡ TooLarge → Passes c.args.room whole =
    λ e. founds_pass _ _ _ c.args.room whole _ is c.as_slice-in-Find.result.now
    c.as_slice-in-Find-2.result.now c.in_ok-tests-in-Find.tests.size
    (c.as_slice-in-Find.ensures ∙ c.in_ok-lists-in-Find.ensures.0)
    (c.as_slice-in-Find-2.ensures
    ∙ c.in_ok-lists-in-Find.ensures.0) c.in_ok-tests-in-Find.ensures.1
    (c.in_err-founds-in-Find.ensures e) in
    search rules

pub build-returns-in_err-other-in-Find : goal.build-returns-in_err-other-in-Find
build-returns-in_err-other-in-Find t c =
    let w = seen c.args.w.now in
    let a = given c.args.w.now in
    let bs = c.args.bs.now in
    let tree = term_tree c.args.t.now in
    let whole = translate w a bs tree in
    let f = c.in-Find in
    let is = find_is w a bs tree f.c (term_tree f.test) (term_tree f.found) (term_tree f.other)
    (ap term_tree f.is ∙ term_tree-Find f.c f.test f.found f.other) in
    let h : c.in_err-other-in-Find.field-0.0 ≡ TooLarge → Passes c.args.room whole =
    λ e. other_passes _ _ _ c.args.room whole _ is c.as_slice-in-Find.result.now
    c.as_slice-in-Find-2.result.now c.in_ok-tests-in-Find.tests.size
    c.in_ok-founds-in-Find.founds.size
    (c.as_slice-in-Find.ensures ∙ c.in_ok-lists-in-Find.ensures.0)
    (c.as_slice-in-Find-2.ensures
    ∙ c.in_ok-lists-in-Find.ensures.0) c.in_ok-tests-in-Find.ensures.1
    c.in_ok-founds-in-Find.ensures.1
    (subst (λ x. Passes
    (c.args.room - c.in_ok-tests-in-Find.tests.size - c.in_ok-founds-in-Find.founds.size)
    (translate w a bs (term_tree x))) c.get-in-Find.ensures (c.in_err-other-in-Find.ensures e))
    in
    search rules

pub build-nest-requires : goal.build-nest-requires
build-nest-requires t c =
    let w = seen c.args.w.now in
    let a = given c.args.w.now in
    as_many_parts (λ xs. translate w a xs (term_tree c.in-Find.test))
    (λ xs. translate w a xs (term_tree c.in-Find.found)) c.as_slice-in-Find.result.now
    c.as_slice-in-Find-2.result.now _ c.in_ok-tests-in-Find.tests.parts
    c.in_ok-founds-in-Find.founds.parts
    (c.as_slice-in-Find.ensures ∙ c.in_ok-lists-in-Find.ensures.0)
    (c.as_slice-in-Find-2.ensures
    ∙ c.in_ok-lists-in-Find.ensures.0) c.in_ok-tests-in-Find.ensures.0
    c.in_ok-founds-in-Find.ensures.0

pub build-returns-in_ok-other-in-Find : goal.build-returns-in_ok-other-in-Find
build-returns-in_ok-other-in-Find t c =
    let w = seen c.args.w.now in
    let a = given c.args.w.now in
    let bs = c.args.bs.now in
    let tree = term_tree c.args.t.now in
    let whole = translate w a bs tree in
    let f = c.in-Find in
    let is = find_is w a bs tree f.c (term_tree f.test) (term_tree f.found) (term_tree f.other)
    (ap term_tree f.is ∙ term_tree-Find f.c f.test f.found f.other) in
    nested_builds _ _ _ c.args.room whole _ is c.as_slice-in-Find.result.now
    c.as_slice-in-Find-2.result.now c.in_ok-tests-in-Find.tests.parts
    c.in_ok-founds-in-Find.founds.parts c.in_ok-other-in-Find.other c.nest.result
    (c.as_slice-in-Find.ensures ∙ c.in_ok-lists-in-Find.ensures.0)
    (c.as_slice-in-Find-2.ensures
    ∙ c.in_ok-lists-in-Find.ensures.0) c.in_ok-tests-in-Find.ensures.0
    c.in_ok-founds-in-Find.ensures.0
    (c.in_ok-other-in-Find.ensures.0
    ∙ ap (λ x. translate w a bs (term_tree x)) c.get-in-Find.ensures) c.nest.ensures

pub build_all-loop-t-init : goal.build_all-loop-t-init
build_all-loop-t-init t c = row_start _ _ _ c.new-out.ensures

pub build_all-returns-in_err-term : goal.build_all-returns-in_err-term
build_all-returns-in_err-term t c =
    let left =
    next_of c.args.terms.now c.loop-t.t-index c.t-item.result c.loop-t-test.true c.t-item.is in
    let h : c.in_err-term.field-0.0 ≡ TooLarge
    → AllPass c.args.room
    (translate_all (seen c.args.w.now) (given c.args.w.now) c.args.bs.now
    (term_trees c.args.terms.now)) =
    λ e. row_too_large _ _ _ _ _ _ _ _ c.loop-t.invariant
    (ap (λ ts. translate_all (seen c.args.w.now) (given c.args.w.now) c.args.bs.now
    (term_trees ts)) left) (c.in_err-term.ensures e) in
    search rules

pub build_all-loop-t-preserved : goal.build_all-loop-t-preserved
build_all-loop-t-preserved t c =
    let left =
    next_of c.args.terms.now c.loop-t.t-index c.t-item.result c.loop-t-test.true c.t-item.is in
    row_next _ _ _ _ _ _ _ _ c.in_ok-term.field-0 _ _ c.loop-t.invariant
    (ap (λ ts. translate_all (seen c.args.w.now) (given c.args.w.now) c.args.bs.now
    (term_trees ts)) left) c.in_ok-term.ensures c.in_ok-push.ensures.ok (omega arith)

pub build_all-returns : goal.build_all-returns
build_all-returns t c =
    row_done _ _ _ _ _ _ c.loop-t.invariant
    (ap (λ ts. translate_all (seen c.args.w.now) (given c.args.w.now) c.args.bs.now
    (term_trees ts)) (drop_all _ _ c.loop-t-test.false))

pub build_each-returns-in_err-part : goal.build_each-returns-in_err-part
build_each-returns-in_err-part t c =
    let w = seen c.args.w.now in
    let a = given c.args.w.now in
    let F : List Value → Ground = λ bs. translate w a bs (term_tree c.args.body.now) in
    let g = translate w a c.as_slice.result.now (term_tree c.get.result.now) in
    let rest = drop (c.loop-bs.bs-index + 1) c.args.lists.now in
    let same : g ≡ F c.bs-item.result =
    λ i. translate w a (c.as_slice.ensures i) (term_tree (c.get.ensures i)) in
    let left : map F (drop c.loop-bs.bs-index c.args.lists.now) ≡ g ∷ map F rest =
    ap (map F)
    (next_of c.args.lists.now c.loop-bs.bs-index c.bs-item.result c.loop-bs-test.true
    c.bs-item.is) ∙ ap (λ z. z ∷ map F rest) (sym same) in
    let h : c.in_err-part.field-0.0 ≡ TooLarge → RowPasses c.args.room (map F c.args.lists.now) =
    λ e. parts_too_large c.loop-bs.parts c.loop-bs.nodes c.args.room _ _
    (map F rest) g c.loop-bs.invariant left (c.in_err-part.ensures e) in
    search rules

pub build_each-loop-bs-preserved : goal.build_each-loop-bs-preserved
build_each-loop-bs-preserved t c =
    let w = seen c.args.w.now in
    let a = given c.args.w.now in
    let F : List Value → Ground = λ bs. translate w a bs (term_tree c.args.body.now) in
    let g = translate w a c.as_slice.result.now (term_tree c.get.result.now) in
    let rest = drop (c.loop-bs.bs-index + 1) c.args.lists.now in
    let same : g ≡ F c.bs-item.result =
    λ i. translate w a (c.as_slice.ensures i) (term_tree (c.get.ensures i)) in
    let left : map F (drop c.loop-bs.bs-index c.args.lists.now) ≡ g ∷ map F rest =
    ap (map F)
    (next_of c.args.lists.now c.loop-bs.bs-index c.bs-item.result c.loop-bs-test.true
    c.bs-item.is) ∙ ap (λ z. z ∷ map F rest) (sym same) in
    parts_next c.loop-bs.parts c.push.new.self c.in_ok-part.part c.loop-bs.nodes c.args.room _ _
    (map F rest) g c.loop-bs.invariant left c.in_ok-part.ensures c.in_ok-push.ensures.ok
