use Rattle.std.proofs.Common.{◌≡◌, refl, sym, ap, ◌∙◌, subst, ⊎_elim, ◌+◌, [], ◌∷◌, ◌++◌, replicate}
use Rattle.std.proofs.Common.{drop, false, ◌==◌}
use Rattle.std.specs.Prelude.{reverse}
use Rattle.sq_base.specs.declared.sort.Sort.TheVariants.{Index}
use Rattle.sq_term.specs.Symbols.{kind_of}
use Rattle.sq_term.specs.View.{term_tree, term_trees}
use Rattle.sq_term.proofs.Views.{term_tree-Forall, term_tree-Exists, term_tree-Find}
use Rattle.sq_occ.specs.Calls.Scans as spec
use Rattle.sq_occ.specs.Calls.Bodies.{scan_of}
use Rattle.sq_occ.specs.Calls.Lists.{growing, Refuses, Adds}
use Rattle.sq_occ.proofs.Growth.{adds_err, adds_stop, adds_then, refuses_then, Continues}
use Rattle.sq_occ.proofs.Growth.{continues_next, continues_stop, drop_next}
use Rattle.sq_occ.proofs.Walking.{find_parts, below_is, key_parts, all_parts, equality_test}
use Rattle.sq_occ.proofs.scan.+scan.Goals as goal

pub scan-returns-in_err-scan-in-Find : goal.scan-returns-in_err-scan-in-Find
scan-returns-in_err-scan-in-Find t c =
    let S = scan_of c.args.search.now in
    let above = c.args.above.now in
    let f = c.in-Find in
    let i = c.as_slice-in-Find.result.now in
    let a = term_tree c.get-in-Find.result.now in
    let all = spec.scan S (reverse above) c.args.equated (term_tree c.args.t.now) in
    let x = c.in_err-scan-in-Find.field-0.0 in
    let start = growing c.args.list.now in
    let is = find_parts S above c.args.equated f.count i (above ++ replicate f.count Index)
    (term_tree c.args.t.now) (term_tree f.test) (term_tree f.found) (term_tree f.other) a
    (term_tree f.found) (term_tree f.other)
    (ap term_tree f.is ∙ term_tree-Find f.count f.test f.found f.other)
    (c.as_slice-in-Find.ensures ∙ c.in_ok-inner-in-Find.ensures) refl
    (ap term_tree c.get-in-Find.ensures) refl refl in
    adds_err c.from_residual-in_err-scan-in-Find.result x start (growing c.scan-in-Find.new.list)
    all c.from_residual-in_err-scan-in-Find.ensures.1
    (subst (Refuses x start.room) (sym is)
    (adds_stop x start.room (spec.scan S (reverse i) false a) _ c.in_err-scan-in-Find.ensures))

pub scan-returns-in_err-scan-in-Find-2 : goal.scan-returns-in_err-scan-in-Find-2
scan-returns-in_err-scan-in-Find-2 t c =
    let S = scan_of c.args.search.now in
    let above = c.args.above.now in
    let f = c.in-Find in
    let i = c.as_slice-in-Find.result.now in
    let j = c.as_slice-in-Find-2.result.now in
    let a = term_tree c.get-in-Find.result.now in
    let b = term_tree c.get-in-Find-2.result.now in
    let all = spec.scan S (reverse above) c.args.equated (term_tree c.args.t.now) in
    let x = c.in_err-scan-in-Find-2.field-0.0 in
    let start = growing c.args.list.now in
    let mid = growing c.scan-in-Find.new.list in
    let is = find_parts S above c.args.equated f.count i j (term_tree c.args.t.now)
    (term_tree f.test) (term_tree f.found) (term_tree f.other) a b (term_tree f.other)
    (ap term_tree f.is ∙ term_tree-Find f.count f.test f.found f.other)
    (c.as_slice-in-Find.ensures ∙ c.in_ok-inner-in-Find.ensures)
    (c.as_slice-in-Find-2.ensures ∙ c.in_ok-inner-in-Find.ensures)
    (ap term_tree c.get-in-Find.ensures) (ap term_tree c.get-in-Find-2.ensures) refl in
    adds_err c.from_residual-in_err-scan-in-Find-2.result x start
    (growing c.scan-in-Find-2.new.list) all c.from_residual-in_err-scan-in-Find-2.ensures.1
    (subst (Refuses x start.room) (sym is)
    (refuses_then x start.room mid.room (spec.scan S (reverse i) false a) _
    c.in_ok-scan-in-Find.ensures.1
    (adds_stop x mid.room (spec.scan S (reverse j) false b) _ c.in_err-scan-in-Find-2.ensures)))

pub scan-returns-in_ok-scan-in-Find-2 : goal.scan-returns-in_ok-scan-in-Find-2
scan-returns-in_ok-scan-in-Find-2 t c =
    let S = scan_of c.args.search.now in
    let above = c.args.above.now in
    let f = c.in-Find in
    let i = c.as_slice-in-Find.result.now in
    let j = c.as_slice-in-Find-2.result.now in
    let a = term_tree c.get-in-Find.result.now in
    let b = term_tree c.get-in-Find-2.result.now in
    let o = term_tree c.get-in-Find-3.result.now in
    let r = c.scan-in-Find-3.result in
    let start = growing c.args.list.now in
    let one = growing c.scan-in-Find.new.list in
    let two = growing c.scan-in-Find-2.new.list in
    let last = growing c.scan-in-Find-3.new.list in
    let is = find_parts S above c.args.equated f.count i j (term_tree c.args.t.now)
    (term_tree f.test) (term_tree f.found) (term_tree f.other) a b o
    (ap term_tree f.is ∙ term_tree-Find f.count f.test f.found f.other)
    (c.as_slice-in-Find.ensures ∙ c.in_ok-inner-in-Find.ensures)
    (c.as_slice-in-Find-2.ensures ∙ c.in_ok-inner-in-Find.ensures)
    (ap term_tree c.get-in-Find.ensures) (ap term_tree c.get-in-Find-2.ensures)
    (ap term_tree c.get-in-Find-3.ensures) in
    let rest = adds_then r one two last (spec.scan S (reverse j) false b)
    (spec.scan S (reverse above) false o) c.in_ok-scan-in-Find-2.ensures.0
    c.in_ok-scan-in-Find-2.ensures.1 c.scan-in-Find-3.ensures in
    subst (Adds start last r) (sym is)
    (adds_then r start one last (spec.scan S (reverse i) false a)
    (spec.scan S (reverse j) false b ++ spec.scan S (reverse above) false o)
    c.in_ok-scan-in-Find.ensures.0 c.in_ok-scan-in-Find.ensures.1 rest)

pub scan-returns-in_ok-inner-in-Forall : goal.scan-returns-in_ok-inner-in-Forall
scan-returns-in_ok-inner-in-Forall t c =
    let S = scan_of c.args.search.now in
    let above = c.args.above.now in
    let f = c.in-Forall in
    let i = c.as_slice-in-Forall.result.now in
    let y = term_tree c.get-in-Forall.result.now in
    let below = below_is S above c.args.equated f.sort i (term_tree f.body) y
    (c.as_slice-in-Forall.ensures ∙ c.in_ok-inner-in-Forall.ensures)
    (ap term_tree c.get-in-Forall.ensures) in
    let is : spec.scan S (reverse above) c.args.equated (term_tree c.args.t.now)
    ≡ spec.scan S (reverse i) false y =
    ⊎_elim
    (λ h. ap (spec.scan S (reverse above) c.args.equated)
    (ap term_tree h ∙ term_tree-Forall f.sort f.body) ∙ below)
    (λ h. ap (spec.scan S (reverse above) c.args.equated)
    (ap term_tree h ∙ term_tree-Exists f.sort f.body) ∙ below)
    f.is in
    subst (Adds (growing c.args.list.now) (growing c.scan-in-Forall.new.list)
    c.scan-in-Forall.result) (sym is) c.scan-in-Forall.ensures

pub scan_application-returns-in_err-add_key : goal.scan_application-returns-in_err-add_key
scan_application-returns-in_err-add_key t c =
    let S = scan_of c.args.search.now in
    let b = reverse c.args.above.now in
    let m = c.index-args-0.result in
    let is = c.in-Some.is'.now in
    let test = c.is_test-test.result in
    let start = growing c.args.list.now in
    let x = c.in_err-add_key.field-0.0 in
    let same = key_parts S b c.args.equated (kind_of c.args.f) c.role_of-role.result
    c.role_of-role.ensures c.args.args.now is m m test c.in-Some.ensures.value
    c.in-Some.ensures.two c.index-args-0.is c.index-args-0.is c.is_test-test.ensures in
    adds_err c.from_residual.result x start (growing c.add_key.new.list) _
    c.from_residual.ensures.1
    (subst (Refuses x start.room) (sym same)
    (adds_stop x start.room
    (spec.scanned S is (spec.key_of S (kind_of c.args.f) (term_tree m) test b) b ∷ [])
    (spec.scan S b false (term_tree m)) c.in_err-add_key.ensures))

pub scan_application-returns-in-Some : goal.scan_application-returns-in-Some
scan_application-returns-in-Some t c =
    let S = scan_of c.args.search.now in
    let b = reverse c.args.above.now in
    let m = c.index-args-0.result in
    let n = c.index-args-0-in-Some.result in
    let is = c.in-Some.is'.now in
    let test = c.is_test-test.result in
    let start = growing c.args.list.now in
    let mid = growing c.add_key.new.list in
    let last = growing c.scan.new.list in
    let same = key_parts S b c.args.equated (kind_of c.args.f) c.role_of-role.result
    c.role_of-role.ensures c.args.args.now is m n test c.in-Some.ensures.value
    c.in-Some.ensures.two c.index-args-0.is c.index-args-0-in-Some.is c.is_test-test.ensures in
    subst (Adds start last c.scan.result) (sym same)
    (adds_then c.scan.result start mid last
    (spec.scanned S is (spec.key_of S (kind_of c.args.f) (term_tree m) test b) b ∷ [])
    (spec.scan S b false (term_tree n)) c.in_ok-add_key.ensures.0 c.in_ok-add_key.ensures.1
    c.scan.ensures)

pub scan_application-returns-in_err-scan : goal.scan_application-returns-in_err-scan
scan_application-returns-in_err-scan t c =
    let S = scan_of c.args.search.now in
    let b = reverse c.args.above.now in
    let xs = c.args.args.now in
    let i = c.loop-arg.arg-index in
    let arg = c.arg-item.result in
    let eq = c.args.f == c.number.result in
    let start = growing c.args.list.now in
    let mid = growing c.loop-arg.list in
    let x = c.in_err-scan.field-0.0 in
    let whole = spec.scan_all S b eq (term_trees xs) in
    let next : drop i xs ≡ arg ∷ drop (i + 1) xs =
    drop_next xs i arg c.loop-arg-test.true c.arg-item.is in
    let here : Continues start mid
    (spec.scan S b eq (term_tree arg) ++ spec.scan_all S b eq (term_trees (drop (i + 1) xs)))
    whole =
    subst (λ ys. Continues start mid (spec.scan_all S b eq (term_trees ys)) whole) next
    c.loop-arg.invariant in
    let same = all_parts S b c.args.equated (kind_of c.args.f) c.role_of-role.result
    c.role_of-role.ensures (term_trees xs) eq c.in_default.ensures.value
    c.in_default-only.ensures (equality_test c.args.f c.number.result c.number.ensures) in
    adds_err c.from_residual-in_err-scan.result x start (growing c.scan-in-loop-arg.new.list) _
    c.from_residual-in_err-scan.ensures.1
    (subst (Refuses x start.room) (sym same)
    (continues_stop x start mid (spec.scan S b eq (term_tree arg)) _ whole here
    c.in_err-scan.ensures))

pub scan_application-loop-arg-preserved : goal.scan_application-loop-arg-preserved
scan_application-loop-arg-preserved t c =
    let S = scan_of c.args.search.now in
    let b = reverse c.args.above.now in
    let xs = c.args.args.now in
    let i = c.loop-arg.arg-index in
    let arg = c.arg-item.result in
    let eq = c.args.f == c.number.result in
    let start = growing c.args.list.now in
    let mid = growing c.loop-arg.list in
    let whole = spec.scan_all S b eq (term_trees xs) in
    let next : drop i xs ≡ arg ∷ drop (i + 1) xs =
    drop_next xs i arg c.loop-arg-test.true c.arg-item.is in
    let here : Continues start mid
    (spec.scan S b eq (term_tree arg) ++ spec.scan_all S b eq (term_trees (drop (i + 1) xs)))
    whole =
    subst (λ ys. Continues start mid (spec.scan_all S b eq (term_trees ys)) whole) next
    c.loop-arg.invariant in
    continues_next start mid (growing c.scan-in-loop-arg.new.list)
    (spec.scan S b eq (term_tree arg)) _ whole here c.in_ok-scan.ensures.0 c.in_ok-scan.ensures.1
