use Rattle.std.proofs.Common.{◌≡◌, ◌+◌, subst, ◌∷◌, ◌++◌, map, drop}
use Rattle.std.specs.Prelude.{reverse}
use Rattle.sq_term.specs.View.{ts_tree}
use Rattle.sq_occ.specs.Calls.Bodies.{places_of, met_in, met_in_all}
use Rattle.sq_occ.specs.Calls.Lists.{growing}
use Rattle.sq_occ.proofs.Growth.{Continues, continues_next, continues_stop, adds_err, drop_next}
use Rattle.sq_occ.proofs.scan.read.Goals as goal

pub returns-in_err-add_met : goal.returns-in_err-add_met
returns-in_err-add_met c =
    let b = reverse c.args.above.now in
    let m = c.args.m in
    let x = ts_tree c.args.t.now in
    let bodies = c.args.search.now.bodies.now in
    let i = c.loop-places.places-index in
    let p = c.places-item.result in
    let start = growing c.args.list.now in
    let mid = growing c.loop-places.list in
    let whole = met_in_all (map places_of bodies) b m x in
    let next : drop i bodies ≡ p ∷ drop (i + 1) bodies =
    drop_next bodies i p c.loop-places-test.true c.places-item.is in
    let here : Continues start mid
    (met_in (places_of p) b m x ++ met_in_all (map places_of (drop (i + 1) bodies)) b m x)
    whole =
    subst (λ ps. Continues start mid (met_in_all (map places_of ps) b m x) whole) next
    c.loop-places.invariant in
    adds_err c.from_residual.result c.in_err-add_met.field-0.0 start
    (growing c.add_met.new.list) whole c.from_residual.ensures.1
    (continues_stop c.in_err-add_met.field-0.0 start mid (met_in (places_of p) b m x) _ whole
    here c.in_err-add_met.ensures)

pub loop-places-preserved : goal.loop-places-preserved
loop-places-preserved c =
    let b = reverse c.args.above.now in
    let m = c.args.m in
    let x = ts_tree c.args.t.now in
    let bodies = c.args.search.now.bodies.now in
    let i = c.loop-places.places-index in
    let p = c.places-item.result in
    let start = growing c.args.list.now in
    let mid = growing c.loop-places.list in
    let whole = met_in_all (map places_of bodies) b m x in
    let next : drop i bodies ≡ p ∷ drop (i + 1) bodies =
    drop_next bodies i p c.loop-places-test.true c.places-item.is in
    let here : Continues start mid
    (met_in (places_of p) b m x ++ met_in_all (map places_of (drop (i + 1) bodies)) b m x)
    whole =
    subst (λ ps. Continues start mid (met_in_all (map places_of ps) b m x) whole) next
    c.loop-places.invariant in
    continues_next start mid (growing c.add_met.new.list) (met_in (places_of p) b m x) _ whole
    here c.in_ok-add_met.ensures.0 c.in_ok-add_met.ensures.1
