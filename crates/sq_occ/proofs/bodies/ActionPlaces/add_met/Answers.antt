use Rattle.std.proofs.Common.{◌≡◌, ◌+◌, subst, ◌∷◌, map, drop}
use Rattle.std.specs.Prelude.{reverse}
use Rattle.sq_term.specs.View.{ts_tree}
use Rattle.sq_occ.specs.Calls.Bodies.{places_of, met_at, met_in}
use Rattle.sq_occ.specs.Calls.Lists.{growing}
use Rattle.sq_occ.specs.Calls.Views.{occ_tree, occ_trees}
use Rattle.sq_occ.proofs.Growth.{Continues, continues_one, continues_stop_one, adds_err, drop_next}
use Rattle.sq_occ.proofs.bodies.ActionPlaces.add_met.Goals as goal

pub returns-in_err-add : goal.returns-in_err-add
returns-in_err-add c =
    let p = places_of c.args.self.now in
    let f = met_at p (reverse c.args.above.now) c.args.m (ts_tree c.args.t.now) in
    let whole = met_in p (reverse c.args.above.now) c.args.m (ts_tree c.args.t.now) in
    let i = c.loop-place.place-index in
    let o = c.place-item.result in
    let start = growing c.args.list.now in
    let mid = growing c.loop-place.list in
    let next : drop i c.args.self.now.places ≡ o ∷ drop (i + 1) c.args.self.now.places =
    subst (λ os. drop i os ≡ o ∷ drop (i + 1) os) c.as_slice-place-items.ensures
    (drop_next c.as_slice-place-items.result.now i o c.loop-place-test.true c.place-item.is) in
    let here : Continues start mid
    (f (occ_tree o) ∷ map f (occ_trees (drop (i + 1) c.args.self.now.places))) whole =
    subst (λ os. Continues start mid (map f (occ_trees os)) whole) next c.loop-place.invariant in
    adds_err c.from_residual-in_err-add.result c.in_err-add.field-0.0 start
    (growing c.add.new.self) whole c.from_residual-in_err-add.ensures.1
    (continues_stop_one c.in_err-add.field-0.0 start mid (f (occ_tree o))
    (occ_tree c.in_ok-met.field-0) _ whole here c.in_ok-met.ensures c.in_err-add.ensures)

pub loop-place-preserved : goal.loop-place-preserved
loop-place-preserved c =
    let p = places_of c.args.self.now in
    let f = met_at p (reverse c.args.above.now) c.args.m (ts_tree c.args.t.now) in
    let whole = met_in p (reverse c.args.above.now) c.args.m (ts_tree c.args.t.now) in
    let i = c.loop-place.place-index in
    let o = c.place-item.result in
    let start = growing c.args.list.now in
    let mid = growing c.loop-place.list in
    let next : drop i c.args.self.now.places ≡ o ∷ drop (i + 1) c.args.self.now.places =
    subst (λ os. drop i os ≡ o ∷ drop (i + 1) os) c.as_slice-place-items.ensures
    (drop_next c.as_slice-place-items.result.now i o c.loop-place-test.true c.place-item.is) in
    let here : Continues start mid
    (f (occ_tree o) ∷ map f (occ_trees (drop (i + 1) c.args.self.now.places))) whole =
    subst (λ os. Continues start mid (map f (occ_trees os)) whole) next c.loop-place.invariant in
    continues_one start mid (growing c.add.new.self) (f (occ_tree o))
    (occ_tree c.in_ok-met.field-0) _ whole here c.in_ok-met.ensures c.in_ok-add.ensures.0
    c.in_ok-add.ensures.1
