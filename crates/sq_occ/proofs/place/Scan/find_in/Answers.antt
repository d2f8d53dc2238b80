use Rattle.std.proofs.Common.{◌≡◌, ap, [], false}
use Rattle.sq_term.specs.Systems.{action_tree}
use Rattle.sq_term.specs.View.{term_tree}
use Rattle.sq_occ.specs.Calls.Scans.{scan}
use Rattle.sq_occ.specs.Calls.Bodies.{scan_of, within_action, places_in}
use Rattle.sq_occ.specs.Calls.Lists.{growing}
use Rattle.sq_occ.specs.Calls.Views.{occ_trees}
use Rattle.sq_occ.proofs.Finding.{found_err, found_two}
use Rattle.sq_occ.proofs.Growth.{adds_stop, refuses_then}
use Rattle.sq_occ.proofs.place.Scan.find_in.Goals as goal

pub returns-in_err-scan : goal.returns-in_err-scan
returns-in_err-scan c =
    let a = c.args.action.now in
    let S = within_action (scan_of c.args.self.now) a.arity in
    let us = scan S [] false (term_tree a.cond) in
    let vs = scan S [] false (term_tree a.output) in
    let e = c.in_err-scan.field-0.0 in
    found_err c.from_residual.result e c.args.room.now c.args.room.now
    (places_in (scan_of c.args.self.now) c.args.number (action_tree a))
    c.from_residual.ensures.1 (adds_stop e c.args.room.now us vs c.in_err-scan.ensures)

pub returns-in_err-scan-2 : goal.returns-in_err-scan-2
returns-in_err-scan-2 c =
    let a = c.args.action.now in
    let S = within_action (scan_of c.args.self.now) a.arity in
    let us = scan S [] false (term_tree a.cond) in
    let vs = scan S [] false (term_tree a.output) in
    let e = c.in_err-scan-2.field-0.0 in
    found_err c.from_residual-in_err-scan-2.result e c.args.room.now c.args.room.now
    (places_in (scan_of c.args.self.now) c.args.number (action_tree a))
    c.from_residual-in_err-scan-2.ensures.1
    (refuses_then e c.args.room.now c.scan.new.list.room us vs c.in_ok-scan.ensures.1
    c.in_err-scan-2.ensures)

pub returns : goal.returns
returns c =
    let a = c.args.action.now in
    let S = within_action (scan_of c.args.self.now) a.arity in
    let us = scan S [] false (term_tree a.cond) in
    let vs = scan S [] false (term_tree a.output) in
    let both = found_two
    (record { entries = occ_trees c.new.result; room = c.args.room.now })
    (growing c.scan.new.list) (growing c.scan-2.new.list) us vs (ap occ_trees c.new.ensures)
    c.in_ok-scan.ensures.0 c.in_ok-scan.ensures.1 c.in_ok-scan-2.ensures.0
    c.in_ok-scan-2.ensures.1 in
    let same : (record {
      action = c.args.number;
      arity = a.arity;
      places = occ_trees c.scan-2.new.list.entries;
    }) ≡ places_in (scan_of c.args.self.now) c.args.number (action_tree a) =
    ap (λ ps. record { action = c.args.number; arity = a.arity; places = ps }) both.0 in
    (same, both.1)
