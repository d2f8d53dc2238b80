use Rattle.std.proofs.Common.{◌≡◌, ◌-◌, ℕ, List, length, take, drop, ◌∙◌, ap, arith, length-drop}
use Rattle.std.proofs.Common.{length-take}
use Rattle.sq_edge.specs.Edge.{and_then_bytes}
use Rattle.sq_run.proofs.Bytes.{put_more, take_short}
use Rattle.sq_run.proofs.put.put_all.Goals as goal

pub loop-at-preserved : goal.loop-at-preserved
loop-at-preserved g c =
    let at = c.loop-at.at in
    let text = c.args.text.now in
    let rest : take (length text - at) (drop at text) ≡ drop at text =
    take_short (length text - at) (drop at text) (omega (arith, length-drop at text)) in
    record {
      within = omega (
        arith,
        c.in_ok-count.ensures.within,
        length-take (length text - at)
            (drop at text),
        length-drop at text,
      );
      put = put_more _ _ _ text at c.in_ok-count.count c.loop-at.invariant.put
          (c.in_ok-count.ensures.took
          ∙ ap (λ (l : List ℕ). and_then_bytes (g.O.Sink.bytes c.loop-at.out)
          (take c.in_ok-count.count l)) rest);
      later = omega (arith, c.put.ensures.later, c.loop-at.invariant.later);
    }
