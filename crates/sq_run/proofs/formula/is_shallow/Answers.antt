use Rattle.std.proofs.Common.{◌≡◌, ◌<◌, ◌-◌, ◌+◌, ℕ, List, length, drop, ◌∙◌, ap, subst, arith}
use Rattle.std.proofs.Common.{nat_le}
use Rattle.sq_term.specs.Measure.{depth}
use Rattle.sq_run.specs.declared.formula.Link.{Link}
use Rattle.sq_run.specs.Formulas.{halves_of, whole, most_depth}
use Rattle.sq_run.proofs.Chains.{depth_positive, back_depth, and_front, and_back, implies_front}
use Rattle.sq_run.proofs.Chains.{implies_back, joined_depth_at_most, whole_depth}
use Rattle.sq_run.proofs.formula.is_shallow.Goals as goal

pub links-preserved-in-And : goal.links-preserved-in-And
links-preserved-in-And c =
    let links = c.as_slice-links.result.now in
    let last = c.args.chain.now.last in
    let next : c.links.at ≡ (c.links.at - 1) + 1 = omega arith in
    let some = depth_positive (halves_of (drop c.links.at links) last).front in
    let within : c.links.at - 1 < length links = omega (arith, some) in
    let fronts =
    subst (λ (k : ℕ). c.links.front ≡ depth (halves_of (drop k links) last).front) next
    c.links.invariant.front in
    let backs =
    subst (λ (k : ℕ). c.links.back ≡ back_depth (halves_of (drop k links) last).back) next
    c.links.invariant.back in
    record {
      front = and_front links last
          (c.links.at - 1) c.links.front c.links.back _ within fronts backs c.in-And.is;
      back = and_back links last
          (c.links.at - 1) c.links.front c.links.back _ within fronts backs c.in-And.is;
      bound = omega arith;
    }

pub links-preserved : goal.links-preserved
links-preserved c =
    let links = c.as_slice-links.result.now in
    let last = c.args.chain.now.last in
    let next : c.links.at ≡ (c.links.at - 1) + 1 = omega arith in
    let some = depth_positive (halves_of (drop c.links.at links) last).front in
    let within : c.links.at - 1 < length links = omega (arith, some) in
    let fronts =
    subst (λ (k : ℕ). c.links.front ≡ depth (halves_of (drop k links) last).front) next
    c.links.invariant.front in
    let backs =
    subst (λ (k : ℕ). c.links.back ≡ back_depth (halves_of (drop k links) last).back) next
    c.links.invariant.back in
    let most = joined_depth_at_most c.links.front c.links.back (omega (arith, some)) in
    record {
      front = implies_front links last
          (c.links.at - 1) c.links.front c.links.back _ within fronts backs c.in-Implies.is;
      back = c.joined_depth-back.ensures
          ∙ implies_back links last
          (c.links.at - 1) c.links.front c.links.back _ within fronts backs c.in-Implies.is;
      bound = omega (arith, most, c.joined_depth-back.ensures);
    }

pub returns : goal.returns
returns c =
    let links = c.as_slice-links.result.now in
    let same : links ≡ c.args.chain.now.links = c.as_slice-links.ensures in
    let e = whole_depth links c.args.chain.now.last c.links.at c.links.front c.links.back
    c.links-test.false c.links.invariant.front c.links.invariant.back in
    ap (λ (n : ℕ). nat_le n most_depth)
    (c.joined_depth.ensures ∙ e
    ∙ ap (λ (ls : List Link). depth (whole (halves_of ls c.args.chain.now.last))) same)
