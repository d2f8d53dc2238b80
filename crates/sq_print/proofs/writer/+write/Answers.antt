use Rattle.std.proofs.Common.{◌≡◌, take, length, ap, sym, ◌∙◌}
use Rattle.std.proofs.Math.Seq.{take-append_seam}
use Rattle.sq_term.specs.declared.term.Term.{Term}
use Rattle.sq_term.specs.View.{term_tree}
use Rattle.sq_term.proofs.Views.{term_tree-Find}
use Rattle.sq_print.specs.Names.{bound_names}
use Rattle.sq_print.specs.Written.{wrote, wrote_branch}
use Rattle.sq_print.specs.Scopes.{names_of}
use Rattle.sq_print.proofs.Behind.{find_steps}
use Rattle.sq_print.proofs.writer.+write.Goals as goal

pub write-returns-in_ok-write_branch-in-Find-2-clause-text
    : goal.write-returns-in_ok-write_branch-in-Find-2-clause-text
write-returns-in_ok-write_branch-in-Find-2-clause-text t c =
    let ns = names_of c.args.scope.now in
    let around = c.args.binders.now.around in
    let out = c.args.out.now in
    let n = c.in-Find.count in
    let test = c.in-Find.test in
    let found = c.in-Find.found in
    let other = c.in-Find.other in
    let names = bound_names ns around n in
    let inner = c.enter_find.new.binders.around in
    let mid = c.write-in-Find.new.binders.around in
    let end = c.write_branch.new.binders.around in
    let last = c.release.new.self.around in
    let kept = c.in_ok-write-in-Find.ensures.kept.around in
    let kept2 = c.in_ok-write_branch-in-Find.ensures.kept.around in
    let entered = c.in_ok-enter_find-in-Find.ensures.names in
    let back : last ≡ around =
    c.release.ensures.around
    ∙ (ap (λ k. take k end) c.mark-mark.ensures.depth
    ∙ (ap (take (length around)) (kept2 ∙ (kept ∙ entered)) ∙ take-append_seam around names)) in
    let tree = ap term_tree c.in-Find.is ∙ term_tree-Find n test found other in
    let steps =
    find_steps ns around inner mid last n (term_tree test) (term_tree found)
    (term_tree other) out
    c.enter_find.new.out c.write-in-Find.new.out c.push_str-in-Find.new.self c.write_branch.new.out
    c.push_str-in-Find-2.new.self c.write_branch-in-Find.new.out
    entered kept back
    c.in_ok-enter_find-in-Find.ensures.text
    (c.in_ok-write-in-Find.ensures.text
    ∙ ap (λ (x : Term). wrote ns inner c.enter_find.new.out (term_tree x))
    c.get-in-Find.ensures)
    c.in_ok-push_str-in-Find.ensures.ok
    (c.in_ok-write_branch-in-Find.ensures.text
    ∙ ap (λ (x : Term). wrote_branch ns mid c.push_str-in-Find.new.self (term_tree x))
    c.get-in-Find-2.ensures)
    c.in_ok-push_str-in-Find-2.ensures.ok
    (c.in_ok-write_branch-in-Find-2.ensures.text
    ∙ ap (λ (x : Term). wrote_branch ns last c.push_str-in-Find-2.new.self (term_tree x))
    c.get-in-Find-3.ensures) in
    steps ∙ sym (ap (wrote ns around out) tree)
