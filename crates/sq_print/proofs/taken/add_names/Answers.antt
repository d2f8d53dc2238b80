use Rattle.std.proofs.Common.{◌≡◌, ◌||◌, ◌+◌, ◌∷◌, drop, true, ap, sym, ◌∙◌, arith, string_bytes}
use Rattle.std.specs.HashSet.{contains_text}
use Rattle.std.proofs.lemmas.Grind.{common_steps}
use Rattle.std.proofs.lemmas.Map.Text.{hash_set_updates_text}
use Rattle.sq_sym.specs.Candidates.{among}
use Rattle.sq_print.proofs.TakenNames.{one_taken}
use Rattle.sq_print.proofs.taken.add_names.Goals as goal

pub loop-name-preserved : goal.loop-name-preserved
loop-name-preserved c = λ q.
    let set = c.loop-name.names in
    let key = c.in_ok-from_str.field-0 in
    let more = c.args.more.now in
    let i = c.loop-name.name-index in
    let split : drop i more ≡ string_bytes key ∷ drop (i + 1) more = grind (arith, common_steps) in
    one_taken (string_bytes key) q (drop (i + 1) more) (contains_text set q)
    (contains_text c.insert.new.self q)
    (hash_set_updates_text
    (string_bytes key) set c.insert.new.self true c.in_ok-insert.ensures.updates q)
    ∙ (ap (λ names. contains_text set q || among q names) (sym split) ∙ c.loop-name.invariant q)
