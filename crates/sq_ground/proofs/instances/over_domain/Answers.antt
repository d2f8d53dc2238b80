use Rattle.std.proofs.Common.{◌≡◌, ap, sym, ◌∙◌, subst, List, [], ◌∷◌, ◌++◌, map, None, Some, ◌+◌}
use Rattle.std.proofs.Common.{suc, length, arith}
use Rattle.std.proofs.lemmas.List.{map-append}
use Rattle.sq_base.specs.declared.sort.Sort.TheVariants as s
use Rattle.sq_term.specs.declared.model.Value.{Value}
use Rattle.sq_term.specs.declared.model.Value.TheVariants.{Index as Number, Time as Moment}
use Rattle.sq_term.specs.Lists.{count}
use Rattle.sq_term.specs.Translate.{domain}
use Rattle.sq_term.specs.Models.{times_of}
use Rattle.sq_ground.specs.Calls.Instances.{Lists, with_index, with_position}
use Rattle.sq_ground.proofs.InstanceLists.{map_fused}
use Rattle.sq_ground.proofs.instances.over_domain.Goals as goal

pub returns-in-Index : goal.returns-in-Index
returns-in-Index c =
    let bs = c.args.bs.now in
    let fused : map (λ (x : Value). x ∷ bs) (domain (times_of c.args.m.now) s.Index)
    ≡ map (with_index bs) (count 0 c.args.m.now.indices) =
    map_fused (λ x. x ∷ bs) Number (count 0 c.args.m.now.indices) in
    let e : map (λ (x : Value). x ∷ bs) (domain (times_of c.args.m.now) c.args.sort)
    ≡ map (with_index bs) (count 0 c.args.m.now.indices) =
    ap (λ z. map (λ (x : Value). x ∷ bs) (domain (times_of c.args.m.now) z)) c.in-Index.is
    ∙ fused in
    subst (λ xs. Lists xs c.over_indices.result) (sym e) c.over_indices.ensures

pub returns-in-Timestamp : goal.returns-in-Timestamp
returns-in-Timestamp c =
    let bs = c.args.bs.now in
    let n = length c.args.m.now.list in
    let all : List (List Value) =
    map (with_position bs) (count 0 (suc n)) ++ (Moment None ∷ bs) ∷ [] in
    let fused : map (λ (x : Value). x ∷ bs) (domain (times_of c.args.m.now) s.Timestamp) ≡ all =
    map-append (λ (x : Value). x ∷ bs) (map (λ p. Moment (Some p)) (count 0 (suc n)))
    (Moment None ∷ [])
    ∙ ap (λ ys. ys ++ (Moment None ∷ bs) ∷ [])
    (map_fused (λ x. x ∷ bs) (λ p. Moment (Some p)) (count 0 (suc n))) in
    let e : map (λ (x : Value). x ∷ bs) (domain (times_of c.args.m.now) c.args.sort) ≡ all =
    ap (λ z. map (λ (x : Value). x ∷ bs) (domain (times_of c.args.m.now) z)) c.in-Timestamp.is
    ∙ fused in
    let k : c.len.result + 1 ≡ suc n = omega (arith, c.len.ensures) in
    subst (λ xs. Lists xs c.over_times.result) (sym e)
    (subst (λ q. Lists
    (map (with_position bs) (count 0 q) ++ (Moment None ∷ bs) ∷ []) c.over_times.result) k
    c.over_times.ensures)
