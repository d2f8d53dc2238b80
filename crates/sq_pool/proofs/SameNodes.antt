-- `==` decides `≡` on nodes.
use Rattle.std.proofs.Common.{◌≡◌, Decides, List, ap}
use Rattle.std.specs.Cmp.Lexicographic.{pointwise, pointwise_decides}
use Rattle.std.proofs.lemmas.Bool.Decides.{Decides-eqb, Decides-and, Decides-like}
use Rattle.sq_term.proofs.SameParts.{sort-decides, macro-decides, idx-decides, indices-decide}
use Rattle.sq_term.proofs.SameParts.{is_same_ts-decides}
use Rattle.sq_pool.specs.declared.node.TermId.{TermId}
use Rattle.sq_pool.specs.contracts.node.TermIdPartialEq.TheImpl as id_eq
use Rattle.sq_pool.specs.declared.node.Node.{Node}
use Rattle.sq_pool.specs.declared.node.Node.TheVariants as node
use Rattle.sq_pool.specs.contracts.node.NodePartialEq.TheImpl as node_eq

id-decides : (a b : TermId) → Decides (id_eq.eq-value.it a b) (a ≡ b)
id-decides a b =
    Decides-like _ (λ e. (λ i. record { at = e i })) (λ e. ap (λ x. x.at) e) (Decides-eqb a.at b.at)

ids-decide : (a b : List TermId) → Decides (pointwise id_eq.eq-value.it a b) (a ≡ b)
ids-decide a b = pointwise_decides id-decides a b

pub node-decides : (a b : Node) → Decides (node_eq.eq-value.it a b) (a ≡ b)
node-decides (node.Name m is) (node.Name n js) =
    Decides-like _ (λ e. (λ i. node.Name (e.0 i) (e.1 i))) (λ e. (cc, cc))
    (Decides-and _ _ (Decides-eqb m n) (indices-decide is js))
node-decides (node.Fun f is ts) (node.Fun g js us) =
    Decides-like _ (λ e. (λ i. node.Fun (e.0 i) (e.1.0 i) (e.1.1 i))) (λ e. (cc, (cc, cc)))
    (Decides-and _ _ (Decides-eqb f g)
    (Decides-and _ _ (indices-decide is js) (ids-decide ts us)))
node-decides (node.Macro m s) (node.Macro n t) =
    Decides-like _ (λ e. (λ i. node.Macro (e.0 i) (e.1 i))) (λ e. (cc, cc))
    (Decides-and _ _ (macro-decides m n) (is_same_ts-decides s t))
node-decides (node.Schema m) (node.Schema n) =
    Decides-like _ (λ e. ap node.Schema e) (λ e. cc) (Decides-eqb m n)
node-decides (node.Diff a b) (node.Diff c d) =
    Decides-like _ (λ e. (λ i. node.Diff (e.0 i) (e.1 i))) (λ e. (cc, cc))
    (Decides-and _ _ (id-decides a c) (id-decides b d))
node-decides (node.Le a b) (node.Le c d) =
    Decides-like _ (λ e. (λ i. node.Le (e.0 i) (e.1 i))) (λ e. (cc, cc))
    (Decides-and _ _ (is_same_ts-decides a c) (is_same_ts-decides b d))
node-decides (node.TsEq a b) (node.TsEq c d) =
    Decides-like _ (λ e. (λ i. node.TsEq (e.0 i) (e.1 i))) (λ e. (cc, cc))
    (Decides-and _ _ (is_same_ts-decides a c) (is_same_ts-decides b d))
node-decides (node.IdxEq a b) (node.IdxEq c d) =
    Decides-like _ (λ e. (λ i. node.IdxEq (e.0 i) (e.1 i))) (λ e. (cc, cc))
    (Decides-and _ _ (idx-decides a c) (idx-decides b d))
node-decides (node.Happens s) (node.Happens t) =
    Decides-like _ (λ e. ap node.Happens e) (λ e. cc) (is_same_ts-decides s t)
node-decides (node.Forall r a) (node.Forall q b) =
    Decides-like _ (λ e. (λ i. node.Forall (e.0 i) (e.1 i))) (λ e. (cc, cc))
    (Decides-and _ _ (sort-decides r q) (id-decides a b))
node-decides (node.Exists r a) (node.Exists q b) =
    Decides-like _ (λ e. (λ i. node.Exists (e.0 i) (e.1 i))) (λ e. (cc, cc))
    (Decides-and _ _ (sort-decides r q) (id-decides a b))
node-decides (node.Find m a b c) (node.Find n d e f) =
    Decides-like _ (λ h. (λ i. node.Find (h.0 i) (h.1.0 i) (h.1.1.0 i) (h.1.1.1 i)))
    (λ h. (cc, (cc, (cc, cc))))
    (Decides-and _ _ (Decides-eqb m n)
    (Decides-and _ _ (id-decides a d)
    (Decides-and _ _ (id-decides b e) (id-decides c f))))
node-decides _ _ = (λ e. cc, λ e. cc)
