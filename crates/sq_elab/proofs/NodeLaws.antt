-- Closing nodes are numbered in preorder.
use Rattle.std.proofs.Common.{◌≡◌, ℕ, zero, suc, ◌+◌, List, [], ◌∷◌, Option, Some, None, ap, arith}
use Rattle.std.proofs.Common.{slice_get}
use Rattle.sq_elab.specs.Events.{Event, process_node, formula_node, calls, argument, channel}
use Rattle.sq_elab.specs.Events.{create, close, Count, counted}
use Rattle.sq_elab.specs.Laws.{AreNumberedInOrder}
use Rattle.sq_elab.specs.Outcome.{ClosingNode, closing_nodes, start, all_events}

abbrev number_or : Option ClosingNode → ℕ
number_or (Some n) = n.number
number_or None = 0

numbered : (k : Count) (vs : List Event) (i : ℕ) (n : ClosingNode)
    → slice_get (closing_nodes k vs) i ≡ Some n → n.number ≡ k.actions + i
numbered k [] i n e = absurd (cc (e))
numbered k (process_node d ∷ vs) i n e = numbered (counted k (process_node d)) vs i n e
numbered k (formula_node w p d ∷ vs) i n e = numbered (counted k (formula_node w p d)) vs i n e
numbered k (calls w x m c ∷ vs) i n e = numbered k vs i n e
numbered k (argument w y ∷ vs) i n e = numbered k vs i n e
numbered k (channel w x ∷ vs) i n e = numbered k vs i n e
numbered k (create w x ∷ vs) i n e = numbered (counted k (create w x)) vs i n e
numbered k (close w m ∷ vs) zero n e =
    let same : k.actions ≡ n.number = ap number_or e in omega arith
numbered k (close w m ∷ vs) (suc i) n e =
    let rest : n.number ≡ suc k.actions + i = numbered (counted k (close w m)) vs i n e in
    omega arith

pub numbered_in_order : AreNumberedInOrder
numbered_in_order b p k n e =
    let from : n.number ≡ 0 + k = numbered (start b) (all_events b p) k n e in
    omega arith
