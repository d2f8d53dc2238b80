-- What stands in the place of the whole of a timestamp or of a term, and what where nothing does.
use Rattle.std.proofs.Common.{◌≡◌, ℕ, ap}
use Rattle.std.specs.Prelude.{Some, None, unwrap_or}
use Rattle.sq_term.specs.Syntax.{TsTree, TermTree}
use Rattle.sq_subst.specs.Leaves.{Leaves, ts_below, map_ts, term_below, map_term}
use Rattle.sq_subst.proofs.Rooms.{room_rules, put_rules}

pub map_ts-here : (L : Leaves) (m : ℕ) (t u : TsTree) → L.time t ≡ Some u → map_ts L m t ≡ u
map_ts-here L m t u e = ap (λ o. unwrap_or o (ts_below L m t)) e

pub map_ts-below : (L : Leaves) (m : ℕ) (t : TsTree) → L.time t ≡ None
    → map_ts L m t ≡ ts_below L m t
map_ts-below L m t e = ap (λ o. unwrap_or o (ts_below L m t)) e

pub map_term-here : (L : Leaves) (m : ℕ) (t u : TermTree) → L.term t ≡ Some u
    → map_term L m t ≡ u
map_term-here L m t u e = ap (λ o. unwrap_or o (term_below L m t)) e

pub map_term-below : (L : Leaves) (m : ℕ) (t : TermTree) → L.term t ≡ None
    → map_term L m t ≡ term_below L m t
map_term-below L m t e = ap (λ o. unwrap_or o (term_below L m t)) e

pub ruleset walk_room_rules =
    (room_rules, map_ts-here, map_ts-below, map_term-here, map_term-below)

pub ruleset walk_rules =
    (put_rules, map_ts-here, map_ts-below, map_term-here, map_term-below)
