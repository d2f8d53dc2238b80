-- Lines of ground derivations.
use Rattle.std.specs.Prelude.{List, [], Bool, if◌then◌else◌}
use Rattle.sq_term.specs.Lists.{Each}
use Rattle.sq_term.specs.Ground.{Ground}
use Rattle.sq_term.specs.GroundFormulas.{equal, equivalent}
use Rattle.sq_ground.specs.Truth.{IsTrueAt}

-- hypotheses and a conclusion
pub record Claim : Type 0 where
  pub hyps : List Ground
  pub goal : Ground

pub record Pair : Type 0 where
  pub left : Ground
  pub right : Ground

-- a local line, on the left side where the Bool is true, or an equivalence line
pub data Line : Type 0 where
  local : Bool → Claim → Line
  equiv : List Pair → Line

-- a local line without hypotheses
abbrev pub fact : Bool → Ground → Line
fact left c = local left (record { hyps = []; goal = c })

-- the claim as an implication is true
abbrev pub HoldsUnder : (Ground → Bool) → Claim → Type 0
HoldsUnder v c = Each (IsTrueAt v) c.hyps → IsTrueAt v c.goal

-- each truth assignment that makes the cited claims true makes c true
abbrev pub Entails : List Claim → Claim → Type 0
Entails cited c = (v : Ground → Bool) → Each (HoldsUnder v) cited → HoldsUnder v c

-- equal, as Booleans or as messages
abbrev pub alike : Bool → Ground → Ground → Ground
alike boolean u v = if boolean then equivalent u v else equal u v

-- the pair's term on a side, and the pair with another term there
abbrev pub component : Bool → Pair → Ground
component left p = if left then p.left else p.right

abbrev pub with_component : Bool → (Ground → Ground) → Pair → Pair
with_component left f p =
    record { left = if left then f p.left else p.left; right = if left then p.right else f p.right }
