use Rattle.std.proofs.Common.{[]}
use Rattle.sq_ground.specs.Theories.{world_at}
use Rattle.sq_ground.proofs.ReplacedMeaning.{meaning_replaced}
use Rattle.sq_ground.proofs.replacing.replacing_replaces_the_meaning.Goals as goal

pub returns : goal.returns
returns c = λ th left a from to t h k. meaning_replaced (world_at th left) a from to h k [] t
