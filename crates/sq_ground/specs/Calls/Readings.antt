-- What the functions that build ground terms read: records in which a term that passes the limits
-- is not kept.
use Rattle.std.specs.Prelude.{ℕ, zero, suc, List, [], ◌∷◌, ◌++◌, map, Option, Some, None}
use Rattle.sq_term.specs.declared.ground.GTerm.{GTerm}
use Rattle.sq_term.specs.Ground.{Ground, ground}
use Rattle.sq_term.specs.GroundFormulas.{empty, attacked}
use Rattle.sq_term.specs.Translate.{World, Assignment}
use Rattle.sq_term.specs.Records.{Record, world_over}
use Rattle.sq_ground.specs.declared.reading.Entry.{Entry}
use Rattle.sq_ground.specs.declared.reading.Reading.{Reading}
use Rattle.sq_ground.specs.Calls.Translations.{values_alone}

unfoldable pub tower : ℕ → Ground
tower zero = empty
tower (suc n) = attacked (tower n)

-- stands for each term that was not kept: it is deeper than 1,024 itself
unfoldable pub oversized : Ground
oversized = tower 1024

abbrev pub kept : Option GTerm → Ground
kept (Some t) = ground t
kept None = oversized

abbrev pub kept_record : Entry → Record
kept_record e =
    record {
      input = kept e.input;
      output = kept e.output;
      cond = kept e.cond;
      exec = kept e.exec;
      frame = kept e.frame;
    }

abbrev pub kept_records : List Entry → List Record
kept_records es = map kept_record es

-- the world and the values in which the term is read
abbrev pub seen : Reading → World
seen r = world_over r.model.now r.left (kept_records r.entries.now ++ kept_record r.own.now ∷ [])

abbrev pub given : Reading → Assignment
given r = values_alone r.values.now
