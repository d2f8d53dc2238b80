-- Records: the values of the macros along a trace.
use Rattle.std.specs.Prelude.{ℕ, List, [], ◌∷◌, ◌++◌, map, get_or, Option, Some, None, Bool}
use Rattle.sq_term.specs.declared.term.Macro.TheVariants.{Input, Output, Cond, Exec, Frame}
use Rattle.sq_term.specs.declared.model.Inst.{Inst}
use Rattle.sq_term.specs.declared.model.Model.{Model}
use Rattle.sq_term.specs.declared.model.Value.TheVariants.{Index as Number}
use Rattle.sq_term.specs.Macros.{GroundMacro, word}
use Rattle.sq_term.specs.Ground.{Ground}
use Rattle.sq_term.specs.GroundFormulas.{truth, falsity, both, empty, conditional, pair, of_bool}
use Rattle.sq_term.specs.GroundFormulas.{attacked}
use Rattle.sq_term.specs.Systems.{SystemTree, ActionTree, action_at}
use Rattle.sq_term.specs.Translate.{World, Assignment, translate}
use Rattle.sq_term.specs.Models.{times_of}

-- the macros at one position
pub record Record : Type 0 where
  pub input : Ground
  pub output : Ground
  pub cond : Ground
  pub exec : Ground
  pub frame : Ground

abbrev pub at_init : Record
at_init = record { input = empty; output = empty; cond = truth; exec = truth; frame = empty }

abbrev pub at_undefined : Record
at_undefined =
    record { input = empty; output = empty; cond = falsity; exec = falsity; frame = empty }

-- the record after `last`, with this input, output and condition
abbrev pub next_record : Record → Ground → Ground → Ground → Record
next_record last input output condition =
    let exec : Ground = both last.exec condition in
    record {
      input = input;
      output = output;
      cond = condition;
      exec = exec;
      frame = pair last.frame (pair (of_bool exec) (conditional exec output empty));
    }

abbrev pub field : GroundMacro → Record → Ground
field (word Input) r = r.input
field (word Output) r = r.output
field (word Cond) r = r.cond
field (word Exec) r = r.exec
field (word Frame) r = r.frame

-- a macro's value where the first positions have these records
abbrev pub value_in : List Record → GroundMacro → Option ℕ → Ground
value_in records m (Some p) = field m (get_or records p at_undefined)
value_in records m None = field m at_undefined

abbrev pub world_over : Model → Bool → List Record → World
world_over m left records = record { times = times_of m; values = value_in records; left = left }

-- an action's body is read at the indices of its instance
abbrev pub own_indices : Inst → Assignment
own_indices i = record { variables = map Number i.idx; schemas = [] }

-- the record of an instance, where `records` are those of the positions before it and `last` is the
-- last of them; its body reads these and its own input
abbrev pub record_of : SystemTree → Model → Bool → List Record → Record → Inst → Record
record_of system m left records last i =
    let body : ActionTree = action_at system i.act in
    let input : Ground = attacked last.frame in
    let half : Record = record at_undefined { input = input } in
    let w : World = world_over m left (records ++ half ∷ []) in
    next_record last input
    (translate w (own_indices i) [] body.output) (translate w (own_indices i) [] body.cond)

-- one pass along the trace
abbrev pub records_from
    : SystemTree → Model → Bool → List Record → Record → List Inst → List Record
records_from system m left records last [] = records
records_from system m left records last (i ∷ rest) =
    let r : Record = record_of system m left records last i in
    records_from system m left (records ++ r ∷ []) r rest

abbrev pub records_of : SystemTree → Model → Bool → List Record
records_of system m left = records_from system m left (at_init ∷ []) at_init m.list

-- the record at a position, the undefined one past the last
abbrev pub record_at : SystemTree → Model → Bool → ℕ → Record
record_at system m left p = get_or (records_of system m left) p at_undefined

-- the world of a model, on one side
abbrev pub world : SystemTree → Model → Bool → World
world system m left = world_over m left (records_of system m left)
