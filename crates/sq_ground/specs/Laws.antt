-- What is proved of traces and translations.
use Rattle.std.specs.Prelude.{◌≡◌, ℕ, suc, List, [], length, Bool, true, Some, None}
use Rattle.sq_base.specs.declared.sort.Sort.{Sort}
use Rattle.sq_term.specs.declared.model.Inst.{Inst}
use Rattle.sq_term.specs.declared.model.Model.{Model}
use Rattle.sq_term.specs.declared.model.Value.{Value}
use Rattle.sq_term.specs.Lists.{Each, ElementAt}
use Rattle.sq_term.specs.Macros.{GroundMacro}
use Rattle.sq_term.specs.Syntax.{TermTree}
use Rattle.sq_term.specs.Ground.{Ground}
use Rattle.sq_term.specs.GroundFormulas.{attacked}
use Rattle.sq_term.specs.Pure.{is_pure}
use Rattle.sq_term.specs.Within.{IsWithin, with_value}
use Rattle.sq_term.specs.Systems.{SystemTree, action_at}
use Rattle.sq_term.specs.Translate.{World, Assignment, translate}
use Rattle.sq_term.specs.Models.{IsTraceModel}
use Rattle.sq_term.specs.Records as records
use Rattle.sq_term.specs.Records.{Record, own_indices, field, record_at, world}
use Rattle.sq_typing.specs.Typing.{has_sort}
use Rattle.sq_system.specs.Facts.{IsSystem}
use Rattle.sq_system.specs.Statements.{EnvTree}
use Rattle.sq_system.specs.Usable.{system_of}
use Rattle.sq_system.specs.Scopes.{signature_of}
use Rattle.sq_system.specs.WellFormed.{is_environment}
use Rattle.sq_ground.specs.Truth.{value, is_true}
use Rattle.sq_ground.specs.GroundSorts.{has_ground_sort, IsMessage}
use Rattle.sq_ground.specs.Theories.{Theory, world_at}
use Rattle.sq_ground.specs.Goals.{theory_of}

-- the record behind the one at position k is that of the instance, whose output and condition are
-- read in the whole trace
abbrev pub MeetsTheTable : SystemTree → Model → Bool → ℕ → Inst → Type 0
MeetsTheTable s m left k i =
    let w : World = world s m left in
    let before : Record = record_at s m left k in
    (read : GroundMacro) → w.values read (Some (suc k))
    ≡ field read (records.next_record before (attacked before.frame)
    (translate w (own_indices i) [] (action_at s i.act).output)
    (translate w (own_indices i) [] (action_at s i.act).cond))

-- In each model of a system, on each side: at init and at the undefined timestamp the macros have
-- their fixed values, and at the position of an instance those of its input, its output and its
-- condition, behind the position before.
abbrev pub RecordsMeetTheTable : Type 0
RecordsMeetTheTable =
    (s : SystemTree) (m : Model) (left : Bool) → IsSystem s → IsTraceModel s m
    → ((read : GroundMacro) → (world s m left).values read (Some 0) ≡ field read records.at_init)
    × ((read : GroundMacro) → (world s m left).values read None ≡ field read records.at_undefined)
    × ((k : ℕ) (i : Inst) → ElementAt m.list k i → MeetsTheTable s m left k i)

-- the empty trace over one index is a model of every system
abbrev pub EverySystemHasAModel : Type 0
EverySystemHasAModel = (s : SystemTree) → IsTraceModel s (record { indices = 1; list = [] })

-- a trace formula's translation has one value, on both sides and whatever the values of terms
-- without a connective at their head
abbrev pub TraceFormulasHaveOneTruth : Type 0
TraceFormulasHaveOneTruth =
    (th : Theory) (a : Assignment) (t : TermTree) → is_pure t ≡ true → (left : Bool)
    (v : Ground → Bool)
    → value v (translate (world_at th left) a [] t) ≡ is_true (translate (world_at th true) a [] t)

-- the value of a further variable changes no translation of a term that does not name it
abbrev pub FurtherVariableChangesNothing : Type 0
FurtherVariableChangesNothing =
    (w : World) (a : Assignment) (x : Value) (bs : List Value) (t : TermTree)
    → IsWithin (length a.variables) t → translate w (with_value a x) bs t ≡ translate w a bs t

-- At a model, before a goal of an environment, a well-sorted term's translation has its sort: a
-- term of sort message means a message.
abbrev pub TranslationsKeepSorts : Type 0
TranslationsKeepSorts =
    (e : EnvTree) (g : ℕ) (m : Model) (left : Bool) (schemas : ℕ) (vars : List Sort)
    (a : Assignment) (s : Sort) (t : TermTree)
    → is_environment e ≡ true → Each (IsMessage e.funs) a.schemas
    → has_sort (signature_of e (system_of e g) schemas vars) [] s t ≡ true
    → has_ground_sort e.funs s (translate (world_at (theory_of e g m) left) a [] t) ≡ true
