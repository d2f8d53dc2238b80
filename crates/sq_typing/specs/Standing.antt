-- What may stand in a sequent, by what it speaks of.
use Rattle.std.specs.Prelude.{[], Bool, true, ◌&&◌, not}
use Rattle.sq_base.specs.declared.sort.Sort.{Sort}
use Rattle.sq_term.specs.declared.term.Side.{Side}
use Rattle.sq_term.specs.declared.term.Side.TheVariants.{Left, Right, Both}
use Rattle.sq_term.specs.Pure.{is_pure}
use Rattle.sq_term.specs.Syntax.{TermTree}
use Rattle.sq_typing.specs.Typing.{Signature, has_sort}
use Rattle.sq_typing.specs.Diffs.{holds_diff}

-- what a term speaks of: the trace alone, or what a side sees, or both sides
pub data Subject : Type 0 where
  of_trace : Subject
  of_side : Side → Subject

-- of the trace alone speak trace formulas, and of one side what holds no `diff`
abbrev pub suits : Subject → TermTree → Bool
suits of_trace t = is_pure t
suits (of_side Both) t = true
suits (of_side Left) t = not (holds_diff t)
suits (of_side Right) t = not (holds_diff t)

-- a term of the signature, over its variables alone, of this sort and on this subject
abbrev pub may_stand : Signature → Subject → Sort → TermTree → Bool
may_stand g about sort t = has_sort g [] sort t && suits about t
