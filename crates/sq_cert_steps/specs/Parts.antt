-- The arguments that are written of a step.
use Rattle.std.specs.Prelude.{List, [], ◌∷◌, ◌++◌, map}
use Rattle.sq_cert_steps.specs.Lines.{Argument, number, direction, target, hand, macro, time_of}
use Rattle.sq_cert_steps.specs.Lines.{term_of}
use Rattle.sq_cert_steps.specs.Lines.{value_of}
use Rattle.sq_cert_steps.specs.declared.writing.Part.{Part}
use Rattle.sq_cert_steps.specs.declared.writing.Part.TheVariants as part
use Rattle.sq_cert_steps.specs.declared.writing.Parts.{Parts}

abbrev pub part_arguments : Part → List Argument
part_arguments part.Nothing = []
part_arguments (part.Number n) = number n ∷ []
part_arguments (part.Value a) = value_of a.now ∷ []
part_arguments (part.Time a) = time_of a.now ∷ []
part_arguments (part.Term a) = term_of a.now ∷ []
part_arguments (part.Direction d) = direction d ∷ []
part_arguments (part.Target t) = target t ∷ []
part_arguments (part.Hand h) = hand h ∷ []
part_arguments (part.Macro m) = macro m ∷ []
part_arguments (part.Numbers ns) = map number ns.now
part_arguments (part.Terms ts) = map term_of ts.now
part_arguments (part.Values vs) = map value_of vs.now

abbrev pub parts_arguments : Parts → List Argument
parts_arguments p =
    part_arguments p.first ++
    (part_arguments p.second ++ (part_arguments p.third ++ part_arguments p.fourth))
