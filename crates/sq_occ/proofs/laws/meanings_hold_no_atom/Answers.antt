use Rattle.sq_occ.proofs.Atoms.{no_atom}
use Rattle.sq_occ.proofs.laws.meanings_hold_no_atom.Goals as goal

pub returns : goal.returns
returns c = no_atom
