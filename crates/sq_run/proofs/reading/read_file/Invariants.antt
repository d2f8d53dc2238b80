use Rattle.std.proofs.Common.{◌≡◌, ◌<◌, ◌≤◌, ◌-◌, ℕ, List, Some, length, take}
use Rattle.sq_edge.specs.Edge.{held, Lacks}
use Rattle.sq_run.proofs.reading.read_file.Given as goal

abbrev pub invariant-pieces : goal.invariant-pieces
invariant-pieces g l = record {
  within : length l.bytes.items ≤ 1048577;
  front : (file : List ℕ) → held (g.F.Shelf.files l.fn.shelf) l.name ≡ Some file
      → l.bytes.items ≡ take (length l.bytes.items) file;
  present : 0 < length l.bytes.items → Lacks (g.F.Shelf.files l.fn.shelf) l.name → ⊥;
  files : g.F.Shelf.files l.shelf ≡ g.F.Shelf.files l.fn.shelf;
  faults : g.F.Shelf.faults l.fn.shelf ≤ g.F.Shelf.faults l.shelf;
  misses : g.F.Shelf.misses l.fn.shelf ≤ g.F.Shelf.misses l.shelf;
}

abbrev pub decreases-pieces : goal.decreases-pieces
decreases-pieces g l = 1048577 - length l.bytes.items
