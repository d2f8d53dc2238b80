-- What is true of timestamps in every trace, whether they happen or not.
use Rattle.sq_term.specs.Formulas.{negation, both, either, implies}
use Rattle.sq_term.specs.Syntax.{TsTree, init, pred, TermTree, le, ts_eq, happens}

-- what happens stands in the order
abbrev pub o1 : TsTree → TermTree
o1 t = implies (happens t) (le t t)

abbrev pub o2 : TsTree → TsTree → TsTree → TermTree
o2 t s r = implies (le t s) (implies (le s r) (le t r))

abbrev pub o3 : TsTree → TsTree → TermTree
o3 t s = implies (le t s) (implies (le s t) (ts_eq t s))

abbrev pub o4 : TsTree → TsTree → TermTree
o4 t s = implies (happens t) (implies (happens s) (either (le t s) (le s t)))

-- only what happens stands in the order, and two that do not happen are equal
abbrev pub o5 : TsTree → TsTree → TermTree
o5 t s =
    both (implies (le t s) (both (happens t) (happens s)))
    (either (happens t) (either (happens s) (ts_eq t s)))

-- init is the first
abbrev pub o6 : TsTree → TermTree
o6 t = both (happens init) (implies (happens t) (le init t))

-- each but init has one before it
abbrev pub o7 : TsTree → TermTree
o7 t =
    both (implies (happens (pred t)) (both (le (pred t) t) (negation (ts_eq (pred t) t))))
    (both (implies (happens t) (implies (negation (ts_eq t init)) (happens (pred t))))
    (negation (happens (pred init))))

-- there is none between
abbrev pub o10 : TsTree → TsTree → TermTree
o10 t s = implies (le t s) (implies (negation (ts_eq t s)) (le t (pred s)))
