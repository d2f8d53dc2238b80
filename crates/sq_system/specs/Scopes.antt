-- What the terms of a system and of a sequent may speak of.
use Rattle.std.specs.Prelude.{ℕ, List, map}
use Rattle.sq_base.specs.declared.sort.Sort.{Sort}
use Rattle.sq_term.specs.Systems.{SystemTree}
use Rattle.sq_typing.specs.Standing.{Subject, of_trace, of_side}
use Rattle.sq_typing.specs.Typing.{Signature}
use Rattle.sq_system.specs.Sequents.{Body, trace_body, local_body, equiv_body}
use Rattle.sq_system.specs.Statements.{EnvTree}

-- what the terms of a system may speak of, with these schema variables and over these variables
abbrev pub signature_of : EnvTree → SystemTree → ℕ → List Sort → Signature
signature_of e s schemas vars =
    record {
      names = e.names;
      funs = e.funs;
      actions = map (λ a. a.arity) s.actions;
      schemas = schemas;
      vars = vars;
    }

-- what the hypotheses beside a body speak of: those of an equivalence of the trace alone
abbrev pub subject_of : Body → Subject
subject_of (trace_body goal) = of_trace
subject_of (local_body side goal) = of_side side
subject_of (equiv_body known items) = of_trace
