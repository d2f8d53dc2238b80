-- What stands at a timestamp: the word of a macro in a term, and what records are asked for.
use Rattle.std.specs.Prelude.{ℕ, List, []}
use Rattle.sq_term.specs.declared.term.Idx.{Idx}
use Rattle.sq_term.specs.declared.term.Macro.{Macro}

-- a macro with the values of its indices: a word has none
pub data GroundMacro : Type 0 where
  word : Macro → GroundMacro

-- the indices at which a term reads a macro
abbrev pub macro_indices : Macro → List Idx
macro_indices m = []

-- the macro at other indices
abbrev pub macro_at : Macro → List Idx → Macro
macro_at m is = m

-- the macro at the values of its indices
abbrev pub ground_macro : Macro → List ℕ → GroundMacro
ground_macro m is = word m
