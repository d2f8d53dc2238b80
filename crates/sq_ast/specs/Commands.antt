-- The proof command that a word begins.
use Rattle.std.specs.Prelude.{ℕ, List, [], ◌∷◌, Option, find}
use Rattle.std.specs.Str.{bytes_eq}
use Rattle.sq_ast.specs.declared.command.CommandWord.{CommandWord}
use Rattle.sq_ast.specs.declared.command.CommandWord.TheVariants.{Intro, Split, Left, Right}
use Rattle.sq_ast.specs.declared.command.CommandWord.TheVariants.{Destruct, Mp, Contra, Spec, Have}
use Rattle.sq_ast.specs.declared.command.CommandWord.TheVariants.{Case, Drop, Use, Project, Trace}
use Rattle.sq_ast.specs.declared.command.CommandWord.TheVariants.{Assumption, Refl, Rewrite, Fact}
use Rattle.sq_ast.specs.declared.command.CommandWord.TheVariants.{Expand, Undefined, Tcases}
use Rattle.sq_ast.specs.declared.command.CommandWord.TheVariants.{Induction, Fresh, Euf, Collision}
use Rattle.sq_ast.specs.declared.command.CommandWord.TheVariants.{Assume, Select, Fa, Atom, IfCase}
use Rattle.sq_ast.specs.declared.command.CommandWord.TheVariants.{Deduce, Replace, Prf, Constraints}
use Rattle.sq_ast.specs.declared.command.CommandWord.TheVariants.{Congruence, Auto}
use Rattle.sq_ast.specs.Forms.{command_text}

-- all first words
abbrev pub command_words : List CommandWord
command_words =
    Intro ∷ Split ∷ Left ∷ Right ∷ Destruct ∷ Mp ∷ Contra ∷ Spec ∷ Have ∷ Case ∷ Drop ∷ Use
    ∷ Project ∷ Trace ∷ Assumption ∷ Refl ∷ Rewrite ∷ Fact ∷ Expand ∷ Undefined ∷ Tcases
    ∷ Induction ∷ Fresh ∷ Euf ∷ Collision ∷ Assume ∷ Select ∷ Fa ∷ Atom ∷ IfCase ∷ Deduce
    ∷ Replace ∷ Prf ∷ Constraints ∷ Congruence ∷ Auto ∷ []

-- the word of this text
unfoldable pub command_of : List ℕ → Option CommandWord
command_of text = find (λ w. bytes_eq (command_text w) text) command_words
