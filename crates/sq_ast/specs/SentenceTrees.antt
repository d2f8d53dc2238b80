-- What tree a declaration and a proof command are.
use Rattle.std.specs.Prelude.{true, false, List, Option, Some, None}
use Rattle.sq_ast.specs.declared.command.CommandWord.TheVariants as w
use Rattle.sq_ast.specs.declared.command.ProofCommand.{ProofCommand}
use Rattle.sq_ast.specs.declared.command.ProofCommand.TheVariants as written
use Rattle.sq_ast.specs.declared.declaration.Decl.{Decl}
use Rattle.sq_ast.specs.declared.declaration.Decl.TheVariants as d
use Rattle.sq_ast.specs.declared.formula.Formula.{Formula}
use Rattle.sq_ast.specs.Tree.{FormulaTrees}
use Rattle.sq_ast.specs.View.{formula_tree, formula_trees}
use Rattle.sq_ast.specs.ProcTree.{process_tree}
use Rattle.sq_ast.specs.Forms.{hash, channel, signature, name, function, process, system, postulate}
use Rattle.sq_ast.specs.Forms.{lemma, equivalence, exists, command, fresh_item, SentenceTree}
use Rattle.sq_ast.specs.Forms.{sentence}

abbrev pub trees_of : Option (List Formula) → Option FormulaTrees
trees_of None = None
trees_of (Some fs) = Some (formula_trees fs)

abbrev pub decl_tree : Decl → SentenceTree
decl_tree (d.Hash n) = sentence hash (n, tt)
decl_tree (d.Channel n) = sentence channel (n, tt)
decl_tree (d.Signature a b c) = sentence signature (a, (b, (c, tt)))
decl_tree (d.Name n k) = sentence name (n, (k, tt))
decl_tree (d.AbstractMessage n i m) = sentence function (n, (i, (m, (true, tt))))
decl_tree (d.AbstractBoolean n i m) = sentence function (n, (i, (m, (false, tt))))
decl_tree (d.Process n gs a) = sentence process (n, (gs, (process_tree a, tt)))
decl_tree (d.System n a) = sentence system (n, (process_tree a, tt))
decl_tree (d.Axiom n f) = sentence postulate (n, (formula_tree f, tt))
decl_tree (d.Lemma n f) = sentence lemma (n, (formula_tree f, tt))
decl_tree (d.Equiv n gs hs fs) = sentence equivalence
    (n, (gs, (trees_of hs, (formula_trees fs, tt))))

abbrev pub command_tree : ProofCommand → SentenceTree
command_tree (written.Intro xs) = sentence (command w.Intro) (xs, tt)
command_tree written.Split = sentence (command w.Split) tt
command_tree written.Left = sentence (command w.Left) tt
command_tree written.Right = sentence (command w.Right) tt
command_tree (written.Exists t) = sentence exists (formula_tree t, tt)
command_tree (written.Destruct h x y) = sentence (command w.Destruct) (h, (x, (y, tt)))
command_tree (written.Mp h l) = sentence (command w.Mp) (h, (l, tt))
command_tree (written.Contra h) = sentence (command w.Contra) (h, tt)
command_tree (written.Spec h t l) = sentence (command w.Spec) (h, (formula_tree t, (l, tt)))
command_tree (written.Have l t) = sentence (command w.Have) (l, (formula_tree t, tt))
command_tree (written.Case t l) = sentence (command w.Case) (formula_tree t, (l, tt))
command_tree (written.Drop h) = sentence (command w.Drop) (h, tt)
command_tree (written.Use s l) = sentence (command w.Use) (s, (None, (l, tt)))
command_tree (written.UseWith s ts l) = sentence (command w.Use)
    (s, (Some (formula_trees ts), (l, tt)))
command_tree written.Project = sentence (command w.Project) tt
command_tree written.Trace = sentence (command w.Trace) tt
command_tree written.Assumption = sentence (command w.Assumption) tt
command_tree written.Refl = sentence (command w.Refl) tt
command_tree (written.Rewrite b h) = sentence (command w.Rewrite) (b, (h, (None, tt)))
command_tree (written.RewriteIn b h k) = sentence (command w.Rewrite) (b, (h, (Some k, tt)))
command_tree (written.Fact t l) = sentence (command w.Fact) (formula_tree t, (l, tt))
command_tree (written.Expand m t l) = sentence (command w.Expand) (m, (formula_tree t, (l, tt)))
command_tree (written.Undefined m t l) = sentence (command w.Undefined)
    (m, (formula_tree t, (l, tt)))
command_tree (written.Tcases t l) = sentence (command w.Tcases) (formula_tree t, (l, tt))
command_tree (written.Induction t l) = sentence (command w.Induction) (t, (l, (None, tt)))
command_tree (written.InductionWith t l h) = sentence (command w.Induction) (t, (l, (Some h, tt)))
command_tree (written.Fresh h l) = sentence (command w.Fresh) (h, (l, tt))
command_tree (written.Euf h l) = sentence (command w.Euf) (h, (l, tt))
command_tree (written.Collision h l) = sentence (command w.Collision) (h, (l, tt))
command_tree (written.Assume k) = sentence (command w.Assume) (k, tt)
command_tree (written.Select ks) = sentence (command w.Select) (ks, tt)
command_tree (written.Fa k) = sentence (command w.Fa) (k, tt)
command_tree (written.Atom k) = sentence (command w.Atom) (k, tt)
command_tree (written.FreshItem k) = sentence fresh_item (k, tt)
command_tree (written.IfCase k m) = sentence (command w.IfCase) (k, (m, tt))
command_tree (written.Deduce k m) = sentence (command w.Deduce) (k, (m, tt))
command_tree (written.ReplaceLeft k t) = sentence (command w.Replace)
    (true, (k, (formula_tree t, tt)))
command_tree (written.ReplaceRight k t) = sentence (command w.Replace)
    (false, (k, (formula_tree t, tt)))
command_tree (written.PrfLeft k t u) = sentence (command w.Prf)
    (true, (k, (formula_tree t, (formula_tree u, tt))))
command_tree (written.PrfRight k t u) = sentence (command w.Prf)
    (false, (k, (formula_tree t, (formula_tree u, tt))))
command_tree written.Constraints = sentence (command w.Constraints) tt
command_tree written.Congruence = sentence (command w.Congruence) tt
command_tree written.Auto = sentence (command w.Auto) tt
