-- Lists of terms and their trees.
use Rattle.std.proofs.Common.{◌≡◌, ◌<◌, ◌&&◌, ℕ, List, [], ◌∷◌, ◌++◌, length, None, codes, ap}
use Rattle.std.proofs.Common.{refl, ◌∙◌, arith}
use Rattle.sq_term.specs.declared.term.Idx.{Idx}
use Rattle.sq_print.specs.Written.{ended, is_none, are_none}
use Rattle.sq_term.specs.declared.term.Term.{Term}
use Rattle.sq_term.specs.View.{term_trees}
use Rattle.sq_term.proofs.Views.{tree_rules}
use Rattle.sq_term.specs.declared.term.Term.TheViews.{the_lemmas}
use Rattle.sq_term.specs.Symbols.{Kind, IsDeclared, declared}
use Rattle.sq_term.specs.Builtins.{word, layout}
use Rattle.sq_term.specs.declared.layout.Layout.TheVariants.{Word}
use Rattle.sq_term.proofs.Connectives.{count_terms-trees}
use Rattle.sq_term.proofs.KindNumbers.{IsDeclared-number}
use Rattle.sq_print.specs.Names.{Names}
use Rattle.sq_print.specs.Supplies.{IsAround, Kept}
use Rattle.sq_print.specs.declared.binders.Binders.{Binders}

pub ended_open : (is : List Idx) (ts : List Term) (out : List ℕ) → 0 < length ts
    → ended (is_none is && are_none (term_trees ts)) out ≡ out ++ codes ")"
ended_open [] [] out h = absurd (omega arith)
ended_open [] (t ∷ ts) out h = refl
ended_open (i ∷ is) ts out h = refl

-- a writer that enters no binder keeps those around
pub kept_same : (ns : Names) (b : Binders) → IsAround ns b → Kept ns b b
kept_same ns b is = record { around = refl; indices = refl; times = refl; is_around = is }

pub kept_twice : (ns : Names) (a b c : Binders) → Kept ns a b → Kept ns b c → Kept ns a c
kept_twice ns a b c x y =
    record {
      around = y.around ∙ x.around;
      indices = y.indices ∙ x.indices;
      times = y.times
          ∙ x.times;
      is_around = y.is_around;
    }

-- a declared function is written as a word, and has none of its own
pub declared_layout : (f : Kind) → IsDeclared f → layout f ≡ Word
declared_layout f h = let r : (j : ℕ) × (f ≡ declared j) = IsDeclared-number f h in ap layout r.1

pub declared_word : (f : Kind) → IsDeclared f → word f ≡ None
declared_word f h = let r : (j : ℕ) × (f ≡ declared j) = IsDeclared-number f h in ap word r.1

pub ruleset write_rules = (tree_rules, count_terms-trees, the_lemmas)

pub ruleset form_rules = (tree_rules, count_terms-trees)
