-- Derivations can be joined, so that each rule is a function on what has a derivation.
use Rattle.std.proofs.Common.{List, [], ◌∷◌, ◌++◌}
use Rattle.sq_term.specs.Lists.{Member, here, there, Each}
use Rattle.sq_term.proofs.Members.{member-append_left, member-append_right, each_cons, each_none}
use Rattle.sq_term.proofs.Members.{each_single}
use Rattle.sq_ground.specs.Lines.{Line}
use Rattle.sq_ground.specs.Rules.{Rule, FollowsBy}
use Rattle.sq_ground.specs.Theories.{Theory}
use Rattle.sq_ground.specs.Derivations.{IsInstance, Follows, IsDerivation, HasDerivation}

module _ (th : Theory) where
  -- what follows from some lines follows from more
  pub weaken : (ls ms : List Line) → Each (Member ms) ls → (l : Line) → Follows th ls l
      → Follows th ms l
  weaken ls ms sub l f = record {
    axioms = f.axioms;
    are_instances = f.are_instances;
    cited = f.cited;
    are_earlier = λ x i. sub x (f.are_earlier x i);
    rule = f.rule;
    by_rule = f.by_rule;
  }

  -- one derivation after another
  pub join : (ls ms : List Line) → IsDerivation th ls → IsDerivation th ms
      → IsDerivation th (ls ++ ms)
  join [] ms h k = k
  join (l ∷ ls) ms h k =
      (weaken ls (ls ++ ms) (λ x i. member-append_left ls ms x i) l h.0, join ls ms h.1 k)

  -- one derivation that holds all of these lines
  pub gather : (ls : List Line) → Each (HasDerivation th) ls
      → (es : List Line) × IsDerivation th es × Each (Member es) ls
  gather [] h = ([], tt, each_none (Member []))
  gather (l ∷ ls) h = add (h l here) (gather ls (λ d i. h d (there i)))
    where
      add : HasDerivation th l → (es : List Line) × IsDerivation th es × Each (Member es) ls
          → (es : List Line) × IsDerivation th es × Each (Member es) (l ∷ ls)
      add (es, d) (fs, e, m) = (
        (l ∷ es) ++ fs,
        join (l ∷ es) fs d e,
        each_cons l ls (Member ((l ∷ es) ++ fs)) here
            (λ x i. member-append_right (l ∷ es) fs x (m x i)),
      )

  -- a line that follows from lines that have derivations has one
  pub derive_from : (ls : List Line) (l : Line) → Each (HasDerivation th) ls → Follows th ls l
      → HasDerivation th l
  derive_from ls l h f =
      let g : (es : List Line) × IsDerivation th es × Each (Member es) ls = gather ls h in
      (g.0, (weaken ls g.0 g.2 l f, g.1))

  -- a line that follows by a rule from lines that have derivations has one
  pub derive : {rule : Rule} (cited : List Line) (l : Line) → Each (HasDerivation th) cited
      → FollowsBy th.funs [] rule cited l → HasDerivation th l
  derive {rule} cited l h f =
      derive_from cited l h
      (record {
        axioms = [];
        are_instances = each_none (IsInstance th);
        cited = cited;
        are_earlier = λ x i. i;
        rule = rule;
        by_rule = f;
      })

  -- by a rule that cites no line
  pub derive_outright : {rule : Rule} (l : Line) → FollowsBy th.funs [] rule [] l
      → HasDerivation th l
  derive_outright l f = derive [] l (each_none (HasDerivation th)) f

  -- an instance of an axiom
  pub derive_axiom : (l : Line) → IsInstance th l → HasDerivation th l
  derive_axiom l i =
      derive_from [] l (each_none (HasDerivation th))
      (record {
        axioms = l ∷ [];
        are_instances = each_single l (IsInstance th) i;
        cited = [];
        are_earlier = each_none (Member []);
        rule = Rule.G10;
        by_rule = FollowsBy.axiom_line l here;
      })
