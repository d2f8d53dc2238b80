-- Steps one after another, on a stack and on one with more behind; a proof goes on standing.
use Rattle.std.proofs.Common.{◌≡◌, ℕ, suc, refl, sym, ap, ◌∙◌, subst, List, [], ◌∷◌, ◌++◌}
use Rattle.std.proofs.Common.{append_assoc, drop, Bool, true, false, Result, Ok, Err, OnOk}
use Rattle.std.specs.Prelude.{if◌then◌else◌}
use Rattle.std.specs.List.{list_all}
use Rattle.sq_base.specs.Gives.{Gives}
use Rattle.sq_term.proofs.BoolTests.{and_both}
use Rattle.sq_system.specs.declared.fault.RuleFault.{RuleFault}
use Rattle.sq_system.specs.Sequents.{SequentTree}
use Rattle.sq_system.specs.Statements.{EnvTree}
use Rattle.sq_step.specs.declared.step.Step.{Step}
use Rattle.sq_sequent.specs.Rows.{Replaces}
use Rattle.sq_rules_logic.proofs.Answering.{replaces}
use Rattle.sq_kernel.specs.declared.extending.ExtendFault.{ExtendFault}
use Rattle.sq_kernel.specs.declared.extending.ExtendFault.TheVariants.{Names, NoMemory}
use Rattle.sq_kernel.specs.declared.extending.GoalNames.{GoalNames}
use Rattle.sq_kernel.specs.Closing.{site}
use Rattle.sq_kernel.specs.Verdicts.{calculus, in_front}
use Rattle.sq_kernel.specs.Goals.{GoalTree, sequents_of, is_named}
use Rattle.sq_kernel.specs.Proofs.{ProofTree, Leaves, Stands}
use Rattle.sq_kernel.specs.Extending.{go_on, left_from, named, both, each_named}
use Rattle.sq_kernel.specs.Extending.{named_each, left_of, grown, grown_by, extended}

-- the value of a result
abbrev value_or : {A E : Type 0} → A → Result A E → A
value_or d (Ok a) = a
value_or d (Err e) = d

the_value : {A E : Type 0} (d a : A) (r : Result A E) → r ≡ Ok a → value_or d r ≡ a
the_value d a r e = ap (value_or d) e

module _ (env : EnvTree) (g : ℕ) where
  -- further steps on what is left
  pub leaves-append : (xs ys : List Step) (a b c : List SequentTree)
      → Leaves env g xs a b → Leaves env g ys b c → Leaves env g (xs ++ ys) a c
  leaves-append [] ys a b c e l = subst (λ s. Leaves env g ys s c) (sym e) l
  leaves-append (x ∷ xs) ys [] b c e l = absurd e
  leaves-append (x ∷ xs) ys (s ∷ rest) b c e l =
      (e.0, e.1, leaves-append xs ys (e.0 ++ rest) b c e.2 l)

  -- more sequents behind
  pub leaves-behind : (xs : List Step) (a b rest : List SequentTree)
      → Leaves env g xs a b → Leaves env g xs (a ++ rest) (b ++ rest)
  leaves-behind [] a b rest e = ap (λ s. s ++ rest) e
  leaves-behind (x ∷ xs) [] b rest e = absurd e
  leaves-behind (x ∷ xs) (s ∷ a) b rest e = (
    e.0,
    e.1,
    subst (λ q. Leaves env g xs q (b ++ rest)) (append_assoc e.0 a rest)
        (leaves-behind xs (e.0 ++ a) b rest e.2),
  )

  -- what is computed is left
  pub left-leaves : (n : ℕ) (steps : List Step) (stack left : List SequentTree)
      → left_from env g n steps stack ≡ Ok left → Leaves env g steps stack left
  left-leaves n [] stack left e =
      the_value left left (Ok stack) e
  left-leaves n (x ∷ steps) [] left e = absurd (cc (e))
  left-leaves n (x ∷ steps) (s ∷ rest) left e =
      go (calculus (site env g s) x) refl e
      (λ ps k. left-leaves (suc n) steps (ps ++ rest) left k)
    where
      go : (r : Result (List SequentTree) RuleFault) → calculus (site env g s) x ≡ r
          → go_on (suc n) (in_front r rest) (left_from env g (suc n) steps) ≡ Ok left
          → ((ps : List SequentTree) → left_from env g (suc n) steps (ps ++ rest) ≡ Ok left
          → Leaves env g steps (ps ++ rest) left)
          → (premises : List SequentTree) × Replaces (site env g s) x premises
          × Leaves env g steps (premises ++ rest) left
      go (Ok ps) f k further = (ps, replaces (site env g s) x ps f, further ps k)
      go (Err reason) f k further = absurd (cc (k))

-- ---- names

module _ (schemas : List (List ℕ)) where
  -- a list of goals with one more in front
  one_more : (P : List GoalTree → Type 0) (s : SequentTree) (n : GoalNames) (b : Bool)
      (r : Result (List GoalTree) ExtendFault) (goals : List GoalTree)
      → is_named (named schemas s n) ≡ b
      → both (if b then Ok (named schemas s n) else Err Names) r ≡ Ok goals
      → ((gs : List GoalTree) → r ≡ Ok gs → is_named (named schemas s n) ≡ true
      → P (named schemas s n ∷ gs))
      → P goals
  one_more P s n true (Ok gs) goals f e k =
      subst P (the_value goals goals (Ok (named schemas s n ∷ gs)) e) (k gs refl f)
  one_more P s n true (Err reason) goals f e k = absurd (cc (e))
  one_more P s n false r goals f e k = absurd (cc (e))

  -- the sequents are those that got the names
  pub named-sequents : (left : List SequentTree) (names : List GoalNames) (goals : List GoalTree)
      → each_named schemas left names ≡ Ok goals → sequents_of goals ≡ left
  named-sequents [] [] goals e =
      ap sequents_of (sym (the_value goals goals (Ok []) e))
  named-sequents [] (n ∷ ns) goals e = absurd (cc (e))
  named-sequents (s ∷ ss) [] goals e = absurd (cc (e))
  named-sequents (s ∷ ss) (n ∷ ns) goals e =
      one_more (λ q. sequents_of q ≡ s ∷ ss) s n (is_named (named schemas s n))
      (each_named schemas ss ns) goals refl e
      (λ gs k h. ap (λ q. s ∷ q) (named-sequents ss ns gs k))

  -- each goal has its names
  pub named-all : (left : List SequentTree) (names : List GoalNames) (goals : List GoalTree)
      → each_named schemas left names ≡ Ok goals → list_all is_named goals ≡ true
  named-all [] [] goals e =
      ap (list_all is_named) (sym (the_value goals goals (Ok []) e))
  named-all [] (n ∷ ns) goals e = absurd (cc (e))
  named-all (s ∷ ss) [] goals e = absurd (cc (e))
  named-all (s ∷ ss) (n ∷ ns) goals e =
      one_more (λ q. list_all is_named q ≡ true) s n (is_named (named schemas s n))
      (each_named schemas ss ns) goals refl e
      (λ gs k h. and_both (is_named (named schemas s n)) (list_all is_named gs) h
      (named-all ss ns gs k))

sequents-append : (xs ys : List GoalTree)
    → sequents_of (xs ++ ys) ≡ sequents_of xs ++ sequents_of ys
sequents-append [] ys = refl
sequents-append (x ∷ xs) ys = ap (λ q. x.sequent ∷ q) (sequents-append xs ys)

-- ---- a proof with more steps

module _ (env : EnvTree) (first : SequentTree) (p q : ProofTree) (steps : List Step)
    (names : List GoalNames) where
  named_on : (g : GoalTree) (rest : List GoalTree) (left : List SequentTree)
      (r : Result (List GoalTree) ExtendFault)
      → p.goals ≡ g ∷ rest → Leaves env p.goal steps (g.sequent ∷ []) left
      → each_named g.schemas left names ≡ r → grown_by p steps r ≡ Ok q
      → Stands p first env → Stands q first env
  named_on g rest left (Ok goals) e l f k s =
      subst (λ r. Stands r first env) (the_value q q (Ok (grown p steps goals)) k)
      (subst (λ ss. Leaves env p.goal (p.steps ++ steps) (first ∷ []) ss)
      (ap (λ ss. ss ++ sequents_of rest) (sym (named-sequents g.schemas left names goals f))
      ∙ (sym (sequents-append goals rest)
      ∙ ap (λ gs. sequents_of (goals ++ drop 1 gs)) (sym e)))
      (leaves-append env p.goal p.steps steps (first ∷ []) (g.sequent ∷ sequents_of rest)
      (left ++ sequents_of rest)
      (subst (λ gs. Leaves env p.goal p.steps (first ∷ []) (sequents_of gs)) e s)
      (leaves-behind env p.goal steps (g.sequent ∷ []) left (sequents_of rest) l)))
  named_on g rest left (Err reason) e l f k s = absurd (cc (k))

  left_on : (g : GoalTree) (rest : List GoalTree) (r : Result (List SequentTree) ExtendFault)
      → p.goals ≡ g ∷ rest → left_from env p.goal 0 steps (g.sequent ∷ []) ≡ r
      → grown_by p steps (named_each g.schemas names r) ≡ Ok q
      → Stands p first env → Stands q first env
  left_on g rest (Ok left) e f k s =
      named_on g rest left (each_named g.schemas left names) e
      (left-leaves env p.goal 0 steps (g.sequent ∷ []) left f) refl k s
  left_on g rest (Err reason) e f k s = absurd (cc (k))

  stands_at : (goals : List GoalTree) → p.goals ≡ goals
      → grown_by p steps (left_of env p.goal steps names goals) ≡ Ok q → Stands p first env
      → Stands q first env
  stands_at [] e k s = absurd (cc (k))
  stands_at (g ∷ rest) e k s =
      left_on g rest (left_from env p.goal 0 steps (g.sequent ∷ [])) e refl k s

  extended-stands : extended env p steps names ≡ Ok q → Stands p first env → Stands q first env
  extended-stands k s = stands_at p.goals refl k s

-- what extends a proof keeps what it stands for
pub keeps-standing : {A : Type 0} (env : EnvTree) (p q : ProofTree) (steps : List Step)
    (names : List GoalNames) (r : Result A ExtendFault)
    → Gives NoMemory (λ u. q) r (extended env p steps names)
    → OnOk r ((first : SequentTree) → Stands p first env → Stands q first env)
keeps-standing env p q steps names (Ok u) e =
    λ first s. extended-stands env first p q steps names e s
keeps-standing env p q steps names (Err reason) e = tt

-- what is left is named
pub left-all : (env : EnvTree) (goal : ℕ) (steps : List Step) (names : List GoalNames)
    (goals left : List GoalTree) → left_of env goal steps names goals ≡ Ok left
    → list_all is_named left ≡ true
left-all env goal steps names [] left e = absurd (cc (e))
left-all env goal steps names (g ∷ rest) left e =
    go (left_from env goal 0 steps (g.sequent ∷ [])) e
  where
    go : (r : Result (List SequentTree) ExtendFault) → named_each g.schemas names r ≡ Ok left
        → list_all is_named left ≡ true
    go (Ok ss) k = named-all g.schemas ss names left k
    go (Err reason) k = absurd (cc (k))
