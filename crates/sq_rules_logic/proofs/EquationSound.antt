-- The rows of equations keep what holds.
use Rattle.std.proofs.Common.{◌≡◌, ℕ, suc, ◌==◌, refl, sym, ap, ◌∙◌, subst, List, [], map, Option}
use Rattle.std.proofs.Common.{Some, None, Bool, true, false}
use Rattle.sq_base.specs.declared.sort.Sort.TheVariants.{Message, Boolean}
use Rattle.sq_term.specs.declared.term.Idx.{Idx}
use Rattle.sq_term.specs.Builtins.{takes_boolean}
use Rattle.sq_term.specs.Formulas.{equal}
use Rattle.sq_term.specs.Ground.{Ground}
use Rattle.sq_term.specs.GroundFormulas.{truth_of}
use Rattle.sq_term.specs.Lists.{here, there, Each}
use Rattle.sq_term.specs.Measure.{count_terms}
use Rattle.sq_term.specs.Signatures.{is_boolean_function}
use Rattle.sq_term.specs.Symbols as kind
use Rattle.sq_term.specs.Symbols.{Kind}
use Rattle.sq_term.specs.Syntax.{TermTree, fun, ts_eq, idx_eq, TermTrees, nil, cons}
use Rattle.sq_term.specs.Translate.{World, Assignment, idx_values, ts_value, idx_value}
use Rattle.sq_term.specs.Translate.{is_same_time, translate, translate_all}
use Rattle.sq_term.proofs.BoolTests.{number_itself}
use Rattle.sq_term.proofs.Members.{each_none, each_cons}
use Rattle.sq_typing.specs.Functions.{are_functions}
use Rattle.sq_typing.specs.Standing.{Subject, may_stand}
use Rattle.sq_typing.specs.Typing.{Signature}
use Rattle.sq_typing.proofs.Formulas.{sort-of, first-stands}
use Rattle.sq_typing.proofs.SortLaws.{application_sort}
use Rattle.sq_system.specs.Sequents.{SequentTree, trace, local, equiv}
use Rattle.sq_ground.specs.Conclusions.{count_grounds, alike_arguments}
use Rattle.sq_ground.specs.Holding.{HoldsAt}
use Rattle.sq_ground.specs.Lines.{alike}
use Rattle.sq_ground.specs.Theories.{Theory, world_at}
use Rattle.sq_ground.specs.Truth.{IsTrueAt}
use Rattle.sq_ground.proofs.Congruence.{congruence}
use Rattle.sq_ground.proofs.Propositional.{Proved}
use Rattle.sq_sequent.specs.Premises.{asked_alike, arguments_asked}
use Rattle.sq_sequent.specs.Premises.{asking}
use Rattle.sq_sequent.specs.Rows.{AsksItself, of_message, of_time, of_index}
use Rattle.sq_sequent.specs.Site.{Site}
use Rattle.sq_sequent.specs.Views.{local_goal_of}
use Rattle.sq_rules_logic.proofs.EqualityRules as equals
use Rattle.sq_rules_logic.proofs.Holding.{goal_sound}

same_time : (t : Option ℕ) → is_same_time t t ≡ true
same_time (Some p) = number_itself p
same_time None = refl

true_of : (b : Bool) (v : Ground → Bool) → b ≡ true → IsTrueAt v (truth_of b)
true_of true v e = refl
true_of false v e = absurd (cc)

-- ---- a goal of a local sequent that follows from the lines of others

module _ (th : Theory) where
  abbrev read : Bool → Assignment → TermTree → Ground
  read left a = translate (world_at th left) a []

  -- the premise that asks F gives its line
  abbrev Gives : Bool → Assignment → List TermTree → SequentTree → TermTree → Type 0
  Gives left a H s F = HoldsAt th (asking s F)
      → Proved th left (map (read left a) H) (read left a F)

  -- from premises that ask, on each side and under each assignment
  pub local_sound : (s : SequentTree) (g : TermTree) → local_goal_of s ≡ Some g
      → ((left : Bool) (a : Assignment) (H : List TermTree) → ((F : TermTree) → Gives left a H s F)
      → Proved th left (map (read left a) H) (read left a g))
      → HoldsAt th s
  unfolding local_goal_of asking
  local_sound (local side vars H c) g e k = λ a f left m.
      let z : c ≡ g = cc in
      subst (λ t. Proved th left (map (read left a) H) (read left a t)) (sym z)
      (k left a H (λ F p. p a f left m))
  local_sound (trace vars H c) g e k = absurd (cc)
  local_sound (equiv vars H known items) g e k = absurd (cc)

  pub itself_sound : (at : Site) → AsksItself at → HoldsAt th at.sequent
  itself_sound at (of_message u e) =
      local_sound at.sequent (equal u u) e
      (λ left a H p. equals.reflexive th left (map (read left a) H) (read left a u))
  itself_sound at (of_time t e) =
      goal_sound th at.sequent (ts_eq t t) e
      (λ left a f v all.
      true_of (is_same_time (ts_value th.times a [] t) (ts_value th.times a [] t)) v
      (same_time (ts_value th.times a [] t)))
  itself_sound at (of_index i e) =
      goal_sound th at.sequent (idx_eq i i) e
      (λ left a f v all.
      true_of (idx_value a [] i == idx_value a [] i) v (number_itself (idx_value a [] i)))

  pub sym_sound : (s : SequentTree) (u v : TermTree) → local_goal_of s ≡ Some (equal u v)
      → HoldsAt th (asking s (equal v u)) → HoldsAt th s
  sym_sound s u v e p =
      local_sound s (equal u v) e
      (λ left a H q.
      equals.symmetric th left (map (read left a) H) (read left a u) (read left a v)
      (q (equal v u) p))

  pub trans_sound : (s : SequentTree) (u w v : TermTree) → local_goal_of s ≡ Some (equal u v)
      → HoldsAt th (asking s (equal u w)) → HoldsAt th (asking s (equal w v)) → HoldsAt th s
  trans_sound s u w v e p q =
      local_sound s (equal u v) e
      (λ left a H k.
      equals.transitive th left (map (read left a) H) (read left a u) (read left a w)
      (read left a v)
      (k (equal u w) p) (k (equal w v) q))

-- ---- a function of arguments that are equal, or equivalent

module _ (th : Theory) (left : Bool) (a : Assignment) (H : List TermTree) (s : SequentTree)
    (given : (F : TermTree) → Gives th left a H s F) where
  abbrev w : World
  w = world_at th left

  abbrev hyps : List Ground
  hyps = map (translate w a []) H

  alike-read : (b : Bool) (u v : TermTree)
      → Proved th left hyps (translate w a [] (asked_alike b u v))
      → Proved th left hyps (alike b (translate w a [] u) (translate w a [] v))
  alike-read true u v p = p
  alike-read false u v p = p

  -- where each of the arguments' formulas is proved, the arguments are alike
  arguments-read : (f : Kind) (k : ℕ) (us vs : TermTrees)
      → Each (HoldsAt th) (arguments_asked s f k us vs)
      → Each (Proved th left hyps)
      (alike_arguments f k (translate_all w a [] us) (translate_all w a [] vs))
  arguments-read f k nil vs h = each_none (Proved th left hyps)
  arguments-read f k (cons u us) nil h = each_none (Proved th left hyps)
  arguments-read f k (cons u us) (cons v vs) h =
      each_cons (alike (takes_boolean f k) (translate w a [] u) (translate w a [] v))
      (alike_arguments f (suc k) (translate_all w a [] us) (translate_all w a [] vs))
      (Proved th left hyps)
      (alike-read (takes_boolean f k) u v
      (given (asked_alike (takes_boolean f k) u v)
      (h (asking s (asked_alike (takes_boolean f k) u v)) here)))
      (arguments-read f (suc k) us vs (λ p i. h p (there i)))

  counted : (ts : TermTrees) → count_grounds (translate_all w a [] ts) ≡ count_terms ts
  counted nil = refl
  counted (cons t ts) = ap suc (counted ts)

  -- of a function that gives a message
  equal-applications : (f : Kind) (is : List Idx) (us vs : TermTrees)
      → is_boolean_function th.funs f ≡ false → count_terms us ≡ count_terms vs
      → Each (HoldsAt th) (arguments_asked s f 0 us vs)
      → Proved th left hyps (translate w a [] (equal (fun f is us) (fun f is vs)))
  equal-applications f is us vs message n h =
      subst
      (λ b. Proved th left hyps
      (alike b (translate w a [] (fun f is us)) (translate w a [] (fun f is vs))))
      message
      (congruence th left hyps f (idx_values a [] is) (translate_all w a [] us)
      (translate_all w a [] vs) (counted us ∙ (n ∙ sym (counted vs)))
      (arguments-read f 0 us vs h))

pub arg_sound : (th : Theory) (g : Signature) → g.funs ≡ th.funs → are_functions g.funs ≡ true
    → (s : SequentTree) (about : Subject) (f : Kind) (is : List Idx) (us vs : TermTrees)
    → may_stand g about Boolean (equal (fun f is us) (fun f is vs)) ≡ true
    → local_goal_of s ≡ Some (equal (fun f is us) (fun f is vs)) → count_terms us ≡ count_terms vs
    → Each (HoldsAt th) (arguments_asked s f 0 us vs) → HoldsAt th s
arg_sound th g known ok s about f is us vs sorted e n h =
    let sort = sort-of g about Message (fun f is us)
    (first-stands g about Boolean kind.equality (fun f is us) (fun f is vs) sorted) in
    let message : is_boolean_function th.funs f ≡ false =
    ap (λ fs. is_boolean_function fs f)
    (sym known) ∙ application_sort g [] Message f is us ok sort in
    local_sound th s (equal (fun f is us) (fun f is vs)) e
    (λ left a H given. equal-applications th left a H s given f is us vs message n h)
