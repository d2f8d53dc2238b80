-- From a run without trouble to goals that hold.
use Rattle.std.proofs.Common.{◌≡◌, ◌<◌, ◌≤◌, ◌+◌, ℕ, zero, suc, Bool, true, false}
use Rattle.std.proofs.Common.{if◌then◌else◌, List, [], ◌∷◌, ◌++◌, length, map, Option, Some, None}
use Rattle.std.proofs.Common.{Result, Ok, Err, refl, sym, ◌∙◌, ap, subst, arith, slice_get, get_or}
use Rattle.std.proofs.Common.{nat_lt}
use Rattle.std.proofs.lemmas.Bool.Decides.{nat_tests}
use Rattle.std.specs.List.{flat_map}
use Rattle.std.proofs.lemmas.List.{append_cancel_left, length-map}
use Rattle.std.proofs.lemmas.Option.{slice_get_within}
use Rattle.sq_term.specs.Lists.{Member, Each, ElementAt}
use Rattle.sq_term.proofs.Members.{member-map_from, member-element}
use Rattle.sq_system.specs.declared.env.StmtKind.TheVariants as kind
use Rattle.sq_system.specs.Sequents.{SequentTree}
use Rattle.sq_system.specs.Statements.{EnvTree}
use Rattle.sq_system.specs.Usable.{no_statement, statement_at, is_axiom}
use Rattle.sq_system.specs.WellFormed.{IsEnvironment}
use Rattle.sq_ground.specs.DerivationLaws.{KnowsNothing, IsClaimed, HoldsByEarlier}
use Rattle.sq_ground.specs.Goals.{theory_of}
use Rattle.sq_ground.specs.Holding.{HoldsAt}
use Rattle.sq_ground.specs.Theories.{Theory}
use Rattle.sq_ground.proofs.Usable.{goals_hold}
use Rattle.sq_system.specs.declared.fault.RuleFault.{RuleFault}
use Rattle.sq_system.specs.declared.fault.RuleFault.TheVariants as rule
use Rattle.sq_step.specs.declared.step.Step.{Step}
use Rattle.sq_rules_logic.proofs.Answering.{replaces}
use Rattle.sq_kernel.specs.Closing.{site, Closes, ClosesGoal}
use Rattle.sq_kernel.specs.Verdicts.{calculus}
use Rattle.sq_kernel.proofs.Sound.{closed_holds}
use Rattle.sq_run.proofs.Declared.{form_is_environment, environment_keeps}
use Rattle.sq_run.specs.declared.script.Place.{Place}
use Rattle.sq_run.specs.declared.script.Task.{Task}
use Rattle.sq_run.specs.declared.script.Lemma.{Lemma}
use Rattle.sq_run.specs.declared.script.Script.{Script}
use Rattle.sq_run.specs.declared.goal.Plan.{Plan}
use Rattle.sq_run.specs.declared.goal.Refusal.{Refusal}
use Rattle.sq_run.specs.declared.goal.Refusal.TheVariants as refusal
use Rattle.sq_run.specs.declared.runner.Trouble.{Trouble}
use Rattle.sq_run.specs.Running.{GoalTree, plan_of, with_labels, are_small, new_goals, after_plan}
use Rattle.sq_run.specs.Running.{in_front, after_task, proof_trouble, first_goals}
use Rattle.sq_run.specs.Running.{lemma_trouble, earlier, lemmas_trouble, trouble_of}
use Rattle.sq_run.specs.Scripts.{form_of, statement_of, environment_of}
use Rattle.sq_edge.specs.declared.status.Status.{Status}
use Rattle.sq_edge.specs.declared.status.Status.TheVariants.{Done, Refused, Limit}
use Rattle.sq_edge.specs.Edge.{Files, held, and_then_bytes}
use Rattle.sq_run.specs.declared.answer.Answer.{Answer}
use Rattle.sq_run.specs.Answering.{most_bytes, name_of, answer_of, answer_of_run, answer_of_form}
use Rattle.sq_run.specs.Run.{limit_text, answer_for, IsMeant, Answers}
use Rattle.sq_run.specs.Headline.{proved_line, IsProved, HasProved, ListsProved}

abbrev sequents : List GoalTree → List SequentTree
sequents gs = map (λ (g : GoalTree). g.sequent) gs

sequents-with_labels : (labels : List (List ℕ)) (ps : List SequentTree) (rest : List GoalTree)
    → sequents (with_labels labels ps ++ rest) ≡ ps ++ sequents rest
sequents-with_labels labels [] rest = refl
sequents-with_labels labels (p ∷ ps) rest =
    ap (λ (l : List SequentTree). p ∷ l) (sequents-with_labels labels ps rest)

-- commands after which no goal is open are steps that close the goals
module _ (env : EnvTree) (n : ℕ) where
  abbrev Closing : List GoalTree → Type 0
  Closing gs = (steps : List Step) × Closes env n steps (sequents gs)

  none_open : (gs : List GoalTree) (place : Place) → proof_trouble env n [] place gs ≡ None
      → Closing gs
  none_open [] place e = ([], refl)
  none_open (g ∷ gs) place e = absurd (cc (e))

  -- one command, where what the later ones leave open is closed by steps
  module _ (t : Task) (ts : List Task) (qed : Place) (g : GoalTree) (rest : List GoalTree)
      (later : (gs : List GoalTree) → proof_trouble env n ts qed gs ≡ None → Closing gs) where
    small : (plan : Plan) (ps : List SequentTree) → calculus (site env n g.sequent) plan.step
        ≡ Ok ps → (b : Bool)
        → after_task
        (in_front
        (if b then Ok (with_labels (g.labels ++ plan.labels) ps) else Err refusal.NotBuilt) rest)
        t.place (proof_trouble env n ts qed) ≡ None → Closing (g ∷ rest)
    small plan ps c true k =
        let further = later (with_labels (g.labels ++ plan.labels) ps ++ rest) k in (
          plan.step ∷ further.0,
          (
            ps,
            replaces (site env n g.sequent) plan.step ps c,
            subst (Closes env n further.0)
                (sequents-with_labels (g.labels ++ plan.labels) ps rest) further.1,
          ),
        )
    small plan ps c false k = absurd (cc (k))

    stepped : (plan : Plan) (r : Result (List SequentTree) RuleFault)
        → calculus (site env n g.sequent) plan.step ≡ r
        → after_task (in_front (new_goals (g.labels ++ plan.labels) r) rest) t.place
        (proof_trouble env n ts qed) ≡ None → Closing (g ∷ rest)
    stepped plan (Ok ps) c k = small plan ps c (are_small ps) k
    stepped plan (Err rule.Shape) c k = absurd (cc (k))
    stepped plan (Err rule.HasSchema) c k = absurd (cc (k))
    stepped plan (Err (rule.BadOccurrence o)) c k = absurd (cc (k))
    stepped plan (Err rule.TooLarge) c k = absurd (cc (k))
    stepped plan (Err rule.NoMemory) c k = absurd (cc (k))

    planned : (p : Result Plan Refusal)
        → after_task (in_front (after_plan env n g p) rest) t.place (proof_trouble env n ts qed)
        ≡ None → Closing (g ∷ rest)
    planned (Ok plan) k = stepped plan (calculus (site env n g.sequent) plan.step) refl k
    planned (Err r) k = absurd (cc (k))

  pub closing : (tasks : List Task) (qed : Place) (gs : List GoalTree)
      → proof_trouble env n tasks qed gs ≡ None → Closing gs
  closing [] qed gs e = none_open gs qed e
  closing (t ∷ ts) qed [] e = absurd (cc (e))
  closing (t ∷ ts) qed (g ∷ rest) e =
      planned t ts qed g rest (closing ts qed) (plan_of t.command g) e

-- no lemma has trouble
first_free : (a b : Option Trouble) → earlier a b ≡ None → (a ≡ None) × (b ≡ None)
first_free None b e = (refl, e)
first_free (Some t) b e = absurd (cc (e))

each_free : (env : EnvTree) (n : ℕ) (ls : List Lemma) (k : ℕ) (l : Lemma)
    → lemmas_trouble env n ls ≡ None → slice_get ls k ≡ Some l → lemma_trouble env (n + k) l ≡ None
each_free env n [] k l e is = absurd (cc (is))
each_free env n (m ∷ ls) zero l e is =
    let same : m ≡ l = cc in
    let now : n ≡ n + 0 = omega arith in
    (λ i. lemma_trouble env (sym now i) (sym same i))
    ∙ (first_free (lemma_trouble env n m) (lemmas_trouble env (n + 1) ls) e).0
each_free env n (m ∷ ls) (suc k) l e is =
    let later : n + suc k ≡ (n + 1) + k = omega arith in
    ap (λ (j : ℕ). lemma_trouble env j l) later
    ∙ each_free env (n + 1) ls k l
    (first_free (lemma_trouble env n m) (lemmas_trouble env (n + 1) ls) e).1 is

-- all statements are lemmas
kind_at : (ls : List Lemma) (k : ℕ) → (get_or (map statement_of ls) k no_statement).kind
    ≡ kind.Lemma
kind_at [] k = refl
kind_at (l ∷ ls) zero = refl
kind_at (l ∷ ls) (suc k) = kind_at ls k

nothing_known : (ls : List Lemma) (k : ℕ)
    → KnowsNothing (get_or (map statement_of ls) k no_statement).start
nothing_known [] k = tt
nothing_known (l ∷ ls) zero = tt
nothing_known (l ∷ ls) (suc k) = nothing_known ls k

none_there : (ls : List Lemma) (k : ℕ) → slice_get ls k ≡ None
    → get_or (map statement_of ls) k no_statement ≡ no_statement
none_there [] k e = refl
none_there (l ∷ ls) zero e = absurd (cc (e))
none_there (l ∷ ls) (suc k) e = none_there ls k e

-- what stands for a statement that is not there holds
truth_holds : (th : Theory) → HoldsAt th no_statement.start
truth_holds th a fits hyps = refl

module _ (s : Script) where
  abbrev env : EnvTree
  env = environment_of s

  module _ (free : lemmas_trouble env 0 s.lemmas ≡ None) (kept : IsEnvironment env) where
    -- the steps of a goal
    goal_closes : (g : ℕ) (l : Lemma) → slice_get s.lemmas g ≡ Some l
        → (steps : List Step) × ClosesGoal env g steps
    goal_closes g l is = let now : 0 + g ≡ g =
        omega arith in
        closing env g l.tasks l.qed (first_goals (statement_at env g).start)
        (ap (λ (j : ℕ). lemma_trouble env j l) (sym now) ∙ each_free env 0 s.lemmas g l free is)

    -- each goal holds where the earlier ones do
    next : (g : ℕ) → IsClaimed env g → HoldsByEarlier env g
    next g claimed m trace earlier = go (slice_get s.lemmas g) refl
      where
        go : (o : Option Lemma) → slice_get s.lemmas g ≡ o
            → HoldsAt (theory_of env g m) (statement_at env g).start
        go None e =
            subst (λ st. HoldsAt (theory_of env g m) st.start) (sym (none_there s.lemmas g e))
            (truth_holds (theory_of env g m))
        go (Some l) e =
            let c = goal_closes g l e in
            let within : g < length env.stmts =
            subst (λ n. g < n) (sym (length-map s.lemmas statement_of))
            (slice_get_within s.lemmas g l e) in
            closed_holds env kept g within m trace earlier c.0 c.1

    pub goal_is_proved : (g : ℕ) (l : Lemma) → slice_get s.lemmas g ≡ Some l → IsProved env g
    goal_is_proved g l is =
        let c = goal_closes g l is in
        record {
          steps = c.0;
          closed = c.1;
          holds = goals_hold env (nothing_known s.lemmas) next g (ap is_axiom (kind_at s.lemmas g));
        }

lines-names : (ls : List Lemma) → flat_map (λ l. proved_line (name_of l)) ls
    ≡ flat_map proved_line (map name_of ls)
lines-names [] = refl
lines-names (l ∷ ls) = ap (λ (rest : List ℕ). proved_line (name_of l) ++ rest) (lines-names ls)

-- a lemma of the name
record Named (ls : List Lemma) (name : List ℕ) : Type 0 where
  number : ℕ
  lemma : Lemma
  at : slice_get ls number ≡ Some lemma
  named : lemma.name ≡ name

element_get : (ls : List Lemma) (k : ℕ) (l : Lemma) → ElementAt ls k l → slice_get ls k ≡ Some l
element_get [] k l e = absurd e
element_get (m ∷ ls) zero l e = ap Some e
element_get (m ∷ ls) (suc k) l e = element_get ls k l e

named_in : (ls : List Lemma) (name : List ℕ) → Member (map name_of ls) name → Named ls name
named_in ls name m =
    let r = member-map_from name_of ls name m in
    let e = member-element ls r.0 r.1 in
    record { number = e.0; lemma = r.0; at = element_get ls e.0 r.0 e.1; named = sym r.2 }

all_proved : (file : List ℕ) (s : Script) → length file ≤ most_bytes → form_of file ≡ Some s
    → trouble_of s ≡ None → Each (HasProved file) (map name_of s.lemmas)
unfolding trouble_of
all_proved file s short form free name m =
    let n = named_in s.lemmas name m in
    record {
      script = s;
      form = form;
      number = n.number;
      lemma = n.lemma;
      at = n.at;
      named =
          n.named;
      proved =
          goal_is_proved s free
          (environment_keeps s (form_is_environment file s short form)) n.number n.lemma n.at;
    }

run_lists : (file text : List ℕ) (s : Script) → length file ≤ most_bytes → form_of file ≡ Some s
    → (t : Option Trouble) → trouble_of s ≡ t
    → answer_of_run file s t ≡ record { status = Done; text = text } → ListsProved file text
run_lists file text s short form (Some t) is e = let x : Refused ≡ Done =
    ap (λ (a : Answer). a.status) e in absurd (cc (x))
run_lists file text s short form None is e = record {
  names = map name_of s.lemmas;
  lines = sym (ap (λ (a : Answer). a.text) e) ∙ lines-names s.lemmas;
  each = all_proved file s short form is;
}

form_lists : (file text : List ℕ) (o : Option Script) → length file ≤ most_bytes → form_of file ≡ o
    → answer_of_form file o ≡ record { status = Done; text = text } → ListsProved file text
form_lists file text None short form e = let x : Refused ≡ Done =
    ap (λ (a : Answer). a.status) e in absurd (cc (x))
form_lists file text (Some s) short form e = run_lists file text s short form (trouble_of s) refl e

answer_lists : (file text : List ℕ) → length file ≤ most_bytes
    → answer_of file ≡ record { status = Done; text = text } → ListsProved file text
unfolding answer_of
answer_lists file text short e = form_lists file text (form_of file) short refl e

-- an answer Done lists goals that are proved
pub lists_proved : (file text : List ℕ) → answer_for file ≡ record { status = Done; text = text }
    → ListsProved file text
lists_proved file text e = judged (nat_lt most_bytes (length file)) refl e
  where
    judged : (b : Bool) → nat_lt most_bytes (length file) ≡ b
        → (if b then record { status = Limit; text = limit_text } else answer_of file)
        ≡ record { status = Done; text = text } → ListsProved file text
    judged true t k = let x : Limit ≡ Done = ap (λ (a : Answer). a.status) k in absurd (cc (x))
    judged false t k = answer_lists file text (grind (arith, nat_tests)) k

text_of_told : (old text written : List ℕ) (new : Option (List ℕ)) → new ≡ Some (old ++ text)
    → new ≡ and_then_bytes (Some old) written → written ≡ text
text_of_told old text written new told put =
    append_cancel_left old written text
    (let e : Some (old ++ written) ≡ Some (old ++ text) = sym put ∙ told in cc)

-- what a run that ends Done has written lists goals that are proved
done_lists : (words : Option (List ℕ)) (files : Option Files) (fault miss rose : Type 0)
    (before new : Option (List ℕ)) (name file old text : List ℕ)
    → Answers (IsMeant words files fault miss) before new rose Done → words ≡ Some name
    → held files name ≡ Some file → before ≡ Some old → new ≡ Some (old ++ text)
    → ListsProved file text
done_lists words files fault miss rose before new name file old text answers is there told wrote =
    let a = subst
    (λ (w : Option (List ℕ)). Answers (IsMeant w files fault miss) before new rose Done) is
    answers in
    let same : a.0 ≡ text =
    text_of_told old text a.0 new wrote
    (a.2 ∙ ap (λ (b : Option (List ℕ)). and_then_bytes b a.0) told) in
    subst (ListsProved file) same (lists_proved file a.0 (a.1.1 file there))

pub ended_done : (words : Option (List ℕ)) (files : Option Files) (fault miss rose : Type 0)
    (before new : Option (List ℕ)) (result : Status) (name file old text : List ℕ)
    → Answers (IsMeant words files fault miss) before new rose result → result ≡ Done
    → words ≡ Some name → held files name ≡ Some file → before ≡ Some old
    → new ≡ Some (old ++ text) → ListsProved file text
ended_done words files fault miss rose before new result name file old text answers done is there
    told wrote =
    done_lists words files fault miss rose before new name file old text
    (subst (λ (r : Status). Answers (IsMeant words files fault miss) before new rose r) done
    answers) is there told wrote
