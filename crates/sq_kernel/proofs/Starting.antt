-- The goal with which a proof begins has its names.
use Rattle.std.proofs.Common.{◌≡◌, ◌<◌, ℕ, zero, suc, refl, sym, ap, ◌∙◌, subst, List, [], ◌∷◌}
use Rattle.std.proofs.Common.{◌++◌, length, get_or, map, true, ◌&&◌, arith}
use Rattle.std.specs.Prelude.{◌==◌}
use Rattle.std.specs.List.{list_all}
use Rattle.std.proofs.lemmas.Bool.Decides.{Decides-eqb}
use Rattle.sq_term.proofs.BoolTests.{and_split, and_both}
use Rattle.sq_system.specs.declared.env.Env.{Env}
use Rattle.sq_system.specs.declared.env.Stmt.{Stmt}
use Rattle.sq_system.specs.declared.env.StmtKind.{StmtKind}
use Rattle.sq_system.specs.declared.env.StmtKind.TheVariants.{Axiom, Lemma, Equiv}
use Rattle.sq_system.specs.declared.sequent.OpenGoal.{OpenGoal}
use Rattle.sq_system.specs.Environments.{env_tree}
use Rattle.sq_system.specs.Sequents.{SequentTree, sequent, trace_body, local_body, equiv_body}
use Rattle.sq_system.specs.Sequents.{vars_of, hyps_of}
use Rattle.sq_system.specs.Statements.{StmtTree, EnvTree, stmt_tree}
use Rattle.sq_system.specs.WellFormed.{starts_local, starts_equiv, starts_as, is_statement}
use Rattle.sq_system.proofs.EnvLaws.{environment_parts}
use Rattle.sq_kernel.specs.Goals.{goal_tree, count_known, is_named}
use Rattle.sq_kernel.specs.Labels.{hypothesis_labels}
use Rattle.sq_kernel.specs.Openings.{opening}
use Rattle.sq_kernel.proofs.NamedGoals.{labels-length}

local_knows_none : (s : SequentTree) → starts_local s ≡ true → count_known s ≡ 0
local_knows_none (sequent vars hyps (trace_body g)) e = refl
local_knows_none (sequent vars hyps (local_body side g)) e = refl
local_knows_none (sequent [] [] (equiv_body known items)) e = absurd (cc (e))
local_knows_none (sequent [] (h ∷ hs) (equiv_body known items)) e = absurd (cc (e))
local_knows_none (sequent (v ∷ vs) hyps (equiv_body known items)) e = absurd (cc (e))

equiv_knows_none : (s : SequentTree) → starts_equiv s ≡ true → count_known s ≡ 0
equiv_knows_none (sequent vars hyps (trace_body g)) e = refl
equiv_knows_none (sequent vars hyps (local_body side g)) e = refl
equiv_knows_none (sequent vars hyps (equiv_body [] items)) e = refl
equiv_knows_none (sequent vars hyps (equiv_body (k ∷ ks) items)) e = absurd (cc (e))

knows_none : (k : StmtKind) (n : ℕ) (s : SequentTree) → starts_as k n s ≡ true → count_known s ≡ 0
knows_none Axiom n s e = local_knows_none s e
knows_none Lemma n s e = local_knows_none s e
knows_none Equiv n s e = equiv_knows_none s (and_split (n == 0) (starts_equiv s) e).1

equal : (a b : ℕ) → a ≡ b → (a == b) ≡ true
equal a b e = (Decides-eqb a b).1 e

-- a statement's starting sequent with the statement's names
pub opening-named : (env : EnvTree) (g : StmtTree) → is_statement env g ≡ true
    → is_named (opening g) ≡ true
opening-named env g e =
    let p = and_split _ ((length g.vars == length (vars_of g.start))
    && starts_as g.kind (length g.schemas) g.start) e in
    let q = and_split (length g.vars == length (vars_of g.start)) _ p.1 in
    and_both (length g.vars == length (vars_of g.start)) _ q.0
    (and_both (length (hypothesis_labels (length (hyps_of g.start))) == length (hyps_of g.start)) _
    (equal _ (length (hyps_of g.start)) (labels-length (length (hyps_of g.start))))
    (equal 0 (count_known g.start)
    (sym (knows_none g.kind (length g.schemas) g.start q.1))))

placed : (env : EnvTree) (stmts : List Stmt) (k : ℕ) (d : Stmt)
    → list_all (is_statement env) (map stmt_tree stmts) ≡ true → k < length stmts
    → is_statement env (stmt_tree (get_or stmts k d)) ≡ true
placed env [] k d h l = absurd (omega arith)
placed env (x ∷ xs) zero d h l = (and_split (is_statement env (stmt_tree x)) _ h).0
placed env (x ∷ xs) (suc k) d h l =
    placed env xs k d (and_split (is_statement env (stmt_tree x)) _ h).1 (omega arith)

-- so the first goal of a proof has its names
pub started-named : (env : Env) (k : ℕ) (slice : List Stmt) (d x : Stmt) (g : OpenGoal)
    (none goals : List OpenGoal) → k < length env.stmts → slice ≡ env.stmts → x ≡ get_or slice k d
    → goal_tree g ≡ opening (stmt_tree x) → none ≡ [] → goals ≡ none ++ g ∷ []
    → list_all is_named (map goal_tree goals) ≡ true
started-named env k slice d x g none goals l same e o n p =
    let all = (environment_parts (env_tree env) env.well_formed).2 in
    let it : is_statement (env_tree env) (stmt_tree x) ≡ true =
    subst (λ y. is_statement (env_tree env) (stmt_tree y) ≡ true)
    (sym (e ∙ ap (λ ss. get_or ss k d) same))
    (placed (env_tree env) env.stmts k d all l) in
    subst (λ gs. list_all is_named (map goal_tree gs) ≡ true)
    (sym (p ∙ ap (λ gs. gs ++ g ∷ []) n))
    (and_both (is_named (goal_tree g)) true
    (ap is_named o ∙ opening-named (env_tree env) (stmt_tree x) it) refl)
