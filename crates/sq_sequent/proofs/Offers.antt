-- What the environment says of a formula that a statement offers, and of the messages of arguments.
use Rattle.std.proofs.Common.{◌≡◌, ℕ, zero, suc, refl, sym, ap, ◌∙◌, subst, List, [], ◌∷◌, length}
use Rattle.std.proofs.Common.{get_or, Option, Some, None, Bool, true, false}
use Rattle.std.specs.Prelude.{◌==◌, slice_get}
use Rattle.std.specs.List.{list_all}
use Rattle.std.proofs.lemmas.Option.{get_or_from_slice_get}
use Rattle.sq_base.specs.declared.sort.Sort.TheVariants.{Boolean}
use Rattle.sq_term.specs.declared.term.Side.TheVariants.{Left, Right, Both}
use Rattle.sq_term.specs.Syntax.{TermTree}
use Rattle.sq_term.specs.Systems.{SystemTree}
use Rattle.sq_term.proofs.BoolTests.{and_split}
use Rattle.sq_typing.specs.Typing.{Signature, has_sort}
use Rattle.sq_system.specs.declared.env.StmtKind.{StmtKind}
use Rattle.sq_system.specs.declared.env.StmtKind.TheVariants.{Axiom, Lemma, Equiv}
use Rattle.sq_system.specs.Sequents.{SequentTree, sequent, trace_body, local_body, equiv_body}
use Rattle.sq_system.specs.Sequents.{local, vars_of}
use Rattle.sq_system.specs.Sizes.{fits}
use Rattle.sq_system.specs.Statements.{StmtTree, EnvTree, no_actions}
use Rattle.sq_system.specs.Usable.{no_statement, statement_at, states_a_formula, system_of}
use Rattle.sq_system.specs.Scopes.{signature_of}
use Rattle.sq_system.specs.WellFormed.{is_sorted, is_sequent_of, starts_local}
use Rattle.sq_system.specs.WellFormed.{starts_as, is_statement, is_environment}
use Rattle.sq_system.proofs.EnvLaws.{environment_parts}
use Rattle.sq_sequent.specs.Rows.{Offers}
use Rattle.sq_sequent.specs.Site.{Site}
use Rattle.sq_sequent.specs.Views.{goal_of}

-- the signature of statement k, which starts without variables
abbrev pub signature_at_start : EnvTree → ℕ → Signature
signature_at_start env k =
    signature_of env (system_of env k) (length (statement_at env k).schemas) []

-- statement k starts with formula F over n messages
pub record IsStated (env : EnvTree) (k n : ℕ) (F : TermTree) : Type 0 where
  pub starts : (statement_at env k).start ≡ local Both [] [] F
  pub count : n ≡ length (statement_at env k).schemas
  pub sorted : has_sort (signature_at_start env k) [] Boolean F ≡ true

no_start : {P : Type 0} → false ≡ true → P
no_start e = absurd (let f : false ≡ true = e in cc)

starts-with : (s : SequentTree) (F : TermTree) → starts_local s ≡ true → goal_of s ≡ Some F
    → s ≡ local Both [] [] F
unfolding goal_of
starts-with (sequent [] [] (local_body Both g)) F h e = let z : g ≡ F =
    cc in ap (local Both [] []) z
starts-with (sequent [] [] (local_body Left g)) F h e = no_start h
starts-with (sequent [] [] (local_body Right g)) F h e = no_start h
starts-with (sequent [] [] (trace_body g)) F h e = no_start h
starts-with (sequent [] [] (equiv_body known items)) F h e = no_start h
starts-with (sequent [] (x ∷ xs) body) F h e = no_start h
starts-with (sequent (v ∷ vs) hyps body) F h e = no_start h

local-start : (kind : StmtKind) (n : ℕ) (s : SequentTree) → states_a_formula kind ≡ true
    → starts_as kind n s ≡ true → starts_local s ≡ true
local-start Axiom n s h e = e
local-start Lemma n s h e = e
local-start Equiv n s h e = no_start h

-- the formula of a starting sequent is well-sorted in its system
start-sorted : (env : EnvTree) (o : Option SystemTree) (system : SystemTree) (n : ℕ) (F : TermTree)
    → ((x : SystemTree) → o ≡ Some x → system ≡ x) → is_sequent_of env o n (local Both [] [] F)
    ≡ true
    → has_sort (signature_of env system n []) [] Boolean F ≡ true
start-sorted env None system n F same h = no_start h
start-sorted env (Some x) system n F same h =
    let g : Signature = signature_of env x n [] in
    let p = and_split (is_sorted g (local Both [] [] F)) (fits (local Both [] [] F)) h in
    subst (λ y. has_sort (signature_of env y n []) [] Boolean F ≡ true) (sym (same x refl))
    (and_split (has_sort g [] Boolean F) true p.0).0

all-at : {A : Type 0} (p : A → Bool) (xs : List A) (k : ℕ) (x : A) → list_all p xs ≡ true
    → slice_get xs k ≡ Some x → p x ≡ true
all-at p [] k x h e = absurd (cc)
all-at p (y ∷ ys) zero x h e =
    let z : x ≡ y = cc in ap p z ∙ (and_split (p y) (list_all p ys) h).0
all-at p (y ∷ ys) (suc k) x h e = all-at p ys k x (and_split (p y) (list_all p ys) h).1 e

pub offered-stated : (at : Site) (k n : ℕ) (F : TermTree) → is_environment at.env ≡ true
    → Offers at k n F → IsStated at.env k n F
offered-stated at k n F kept o =
    let env : EnvTree = at.env in
    let st : StmtTree = o.statement in
    let there : statement_at env k ≡ st =
    get_or_from_slice_get env.stmts k st no_statement o.there_is in
    let well : is_statement env st ≡ true =
    all-at (is_statement env) env.stmts k st (environment_parts env kept).2 o.there_is in
    let parts = and_split
    (is_sequent_of env (slice_get env.systems st.system) (length st.schemas) st.start) _ well in
    let kind = and_split (length st.vars == length (vars_of st.start))
    (starts_as st.kind (length st.schemas) st.start) parts.1 in
    let start : st.start ≡ local Both [] [] F =
    starts-with st.start F
    (local-start st.kind (length st.schemas) st.start o.states kind.1) o.says in
    let there_sorted : has_sort
    (signature_of env (get_or env.systems st.system no_actions) (length st.schemas) [])
    [] Boolean F ≡ true =
    start-sorted env (slice_get env.systems st.system) (get_or env.systems st.system no_actions)
    (length st.schemas) F
    (λ x i. get_or_from_slice_get env.systems st.system x no_actions i)
    (subst
    (λ s. is_sequent_of env (slice_get env.systems st.system) (length st.schemas) s ≡ true)
    start parts.0) in
    record {
      starts = ap (λ (r : StmtTree). r.start) there ∙ start;
      count = o.count ∙ ap (λ (r : StmtTree). length r.schemas) (sym there);
      sorted =
          subst
          (λ (r : StmtTree).
          has_sort
          (signature_of env (get_or env.systems r.system no_actions) (length r.schemas) [])
          [] Boolean F ≡ true)
          (sym there) there_sorted;
    }
