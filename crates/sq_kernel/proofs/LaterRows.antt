-- A row applies under each environment that continues the lists of one under which it applies.
use Rattle.std.proofs.Common.{◌≡◌, ◌<◌, ◌≤◌, ℕ, zero, suc, refl, sym, ap, ◌∙◌, subst, List, [], ◌∷◌}
use Rattle.std.proofs.Common.{◌++◌, length, get_or, map, Option, Some, None, Bool, true, false}
use Rattle.std.proofs.Common.{◌&&◌, ◌||◌, nat_lt, arith}
use Rattle.std.specs.Prelude.{slice_get, if◌then◌else◌, ◌==◌, option_map}
use Rattle.std.proofs.lemmas.List.{get_or_append_left}
use Rattle.std.proofs.lemmas.Bool.Decides.{Decides-ltb}
use Rattle.sq_base.specs.declared.sort.Sort.{Sort}
use Rattle.sq_base.specs.declared.sort.Sort.TheVariants.{Message, Boolean, Index, Timestamp}
use Rattle.sq_term.specs.Arguments.{ArgTree, an_index, a_time}
use Rattle.sq_term.specs.declared.signature.FunDecl.{FunDecl}
use Rattle.sq_term.specs.declared.term.Idx.{Idx}
use Rattle.sq_term.specs.Signatures.{no_function, is_signature, is_sign, is_check, is_pk}
use Rattle.sq_term.specs.Signatures.{declared_at}
use Rattle.sq_term.specs.Symbols.{declared_number}
use Rattle.sq_term.specs.Syntax.{TsTree, TermTree}
use Rattle.sq_term.specs.Systems.{SystemTree}
use Rattle.sq_term.proofs.BoolTests.{and_split, and_both}
use Rattle.sq_typing.specs.Typing.{has_count_at, is_index, is_timestamp}
use Rattle.sq_formula.specs.Facts.{HasFact, of_conditional, of_first, of_second, of_boolean}
use Rattle.sq_formula.specs.Facts.{of_signature, of_find}
use Rattle.sq_system.specs.Sequents.{SequentTree, body_of}
use Rattle.sq_system.specs.Scopes.{subject_of}
use Rattle.sq_system.specs.Statements.{StmtTree, EnvTree, no_actions}
use Rattle.sq_system.specs.Usable.{no_statement, statement_at, is_timeless_axiom, usable}
use Rattle.sq_system.proofs.SystemLaws.{slice_get-append}
use Rattle.sq_step.specs.declared.step.Step.{Step}
use Rattle.sq_step.specs.declared.step.TermArg.{TermArg}
use Rattle.sq_step.specs.declared.step.ValArg.{ValArg}
use Rattle.sq_step.specs.declared.step.ValArg.TheVariants as val_arg
use Rattle.sq_step.specs.declared.step.Target.{Target}
use Rattle.sq_sequent.specs.Places.{term_at, ts_at, idx_at}
use Rattle.sq_sequent.specs.Rewriting.{Rewriting}
use Rattle.sq_sequent.specs.Rows as row
use Rattle.sq_sequent.specs.Rows.{AsksItself, Equates, Rewritten, Row, Replaces, Offers, IsTerm}
use Rattle.sq_sequent.specs.Rows.{IsValue, AreMessages}
use Rattle.sq_sequent.specs.Standing.{signature_at, may_stand, where_standing, term_in, time_where}
use Rattle.sq_sequent.specs.Standing.{index_where, time_in, index_in, value_in}
use Rattle.sq_kernel.specs.Closing.{site, Closes, ClosesGoal}
use Rattle.sq_kernel.specs.Proofs.{Leaves}
use Rattle.sq_kernel.specs.Later.{Continues}
use Rattle.sq_system.proofs.EnvLaws.{Within, standing_within, time_within, index_within}
use Rattle.sq_system.proofs.EnvLaws.{count_before}

-- ---- lists that begin alike

-- what holds of an element of the list, and not of what stands for one that is not there
kept_at : {A : Type 0} (p : A → Bool) (xs ys : List A) (k : ℕ) (d : A) → p d ≡ false
    → p (get_or xs k d) ≡ true → p (get_or (xs ++ ys) k d) ≡ true
kept_at p [] ys k d n e = let z : false ≡ true = sym n ∙ e in absurd (cc)
kept_at p (x ∷ xs) ys zero d n e = e
kept_at p (x ∷ xs) ys (suc k) d n e = kept_at p xs ys k d n e

module _ (earlier later : EnvTree) (c : Continues earlier later) (g : ℕ)
    (there : g < length earlier.stmts) where
  -- ---- statements

  same_statement : (k : ℕ) → k ≤ g → statement_at later k ≡ statement_at earlier k
  same_statement k l =
      ap (λ ss. get_or ss k no_statement) c.stmts.1
      ∙ get_or_append_left earlier.stmts c.stmts.0 no_statement k (omega arith)

  usable_later : (k : ℕ) → usable earlier g k ≡ true → usable later g k ≡ true
  usable_later k e =
      let below : k < g = (Decides-ltb k g).0 (and_split (nat_lt k g) _ e).0 in
      let own : statement_at later g ≡ statement_at earlier g = same_statement g (omega arith) in
      let its : statement_at later k ≡ statement_at earlier k = same_statement k (omega arith) in
      ap (λ s. nat_lt k g && ((s.system == (statement_at later g).system) || is_timeless_axiom s))
      its
      ∙ ap (λ s. nat_lt k g && (((statement_at earlier k).system == s.system)
      || is_timeless_axiom (statement_at earlier k))) own
      ∙ e

  -- ---- what a sequent may speak of

  module _ (s : SequentTree) where
    actions_later : (k n : ℕ) → has_count_at (signature_at (site earlier g s)).actions k n ≡ true
        → has_count_at (signature_at (site later g s)).actions k n ≡ true
    actions_later k n e =
        let p : SystemTree → Bool = λ y. has_count_at (map (λ a. a.arity) y.actions) k n in
        let i : ℕ = (statement_at earlier g).system in
        subst (λ (st : StmtTree). p (get_or later.systems st.system no_actions) ≡ true)
        (sym (same_statement g (omega arith)))
        (subst (λ (ys : List SystemTree). p (get_or ys i no_actions) ≡ true) (sym c.systems.1)
        (kept_at p earlier.systems c.systems.0 i no_actions refl e))

    speaks : Within (signature_at (site earlier g s)) (signature_at (site later g s))
    speaks = record {
      names = λ k n e. subst (λ (ns : List ℕ). has_count_at ns k n ≡ true) (sym c.names.1)
          (count_before earlier.names c.names.0 k n e);
      funs = λ f d e. subst (λ (fs : List FunDecl). slice_get fs f ≡ Some d) (sym c.funs.1)
          (slice_get-append earlier.funs c.funs.0 f d e);
      actions = actions_later;
      schemas = ap (λ (st : StmtTree). length st.schemas) (sym (same_statement g (omega arith)));
      vars = refl;
    }

    stands_later : (x : Sort) (t : TermTree) → may_stand (site earlier g s) x t ≡ true
        → may_stand (site later g s) x t ≡ true
    unfolding may_stand
    stands_later x t e =
        standing_within (signature_at (site earlier g s)) (signature_at (site later g s)) speaks
        (subject_of (body_of s)) x t e

    where_later : (x : Sort) (o : Option TermTree) (t : TermTree)
        → where_standing (site earlier g s) x o ≡ Some t
        → where_standing (site later g s) x o ≡ Some t
    where_later x None t e = absurd (cc (e))
    where_later x (Some u) t e = go (may_stand (site earlier g s) x u) refl e
      where
        go : (b : Bool) → may_stand (site earlier g s) x u ≡ b
            → (if b then Some u else None) ≡ Some t
            → (if may_stand (site later g s) x u then Some u else None) ≡ Some t
        go true f k = ap (λ q. if q then Some u else None) (stands_later x u f) ∙ k
        go false f k = absurd (cc (k))

    term_later : (x : Sort) (a : TermArg) (t : TermTree) → IsTerm (site earlier g s) x a t
        → IsTerm (site later g s) x a t
    unfolding term_in
    term_later x a t e = where_later x (term_at s a) t e

    time_later : (o : Option TsTree) (t : TsTree)
        → time_where (signature_at (site earlier g s)) o ≡ Some t
        → time_where (signature_at (site later g s)) o ≡ Some t
    time_later None t e = absurd (cc (e))
    time_later (Some u) t e = go (is_timestamp (signature_at (site earlier g s)) [] u) refl e
      where
        go : (b : Bool) → is_timestamp (signature_at (site earlier g s)) [] u ≡ b
            → (if b then Some u else None) ≡ Some t
            → time_where (signature_at (site later g s)) (Some u) ≡ Some t
        go true f k =
            ap (λ q. if q then Some u else None)
            (time_within (signature_at (site earlier g s)) (signature_at (site later g s)) speaks
            [] u f)
            ∙ k
        go false f k = absurd (cc (k))

    index_later : (o : Option Idx) (i : Idx)
        → index_where (signature_at (site earlier g s)) o ≡ Some i
        → index_where (signature_at (site later g s)) o ≡ Some i
    index_later None i e = absurd (cc (e))
    index_later (Some j) i e = go (is_index (signature_at (site earlier g s)) [] j) refl e
      where
        go : (b : Bool) → is_index (signature_at (site earlier g s)) [] j ≡ b
            → (if b then Some j else None) ≡ Some i
            → index_where (signature_at (site later g s)) (Some j) ≡ Some i
        go true f k =
            ap (λ q. if q then Some j else None)
            (index_within (signature_at (site earlier g s)) (signature_at (site later g s)) speaks
            [] j f)
            ∙ k
        go false f k = absurd (cc (k))

    -- a value that is there is there later
    mapped : {A B : Type 0} (f : A → B) (o p : Option A) (w : B)
        → ((x : A) → o ≡ Some x → p ≡ Some x) → option_map f o ≡ Some w → option_map f p ≡ Some w
    mapped f None p w k e = absurd (cc (e))
    mapped f (Some x) p w k e = ap (option_map f) (k x refl) ∙ e

    value_later : (x : Sort) (a : ValArg) (w : ArgTree) → IsValue (site earlier g s) x a w
        → IsValue (site later g s) x a w
    unfolding value_in index_in time_in
    value_later Index (val_arg.Index a) w e =
        mapped an_index (index_in (site earlier g s) a) (index_in (site later g s) a) w
        (index_later (idx_at s a)) e
    value_later Timestamp (val_arg.Time a) w e =
        mapped a_time (time_in (site earlier g s) a) (time_in (site later g s) a) w
        (time_later (ts_at s a)) e
    value_later Index (val_arg.Time a) w e = absurd (cc (e))
    value_later Timestamp (val_arg.Index a) w e = absurd (cc (e))
    value_later Message a w e = absurd (cc (e))
    value_later Boolean a w e = absurd (cc (e))

    messages_later : (args : List TermArg) (ts : List TermTree)
        → AreMessages (site earlier g s) args ts → AreMessages (site later g s) args ts
    messages_later [] [] e = tt
    messages_later (a ∷ args) (t ∷ ts) e =
        (term_later Message a t e.0, messages_later args ts e.1)
    messages_later [] (t ∷ ts) e = absurd e
    messages_later (a ∷ args) [] e = absurd e

    offers_later : (k n : ℕ) (F : TermTree) → Offers (site earlier g s) k n F
        → Offers (site later g s) k n F
    offers_later k n F o = record {
      statement = o.statement;
      there_is = subst (λ (ss : List StmtTree). slice_get ss k ≡ Some o.statement) (sym c.stmts.1)
          (slice_get-append earlier.stmts c.stmts.0 k o.statement o.there_is);
      is_usable = usable_later k o.is_usable;
      states = o.states;
      count = o.count;
      says = o.says;
    }

    -- ---- the rows

    signature_later : (f : ℕ) → is_signature earlier.funs f ≡ true
        → is_signature later.funs f ≡ true
    signature_later f e =
        let p = and_split (is_sign (declared_at earlier.funs f).role) _ e in
        let q = and_split (is_check (declared_at earlier.funs (suc f)).role) _ p.1 in
        subst (λ (fs : List FunDecl). is_signature fs f ≡ true) (sym c.funs.1)
        (and_both (is_sign (declared_at (earlier.funs ++ c.funs.0) f).role) _
        (kept_at (λ d. is_sign d.role) earlier.funs c.funs.0 (declared_number f) no_function refl
        p.0)
        (and_both (is_check (declared_at (earlier.funs ++ c.funs.0) (suc f)).role) _
        (kept_at (λ d. is_check d.role) earlier.funs c.funs.0 (declared_number (suc f)) no_function
        refl q.0)
        (kept_at (λ d. is_pk d.role) earlier.funs c.funs.0 (declared_number (suc (suc f)))
        no_function refl q.1)))

    fact_later : (x : Sort) (t F : TermTree) → HasFact earlier.funs x t F → HasFact later.funs x t F
    fact_later x t F (of_conditional b u v) = of_conditional b u v
    fact_later x t F (of_first u v) = of_first u v
    fact_later x t F (of_second u v) = of_second u v
    fact_later x t F (of_boolean b) = of_boolean b
    fact_later x t F (of_signature f m k e) = of_signature f m k (signature_later f e)
    fact_later x t F (of_find n G u v) = of_find n G u v

    itself_later : AsksItself (site earlier g s) → AsksItself (site later g s)
    itself_later (row.of_message u e) = row.of_message u e
    itself_later (row.of_time t e) = row.of_time t e
    itself_later (row.of_index i e) = row.of_index i e

    equates_later : (f : TermTree) (r : Rewriting) → Equates (site earlier g s) f r
        → Equates (site later g s) f r
    equates_later f r (row.messages u v) = row.messages u v
    equates_later f r (row.times t u) = row.times t u
    equates_later f r (row.indices i j) = row.indices i j
    equates_later f r (row.formulas side a b e) = row.formulas side a b e

    rewritten_later : (h : ℕ) (r : Rewriting) (p : Target) (q : SequentTree)
        → Rewritten (site earlier g s) h r p q → Rewritten (site later g s) h r p q
    rewritten_later h r p q (row.in_goal f e) = row.in_goal f e
    rewritten_later h r p q (row.in_hypothesis k f n e) = row.in_hypothesis k f n e
    rewritten_later h r p q (row.in_items vars hyps known items e) =
        row.in_items vars hyps known items e

    row_later : (x : Step) (ps : List SequentTree) → Row (site earlier g s) x ps
        → Row (site later g s) x ps
    row_later x ps (row.hyp h f a e) = row.hyp h f a e
    row_later x ps (row.true_goal a) = row.true_goal a
    row_later x ps (row.absurd_hyp h e) = row.absurd_hyp h e
    row_later x ps (row.impi a b e) = row.impi a b e
    row_later x ps (row.noti a e) = row.noti a e
    row_later x ps (row.alli y F e) = row.alli y F e
    row_later x ps (row.andi a b e) = row.andi a b e
    row_later x ps (row.orl a b e) = row.orl a b e
    row_later x ps (row.orr a b e) = row.orr a b e
    row_later x ps (row.exi arg y F w e v) = row.exi arg y F w e (value_later y arg w v)
    row_later x ps (row.ande h a b e) = row.ande h a b e
    row_later x ps (row.ore h a b e) = row.ore h a b e
    row_later x ps (row.impe h a b e) = row.impe h a b e
    row_later x ps (row.note h a e) = row.note h a e
    row_later x ps (row.alle h arg y F w e v) = row.alle h arg y F w e (value_later y arg w v)
    row_later x ps (row.exe h y F e) = row.exe h y F e
    row_later x ps (row.cut arg F e) = row.cut arg F (term_later Boolean arg F e)
    row_later x ps (row.em arg F e) = row.em arg F (term_later Boolean arg F e)
    row_later x ps (row.drop h e) = row.drop h e
    row_later x ps (row.use_statement k args side F ts on o ms) =
        row.use_statement k args side F ts on (offers_later k (length args) F o)
        (messages_later args ts ms)
    row_later x ps (row.proj e) = row.proj e
    row_later x ps (row.of_trace f e) = row.of_trace f e
    row_later x ps (row.itself a) = row.itself (itself_later a)
    row_later x ps (row.sym u v e) = row.sym u v e
    row_later x ps (row.trans arg u w v e k) = row.trans arg u w v e (term_later Message arg w k)
    row_later x ps (row.arg f is us vs n e) = row.arg f is us vs n e
    row_later x ps (row.rew h d p f r premise a e k) =
        row.rew h d p f r premise a (equates_later f r e) (rewritten_later h _ p premise k)
    row_later x ps (row.fact arg side y t F on e k) =
        row.fact arg side y t F on (term_later y arg t e) (fact_later y t F k)

    replaces_later : (x : Step) (ps : List SequentTree) → Replaces (site earlier g s) x ps
        → Replaces (site later g s) x ps
    replaces_later x ps r = record { by_row = row_later x ps r.by_row; fit = r.fit }

  -- ---- steps

  pub leaves_later : (steps : List Step) (stack left : List SequentTree)
      → Leaves earlier g steps stack left → Leaves later g steps stack left
  leaves_later [] stack left e = e
  leaves_later (x ∷ steps) [] left e = absurd e
  leaves_later (x ∷ steps) (s ∷ rest) left e =
      (e.0, replaces_later s x e.0 e.1, leaves_later steps (e.0 ++ rest) left e.2)

  closes_later : (steps : List Step) (stack : List SequentTree)
      → Closes earlier g steps stack → Closes later g steps stack
  closes_later [] stack e = e
  closes_later (x ∷ steps) [] e = absurd e
  closes_later (x ∷ steps) (s ∷ rest) e =
      (e.0, replaces_later s x e.0 e.1, closes_later steps (e.0 ++ rest) e.2)

  pub closes_goal_later : (steps : List Step) → ClosesGoal earlier g steps
      → ClosesGoal later g steps
  closes_goal_later steps e =
      subst (λ (st : StmtTree). Closes later g steps (st.start ∷ []))
      (sym (same_statement g (omega arith)))
      (closes_later steps ((statement_at earlier g).start ∷ []) e)
