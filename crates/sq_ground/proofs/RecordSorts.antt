-- The macros of a trace have values of their sorts, where the bodies of actions are well-sorted.
use Rattle.std.proofs.Common.{◌≡◌, refl, ℕ, List, [], ◌∷◌, ◌++◌, replicate, Bool, true}
use Rattle.std.proofs.Common.{Some, None}
use Rattle.std.specs.Prelude.{get_or}
use Rattle.std.specs.List.{list_all}
use Rattle.sq_base.specs.declared.sort.Sort.{Sort}
use Rattle.sq_base.specs.declared.sort.Sort.TheVariants.{Message, Boolean, Index}
use Rattle.sq_term.specs.declared.term.Macro.{Macro}
use Rattle.sq_term.specs.declared.term.Macro.TheVariants.{Input, Output, Cond, Exec, Frame}
use Rattle.sq_term.specs.declared.model.Inst.{Inst}
use Rattle.sq_term.specs.declared.model.Model.{Model}
use Rattle.sq_term.specs.declared.signature.FunDecl.{FunDecl}
use Rattle.sq_term.specs.Lists.{Each, here, there}
use Rattle.sq_term.specs.Syntax.{TermTree}
use Rattle.sq_term.specs.Systems.{ActionTree, SystemTree, action_at, no_action}
use Rattle.sq_term.specs.Ground.{Ground}
use Rattle.sq_term.specs.GroundFormulas.{both, empty, pair, of_bool, conditional, attacked}
use Rattle.sq_term.specs.Translate.{World, Assignment, translate}
use Rattle.sq_term.specs.Macros.{word}
use Rattle.sq_term.specs.Records.{Record, field, at_init, at_undefined, next_record, value_in}
use Rattle.sq_term.specs.Records.{world_over, own_indices, record_of, records_from, records_of}
use Rattle.sq_term.specs.Records.{world}
use Rattle.sq_term.proofs.BoolTests.{and_split}
use Rattle.sq_term.proofs.Members.{each_none, each_single, each-append}
use Rattle.sq_typing.specs.Functions.{are_functions}
use Rattle.sq_typing.specs.Typing.{Signature, macro_sort, has_sort, binds_indices}
use Rattle.sq_system.specs.Statements.{EnvTree, no_actions}
use Rattle.sq_system.specs.Usable.{system_of, statement_at}
use Rattle.sq_system.specs.Scopes.{signature_of}
use Rattle.sq_system.specs.WellFormed.{is_body, are_bodies, is_well_sorted}
use Rattle.sq_system.specs.WellFormed.{is_environment}
use Rattle.sq_system.proofs.EnvLaws.{environment_parts}
use Rattle.sq_ground.specs.GroundSorts.{IsMessage}
use Rattle.sq_ground.specs.Goals.{theory_of}
use Rattle.sq_ground.specs.Theories.{world_at}
use Rattle.sq_ground.specs.Laws.{TranslationsKeepSorts}
use Rattle.sq_ground.proofs.GroundSorting.{Has, truth_sort, falsity_sort, empty_sort, both_sort}
use Rattle.sq_ground.proofs.GroundSorting.{pair_sort, of_bool_sort, attacked_sort, conditional_sort}
use Rattle.sq_ground.proofs.TranslationSorts.{AreSorted, get_or-each, translation_sort}

all-each : {A : Type 0} (test : A → Bool) (xs : List A) → list_all test xs ≡ true
    → Each (λ x. test x ≡ true) xs
all-each test [] h x i = elim i [ ]
all-each test (y ∷ ys) h x here = (and_split (test y) (list_all test ys) h).0
all-each test (y ∷ ys) h x (there i) =
    all-each test ys (and_split (test y) (list_all test ys) h).1 x i

module _ (funs : List FunDecl) (ok : are_functions funs ≡ true) where
  -- each macro has its sort in the record
  pub record IsSorted (r : Record) : Type 0 where
    pub input : Has funs ok Message r.input
    pub output : Has funs ok Message r.output
    pub cond : Has funs ok Boolean r.cond
    pub exec : Has funs ok Boolean r.exec
    pub frame : Has funs ok Message r.frame

  init_sorted : IsSorted at_init
  init_sorted = record {
    input = empty_sort funs ok;
    output = empty_sort funs ok;
    cond = truth_sort funs ok;
    exec = truth_sort funs ok;
    frame = empty_sort funs ok;
  }

  undefined_sorted : (input : Ground) → Has funs ok Message input
      → IsSorted (record at_undefined { input = input })
  undefined_sorted input h = record {
    input = h;
    output = empty_sort funs ok;
    cond = falsity_sort funs ok;
    exec = falsity_sort funs ok;
    frame = empty_sort funs ok;
  }

  next_sorted : (last : Record) (input output condition : Ground) → IsSorted last
      → Has funs ok Message input → Has funs ok Message output → Has funs ok Boolean condition
      → IsSorted (next_record last input output condition)
  next_sorted last input output condition l i o c =
      let e : Has funs ok Boolean (both last.exec condition) =
      both_sort funs ok last.exec condition l.exec c in
      let shown : Ground = conditional (both last.exec condition) output empty in
      record {
        input = i;
        output = o;
        cond = c;
        exec = e;
        frame =
            pair_sort funs ok last.frame (pair (of_bool (both last.exec condition)) shown) l.frame
            (pair_sort funs ok (of_bool (both last.exec condition)) shown
            (of_bool_sort funs ok (both last.exec condition) e)
            (conditional_sort funs ok (both last.exec condition) output empty e o
            (empty_sort funs ok)));
      }

  field_sorted : (m : Macro) (r : Record) → IsSorted r
      → Has funs ok (macro_sort m) (field (word m) r)
  field_sorted Input r h = h.input
  field_sorted Output r h = h.output
  field_sorted Cond r h = h.cond
  field_sorted Exec r h = h.exec
  field_sorted Frame r h = h.frame

  values_sorted : (rs : List Record) → Each IsSorted rs → AreSorted funs (value_in rs)
  values_sorted rs h m is (Some p) =
      field_sorted m (get_or rs p at_undefined)
      (get_or-each IsSorted rs p at_undefined h (undefined_sorted empty (empty_sort funs ok)))
  values_sorted rs h m is None =
      field_sorted m at_undefined (undefined_sorted empty (empty_sort funs ok))

-- a system whose bodies are well-sorted
module _ (e : EnvTree) (kept : is_environment e ≡ true) (s : SystemTree)
    (sorted : is_well_sorted e s ≡ true) where
  pub ok : are_functions e.funs ≡ true
  ok = (environment_parts e kept).0

  -- what is asked of a body: that it has its sort wherever the macros have theirs
  abbrev BodySort : Sort → TermTree → Type 0
  BodySort r t =
      (w : World) (a : Assignment) → AreSorted e.funs w.values → Each (IsMessage e.funs) a.schemas
      → Has e.funs ok r (translate w a [] t)

  pub record AreSortedBodies (x : ActionTree) : Type 0 where
    pub cond : BodySort Boolean x.cond
    pub output : BodySort Message x.output

  bodies_sorted : (x : ActionTree) → are_bodies e s x ≡ true → AreSortedBodies x
  bodies_sorted x h =
      let g : Signature = signature_of e s 0 (replicate x.arity Index) in
      let p = and_split (is_body g Boolean x.cond) (is_body g Message x.output) h in
      let c = and_split (has_sort g [] Boolean x.cond) (binds_indices x.cond) p.0 in
      let o = and_split (has_sort g [] Message x.output) (binds_indices x.output) p.1 in
      record {
        cond = λ w a v ms. translation_sort g ok w v a ms [] [] Boolean x.cond c.0;
        output = λ w a v ms. translation_sort g ok w v a ms [] [] Message x.output o.0;
      }

  no_bodies_sorted : AreSortedBodies no_action
  no_bodies_sorted = record {
    cond = λ w a v ms. truth_sort e.funs ok;
    output = λ w a v ms. empty_sort e.funs ok;
  }

  action_sorted : (n : ℕ) → AreSortedBodies (action_at s n)
  action_sorted n =
      get_or-each AreSortedBodies s.actions n no_action
      (λ x i. bodies_sorted x (all-each (are_bodies e s) s.actions sorted x i)) no_bodies_sorted

  record_sorted : (m : Model) (left : Bool) (rs : List Record) (last : Record) (i : Inst)
      → Each (IsSorted e.funs ok) rs → IsSorted e.funs ok last
      → IsSorted e.funs ok (record_of s m left rs last i)
  record_sorted m left rs last i h l =
      let input : Ground = attacked last.frame in
      let sent : Has e.funs ok Message input = attacked_sort e.funs ok last.frame l.frame in
      let half : Record = record at_undefined { input = input } in
      let w : World = world_over m left (rs ++ half ∷ []) in
      let values : AreSorted e.funs w.values =
      values_sorted e.funs ok (rs ++ half ∷ [])
      (each-append rs (half ∷ []) (IsSorted e.funs ok) h
      (each_single half (IsSorted e.funs ok) (undefined_sorted e.funs ok input sent))) in
      let x : AreSortedBodies (action_at s i.act) = action_sorted i.act in
      next_sorted e.funs ok last input
      (translate w (own_indices i) [] (action_at s i.act).output)
      (translate w (own_indices i) [] (action_at s i.act).cond)
      l sent
      (x.output w (own_indices i) values (each_none (IsMessage e.funs)))
      (x.cond w (own_indices i) values (each_none (IsMessage e.funs)))

  records_sorted : (m : Model) (left : Bool) (rs : List Record) (last : Record) (list : List Inst)
      → Each (IsSorted e.funs ok) rs → IsSorted e.funs ok last
      → Each (IsSorted e.funs ok) (records_from s m left rs last list)
  records_sorted m left rs last [] h l = h
  records_sorted m left rs last (i ∷ list) h l =
      let r : Record = record_of s m left rs last i in
      let k : IsSorted e.funs ok r = record_sorted m left rs last i h l in
      records_sorted m left (rs ++ r ∷ []) r list
      (each-append rs (r ∷ []) (IsSorted e.funs ok) h (each_single r (IsSorted e.funs ok) k)) k

  pub world_sorted : (m : Model) (left : Bool) → AreSorted e.funs (world s m left).values
  world_sorted m left =
      values_sorted e.funs ok (records_of s m left)
      (records_sorted m left (at_init ∷ []) at_init m.list
      (each_single at_init (IsSorted e.funs ok) (init_sorted e.funs ok)) (init_sorted e.funs ok))

-- the system of a goal is well-sorted
pub system_of-sorted : (e : EnvTree) (g : ℕ) → is_environment e ≡ true
    → is_well_sorted e (system_of e g) ≡ true
system_of-sorted e g kept =
    get_or-each (λ s. is_well_sorted e s ≡ true) e.systems (statement_at e g).system no_actions
    (all-each (is_well_sorted e) e.systems (environment_parts e kept).1) refl

pub translations_keep : TranslationsKeepSorts
translations_keep e g m left schemas vars a s t kept given h =
    translation_sort (signature_of e (system_of e g) schemas vars) (environment_parts e kept).0
    (world_at (theory_of e g m) left)
    (world_sorted e kept (system_of e g) (system_of-sorted e g kept) m left) a given [] [] s t h
