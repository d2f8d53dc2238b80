-- Each occurrence in a macro's value is one in a body of an instance that stands early enough.
use Rattle.std.proofs.Common.{◌≡◌, refl, sym, ap, ◌∙◌, subst, ℕ, zero, suc, ◌+◌, ◌≤◌, ◌⊎◌, inl, inr}
use Rattle.std.proofs.Common.{⊎_elim, List, [], ◌∷◌, ◌++◌, length, Bool, true, false, arith}
use Rattle.std.proofs.Common.{length-append, get_or, Option, Some, None}
use Rattle.sq_term.specs.declared.model.Inst.{Inst}
use Rattle.sq_term.specs.declared.model.Model.{Model}
use Rattle.sq_term.specs.declared.signature.FunDecl.{FunDecl}
use Rattle.sq_term.specs.declared.term.Macro.{Macro}
use Rattle.sq_term.specs.declared.term.Macro.TheVariants.{Input, Output, Cond, Exec, Frame}
use Rattle.sq_term.specs.Ground.{Ground}
use Rattle.sq_term.specs.GroundFormulas.{attacked}
use Rattle.sq_term.specs.GroundOccurrences as ground
use Rattle.sq_term.specs.GroundOccurrences.{Role, occurrences}
use Rattle.sq_term.specs.Lists.{Member, Each, ElementAt}
use Rattle.sq_term.specs.Macros.{GroundMacro, word}
use Rattle.sq_term.specs.Models.{times_of, IsTraceModel}
use Rattle.sq_term.specs.Reads.{IsNoLater, IsEarlyInput, ReadsUpTo}
use Rattle.sq_term.specs.Records.{Record, at_init, at_undefined, next_record, field, record_of}
use Rattle.sq_term.specs.Records.{own_indices, records_from, records_of, record_at, world}
use Rattle.sq_term.specs.Syntax.{TermTree}
use Rattle.sq_term.specs.Systems.{SystemTree, ActionTree, action_at}
use Rattle.sq_term.specs.Translate.{World, Assignment, macro_value, ts_value, translate}
use Rattle.sq_term.proofs.Members.{member-append_left, member-append_right}
use Rattle.sq_term.proofs.Records.{record_at-init}
use Rattle.sq_system.specs.Facts.{IsBody, IsSystem, IsAction}
use Rattle.sq_subst.specs.Projection.{projected}
use Rattle.sq_subst.proofs.Laws.{project_law}
use Rattle.sq_ground.proofs.Bodies.{body_reads}
use Rattle.sq_ground.proofs.Traces.{instance-action, system_record}
use Rattle.sq_occ.specs.Searches.{body_places, action_places}
use Rattle.sq_occ.specs.Listed.{IsListed, side_of}
use Rattle.sq_occ.proofs.Roles.{no_truth, member-only, member-either}
use Rattle.sq_occ.proofs.Sides.{side_body, at_places}
use Rattle.sq_occ.proofs.WalkLaw.{listed_bare, listed_more, walk_law}

-- how far before its position a macro looks
abbrev pub lag : Macro → ℕ
lag Input = 1
lag Output = 0
lag Cond = 0
lag Exec = 0
lag Frame = 0

get_or-past : {A : Type 0} (d : A) (xs : List A) (k : ℕ) → length xs ≤ k → get_or xs k d ≡ d
get_or-past d [] k h = refl
get_or-past d (x ∷ xs) zero h = absurd (omega arith)
get_or-past d (x ∷ xs) (suc k) h = get_or-past d xs k (omega arith)

element_or_past : {A : Type 0} (xs : List A) (k : ℕ)
    → ((x : A) × ElementAt xs k x) ⊎ (length xs ≤ k)
element_or_past [] k = inr (omega arith)
element_or_past (x ∷ xs) zero = inl (x, refl)
element_or_past (x ∷ xs) (suc k) =
    ⊎_elim (λ e. inl e) (λ h. inr (omega arith)) (element_or_past xs k)

last_or : (p k : ℕ) → p ≤ suc k → (p ≤ k) ⊎ (p ≡ suc k)
last_or p k h = grind arith

pub on_that_side : (w : World) (left : Bool) → w.left ≡ left → (a : Assignment) (t : TermTree)
    → translate w a [] (projected (side_of left) t) ≡ translate w a [] t
on_that_side w true e a t = project_law w a [] (side_of true) t e
on_that_side w false e a t = project_law w a [] (side_of false) t (rw e refl)

module _ (funs : List FunDecl) (s : SystemTree) (m : Model) (left : Bool) (n : ℕ)
    (js : List ℕ) where
  abbrev pub trace : World
  trace = world s m left

  abbrev pub Uses : Bool → Ground → Role → Type 0
  Uses side t r = Member (occurrences funs n js side t) r

  -- in the bodies of the instance that stands behind q others
  abbrev pub At : ℕ → Role → Type 0
  At q r =
      (i : Inst) × ElementAt m.list q i
      × IsListed trace (own_indices i) js r
      (action_places funs n (side_of left) (action_at s i.act))

  abbrev pub Early : Macro → ℕ → Role → Type 0
  Early mac p r = (q : ℕ) × (suc q + lag mac ≤ p) × At q r

  abbrev pub Good : ℕ → Record → Type 0
  Good p x =
      (mac : Macro) (side : Bool) (r : Role) → Uses side (field (word mac) x) r → Early mac p r

  undefined_good : (p : ℕ) → Good p at_undefined
  undefined_good p Input side r i = elim i [ ]
  undefined_good p Output side r i = elim i [ ]
  undefined_good p Cond side r i = elim i [ ]
  undefined_good p Exec side r i = elim i [ ]
  undefined_good p Frame side r i = elim i [ ]

  init_good : (p : ℕ) → Good p at_init
  init_good p Input side r i = elim i [ ]
  init_good p Output side r i = elim i [ ]
  init_good p Cond side r i = elim i [ ]
  init_good p Exec side r i = elim i [ ]
  init_good p Frame side r i = elim i [ ]

  pub early_bare : (mac : Macro) (p : ℕ) (r : Role) → Early mac p ground.bare → Early mac p r
  early_bare mac p r (q, b, (i, e, h)) =
      (q, b, (i, e, listed_bare trace (own_indices i) js r _ h))

  abbrev pub InputsUpTo : ℕ → Type 0
  InputsUpTo k =
      (p : ℕ) → p ≤ k → (side : Bool) (r : Role) → Uses side (record_at s m left p).input r
      → Early Input p r

  input_at : (v : Option ℕ) (k : ℕ) (side : Bool) (r : Role) → IsNoLater k v → InputsUpTo k
      → Uses side (trace.values (word Input) v) r → (p : ℕ) × (p ≤ k) × Early Input p r
  input_at (Some p) k side r b g i = (p, b, g p b side r i)
  input_at None k side r b g i = elim i [ ]

  pub macro_read : (k : ℕ) → InputsUpTo (suc k) → (mac : GroundMacro) (v : Option ℕ) (side : Bool)
      (r : Role) → mac ≡ word Input → IsNoLater (suc k) v → Uses side (trace.values mac v) r
      → Early Output (suc k) r
  macro_read k g mac v side r same b u =
      let x : (p : ℕ) × (p ≤ suc k) × Early Input p r =
      input_at v (suc k) side r b g (subst (λ y. Uses side (trace.values y v) r) same u) in
      (x.2.0, omega arith, x.2.2)

  -- in a body of instance k, where each earlier input and its own are good
  body_good : (k : ℕ) (i : Inst) → ElementAt m.list k i → InputsUpTo (suc k) → (t : TermTree)
      → ReadsUpTo (times_of m) (own_indices i) (suc k) [] (projected (side_of left) t)
      → Each (Member (action_places funs n (side_of left) (action_at s i.act)))
      (body_places funs n (side_of left) t)
      → (side : Bool) (r : Role) → Uses side (translate trace (own_indices i) [] t) r
      → Early Output (suc k) r
  body_good k i e g t reads sub side r u =
      ⊎_elim
      (λ h. (k, omega arith, (i, e, listed_more trace (own_indices i) js r _ _ sub h)))
      (λ q. q)
      (walk_law funs n js trace (own_indices i) (Early Output (suc k)) (early_bare Output (suc k))
      (λ b mac t. []) (λ b k. []) (IsEarlyInput (times_of m) (own_indices i) (suc k)) (λ k. ⊥)
      (λ b es mac t side r f p u. inr (macro_read k g (macro_value (own_indices i) es mac)
      (ts_value (times_of m) (own_indices i) es t) side r p.0 p.1 u))
      (λ k side r no u. no)
      (projected (side_of left) t) [] [] false side (λ x. absurd (no_truth x))
      (at_places (times_of m) (IsEarlyInput (times_of m) (own_indices i) (suc k)) (λ k. ⊥)
      (projected (side_of left) t) [] reads) tt r
      (subst (λ y. Uses side y r) (sym (on_that_side trace left refl (own_indices i) t)) u))

  -- the record after a good one
  module _ (k : ℕ) (last : Record) (o c : Ground) (g : Good k last)
      (ho : (side : Bool) (r : Role) → Uses side o r → Early Output (suc k) r)
      (hc : (side : Bool) (r : Role) → Uses side c r → Early Output (suc k) r) where
    abbrev next : Record
    next = next_record last (attacked last.frame) o c

    abbrev uses : Ground → List Role
    uses t = occurrences funs n js false t

    from_last : (mac : Macro) (side : Bool) (r : Role) → Uses side (field (word mac) last) r
        → Early Output (suc k) r
    from_last mac side r i = let x : Early mac k r = g mac side r i in (x.0, omega arith, x.2)

    exe : (side : Bool) (r : Role) → Uses side next.exec r → Early Output (suc k) r
    exe side r i =
        ⊎_elim (from_last Exec false r) (hc false r) (member-either (uses last.exec) (uses c) r i)

    chosen : (r : Role) → Member (uses next.exec ++ (uses o ++ ([] ++ []))) r
        → Early Output (suc k) r
    chosen r i =
        ⊎_elim (exe false r) (ho false r) (member-either (uses next.exec) (uses o) r i)

    step : (r : Role)
        → Member ((uses next.exec ++ []) ++ ((uses next.exec ++ (uses o ++ ([] ++ []))) ++ [])) r
        → Early Output (suc k) r
    step r i =
        ⊎_elim (λ j. exe false r (member-only (uses next.exec) r j)) (chosen r)
        (member-either (uses next.exec ++ []) (uses next.exec ++ (uses o ++ ([] ++ []))) r i)

    next_good : Good (suc k) next
    next_good Input side r i =
        let x : Early Frame k r = g Frame false r (member-only (uses last.frame) r i) in
        (x.0, omega arith, x.2)
    next_good Output side r i = ho side r i
    next_good Cond side r i = hc side r i
    next_good Exec side r i = exe side r i
    next_good Frame side r i =
        ⊎_elim (from_last Frame false r) (step r) (member-either (uses last.frame) _ r i)

  -- what stands at a position
  records-length : (rest : List Inst) (records : List Record) (last : Record)
      → length (records_from s m left records last rest) ≡ length records + length rest
  records-length [] records last = omega arith
  records-length (i ∷ rest) records last =
      let x : Record = record_of s m left records last i in
      records-length rest (records ++ x ∷ []) x ∙ omega (arith, length-append records (x ∷ []))

  module _ (facts : IsSystem s) (M : IsTraceModel s m) where
    pub body_read : (k : ℕ) (i : Inst) → ElementAt m.list k i → (t : TermTree)
        → IsBody s i.act (action_at s i.act).arity t
        → ReadsUpTo (times_of m) (own_indices i) (suc k) [] (projected (side_of left) t)
    body_read k i e t h =
        body_reads s facts m M i.act k (action_at s i.act) i (instance-action s m k i M e) e refl
        (action_at s i.act).arity (projected (side_of left) t) []
        (side_body s i.act (action_at s i.act).arity (side_of left) t 0 h)

    at_instance : (k : ℕ) → ((p : ℕ) → p ≤ k → Good p (record_at s m left p)) → (i : Inst)
        → ElementAt m.list k i → Good (suc k) (record_at s m left (suc k))
    at_instance k before i e =
        let a : ActionTree = action_at s i.act in
        let is_one : IsAction s i.act a = facts i.act a (instance-action s m k i M e) in
        let last : Record = record_at s m left k in
        let o : Ground = translate trace (own_indices i) [] a.output in
        let c : Ground = translate trace (own_indices i) [] a.cond in
        let eq : record_at s m left (suc k) ≡ next_record last (attacked last.frame) o c =
        system_record s m left facts M k i e in
        let inputs : InputsUpTo (suc k) =
        λ p b side r u.
        ⊎_elim (λ c. before p c Input side r u) (λ c. own_input p side r c (ap (λ x. x.input) eq) u)
        (last_or p k b) in
        subst (Good (suc k)) (sym eq)
        (next_good k last o c (before k (omega arith))
        (body_good k i e inputs a.output (body_read k i e a.output is_one.output_is)
        (λ x j. member-append_right (body_places funs n (side_of left) a.cond) _ x j))
        (body_good k i e inputs a.cond (body_read k i e a.cond is_one.cond_is)
        (λ x j. member-append_left _ (body_places funs n (side_of left) a.output) x j)))
      where
        own_input : (p : ℕ) (side : Bool) (r : Role) → p ≡ suc k
            → (record_at s m left (suc k)).input ≡ attacked (record_at s m left k).frame
            → Uses side (record_at s m left p).input r → Early Input p r
        own_input p side r at is u =
            let u' : Uses side (record_at s m left (suc k)).input r =
            subst (λ q. Uses side (record_at s m left q).input r) at u in
            let u'' : Uses side (attacked (record_at s m left k).frame) r =
            subst (λ x. Uses side x r) is u' in
            let x : Early Frame k r =
            before k (omega arith) Frame false r
            (member-only (occurrences funs n js false (record_at s m left k).frame) r u'') in
            (x.0, omega arith, x.2)

    pub all_good : (k p : ℕ) → p ≤ k → Good p (record_at s m left p)
    all_good zero p h =
        let at : p ≡ 0 = omega arith in
        subst (Good p) (sym (ap (record_at s m left) at ∙ record_at-init s m left)) (init_good p)
    all_good (suc k) p h =
        ⊎_elim (λ b. all_good k p b)
        (λ e. subst (λ q. Good q (record_at s m left q)) (sym e) (next_position (all_good k)))
        (last_or p k h)
      where
        next_position : ((p : ℕ) → p ≤ k → Good p (record_at s m left p))
            → Good (suc k) (record_at s m left (suc k))
        next_position before =
            ⊎_elim (λ i. at_instance k before i.0 i.1)
            (λ past. subst (Good (suc k))
            (sym (get_or-past at_undefined (records_of s m left) (suc k)
            (omega (arith, records-length m.list (at_init ∷ []) at_init))))
            (undefined_good (suc k)))
            (element_or_past m.list k)

    -- an occurrence in a macro's value is one in a body of an instance that stands early enough
    pub macro_use : (mac : Macro) (v : Option ℕ) (side : Bool) (r : Role)
        → Uses side (trace.values (word mac) v) r → (p : ℕ) × (v ≡ Some p) × Early mac p r
    macro_use mac (Some p) side r i = (p, refl, all_good p p (omega arith) mac side r i)
    macro_use mac None side r i =
        let x : Early mac 0 r = undefined_good 0 mac side r i in absurd (omega arith)
