-- The records of a trace meet the equations of the macros, the bodies being read among all records.
use Rattle.std.proofs.Common.{◌≡◌, refl, sym, ap, ◌∙◌, subst, ℕ, zero, suc, ◌+◌, ◌<◌, ◌≤◌, ◌⊎◌}
use Rattle.std.proofs.Common.{⊎_elim, List, [], ◌∷◌, ◌++◌, length, Bool, arith, length-append}
use Rattle.std.specs.Prelude.{get_or, Option, Some, None}
use Rattle.sq_term.specs.declared.term.Macro.TheVariants.{Input}
use Rattle.sq_term.specs.declared.model.Inst.{Inst}
use Rattle.sq_term.specs.declared.model.Model.{Model}
use Rattle.sq_term.specs.declared.model.Value.{Value}
use Rattle.sq_term.specs.Lists.{fold_right, ElementAt}
use Rattle.sq_term.specs.Macros.{GroundMacro, word}
use Rattle.sq_term.specs.Syntax.{TermTree, name, fun, macro, schema, diff, le, ts_eq, idx_eq}
use Rattle.sq_term.specs.Syntax.{happens, all, some, find, TermTrees, nil, cons}
use Rattle.sq_term.specs.Ground.{Ground, applied}
use Rattle.sq_term.specs.GroundFormulas.{conditional, attacked, conj, disj_of_all}
use Rattle.sq_term.specs.Translate.{Times, World, Assignment, idx_values, macro_value, ts_value}
use Rattle.sq_term.specs.Translate.{domain, choices, translate, translate_all}
use Rattle.sq_term.specs.Systems.{SystemTree, ActionTree, action_at}
use Rattle.sq_term.specs.Models.{times_of}
use Rattle.sq_term.specs.Records.{Record, at_init, at_undefined, next_record, value_in, world_over}
use Rattle.sq_term.specs.Records.{own_indices, record_of, records_from, records_of, record_at}
use Rattle.sq_term.specs.Records.{world}
use Rattle.sq_term.specs.Reads.{IsNoLater, IsEarlyInput, ReadsUpTo, AllAtMacros}
use Rattle.sq_term.proofs.Lists.{get_or-front, get_or-last, map_same, fold_same}

-- a term means the same where the inputs that it reads do
module _ (w : Times) (l : Bool) (m k : GroundMacro → Option ℕ → Ground) (a : Assignment) (p : ℕ)
    (same : (v : Option ℕ) → IsNoLater p v → m (word Input) v ≡ k (word Input) v) where
  abbrev one : World
  one = record { times = w; values = m; left = l }

  abbrev other_one : World
  other_one = record { times = w; values = k; left = l }

  macro_agrees : (x : GroundMacro) (v : Option ℕ) → x ≡ word Input → IsNoLater p v → m x v ≡ k x v
  macro_agrees x v e h = rw e (same v h)

  mutual
    pub agrees : (t : TermTree) (bs : List Value) → ReadsUpTo w a p bs t
        → translate one a bs t ≡ translate other_one a bs t
    agrees (name n is) bs h = refl
    agrees (fun f is ts) bs h = ap (applied f (idx_values a bs is)) (all_agree ts bs h)
    agrees (macro x t) bs h = macro_agrees (macro_value a bs x) (ts_value w a bs t) h.0 h.1
    agrees (schema n) bs h = refl
    agrees (diff x y) bs h = cc (agrees x bs h.0, agrees y bs h.1)
    agrees (le t s) bs h = refl
    agrees (ts_eq t s) bs h = refl
    agrees (idx_eq i j) bs h = refl
    agrees (happens t) bs h = refl
    agrees (all s body) bs h =
        ap conj (map_same _ _ (domain w s) (λ x i. agrees body (x ∷ bs) (h x i)))
    agrees (some s body) bs h =
        ap disj_of_all (map_same _ _ (domain w s) (λ x i. agrees body (x ∷ bs) (h x i)))
    agrees (find c test found other) bs h =
        let F : List Value → Ground → Ground =
        λ xs rest. conditional (translate one a xs test) (translate one a xs found) rest in
        let G : List Value → Ground → Ground =
        λ xs rest. conditional (translate other_one a xs test)
        (translate other_one a xs found) rest in
        let e : fold_right F (translate one a bs other) (choices w c bs)
        ≡ fold_right G (translate one a bs other) (choices w c bs) =
        fold_same F G (choices w c bs)
        (λ xs i r. cc (agrees test xs (h.0 xs i).0, agrees found xs (h.0 xs i).1))
        (translate one a bs other) in
        e ∙ ap (λ b. fold_right G b (choices w c bs)) (agrees other bs h.1)

    pub all_agree : (ts : TermTrees) (bs : List Value) → AllAtMacros w (IsEarlyInput w a p) bs ts
        → translate_all one a bs ts ≡ translate_all other_one a bs ts
    all_agree nil bs h = refl
    all_agree (cons t ts) bs h = cc (agrees t bs h.0, all_agree ts bs h.1)

next_same : (x y : Record) (o o' c c' : Ground) → x ≡ y → o ≡ o' → c ≡ c'
    → next_record x (attacked x.frame) o c ≡ next_record y (attacked y.frame) o' c'
next_same x y o o' c c' e f g = rw (e, f, g)

module _ (system : SystemTree) (m : Model) (l : Bool) where
  pub records_from-front : (rest : List Inst) (records : List Record) (last : Record) (r : ℕ)
      → r < length records → get_or (records_from system m l records last rest) r at_undefined
      ≡ get_or records r at_undefined
  records_from-front [] records last r h = refl
  records_from-front (i ∷ rest) records last r h =
      let x : Record = record_of system m l records last i in
      records_from-front rest (records ++ x ∷ []) x r
      (omega (arith, length-append records (x ∷ [])))
      ∙ get_or-front records (x ∷ []) r at_undefined h

  -- where the record of an instance was made
  record Made (table : List Record) (k : ℕ) (i : Inst) : Type 0 where
    records : List Record
    last : Record
    long : length records ≡ suc k
    made : get_or table (suc k) at_undefined ≡ record_of system m l records last i
    front : (r : ℕ) → r < suc k → get_or table r at_undefined ≡ get_or records r at_undefined
    ends : get_or records k at_undefined ≡ last

  records_from-made : (rest : List Inst) (records : List Record) (last : Record) (k j : ℕ)
      (i : Inst) → length records ≡ suc k → get_or records k at_undefined ≡ last
      → ElementAt rest j i → Made (records_from system m l records last rest) (k + j) i
  records_from-made [] records last k j i len e h = absurd h
  records_from-made (x ∷ rest) records last k zero i len e h =
      let y : Record = record_of system m l records last x in
      let table : List Record = records_from system m l records last (x ∷ rest) in
      let longer : length (records ++ y ∷ []) ≡ suc (suc k) =
      omega (arith, length-append records (y ∷ [])) in
      let at_k : suc k < length (records ++ y ∷ []) = omega arith in
      let here' : get_or table (suc k) at_undefined ≡ y =
      records_from-front rest (records ++ y ∷ []) y (suc k) at_k
      ∙ (ap (λ q. get_or (records ++ y ∷ []) q at_undefined) (sym len)
      ∙ get_or-last records y at_undefined) in
      let made : Made table k i = record {
        records = records;
        last = last;
        long = len;
        made = here' ∙ ap (record_of system m l records last) h;
        front = λ r b. records_from-front rest (records ++ y ∷ []) y r (omega arith)
            ∙ get_or-front records (y ∷ []) r at_undefined (omega arith);
        ends = e;
      } in
      subst (λ q. Made table q i) (omega arith) made
  records_from-made (x ∷ rest) records last k (suc j) i len e h =
      let y : Record = record_of system m l records last x in
      let table : List Record = records_from system m l records last (x ∷ rest) in
      let longer : length (records ++ y ∷ []) ≡ suc (suc k) =
      omega (arith, length-append records (y ∷ [])) in
      let ends : get_or (records ++ y ∷ []) (suc k) at_undefined ≡ y =
      ap (λ q. get_or (records ++ y ∷ []) q at_undefined) (sym len)
      ∙ get_or-last records y at_undefined in
      subst (λ q. Made table q i) (omega arith)
      (records_from-made rest (records ++ y ∷ []) y (suc k) j i longer ends h)

  pub record_at-init : record_at system m l 0 ≡ at_init
  record_at-init = records_from-front m.list (at_init ∷ []) at_init 0 (omega arith)

  -- the record of an instance is that of the macros' table
  pub record_equation : (k : ℕ) (i : Inst) → ElementAt m.list k i
      → ReadsUpTo (times_of m) (own_indices i) (suc k) [] (action_at system i.act).cond
      → ReadsUpTo (times_of m) (own_indices i) (suc k) [] (action_at system i.act).output
      → record_at system m l (suc k)
      ≡ next_record (record_at system m l k) (attacked (record_at system m l k).frame)
      (translate (world system m l) (own_indices i) [] (action_at system i.act).output)
      (translate (world system m l) (own_indices i) [] (action_at system i.act).cond)
  record_equation k i el hc ho =
      M.made ∙ next_same M.last (get_or table k at_undefined) _ _ _ _ last_is
      (body_agrees (body.output) ho) (body_agrees (body.cond) hc)
    where
      body : ActionTree
      body = action_at system i.act

      table : List Record
      table = records_of system m l

      M : Made (records_of system m l) k i
      M = let e : 0 + k ≡ k =
          omega arith in
          subst (λ q. Made (records_of system m l) q i) e
          (records_from-made m.list (at_init ∷ []) at_init 0 k i refl refl el)

      last_is : M.last ≡ get_or table k at_undefined
      last_is = sym M.ends ∙ sym (M.front k (omega arith))

      half : Record
      half = record at_undefined { input = attacked M.last.frame }

      part : List Record
      part = M.records ++ half ∷ []

      upto : (r : ℕ) → r ≤ suc k → (r < suc k) ⊎ (r ≡ suc k)
      upto r h = grind arith

      same : (v : Option ℕ) → IsNoLater (suc k) v
          → value_in part (word Input) v ≡ value_in table (word Input) v
      same None h = refl
      same (Some r) h =
          ⊎_elim (λ b. ap (λ x. x.input)
          (get_or-front M.records (half ∷ []) r at_undefined (omega (arith, M.long))
          ∙ sym (M.front r b)))
          (λ e. subst
          (λ q. (get_or part q at_undefined).input ≡ (get_or table q at_undefined).input)
          (sym e)
          (ap (λ q. (get_or part q at_undefined).input) (sym M.long)
          ∙ (ap (λ x. x.input) (get_or-last M.records half at_undefined)
          ∙ sym (ap (λ x. x.input) M.made))))
          (upto r h)

      body_agrees : (t : TermTree) → ReadsUpTo (times_of m) (own_indices i) (suc k) [] t
          → translate (world_over m l part) (own_indices i) [] t
          ≡ translate (world system m l) (own_indices i) [] t
      body_agrees t h =
          agrees (times_of m) l (value_in part) (value_in table) (own_indices i) (suc k) same t [] h
