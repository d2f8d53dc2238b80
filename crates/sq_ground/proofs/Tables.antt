-- The pass along a trace, where what passes the limits is not kept.
use Rattle.std.proofs.Common.{◌≡◌, refl, sym, ap, ◌∙◌, subst, ℕ, ◌-◌, ◌<◌, inl, inr, List, [], ◌∷◌}
use Rattle.std.proofs.Common.{◌++◌, length, length-append, Bool, arith}
use Rattle.std.specs.Prelude.{get_or, Option, Some, None, Ok, Err}
use Rattle.std.proofs.lemmas.List.{map-append, length-map}
use Rattle.sq_term.specs.Macros.{GroundMacro, word}
use Rattle.sq_term.specs.declared.term.Macro.TheVariants.{Frame}
use Rattle.sq_term.specs.declared.term.SizeFault.{SizeFault}
use Rattle.sq_term.specs.declared.term.SizeFault.TheVariants.{TooLarge, NoMemory}
use Rattle.sq_term.specs.declared.model.Inst.{Inst}
use Rattle.sq_term.specs.declared.model.Model.{Model}
use Rattle.sq_term.specs.Syntax.{TermTree}
use Rattle.sq_term.specs.Ground.{Ground}
use Rattle.sq_term.specs.GroundFormulas.{attacked}
use Rattle.sq_term.specs.Symbols.{attacker}
use Rattle.sq_term.specs.Systems.{SystemTree, ActionTree, action_at}
use Rattle.sq_term.specs.Translate.{Assignment, translate}
use Rattle.sq_term.specs.Models.{times_of}
use Rattle.sq_term.specs.Records.{Record, at_init, at_undefined, next_record, field, value_in}
use Rattle.sq_term.specs.Records.{world_over, own_indices, record_of, records_from, records_of}
use Rattle.sq_term.proofs.Lists.{get_or-last}
use Rattle.sq_ground.specs.declared.built.Built.{Built}
use Rattle.sq_ground.specs.declared.reading.Entry.{Entry}
use Rattle.sq_ground.specs.Calls.GroundMeasure.{FitsIn, ground_size, ground_depth}
use Rattle.sq_ground.specs.Calls.Builds.{Passes, Builds}
use Rattle.sq_ground.specs.Calls.Readings.{kept_record, kept_records}
use Rattle.sq_ground.specs.Calls.Alike.{Alike, AlikeRecord, AlikeRecords}
use Rattle.sq_ground.specs.Calls.Translations.{IsAnswer}
use Rattle.sq_ground.proofs.Kept.{undefined_last}
use Rattle.sq_ground.proofs.AlikeTerms.{alike, alike_trans, alike_one, alike_record, alike_next}
use Rattle.sq_ground.proofs.AlikeTerms.{alike_at, alike_values, alike_push, alike_length}

module _ (room : ℕ) where
  pub alike_record_trans : (r s t : Record) → AlikeRecord room r s → AlikeRecord room s t
      → AlikeRecord room r t
  alike_record_trans r s t h k read =
      alike_trans room (field read r) (field read s) (field read t) (h read) (k read)

  pub with_input : (i j : Ground) → Alike room i j
      → AlikeRecord room (record at_undefined { input = i }) (record at_undefined { input = j })
  with_input i j h =
      alike_record room (record at_undefined { input = i }) (record at_undefined { input = j }) h
      (inl refl) (inl refl) (inl refl) (inl refl)

  -- behind the last record stands what is alike to the undefined one
  pub alike_world : (rs ss : List Record) (b : Record) → AlikeRecords room rs ss
      → AlikeRecord room b at_undefined → (read : GroundMacro) (v : Option ℕ)
      → Alike room (value_in (rs ++ b ∷ []) read v) (value_in ss read v)
  alike_world rs ss b h k read None = inl refl
  alike_world rs ss b h k read (Some p) =
      subst (λ r. Alike room (field read (get_or (rs ++ b ∷ []) p at_undefined)) (field read r))
      (undefined_last ss p)
      (alike_values room (rs ++ b ∷ []) (ss ++ at_undefined ∷ [])
      (alike_push room rs ss b at_undefined h k) read (Some p))

  module _ (system : SystemTree) (m : Model) (left : Bool) where
    -- what the body of an instance is read in, behind these records and one of them
    abbrev pub half : Record → Record
    half last = record at_undefined { input = attacked last.frame }

    -- one position: with what was kept, the record that is alike to that of the definition
    pub alike_after : (rs : List Record) (r b e : Record) (i : Inst) (o c j : Ground)
        → AlikeRecord room b (half r)
        → Alike room o
        (translate (world_over m left (rs ++ b ∷ [])) (own_indices i) []
        (action_at system i.act).output)
        → Alike room c
        (translate (world_over m left (rs ++ b ∷ [])) (own_indices i) []
        (action_at system i.act).cond)
        → Alike room j (attacked r.frame)
        → AlikeRecord room e (next_record r j o c)
        → AlikeRecord room e (record_of system m left rs r i)
    alike_after rs r b e i o c j hb ho hc hj he =
        let body : ActionTree = action_at system i.act in
        let values =
        alike_values room (rs ++ b ∷ []) (rs ++ half r ∷ [])
        (alike_push room rs rs b (half r) (themselves rs) hb) in
        let same : (t : TermTree)
        → Alike room (translate (world_over m left (rs ++ b ∷ [])) (own_indices i) [] t)
        (translate (world_over m left (rs ++ half r ∷ [])) (own_indices i) [] t) =
        λ t. alike room (times_of m) left (value_in (rs ++ b ∷ [])) (value_in (rs ++ half r ∷ []))
        (own_indices i) values t [] in
        alike_record_trans e (next_record r j o c) (record_of system m left rs r i) he
        (alike_next room r r j (attacked r.frame) o _ c _ (λ read. inl refl) hj
        (alike_trans room o _ _ ho (same body.output))
        (alike_trans room c _ _ hc (same body.cond)))
      where
        themselves : (xs : List Record) → AlikeRecords room xs xs
        themselves [] = tt
        themselves (x ∷ xs) = (λ read. inl refl, themselves xs)

    -- the definition's records behind alike ones are alike
    alike_record_of : (rs ss : List Record) (r s : Record) (i : Inst) → AlikeRecords room rs ss
        → AlikeRecord room r s
        → AlikeRecord room (record_of system m left rs r i) (record_of system m left ss s i)
    alike_record_of rs ss r s i h k =
        let body : ActionTree = action_at system i.act in
        let frames : Alike room (attacked r.frame) (attacked s.frame) =
        alike_one room attacker r.frame s.frame (k (word Frame)) in
        let values =
        alike_values room (rs ++ half r ∷ []) (ss ++ half s ∷ [])
        (alike_push room rs ss (half r) (half s) h (with_input _ _ frames)) in
        let same : (t : TermTree)
        → Alike room (translate (world_over m left (rs ++ half r ∷ [])) (own_indices i) [] t)
        (translate (world_over m left (ss ++ half s ∷ [])) (own_indices i) [] t) =
        λ t. alike room (times_of m) left (value_in (rs ++ half r ∷ []))
        (value_in (ss ++ half s ∷ [])) (own_indices i) values t [] in
        alike_next room r s _ _ _ _ _ _ k frames (same body.output) (same body.cond)

    -- the entries so far are alike to the records of the definition's pass
    pub record PassSoFar (entries : List Entry) (rest : List Inst) : Type 0 where
      pub records : List Record
      pub last : Record
      pub pass : records_from system m left records last rest ≡ records_of system m left
      pub are_alike : AlikeRecords room (kept_records entries) records
      pub ends : get_or records (length records - 1) at_undefined ≡ last
      pub some : 0 < length records

    pub pass_start : (entries none : List Entry) (e : Entry) → none ≡ [] → entries ≡ none ++ e ∷ []
        → AlikeRecord room (kept_record e) at_init → PassSoFar entries m.list
    pass_start entries none e n p h = record {
      records = at_init ∷ [];
      last = at_init;
      pass = refl;
      are_alike =
          subst (λ es. AlikeRecords room (kept_records es) (at_init ∷ []))
          (sym (p ∙ ap (λ es. es ++ e ∷ []) n)) (h, tt);
      ends = refl;
      some = omega arith;
    }

    pub some_entries : (entries : List Entry) (rest : List Inst) → PassSoFar entries rest
        → 0 < length entries
    some_entries entries rest so_far =
        omega (
          arith,
          alike_length room
              (kept_records entries) so_far.records so_far.are_alike,
          length-map entries kept_record,
          so_far.some,
        )

    pub pass_next : (entries longer : List Entry) (e : Entry) (i : Inst) (left' rest : List Inst)
        → left' ≡ i ∷ rest → longer ≡ entries ++ e ∷ []
        → AlikeRecord room (kept_record e)
        (record_of system m left (kept_records entries)
        (get_or (kept_records entries) (length entries - 1) at_undefined) i)
        → PassSoFar entries left' → PassSoFar longer rest
    pass_next entries longer e i left' rest el l h so_far =
        let records = so_far.records in
        let last = so_far.last in
        let n : length entries ≡ length records =
        sym (length-map entries kept_record)
        ∙ alike_length room (kept_records entries) records so_far.are_alike in
        let at_end
        : AlikeRecord room
        (get_or (kept_records entries) (length entries - 1) at_undefined) last =
        subst (λ r. AlikeRecord room
        (get_or (kept_records entries) (length entries - 1) at_undefined) r)
        (ap (λ q. get_or records (q - 1) at_undefined) n ∙ so_far.ends)
        (alike_at room (kept_records entries) records so_far.are_alike (length entries - 1)) in
        let next : Record = record_of system m left records last i in
        let k : AlikeRecord room (kept_record e) next =
        alike_record_trans (kept_record e) _ next h
        (alike_record_of (kept_records entries) records _ last i so_far.are_alike at_end) in
        let long : length (records ++ next ∷ []) - 1 ≡ length records =
        omega (arith, length-append records (next ∷ [])) in
        record {
          records = records ++ next ∷ [];
          last = next;
          pass = ap (records_from system m left records last) (sym el) ∙ so_far.pass;
          are_alike =
              subst (λ rs. AlikeRecords room rs (records ++ next ∷ []))
              (sym (ap kept_records l ∙ map-append kept_record entries (e ∷ [])))
              (alike_push room (kept_records entries) records
              (kept_record e) next so_far.are_alike k);
          ends = ap (λ q. get_or (records ++ next ∷ []) q at_undefined) long
              ∙ get_or-last records next at_undefined;
          some = omega (arith, length-append records (next ∷ []));
        }

    pub pass_done : (entries : List Entry) (rest : List Inst) → rest ≡ [] → PassSoFar entries rest
        → AlikeRecords room (kept_records entries) (records_of system m left)
    pass_done entries rest e so_far =
        subst (AlikeRecords room (kept_records entries))
        (ap (records_from system m left so_far.records so_far.last) (sym e)
        ∙ so_far.pass) so_far.are_alike

    -- what is read in the entries is read in the trace
    pub alike_translation : (entries : List Entry) (b : Record) (a : Assignment) (t : TermTree)
        → AlikeRecords room (kept_records entries) (records_of system m left)
        → AlikeRecord room b at_undefined
        → Alike room (translate (world_over m left (kept_records entries ++ b ∷ [])) a [] t)
        (translate (world_over m left (records_of system m left)) a [] t)
    alike_translation entries b a t h k =
        alike room (times_of m) left (value_in (kept_records entries ++ b ∷ []))
        (value_in (records_of system m left)) a
        (alike_world (kept_records entries) (records_of system m left) b h k) t []

  no_pass : (g : Ground) → FitsIn room g → Passes room g → ⊥
  no_pass g f (inl h) = omega (arith, f.in_room, h)
  no_pass g f (inr h) = omega (arith, f.in_depth, h)

  pub term_answered : (g whole : Ground) (b : Built) → Alike room g whole → Builds room g (Ok b)
      → IsAnswer room whole (Ok b.term)
  term_answered g whole b (inl e) h = (
    h.0 ∙ e,
    record {
      in_room = omega
          (arith, h.1, b.size_is, ap ground_size (h.0 ∙ e));
      in_depth =
          omega (arith, h.2, b.depth_is, ap ground_depth (h.0 ∙ e));
    },
  )
  term_answered g whole b (inr p) h =
      absurd (no_pass g
      (record {
        in_room = omega (arith, h.1, b.size_is, ap ground_size h.0);
        in_depth = omega
            (arith, h.2, b.depth_is, ap ground_depth h.0);
      }) p.0)

  pub fault_answered : (g whole : Ground) (e : SizeFault) → Alike room g whole
      → Builds room g (Err e) → IsAnswer room whole (Err e)
  fault_answered g whole NoMemory p h = tt
  fault_answered g whole TooLarge (inl e) h = λ f. no_pass whole f (subst (Passes room) e (h refl))
  fault_answered g whole TooLarge (inr p) h = λ f. no_pass whole f p.1
