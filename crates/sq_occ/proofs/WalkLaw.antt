-- Each occurrence in a term's translation is that of an entry of the walk.
use Rattle.std.proofs.Common.{◌≡◌, refl, sym, ap, subst, ℕ, ◌⊎◌, inl, inr, ⊎_elim, List, [], ◌∷◌}
use Rattle.std.proofs.Common.{◌++◌, Bool, true, false, if◌then◌else◌, ◌&&◌, ◌==◌, get_or}
use Rattle.sq_base.specs.declared.sort.Sort.{Sort}
use Rattle.sq_term.specs.declared.model.Value.{Value}
use Rattle.sq_term.specs.declared.signature.FunDecl.{FunDecl}
use Rattle.sq_term.specs.declared.term.Idx.{Idx}
use Rattle.sq_term.specs.declared.term.Macro.{Macro}
use Rattle.sq_term.specs.Ground.{Ground, named, atom}
use Rattle.sq_term.specs.GroundOccurrences as ground
use Rattle.sq_term.specs.GroundOccurrences.{Role, occurrences, occurrences_in_first}
use Rattle.sq_term.specs.GroundOccurrences.{occurrences_in_all, first_of_all}
use Rattle.sq_term.specs.Lists.{Member, here, there, Each, same_numbers}
use Rattle.sq_term.specs.Signatures.{function_role, is_hash, is_keyed, is_pk, is_equality}
use Rattle.sq_term.specs.Symbols.{Kind}
use Rattle.sq_term.specs.Syntax.{TsTree, TermTree, name, fun, macro, schema, diff, le, ts_eq}
use Rattle.sq_term.specs.Syntax.{idx_eq, happens, all, some, find, TermTrees, nil, cons}
use Rattle.sq_term.specs.Translate.{World, Assignment, idx_values, macro_value, ts_value, domain}
use Rattle.sq_term.specs.Translate.{choices, translate, translate_all}
use Rattle.sq_term.proofs.BoolTests.{same_numbers-true}
use Rattle.sq_term.proofs.Members.{member-append_left, member-append_right}
use Rattle.sq_ground.specs.Holding.{Fits}
use Rattle.sq_occ.specs.Entries.{RoleTree, bare, public, key, OccTree, place, with_indices}
use Rattle.sq_occ.specs.Walks.{is_name, name_args, is_keyed_by, is_only_name, first_term}
use Rattle.sq_occ.specs.Walks.{first_args, second_args, walk, walk_first, walk_all}
use Rattle.sq_occ.specs.Listed.{Covers, IsListed}
use Rattle.sq_occ.specs.Reads.{AtPlaces, AllAtPlaces}
use Rattle.sq_occ.proofs.Roles.{no_truth, name_itself, ground_name_is, name_is, keyed_not_equality}
use Rattle.sq_occ.proofs.Roles.{and_weaker, member-append_from, member-only}
use Rattle.sq_occ.proofs.Unfolded.{choices_fit, in_conj, in_disj, in_truth, InFind, in_find}

module _ (w : World) (a : Assignment) (js : List ℕ) where
  -- what covers a bare occurrence covers each one
  bare_covers : (es : List Value) (s : RoleTree) (r : Role) → Covers w a es s ground.bare
      → Covers w a es s r
  bare_covers es bare r h = tt
  bare_covers es public r h = absurd (not_public h)
    where
      not_public : ground.bare ≡ ground.public → ⊥
      not_public e = cc
  bare_covers es (key f m test) r h = absurd (no_key (translate w a es m) h.0 h.1)
    where
      no_key : (t : Ground) (side : Bool) → ground.bare ≡ ground.key f t side → ⊥
      no_key t side e = cc

  pub listed_bare : (r : Role) (us : List OccTree) → IsListed w a js ground.bare us
      → IsListed w a js r us
  listed_bare r us h = record {
    entry = h.entry;
    is_in = h.is_in;
    values = h.values;
    fit = h.fit;
    numbers = h.numbers;
    is_met = h.is_met;
    covers = bare_covers h.values h.entry.role r h.covers;
  }

  pub listed_more : (r : Role) (us vs : List OccTree) → Each (Member vs) us
      → IsListed w a js r us → IsListed w a js r vs
  listed_more r us vs sub h = record {
    entry = h.entry;
    is_in = sub h.entry h.is_in;
    values = h.values;
    fit = h.fit;
    numbers = h.numbers;
    is_met = h.is_met;
    covers = h.covers;
  }

-- An occurrence has an entry, or it is as Q says: Q is what a macro's value gives.
module _ (funs : List FunDecl) (n : ℕ) (js : List ℕ) (w : World) (a : Assignment)
    (Q : Role → Type 0) (any_role : (r : Role) → Q ground.bare → Q r) where
  abbrev Uses : Bool → Ground → Role → Type 0
  Uses side t r = Member (occurrences funs n js side t) r

  abbrev pub Found : Role → List OccTree → Type 0
  Found r us = IsListed w a js r us ⊎ Q r

  found_bare : (r : Role) (us : List OccTree) → Found ground.bare us → Found r us
  found_bare r us (inl h) = inl (listed_bare w a js r us h)
  found_bare r us (inr q) = inr (any_role r q)

  pub found_more : (r : Role) (us vs : List OccTree) → Each (Member vs) us → Found r us
      → Found r vs
  found_more r us vs sub (inl h) = inl (listed_more w a js r us vs sub h)
  found_more r us vs sub (inr q) = inr q

  -- the entry at the head, whose guard is true
  at_head : (is : List Idx) (s : RoleTree) (b : List Sort) (es : List Value) (r : Role)
      (us : List OccTree) → Fits w.times b es → idx_values a es is ≡ js → Covers w a es s r
      → Found r (place n is s b ∷ us)
  at_head is s b es r us fit e c = inl (record {
    entry = place n is s b;
    is_in = here;
    values = es;
    fit = fit;
    numbers = e;
    is_met = refl;
    covers = c;
  })

  module _ (at_macro : List Sort → Macro → TsTree → List OccTree)
      (at_schema : List Sort → ℕ → List OccTree)
      (P : List Value → Macro → TsTree → Type 0) (S : ℕ → Type 0)
      (shown : (b : List Sort) (es : List Value) (m : Macro) (t : TsTree) (side : Bool) (r : Role)
      → Fits w.times b es → P es m t
      → Uses side (w.values (macro_value a es m) (ts_value w.times a es t)) r
      → Found r (at_macro b m t))
      (unused : (k : ℕ) (side : Bool) (r : Role) → S k → Uses side (get_or a.schemas k (atom k)) r
      → ⊥) where
    abbrev walked : List Sort → Bool → TermTree → List OccTree
    walked = walk funs n at_macro at_schema

    -- an application, from what is known of its arguments; s and t say whether it is a side of an
    -- equation, of the term and of its translation
    module _ (f : Kind) (b : List Sort) (es : List Value) (fit : Fits w.times b es) (s t : Bool)
        (mono : s ≡ true → t ≡ true) where
      abbrev ground_uses : Bool → Bool → TermTrees → List Role
      ground_uses keyed only ts =
          (if keyed then ground.key f (first_of_all (translate_all w a es ts))
          (t && is_hash (function_role funs f))
          ∷ occurrences_in_first funs n js (translate_all w a es ts)
          else (if only then ground.public ∷ []
          else occurrences_in_all funs n js (is_equality f) (translate_all w a es ts)))

      abbrev entries : Bool → Bool → TermTrees → List OccTree
      entries keyed only ts =
          (if keyed then place n (second_args ts)
          (key f (first_term ts) (s && is_hash (function_role funs f))) b
          ∷ walk_first funs n at_macro at_schema b ts
          else (if only then place n (first_args ts) public b ∷ []
          else walk_all funs n at_macro at_schema b (is_equality f) ts))

      abbrev All : TermTrees → Type 0
      All ts =
          (r : Role)
          → Member (occurrences_in_all funs n js (is_equality f) (translate_all w a es ts)) r
          → Found r (walk_all funs n at_macro at_schema b (is_equality f) ts)

      abbrev First : TermTrees → Type 0
      First ts =
          (r : Role) → Member (occurrences_in_first funs n js (translate_all w a es ts)) r
          → Found r (walk_first funs n at_macro at_schema b ts)

      -- neither test holds, whatever the function
      plain_case : (K P : Bool) (ts : TermTrees) (r : Role) → All ts
          → Member (ground_uses (K && false) (P && false) ts) r
          → Found r (entries (K && false) (P && false) ts)
      plain_case true true ts r every i = every r i
      plain_case true false ts r every i = every r i
      plain_case false true ts r every i = every r i
      plain_case false false ts r every i = every r i

      numbers_are : (u : TermTree) → is_name n u ≡ true
          → ground.is_name n js (translate w a es u) ≡ true → idx_values a es (name_args u) ≡ js
      numbers_are u e g =
          let x : translate w a es u ≡ named n (idx_values a es (name_args u)) =
          ap (translate w a es) (name_is n u e) in
          let y : translate w a es u ≡ named n js = ground_name_is n js (translate w a es u) g in
          cc

      name_used : (u : TermTree) (side : Bool) → ground.is_name n js (translate w a es u) ≡ true
          → Uses side (translate w a es u) ground.bare
      name_used u side g =
          subst (λ x. Uses side x ground.bare) (sym (ground_name_is n js (translate w a es u) g))
          (subst (λ c. Member (if c then ground.bare ∷ [] else []) ground.bare)
          (sym (name_itself n js)) here)

      -- a name with other numbers has no occurrence
      other_name : (u : TermTree) (side : Bool) (r : Role) → is_name n u ≡ true
          → ground.is_name n js (translate w a es u) ≡ false → Uses side (translate w a es u) r
          → ⊥
      other_name u side r e g i =
          let x : translate w a es u ≡ named n (idx_values a es (name_args u)) =
          ap (translate w a es) (name_is n u e) in
          let i' : Uses side (named n (idx_values a es (name_args u))) r =
          subst (λ y. Uses side y r) x i in
          let g' : ground.is_name n js (named n (idx_values a es (name_args u))) ≡ false =
          subst (λ y. ground.is_name n js y ≡ false) x g in
          let i'' : Member (if false then ground.bare ∷ [] else []) r =
          subst (λ c. Member (if c then ground.bare ∷ [] else []) r) g' i' in
          elim i'' [ ]

      one_case : (P G N : Bool) (u : TermTree) (r : Role)
          → ground.is_name n js (translate w a es u) ≡ G → is_name n u ≡ N → All (cons u nil)
          → Member (ground_uses false (P && G) (cons u nil)) r
          → Found r (entries false (P && N) (cons u nil))
      one_case true true true u r eG eN every here =
          at_head (name_args u) public b es r [] fit (numbers_are u eN eG) refl
      one_case true true true u r eG eN every (there i) = elim i [ ]
      one_case true true false u r eG eN every here =
          found_bare r _
          (every ground.bare
          (member-append_left (occurrences funs n js (is_equality f) (translate w a es u)) []
          ground.bare (name_used u (is_equality f) eG)))
      one_case true true false u r eG eN every (there i) = elim i [ ]
      one_case true false true u r eG eN every i =
          absurd (other_name u (is_equality f) r eN eG (member-only _ r i))
      one_case true false false u r eG eN every i = every r i
      one_case false G N u r eG eN every i = every r i

      one_any : (K P G N : Bool) (u : TermTree) (r : Role)
          → ground.is_name n js (translate w a es u) ≡ G → is_name n u ≡ N → All (cons u nil)
          → Member (ground_uses (K && false) (P && G) (cons u nil)) r
          → Found r (entries (K && false) (P && N) (cons u nil))
      one_any true P G N u r eG eN every i = one_case P G N u r eG eN every i
      one_any false P G N u r eG eN every i = one_case P G N u r eG eN every i

      -- under a key the arguments are no sides of an equation
      no_side : is_keyed (function_role funs f) ≡ true → (x : Ground) (r : Role) → Uses false x r
          → Uses (is_equality f) x r
      no_side eK x r i = subst (λ c. Uses c x r) (sym (keyed_not_equality funs f eK)) i

      -- the key is seen on the ground alone: it is a bare occurrence of what stands there
      ground_key : (m u : TermTree) (r : Role) → is_keyed (function_role funs f) ≡ true
          → ground.is_name n js (translate w a es u) ≡ true → All (cons m (cons u nil))
          → Member (ground.key f (translate w a es m) (t && is_hash (function_role funs f))
          ∷ occurrences funs n js false (translate w a es m)) r
          → Found r (walk_all funs n at_macro at_schema b (is_equality f) (cons m (cons u nil)))
      ground_key m u r eK eG every here =
          found_bare r _
          (every ground.bare
          (member-append_right (occurrences funs n js (is_equality f) (translate w a es m)) _
          ground.bare
          (member-append_left (occurrences funs n js (is_equality f) (translate w a es u)) []
          ground.bare (name_used u (is_equality f) eG))))
      ground_key m u r eK eG every (there i) =
          every r
          (member-append_left (occurrences funs n js (is_equality f) (translate w a es m)) _ r
          (no_side eK (translate w a es m) r i))

      -- the key is the name with other numbers
      other_key : (m u : TermTree) (r : Role) → is_keyed (function_role funs f) ≡ true
          → ground.is_name n js (translate w a es u) ≡ false → is_name n u ≡ true
          → First (cons m (cons u nil)) → (e : OccTree)
          → Member (occurrences_in_all funs n js (is_equality f)
          (translate_all w a es (cons m (cons u nil)))) r
          → Found r (e ∷ walked b false m)
      other_key m u r eK eG eN fst e i =
          ⊎_elim
          (λ j. found_more r _ _ (λ x k. there k)
          (fst r (subst (λ c. Uses c (translate w a es m) r) (keyed_not_equality funs f eK) j)))
          (λ j. absurd (other_name u (is_equality f) r eN eG (member-only _ r j)))
          (member-append_from (occurrences funs n js (is_equality f) (translate w a es m)) _ r i)

      two_case : (K P G N : Bool) (m u : TermTree) (r : Role)
          → is_keyed (function_role funs f) ≡ K → ground.is_name n js (translate w a es u) ≡ G
          → is_name n u ≡ N → All (cons m (cons u nil)) → First (cons m (cons u nil))
          → Member (ground_uses (K && G) (P && false) (cons m (cons u nil))) r
          → Found r (entries (K && N) (P && false) (cons m (cons u nil)))
      two_case false P G N m u r eK eG eN every fst i =
          plain_case false P (cons m (cons u nil)) r every i
      two_case true P true true m u r eK eG eN every fst here =
          at_head (name_args u) (key f m (s && is_hash (function_role funs f))) b es r _ fit
          (numbers_are u eN eG) (
            t && is_hash (function_role funs f),
            refl,
            and_weaker s t (is_hash (function_role funs f)) mono,
          )
      two_case true P true true m u r eK eG eN every fst (there i) =
          found_more r _ _ (λ x j. there j) (fst r i)
      two_case true true true false m u r eK eG eN every fst i = ground_key m u r eK eG every i
      two_case true false true false m u r eK eG eN every fst i = ground_key m u r eK eG every i
      two_case true true false true m u r eK eG eN every fst i = other_key m u r eK eG eN fst _ i
      two_case true false false true m u r eK eG eN every fst i = other_key m u r eK eG eN fst _ i
      two_case true P false false m u r eK eG eN every fst i =
          plain_case true P (cons m (cons u nil)) r every i

      apply_case : (ts : TermTrees) (r : Role) → All ts → First ts
          → Member (ground_uses
          (is_keyed (function_role funs f) && ground.is_keyed_by n js (translate_all w a es ts))
          (is_pk (function_role funs f) && ground.is_only_name n js (translate_all w a es ts))
          ts) r
          → Found r (entries (is_keyed (function_role funs f) && is_keyed_by n ts)
          (is_pk (function_role funs f) && is_only_name n ts) ts)
      apply_case nil r every fst i =
          plain_case (is_keyed (function_role funs f)) (is_pk (function_role funs f)) nil r every i
      apply_case (cons u nil) r every fst i =
          one_any (is_keyed (function_role funs f)) (is_pk (function_role funs f))
          (ground.is_name n js (translate w a es u)) (is_name n u) u r refl refl every i
      apply_case (cons m (cons u nil)) r every fst i =
          two_case (is_keyed (function_role funs f)) (is_pk (function_role funs f))
          (ground.is_name n js (translate w a es u)) (is_name n u) m u r refl refl refl every fst i
      apply_case (cons m (cons u (cons x ts))) r every fst i =
          plain_case (is_keyed (function_role funs f)) (is_pk (function_role funs f))
          (cons m (cons u (cons x ts))) r every i

    one_side : (left side : Bool) (x y : Ground) (us vs : List OccTree) (r : Role)
        → (Uses side x r → Found r us) → (Uses side y r → Found r vs)
        → Uses side (if left then x else y) r → Found r (us ++ vs)
    one_side true side x y us vs r f g i =
        found_more r us _ (λ z j. member-append_left us vs z j) (f i)
    one_side false side x y us vs r f g i =
        found_more r vs _ (λ z j. member-append_right us vs z j) (g i)

    at_name : (k : ℕ) (is : List Idx) (b : List Sort) (es : List Value) (side : Bool) (r : Role)
        → Fits w.times b es → Uses side (named k (idx_values a es is)) r
        → Found r (if k == n then place n is bare b ∷ [] else [])
    at_name k is b es side r fit i = go (k == n) (same_numbers (idx_values a es is) js) refl i
      where
        go : (c d : Bool) → same_numbers (idx_values a es is) js ≡ d
            → Member (if c && d then ground.bare ∷ [] else []) r
            → Found r (if c then place n is bare b ∷ [] else [])
        go true true e i = at_head is bare b es r [] fit (same_numbers-true _ js e) tt
        go true false e i = elim i [ ]
        go false d e i = elim i [ ]

    find_case : (c : ℕ) (test found other : TermTree) (b : List Sort) (es : List Value) (r : Role)
        → Fits w.times b es
        → ((xs : List Value) → Member (choices w.times c es) xs
        → AtPlaces w.times P S xs test × AtPlaces w.times P S xs found)
        → ((xs : List Value) → AtPlaces w.times P S xs test → Fits w.times (with_indices c b) xs
        → Uses false (translate w a xs test) r → Found r (walked (with_indices c b) false test))
        → ((xs : List Value) → AtPlaces w.times P S xs found → Fits w.times (with_indices c b) xs
        → Uses false (translate w a xs found) r → Found r (walked (with_indices c b) false found))
        → ((side : Bool) → Uses side (translate w a es other) r → Found r (walked b false other))
        → InFind funs n js (λ xs. translate w a xs test) (λ xs. translate w a xs found)
        (translate w a es other) (choices w.times c es) r
        → Found r (walked (with_indices c b) false test
        ++ (walked (with_indices c b) false found ++ walked b false other))
    find_case c test found other b es r fit p ht hf ho (inl k) =
        let e : Fits w.times (with_indices c b) k.0 = choices_fit w.times c b es fit k.0 k.1 in
        ⊎_elim
        (λ o. found_more r _ _ (λ x i. member-append_left _ _ x i) (ht k.0 (p k.0 k.1).0 e o))
        (λ o. found_more r _ _
        (λ x i. member-append_right (walked (with_indices c b) false test) _ x
        (member-append_left _ _ x i)) (hf k.0 (p k.0 k.1).1 e o)) k.2
    find_case c test found other b es r fit p ht hf ho (inr k) =
        found_more r _ _
        (λ x i. member-append_right (walked (with_indices c b) false test) _ x
        (member-append_right (walked (with_indices c b) false found) _ x i)) (ho k.0 k.1)

    mutual
      pub walk_law : (x : TermTree) (b : List Sort) (es : List Value) (s t : Bool)
          → (s ≡ true → t ≡ true) → AtPlaces w.times P S es x → Fits w.times b es → (r : Role)
          → Uses t (translate w a es x) r → Found r (walk funs n at_macro at_schema b s x)
      walk_law (name k is) b es s t mono p fit r i = at_name k is b es t r fit i
      walk_law (fun f is ts) b es s t mono p fit r i =
          apply_case f b es fit s t mono ts r
          (λ r j. walk_laws ts b es (is_equality f) p fit r j)
          (λ r j. walk_firsts ts b es p fit r j) i
      walk_law (macro m u) b es s t mono p fit r i = shown b es m u t r fit p i
      walk_law (schema k) b es s t mono p fit r i = absurd (unused k t r p i)
      walk_law (diff x y) b es s t mono p fit r i =
          one_side w.left t (translate w a es x) (translate w a es y)
          (walk funs n at_macro at_schema b s x) (walk funs n at_macro at_schema b s y) r
          (λ j. walk_law x b es s t mono p.0 fit r j) (λ j. walk_law y b es s t mono p.1 fit r j) i
      walk_law (le x y) b es s t mono p fit r i = absurd (in_truth funs n js t _ r i)
      walk_law (ts_eq x y) b es s t mono p fit r i = absurd (in_truth funs n js t _ r i)
      walk_law (idx_eq x y) b es s t mono p fit r i = absurd (in_truth funs n js t _ r i)
      walk_law (happens x) b es s t mono p fit r i = absurd (in_truth funs n js t _ r i)
      walk_law (all o body) b es s t mono p fit r i =
          let q : (x : Value) × Member (domain w.times o) x × (z : Bool)
          × Uses z (translate w a (x ∷ es) body) r =
          in_conj funs n js t (λ x. translate w a (x ∷ es) body) (domain w.times o) r i in
          walk_law body (o ∷ b) (q.0 ∷ es) false q.2 (λ e. absurd (no_truth e)) (p q.0 q.1)
          (q.1, fit) r q.3
      walk_law (some o body) b es s t mono p fit r i =
          let q : (x : Value) × Member (domain w.times o) x × (z : Bool)
          × Uses z (translate w a (x ∷ es) body) r =
          in_disj funs n js t (λ x. translate w a (x ∷ es) body) (domain w.times o) r i in
          walk_law body (o ∷ b) (q.0 ∷ es) false q.2 (λ e. absurd (no_truth e)) (p q.0 q.1)
          (q.1, fit) r q.3
      walk_law (find c test found other) b es s t mono p fit r i =
          find_case c test found other b es r fit p.0
          (λ xs z k j. walk_law test (with_indices c b) xs false false (λ e. e) z k r j)
          (λ xs z k j. walk_law found (with_indices c b) xs false false (λ e. e) z k r j)
          (λ side j. walk_law other b es false side (λ e. absurd (no_truth e)) p.1 fit r j)
          (in_find funs n js t (λ xs. translate w a xs test) (λ xs. translate w a xs found)
          (translate w a es other) (choices w.times c es) r i)

      walk_firsts : (ts : TermTrees) (b : List Sort) (es : List Value)
          → AllAtPlaces w.times P S es ts → Fits w.times b es → (r : Role)
          → Member (occurrences_in_first funs n js (translate_all w a es ts)) r
          → Found r (walk_first funs n at_macro at_schema b ts)
      walk_firsts nil b es p fit r i = elim i [ ]
      walk_firsts (cons x ts) b es p fit r i =
          walk_law x b es false false (λ e. e) p.0 fit r i

      walk_laws : (ts : TermTrees) (b : List Sort) (es : List Value) (s : Bool)
          → AllAtPlaces w.times P S es ts → Fits w.times b es → (r : Role)
          → Member (occurrences_in_all funs n js s (translate_all w a es ts)) r
          → Found r (walk_all funs n at_macro at_schema b s ts)
      walk_laws nil b es s p fit r i = elim i [ ]
      walk_laws (cons x ts) b es s p fit r i =
          ⊎_elim
          (λ j. found_more r _ _
          (λ y k. member-append_left (walked b s x) (walk_all funs n at_macro at_schema b s ts) y k)
          (walk_law x b es s s (λ e. e) p.0 fit r j))
          (λ j. found_more r _ _
          (λ y k. member-append_right (walked b s x) (walk_all funs n at_macro at_schema b s ts) y
          k) (walk_laws ts b es s p.1 fit r j))
          (member-append_from (occurrences funs n js s (translate w a es x)) _ r i)
