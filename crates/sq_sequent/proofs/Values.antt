-- What an argument gives for a binder has the binder's sort and holds no loose bound variable.
use Rattle.std.proofs.Common.{◌≡◌, refl, ap, ◌∙◌, List, [], ◌∷◌, length, Option, Some, None, Bool}
use Rattle.std.proofs.Common.{true, false}
use Rattle.std.specs.Prelude.{option_map, if◌then◌else◌}
use Rattle.sq_base.specs.declared.sort.Sort.{Sort}
use Rattle.sq_base.specs.declared.sort.Sort.TheVariants.{Message, Boolean, Index, Timestamp}
use Rattle.sq_term.specs.declared.term.Idx.{Idx}
use Rattle.sq_term.specs.declared.term.Idx.TheVariants.{Free, Bound}
use Rattle.sq_term.specs.Arguments.{ArgTree, an_index, a_time}
use Rattle.sq_term.specs.Closed.{idx_closed, indices_closed, ts_closed}
use Rattle.sq_term.specs.Syntax.{TsTree, free, bound, init, pred, action}
use Rattle.sq_term.proofs.BoolTests.{and_split, and_both}
use Rattle.sq_typing.specs.Typing.{Signature, has_count_at, is_index, are_indices, is_timestamp}
use Rattle.sq_subst.specs.Laws.{arg_closed}
use Rattle.sq_step.specs.declared.step.ValArg.{ValArg}
use Rattle.sq_step.specs.declared.step.ValArg.TheVariants as val_arg
use Rattle.sq_sequent.specs.Places.{ts_at, idx_at}
use Rattle.sq_sequent.specs.Rows.{IsValue}
use Rattle.sq_sequent.specs.Site.{Site}
use Rattle.sq_sequent.specs.Standing.{signature_at, time_where, index_where, time_in, index_in}
use Rattle.sq_sequent.specs.Standing.{value_in}
use Rattle.sq_formula.proofs.Opened.{is_value}

no_value : {P : Type 0} → false ≡ true → P
no_value e = absurd (let f : false ≡ true = e in cc)

-- ---- it holds no loose bound variable

index-closed : (g : Signature) (i : Idx) → is_index g [] i ≡ true → idx_closed 0 i ≡ true
index-closed g (Free k) h = refl
index-closed g (Bound k) h = no_value h

indices-closed : (g : Signature) (is : List Idx) → are_indices g [] is ≡ true
    → indices_closed 0 is ≡ true
indices-closed g [] h = refl
indices-closed g (i ∷ is) h =
    let p = and_split (is_index g [] i) (are_indices g [] is) h in
    and_both (idx_closed 0 i) (indices_closed 0 is) (index-closed g i p.0) (indices-closed g is p.1)

time-closed : (g : Signature) (t : TsTree) → is_timestamp g [] t ≡ true → ts_closed 0 t ≡ true
time-closed g (free k) h = refl
time-closed g (bound k) h = no_value h
time-closed g init h = refl
time-closed g (pred t) h = time-closed g t h
time-closed g (action a is) h =
    indices-closed g is
    (and_split (has_count_at g.actions a (length is)) (are_indices g [] is) h).1

pub value-closed : (g : Signature) (x : Sort) (v : ArgTree) → is_value g x v ≡ true
    → arg_closed v ≡ true
value-closed g Index (an_index i) h = index-closed g i h
value-closed g Timestamp (a_time t) h = time-closed g t h
value-closed g Index (a_time t) h = no_value h
value-closed g Timestamp (an_index i) h = no_value h
value-closed g Message (an_index i) h = no_value h
value-closed g Message (a_time t) h = no_value h
value-closed g Boolean (an_index i) h = no_value h
value-closed g Boolean (a_time t) h = no_value h

-- ---- what an argument gives

index-value : (g : Signature) (o : Option Idx) (v : ArgTree)
    → option_map an_index (index_where g o) ≡ Some v → is_value g Index v ≡ true
index-value g None v e = absurd (cc)
index-value g (Some i) v e = go (is_index g [] i) refl e
  where
    go : (b : Bool) → is_index g [] i ≡ b → option_map an_index (if b then Some i else None)
        ≡ Some v
        → is_value g Index v ≡ true
    go true q r = let z : v ≡ an_index i = cc in ap (is_value g Index) z ∙ q
    go false q r = absurd (cc)

time-value : (g : Signature) (o : Option TsTree) (v : ArgTree)
    → option_map a_time (time_where g o) ≡ Some v → is_value g Timestamp v ≡ true
time-value g None v e = absurd (cc)
time-value g (Some t) v e = go (is_timestamp g [] t) refl e
  where
    go : (b : Bool) → is_timestamp g [] t ≡ b → option_map a_time (if b then Some t else None)
        ≡ Some v
        → is_value g Timestamp v ≡ true
    go true q r = let z : v ≡ a_time t = cc in ap (is_value g Timestamp) z ∙ q
    go false q r = absurd (cc)

no_argument : {P : Type 0} (v : ArgTree) → None ≡ Some v → P
no_argument v e = absurd (let f : None ≡ Some v = e in cc)

pub value-sort : (at : Site) (x : Sort) (a : ValArg) (v : ArgTree) → IsValue at x a v
    → is_value (signature_at at) x v ≡ true
unfolding value_in index_in time_in
value-sort at Index (val_arg.Index a) v e =
    index-value (signature_at at) (idx_at at.sequent a) v e
value-sort at Timestamp (val_arg.Time a) v e =
    time-value (signature_at at) (ts_at at.sequent a) v e
value-sort at Index (val_arg.Time a) v e = no_argument v e
value-sort at Timestamp (val_arg.Index a) v e = no_argument v e
value-sort at Message (val_arg.Index a) v e = no_argument v e
value-sort at Message (val_arg.Time a) v e = no_argument v e
value-sort at Boolean (val_arg.Index a) v e = no_argument v e
value-sort at Boolean (val_arg.Time a) v e = no_argument v e
