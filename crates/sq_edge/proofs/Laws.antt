-- Laws of the files on a shelf, for the crates above.
use Rattle.std.proofs.Common.{◌≡◌, ℕ, Bool, true, false, cond, if◌then◌else◌, List, [], ◌++◌, None}
use Rattle.std.proofs.Common.{Some, refl}
use Rattle.std.proofs.Common.{sym, ◌∙◌, ap, unwrap_or}
use Rattle.std.specs.declared.option.Option.{Option}
use Rattle.std.specs.Ordering.{eq_by_cmp, is_eq}
use Rattle.std.specs.FinMap.{get, insert, get-insert, same_map, slice_cmp-IsAntisymmetric}
use Rattle.std.specs.FinMap.{nat_cmp-IsAntisymmetric}
use Rattle.std.proofs.lemmas.Cmp.{nat_list_cmp_total, tied_itself}
use Rattle.sq_edge.specs.Edge.{Files, name_cmp, with_file, with_more}

hides : {A : Type 0} (b : Bool) (x y z : A) → (if b then x else if b then y else z)
    ≡ (if b then x else z)
hides true x y z = refl
hides false x y z = refl

get_same : (m : Files) (name a : List ℕ) → get (insert m name a) name ≡ Some a
get_same m name a = get-insert nat_list_cmp_total m name a name
    ∙ ap (λ (b : Bool). (if b then Some a else get m name))
    (ap is_eq (tied_itself nat_list_cmp_total name))

insert_twice : (m : Files) (name a b : List ℕ) → insert (insert m name a) name b ≡ insert m name b
insert_twice m name a b =
    same_map nat_list_cmp_total (slice_cmp-IsAntisymmetric nat_cmp-IsAntisymmetric) _ _ (λ q.
    get-insert nat_list_cmp_total (insert m name a) name b q
    ∙ ap (cond (eq_by_cmp name_cmp q name) (Some b)) (get-insert nat_list_cmp_total m name a q)
    ∙ hides (eq_by_cmp name_cmp q name) (Some b) (Some a) (get m q)
    ∙ sym (get-insert nat_list_cmp_total m name b q))

-- more behind a file that was written
pub more_after : (files : Option Files) (name a b : List ℕ) → with_more (with_file files name a)
    name b ≡ with_file files name (a ++ b)
more_after None name a b = refl
more_after (Some m) name a b =
    ap Some (ap (λ (o : Option (List ℕ)). insert (insert m name a) name (unwrap_or o [] ++ b))
    (get_same m name a) ∙ insert_twice m name a (a ++ b))
