use Rattle.std.proofs.Common.{◌≡◌, ◌++◌, ◌∷◌, [], None, length, ◌∙◌, ap, length-append}
use Rattle.indexmap.proofs.CallerLemmas.{insert_entry-new}
use Rattle.std.specs.String.{string_eq, string_bytes}
use Rattle.indexmap.specs.IndexMap.{get_by_text}
use Rattle.sq_sym.specs.Declarations.{seen}
use Rattle.sq_sym.proofs.Entries.{seen-append}
use Rattle.sq_sym.proofs.table.add.Goals as goal
use Rattle.sq_sym.proofs.table.add.Goals.{in-Ok, in-Err}

pub returns-clause-ok : goal.returns-clause-ok
returns-clause-ok c =
    let m = c.args.symbols.now in
    let bytes = c.in_ok-owned.ensures.ok in
    let none : get_by_text m (string_bytes c.in_ok-owned.owned) ≡ None = ap (get_by_text m) bytes
    ∙ c.requires in
    let new = insert_entry-new string_eq m c.in_ok-owned.owned c.args.what none in
    let pushed = seen-append m.entries (c.in_ok-owned.owned, c.args.what) in
    elim c.match-insert.branch [
      | in-Ok w ↦ rw w.result-is
          (ap seen w.in-Ok.ensures.entries
          ∙ (ap seen new ∙ (pushed ∙ ap (λ b. seen m.entries ++ (b, c.args.what) ∷ []) bytes)))
      | in-Err w ↦ rw w.result-is tt
    ]

pub returns-clause-length : goal.returns-clause-length
returns-clause-length c =
    let m = c.args.symbols.now in
    let bytes = c.in_ok-owned.ensures.ok in
    let none : get_by_text m (string_bytes c.in_ok-owned.owned) ≡ None = ap (get_by_text m) bytes
    ∙ c.requires in
    let new = insert_entry-new string_eq m c.in_ok-owned.owned c.args.what none in
    elim c.match-insert.branch [
      | in-Ok w ↦ rw w.result-is
          (ap length w.in-Ok.ensures.entries
          ∙ (ap length new ∙ length-append m.entries ((c.in_ok-owned.owned, c.args.what) ∷ [])))
      | in-Err w ↦ rw w.result-is tt
    ]
