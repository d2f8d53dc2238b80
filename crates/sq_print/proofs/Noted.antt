-- One more declaration in front of those whose places are told.
use Rattle.std.proofs.Common.{◌≡◌, ◌<◌, ◌+◌, ℕ, zero, suc, Bool, if◌then◌else◌, List, [], ◌∷◌, Some}
use Rattle.std.proofs.Common.{option_map, slice_get, length, drop, refl, sym, ap, ◌∙◌, arith}
use Rattle.sq_sym.specs.declared.symbol.Symbol.{Symbol}
use Rattle.sq_print.specs.declared.spelling.Spellings.{Spellings}
use Rattle.sq_print.specs.Spellings.{place_from, TellsFrom, Notes, passes}
use Rattle.sq_print.specs.Names.{is_name, is_function, is_action}

-- the places from a place on, by the declaration that stands there
pub place_step : (at k : ℕ) (test : Symbol → Bool) (ds : List (List ℕ × Symbol)) → k < length ds
    → place_from at test (drop k ds)
    ≡ (if passes test (option_map (λ d. d.1) (slice_get ds k)) then Some at
    else place_from (at + 1) test (drop (k + 1) ds))
place_step at k test [] h = absurd (omega arith)
place_step at zero test (d ∷ ds) h = refl
place_step at (suc k) test (d ∷ ds) h = let e : suc k + 1 ≡ suc (k + 1) =
    omega arith in rw e (place_step at k test ds (omega arith))

pub noted : (at : ℕ) (ds : List (List ℕ × Symbol)) (system : ℕ) (old new : Spellings)
    → at < length ds
    → TellsFrom (at + 1) (drop (at + 1) ds) system old
    → Notes old new (option_map (λ d. d.1) (slice_get ds at)) system at
    → TellsFrom at (drop at ds) system new
noted at ds system old new h t n = record {
  names = λ q. n.names q
      ∙ (ap (λ r. (if passes (is_name q) (option_map (λ d. d.1) (slice_get ds at)) then Some at
      else r))
      (t.names q) ∙ sym (place_step at at (is_name q) ds h));
  functions =
      λ q. n.functions q
      ∙ (ap (λ r. (if passes (is_function q) (option_map (λ d. d.1) (slice_get ds at)) then Some at
      else r)) (t.functions q) ∙ sym (place_step at at (is_function q) ds h));
  actions =
      λ q. n.actions q
      ∙ (ap (λ r. (if passes (is_action system q) (option_map (λ d. d.1) (slice_get ds at))
      then Some at else r)) (t.actions q) ∙ sym (place_step at at (is_action system q) ds h));
}
