-- The name of a step is found among those whose words begin with its first letter.
use Rattle.std.proofs.Common.{◌≡◌, ℕ, List, [], ◌∷◌, length, find, None, bytes_eq, refl, sym}
use Rattle.std.proofs.Common.{arith}
use Rattle.sq_cert_words.proofs.Beginnings.{found_by_letter}
use Rattle.sq_cert_steps.specs.Names.{name_text, step_names, names_beginning, name_written}

pub name_by_letter : (text : List ℕ) (c : ℕ) (cs : List ℕ) → text ≡ c ∷ cs
    → name_written text ≡ find (λ n. bytes_eq (name_text n) text) (names_beginning c)
unfolding name_written
name_by_letter text c cs begins = rw begins (sym (found_by_letter name_text step_names c cs))

pub name_of_nothing : (text : List ℕ) → length text ≡ 0 → name_written text ≡ None
unfolding name_written
name_of_nothing [] none = refl
name_of_nothing (c ∷ cs) none = absurd (omega arith)
