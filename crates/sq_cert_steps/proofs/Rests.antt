-- The arguments that go to the end of a line.
use Rattle.std.proofs.Common.{◌≡◌, ◌≢◌, ◌<◌, ◌≤◌, ℕ, zero, suc, List, [], ◌∷◌, ◌++◌, map}
use Rattle.std.proofs.Common.{length, Some, None, refl, sym, ap, ◌∙◌}
use Rattle.std.proofs.Common.{length-append, arith, Bool, true, false, IsTrue, Result, Ok, Err}
use Rattle.std.proofs.Common.{IsErrAnd, subst}
use Rattle.std.proofs.lemmas.List.{map-append}
use Rattle.sq_cert_steps.specs.Lines.{Argument, number, index_value, time_value, time, term}
use Rattle.sq_cert_steps.specs.Lines.{direction}
use Rattle.sq_cert_steps.specs.Lines.{target, hand, macro, Spot, at, written, argument_words}
use Rattle.sq_cert_words.specs.Spelling.{ts_words, term_words}
use Rattle.sq_term.specs.Syntax.{TsTree, free, bound, init, pred, action, TermTree, name, fun}
use Rattle.sq_term.specs.Syntax.{macro as macro-term, schema, diff, le, ts_eq, idx_eq, happens, all}
use Rattle.sq_term.specs.Syntax.{some, find}
use Rattle.sq_cert_words.specs.declared.fault.CertFault.{CertFault}
use Rattle.sq_cert_words.specs.declared.fault.CertFault.TheVariants.{BadStep, NoMemory}
use Rattle.sq_cert_words.specs.Reads.{Found, followed, Fails, Reads}
use Rattle.sq_cert_steps.specs.Reading.{Kind, of_term, argument, arguments_on}
use Rattle.sq_cert_steps.specs.Reading.{term_spot}
use Rattle.sq_cert_steps.proofs.ArgumentLaws.{argument_tells}

-- an argument has a word
ts_words-some : (t : TsTree) → 0 < length (ts_words t)
ts_words-some (free k) = omega arith
ts_words-some (bound k) = omega arith
ts_words-some init = omega arith
ts_words-some (pred t) = omega arith
ts_words-some (action a is) = omega arith

term_words-some : (t : TermTree) → 0 < length (term_words t)
term_words-some (name n is) = omega arith
term_words-some (fun f is ts) = omega arith
term_words-some (macro-term m t) = omega arith
term_words-some (schema k) = omega arith
term_words-some (diff a b) = omega arith
term_words-some (le a b) = omega arith
term_words-some (ts_eq a b) = omega arith
term_words-some (idx_eq i j) = omega arith
term_words-some (happens t) = omega arith
term_words-some (all s t) = omega arith
term_words-some (some s t) = omega arith
term_words-some (find c a b e) = omega arith

pub argument_words-some : (a : Argument) → 0 < length (argument_words a)
argument_words-some (number n) = omega arith
argument_words-some (index_value a) = omega arith
argument_words-some (time_value a) = omega arith
argument_words-some (time (at p k)) = omega arith
argument_words-some (time (written t)) = ts_words-some t
argument_words-some (term (at p k)) = omega arith
argument_words-some (term (written t)) = term_words-some t
argument_words-some (direction d) = omega arith
argument_words-some (target t) = omega arith
argument_words-some (hand h) = omega arith
argument_words-some (macro m) = omega arith

pub argument-shorter : (k : Kind) (ws : List (List ℕ)) (a : Argument) (r : List (List ℕ))
    → argument k ws ≡ Some (a, r) → length r < length ws
argument-shorter k ws a r e =
    let told = argument_tells k ws a r e in
    omega (arith, ap length told.words, length-append (argument_words a) r, argument_words-some a)

-- the number that bounds the arguments does not matter, where it is large enough
pub enough : (k : Kind) (front : List Argument) (n m : ℕ) (ws : List (List ℕ)) → length ws ≤ n
    → length ws ≤ m → arguments_on k front n ws ≡ arguments_on k front m ws
unfolding arguments_on
enough k front n m [] hn hm = refl
enough k front zero m (w ∷ ws) hn hm = absurd (omega arith)
enough k front (suc n) zero (w ∷ ws) hn hm = absurd (omega arith)
enough k front (suc n) (suc m) (w ∷ ws) hn hm =
    by (argument k (w ∷ ws)) refl (λ a r small. enough k (front ++ a ∷ []) n m r small)
  where
    by : (o : Found Argument) → argument k (w ∷ ws) ≡ o
        → ((a : Argument) (r : List (List ℕ)) → length r ≤ n → length r ≤ m
        → arguments_on k (front ++ a ∷ []) n r ≡ arguments_on k (front ++ a ∷ []) m r)
        → followed o (λ a r. arguments_on k (front ++ a ∷ []) n r)
        ≡ followed o (λ a r. arguments_on k (front ++ a ∷ []) m r)
    by None f go = refl
    by (Some p) f go =
        let less = argument-shorter k (w ∷ ws) p.0 p.1 f in
        go p.0 p.1 (omega arith) (omega arith)

pub on_more : (k : Kind) (front : List Argument) (ws : List (List ℕ)) → ws ≢ []
    → arguments_on k front (length ws) ws
    ≡ followed (argument k ws) (λ a r. arguments_on k (front ++ a ∷ []) (length r) r)
unfolding arguments_on
on_more k front [] filled = absurd (filled refl)
on_more k front (w ∷ ws) filled = by (argument k (w ∷ ws)) refl
  where
    by : (o : Found Argument) → argument k (w ∷ ws) ≡ o
        → followed o (λ a r. arguments_on k (front ++ a ∷ []) (length ws) r)
        ≡ followed o (λ a r. arguments_on k (front ++ a ∷ []) (length r) r)
    by None f = refl
    by (Some p) f =
        let less = argument-shorter k (w ∷ ws) p.0 p.1 f in
        enough k (front ++ p.0 ∷ []) (length ws) (length p.1) p.1 (omega arith) (omega arith)

-- one turn of the loop, a refusal in it, and its end
pub rest-turn : {A : Type 0} (f : A → Argument) (k : Kind) (read more : List A) (a : A)
    (ws r : List (List ℕ)) (whole : Found (List Argument))
    → ws ≢ [] → more ≡ read ++ a ∷ [] → argument k ws ≡ Some (f a, r)
    → arguments_on k (map f read) (length ws) ws ≡ whole
    → arguments_on k (map f more) (length r) r ≡ whole
rest-turn f k read more a ws r whole filled pushed found same =
    let longer : map f more ≡ map f read ++ f a ∷ [] =
    ap (map f) pushed ∙ map-append f read (a ∷ []) in
    ap (λ x. arguments_on k x (length r) r) longer
    ∙ sym (on_more k (map f read) ws filled
    ∙ ap (λ m. followed m (λ a r. arguments_on k (map f read ++ a ∷ []) (length r) r)) found)
    ∙ same

pub rest-fault : {A : Type 0} (f : A → Argument) (k : Kind) (read : List A) (ws : List (List ℕ))
    (whole : Found (List Argument))
    → ws ≢ [] → argument k ws ≡ None → arguments_on k (map f read) (length ws) ws ≡ whole
    → whole ≡ None
rest-fault f k read ws whole filled none same =
    sym same ∙ on_more k (map f read) ws filled
    ∙ ap (λ m. followed m (λ a r. arguments_on k (map f read ++ a ∷ []) (length r) r)) none

pub rest-end : (k : Kind) (front : List Argument) (ws : List (List ℕ))
    (whole : Found (List Argument))
    → ws ≡ [] → arguments_on k front (length ws) ws ≡ whole → whole ≡ Some (front, ws)
unfolding arguments_on
rest-end k front [] whole none same = sym same
rest-end k front (w ∷ ws) whole none same = cc

-- the same where it is said of the answers of calls
pub some_words : (b : Bool) (ws : List (List ℕ)) → b ≡ false
    → (IsTrue b → ws ≡ []) × (ws ≡ [] → IsTrue b) → ws ≢ []
some_words b ws test h none = let yes : b ≡ true = h.1 none in cc

pub rest-fails : {A : Type 0} (f : A → Argument) (k : Kind) (read : List A) (ws : List (List ℕ))
    (whole : Found (List Argument)) (e : CertFault) → ws ≢ []
    → arguments_on k (map f read) (length ws) ws ≡ whole → Fails e (argument k ws) → Fails e whole
rest-fails f k read ws whole BadStep filled same none =
    rest-fault f k read ws whole filled none same
rest-fails f k read ws whole NoMemory filled same none = tt

pub err_reads : {A B : Type 0} (view : A → B) (r : Result A CertFault) (e : CertFault)
    (left : List (List ℕ)) (found : Found B) → IsErrAnd r (λ x. x ≡ e) → Fails e found
    → Reads view r left found
err_reads view (Ok a) e left found same fails = absurd same
err_reads view (Err x) e left found same fails = subst (λ y. Fails y found) (sym same) fails

-- a term that is read is an argument
pub term_argument : (ws r : List (List ℕ)) (s : Spot TermTree) → term_spot ws ≡ Some (s, r)
    → argument of_term ws ≡ Some (term s, r)
term_argument ws r s found = ap (λ m. followed m (λ a q. Some (term a, q))) found

pub term_fails : (ws : List (List ℕ)) (e : CertFault) → Fails e (term_spot ws)
    → Fails e (argument of_term ws)
term_fails ws BadStep none = ap (λ m. followed m (λ a q. Some (term a, q))) none
term_fails ws NoMemory none = tt

pub ruleset rest_rules = (rest-turn, rest-fault, rest-end, argument-shorter)
