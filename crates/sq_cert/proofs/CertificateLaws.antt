-- A certificate is that of one list of blocks, and a text is refused for one cause.
use Rattle.std.proofs.Common.{◌≡◌, ◌≢◌, ◌+◌, ℕ, true, List, [], ◌∷◌, ◌++◌, length, refl}
use Rattle.std.proofs.Common.{sym, ap, ◌∙◌, subst, append_assoc, append-nil, length-append, arith}
use Rattle.std.proofs.lemmas.List.{append_cancel_left}
use Rattle.sq_cert.specs.declared.fault.ReadFault.{ReadFault}
use Rattle.sq_cert.specs.declared.fault.ReadFault.TheVariants.{Truncated, Trailing, BadStep}
use Rattle.sq_cert.specs.declared.fault.ReadFault.TheVariants.{NoMemory}
use Rattle.sq_cert.specs.Certificates.{Block, lines_text, certificate_lines, certificate}
use Rattle.sq_cert.specs.Certificates.{are_spelled}
use Rattle.sq_cert.specs.Refusals.{GoesOn, IsTruncated, IsTrailing, IsBadStep, IsRefused}
use Rattle.sq_cert.proofs.LineLists.{AreLines, no_newline, are_lines-append, are_lines-front}
use Rattle.sq_cert.proofs.LineLists.{lines_text-append, lines_front, front_of, Front, longer}
use Rattle.sq_cert.proofs.LineLists.{shorter}
use Rattle.sq_cert.proofs.LineLists.{Last, here, before, last_of}
use Rattle.sq_cert.proofs.BlockLists.{certificate_are_lines, certificate_alone}

-- ---- the lines at the front

open_are_lines : (front : List (List ℕ)) → GoesOn front → AreLines front
open_are_lines front g =
    are_lines-front front (g.next ∷ g.more)
    (subst AreLines g.lines (certificate_are_lines g.blocks g.spelled))

-- the whole lines up to the one that is refused
up_to_are_lines : (text : List ℕ) (n : ℕ) (b : IsBadStep text n) → AreLines (b.front ++ b.line ∷ [])
up_to_are_lines text n b =
    are_lines-append b.front (b.line ∷ []) (open_are_lines b.front b.open_front)
    (no_newline b.line b.one_line, tt)

up_to_whole : (text : List ℕ) (n : ℕ) (b : IsBadStep text n)
    → text ≡ lines_text (b.front ++ b.line ∷ []) ++ b.rest
up_to_whole text n b =
    b.whole ∙ ap (λ x. lines_text b.front ++ x) (sym (append_assoc b.line (10 ∷ []) b.rest))
    ∙ sym (append_assoc (lines_text b.front) (b.line ++ 10 ∷ []) b.rest)
    ∙ ap (λ x. x ++ b.rest) (sym (lines_text-append b.front (b.line ∷ [])))

-- lines that go on have no whole certificate at their front
not_whole : (cs : List Block) (front more : List (List ℕ)) → are_spelled cs ≡ true → GoesOn front
    → front ≢ certificate_lines cs ++ more
not_whole cs front more h g e =
    let lines : certificate_lines g.blocks ≡ certificate_lines cs ++ (more ++ g.next ∷ g.more) =
    g.lines ∙ ap (λ x. x ++ g.next ∷ g.more) e
    ∙ append_assoc (certificate_lines cs) more (g.next ∷ g.more) in
    some more (certificate_alone g.blocks cs (more ++ g.next ∷ g.more) g.spelled h lines).1
  where
    some : (ls : List (List ℕ)) → ls ++ g.next ∷ g.more ≢ []
    some [] q = cc
    some (l ∷ ls) q = cc

-- nor the line that is refused behind others
not_refused : (text : List ℕ) (n : ℕ) (b : IsBadStep text n) (front more : List (List ℕ))
    → GoesOn front → front ≢ (b.front ++ b.line ∷ []) ++ more
not_refused text n b front more g e =
    b.refused g.blocks (more ++ g.next ∷ g.more) g.spelled
    (g.lines ∙ ap (λ x. x ++ g.next ∷ g.more) e
    ∙ append_assoc (b.front ++ b.line ∷ []) more (g.next ∷ g.more)
    ∙ append_assoc b.front (b.line ∷ []) (more ++ g.next ∷ g.more))

-- ---- each cause, and a whole certificate at the front

whole_or_truncated : (cs : List Block) (text rest : List ℕ) → are_spelled cs ≡ true
    → text ≡ certificate cs ++ rest → IsTruncated text → ⊥
whole_or_truncated cs text rest h whole t =
    let at =
    lines_front t.front (certificate_lines cs) t.rest rest (open_are_lines t.front t.open_front)
    (certificate_are_lines cs h) (no_newline t.rest t.unfinished) (sym t.whole ∙ whole) in
    not_whole cs t.front at.0 h t.open_front at.1

whole_or_bad : (cs : List Block) (text rest : List ℕ) (n : ℕ) → are_spelled cs ≡ true
    → text ≡ certificate cs ++ rest → IsBadStep text n → ⊥
whole_or_bad cs text rest n h whole b =
    by (front_of (b.front ++ b.line ∷ []) (certificate_lines cs) b.rest rest
    (up_to_are_lines text n b) (certificate_are_lines cs h) (sym (up_to_whole text n b) ∙ whole))
  where
    at_last : Last b.front (certificate_lines cs) b.line → ⊥
    at_last (here e) = b.refused cs [] h (sym e)
    at_last (before more e) = not_whole cs b.front more h b.open_front e

    by : Front (b.front ++ b.line ∷ []) (certificate_lines cs) → ⊥
    by (longer more e) = at_last (last_of b.front (certificate_lines cs) more b.line e)
    by (shorter next more e) =
        b.refused cs (next ∷ more) h (e ∙ append_assoc b.front (b.line ∷ []) (next ∷ more))

-- ---- two certificates at the front

one_front : (bs cs : List Block) (r q : List ℕ) → are_spelled bs ≡ true → are_spelled cs ≡ true
    → certificate bs ++ r ≡ certificate cs ++ q → bs ≡ cs
one_front bs cs r q hb hc e =
    by (front_of (certificate_lines bs) (certificate_lines cs) r q (certificate_are_lines bs hb)
    (certificate_are_lines cs hc) e)
  where
    by : Front (certificate_lines bs) (certificate_lines cs) → bs ≡ cs
    by (longer more is) = (certificate_alone bs cs more hb hc is).0
    by (shorter next more is) = sym ((certificate_alone cs bs (next ∷ more) hc hb is).0)

-- a further byte makes another text of it
whole_or_trailing : (cs : List Block) (n : ℕ) → are_spelled cs ≡ true
    → IsTrailing (certificate cs) n → ⊥
whole_or_trailing cs n h t =
    let same =
    one_front cs t.blocks [] t.rest h t.spelled (append-nil (certificate cs) ∙ t.whole) in
    t.some (sym (append_cancel_left (certificate t.blocks) [] t.rest
    (append-nil (certificate t.blocks) ∙ ap certificate (sym same) ∙ t.whole)))

-- ---- the laws

pub certificate-same : (bs cs : List Block) → are_spelled bs ≡ true → are_spelled cs ≡ true
    → certificate bs ≡ certificate cs → bs ≡ cs
certificate-same bs cs hb hc e =
    one_front bs cs [] [] hb hc
    (append-nil (certificate bs) ∙ e ∙ sym (append-nil (certificate cs)))

pub certificate-refused : (bs : List Block) (e : ReadFault) → are_spelled bs ≡ true
    → IsRefused (certificate bs) e → e ≡ NoMemory
certificate-refused bs Truncated h t =
    absurd (whole_or_truncated bs (certificate bs) [] h (sym (append-nil (certificate bs))) t)
certificate-refused bs (Trailing n) h t = absurd (whole_or_trailing bs n h t)
certificate-refused bs (BadStep n) h b =
    absurd (whole_or_bad bs (certificate bs) [] n h (sym (append-nil (certificate bs))) b)
certificate-refused bs NoMemory h r = refl

truncated_or_bad : (text : List ℕ) (n : ℕ) → IsTruncated text → IsBadStep text n → ⊥
truncated_or_bad text n t b =
    let at =
    lines_front t.front (b.front ++ b.line ∷ []) t.rest b.rest (open_are_lines t.front t.open_front)
    (up_to_are_lines text n b) (no_newline t.rest t.unfinished)
    (sym t.whole ∙ up_to_whole text n b) in
    not_refused text n b t.front at.0 t.open_front at.1

trailing_same : (text : List ℕ) (n k : ℕ) → IsTrailing text n → IsTrailing text k → n ≡ k
trailing_same text n k t s =
    let same = one_front t.blocks s.blocks t.rest s.rest t.spelled s.spelled
    (sym t.whole ∙ s.whole) in
    t.counted ∙ ap (λ bs. length (certificate_lines bs) + 1) same ∙ sym s.counted

bad_same : (text : List ℕ) (n k : ℕ) → IsBadStep text n → IsBadStep text k → n ≡ k
bad_same text n k b d =
    by (front_of (b.front ++ b.line ∷ []) (d.front ++ d.line ∷ []) b.rest d.rest
    (up_to_are_lines text n b) (up_to_are_lines text k d)
    (sym (up_to_whole text n b) ∙ up_to_whole text k d))
  where
    counts : length (b.front ++ b.line ∷ []) ≡ length (d.front ++ d.line ∷ []) → n ≡ k
    counts e =
        omega (
          arith,
          b.counted,
          d.counted,
          length-append b.front (b.line ∷ []),
          length-append d.front (d.line ∷ []),
        )

    ahead : Last b.front (d.front ++ d.line ∷ []) b.line → n ≡ k
    ahead (here e) = counts (ap length e)
    ahead (before more e) = absurd (not_refused text k d b.front more b.open_front e)

    back : Last d.front (b.front ++ b.line ∷ []) d.line → n ≡ k
    back (here e) = counts (sym (ap length e))
    back (before more e) = absurd (not_refused text n b d.front more d.open_front e)

    by : Front (b.front ++ b.line ∷ []) (d.front ++ d.line ∷ []) → n ≡ k
    by (longer more e) = ahead (last_of b.front (d.front ++ d.line ∷ []) more b.line e)
    by (shorter next more e) =
        back (last_of d.front (b.front ++ b.line ∷ []) (next ∷ more) d.line e)

pub refused-same : (text : List ℕ) (e f : ReadFault) → IsRefused text e → IsRefused text f
    → e ≢ NoMemory → f ≢ NoMemory → e ≡ f
refused-same text NoMemory f a b some other = absurd (some refl)
refused-same text Truncated NoMemory a b some other = absurd (other refl)
refused-same text Truncated Truncated a b some other = refl
refused-same text Truncated (Trailing k) a b some other =
    absurd (whole_or_truncated b.blocks text b.rest b.spelled b.whole a)
refused-same text Truncated (BadStep k) a b some other = absurd (truncated_or_bad text k a b)
refused-same text (Trailing n) NoMemory a b some other = absurd (other refl)
refused-same text (Trailing n) Truncated a b some other =
    absurd (whole_or_truncated a.blocks text a.rest a.spelled a.whole b)
refused-same text (Trailing n) (Trailing k) a b some other =
    ap Trailing (trailing_same text n k a b)
refused-same text (Trailing n) (BadStep k) a b some other =
    absurd (whole_or_bad a.blocks text a.rest k a.spelled a.whole b)
refused-same text (BadStep n) NoMemory a b some other = absurd (other refl)
refused-same text (BadStep n) Truncated a b some other = absurd (truncated_or_bad text n b a)
refused-same text (BadStep n) (Trailing k) a b some other =
    absurd (whole_or_bad b.blocks text b.rest n b.spelled b.whole a)
refused-same text (BadStep n) (BadStep k) a b some other = ap BadStep (bad_same text n k a b)
