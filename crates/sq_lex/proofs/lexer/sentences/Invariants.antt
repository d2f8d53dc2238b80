use Rattle.std.proofs.Common.{◌≡◌, ◌+◌, length, drop, map, []}
use denote.Text.{Utf8}
use denote.Shadow.{shadow}
use Rattle.sq_lex.specs.Lexemes.{line_of, lexeme_of, line_at}
use Rattle.sq_lex.specs.Lex.{joined, cut_all, lexemes}
use Rattle.sq_lex.proofs.Gathering.{IsFirstLine}
use Rattle.sq_lex.proofs.lexer.sentences.Given as goal

-- the parts: text, read, rest, places, line, first
abbrev pub invariant-pieces : goal.invariant-pieces
invariant-pieces l =
    shadow (Utf8 l.rest)
    × (joined (map line_of l.found.done)
    (cut_all l.text (map lexeme_of l.found.tokens) (lexemes 0 l.at l.rest))
    ≡ cut_all l.text [] (lexemes 0 0 l.text))
    × (l.rest ≡ drop l.at l.text)
    × (l.at + length l.rest ≡ length l.text)
    × (l.line ≡ line_at l.text l.at)
    × IsFirstLine l.text (map lexeme_of l.found.tokens) l.found.line

abbrev pub decreases-pieces : goal.decreases-pieces
decreases-pieces l = length l.rest
