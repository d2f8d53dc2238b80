pub mod Characters
pub mod Lexemes
pub mod Standing
pub mod Faults
pub mod Answers
pub mod Pieces
pub mod Lex
pub mod Gathered
