-- An `else` behind a process with an open `if` or `find` belongs to it.
use Rattle.std.proofs.Common.{◌≡◌, ◌∷◌, ◌++◌, sym, ap, ◌∙◌, append_assoc, ◌⊎◌, inl, inr}
use Rattle.sq_token.specs.declared.kind.Reserved.TheVariants as r
use Rattle.sq_token.specs.declared.kind.Punctuation.TheVariants as p
use Rattle.sq_token.specs.Sign.{word, reserved, mark}
use Rattle.sq_ast.specs.Grammar.{spelled, names_spelled}
use Rattle.sq_ast.specs.ProcTree.{ProcTree, null, new, receive, receive_then, send, send_then}
use Rattle.sq_ast.specs.ProcTree.{branch, branch_else, find, find_else, define, replicate, label}
use Rattle.sq_ast.specs.ProcTree.{call, call_with, parallel}
use Rattle.sq_ast.specs.ProcGrammar.{process_spelled, IsOpen, IsProcess}

pub open_or_not : (a : ProcTree) → IsOpen a ⊎ (IsOpen a → ⊥)
open_or_not null = inr (λ h. h)
open_or_not (new n a) = open_or_not a
open_or_not (receive c x) = inr (λ h. h)
open_or_not (receive_then c x a) = open_or_not a
open_or_not (send c f) = inr (λ h. h)
open_or_not (send_then c f a) = open_or_not a
open_or_not (branch f a) = inl tt
open_or_not (branch_else f a b) = open_or_not b
open_or_not (find ns f a) = inl tt
open_or_not (find_else ns f a b) = open_or_not b
open_or_not (define n f a) = open_or_not a
open_or_not (replicate n a) = open_or_not a
open_or_not (label n a) = open_or_not a
open_or_not (call n) = inr (λ h. h)
open_or_not (call_with n ns) = inr (λ h. h)
open_or_not (parallel ps) = inr (λ h. h)

-- a process whose tokens are those of a, an `else` and those of b
pub record Filled (a b : ProcTree) : Type 0 where
  pub tree : ProcTree
  pub built : IsProcess tree
  pub spelled_is : process_spelled tree ≡ process_spelled a ++ reserved r.Else ∷ process_spelled b

pub fill : (a b : ProcTree) → IsProcess a → IsProcess b → IsOpen a → Filled a b
fill null b h g o = absurd o
fill (new n a) b h g o =
    let t = fill a b h g o in
    record {
      tree = new n t.tree;
      built = t.built;
      spelled_is =
          ap (λ z. reserved r.New ∷ word n ∷ mark p.Semicolon ∷ z) t.spelled_is;
    }
fill (receive c x) b h g o = absurd o
fill (receive_then c x a) b h g o =
    let t = fill a b h g o in
    record {
      tree = receive_then c x t.tree;
      built = t.built;
      spelled_is = ap (λ z. reserved r.In ∷ mark p.OpenParenthesis ∷ word c ∷ mark p.Comma ∷ word x
          ∷ mark p.CloseParenthesis ∷ mark p.Semicolon ∷ z) t.spelled_is;
    }
fill (send c f) b h g o = absurd o
fill (send_then c f a) b h g o =
    let t = fill a b h.1 g o in
    let else_b = reserved r.Else ∷ process_spelled b in
    record {
      tree = send_then c f t.tree;
      built = (h.0, t.built);
      spelled_is =
          ap (λ z. reserved r.Out ∷ mark p.OpenParenthesis ∷ word c ∷ mark p.Comma
          ∷ (spelled f ++ mark p.CloseParenthesis ∷ mark p.Semicolon ∷ z)) t.spelled_is
          ∙ ap (λ z. reserved r.Out ∷ mark p.OpenParenthesis ∷ word c ∷ mark p.Comma ∷ z)
          (sym (append_assoc (spelled f) (mark p.CloseParenthesis ∷ mark p.Semicolon
          ∷ process_spelled a) else_b));
    }
fill (branch f a) b h g o = by (open_or_not a) (λ i. fill a b h.1 g i)
  where
    rejoin : process_spelled (branch f a) ++ reserved r.Else ∷ process_spelled b ≡ reserved r.If
        ∷ (spelled f ++ reserved r.Then
        ∷ (process_spelled a ++ reserved r.Else ∷ process_spelled b))
    rejoin = ap (λ z. reserved r.If ∷ z)
        (append_assoc (spelled f) (reserved r.Then ∷ process_spelled a)
        (reserved r.Else ∷ process_spelled b))

    by : IsOpen a ⊎ (IsOpen a → ⊥) → (IsOpen a → Filled a b) → Filled (branch f a) b
    by (inl i) inner =
        let t = inner i in
        record {
          tree = branch f t.tree;
          built = (h.0, t.built);
          spelled_is =
              ap (λ z. reserved r.If ∷ (spelled f ++ reserved r.Then ∷ z)) t.spelled_is
              ∙ sym rejoin;
        }
    by (inr c) inner = record {
      tree = branch_else f a b;
      built = (h.0, h.1, c, g);
      spelled_is =
          sym rejoin;
    }
fill (branch_else f a d) b h g o =
    let t = fill d b h.3 g o in
    let else_b = reserved r.Else ∷ process_spelled b in
    let else_d = reserved r.Else ∷ process_spelled d in
    record {
      tree = branch_else f a t.tree;
      built = (h.0, h.1, h.2, t.built);
      spelled_is =
          ap (λ z. reserved r.If
          ∷ (spelled f ++ reserved r.Then ∷ (process_spelled a ++ reserved r.Else ∷ z)))
          t.spelled_is
          ∙ (ap (λ z. reserved r.If ∷ (spelled f ++ reserved r.Then ∷ z))
          (sym (append_assoc (process_spelled a) else_d else_b))
          ∙ ap (λ z. reserved r.If ∷ z)
          (sym (append_assoc (spelled f) (reserved r.Then ∷ (process_spelled a ++ else_d))
          else_b)));
    }
fill (find ns f a) b h g o = by (open_or_not a) (λ i. fill a b h.2 g i)
  where
    rejoin : process_spelled (find ns f a) ++ reserved r.Else ∷ process_spelled b ≡ reserved r.Find
        ∷ (names_spelled ns ++ reserved r.Such ∷ reserved r.That
        ∷ (spelled f ++ reserved r.In ∷ (process_spelled a ++ reserved r.Else ∷ process_spelled b)))
    rejoin =
        ap (λ z. reserved r.Find ∷ z)
        (append_assoc (names_spelled ns)
        (reserved r.Such ∷ reserved r.That ∷ (spelled f ++ reserved r.In ∷ process_spelled a))
        (reserved r.Else ∷ process_spelled b)
        ∙ ap (λ z. names_spelled ns ++ reserved r.Such ∷ reserved r.That ∷ z)
        (append_assoc (spelled f) (reserved r.In ∷ process_spelled a)
        (reserved r.Else ∷ process_spelled b)))

    by : IsOpen a ⊎ (IsOpen a → ⊥) → (IsOpen a → Filled a b) → Filled (find ns f a) b
    by (inl i) inner =
        let t = inner i in
        record {
          tree = find ns f t.tree;
          built = (h.0, h.1, t.built);
          spelled_is = ap (λ z. reserved r.Find
              ∷ (names_spelled ns ++ reserved r.Such ∷ reserved r.That
              ∷ (spelled f ++ reserved r.In ∷ z))) t.spelled_is ∙ sym rejoin;
        }
    by (inr c) inner = record {
      tree = find_else ns f a b;
      built =
          (h.0, h.1, h.2, c, g);
      spelled_is = sym rejoin;
    }
fill (find_else ns f a d) b h g o =
    let t = fill d b h.4 g o in
    let else_b = reserved r.Else ∷ process_spelled b in
    let else_d = reserved r.Else ∷ process_spelled d in
    record {
      tree = find_else ns f a t.tree;
      built = (h.0, h.1, h.2, h.3, t.built);
      spelled_is =
          ap (λ z. reserved r.Find
          ∷ (names_spelled ns ++ reserved r.Such ∷ reserved r.That
          ∷ (spelled f ++ reserved r.In ∷ (process_spelled a ++ reserved r.Else ∷ z))))
          t.spelled_is
          ∙ (ap (λ z. reserved r.Find
          ∷ (names_spelled ns ++ reserved r.Such ∷ reserved r.That
          ∷ (spelled f ++ reserved r.In ∷ z)))
          (sym (append_assoc (process_spelled a) else_d else_b))
          ∙ (ap (λ z. reserved r.Find ∷ (names_spelled ns ++ reserved r.Such ∷ reserved r.That ∷ z))
          (sym (append_assoc (spelled f) (reserved r.In ∷ (process_spelled a ++ else_d))
          else_b))
          ∙ ap (λ z. reserved r.Find ∷ z)
          (sym (append_assoc (names_spelled ns)
          (reserved r.Such ∷ reserved r.That
          ∷ (spelled f ++ reserved r.In ∷ (process_spelled a ++ else_d))) else_b))));
    }
fill (define n f a) b h g o =
    let t = fill a b h.1 g o in
    let else_b = reserved r.Else ∷ process_spelled b in
    record {
      tree = define n f t.tree;
      built = (h.0, t.built);
      spelled_is =
          ap (λ z. reserved r.Let ∷ word n ∷ mark p.Equals ∷ (spelled f ++ reserved r.In ∷ z))
          t.spelled_is
          ∙ ap (λ z. reserved r.Let ∷ word n ∷ mark p.Equals ∷ z)
          (sym (append_assoc (spelled f) (reserved r.In ∷ process_spelled a) else_b));
    }
fill (replicate n a) b h g o =
    let t = fill a b h g o in
    record {
      tree = replicate n t.tree;
      built = t.built;
      spelled_is =
          ap (λ z. mark p.Repeat ∷ word n ∷ z) t.spelled_is;
    }
fill (label n a) b h g o =
    let t = fill a b h g o in
    record {
      tree = label n t.tree;
      built = t.built;
      spelled_is =
          ap (λ z. word n ∷ mark p.Colon ∷ z) t.spelled_is;
    }
fill (call n) b h g o = absurd o
fill (call_with n ns) b h g o = absurd o
fill (parallel ps) b h g o = absurd o
