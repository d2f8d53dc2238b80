-- Declarations with a process at the end are read as their rows say.
use Rattle.std.proofs.Common.{◌≡◌, ℕ, List, [], ◌∷◌, refl, sym, ◌∙◌}
use Rattle.sq_token.specs.declared.kind.Punctuation.TheVariants as p
use Rattle.sq_token.specs.Sign.{Sign, mark}
use Rattle.sq_ast.specs.ProcTree.{ProcTree}
use Rattle.sq_ast.specs.Tree.{Group}
use Rattle.std.specs.Prelude.{Option}
use Rattle.sq_ast.specs.Sentence.{a_process, Element, literal, part, Values}
use Rattle.sq_ast.specs.Forms.{process, system, SentenceTree, sentence}
use Rattle.sq_parse_term.specs.Parse.{Read, deep, none, got, bind, eat}
use Rattle.sq_parse_term.specs.Parse as term
use Rattle.sq_parse_process.specs.Process.{parse_process}
use Rattle.sq_parse_file.specs.Read.{end, read_row, read_kind, read_parameters, read_definition}
use Rattle.sq_parse_file.specs.Read.{read_system, read_process}

bind_twice : {X Y Z : Type 0} (m : Read X) (f : X → List Sign → Read Y)
    (g : Y → List Sign → Read Z) → bind (bind m f) g ≡ bind m (λ x q. bind (f x q) g)
bind_twice deep f g = refl
bind_twice none f g = refl
bind_twice (got x q) f g = refl

abbrev definition : List Element
definition = literal (mark p.Equals) ∷ part a_process ∷ []

module _ (d : ℕ) where
  module _ (h : Values definition → SentenceTree) where
    -- the sentence with these parts, where nothing stands behind them
    abbrev whole : Values definition → List Sign → Read SentenceTree
    whole vs q = bind (end q) (λ _ u. got (h vs) u)

    body_ends : (m : Read ProcTree)
        → bind (bind m (λ t q. bind (read_row d [] q) (λ vs u. got (t, vs) u))) whole
        ≡ bind (bind m (λ t q. bind (end q) (λ _ u. got t u))) (λ t u. got (h (t, tt)) u)
    unfolding read_row
    body_ends deep = refl
    body_ends none = refl
    body_ends (got t []) = refl
    body_ends (got t (s ∷ q)) = refl

    definition_ends : (ts : List Sign) → bind (read_row d definition ts) whole
        ≡ bind (read_definition d ts) (λ t u. got (h (t, tt)) u)
    unfolding read_row
    definition_ends ts = by (eat (mark p.Equals) ts)
      where
        by : (m : Read (Unit {0}))
            → bind (bind m (λ _ q. bind (parse_process d q)
            (λ t u. bind (read_row d [] u) (λ vs v. got (t, vs) v)))) whole
            ≡ bind (bind m (λ _ q. bind (parse_process d q) (λ t u. bind (end u) (λ _ v. got t v))))
            (λ t u. got (h (t, tt)) u)
        by deep = refl
        by none = refl
        by (got x q) = body_ends (parse_process d q)

  pub system_is : (ts : List Sign) → read_system d ts ≡ read_kind d system ts
  unfolding read_row
  system_is ts = by (term.identifier ts)
    where
      by : (m : Read (List ℕ))
          → bind m (λ n q. bind (read_definition d q) (λ t u. got (sentence system (n, (t, tt))) u))
          ≡ bind (bind m (λ n q. bind (read_row d definition q) (λ vs u. got (n, vs) u)))
          (λ vs q. bind (end q) (λ _ u. got (sentence system vs) u))
      by deep = refl
      by none = refl
      by (got n q) = sym (bind_twice (read_row d definition q) (λ vs u. got (n, vs) u)
          (λ vs u. bind (end u) (λ _ v. got (sentence system vs) v))
          ∙ definition_ends (λ vs. sentence system (n, vs)) q)

  pub process_is : (ts : List Sign) → read_process d ts ≡ read_kind d process ts
  unfolding read_row
  process_is ts = by (term.identifier ts)
    where
      behind : (n : List ℕ) (m : Read (Option (List Group)))
          → bind m (λ ps u. bind (read_definition d u)
          (λ t v. got (sentence process (n, (ps, (t, tt)))) v))
          ≡ bind (bind (bind m (λ ps q. bind (read_row d definition q) (λ vs u. got (ps, vs) u)))
          (λ vs u. got (n, vs) u)) (λ vs q. bind (end q) (λ _ u. got (sentence process vs) u))
      behind n deep = refl
      behind n none = refl
      behind n (got ps q) =
          let row = read_row d definition q in
          sym (bind_twice (bind row (λ vs u. got (ps, vs) u)) (λ vs u. got (n, vs) u)
          (λ vs u. bind (end u) (λ _ v. got (sentence process vs) v))
          ∙ (bind_twice row (λ vs u. got (ps, vs) u)
          (λ vs u. bind (end u) (λ _ v. got (sentence process (n, vs)) v))
          ∙ definition_ends (λ vs. sentence process (n, (ps, vs))) q))

      by : (m : Read (List ℕ))
          → bind m (λ n q. bind (read_parameters q)
          (λ ps u. bind (read_definition d u) (λ t v. got (sentence process (n, (ps, (t, tt)))) v)))
          ≡ bind (bind m (λ n q. bind
          (bind (read_parameters q)
          (λ ps u. bind (read_row d definition u) (λ vs v. got (ps, vs) v)))
          (λ vs u. got (n, vs) u))) (λ vs q. bind (end q) (λ _ u. got (sentence process vs) u))
      by deep = refl
      by none = refl
      by (got n q) = behind n (read_parameters q)
