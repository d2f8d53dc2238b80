-- What `parse_sentence` answers of the tokens of a sentence.
use Rattle.std.specs.Prelude.{◌≤◌, ◌<◌, List}
use Rattle.sq_token.specs.Sign.{Sign}
use Rattle.sq_ast.specs.Forms.{proof, qed, SentenceTree, sentence, sentence_height, IsSentenceOf}
use Rattle.sq_ast.specs.Forms.{SentenceDeep}
use Rattle.sq_ast.specs.SentenceTrees.{decl_tree, command_tree}
use Rattle.sq_parse_file.specs.declared.item.Item.{Item}
use Rattle.sq_parse_file.specs.declared.item.Item.TheVariants as item

abbrev pub item_tree : Item → SentenceTree
item_tree (item.Decl d) = decl_tree d
item_tree item.Proof = sentence proof tt
item_tree item.Qed = sentence qed tt
item_tree (item.Command c) = command_tree c

-- the tokens have this tree
pub record IsItem (t : SentenceTree) (ts : List Sign) : Type 0 where
  pub sentence_is : IsSentenceOf t ts
  pub depth : sentence_height t ≤ 256
  pub shallow : SentenceDeep ts → ⊥

-- they have none
pub record HasNoTree (ts : List Sign) : Type 0 where
  pub none : (t : SentenceTree) → IsSentenceOf t ts → ⊥
  pub shallow : SentenceDeep ts → ⊥

-- the first place runs deep, or the only tree is too deep
pub data IsTooDeep (ts : List Sign) : Type 0 where
  first_place : SentenceDeep ts → IsTooDeep ts
  only_tree : (t : SentenceTree) → IsSentenceOf t ts → 256 < sentence_height t → IsTooDeep ts
