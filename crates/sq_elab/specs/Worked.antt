-- Small processes with what they come to.
use Rattle.std.specs.Prelude.{ℕ, List, [], ◌∷◌, ◌++◌, map, codes, Option, Some, None, Result, Ok}
use Rattle.std.specs.Prelude.{true, false}
use Rattle.sq_base.specs.declared.sort.Sort.TheVariants.{Message, Boolean, Index}
use Rattle.sq_ast.specs.declared.formula.Binary.TheVariants.{Equal}
use Rattle.sq_ast.specs.declared.formula.Constant.TheVariants.{Init}
use Rattle.sq_ast.specs.declared.formula.Quantifier.TheVariants.{Exists}
use Rattle.sq_ast.specs.declared.formula.Unary.TheVariants.{Fst, Snd, OfBool}
use Rattle.sq_ast.specs.declared.formula.MacroWord.TheVariants.{Input}
use Rattle.sq_ast.specs.Tree as f
use Rattle.sq_ast.specs.Tree.{FormulaTree}
use Rattle.sq_ast.specs.ProcTree as p
use Rattle.sq_ast.specs.ProcTree.{ProcTree}
use Rattle.sq_sym.specs.declared.symbol.Symbol.{Symbol}
use Rattle.sq_sym.specs.declared.symbol.Symbol.TheVariants as symbol
use Rattle.sq_term.specs.declared.action.PathStep.{PathStep}
use Rattle.sq_term.specs.declared.action.PathStep.TheVariants.{Side, Rep, Branch, Found, NotFound}
use Rattle.sq_term.specs.declared.action.PathStep.TheVariants.{Done}
use Rattle.sq_term.specs.declared.signature.FunRole.TheVariants.{Hash}
use Rattle.sq_term.specs.declared.term.Idx.{Idx}
use Rattle.sq_term.specs.declared.term.Idx.TheVariants.{Free, Bound}
use Rattle.sq_term.specs.declared.term.Macro.TheVariants as m
use Rattle.sq_term.specs.Formulas as t
use Rattle.sq_term.specs.Symbols.{declared}
use Rattle.sq_term.specs.Syntax.{TermTree, name, fun, macro, action, all, some, cons, nil}
use Rattle.sq_term.specs.Systems.{ActionTree}
use Rattle.sq_typing.specs.Functions.{builtin_functions, plain_function}
use Rattle.sq_elab.specs.declared.fault.ElabFault.{ElabFault}
use Rattle.sq_elab.specs.Inlined.{ProcessTree}
use Rattle.sq_elab.specs.Meanings.{Base}
use Rattle.sq_elab.specs.Outcome.{Elaborated, nodes_of}
use Rattle.sq_elab.specs.Ways.{indices, closed_path}

-- ---- words for writing them

abbrev pub word : List ℕ → FormulaTree
word x = f.name x

abbrev pub of_one : List ℕ → FormulaTree → FormulaTree
of_one g a = f.apply g (f.more a f.none)

abbrev pub of_two : List ℕ → FormulaTree → FormulaTree → FormulaTree
of_two g a b = f.apply g (f.more a (f.more b f.none))

abbrev pub same : FormulaTree → FormulaTree → FormulaTree
same a b = f.binary Equal a b

-- the identifiers
abbrev pub a_ : List ℕ
a_ = codes "A"

abbrev pub c_ : List ℕ
c_ = codes "c"

abbrev pub h_ : List ℕ
h_ = codes "h"

abbrev pub i_ : List ℕ
i_ = codes "i"

abbrev pub j_ : List ℕ
j_ = codes "j"

abbrev pub k_ : List ℕ
k_ = codes "k"

abbrev pub l_ : List ℕ
l_ = codes "L"

abbrev pub n_ : List ℕ
n_ = codes "n"

abbrev pub q_ : List ℕ
q_ = codes "q"

abbrev pub x_ : List ℕ
x_ = codes "x"

abbrev pub y_ : List ℕ
y_ = codes "y"

abbrev pub z_ : List ℕ
z_ = codes "z"

abbrev pub ok_ : List ℕ
ok_ = codes "ok"

abbrev pub parts : ProcTree → ProcTree → ProcTree
parts a b = p.parallel (p.more a (p.more b p.none))

-- ---- the declarations that they stand behind

-- channel c. hash h. name n : message. name k : index -> message. abstract ok : message.
-- abstract q : message -> boolean.
abbrev pub front : List (List ℕ × Symbol)
front =
    (c_, symbol.Channel) ∷ (h_, symbol.Fun 14) ∷ (n_, symbol.Name 0) ∷ (k_, symbol.Name 1)
    ∷ (ok_, symbol.Fun 15) ∷ (q_, symbol.Fun 16) ∷ []

abbrev pub base : List (List ℕ × Symbol) → List ProcessTree → Base
base more processes = record {
  table = front ++ more;
  names = 0 ∷ 1 ∷ [];
  funs = builtin_functions
      ++ record { idx = 0; args = 2; result = Message; role = Hash }
      ∷ plain_function 0 Message ∷ plain_function 1 Boolean ∷ [];
  systems = [];
  processes = processes;
}

-- the terms of these
abbrev pub hash : TermTree → TermTree → TermTree
hash u v = fun (declared 0) [] (cons u (cons v nil))

abbrev pub nonce : TermTree
nonce = name 0 []

abbrev pub ok : TermTree
ok = fun (declared 1) [] nil

abbrev pub key : Idx → TermTree
key i = name 1 (i ∷ [])

abbrev pub holds : TermTree → TermTree
holds u = fun (declared 2) [] (cons u nil)

abbrev pub input : ℕ → List Idx → TermTree
input a is = macro m.Input (action a is)

-- actions, what is declared behind the table of the base, and the indices of new names
abbrev pub gives : List (List ℕ × Symbol) → List ActionTree → List (List ℕ × Symbol) → List ℕ
    → Result Elaborated ElabFault
gives table actions new arities =
    Ok (record { actions = actions; table = table ++ new; names = 0 ∷ 1 ∷ arities })

abbrev pub an_action : ℕ → Option ℕ → List PathStep → TermTree → TermTree → ActionTree
an_action arity parent path cond output = record {
  arity = arity;
  parent = parent;
  path = path;
  cond = cond;
  output = output;
}

-- ---- in(c,x); if q(x) then out(c,x) else out(c,h(x,n))

abbrev pub answering : ProcTree
answering =
    p.receive_then c_ x_
    (p.branch_else (of_one q_ (word x_)) (p.send c_ (word x_))
    (p.send c_ (of_two h_ (word x_) (word n_))))

-- each branch has its own action and its own meaning of x
abbrev pub answering_gives : Result Elaborated ElabFault
answering_gives =
    gives front
    (an_action 0 None (Branch true ∷ Done ∷ []) (holds (input 0 [])) (input 0 [])
    ∷ an_action 0 None (Branch false ∷ Done ∷ []) (t.negation (holds (input 1 [])))
    (hash (input 1 []) nonce) ∷ [])
    ((a_, symbol.Action 0 0) ∷ (codes "A1", symbol.Action 0 1) ∷ []) []

-- ---- in(c,x); in(c,y); out(c,<x,y>)

abbrev pub two_inputs : ProcTree
two_inputs =
    p.receive_then c_ x_ (p.receive_then c_ y_ (p.send c_ (f.pair (word x_) (word y_))))

abbrev pub two_inputs_give : Result Elaborated ElabFault
two_inputs_give =
    gives front
    (an_action 0 None (Done ∷ []) t.truth t.empty
    ∷ an_action 0 (Some 0) (Done ∷ Done ∷ []) t.truth (t.pair (input 0 []) (input 1 [])) ∷ [])
    ((a_, symbol.Action 0 0) ∷ (codes "A1", symbol.Action 0 1) ∷ []) []

-- ---- !_i in(c,x); find j such that k(j) = x in (in(c,y); out(c,<x,y>))

abbrev pub searching : ProcTree
searching =
    p.replicate i_
    (p.receive_then c_ x_
    (p.find (j_ ∷ []) (same (of_one k_ (word j_)) (word x_))
    (p.parallel
    (p.more (p.receive_then c_ y_ (p.send c_ (f.pair (word x_) (word y_)))) p.none))))

-- the input of the action that closes has the index that was found
abbrev pub searching_gives : Result Elaborated ElabFault
searching_gives =
    gives front
    (an_action 2 None (Rep ∷ Found 1 ∷ Done ∷ [])
    (t.equal (key (Free 1)) (input 0 (Free 0 ∷ Free 1 ∷ []))) t.empty
    ∷ an_action 2 (Some 0) (Rep ∷ Found 1 ∷ Done ∷ Done ∷ []) t.truth
    (t.pair (input 0 (Free 0 ∷ Free 1 ∷ [])) (input 1 (Free 0 ∷ Free 1 ∷ [])))
    ∷ an_action 1 None (Rep ∷ NotFound ∷ Done ∷ [])
    (all Index (t.negation (t.equal (key (Bound 0)) (input 2 (Free 0 ∷ []))))) t.empty ∷ [])
    ((a_, symbol.Action 0 0) ∷ (codes "A1", symbol.Action 0 1)
    ∷ (codes "A2", symbol.Action 0 2) ∷ []) []

-- ---- let x = n = ok in if x then out(c,of_bool(x))

abbrev pub deciding : ProcTree
deciding =
    p.define x_ (same (word n_) (word ok_))
    (p.branch (word x_) (p.send c_ (f.unary OfBool (word x_))))

abbrev pub deciding_gives : Result Elaborated ElabFault
deciding_gives =
    gives front
    (an_action 0 None (Branch true ∷ Done ∷ []) (t.equal nonce ok) (t.of_bool (t.equal nonce ok))
    ∷ an_action 0 None (Branch false ∷ Done ∷ []) (t.negation (t.equal nonce ok)) t.empty ∷ [])
    ((a_, symbol.Action 0 0) ∷ (codes "A1", symbol.Action 0 1) ∷ []) []

-- ---- in(c,x); (out(c,x) | out(c,n) | null)

abbrev pub side_by_side : ProcTree
side_by_side =
    p.receive_then c_ x_
    (p.parallel
    (p.more (p.send c_ (word x_)) (p.more (p.send c_ (word n_)) (p.more p.null p.none))))

abbrev pub side_by_side_gives : Result Elaborated ElabFault
side_by_side_gives =
    gives front
    (an_action 0 None (Done ∷ []) t.truth t.empty
    ∷ an_action 0 (Some 0) (Done ∷ Side false ∷ Done ∷ []) t.truth (input 0 [])
    ∷ an_action 0 (Some 0) (Done ∷ Side true ∷ Side false ∷ Done ∷ []) t.truth nonce ∷ [])
    ((a_, symbol.Action 0 0) ∷ (codes "A1", symbol.Action 0 1)
    ∷ (codes "A2", symbol.Action 0 2) ∷ []) []

-- ---- !_i new r; !_j out(c,r), with r written A: `new A`

abbrev pub creating : ProcTree
creating = p.replicate i_ (p.new a_ (p.replicate j_ (p.send c_ (word a_))))

-- the new name has the indices of its own way; it comes before the action, and takes its name
abbrev pub creating_gives : Result Elaborated ElabFault
creating_gives =
    gives front
    (an_action 2 None (Rep ∷ Rep ∷ Done ∷ []) t.truth (name 2 (Free 0 ∷ [])) ∷ [])
    ((a_, symbol.Name 2) ∷ (codes "A1", symbol.Action 0 0) ∷ []) (1 ∷ [])

-- ---- labels: `abstract L1 : message`, and L: (out(c,n) | M: out(c,n) | out(c,n))

abbrev pub with_label : List (List ℕ × Symbol)
with_label = (codes "L1", symbol.Fun 15) ∷ []

abbrev pub labelled : ProcTree
labelled =
    p.label l_
    (p.parallel
    (p.more (p.send c_ (word n_))
    (p.more (p.label (codes "M") (p.send c_ (word n_))) (p.more (p.send c_ (word n_)) p.none))))

abbrev pub labelled_gives : Result Elaborated ElabFault
labelled_gives =
    gives (front ++ with_label)
    (an_action 0 None (Side false ∷ Done ∷ []) t.truth nonce
    ∷ an_action 0 None (Side true ∷ Side false ∷ Done ∷ []) t.truth nonce
    ∷ an_action 0 None (Side true ∷ Side true ∷ Done ∷ []) t.truth nonce ∷ [])
    ((l_, symbol.Action 0 0) ∷ (codes "M", symbol.Action 0 1) ∷ (codes "L2", symbol.Action 0 2)
    ∷ []) []

-- ---- process P(i,j:index) = if exists (i:index), k(i) = k(j) then out(c,k(i)).
-- ---- process Q(j:index) = !_i P(j,i).

abbrev pub process_p : ProcessTree
process_p = record {
  name = codes "P";
  params = i_ ∷ j_ ∷ [];
  body =
      p.branch
      (f.quantified Exists ((i_ ∷ [], Index) ∷ [])
      (same (of_one k_ (word i_)) (of_one k_ (word j_))))
      (p.send c_ (of_one k_ (word i_)));
  sentence = 6;
}

abbrev pub process_q : ProcessTree
process_q = record {
  name = codes "Q";
  params = j_ ∷ [];
  body = p.replicate i_ (p.call_with (codes "P") (j_ ∷ i_ ∷ []));
  sentence = 7;
}

abbrev pub both_processes : List (List ℕ × Symbol)
both_processes = (codes "P", symbol.Process 0) ∷ (codes "Q", symbol.Process 1) ∷ []

-- !_x Q(x)
abbrev pub calling : ProcTree
calling = p.replicate x_ (p.call_with (codes "Q") (x_ ∷ []))

-- P's i is the caller's x, and its j the caller's i; the binder of P hides its own parameter
abbrev pub calling_gives : Result Elaborated ElabFault
calling_gives =
    gives (front ++ both_processes)
    (an_action 2 None (Rep ∷ Rep ∷ Branch true ∷ Done ∷ [])
    (some Index (t.equal (key (Bound 0)) (key (Free 1)))) (key (Free 0))
    ∷ an_action 2 None (Rep ∷ Rep ∷ Branch false ∷ Done ∷ [])
    (t.negation (some Index (t.equal (key (Bound 0)) (key (Free 1))))) t.empty ∷ [])
    ((a_, symbol.Action 0 0) ∷ (codes "A1", symbol.Action 0 1) ∷ []) []

-- ---- Basic Hash: tags and readers, here with the keys k, and ok in place of ko
-- ---- process Tag(i:index) = T: new n; out(c, <n, h(n,k(i))>).
-- ---- process Reader = R: in(c,x); find i such that snd(x) = h(fst(x),k(i)) in out(c,ok)
-- ----     else out(c,n).

abbrev pub tag : ProcessTree
tag = record {
  name = codes "Tag";
  params = i_ ∷ [];
  body =
      p.label (codes "T")
      (p.new n_
      (p.send c_ (f.pair (word n_) (of_two h_ (word n_) (of_one k_ (word i_))))));
  sentence = 6;
}

abbrev pub reader : ProcessTree
reader = record {
  name = codes "Reader";
  params = [];
  body =
      p.label (codes "R")
      (p.receive_then c_ x_
      (p.find_else (i_ ∷ [])
      (same (f.unary Snd (word x_)) (of_two h_ (f.unary Fst (word x_)) (of_one k_ (word i_))))
      (p.send c_ (word ok_)) (p.send c_ (word n_))));
  sentence = 7;
}

abbrev pub tag_and_reader : List (List ℕ × Symbol)
tag_and_reader = (codes "Tag", symbol.Process 0) ∷ (codes "Reader", symbol.Process 1) ∷ []

-- ( !_i !_k Tag(i) | !_j Reader ), with l for k, which is a name here
abbrev pub basic_hash : ProcTree
basic_hash =
    parts (p.replicate i_ (p.replicate l_ (p.call_with (codes "Tag") (i_ ∷ []))))
    (p.replicate j_ (p.call (codes "Reader")))

-- x is what the reader received
abbrev pub is_hashed : TermTree → TermTree → TermTree
is_hashed x k = t.equal (t.second x) (hash (t.first x) k)

-- the actions' counts of indices and paths
abbrev pub counts_and_paths : Base → ProcTree → List (ℕ × List PathStep)
counts_and_paths b q = map (λ n. (indices n.way, closed_path n.way)) (nodes_of b q)

abbrev pub basic_hash_paths : List (ℕ × List PathStep)
basic_hash_paths =
    (2, Side false ∷ Rep ∷ Rep ∷ Done ∷ []) ∷ (2, Side true ∷ Rep ∷ Found 1 ∷ Done ∷ [])
    ∷ (1, Side true ∷ Rep ∷ NotFound ∷ Done ∷ []) ∷ []

-- !_i !_L Tag(i)
abbrev pub tags : ProcTree
tags = p.replicate i_ (p.replicate l_ (p.call_with (codes "Tag") (i_ ∷ [])))

-- the new name n becomes n1, as n is taken
abbrev pub tags_give : Result Elaborated ElabFault
tags_give =
    gives (front ++ tag_and_reader)
    (an_action 2 None (Rep ∷ Rep ∷ Done ∷ []) t.truth
    (t.pair (name 2 (Free 0 ∷ Free 1 ∷ []))
    (hash (name 2 (Free 0 ∷ Free 1 ∷ [])) (key (Free 0)))) ∷ [])
    ((codes "n1", symbol.Name 2) ∷ (codes "T", symbol.Action 0 0) ∷ []) (2 ∷ [])

-- !_j Reader
abbrev pub readers : ProcTree
readers = p.replicate j_ (p.call (codes "Reader"))

abbrev pub readers_give : Result Elaborated ElabFault
readers_give =
    gives (front ++ tag_and_reader)
    (an_action 2 None (Rep ∷ Found 1 ∷ Done ∷ [])
    (is_hashed (input 0 (Free 0 ∷ Free 1 ∷ [])) (key (Free 1))) ok
    ∷ an_action 1 None (Rep ∷ NotFound ∷ Done ∷ [])
    (all Index (t.negation (is_hashed (input 1 (Free 0 ∷ [])) (key (Bound 0))))) nonce ∷ [])
    ((codes "R", symbol.Action 0 0) ∷ (codes "R1", symbol.Action 0 1) ∷ []) []

-- ---- !_j R: in(c,x); find i, y such that x = k(i) in out(c,x) else null: two indices are found

abbrev pub finding : ProcTree
finding =
    p.replicate j_
    (p.label (codes "R")
    (p.receive_then c_ x_
    (p.find_else (i_ ∷ y_ ∷ []) (same (word x_) (of_one k_ (word i_)))
    (p.send c_ (word x_)) p.null)))

abbrev pub finding_path : List PathStep
finding_path = Rep ∷ Found 2 ∷ Done ∷ []

abbrev pub nothing_found_path : List PathStep
nothing_found_path = Rep ∷ NotFound ∷ Done ∷ []

-- the first of the two variables is the outer binder
abbrev pub finding_gives : Result Elaborated ElabFault
finding_gives =
    gives front
    (an_action 3 None finding_path
    (t.equal (input 0 (Free 0 ∷ Free 1 ∷ Free 2 ∷ [])) (key (Free 1)))
    (input 0 (Free 0 ∷ Free 1 ∷ Free 2 ∷ []))
    ∷ an_action 1 None nothing_found_path
    (all Index (all Index (t.negation (t.equal (input 1 (Free 0 ∷ [])) (key (Bound 1))))))
    t.empty ∷ [])
    ((codes "R", symbol.Action 0 0) ∷ (codes "R1", symbol.Action 0 1) ∷ []) []

-- ---- refusals: the first place wins

-- in(c,c); out(c,n): the variable hides the channel
abbrev pub hidden_channel : ProcTree
hidden_channel = p.receive_then c_ c_ (p.send c_ (word n_))

-- (out(c,input@z) | out(z,n)): at the first place two kinds; the place behind it does not count
abbrev pub reading_input : ProcTree
reading_input = parts (p.send c_ (f.value Input (word z_))) (p.send z_ (word n_))

-- !_i out(c,i(i))
abbrev pub index_with_argument : ProcTree
index_with_argument = p.replicate i_ (p.send c_ (of_one i_ (word i_)))

-- out(c,init): no message, which stands before that no process speaks of time
abbrev pub sending_init : ProcTree
sending_init = p.send c_ (f.constant Init)

-- if init = z then null
abbrev pub comparing_init : ProcTree
comparing_init = p.branch (same (f.constant Init) (word z_)) p.null

-- out(c,A), where A is the action's own name
abbrev pub own_action : ProcTree
own_action = p.send c_ (word a_)

-- !_x P(x): P takes two indices
abbrev pub short_call : ProcTree
short_call = p.replicate x_ (p.call_with (codes "P") (x_ ∷ []))

-- in(c,x); P: in the body x is not seen, for process P = out(c,x)
abbrev pub unseen_variable : ProcTree
unseen_variable = p.receive_then c_ x_ (p.call (codes "P"))

abbrev pub sending_x : ProcessTree
sending_x = record {
  name = codes "P";
  params = [];
  body = p.send c_ (word x_);
  sentence = 6;
}

-- process P = P
abbrev pub self_call : ProcessTree
self_call = record {
  name = codes "P";
  params = [];
  body = p.call (codes "P");
  sentence = 6;
}

abbrev pub one_process : List (List ℕ × Symbol)
one_process = (codes "P", symbol.Process 0) ∷ []

-- ---- and some more

-- find i, i such that k(i) = n in out(c,k(i)) else null: the later i counts
abbrev pub one_name_twice : ProcTree
one_name_twice =
    p.find_else (i_ ∷ i_ ∷ []) (same (of_one k_ (word i_)) (word n_))
    (p.send c_ (of_one k_ (word i_))) p.null

abbrev pub one_name_twice_gives : Result Elaborated ElabFault
one_name_twice_gives =
    gives front
    (an_action 2 None (Found 2 ∷ Done ∷ []) (t.equal (key (Free 1)) nonce) (key (Free 1))
    ∷ an_action 0 None (NotFound ∷ Done ∷ [])
    (all Index (all Index (t.negation (t.equal (key (Bound 0)) nonce)))) t.empty ∷ [])
    ((a_, symbol.Action 0 0) ∷ (codes "A1", symbol.Action 0 1) ∷ []) []

-- L: in(c,x); M: if q(x) then out(c,n) else N: null: a label counts where the action is closed
abbrev pub late_labels : ProcTree
late_labels =
    p.label l_
    (p.receive_then c_ x_
    (p.label (codes "M")
    (p.branch_else (of_one q_ (word x_)) (p.send c_ (word n_)) (p.label (codes "N") p.null))))

abbrev pub late_labels_give : Result Elaborated ElabFault
late_labels_give =
    gives front
    (an_action 0 None (Branch true ∷ Done ∷ []) (holds (input 0 [])) nonce
    ∷ an_action 0 None (Branch false ∷ Done ∷ []) (t.negation (holds (input 1 []))) t.empty ∷ [])
    ((codes "M", symbol.Action 0 0) ∷ (codes "N", symbol.Action 0 1) ∷ []) []

-- out(c,n); if n = ok then null
abbrev pub sending_first : ProcTree
sending_first = p.send_then c_ (word n_) (p.branch (same (word n_) (word ok_)) p.null)

abbrev pub sending_first_gives : Result Elaborated ElabFault
sending_first_gives =
    gives front
    (an_action 0 None (Done ∷ []) t.truth nonce
    ∷ an_action 0 (Some 0) (Done ∷ Branch true ∷ Done ∷ []) (t.equal nonce ok) t.empty
    ∷ an_action 0 (Some 0) (Done ∷ Branch false ∷ Done ∷ []) (t.negation (t.equal nonce ok)) t.empty
    ∷ [])
    ((a_, symbol.Action 0 0) ∷ (codes "A1", symbol.Action 0 1)
    ∷ (codes "A2", symbol.Action 0 2) ∷ []) []

-- process P(i,i:index) = out(c,k(i)), and !_x !_y P(x,y)
abbrev pub equal_parameters : ProcessTree
equal_parameters = record {
  name = codes "P";
  params = i_ ∷ i_ ∷ [];
  body = p.send c_ (of_one k_ (word i_));
  sentence = 6;
}

abbrev pub calling_twice : ProcTree
calling_twice = p.replicate x_ (p.replicate y_ (p.call_with (codes "P") (x_ ∷ y_ ∷ [])))

abbrev pub calling_twice_gives : Result Elaborated ElabFault
calling_twice_gives =
    gives (front ++ one_process)
    (an_action 2 None (Rep ∷ Rep ∷ Done ∷ []) t.truth (key (Free 1)) ∷ [])
    ((a_, symbol.Action 0 0) ∷ []) []

-- ((null | null)): no action
abbrev pub nothing : ProcTree
nothing = p.parallel (p.more (parts p.null p.null) p.none)

abbrev pub nothing_gives : Result Elaborated ElabFault
nothing_gives = gives front [] [] []

-- !_P P
abbrev pub hidden_process : ProcTree
hidden_process = p.replicate (codes "P") (p.call (codes "P"))

-- find i such that k(i) = n in null else out(c,k(i))
abbrev pub index_elsewhere : ProcTree
index_elsewhere =
    p.find_else (i_ ∷ []) (same (of_one k_ (word i_)) (word n_)) p.null
    (p.send c_ (of_one k_ (word i_)))

-- new x; out(c,x(x))
abbrev pub name_with_argument : ProcTree
name_with_argument = p.new x_ (p.send c_ (of_one x_ (word x_)))

-- P(n,z)
abbrev pub message_argument : ProcTree
message_argument = p.call_with (codes "P") (n_ ∷ z_ ∷ [])
