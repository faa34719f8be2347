-- The instances among which stands all that a question leads to.
use Rattle.std.specs.Prelude.{ℕ, zero, suc, max, ℤ, pos, negsuc, Bool, true, false, cond, ◌||◌, List, [], ◌∷◌, ◌++◌, map, length, Some, None, ⊤}
use Rattle.std.specs.List.{AllByRecursion, flat_map}
use Rattle.at_model.specs.Trees.{Tree, Node as Branch, Cells, no_cells, cell, Cell, One, Many, Empty, Filled, Holds, Trees, no_trees, tree, Token}
use Rattle.at_model.specs.Trees as held
use Rattle.at_model.specs.Paths.{Node}
use Rattle.at_model.specs.Run.{Value, Instance, Int, Truth, Text, Ref}
use Rattle.at_model.specs.Rules.{Rules, Kind, Attribute, OwnEquation, InheritedEquation}
use Rattle.at_model.specs.Rules as kind
use Rattle.at_model.specs.Meaning.{Among}
use Rattle.at_model.specs.Bodies.{Expr, Exprs, no_exprs, expr, TextLiteral, Negate, Not, Arithmetic, Compare, Join, JoinInt, Same, Differ, And, Or, Choose, Equals, InstanceOf, CastTo, Child, Element, Count, Has, TokenOf, Call, Exists, First, Sum, SeekAny, SeekFirst, Listed, Only, Union, Contains, Over, Children, Parent, Passed, max_passed}

-- the numbers below
abbrev pub below : ℕ → List ℕ
below zero = []
below (suc n) = below n ++ n ∷ []

-- all texts of so many bytes at most
abbrev pub texts_within : ℕ → List (List ℕ)
texts_within zero = [] ∷ []
texts_within (suc n) = [] ∷ flat_map (λ b. map (λ bs. b ∷ bs) (texts_within n)) (below 256)

-- the String literals of an expression; one that passes a computed text says all that are short
abbrev mutual
  pub literals : Expr → List (List ℕ)
  literals (TextLiteral bytes) = bytes ∷ []
  literals (Negate a) = literals a
  literals (Not a) = literals a
  literals (Arithmetic o a b) = literals a ++ literals b
  literals (Compare o a b) = literals a ++ literals b
  literals (Join a b) = literals a ++ literals b
  literals (JoinInt a b) = literals a ++ literals b
  literals (Same a b) = literals a ++ literals b
  literals (Differ a b) = literals a ++ literals b
  literals (And a b) = literals a ++ literals b
  literals (Or a b) = literals a ++ literals b
  literals (Choose c a b) = literals c ++ (literals a ++ literals b)
  literals (Equals a b) = literals a ++ literals b
  literals (InstanceOf a class) = literals a
  literals (CastTo class a) = literals a
  literals (Child a part) = literals a
  literals (Element a part b) = literals a ++ literals b
  literals (Count a part) = literals a
  literals (Has a part) = literals a
  literals (TokenOf a part) = literals a
  literals (Call a attribute es) = literals a ++ all_literals es
  literals (Exists a part e) = literals a ++ literals e
  literals (First a part e) = literals a ++ literals e
  literals (Sum a part e) = literals a ++ literals e
  literals (Listed a part) = literals a
  literals (Only a) = literals a
  literals (Union a b) = literals a ++ literals b
  literals (Contains a b) = literals a ++ literals b
  literals (Over fold a e) = literals a ++ literals e
  literals (Children a) = literals a
  literals (Parent a) = literals a
  literals (Passed a) = texts_within max_passed ++ literals a
  literals (SeekAny a part key t e) = literals a ++ literals t ++ literals e
  literals (SeekFirst a part key t e) = literals a ++ literals t ++ literals e
  literals e = []

  pub all_literals : Exprs → List (List ℕ)
  all_literals no_exprs = []
  all_literals (expr e es) = literals e ++ all_literals es

-- the tokens of a tree, in its order
abbrev mutual
  pub tokens : Tree → List Token
  tokens (Branch c cells) = cells_tokens cells

  pub cells_tokens : Cells → List Token
  cells_tokens no_cells = []
  cells_tokens (cell c cs) = cell_tokens c ++ cells_tokens cs

  pub cell_tokens : Cell → List Token
  cell_tokens (One t) = tokens t
  cell_tokens (Many ts) = trees_tokens ts
  cell_tokens Empty = []
  cell_tokens (Filled t) = tokens t
  cell_tokens (Holds v) = v ∷ []

  pub trees_tokens : Trees → List Token
  trees_tokens no_trees = []
  trees_tokens (tree t ts) = tokens t ++ trees_tokens ts

-- the nodes of a tree, in its order
abbrev mutual
  pub all_nodes : Tree → List Node
  all_nodes (Branch c cells) = [] ∷ cells_nodes 0 cells

  pub cells_nodes : ℕ → Cells → List Node
  cells_nodes part no_cells = []
  cells_nodes part (cell c cs) = cell_nodes part c ++ cells_nodes (suc part) cs

  pub cell_nodes : ℕ → Cell → List Node
  cell_nodes part (One t) = map (λ n. (part, 0) ∷ n) (all_nodes t)
  cell_nodes part (Many ts) = trees_nodes part 0 ts
  cell_nodes part Empty = []
  cell_nodes part (Filled t) = map (λ n. (part, 0) ∷ n) (all_nodes t)
  cell_nodes part (Holds v) = []

  pub trees_nodes : ℕ → ℕ → Trees → List Node
  trees_nodes part i no_trees = []
  trees_nodes part i (tree t ts) = map (λ n. (part, i) ∷ n) (all_nodes t) ++ trees_nodes part (suc i) ts

-- the text that a token is
abbrev pub text_in : Token → List (List ℕ)
text_in (held.Text bytes) = bytes ∷ []
text_in v = []

-- the text that a value is
abbrev pub text_of_value : Value Node → List (List ℕ)
text_of_value (Text bytes) = bytes ∷ []
text_of_value v = []

-- the String literals of the equations
abbrev pub literals_of : Rules → List (List ℕ)
literals_of rules =
    flat_map (λ (e : OwnEquation). literals e.body) rules.own
    ++ flat_map (λ (e : InheritedEquation). literals e.body) rules.inherited

-- the texts that may be arguments where those of the question are these: the tree's tokens, the literals of the equations, the question's own
abbrev pub texts : Rules → Tree → List (Value Node) → List (List ℕ)
texts rules t vs = flat_map text_in (tokens t) ++ (literals_of rules ++ flat_map text_of_value vs)

-- it holds of one of them
abbrev pub holds_of_one : {A : Type 0} → (A → Bool) → List A → Bool
holds_of_one f [] = false
holds_of_one f (a ∷ as') = f a || holds_of_one f as'

-- an attribute has such a parameter
abbrev pub is_passed : Rules → (Kind → Bool) → Bool
is_passed rules of = holds_of_one (λ (a : Attribute). holds_of_one of a.parameters) rules.attributes

-- it is the kind of ints
abbrev pub is_int : Kind → Bool
is_int kind.Int = true
is_int k = false

-- it is the kind of booleans
abbrev pub is_truth : Kind → Bool
is_truth kind.Truth = true
is_truth k = false

-- the ints from minus so many on, and as many from 0 on
abbrev pub ints_within : ℕ → List ℤ
ints_within zero = []
ints_within (suc n) = pos n ∷ negsuc n ∷ ints_within n

-- so many ints to both sides, and booleans, where they are passed
abbrev pub others_within : ℕ → Rules → List (Value Node)
others_within m rules =
    cond (is_passed rules is_int) (map (λ n. Int n) (ints_within m)) []
    ++ cond (is_passed rules is_truth) (Truth true ∷ Truth false ∷ []) []

-- all ints of 32 bits, and booleans
abbrev pub others : Rules → List (Value Node)
others rules = others_within 2147483648 rules

-- what may be an argument: these texts, null and the nodes of the tree, and where they are passed all ints of 32 bits, and booleans
abbrev pub argument_values : Rules → Tree → List (Value Node) → List (Value Node)
argument_values rules t vs =
    map (λ bytes. Text bytes) (texts rules t vs) ++ ((Ref None ∷ map (λ n. Ref (Some n)) (all_nodes t)) ++ others rules)

-- the lists of so many of them at most
abbrev pub argument_lists : ℕ → List (Value Node) → List (List (Value Node))
argument_lists zero vs = [] ∷ []
argument_lists (suc n) vs = [] ∷ flat_map (λ v. map (λ ws. v ∷ ws) (argument_lists n vs)) vs

-- as many parameters as an attribute has, and so many at least
abbrev pub most_parameters : ℕ → List Attribute → ℕ
most_parameters n [] = n
most_parameters n (a ∷ as') = most_parameters (max n (length a.parameters)) as'

-- The instances of each node of the tree and each attribute with up to two of these arguments, or with more where an attribute has
-- more parameters. Some stand in it more than once, and some are not well formed: what counts is that none is missing.
abbrev pub instances : Rules → Tree → List (Value Node) → List (Instance Node)
instances rules t vs =
    flat_map (λ n.
    flat_map (λ k. map (λ ws. record { node = n; attribute = k; arguments = ws })
    (argument_lists (most_parameters 2 rules.attributes) (argument_values rules t vs)))
    (below (length rules.attributes)))
    (all_nodes t)

-- the text may be an argument where those of the question are these
abbrev pub IsGiven : Rules → Tree → List (Value Node) → List ℕ → Type 0
IsGiven rules t vs bytes = Among bytes (texts rules t vs)

-- any text
abbrev pub AnyText : List ℕ → Type 0
AnyText bytes = ⊤

-- the String literals of the equations are among the texts
pub record AreLiteralsAllowed (rules : Rules) (Allowed : List ℕ → Type 0) : Type 0 where
  pub own : AllByRecursion (λ (e : OwnEquation). AllByRecursion Allowed (literals e.body)) rules.own
  pub inherited : AllByRecursion (λ (e : InheritedEquation). AllByRecursion Allowed (literals e.body)) rules.inherited
