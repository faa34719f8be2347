-- The expressions of equations, and how each is evaluated. Names, components, attributes and classes are positions, and
-- each form has its kinds. The order is from left to right.
use Rattle.std.specs.Prelude.{ℕ, zero, suc, ℤ, pos, negsuc, Bool, true, false, cond, not, List, [], ◌∷◌, ◌++◌, length, nat_le, int_lt, int_le, int_rem, Option, Some, None, option_map, slice_get, bytes_eq, ◌&&◌}
use Rattle.std.specs.Fmt.{signed_decimal}
use Rattle.std.specs.Ordering.{int_eq}
use Rattle.std.specs.Int.{w32, int_wrapping_add, int_wrapping_sub, int_wrapping_mul, int_wrapping_div, int_wrapping_neg}
use Rattle.at_model.specs.Classes.{Classes, Component, is_sub, parts, class_in}
use Rattle.at_model.specs.Drawers.{Key, mark_of}
use Rattle.at_model.specs.Trees.{Token}
use Rattle.at_model.specs.Trees as tree
pub use Rattle.at_model.specs.SyntaxTrees.{bool_eq}
use Rattle.at_model.specs.Run.{Value, Int, Truth, Text, Ref, Nodes, Is, Tok, Slot, Up, Idx, Drawer, Null, Index, Absent, Zero, Cast, Long, Run, Gives, Fails, Looks, Demands, ◌>>=◌}

-- operators on two ints that give an int
pub data Operator : Type 0 where
  Multiply : Operator
  Divide : Operator
  Remainder : Operator
  Add : Operator
  Subtract : Operator

-- and those that give a boolean
pub data Order : Type 0 where
  Below : Order
  AtMost : Order
  Above : Order
  AtLeast : Order

-- what is done with nodes, each in turn
pub data Fold : Type 0 where
  AnyOf : Fold
  FirstOf : Fold
  SumOf : Fold
  Gather : Fold
  Close : Fold

-- the forms of expression; a component, an attribute and a class are positions
mutual
  pub data Expr : Type 0 where
    IntLiteral : ℤ → Expr
    TruthLiteral : Bool → Expr
    TextLiteral : List ℕ → Expr
    NullLiteral : Expr
    This : Expr
    -- a parameter or a fold's name: the innermost fold's name is 0, the parameters follow in their order
    Name : (position : ℕ) → Expr
    -- the index name of an inherited equation
    IndexName : Expr
    Negate : Expr → Expr
    Not : Expr → Expr
    Arithmetic : Operator → Expr → Expr → Expr
    Compare : Order → Expr → Expr → Expr
    -- a text joined with a text, and with an int in decimal
    Join : Expr → Expr → Expr
    JoinInt : Expr → Expr → Expr
    -- == and != of two ints, two booleans, two nodes or null
    Same : Expr → Expr → Expr
    Differ : Expr → Expr → Expr
    And : Expr → Expr → Expr
    Or : Expr → Expr → Expr
    Choose : Expr → Expr → Expr → Expr
    -- a.equals(b) of texts
    Equals : Expr → Expr → Expr
    InstanceOf : Expr → (class : ℕ) → Expr
    CastTo : (class : ℕ) → Expr → Expr
    -- getB() of a component with one child, or of an optional; getB(E), getNumB(), hasB(); getID() of a token
    Child : Expr → (part : ℕ) → Expr
    Element : Expr → (part : ℕ) → Expr → Expr
    Count : Expr → (part : ℕ) → Expr
    Has : Expr → (part : ℕ) → Expr
    TokenOf : Expr → (part : ℕ) → Expr
    Call : Expr → (attribute : ℕ) → Exprs → Expr
    -- over the elements of a list component, each in turn under the name 0
    Exists : Expr → (part : ℕ) → Expr → Expr
    First : Expr → (part : ℕ) → Expr → Expr
    Sum : Expr → (part : ℕ) → Expr → Expr
    -- getBList() as a value; [E] of a node, where null is left out; those of the one and then of the other; whether a node is among them
    Listed : Expr → (part : ℕ) → Expr
    Only : Expr → Expr
    Union : Expr → Expr → Expr
    Contains : Expr → Expr → Expr
    -- over these nodes, each in turn under the name 0
    Over : Fold → Expr → Expr → Expr
    -- astChildren(), getParent()
    Children : Expr → Expr
    Parent : Expr → Expr
    -- an argument that is computed
    Passed : Expr → Expr
    -- `exists` and `first` over those elements alone that stand under the mark of a text, the expression in front of the braces
    SeekAny : Expr → (part : ℕ) → Key → Expr → Expr → Expr
    SeekFirst : Expr → (part : ℕ) → Key → Expr → Expr → Expr

  -- the arguments of a call
  pub data Exprs : Type 0 where
    no_exprs : Exprs
    expr : Expr → Exprs → Exprs

-- where an expression stands: `this`, what names stand for, and in an inherited equation the child on the way down
pub record Scope (N : Type 0) : Type 0 where
  pub this : N
  pub names : List (Value N)
  pub child : Option N

-- inside the braces of a fold, at this element
abbrev pub bound : {N : Type 0} → Scope N → N → Scope N
bound scope n = record scope { names = Ref (Some n) ∷ scope.names }

-- the int of a value: rules ask for the kind, and a value of another kind counts as zero, false, empty or null
abbrev pub int_of : {N : Type 0} → Value N → ℤ
int_of (Int n) = n
int_of v = pos 0

-- the boolean of a value
abbrev pub truth_of : {N : Type 0} → Value N → Bool
truth_of (Truth b) = b
truth_of v = false

-- the text of a value
abbrev pub text_of : {N : Type 0} → Value N → List ℕ
text_of (Text bytes) = bytes
text_of v = []

-- the node of a value, or null
abbrev pub ref_of : {N : Type 0} → Value N → Option N
ref_of (Ref n) = n
ref_of v = None

-- the nodes of a value
abbrev pub nodes_of : {N : Type 0} → Value N → List N
nodes_of (Nodes ns) = ns
nodes_of v = []

-- the nodes that a value names
abbrev pub mentioned : {N : Type 0} → Value N → List N
mentioned (Ref (Some n)) = n ∷ []
mentioned (Nodes ns) = ns
mentioned v = []

-- the value of a token
abbrev pub value_of : {N : Type 0} → Token → Value N
value_of (tree.Text bytes) = Text bytes
value_of (tree.Int n) = Int n
value_of (tree.Truth b) = Truth b

-- what a name stands for
abbrev pub named : {N : Type 0} → List (Value N) → ℕ → Value N
named [] i = Ref None
named (v ∷ vs) zero = v
named (v ∷ vs) (suc i) = named vs i

-- the node, or the fault `null`
abbrev pub node_of : {N : Type 0} → Value N → Run N N
node_of v = elim (ref_of v) [ None ↦ Fails Null | Some n ↦ Gives n ]

-- the node, or that evaluation where there is none
abbrev pub node_or : {N : Type 0} → Run N (Value N) → Option N → Run N (Value N)
node_or fault None = fault
node_or fault (Some n) = Gives (Ref (Some n))

-- getB()
abbrev pub child_of : {N : Type 0} → ℕ → Value N → Run N (Value N)
child_of part v = node_of v >>= λ n. Looks (Slot n part) (λ ns. node_or (Fails Absent) (slice_get ns 0))

-- the node at an index, counted from 0
abbrev pub element_at : {N : Type 0} → List N → ℤ → Option N
element_at ns (pos i) = slice_get ns i
element_at ns (negsuc i) = None

-- getB(E)
abbrev pub element_of : {N : Type 0} → ℕ → Value N → Value N → Run N (Value N)
element_of part v i = node_of v >>= λ n. Looks (Slot n part) (λ ns. node_or (Fails Index) (element_at ns (int_of i)))

-- getNumB()
abbrev pub count_of : {N : Type 0} → ℕ → Value N → Run N (Value N)
count_of part v = node_of v >>= λ n. Looks (Slot n part) (λ ns. Gives (Int (pos (length ns))))

-- hasB()
abbrev pub has_of : {N : Type 0} → ℕ → Value N → Run N (Value N)
has_of part v = node_of v >>= λ n. Looks (Slot n part) (λ ns. Gives (Truth (not (nat_le (length ns) 0))))

-- getID()
abbrev pub token_of : {N : Type 0} → ℕ → Value N → Run N (Value N)
token_of part v = node_of v >>= λ n. Looks (Tok n part) (λ t. Gives (value_of t))

-- the value of an attribute of a node, or the fault `null`
abbrev pub demand_of : {N : Type 0} → ℕ → Value N → List (Value N) → Run N (Value N)
demand_of attribute v vs = node_of v >>= λ n. Demands (record { node = n; attribute = attribute; arguments = vs }) Gives

-- `/` goes toward zero, and the least int by -1 is the least int; by zero it is the fault `zero`
abbrev pub quotient : {N : Type 0} → ℤ → ℤ → Run N (Value N)
quotient m (pos zero) = Fails Zero
quotient m (pos (suc n)) = Gives (Int (int_wrapping_div w32 m (pos (suc n))))
quotient m (negsuc n) = Gives (Int (int_wrapping_div w32 m (negsuc n)))

-- `%` has the sign of the dividend, and the least int by -1 leaves 0; by zero it is the fault `zero`
abbrev pub remainder : {N : Type 0} → ℤ → ℤ → Run N (Value N)
remainder m (pos zero) = Fails Zero
remainder m (pos (suc n)) = Gives (Int (int_rem m (pos (suc n))))
remainder m (negsuc n) = Gives (Int (int_rem m (negsuc n)))

-- bytes, so many at most
abbrev pub is_text_within : ℕ → List ℕ → Bool
is_text_within n [] = true
is_text_within zero (b ∷ bs) = false
is_text_within (suc n) (b ∷ bs) = nat_le b 255 && is_text_within n bs

-- the most bytes of a text that is computed and passed, as many as a token's or a literal's
abbrev pub max_passed : ℕ
max_passed = 4096

-- the farthest from 0 that an int is that is computed and passed
abbrev pub max_step : ℕ
max_step = 1048576

-- it may be passed where it was computed
abbrev pub may_pass : {N : Type 0} → Value N → Bool
may_pass (Text bytes) = is_text_within max_passed bytes
may_pass (Int (pos n)) = nat_le n max_step
may_pass (Int (negsuc n)) = nat_le n max_step
may_pass v = true

-- the value, or the fault `long`: so what leads from argument to argument comes to an end
abbrev pub passed : {N : Type 0} → Value N → Run N (Value N)
passed v = cond (may_pass v) (Gives v) (Fails Long)

-- ints are 32 bits in two's complement, and wrap
abbrev pub computed : {N : Type 0} → Operator → ℤ → ℤ → Run N (Value N)
computed Multiply m n = Gives (Int (int_wrapping_mul w32 m n))
computed Divide m n = quotient m n
computed Remainder m n = remainder m n
computed Add m n = Gives (Int (int_wrapping_add w32 m n))
computed Subtract m n = Gives (Int (int_wrapping_sub w32 m n))

-- whether the comparison holds
abbrev pub is_in_order : Order → ℤ → ℤ → Bool
is_in_order Below m n = int_lt m n
is_in_order AtMost m n = int_le m n
is_in_order Above m n = int_lt n m
is_in_order AtLeast m n = int_le n m

-- the most bytes that a text value has
abbrev pub max_text : ℕ
max_text = 65535

-- the text, or the fault `long`
abbrev pub joined : {N : Type 0} → List ℕ → Run N (Value N)
joined bytes = cond (nat_le (length bytes) max_text) (Gives (Text bytes)) (Fails Long)

-- the same node, by the test that is given, or both null
abbrev pub ref_eq : {N : Type 0} → (N → N → Bool) → Option N → Option N → Bool
ref_eq same None None = true
ref_eq same None (Some n) = false
ref_eq same (Some m) None = false
ref_eq same (Some m) (Some n) = same m n

-- equal ints, booleans or texts, or the same node, or both null
abbrev pub value_eq : {N : Type 0} → (N → N → Bool) → Value N → Value N → Bool
value_eq same (Int n) w = int_eq n (int_of w)
value_eq same (Truth b) w = bool_eq b (truth_of w)
value_eq same (Text bytes) w = bytes_eq bytes (text_of w)
value_eq same (Ref n) w = ref_eq same n (ref_of w)
value_eq same (Nodes ns) w = false

-- whether it is a node of that class or below
abbrev pub is_instance : {N : Type 0} → Classes → ℕ → Option N → Run N (Value N)
is_instance classes class None = Gives (Truth false)
is_instance classes class (Some n) = Looks (Is n) (λ c. Gives (Truth (is_sub classes c class)))

-- the node of that class or below, null, or the fault `cast`
abbrev pub cast_to : {N : Type 0} → Classes → ℕ → Option N → Run N (Value N)
cast_to classes class None = Gives (Ref None)
cast_to classes class (Some n) = Looks (Is n) (λ c. cond (is_sub classes c class) (Gives (Ref (Some n))) (Fails Cast))

-- where the child on the way down stands in its list
abbrev pub index_of : {N : Type 0} → Option N → Run N (Value N)
index_of None = Gives (Int (pos 0))
index_of (Some n) = Looks (Idx n) (λ i. Gives (Int (pos i)))

-- whether the test comes true at a node, up to the first
abbrev pub exists_in : {N : Type 0} → (N → Run N (Value N)) → List N → Run N (Value N)
exists_in test [] = Gives (Truth false)
exists_in test (n ∷ ns) = test n >>= λ v. cond (truth_of v) (Gives (Truth true)) (exists_in test ns)

-- the first node at which the test comes true, or null
abbrev pub first_in : {N : Type 0} → (N → Run N (Value N)) → List N → Run N (Value N)
first_in test [] = Gives (Ref None)
first_in test (n ∷ ns) = test n >>= λ v. cond (truth_of v) (Gives (Ref (Some n))) (first_in test ns)

-- the wrapping sum over the nodes, added to this
abbrev pub sum_in : {N : Type 0} → (N → Run N (Value N)) → ℤ → List N → Run N (Value N)
sum_in term total [] = Gives (Int total)
sum_in term total (n ∷ ns) = term n >>= λ v. sum_in term (int_wrapping_add w32 total (int_of v)) ns

-- the node is among them
abbrev pub is_among : {N : Type 0} → (N → N → Bool) → N → List N → Bool
is_among same n [] = false
is_among same n (m ∷ ms) = cond (same n m) true (is_among same n ms)

-- one more node behind them, where it isn't among them
abbrev pub with_one : {N : Type 0} → (N → N → Bool) → List N → N → List N
with_one same ns n = cond (is_among same n ns) ns (ns ++ n ∷ [])

-- these nodes, and behind them those of the others that aren't there yet, each once
abbrev pub with_more : {N : Type 0} → (N → N → Bool) → List N → List N → List N
with_more same ns [] = ns
with_more same ns (m ∷ ms) = with_more same (with_one same ns m) ms

-- the most nodes that a list has: as many as a tree may have where most are allowed
abbrev pub max_list : ℕ
max_list = 16777216

-- the nodes, or the fault `long`
abbrev pub made : {N : Type 0} → List N → Run N (Value N)
made ns = cond (nat_le (length ns) max_list) (Gives (Nodes ns)) (Fails Long)

-- a node alone; null is none
abbrev pub only : {N : Type 0} → Option N → List N
only None = []
only (Some n) = n ∷ []

-- whether it is a node, and among them
abbrev pub contains : {N : Type 0} → (N → N → Bool) → List N → Option N → Bool
contains same ns None = false
contains same ns (Some n) = is_among same n ns

-- what each of the nodes gives, one after the other, behind these
abbrev pub gather_in : {N : Type 0} → (N → N → Bool) → (N → Run N (Value N)) → List N → List N → Run N (Value N)
gather_in same what found [] = made found
gather_in same what found (n ∷ ns) = what n >>= λ v. gather_in same what (with_more same found (nodes_of v)) ns

-- Each of the nodes from the i-th on is asked in its turn; what it gives and isn't there yet comes behind. There are more turns
-- than nodes in a tree within the limits.
abbrev pub close_in : {N : Type 0} → (N → N → Bool) → (N → Run N (Value N)) → (turns i : ℕ) → List N → Run N (Value N)
close_in same what zero i ns = Fails Long
close_in same what (suc turns) i ns = elim (slice_get ns i) [
  | None ↦ Gives (Nodes ns)
  | Some n ↦ what n >>= λ v. close_in same what turns (suc i) (with_more same ns (nodes_of v))
]

-- one turn more than a tree may have nodes
abbrev pub max_turns : ℕ
max_turns = 16777217

-- what is done with the nodes, by what the expression in the braces gives at each
abbrev pub fold_in : {N : Type 0} → (N → N → Bool) → Fold → (N → Run N (Value N)) → List N → Run N (Value N)
fold_in same AnyOf what ns = exists_in what ns
fold_in same FirstOf what ns = first_in what ns
fold_in same SumOf what ns = sum_in what (pos 0) ns
fold_in same Gather what ns = gather_in same what [] ns
fold_in same Close what ns = close_in same what max_turns 0 ns

-- the components of a class in which trees stand, from this position on
abbrev pub tree_parts : (part : ℕ) → List Component → List ℕ
tree_parts part [] = []
tree_parts part (p ∷ ps) = elim (class_in p.shape) [ None ↦ tree_parts (suc part) ps | Some b ↦ part ∷ tree_parts (suc part) ps ]

-- the children of a node in these components, behind these nodes
abbrev pub children_in : {N : Type 0} → (N → N → Bool) → N → List N → List ℕ → Run N (Value N)
children_in same n found [] = made found
children_in same n found (part ∷ parts) = Looks (Slot n part) (λ ns. children_in same n (with_more same found ns) parts)

-- astChildren(): the class is looked at, and then each component with trees
abbrev pub children_of : {N : Type 0} → Classes → (N → N → Bool) → Value N → Run N (Value N)
children_of classes same v = node_of v >>= λ n. Looks (Is n) (λ c. children_in same n [] (tree_parts 0 (parts classes c)))

-- getParent(), which is null at the root
abbrev pub up_of : {N : Type 0} → Value N → Run N (Value N)
up_of v = node_of v >>= λ n. Looks (Up n) (λ p. Gives (Ref (option_map (λ q. q.0) p)))

-- the nodes in a list component
abbrev pub elements_of : {N : Type 0} → ℕ → Value N → Run N (List N)
elements_of part v = node_of v >>= λ n. Looks (Slot n part) (λ ns. Gives ns)

-- those of them that stand under the mark of the text
abbrev pub drawer_of : {N : Type 0} → ℕ → Key → Value N → Value N → Run N (List N)
drawer_of part key v w = node_of v >>= λ n. Looks (Drawer n part key (mark_of (text_of w))) (λ ns. Gives ns)

-- The evaluation of an expression, from left to right; `same` says which nodes are the same. `&&`, `||`, `?:`, `exists` and
-- `first` stop when they are decided. A call evaluates the receiver and the arguments, looks whether the receiver is null,
-- and then demands.
abbrev mutual
  pub eval : {N : Type 0} → Classes → (N → N → Bool) → Expr → Scope N → Run N (Value N)
  eval classes same (IntLiteral n) scope = Gives (Int n)
  eval classes same (TruthLiteral b) scope = Gives (Truth b)
  eval classes same (TextLiteral bytes) scope = Gives (Text bytes)
  eval classes same NullLiteral scope = Gives (Ref None)
  eval classes same This scope = Gives (Ref (Some scope.this))
  eval classes same (Name i) scope = Gives (named scope.names i)
  eval classes same IndexName scope = index_of scope.child
  eval classes same (Negate a) scope = eval classes same a scope >>= λ v. Gives (Int (int_wrapping_neg w32 (int_of v)))
  eval classes same (Not a) scope = eval classes same a scope >>= λ v. Gives (Truth (not (truth_of v)))
  eval classes same (Arithmetic o a b) scope = eval classes same a scope >>= λ v. eval classes same b scope >>= λ w. computed o (int_of v) (int_of w)
  eval classes same (Compare o a b) scope =
      eval classes same a scope >>= λ v. eval classes same b scope >>= λ w. Gives (Truth (is_in_order o (int_of v) (int_of w)))
  eval classes same (Join a b) scope = eval classes same a scope >>= λ v. eval classes same b scope >>= λ w. joined (text_of v ++ text_of w)
  eval classes same (JoinInt a b) scope = eval classes same a scope >>= λ v. eval classes same b scope >>= λ w. joined (text_of v ++ signed_decimal (int_of w))
  eval classes same (Same a b) scope = eval classes same a scope >>= λ v. eval classes same b scope >>= λ w. Gives (Truth (value_eq same v w))
  eval classes same (Differ a b) scope = eval classes same a scope >>= λ v. eval classes same b scope >>= λ w. Gives (Truth (not (value_eq same v w)))
  eval classes same (And a b) scope = eval classes same a scope >>= λ v. cond (truth_of v) (eval classes same b scope) (Gives (Truth false))
  eval classes same (Or a b) scope = eval classes same a scope >>= λ v. cond (truth_of v) (Gives (Truth true)) (eval classes same b scope)
  eval classes same (Choose c a b) scope = eval classes same c scope >>= λ v. cond (truth_of v) (eval classes same a scope) (eval classes same b scope)
  eval classes same (Equals a b) scope = eval classes same a scope >>= λ v. eval classes same b scope >>= λ w. Gives (Truth (bytes_eq (text_of v) (text_of w)))
  eval classes same (InstanceOf a class) scope = eval classes same a scope >>= λ v. is_instance classes class (ref_of v)
  eval classes same (CastTo class a) scope = eval classes same a scope >>= λ v. cast_to classes class (ref_of v)
  eval classes same (Child a part) scope = eval classes same a scope >>= child_of part
  eval classes same (Element a part b) scope = eval classes same a scope >>= λ v. eval classes same b scope >>= element_of part v
  eval classes same (Count a part) scope = eval classes same a scope >>= count_of part
  eval classes same (Has a part) scope = eval classes same a scope >>= has_of part
  eval classes same (TokenOf a part) scope = eval classes same a scope >>= token_of part
  eval classes same (Call a attribute bs) scope = eval classes same a scope >>= λ v. eval_all classes same bs scope >>= demand_of attribute v
  eval classes same (Exists a part b) scope = eval classes same a scope >>= λ v. elements_of part v >>= exists_in (λ n. eval classes same b (bound scope n))
  eval classes same (First a part b) scope = eval classes same a scope >>= λ v. elements_of part v >>= first_in (λ n. eval classes same b (bound scope n))
  eval classes same (Sum a part b) scope = eval classes same a scope >>= λ v. elements_of part v >>= sum_in (λ n. eval classes same b (bound scope n)) (pos 0)
  eval classes same (Listed a part) scope = eval classes same a scope >>= λ v. elements_of part v >>= λ ns. made (with_more same [] ns)
  eval classes same (Only a) scope = eval classes same a scope >>= λ v. Gives (Nodes (only (ref_of v)))
  eval classes same (Union a b) scope = eval classes same a scope >>= λ v. eval classes same b scope >>= λ w. made (with_more same (nodes_of v) (nodes_of w))
  eval classes same (Contains a b) scope = eval classes same a scope >>= λ v. eval classes same b scope
      >>= λ w. Gives (Truth (contains same (nodes_of v) (ref_of w)))
  eval classes same (Over fold a b) scope = eval classes same a scope >>= λ v. fold_in same fold (λ n. eval classes same b (bound scope n)) (nodes_of v)
  eval classes same (Children a) scope = eval classes same a scope >>= children_of classes same
  eval classes same (Parent a) scope = eval classes same a scope >>= up_of
  eval classes same (Passed a) scope = eval classes same a scope >>= passed
  eval classes same (SeekAny a part key e b) scope = eval classes same a scope >>= λ v. eval classes same e scope >>= λ w. drawer_of part key v w
      >>= exists_in (λ n. eval classes same b (bound scope n))
  eval classes same (SeekFirst a part key e b) scope = eval classes same a scope >>= λ v. eval classes same e scope >>= λ w. drawer_of part key v w
      >>= first_in (λ n. eval classes same b (bound scope n))

  -- the values of the arguments, from left to right
  pub eval_all : {N : Type 0} → Classes → (N → N → Bool) → Exprs → Scope N → Run N (List (Value N))
  eval_all classes same no_exprs scope = Gives []
  eval_all classes same (expr a as') scope = eval classes same a scope >>= λ v. eval_all classes same as' scope >>= λ vs. Gives (v ∷ vs)
