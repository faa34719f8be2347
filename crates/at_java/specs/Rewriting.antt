-- Bodies of statements, as the expressions that they mean. A list of statements is gone through from its last to its first, each with
-- what the rest behind it means; the first fault on that way is told.
use Rattle.std.specs.Prelude.{◌≡◌, ℕ, Bool, true, false, ◌||◌, cond, nat_eq, nat_le, List, Option, Some, None, option_map}
use Rattle.std.specs.Str.{bytes_eq}
use Rattle.at_text.specs.declared.place.Place.{Place}
use Rattle.at_text.specs.declared.fault.Failure.{Failure}
use Rattle.at_text.specs.declared.fault.Failure.TheVariants.{For, Memory}
use Rattle.at_jrag.specs.Syntax.{Expr, Word, Truth, Null, Name, Not, Binary, Choose, Fold, Or, And, Exists, First}
use Rattle.at_java.specs.Written.{Statement, Statements, no_statements, statement, Return, If, Each, Block, Empty}
use Rattle.at_java.specs.Naming.{forms, folds, named, name_for}
use Rattle.at_java.specs.declared.JavaCode.{JavaCode}
use Rattle.at_java.specs.declared.JavaCode.TheVariants.{LeftOut, Limit, NoValue}
use Rattle.at_java.specs.declared.reader.Breach.{Breach}
use Rattle.at_java.specs.declared.reader.Breach.TheVariants.{Here, At}

-- an expression; or nothing, where their end can be reached; or a fault
pub data Meaning : Type 0 where
  Means : Expr → Meaning
  Open : Meaning
  Refused : JavaCode → Place → Meaning

abbrev pub meant : Option Expr → Meaning
meant (Some e) = Means e
meant None = Open

-- what stands in front of what means this
abbrev pub behind : Meaning → (Option Expr → Meaning) → Meaning
behind (Means e) front = front (Some e)
behind Open front = front None
behind (Refused code at) front = Refused code at

-- so many forms at most, of an expression that came to be at this statement
abbrev pub within : Place → Expr → Meaning
within at e = cond (nat_le (forms e) 4096) (Means e) (Refused Limit at)

-- a `return` stands in it
abbrev mutual
  pub returns : Statement → Bool
  returns (Return at e) = true
  returns (If at c s t) = returns s || returns t
  returns (Each at k name list s) = returns s
  returns (Block ss) = any_returns ss
  returns Empty = false

  pub any_returns : Statements → Bool
  any_returns no_statements = false
  any_returns (statement s ss) = returns s || any_returns ss

-- a statement out of the blocks in which it stands alone
abbrev pub alone : Statement → Statement
alone (Block (statement s no_statements)) = alone s
alone s = s

-- the value of `return value;`
abbrev pub value_of : Statement → Option Expr
value_of (Return at e) = Some e
value_of s = None

abbrev pub is_empty : Statement → Bool
is_empty Empty = true
is_empty s = false

-- the test and the value of `if (test) return value;`
abbrev pub search_of : Statement → Option (Expr × Expr)
search_of (If at c s t) = cond (is_empty t) (option_map (λ e. (c, e)) (value_of (alone s))) None
search_of s = None

-- the literals and the names by which loops are told apart
pub data Leaf : Type 0 where
  Whether : Bool → Leaf
  Nothing : Leaf
  Named : List ℕ → Leaf
  Other : Leaf

abbrev pub leaf_of : Expr → Leaf
leaf_of (Truth at b) = Whether b
leaf_of (Null at) = Nothing
leaf_of (Name at text) = Named text
leaf_of e = Other

abbrev pub is_nothing : Leaf → Bool
is_nothing Nothing = true
is_nothing l = false

-- `for (K name : list) if (test) return ..;`, at its place
pub record Loop : Type 0 where
  pub at : Place
  pub name : Word
  pub list : Expr
  pub test : Expr

-- whether one of the list passes the test, and the first that does
abbrev pub some : Loop → Expr
some l = Fold l.at Exists l.name l.list l.test

abbrev pub first : Loop → Expr
first l = Fold l.at First l.name l.list l.test

-- where its value is `true` or `false`
abbrev pub whether : Loop → Bool → (rest : Expr) → Expr
whether l b rest = cond b (Binary l.at Or l.at (some l) rest) (Binary l.at And l.at (Not l.at (some l)) rest)

-- where it is another: that of the first that passes the test
abbrev pub found : Loop → (value rest : Expr) → Expr
found l value rest = Choose l.at (some l) l.at (named (name_for l.name.text (first l)) value) rest

-- in front of the rest, by what its value is
abbrev pub sought : Loop → Leaf → (value rest : Expr) → Expr
sought l (Whether b) value rest = whether l b rest
sought l (Named name) value rest = cond (bytes_eq name l.name.text) (cond (is_nothing (leaf_of rest)) (first l) (found l value rest)) (found l value rest)
sought l Nothing value rest = found l value rest
sought l Other value rest = found l value rest

-- the same in front of what the rest means; where a fold stands in its value, a name could be caught
abbrev pub searched : Loop → (value : Expr) → Option Expr → Meaning
searched l value (Some rest) = cond (nat_eq (folds value) 0) (within l.at (sought l (leaf_of value) value rest)) (Refused LeftOut l.at)
searched l value None = cond (nat_eq (folds value) 0) Open (Refused LeftOut l.at)

-- any other loop is left out
abbrev pub loop : Place → Word → Expr → Option (Expr × Expr) → Option Expr → Meaning
loop at name list (Some s) rest = searched (record { at = at; name = name; list = list; test = s.0 }) s.1 rest
loop at name list None rest = Refused LeftOut at

-- both ways of an `if`, with the rest behind each
abbrev pub chosen : Place → Expr → Option Expr → Option Expr → Meaning
chosen at c (Some a) (Some b) = within at (Choose at c at a b)
chosen at c (Some a) None = Open
chosen at c None b = Open

-- an `if` in front of the rest, by what its ways mean in front of it; where no `return` stands in it, its faults would be lost
abbrev pub if_meant : Place → Expr → (any : Bool) → (then other : Meaning) → Meaning
if_meant at c any a b = cond any (behind b (λ y. behind a (λ x. chosen at c x y))) (Refused LeftOut at)

abbrev mutual
  -- in front of what the rest means
  pub meaning : Statement → Option Expr → Meaning
  meaning (Return at e) rest = within at e
  meaning (If at c s t) rest = if_meant at c (returns s || returns t) (meaning s rest) (meaning t rest)
  meaning (Each at kind name list s) rest = loop at name list (search_of (alone s)) rest
  meaning (Block ss) rest = meaning_all ss rest
  meaning Empty rest = meant rest

  pub meaning_all : Statements → Option Expr → Meaning
  meaning_all no_statements rest = meant rest
  meaning_all (statement s ss) rest = behind (meaning_all ss rest) (meaning s)

abbrev pub closed : Place → Meaning → Meaning
closed end (Means e) = Means e
closed end Open = Refused NoValue end
closed end (Refused code at) = Refused code at

-- a body that ends there, of which each way has to end in a `return`
abbrev pub rewritten : Place → Statements → Meaning
rewritten end body = closed end (meaning_all body None)

-- the fault is this refusal; of want of memory nothing is said
abbrev pub IsRefusal : Failure Breach → Meaning → Type 0
IsRefusal (For (At code at)) m = m ≡ Refused code at
IsRefusal (For (Here code)) m = ⊥
IsRefusal Memory m = Unit {0}
