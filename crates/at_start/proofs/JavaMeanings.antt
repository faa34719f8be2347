-- Each number of what statements mean has 32 bits, where each number in them has.
use Rattle.std.proofs.Common.{List, Bool, true, false, Option, None, Some, cond}
use Rattle.std.specs.Prelude.{⊤, ℕ, ◌||◌, IfSome, option_map, nat_eq, nat_le}
use Rattle.std.specs.Str.{bytes_eq}
use Rattle.at_text.specs.declared.place.Place.{Place}
use Rattle.at_jrag.specs.Syntax.{Expr, Exprs, no_exprs, expr, Word, Number, TextLiteral, Truth, Null, This, Name, Call, CallOf, Paren, Negate, Not, Cast, InstanceOf, Binary, Choose, Fold}
use Rattle.at_java.specs.Written.{Statement, Statements, no_statements, statement, Return, If, Each, Block, Empty}
use Rattle.at_java.specs.Naming.{Names, name_for, named, named_all, folds, forms}
use Rattle.at_java.specs.Rewriting.{Meaning, Means, Open, Refused, meant, behind, within, returns, alone, value_of, is_empty, search_of, Leaf, Whether, Nothing, Named, Other, leaf_of, is_nothing, Loop, first, whether, found, sought, searched, loop, chosen, if_meant, meaning, meaning_all, closed, rewritten}
use Rattle.at_typing.proofs.Literals.{AreInts, AreIntsAmong}

-- ---- what statements and meanings have in them

abbrev mutual
  pub HasInts : Statement → Type 0
  HasInts (Return at e) = AreInts e
  HasInts (If at c s t) = AreInts c × HasInts s × HasInts t
  HasInts (Each at kind name list s) = AreInts list × HasInts s
  HasInts (Block ss) = HaveInts ss
  HasInts Empty = ⊤

  pub HaveInts : Statements → Type 0
  HaveInts no_statements = ⊤
  HaveInts (statement s ss) = HasInts s × HaveInts ss

abbrev pub MeansInts : Meaning → Type 0
MeansInts (Means e) = AreInts e
MeansInts Open = ⊤
MeansInts (Refused code at) = ⊤

abbrev RestInts : Option Expr → Type 0
RestInts o = IfSome o AreInts

-- ---- names that stand for others

module _ (names : Names) (each : (at : Place) (text : List ℕ) → AreInts (names at text)) where
  mutual
    named_ints : (e : Expr) → AreInts e → AreInts (named names e)
    named_ints (Number at n) is = is
    named_ints (TextLiteral at text) is = tt
    named_ints (Truth at b) is = tt
    named_ints (Null at) is = tt
    named_ints (This at) is = tt
    named_ints (Name at text) is = each at text
    named_ints (Call at name es) is = all_named es is
    named_ints (CallOf at e name es) is = (named_ints e is.0, all_named es is.1)
    named_ints (Paren at e) is = named_ints e is
    named_ints (Negate at e) is = named_ints e is
    named_ints (Not at e) is = named_ints e is
    named_ints (Cast at class e) is = named_ints e is
    named_ints (InstanceOf at e other class) is = named_ints e is
    named_ints (Binary at o between a b) is = (named_ints a is.0, named_ints b is.1)
    named_ints (Choose at c other a b) is = (named_ints c is.0, named_ints a is.1, named_ints b is.2)
    named_ints (Fold at form name list e) is = (named_ints list is.0, named_ints e is.1)

    all_named : (es : Exprs) → AreIntsAmong es → AreIntsAmong (named_all names es)
    all_named no_exprs are = tt
    all_named (expr e es) are = (named_ints e are.0, all_named es are.1)

one_name : (name : List ℕ) (e : Expr) → AreInts e → (at : Place) (text : List ℕ) → AreInts (name_for name e at text)
one_name name e is at text = by (bytes_eq name text)
  where
    by : (b : Bool) → AreInts (cond b e (Name at text))
    by true = is
    by false = tt

-- ---- meanings

meant_ints : (o : Option Expr) → RestInts o → MeansInts (meant o)
meant_ints None is = tt
meant_ints (Some e) is = is

behind_ints : (m : Meaning) (front : Option Expr → Meaning) → MeansInts m → ((o : Option Expr) → RestInts o → MeansInts (front o))
    → MeansInts (behind m front)
behind_ints (Means e) front is each = each (Some e) is
behind_ints Open front is each = each None tt
behind_ints (Refused code at) front is each = tt

either_ints : (b : Bool) (x y : Meaning) → MeansInts x → MeansInts y → MeansInts (cond b x y)
either_ints true x y p q = p
either_ints false x y p q = q

within_ints : (at : Place) (e : Expr) → AreInts e → MeansInts (within at e)
within_ints at e is = either_ints (nat_le (forms e) 4096) _ _ is tt

-- ---- searches

alone_ints : (s : Statement) → HasInts s → HasInts (alone s)
alone_ints (Return at e) is = is
alone_ints (If at c s t) is = is
alone_ints (Each at kind name list s) is = is
alone_ints (Block no_statements) is = is
alone_ints (Block (statement s no_statements)) is = alone_ints s is.0
alone_ints (Block (statement s (statement t ts))) is = is
alone_ints Empty is = tt

value_ints : (s : Statement) → HasInts s → RestInts (value_of s)
value_ints (Return at e) is = is
value_ints (If at c s t) is = tt
value_ints (Each at kind name list s) is = tt
value_ints (Block ss) is = tt
value_ints Empty is = tt

abbrev SearchInts : Option (Expr × Expr) → Type 0
SearchInts o = IfSome o (λ p. AreInts p.0 × AreInts p.1)

search_ints : (s : Statement) → HasInts s → SearchInts (search_of s)
search_ints (Return at e) is = tt
search_ints (If at c s t) is = by (is_empty t)
  where
    with_test : (o : Option Expr) → RestInts o → SearchInts (option_map (λ e. (c, e)) o)
    with_test None fits = tt
    with_test (Some e) fits = (is.0, fits)

    by : (b : Bool) → SearchInts (cond b (option_map (λ e. (c, e)) (value_of (alone s))) None)
    by true = with_test (value_of (alone s)) (value_ints (alone s) (alone_ints s is.1))
    by false = tt
search_ints (Each at kind name list s) is = tt
search_ints (Block ss) is = tt
search_ints Empty is = tt

-- ---- loops

abbrev LoopInts : Loop → Type 0
LoopInts l = AreInts l.list × AreInts l.test

whether_ints : (l : Loop) (b : Bool) (rest : Expr) → LoopInts l → AreInts rest → AreInts (whether l b rest)
whether_ints l true rest is fits = (is, fits)
whether_ints l false rest is fits = (is, fits)

found_ints : (l : Loop) (value rest : Expr) → LoopInts l → AreInts value → AreInts rest → AreInts (found l value rest)
found_ints l value rest is one fits = (is, named_ints (name_for l.name.text (first l)) (one_name l.name.text (first l) is) value one, fits)

sought_ints : (l : Loop) (leaf : Leaf) (value rest : Expr) → LoopInts l → AreInts value → AreInts rest → AreInts (sought l leaf value rest)
sought_ints l (Whether b) value rest is one fits = whether_ints l b rest is fits
sought_ints l (Named name) value rest is one fits = by (bytes_eq name l.name.text) (is_nothing (leaf_of rest))
  where
    by : (a b : Bool) → AreInts (cond a (cond b (first l) (found l value rest)) (found l value rest))
    by true true = is
    by true false = found_ints l value rest is one fits
    by false b = found_ints l value rest is one fits
sought_ints l Nothing value rest is one fits = found_ints l value rest is one fits
sought_ints l Other value rest is one fits = found_ints l value rest is one fits

searched_ints : (l : Loop) (value : Expr) (rest : Option Expr) → LoopInts l → AreInts value → RestInts rest → MeansInts (searched l value rest)
searched_ints l value (Some rest) is one fits =
    either_ints (nat_eq (folds value) 0) _ _ (within_ints l.at (sought l (leaf_of value) value rest) (sought_ints l (leaf_of value) value rest is one fits)) tt
searched_ints l value None is one fits = either_ints (nat_eq (folds value) 0) _ _ tt tt

loop_ints : (at : Place) (name : Word) (list : Expr) (o : Option (Expr × Expr)) (rest : Option Expr) → AreInts list → SearchInts o
    → RestInts rest → MeansInts (loop at name list o rest)
loop_ints at name list (Some s) rest is search fits =
    searched_ints (record { at = at; name = name; list = list; test = s.0 }) s.1 rest (is, search.0) search.1 fits
loop_ints at name list None rest is search fits = tt

-- ---- choices

chosen_ints : (at : Place) (c : Expr) (a b : Option Expr) → AreInts c → RestInts a → RestInts b → MeansInts (chosen at c a b)
chosen_ints at c (Some a) (Some b) is one two = within_ints at (Choose at c at a b) (is, one, two)
chosen_ints at c (Some a) None is one two = tt
chosen_ints at c None (Some b) is one two = tt
chosen_ints at c None None is one two = tt

if_ints : (at : Place) (c : Expr) (any : Bool) (a b : Meaning) → AreInts c → MeansInts a → MeansInts b → MeansInts (if_meant at c any a b)
if_ints at c any a b is one two =
    either_ints any _ _ (behind_ints b _ two (λ y second. behind_ints a _ one (λ x front. chosen_ints at c x y is front second))) tt

-- ---- statements

mutual
  meaning_ints : (s : Statement) (rest : Option Expr) → HasInts s → RestInts rest → MeansInts (meaning s rest)
  meaning_ints (Return at e) rest is fits = within_ints at e is
  meaning_ints (If at c s t) rest is fits =
      if_ints at c (returns s || returns t) (meaning s rest) (meaning t rest) is.0 (meaning_ints s rest is.1 fits) (meaning_ints t rest is.2 fits)
  meaning_ints (Each at kind name list s) rest is fits =
      loop_ints at name list (search_of (alone s)) rest is.0 (search_ints (alone s) (alone_ints s is.1)) fits
  meaning_ints (Block ss) rest is fits = all_ints ss rest is fits
  meaning_ints Empty rest is fits = meant_ints rest fits

  all_ints : (ss : Statements) (rest : Option Expr) → HaveInts ss → RestInts rest → MeansInts (meaning_all ss rest)
  all_ints no_statements rest are fits = meant_ints rest fits
  all_ints (statement s ss) rest are fits =
      behind_ints (meaning_all ss rest) (meaning s) (all_ints ss rest are.1 fits) (λ o following. meaning_ints s o are.0 following)

closed_ints : (end : Place) (m : Meaning) → MeansInts m → MeansInts (closed end m)
closed_ints end (Means e) is = is
closed_ints end Open is = tt
closed_ints end (Refused code at) is = tt

pub rewritten_ints : (end : Place) (ss : Statements) → HaveInts ss → MeansInts (rewritten end ss)
rewritten_ints end ss are = closed_ints end (meaning_all ss None) (all_ints ss None are tt)
