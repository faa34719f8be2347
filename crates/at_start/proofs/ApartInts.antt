-- Each number of what is told apart has 32 bits, where each number in it has.
use Rattle.at_jrag.specs.Syntax.{Expr, Exprs, no_exprs, expr, Number, TextLiteral, Truth, Null, This, Name, Call, CallOf, Paren, Negate, Not, Cast, InstanceOf, Binary, Choose, Fold}
use Rattle.at_typing.proofs.Literals.{AreInts, AreIntsAmong}
use Rattle.at_start.specs.Overloading.{Overloads, apart, all_apart}

module _ (is : Overloads) where
  mutual
    pub apart_ints : (e : Expr) → AreInts e → AreInts (apart is e)
    apart_ints (Number at n) are = are
    apart_ints (TextLiteral at text) are = tt
    apart_ints (Truth at b) are = tt
    apart_ints (Null at) are = tt
    apart_ints (This at) are = tt
    apart_ints (Name at text) are = tt
    apart_ints (Call at name es) are = all_ints es are
    apart_ints (CallOf at e name es) are = (apart_ints e are.0, all_ints es are.1)
    apart_ints (Paren at e) are = apart_ints e are
    apart_ints (Negate at e) are = apart_ints e are
    apart_ints (Not at e) are = apart_ints e are
    apart_ints (Cast at class e) are = apart_ints e are
    apart_ints (InstanceOf at e behind class) are = apart_ints e are
    apart_ints (Binary at operator between a b) are = (apart_ints a are.0, apart_ints b are.1)
    apart_ints (Choose at c behind a b) are = (apart_ints c are.0, apart_ints a are.1, apart_ints b are.2)
    apart_ints (Fold at form name list body) are = (apart_ints list are.0, apart_ints body are.1)

    all_ints : (es : Exprs) → AreIntsAmong es → AreIntsAmong (all_apart is es)
    all_ints no_exprs are = tt
    all_ints (expr e es) are = (apart_ints e are.0, all_ints es are.1)
