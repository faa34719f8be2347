-- What statements mean has no more forms than a body may.
use Rattle.std.proofs.Common.{◌≡◌, ◌≤◌, Bool, true, false, cond, refl, sym, subst, Option, Some, None}
use Rattle.std.specs.Prelude.{◌||◌, nat_eq, nat_le}
use Rattle.std.proofs.lemmas.Bool.{leb-true}
use Rattle.at_text.specs.declared.place.Place.{Place}
use Rattle.at_jrag.specs.Syntax.{Expr, Word}
use Rattle.at_jrag.specs.Syntax as syntax
use Rattle.at_java.specs.Naming.{forms, folds}
use Rattle.at_java.specs.Written.{Statement, Statements, no_statements, statement, Return, If, Each, Block, Empty}
use Rattle.at_java.specs.Rewriting.{Meaning, Means, Open, Refused, meant, behind, within, chosen, closed, loop, Loop, searched, search_of, alone, sought, leaf_of, if_meant, meaning, meaning_all, returns, rewritten}
use Rattle.at_java.specs.declared.JavaCode.TheVariants.{LeftOut, Limit}

abbrev pub IsSmall : Meaning → Type 0
IsSmall (Means e) = forms e ≤ 4096
IsSmall Open = Unit {0}
IsSmall (Refused code at) = Unit {0}

small_within : (at : Place) (x : Expr) → IsSmall (within at x)
small_within at x = by (nat_le (forms x) 4096) refl
  where
    by : (b : Bool) → nat_le (forms x) 4096 ≡ b → IsSmall (within at x)
    by true e = subst (λ b. IsSmall (cond b (Means x) (Refused Limit at))) (sym e) (leb-true (forms x) 4096 e)
    by false e = subst (λ b. IsSmall (cond b (Means x) (Refused Limit at))) (sym e) (tt {0})

small_cond : (b : Bool) (m n : Meaning) → IsSmall m → IsSmall n → IsSmall (cond b m n)
small_cond true m n h k = h
small_cond false m n h k = k

small_behind : (m : Meaning) (f : Option Expr → Meaning) → IsSmall m → ((o : Option Expr) → IsSmall (meant o) → IsSmall (f o)) → IsSmall (behind m f)
small_behind (Means e) f h each = each (Some e) h
small_behind Open f h each = each None (tt {0})
small_behind (Refused code at) f h each = tt {0}

small_chosen : (at : Place) (c : Expr) (x y : Option Expr) → IsSmall (chosen at c x y)
small_chosen at c (Some a) (Some b) = small_within at (syntax.Choose at c at a b)
small_chosen at c (Some a) None = tt {0}
small_chosen at c None y = tt {0}

small_if : (at : Place) (c : Expr) (any : Bool) (a b : Meaning) → IsSmall a → IsSmall b → IsSmall (if_meant at c any a b)
small_if at c any a b h k =
    small_cond any (behind b (λ y. behind a (λ x. chosen at c x y))) (Refused LeftOut at)
    (small_behind b (λ y. behind a (λ x. chosen at c x y)) k (λ y _. small_behind a (λ x. chosen at c x y) h (λ x _. small_chosen at c x y))) (tt {0})

small_searched : (l : Loop) (value : Expr) (rest : Option Expr) → IsSmall (searched l value rest)
small_searched l value (Some r) =
    small_cond (nat_eq (folds value) 0) (within l.at (sought l (leaf_of value) value r)) (Refused LeftOut l.at) (small_within l.at (sought l (leaf_of value) value r)) (tt {0})
small_searched l value None = small_cond (nat_eq (folds value) 0) Open (Refused LeftOut l.at) (tt {0}) (tt {0})

small_loop : (at : Place) (name : Word) (list : Expr) (found : Option (Expr × Expr)) (rest : Option Expr) → IsSmall (loop at name list found rest)
small_loop at name list (Some s) rest = small_searched (record { at = at; name = name; list = list; test = s.0 }) s.1 rest
small_loop at name list None rest = tt {0}

mutual
  small_one : (s : Statement) (rest : Option Expr) → IsSmall (meant rest) → IsSmall (meaning s rest)
  small_one (Return at e) rest h = small_within at e
  small_one (If at c s t) rest h = small_if at c (returns s || returns t) (meaning s rest) (meaning t rest) (small_one s rest h) (small_one t rest h)
  small_one (Each at kind name list s) rest h = small_loop at name list (search_of (alone s)) rest
  small_one (Block ss) rest h = small_all ss rest h
  small_one Empty rest h = h

  small_all : (ss : Statements) (rest : Option Expr) → IsSmall (meant rest) → IsSmall (meaning_all ss rest)
  small_all no_statements rest h = h
  small_all (statement s ss) rest h = small_behind (meaning_all ss rest) (meaning s) (small_all ss rest h) (λ o k. small_one s o k)

small_closed : (end : Place) (m : Meaning) → IsSmall m → IsSmall (closed end m)
small_closed end (Means e) h = h
small_closed end Open h = tt {0}
small_closed end (Refused code at) h = tt {0}

pub small_body : (end : Place) (body : Statements) (e : Expr) → rewritten end body ≡ Means e → forms e ≤ 4096
small_body end body e is = subst IsSmall is (small_closed end (meaning_all body None) (small_all body None (tt {0})))
