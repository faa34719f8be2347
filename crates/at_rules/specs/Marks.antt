-- Expressions as lists of marks, which give them back: by such a list a value of the model is told from others.
use Rattle.std.specs.Prelude.{◌≡◌, ℕ, ℤ, pos, Bool, true, false, List, [], ◌∷◌, nat_eq, if◌then◌else◌, refl}
use Rattle.std.specs.Coded.{Coded, code_by, coded×, coded_list, coded_ℕ, coded_ℤ}
use Rattle.std.proofs.Common.{ap, ◌∙◌}
use Rattle.at_model.specs.Drawers.{Key}
use Rattle.at_model.specs.Bodies.{Expr, Exprs, Operator, Order, Multiply, Divide, Remainder, Add, Subtract, Below, AtMost, Above, AtLeast, IntLiteral, TruthLiteral, TextLiteral, NullLiteral, This, Name, IndexName, Negate, Not, Arithmetic, Compare, Join, JoinInt, Same, Differ, And, Or, Choose, Equals, InstanceOf, CastTo, Child, Element, Count, Has, TokenOf, Call, Exists, First, Sum, SeekAny, SeekFirst, Fold, AnyOf, FirstOf, SumOf, Gather, Close, Listed, Only, Union, Contains, Over, Children, Parent, Passed, no_exprs, expr}

-- the number of a form, and what of it is no expression
abbrev pub Mark : Type 0
Mark = ℕ × (List ℕ × ℤ)

abbrev pub plain_mark : ℕ → Mark
plain_mark form = (form, ([], pos 0))

abbrev pub truth_number : Bool → ℕ
truth_number false = 0
truth_number true = 1

abbrev pub operator_number : Operator → ℕ
operator_number Multiply = 0
operator_number Divide = 1
operator_number Remainder = 2
operator_number Add = 3
operator_number Subtract = 4

abbrev pub operator_at : ℕ → Operator
operator_at n = if nat_eq n 0 then Multiply else (if nat_eq n 1 then Divide else (if nat_eq n 2 then Remainder else (if nat_eq n 3 then Add else Subtract)))

abbrev pub order_number : Order → ℕ
order_number Below = 0
order_number AtMost = 1
order_number Above = 2
order_number AtLeast = 3

abbrev pub order_at : ℕ → Order
order_at n = if nat_eq n 0 then Below else (if nat_eq n 1 then AtMost else (if nat_eq n 2 then Above else AtLeast))

abbrev pub fold_number : Fold → ℕ
fold_number AnyOf = 0
fold_number FirstOf = 1
fold_number SumOf = 2
fold_number Gather = 3
fold_number Close = 4

abbrev pub fold_at : ℕ → Fold
fold_at n = if nat_eq n 0 then AnyOf else (if nat_eq n 1 then FirstOf else (if nat_eq n 2 then SumOf else (if nat_eq n 3 then Gather else Close)))

abbrev pub first_of : List ℕ → ℕ
first_of [] = 0
first_of (n ∷ ns) = n

abbrev pub past_first : List ℕ → List ℕ
past_first [] = []
past_first (n ∷ ns) = ns

-- the number of a component, and then those of a key
abbrev pub with_key : ℕ → Key → List ℕ
with_key n key = n ∷ key.first ∷ key.classes ∷ key.token ∷ []

-- the key behind the number of a component
abbrev pub key_in : List ℕ → Key
key_in ns = record {
  first = first_of (past_first ns);
  classes = first_of (past_first (past_first ns));
  token = first_of (past_first (past_first (past_first ns)));
}

-- the marks of an expression before those behind it
abbrev mutual
  pub marks : Expr → List Mark → List Mark
  marks (IntLiteral z) tail = (0, ([], z)) ∷ tail
  marks (TruthLiteral t) tail = (1, (truth_number t ∷ [], pos 0)) ∷ tail
  marks (TextLiteral text) tail = (2, (text, pos 0)) ∷ tail
  marks NullLiteral tail = plain_mark 3 ∷ tail
  marks This tail = plain_mark 4 ∷ tail
  marks (Name n) tail = (5, (n ∷ [], pos 0)) ∷ tail
  marks IndexName tail = plain_mark 6 ∷ tail
  marks (Negate a) tail = plain_mark 7 ∷ marks a tail
  marks (Not a) tail = plain_mark 8 ∷ marks a tail
  marks (Arithmetic o a b) tail = (9, (operator_number o ∷ [], pos 0)) ∷ marks a (marks b tail)
  marks (Compare o a b) tail = (10, (order_number o ∷ [], pos 0)) ∷ marks a (marks b tail)
  marks (Join a b) tail = plain_mark 11 ∷ marks a (marks b tail)
  marks (JoinInt a b) tail = plain_mark 12 ∷ marks a (marks b tail)
  marks (Same a b) tail = plain_mark 13 ∷ marks a (marks b tail)
  marks (Differ a b) tail = plain_mark 14 ∷ marks a (marks b tail)
  marks (And a b) tail = plain_mark 15 ∷ marks a (marks b tail)
  marks (Or a b) tail = plain_mark 16 ∷ marks a (marks b tail)
  marks (Choose a b c) tail = plain_mark 17 ∷ marks a (marks b (marks c tail))
  marks (Equals a b) tail = plain_mark 18 ∷ marks a (marks b tail)
  marks (InstanceOf a n) tail = (19, (n ∷ [], pos 0)) ∷ marks a tail
  marks (CastTo n a) tail = (20, (n ∷ [], pos 0)) ∷ marks a tail
  marks (Child a n) tail = (21, (n ∷ [], pos 0)) ∷ marks a tail
  marks (Element a n b) tail = (22, (n ∷ [], pos 0)) ∷ marks a (marks b tail)
  marks (Count a n) tail = (23, (n ∷ [], pos 0)) ∷ marks a tail
  marks (Has a n) tail = (24, (n ∷ [], pos 0)) ∷ marks a tail
  marks (TokenOf a n) tail = (25, (n ∷ [], pos 0)) ∷ marks a tail
  marks (Call a n es) tail = (26, (n ∷ [], pos 0)) ∷ marks a (marks_of_row es tail)
  marks (Exists a n b) tail = (27, (n ∷ [], pos 0)) ∷ marks a (marks b tail)
  marks (First a n b) tail = (28, (n ∷ [], pos 0)) ∷ marks a (marks b tail)
  marks (Sum a n b) tail = (29, (n ∷ [], pos 0)) ∷ marks a (marks b tail)
  marks (Listed a n) tail = (32, (n ∷ [], pos 0)) ∷ marks a tail
  marks (Only a) tail = plain_mark 33 ∷ marks a tail
  marks (Union a b) tail = plain_mark 34 ∷ marks a (marks b tail)
  marks (Contains a b) tail = plain_mark 35 ∷ marks a (marks b tail)
  marks (Over f a b) tail = (36, (fold_number f ∷ [], pos 0)) ∷ marks a (marks b tail)
  marks (Children a) tail = plain_mark 37 ∷ marks a tail
  marks (Parent a) tail = plain_mark 38 ∷ marks a tail
  marks (Passed a) tail = plain_mark 39 ∷ marks a tail
  marks (SeekAny a n key b c) tail = (40, (with_key n key, pos 0)) ∷ marks a (marks b (marks c tail))
  marks (SeekFirst a n key b c) tail = (41, (with_key n key, pos 0)) ∷ marks a (marks b (marks c tail))

  pub marks_of_row : Exprs → List Mark → List Mark
  marks_of_row no_exprs tail = plain_mark 30 ∷ tail
  marks_of_row (expr a es) tail = plain_mark 31 ∷ marks a (marks_of_row es tail)

-- the parts that are read so far, from the end
pub data Part : Type 0 where
  of_expr : Expr → Part
  of_exprs : Exprs → Part

abbrev pub as_expr : List Part → Expr
as_expr (of_expr e ∷ ps) = e
as_expr ps = NullLiteral

abbrev pub as_exprs : List Part → Exprs
as_exprs (of_exprs es ∷ ps) = es
as_exprs ps = no_exprs

abbrev pub behind : List Part → List Part
behind [] = []
behind (p ∷ ps) = ps

-- the forms of nodes, of arguments and of drawers
abbrev pub read_nodes : Mark → List Part → List Part
read_nodes m ps =
    if nat_eq m.0 32 then of_expr (Listed (as_expr ps) (first_of m.1.0)) ∷ behind ps
    else (if nat_eq m.0 33 then of_expr (Only (as_expr ps)) ∷ behind ps
    else (if nat_eq m.0 34 then of_expr (Union (as_expr ps) (as_expr (behind ps))) ∷ behind (behind ps)
    else (if nat_eq m.0 35 then of_expr (Contains (as_expr ps) (as_expr (behind ps))) ∷ behind (behind ps)
    else (if nat_eq m.0 36 then of_expr (Over (fold_at (first_of m.1.0)) (as_expr ps) (as_expr (behind ps))) ∷ behind (behind ps)
    else (if nat_eq m.0 37 then of_expr (Children (as_expr ps)) ∷ behind ps
    else (if nat_eq m.0 38 then of_expr (Parent (as_expr ps)) ∷ behind ps
    else (if nat_eq m.0 39 then of_expr (Passed (as_expr ps)) ∷ behind ps
    else (if nat_eq m.0 40 then of_expr (SeekAny (as_expr ps) (first_of m.1.0) (key_in m.1.0)
    (as_expr (behind ps)) (as_expr (behind (behind ps)))) ∷ behind (behind (behind ps))
    else of_expr (SeekFirst (as_expr ps) (first_of m.1.0) (key_in m.1.0)
    (as_expr (behind ps)) (as_expr (behind (behind ps)))) ∷ behind (behind (behind ps))))))))))

abbrev pub read : Mark → List Part → List Part
read m ps =
    if nat_eq m.0 0 then of_expr (IntLiteral m.1.1) ∷ ps
    else (if nat_eq m.0 1 then of_expr (TruthLiteral (nat_eq (first_of m.1.0) 1)) ∷ ps
    else (if nat_eq m.0 2 then of_expr (TextLiteral m.1.0) ∷ ps
    else (if nat_eq m.0 3 then of_expr NullLiteral ∷ ps
    else (if nat_eq m.0 4 then of_expr This ∷ ps
    else (if nat_eq m.0 5 then of_expr (Name (first_of m.1.0)) ∷ ps
    else (if nat_eq m.0 6 then of_expr IndexName ∷ ps
    else (if nat_eq m.0 7 then of_expr (Negate (as_expr ps)) ∷ behind ps
    else (if nat_eq m.0 8 then of_expr (Not (as_expr ps)) ∷ behind ps
    else (if nat_eq m.0 9 then of_expr (Arithmetic (operator_at (first_of m.1.0)) (as_expr ps) (as_expr (behind ps))) ∷ behind (behind ps)
    else (if nat_eq m.0 10 then of_expr (Compare (order_at (first_of m.1.0)) (as_expr ps) (as_expr (behind ps))) ∷ behind (behind ps)
    else (if nat_eq m.0 11 then of_expr (Join (as_expr ps) (as_expr (behind ps))) ∷ behind (behind ps)
    else (if nat_eq m.0 12 then of_expr (JoinInt (as_expr ps) (as_expr (behind ps))) ∷ behind (behind ps)
    else (if nat_eq m.0 13 then of_expr (Same (as_expr ps) (as_expr (behind ps))) ∷ behind (behind ps)
    else (if nat_eq m.0 14 then of_expr (Differ (as_expr ps) (as_expr (behind ps))) ∷ behind (behind ps)
    else (if nat_eq m.0 15 then of_expr (And (as_expr ps) (as_expr (behind ps))) ∷ behind (behind ps)
    else (if nat_eq m.0 16 then of_expr (Or (as_expr ps) (as_expr (behind ps))) ∷ behind (behind ps)
    else (if nat_eq m.0 17 then of_expr (Choose (as_expr ps) (as_expr (behind ps)) (as_expr (behind (behind ps)))) ∷ behind (behind (behind ps))
    else (if nat_eq m.0 18 then of_expr (Equals (as_expr ps) (as_expr (behind ps))) ∷ behind (behind ps)
    else (if nat_eq m.0 19 then of_expr (InstanceOf (as_expr ps) (first_of m.1.0)) ∷ behind ps
    else (if nat_eq m.0 20 then of_expr (CastTo (first_of m.1.0) (as_expr ps)) ∷ behind ps
    else (if nat_eq m.0 21 then of_expr (Child (as_expr ps) (first_of m.1.0)) ∷ behind ps
    else (if nat_eq m.0 22 then of_expr (Element (as_expr ps) (first_of m.1.0) (as_expr (behind ps))) ∷ behind (behind ps)
    else (if nat_eq m.0 23 then of_expr (Count (as_expr ps) (first_of m.1.0)) ∷ behind ps
    else (if nat_eq m.0 24 then of_expr (Has (as_expr ps) (first_of m.1.0)) ∷ behind ps
    else (if nat_eq m.0 25 then of_expr (TokenOf (as_expr ps) (first_of m.1.0)) ∷ behind ps
    else (if nat_eq m.0 26 then of_expr (Call (as_expr ps) (first_of m.1.0) (as_exprs (behind ps))) ∷ behind (behind ps)
    else (if nat_eq m.0 27 then of_expr (Exists (as_expr ps) (first_of m.1.0) (as_expr (behind ps))) ∷ behind (behind ps)
    else (if nat_eq m.0 28 then of_expr (First (as_expr ps) (first_of m.1.0) (as_expr (behind ps))) ∷ behind (behind ps)
    else (if nat_eq m.0 29 then of_expr (Sum (as_expr ps) (first_of m.1.0) (as_expr (behind ps))) ∷ behind (behind ps)
    else (if nat_eq m.0 30 then of_exprs no_exprs ∷ ps
    else (if nat_eq m.0 31 then of_exprs (expr (as_expr ps) (as_exprs (behind ps))) ∷ behind (behind ps)
    else read_nodes m ps)))))))))))))))))))))))))))))))

abbrev pub read_all : List Mark → List Part
read_all [] = []
read_all (m ∷ ms) = read m (read_all ms)

same_truth : (t : Bool) → nat_eq (truth_number t) 1 ≡ t
same_truth true = refl
same_truth false = refl

same_operator : (o : Operator) → operator_at (operator_number o) ≡ o
same_operator Multiply = refl
same_operator Divide = refl
same_operator Remainder = refl
same_operator Add = refl
same_operator Subtract = refl

same_order : (o : Order) → order_at (order_number o) ≡ o
same_order Below = refl
same_order AtMost = refl
same_order Above = refl
same_order AtLeast = refl

same_fold : (f : Fold) → fold_at (fold_number f) ≡ f
same_fold AnyOf = refl
same_fold FirstOf = refl
same_fold SumOf = refl
same_fold Gather = refl
same_fold Close = refl

mutual
  pub read_marks : (e : Expr) (tail : List Mark) → read_all (marks e tail) ≡ of_expr e ∷ read_all tail
  read_marks (IntLiteral z) tail = refl
  read_marks (TruthLiteral t) tail = ap (λ x. of_expr (TruthLiteral x) ∷ read_all tail) (same_truth t)
  read_marks (TextLiteral text) tail = refl
  read_marks NullLiteral tail = refl
  read_marks This tail = refl
  read_marks (Name n) tail = refl
  read_marks IndexName tail = refl
  read_marks (Negate a) tail = ap (read (plain_mark 7)) (read_marks a tail)
  read_marks (Not a) tail = ap (read (plain_mark 8)) (read_marks a tail)
  read_marks (Arithmetic o a b) tail =
      ap (read (9, (operator_number o ∷ [], pos 0))) (read_marks a (marks b tail) ∙ ap (λ ps. of_expr a ∷ ps) (read_marks b tail))
      ∙ ap (λ x. of_expr (Arithmetic x a b) ∷ read_all tail) (same_operator o)
  read_marks (Compare o a b) tail =
      ap (read (10, (order_number o ∷ [], pos 0))) (read_marks a (marks b tail) ∙ ap (λ ps. of_expr a ∷ ps) (read_marks b tail))
      ∙ ap (λ x. of_expr (Compare x a b) ∷ read_all tail) (same_order o)
  read_marks (Join a b) tail = ap (read (plain_mark 11)) (read_marks a (marks b tail) ∙ ap (λ ps. of_expr a ∷ ps) (read_marks b tail))
  read_marks (JoinInt a b) tail = ap (read (plain_mark 12)) (read_marks a (marks b tail) ∙ ap (λ ps. of_expr a ∷ ps) (read_marks b tail))
  read_marks (Same a b) tail = ap (read (plain_mark 13)) (read_marks a (marks b tail) ∙ ap (λ ps. of_expr a ∷ ps) (read_marks b tail))
  read_marks (Differ a b) tail = ap (read (plain_mark 14)) (read_marks a (marks b tail) ∙ ap (λ ps. of_expr a ∷ ps) (read_marks b tail))
  read_marks (And a b) tail = ap (read (plain_mark 15)) (read_marks a (marks b tail) ∙ ap (λ ps. of_expr a ∷ ps) (read_marks b tail))
  read_marks (Or a b) tail = ap (read (plain_mark 16)) (read_marks a (marks b tail) ∙ ap (λ ps. of_expr a ∷ ps) (read_marks b tail))
  read_marks (Choose a b c) tail =
      ap (read (plain_mark 17))
      (read_marks a (marks b (marks c tail)) ∙ ap (λ ps. of_expr a ∷ ps) (read_marks b (marks c tail) ∙ ap (λ ps. of_expr b ∷ ps) (read_marks c tail)))
  read_marks (Equals a b) tail = ap (read (plain_mark 18)) (read_marks a (marks b tail) ∙ ap (λ ps. of_expr a ∷ ps) (read_marks b tail))
  read_marks (InstanceOf a n) tail = ap (read (19, (n ∷ [], pos 0))) (read_marks a tail)
  read_marks (CastTo n a) tail = ap (read (20, (n ∷ [], pos 0))) (read_marks a tail)
  read_marks (Child a n) tail = ap (read (21, (n ∷ [], pos 0))) (read_marks a tail)
  read_marks (Element a n b) tail = ap (read (22, (n ∷ [], pos 0))) (read_marks a (marks b tail) ∙ ap (λ ps. of_expr a ∷ ps) (read_marks b tail))
  read_marks (Count a n) tail = ap (read (23, (n ∷ [], pos 0))) (read_marks a tail)
  read_marks (Has a n) tail = ap (read (24, (n ∷ [], pos 0))) (read_marks a tail)
  read_marks (TokenOf a n) tail = ap (read (25, (n ∷ [], pos 0))) (read_marks a tail)
  read_marks (Call a n es) tail = ap (read (26, (n ∷ [], pos 0))) (read_marks a (marks_of_row es tail) ∙ ap (λ ps. of_expr a ∷ ps) (read_row es tail))
  read_marks (Exists a n b) tail = ap (read (27, (n ∷ [], pos 0))) (read_marks a (marks b tail) ∙ ap (λ ps. of_expr a ∷ ps) (read_marks b tail))
  read_marks (First a n b) tail = ap (read (28, (n ∷ [], pos 0))) (read_marks a (marks b tail) ∙ ap (λ ps. of_expr a ∷ ps) (read_marks b tail))
  read_marks (Sum a n b) tail = ap (read (29, (n ∷ [], pos 0))) (read_marks a (marks b tail) ∙ ap (λ ps. of_expr a ∷ ps) (read_marks b tail))
  read_marks (Listed a n) tail = ap (read (32, (n ∷ [], pos 0))) (read_marks a tail)
  read_marks (Only a) tail = ap (read (plain_mark 33)) (read_marks a tail)
  read_marks (Union a b) tail = ap (read (plain_mark 34)) (read_marks a (marks b tail) ∙ ap (λ ps. of_expr a ∷ ps) (read_marks b tail))
  read_marks (Contains a b) tail = ap (read (plain_mark 35)) (read_marks a (marks b tail) ∙ ap (λ ps. of_expr a ∷ ps) (read_marks b tail))
  read_marks (Over f a b) tail =
      ap (read (36, (fold_number f ∷ [], pos 0))) (read_marks a (marks b tail) ∙ ap (λ ps. of_expr a ∷ ps) (read_marks b tail))
      ∙ ap (λ x. of_expr (Over x a b) ∷ read_all tail) (same_fold f)
  read_marks (Children a) tail = ap (read (plain_mark 37)) (read_marks a tail)
  read_marks (Parent a) tail = ap (read (plain_mark 38)) (read_marks a tail)
  read_marks (Passed a) tail = ap (read (plain_mark 39)) (read_marks a tail)
  read_marks (SeekAny a n key b c) tail =
      ap (read (40, (with_key n key, pos 0)))
      (read_marks a (marks b (marks c tail)) ∙ ap (λ ps. of_expr a ∷ ps) (read_marks b (marks c tail) ∙ ap (λ ps. of_expr b ∷ ps) (read_marks c tail)))
  read_marks (SeekFirst a n key b c) tail =
      ap (read (41, (with_key n key, pos 0)))
      (read_marks a (marks b (marks c tail)) ∙ ap (λ ps. of_expr a ∷ ps) (read_marks b (marks c tail) ∙ ap (λ ps. of_expr b ∷ ps) (read_marks c tail)))

  read_row : (es : Exprs) (tail : List Mark) → read_all (marks_of_row es tail) ≡ of_exprs es ∷ read_all tail
  read_row no_exprs tail = refl
  read_row (expr a es) tail = ap (read (plain_mark 31)) (read_marks a (marks_of_row es tail) ∙ ap (λ ps. of_expr a ∷ ps) (read_row es tail))

abbrev pub expr_code : Coded Expr
expr_code =
    code_by
    (List Mark)
    (coded_list (coded× coded_ℕ (coded× (coded_list coded_ℕ) coded_ℤ)))
    (λ e. marks e [])
    (λ ms. as_expr (read_all ms))
    (λ e. ap as_expr (read_marks e []))
