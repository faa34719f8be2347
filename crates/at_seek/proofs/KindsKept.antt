-- What is searched keeps its kind.
use Rattle.std.proofs.Common.{◌≡◌, ℕ, suc, List, [], ◌∷◌, Some, refl, sym, ap, ◌∙◌, subst}
use Rattle.std.specs.List.{slice_get}
use Rattle.at_model.specs.Drawers.{Key}
use Rattle.at_model.specs.Bodies.{Expr, Exprs, no_exprs, expr, Name, Negate, Not, Operator, Arithmetic, Order, Compare, Join, JoinInt, Same, Differ, And, Or, Choose, Equals, InstanceOf, CastTo, Child, Element, Count, Has, TokenOf, Call, Exists, First, Sum, SeekAny, SeekFirst, Fold, Listed, Only, Union, Contains, Over, Children, Parent, Passed}
use Rattle.at_model.specs.Rules.{Rules, Kind, Text, Truth, Int, Class, Nodes, Attribute, OwnEquation, InheritedEquation}
use Rattle.at_model.specs.Kinds.{ScopeKinds, HasKind, HaveKinds, bound_kinds, IsArgumentForm}
use Rattle.at_model.specs.Kinds as has
use Rattle.at_seek.specs.Sought.{IsSearched, IsSearchedIn, IsSearchedOver, AreSearched, IsSoughtText, literal, name, BeginsByKey, IsOfText}
use Rattle.at_seek.specs.Sought as searched

-- of a test by a key its text is a text ---------------------------------------------------------------------------------

module _ (rules : Rules) where
  left_truth : (s : ScopeKinds) (a b : Expr) (k : Kind) → HasKind rules s (And a b) k → HasKind rules s a Truth
  left_truth s a b _ (has.widened c d sub x) = left_truth s a b (Class c) x
  left_truth s a b _ (has.widened_all c d sub x) = left_truth s a b (Nodes c) x
  left_truth s a b _ (has.and x y) = x

  left_text : (s : ScopeKinds) (a b : Expr) (k : Kind) → HasKind rules s (Equals a b) k → HasKind rules s a Text
  left_text s a b _ (has.widened c d sub x) = left_text s a b (Class c) x
  left_text s a b _ (has.widened_all c d sub x) = left_text s a b (Nodes c) x
  left_text s a b _ (has.equals x y) = x

  right_text : (s : ScopeKinds) (a b : Expr) (k : Kind) → HasKind rules s (Equals a b) k → HasKind rules s b Text
  right_text s a b _ (has.widened c d sub x) = right_text s a b (Class c) x
  right_text s a b _ (has.widened_all c d sub x) = right_text s a b (Nodes c) x
  right_text s a b _ (has.equals x y) = y

  first_argument : (s : ScopeKinds) (u : Expr) (k : Kind) → HaveKinds rules s (expr u no_exprs) (k ∷ []) → HasKind rules s u k
  first_argument s u k (has.argument form x more) = x

  one_declaration : (a : ℕ) (d e : Attribute) → slice_get rules.attributes a ≡ Some d → slice_get rules.attributes a ≡ Some e → d ≡ e
  one_declaration a d e f g = let h : Some d ≡ Some e = sym f ∙ g in cc

  argument_text : (s : ScopeKinds) (a : Expr) (es : Exprs) (attribute : ℕ) (k : Kind) → IsOfText rules attribute → HasKind rules s (Call a attribute es) k
      → HaveKinds rules s es (Text ∷ [])
  argument_text s a es attribute _ text (has.widened c d sub x) = argument_text s a es attribute (Class c) text x
  argument_text s a es attribute _ text (has.widened_all c d sub x) = argument_text s a es attribute (Nodes c) text x
  argument_text s a es attribute _ text (has.call c _ d e sub x ys) =
      subst (λ ks. HaveKinds rules s es ks) (ap (λ (z : Attribute). z.parameters) (one_declaration attribute d text.0 e text.1) ∙ text.2) ys

  pub text_in : (s : ScopeKinds) (key : Key) (element : ℕ) (u e : Expr) (k : Kind) → BeginsByKey rules key element u e → HasKind rules s e k → HasKind rules s u Text
  text_in s key element u _ k (searched.token keyed) h = right_text s _ u k h
  text_in s key element u _ k (searched.turned keyed) h = left_text s u _ k h
  text_in s key element u _ k (searched.attribute a tests) h = first_argument s u Text (argument_text s (Name 0) (expr u no_exprs) a k tests.text h)
  text_in s key element u _ k (searched.and {e = e} {f = f} begins) h = text_in s key element u e Truth begins (left_truth s e f k h)

  named_kind : (s : ScopeKinds) (i : ℕ) (k : Kind) → HasKind rules s (Name i) k → k ≡ Text → slice_get s.names i ≡ Some Text
  named_kind s i _ (has.widened c d sub x) e = absurd cc
  named_kind s i _ (has.widened_all c d sub x) e = absurd cc
  named_kind s i k (has.name _ f) e = f ∙ ap Some e

  -- and so is the text in front of the braces
  pub text_outside : (s r : ScopeKinds) (b : ℕ) (t u : Expr) → IsSoughtText r t u → HasKind rules (bound_kinds s b) u Text → HasKind rules s t Text
  text_outside s r b _ _ (literal bytes) h = has.text_literal bytes
  text_outside s r b _ _ (name i e) h = has.name i (named_kind (bound_kinds s b) (suc i) Text h refl)

-- the same kinds by rules with other equations --------------------------------------------------------------------------

module _ (rules : Rules) (own : List OwnEquation) (inherited : List InheritedEquation) where
  abbrev pub other : Rules
  other = record rules { own = own; inherited = inherited }

  mutual
    pub moved : (s : ScopeKinds) (e : Expr) (k : Kind) → HasKind rules s e k → HasKind other s e k
    moved s e _ (has.widened c d sub x) = has.widened c d sub (moved s e (Class c) x)
    moved s e _ (has.widened_all c d sub x) = has.widened_all c d sub (moved s e (Nodes c) x)
    moved s _ _ (has.int_literal n f) = has.int_literal n f
    moved s _ _ (has.truth_literal t) = has.truth_literal t
    moved s _ _ (has.text_literal bytes) = has.text_literal bytes
    moved s _ _ (has.null_literal c) = has.null_literal c
    moved s _ _ has.this = has.this
    moved s _ k (has.name i e) = has.name i e
    moved s _ _ (has.index_name e) = has.index_name e
    moved s _ _ (has.negate {a = a} x) = has.negate (moved s a Int x)
    moved s _ _ (has.opposite {a = a} x) = has.opposite (moved s a Truth x)
    moved s _ _ (has.arithmetic {a = a} {b = b} o x y) = has.arithmetic o (moved s a Int x) (moved s b Int y)
    moved s _ _ (has.compare {a = a} {b = b} o x y) = has.compare o (moved s a Int x) (moved s b Int y)
    moved s _ _ (has.join {a = a} {b = b} x y) = has.join (moved s a Text x) (moved s b Text y)
    moved s _ _ (has.join_int {a = a} {b = b} x y) = has.join_int (moved s a Text x) (moved s b Int y)
    moved s _ _ (has.same {a = a} {b = b} k l alike x y) = has.same k l alike (moved s a k x) (moved s b l y)
    moved s _ _ (has.differ {a = a} {b = b} k l alike x y) = has.differ k l alike (moved s a k x) (moved s b l y)
    moved s _ _ (has.and {a = a} {b = b} x y) = has.and (moved s a Truth x) (moved s b Truth y)
    moved s _ _ (has.or {a = a} {b = b} x y) = has.or (moved s a Truth x) (moved s b Truth y)
    moved s _ _ (has.choose {c = c} {a = a} {b = b} k x y z) = has.choose k (moved s c Truth x) (moved s a k y) (moved s b k z)
    moved s _ _ (has.equals {a = a} {b = b} x y) = has.equals (moved s a Text x) (moved s b Text y)
    moved s _ _ (has.instance_of {a = a} c class there x) = has.instance_of c class there (moved s a (Class c) x)
    moved s _ _ (has.cast_to {a = a} c class there x) = has.cast_to c class there (moved s a (Class c) x)
    moved s _ _ (has.child {a = a} c part b e x) = has.child c part b e (moved s a (Class c) x)
    moved s _ _ (has.element {a = a} {i = i} c part b e x y) = has.element c part b e (moved s a (Class c) x) (moved s i Int y)
    moved s _ _ (has.count {a = a} c part b e x) = has.count c part b e (moved s a (Class c) x)
    moved s _ _ (has.has {a = a} c part b e x) = has.has c part b e (moved s a (Class c) x)
    moved s _ _ (has.token_of {a = a} c part k e x) = has.token_of c part k e (moved s a (Class c) x)
    moved s _ _ (has.call {a = a} {es = es} c attribute d e sub x ys) =
        has.call c attribute d e sub (moved s a (Class c) x) (all_moved s es d.parameters ys)
    moved s _ _ (has.exists {a = a} {e = f} c part b e x y) = has.exists c part b e (moved s a (Class c) x) (moved (bound_kinds s b) f Truth y)
    moved s _ _ (has.first {a = a} {e = f} c part b e x y) = has.first c part b e (moved s a (Class c) x) (moved (bound_kinds s b) f Truth y)
    moved s _ _ (has.sum {a = a} {e = f} c part b e x y) = has.sum c part b e (moved s a (Class c) x) (moved (bound_kinds s b) f Int y)
    moved s _ _ (has.listed {a = a} c part b e x) = has.listed c part b e (moved s a (Class c) x)
    moved s _ _ (has.only {a = a} c x) = has.only c (moved s a (Class c) x)
    moved s _ _ (has.union {a = a} {b = b} c x y) = has.union c (moved s a (Nodes c) x) (moved s b (Nodes c) y)
    moved s _ _ (has.contains {a = a} {b = b} c d x y) = has.contains c d (moved s a (Nodes c) x) (moved s b (Class d) y)
    moved s _ _ (has.any_of {a = a} {e = f} b x y) = has.any_of b (moved s a (Nodes b) x) (moved (bound_kinds s b) f Truth y)
    moved s _ _ (has.first_of {a = a} {e = f} b x y) = has.first_of b (moved s a (Nodes b) x) (moved (bound_kinds s b) f Truth y)
    moved s _ _ (has.sum_of {a = a} {e = f} b x y) = has.sum_of b (moved s a (Nodes b) x) (moved (bound_kinds s b) f Int y)
    moved s _ _ (has.gather {a = a} {e = f} b d x y) = has.gather b d (moved s a (Nodes b) x) (moved (bound_kinds s b) f (Nodes d) y)
    moved s _ _ (has.close {a = a} {e = f} b x y) = has.close b (moved s a (Nodes b) x) (moved (bound_kinds s b) f (Nodes b) y)
    moved s _ _ (has.children {a = a} c d top x) = has.children c d top (moved s a (Class c) x)
    moved s _ _ (has.parent {a = a} c d top x) = has.parent c d top (moved s a (Class c) x)
    moved s _ _ (has.passed {a = a} k x) = has.passed k (moved s a k x)
    moved s _ _ (has.seek_any {a = a} {t = t} {e = f} c part b key e x y z) =
        has.seek_any c part b key e (moved s a (Class c) x) (moved s t Text y) (moved (bound_kinds s b) f Truth z)
    moved s _ _ (has.seek_first {a = a} {t = t} {e = f} c part b key e x y z) =
        has.seek_first c part b key e (moved s a (Class c) x) (moved s t Text y) (moved (bound_kinds s b) f Truth z)

    pub all_moved : (s : ScopeKinds) (es : Exprs) (ks : List Kind) → HaveKinds rules s es ks → HaveKinds other s es ks
    all_moved s _ _ has.no_more = has.no_more
    all_moved s _ _ (has.argument {e = e} {es = es} {k = k} {ks = ks} form x ys) = has.argument form (moved s e k x) (all_moved s es ks ys)

  -- what may be an argument still may be
  form_kept : (r : ScopeKinds) (e f : Expr) (k : Kind) → IsSearched rules r e f → IsArgumentForm k e → IsArgumentForm k f
  form_kept r e f Int p h = tt
  form_kept r e f Truth p h = tt
  form_kept r e f (Class c) p h = tt
  form_kept r e f (Nodes c) p h = tt
  form_kept r _ _ Text (searched.itself e) h = h
  form_kept r _ _ Text (searched.token_of part p) h = tt
  form_kept r _ _ Text (searched.passed p) h = tt
  form_kept r _ _ Text p h = absurd h

  -- one part and then another ------------------------------------------------------------------------------------------

  abbrev Kept : ScopeKinds → Expr → Expr → Type 0
  Kept s e f = (k : Kind) → HasKind rules s e k → HasKind other s f k

  abbrev AllKept : ScopeKinds → Exprs → Exprs → Type 0
  AllKept s es fs = (ks : List Kind) → HaveKinds rules s es ks → HaveKinds other s fs ks

  -- inside braces, of whatever class what the name there stands for is
  abbrev KeptInside : ScopeKinds → Expr → Expr → Type 0
  KeptInside s e f = (b : ℕ) → Kept (bound_kinds s b) e f

  negate_kept : (s : ScopeKinds) (a a' : Expr) → Kept s a a' → Kept s (Negate a) (Negate a')
  negate_kept s a a' p _ (has.widened c d sub x) = has.widened c d sub (negate_kept s a a' p (Class c) x)
  negate_kept s a a' p _ (has.widened_all c d sub x) = has.widened_all c d sub (negate_kept s a a' p (Nodes c) x)
  negate_kept s a a' p _ (has.negate x) = has.negate (p Int x)

  opposite_kept : (s : ScopeKinds) (a a' : Expr) → Kept s a a' → Kept s (Not a) (Not a')
  opposite_kept s a a' p _ (has.widened c d sub x) = has.widened c d sub (opposite_kept s a a' p (Class c) x)
  opposite_kept s a a' p _ (has.widened_all c d sub x) = has.widened_all c d sub (opposite_kept s a a' p (Nodes c) x)
  opposite_kept s a a' p _ (has.opposite x) = has.opposite (p Truth x)

  arithmetic_kept : (s : ScopeKinds) (o : Operator) (a a' b b' : Expr) → Kept s a a' → Kept s b b' → Kept s (Arithmetic o a b) (Arithmetic o a' b')
  arithmetic_kept s o a a' b b' p q _ (has.widened c d sub x) = has.widened c d sub (arithmetic_kept s o a a' b b' p q (Class c) x)
  arithmetic_kept s o a a' b b' p q _ (has.widened_all c d sub x) = has.widened_all c d sub (arithmetic_kept s o a a' b b' p q (Nodes c) x)
  arithmetic_kept s o a a' b b' p q _ (has.arithmetic _ x y) = has.arithmetic o (p Int x) (q Int y)

  compare_kept : (s : ScopeKinds) (o : Order) (a a' b b' : Expr) → Kept s a a' → Kept s b b' → Kept s (Compare o a b) (Compare o a' b')
  compare_kept s o a a' b b' p q _ (has.widened c d sub x) = has.widened c d sub (compare_kept s o a a' b b' p q (Class c) x)
  compare_kept s o a a' b b' p q _ (has.widened_all c d sub x) = has.widened_all c d sub (compare_kept s o a a' b b' p q (Nodes c) x)
  compare_kept s o a a' b b' p q _ (has.compare _ x y) = has.compare o (p Int x) (q Int y)

  join_kept : (s : ScopeKinds) (a a' b b' : Expr) → Kept s a a' → Kept s b b' → Kept s (Join a b) (Join a' b')
  join_kept s a a' b b' p q _ (has.widened c d sub x) = has.widened c d sub (join_kept s a a' b b' p q (Class c) x)
  join_kept s a a' b b' p q _ (has.widened_all c d sub x) = has.widened_all c d sub (join_kept s a a' b b' p q (Nodes c) x)
  join_kept s a a' b b' p q _ (has.join x y) = has.join (p Text x) (q Text y)

  join_int_kept : (s : ScopeKinds) (a a' b b' : Expr) → Kept s a a' → Kept s b b' → Kept s (JoinInt a b) (JoinInt a' b')
  join_int_kept s a a' b b' p q _ (has.widened c d sub x) = has.widened c d sub (join_int_kept s a a' b b' p q (Class c) x)
  join_int_kept s a a' b b' p q _ (has.widened_all c d sub x) = has.widened_all c d sub (join_int_kept s a a' b b' p q (Nodes c) x)
  join_int_kept s a a' b b' p q _ (has.join_int x y) = has.join_int (p Text x) (q Int y)

  same_kept : (s : ScopeKinds) (a a' b b' : Expr) → Kept s a a' → Kept s b b' → Kept s (Same a b) (Same a' b')
  same_kept s a a' b b' p q _ (has.widened c d sub x) = has.widened c d sub (same_kept s a a' b b' p q (Class c) x)
  same_kept s a a' b b' p q _ (has.widened_all c d sub x) = has.widened_all c d sub (same_kept s a a' b b' p q (Nodes c) x)
  same_kept s a a' b b' p q _ (has.same k l alike x y) = has.same k l alike (p k x) (q l y)

  differ_kept : (s : ScopeKinds) (a a' b b' : Expr) → Kept s a a' → Kept s b b' → Kept s (Differ a b) (Differ a' b')
  differ_kept s a a' b b' p q _ (has.widened c d sub x) = has.widened c d sub (differ_kept s a a' b b' p q (Class c) x)
  differ_kept s a a' b b' p q _ (has.widened_all c d sub x) = has.widened_all c d sub (differ_kept s a a' b b' p q (Nodes c) x)
  differ_kept s a a' b b' p q _ (has.differ k l alike x y) = has.differ k l alike (p k x) (q l y)

  and_kept : (s : ScopeKinds) (a a' b b' : Expr) → Kept s a a' → Kept s b b' → Kept s (And a b) (And a' b')
  and_kept s a a' b b' p q _ (has.widened c d sub x) = has.widened c d sub (and_kept s a a' b b' p q (Class c) x)
  and_kept s a a' b b' p q _ (has.widened_all c d sub x) = has.widened_all c d sub (and_kept s a a' b b' p q (Nodes c) x)
  and_kept s a a' b b' p q _ (has.and x y) = has.and (p Truth x) (q Truth y)

  or_kept : (s : ScopeKinds) (a a' b b' : Expr) → Kept s a a' → Kept s b b' → Kept s (Or a b) (Or a' b')
  or_kept s a a' b b' p q _ (has.widened c d sub x) = has.widened c d sub (or_kept s a a' b b' p q (Class c) x)
  or_kept s a a' b b' p q _ (has.widened_all c d sub x) = has.widened_all c d sub (or_kept s a a' b b' p q (Nodes c) x)
  or_kept s a a' b b' p q _ (has.or x y) = has.or (p Truth x) (q Truth y)

  choose_kept : (s : ScopeKinds) (d d' a a' b b' : Expr) → Kept s d d' → Kept s a a' → Kept s b b' → Kept s (Choose d a b) (Choose d' a' b')
  choose_kept s d d' a a' b b' o p q _ (has.widened c e sub x) = has.widened c e sub (choose_kept s d d' a a' b b' o p q (Class c) x)
  choose_kept s d d' a a' b b' o p q _ (has.widened_all c e sub x) = has.widened_all c e sub (choose_kept s d d' a a' b b' o p q (Nodes c) x)
  choose_kept s d d' a a' b b' o p q _ (has.choose k x y z) = has.choose k (o Truth x) (p k y) (q k z)

  equals_kept : (s : ScopeKinds) (a a' b b' : Expr) → Kept s a a' → Kept s b b' → Kept s (Equals a b) (Equals a' b')
  equals_kept s a a' b b' p q _ (has.widened c d sub x) = has.widened c d sub (equals_kept s a a' b b' p q (Class c) x)
  equals_kept s a a' b b' p q _ (has.widened_all c d sub x) = has.widened_all c d sub (equals_kept s a a' b b' p q (Nodes c) x)
  equals_kept s a a' b b' p q _ (has.equals x y) = has.equals (p Text x) (q Text y)

  instance_of_kept : (s : ScopeKinds) (a a' : Expr) (class : ℕ) → Kept s a a' → Kept s (InstanceOf a class) (InstanceOf a' class)
  instance_of_kept s a a' class p _ (has.widened c d sub x) = has.widened c d sub (instance_of_kept s a a' class p (Class c) x)
  instance_of_kept s a a' class p _ (has.widened_all c d sub x) = has.widened_all c d sub (instance_of_kept s a a' class p (Nodes c) x)
  instance_of_kept s a a' class p _ (has.instance_of c _ there x) = has.instance_of c class there (p (Class c) x)

  cast_to_kept : (s : ScopeKinds) (class : ℕ) (a a' : Expr) → Kept s a a' → Kept s (CastTo class a) (CastTo class a')
  cast_to_kept s class a a' p _ (has.widened c d sub x) = has.widened c d sub (cast_to_kept s class a a' p (Class c) x)
  cast_to_kept s class a a' p _ (has.widened_all c d sub x) = has.widened_all c d sub (cast_to_kept s class a a' p (Nodes c) x)
  cast_to_kept s class a a' p _ (has.cast_to c _ there x) = has.cast_to c class there (p (Class c) x)

  child_kept : (s : ScopeKinds) (a a' : Expr) (part : ℕ) → Kept s a a' → Kept s (Child a part) (Child a' part)
  child_kept s a a' part p _ (has.widened c d sub x) = has.widened c d sub (child_kept s a a' part p (Class c) x)
  child_kept s a a' part p _ (has.widened_all c d sub x) = has.widened_all c d sub (child_kept s a a' part p (Nodes c) x)
  child_kept s a a' part p _ (has.child c _ b e x) = has.child c part b e (p (Class c) x)

  element_kept : (s : ScopeKinds) (a a' : Expr) (part : ℕ) (b b' : Expr) → Kept s a a' → Kept s b b' → Kept s (Element a part b) (Element a' part b')
  element_kept s a a' part b b' p q _ (has.widened c d sub x) = has.widened c d sub (element_kept s a a' part b b' p q (Class c) x)
  element_kept s a a' part b b' p q _ (has.widened_all c d sub x) = has.widened_all c d sub (element_kept s a a' part b b' p q (Nodes c) x)
  element_kept s a a' part b b' p q _ (has.element c _ d e x y) = has.element c part d e (p (Class c) x) (q Int y)

  count_kept : (s : ScopeKinds) (a a' : Expr) (part : ℕ) → Kept s a a' → Kept s (Count a part) (Count a' part)
  count_kept s a a' part p _ (has.widened c d sub x) = has.widened c d sub (count_kept s a a' part p (Class c) x)
  count_kept s a a' part p _ (has.widened_all c d sub x) = has.widened_all c d sub (count_kept s a a' part p (Nodes c) x)
  count_kept s a a' part p _ (has.count c _ b e x) = has.count c part b e (p (Class c) x)

  has_kept : (s : ScopeKinds) (a a' : Expr) (part : ℕ) → Kept s a a' → Kept s (Has a part) (Has a' part)
  has_kept s a a' part p _ (has.widened c d sub x) = has.widened c d sub (has_kept s a a' part p (Class c) x)
  has_kept s a a' part p _ (has.widened_all c d sub x) = has.widened_all c d sub (has_kept s a a' part p (Nodes c) x)
  has_kept s a a' part p _ (has.has c _ b e x) = has.has c part b e (p (Class c) x)

  token_of_kept : (s : ScopeKinds) (a a' : Expr) (part : ℕ) → Kept s a a' → Kept s (TokenOf a part) (TokenOf a' part)
  token_of_kept s a a' part p _ (has.widened c d sub x) = has.widened c d sub (token_of_kept s a a' part p (Class c) x)
  token_of_kept s a a' part p _ (has.widened_all c d sub x) = has.widened_all c d sub (token_of_kept s a a' part p (Nodes c) x)
  token_of_kept s a a' part p _ (has.token_of c _ k e x) = has.token_of c part k e (p (Class c) x)

  call_kept : (s : ScopeKinds) (a a' : Expr) (attribute : ℕ) (es fs : Exprs) → Kept s a a' → AllKept s es fs → Kept s (Call a attribute es) (Call a' attribute fs)
  call_kept s a a' attribute es fs p q _ (has.widened c d sub x) = has.widened c d sub (call_kept s a a' attribute es fs p q (Class c) x)
  call_kept s a a' attribute es fs p q _ (has.widened_all c d sub x) = has.widened_all c d sub (call_kept s a a' attribute es fs p q (Nodes c) x)
  call_kept s a a' attribute es fs p q _ (has.call c _ d e sub x ys) = has.call c attribute d e sub (p (Class c) x) (q d.parameters ys)

  exists_kept : (s : ScopeKinds) (a a' : Expr) (part : ℕ) (e f : Expr) → Kept s a a' → KeptInside s e f → Kept s (Exists a part e) (Exists a' part f)
  exists_kept s a a' part e f p q _ (has.widened c d sub x) = has.widened c d sub (exists_kept s a a' part e f p q (Class c) x)
  exists_kept s a a' part e f p q _ (has.widened_all c d sub x) = has.widened_all c d sub (exists_kept s a a' part e f p q (Nodes c) x)
  exists_kept s a a' part e f p q _ (has.exists c _ b g x y) = has.exists c part b g (p (Class c) x) (q b Truth y)

  first_kept : (s : ScopeKinds) (a a' : Expr) (part : ℕ) (e f : Expr) → Kept s a a' → KeptInside s e f → Kept s (First a part e) (First a' part f)
  first_kept s a a' part e f p q _ (has.widened c d sub x) = has.widened c d sub (first_kept s a a' part e f p q (Class c) x)
  first_kept s a a' part e f p q _ (has.widened_all c d sub x) = has.widened_all c d sub (first_kept s a a' part e f p q (Nodes c) x)
  first_kept s a a' part e f p q _ (has.first c _ b g x y) = has.first c part b g (p (Class c) x) (q b Truth y)

  sum_kept : (s : ScopeKinds) (a a' : Expr) (part : ℕ) (e f : Expr) → Kept s a a' → KeptInside s e f → Kept s (Sum a part e) (Sum a' part f)
  sum_kept s a a' part e f p q _ (has.widened c d sub x) = has.widened c d sub (sum_kept s a a' part e f p q (Class c) x)
  sum_kept s a a' part e f p q _ (has.widened_all c d sub x) = has.widened_all c d sub (sum_kept s a a' part e f p q (Nodes c) x)
  sum_kept s a a' part e f p q _ (has.sum c _ b g x y) = has.sum c part b g (p (Class c) x) (q b Int y)

  seek_any_kept : (s : ScopeKinds) (a a' : Expr) (part : ℕ) (key : Key) (t e f : Expr) → Kept s a a' → ((b : ℕ) → HasKind rules (bound_kinds s b) e Truth → HasKind other s t Text) → KeptInside s e f → Kept s (Exists a part e) (SeekAny a' part key t f)
  seek_any_kept s a a' part key t e f p r q _ (has.widened c d sub x) = has.widened c d sub (seek_any_kept s a a' part key t e f p r q (Class c) x)
  seek_any_kept s a a' part key t e f p r q _ (has.widened_all c d sub x) = has.widened_all c d sub (seek_any_kept s a a' part key t e f p r q (Nodes c) x)
  seek_any_kept s a a' part key t e f p r q _ (has.exists c _ b g x y) = has.seek_any c part b key g (p (Class c) x) (r b y) (q b Truth y)

  seek_first_kept : (s : ScopeKinds) (a a' : Expr) (part : ℕ) (key : Key) (t e f : Expr) → Kept s a a' → ((b : ℕ) → HasKind rules (bound_kinds s b) e Truth → HasKind other s t Text) → KeptInside s e f → Kept s (First a part e) (SeekFirst a' part key t f)
  seek_first_kept s a a' part key t e f p r q _ (has.widened c d sub x) = has.widened c d sub (seek_first_kept s a a' part key t e f p r q (Class c) x)
  seek_first_kept s a a' part key t e f p r q _ (has.widened_all c d sub x) = has.widened_all c d sub (seek_first_kept s a a' part key t e f p r q (Nodes c) x)
  seek_first_kept s a a' part key t e f p r q _ (has.first c _ b g x y) = has.seek_first c part b key g (p (Class c) x) (r b y) (q b Truth y)

  listed_kept : (s : ScopeKinds) (a a' : Expr) (part : ℕ) → Kept s a a' → Kept s (Listed a part) (Listed a' part)
  listed_kept s a a' part p _ (has.widened c d sub x) = has.widened c d sub (listed_kept s a a' part p (Class c) x)
  listed_kept s a a' part p _ (has.widened_all c d sub x) = has.widened_all c d sub (listed_kept s a a' part p (Nodes c) x)
  listed_kept s a a' part p _ (has.listed c _ b e x) = has.listed c part b e (p (Class c) x)

  only_kept : (s : ScopeKinds) (a a' : Expr) → Kept s a a' → Kept s (Only a) (Only a')
  only_kept s a a' p _ (has.widened c d sub x) = has.widened c d sub (only_kept s a a' p (Class c) x)
  only_kept s a a' p _ (has.widened_all c d sub x) = has.widened_all c d sub (only_kept s a a' p (Nodes c) x)
  only_kept s a a' p _ (has.only c x) = has.only c (p (Class c) x)

  union_kept : (s : ScopeKinds) (a a' b b' : Expr) → Kept s a a' → Kept s b b' → Kept s (Union a b) (Union a' b')
  union_kept s a a' b b' p q _ (has.widened c d sub x) = has.widened c d sub (union_kept s a a' b b' p q (Class c) x)
  union_kept s a a' b b' p q _ (has.widened_all c d sub x) = has.widened_all c d sub (union_kept s a a' b b' p q (Nodes c) x)
  union_kept s a a' b b' p q _ (has.union c x y) = has.union c (p (Nodes c) x) (q (Nodes c) y)

  contains_kept : (s : ScopeKinds) (a a' b b' : Expr) → Kept s a a' → Kept s b b' → Kept s (Contains a b) (Contains a' b')
  contains_kept s a a' b b' p q _ (has.widened c d sub x) = has.widened c d sub (contains_kept s a a' b b' p q (Class c) x)
  contains_kept s a a' b b' p q _ (has.widened_all c d sub x) = has.widened_all c d sub (contains_kept s a a' b b' p q (Nodes c) x)
  contains_kept s a a' b b' p q _ (has.contains c d x y) = has.contains c d (p (Nodes c) x) (q (Class d) y)

  over_kept : (s : ScopeKinds) (fold : Fold) (a a' e f : Expr) → Kept s a a' → KeptInside s e f → Kept s (Over fold a e) (Over fold a' f)
  over_kept s fold a a' e f p q _ (has.widened c d sub x) = has.widened c d sub (over_kept s fold a a' e f p q (Class c) x)
  over_kept s fold a a' e f p q _ (has.widened_all c d sub x) = has.widened_all c d sub (over_kept s fold a a' e f p q (Nodes c) x)
  over_kept s _ a a' e f p q _ (has.any_of b x y) = has.any_of b (p (Nodes b) x) (q b Truth y)
  over_kept s _ a a' e f p q _ (has.first_of b x y) = has.first_of b (p (Nodes b) x) (q b Truth y)
  over_kept s _ a a' e f p q _ (has.sum_of b x y) = has.sum_of b (p (Nodes b) x) (q b Int y)
  over_kept s _ a a' e f p q _ (has.gather b d x y) = has.gather b d (p (Nodes b) x) (q b (Nodes d) y)
  over_kept s _ a a' e f p q _ (has.close b x y) = has.close b (p (Nodes b) x) (q b (Nodes b) y)

  children_kept : (s : ScopeKinds) (a a' : Expr) → Kept s a a' → Kept s (Children a) (Children a')
  children_kept s a a' p _ (has.widened c d sub x) = has.widened c d sub (children_kept s a a' p (Class c) x)
  children_kept s a a' p _ (has.widened_all c d sub x) = has.widened_all c d sub (children_kept s a a' p (Nodes c) x)
  children_kept s a a' p _ (has.children c d top x) = has.children c d top (p (Class c) x)

  parent_kept : (s : ScopeKinds) (a a' : Expr) → Kept s a a' → Kept s (Parent a) (Parent a')
  parent_kept s a a' p _ (has.widened c d sub x) = has.widened c d sub (parent_kept s a a' p (Class c) x)
  parent_kept s a a' p _ (has.widened_all c d sub x) = has.widened_all c d sub (parent_kept s a a' p (Nodes c) x)
  parent_kept s a a' p _ (has.parent c d top x) = has.parent c d top (p (Class c) x)

  passed_kept : (s : ScopeKinds) (a a' : Expr) → Kept s a a' → Kept s (Passed a) (Passed a')
  passed_kept s a a' p _ (has.widened c d sub x) = has.widened c d sub (passed_kept s a a' p (Class c) x)
  passed_kept s a a' p _ (has.widened_all c d sub x) = has.widened_all c d sub (passed_kept s a a' p (Nodes c) x)
  passed_kept s a a' p _ (has.passed k x) = has.passed k (p k x)

  one_kept : (s : ScopeKinds) (e f : Expr) (es fs : Exprs) → Kept s e f → ((k : Kind) → IsArgumentForm k e → IsArgumentForm k f) → AllKept s es fs
      → AllKept s (expr e es) (expr f fs)
  one_kept s e f es fs p form q _ (has.argument {k = k} {ks = ks} g x ys) = has.argument (form k g) (p k x) (q ks ys)

  mutual
    -- in whichever scope it has its kind: of which class the elements were known to be tells nothing here
    pub kept : (r : ScopeKinds) (e f : Expr) → IsSearched rules r e f → (s : ScopeKinds) → Kept s e f
    kept r e _ (searched.itself _) s = λ k h. moved s e k h
    kept r _ _ (searched.negate {a = a} {a' = a'} p) s = negate_kept s a a' (kept r a a' p s)
    kept r _ _ (searched.opposite {a = a} {a' = a'} p) s = opposite_kept s a a' (kept r a a' p s)
    kept r _ _ (searched.arithmetic {a = a} {a' = a'} {b = b} {b' = b'} o p q) s = arithmetic_kept s o a a' b b' (kept r a a' p s) (kept r b b' q s)
    kept r _ _ (searched.compare {a = a} {a' = a'} {b = b} {b' = b'} o p q) s = compare_kept s o a a' b b' (kept r a a' p s) (kept r b b' q s)
    kept r _ _ (searched.join {a = a} {a' = a'} {b = b} {b' = b'} p q) s = join_kept s a a' b b' (kept r a a' p s) (kept r b b' q s)
    kept r _ _ (searched.join_int {a = a} {a' = a'} {b = b} {b' = b'} p q) s = join_int_kept s a a' b b' (kept r a a' p s) (kept r b b' q s)
    kept r _ _ (searched.same {a = a} {a' = a'} {b = b} {b' = b'} p q) s = same_kept s a a' b b' (kept r a a' p s) (kept r b b' q s)
    kept r _ _ (searched.differ {a = a} {a' = a'} {b = b} {b' = b'} p q) s = differ_kept s a a' b b' (kept r a a' p s) (kept r b b' q s)
    kept r _ _ (searched.and {a = a} {a' = a'} {b = b} {b' = b'} p q) s = and_kept s a a' b b' (kept r a a' p s) (kept r b b' q s)
    kept r _ _ (searched.or {a = a} {a' = a'} {b = b} {b' = b'} p q) s = or_kept s a a' b b' (kept r a a' p s) (kept r b b' q s)
    kept r _ _ (searched.equals {a = a} {a' = a'} {b = b} {b' = b'} p q) s = equals_kept s a a' b b' (kept r a a' p s) (kept r b b' q s)
    kept r _ _ (searched.union {a = a} {a' = a'} {b = b} {b' = b'} p q) s = union_kept s a a' b b' (kept r a a' p s) (kept r b b' q s)
    kept r _ _ (searched.contains {a = a} {a' = a'} {b = b} {b' = b'} p q) s = contains_kept s a a' b b' (kept r a a' p s) (kept r b b' q s)
    kept r _ _ (searched.element {a = a} {a' = a'} {b = b} {b' = b'} part p q) s = element_kept s a a' part b b' (kept r a a' p s) (kept r b b' q s)
    kept r _ _ (searched.choose {c = c} {c' = c'} {a = a} {a' = a'} {b = b} {b' = b'} o p q) s = choose_kept s c c' a a' b b' (kept r c c' o s) (kept r a a' p s) (kept r b b' q s)
    kept r _ _ (searched.instance_of {a = a} {a' = a'} class p) s = instance_of_kept s a a' class (kept r a a' p s)
    kept r _ _ (searched.cast_to {a = a} {a' = a'} class p) s = cast_to_kept s class a a' (kept r a a' p s)
    kept r _ _ (searched.child {a = a} {a' = a'} part p) s = child_kept s a a' part (kept r a a' p s)
    kept r _ _ (searched.count {a = a} {a' = a'} part p) s = count_kept s a a' part (kept r a a' p s)
    kept r _ _ (searched.has {a = a} {a' = a'} part p) s = has_kept s a a' part (kept r a a' p s)
    kept r _ _ (searched.token_of {a = a} {a' = a'} part p) s = token_of_kept s a a' part (kept r a a' p s)
    kept r _ _ (searched.listed {a = a} {a' = a'} part p) s = listed_kept s a a' part (kept r a a' p s)
    kept r _ _ (searched.only {a = a} {a' = a'} p) s = only_kept s a a' (kept r a a' p s)
    kept r _ _ (searched.children {a = a} {a' = a'} p) s = children_kept s a a' (kept r a a' p s)
    kept r _ _ (searched.parent {a = a} {a' = a'} p) s = parent_kept s a a' (kept r a a' p s)
    kept r _ _ (searched.passed {a = a} {a' = a'} p) s = passed_kept s a a' (kept r a a' p s)
    kept r _ _ (searched.call {a = a} {a' = a'} {es = es} {fs = fs} attribute p qs) s = call_kept s a a' attribute es fs (kept r a a' p s) (all_kept r es fs qs s)
    kept r _ _ (searched.exists {a = a} {a' = a'} {e = e} {f = f} part p q) s = exists_kept s a a' part e f (kept r a a' p s) (λ b. kept_in r a part e f q (bound_kinds s b))
    kept r _ _ (searched.first {a = a} {a' = a'} {e = e} {f = f} part p q) s = first_kept s a a' part e f (kept r a a' p s) (λ b. kept_in r a part e f q (bound_kinds s b))
    kept r _ _ (searched.sum {a = a} {a' = a'} {e = e} {f = f} part p q) s = sum_kept s a a' part e f (kept r a a' p s) (λ b. kept_in r a part e f q (bound_kinds s b))
    kept r _ _ (searched.over {a = a} {a' = a'} {e = e} {f = f} fold p q) s = over_kept s fold a a' e f (kept r a a' p s) (λ b. kept_over r fold a e f q (bound_kinds s b))
    kept r _ _ (searched.seek_any {a = a} {a' = a'} {t = t} {u = u} {e = e} {f = f} part element key els text begins p q) s =
        seek_any_kept s a a' part key t e f (kept r a a' p s)
        (λ b h. moved s t Text (text_outside rules s r b t u text (text_in rules (bound_kinds s b) key element u e Truth begins h)))
        (λ b. kept (bound_kinds r element) e f q (bound_kinds s b))
    kept r _ _ (searched.seek_first {a = a} {a' = a'} {t = t} {u = u} {e = e} {f = f} part element key els text begins p q) s =
        seek_first_kept s a a' part key t e f (kept r a a' p s)
        (λ b h. moved s t Text (text_outside rules s r b t u text (text_in rules (bound_kinds s b) key element u e Truth begins h)))
        (λ b. kept (bound_kinds r element) e f q (bound_kinds s b))

    kept_in : (r : ScopeKinds) (a : Expr) (part : ℕ) (e f : Expr) → IsSearchedIn rules r a part e f → (s : ScopeKinds) → Kept s e f
    kept_in r a part e _ (searched.unchanged _) s = λ k h. moved s e k h
    kept_in r a part e f (searched.elements element els p) s = kept (bound_kinds r element) e f p s

    kept_over : (r : ScopeKinds) (fold : Fold) (a e f : Expr) → IsSearchedOver rules r fold a e f → (s : ScopeKinds) → Kept s e f
    kept_over r fold a e _ (searched.unchanged_over _) s = λ k h. moved s e k h
    kept_over r fold a e f (searched.nodes class over x p) s = kept (bound_kinds r class) e f p s

    pub all_kept : (r : ScopeKinds) (es fs : Exprs) → AreSearched rules r es fs → (s : ScopeKinds) → AllKept s es fs
    all_kept r _ _ searched.no_more s = λ ks h. all_moved s no_exprs ks h
    all_kept r _ _ (searched.argument {e = e} {f = f} {es = es} {fs = fs} p qs) s =
        λ ks h. one_kept s e f es fs (kept r e f p s) (λ k form. form_kept r e f k p form) (all_kept r es fs qs s) ks h
