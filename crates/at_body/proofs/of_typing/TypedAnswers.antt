-- What is done with values of the right kinds comes to what the trial may be told.
use Rattle.std.proofs.Common.{◌≡◌, ℕ, false, nat_eq, List, [], ◌∷◌, ◌++◌, append-nil, map, None, Some, refl, subst, sym, ◌∙◌, Result, Ok, Err, IfOk}
use Rattle.at_model.specs.Bodies.{Expr, Exprs, no_exprs, Scope, Name, Negate, Not, Arithmetic, Compare, Join, JoinInt, Same, Differ, Equals, InstanceOf, CastTo, Child, Element, Count, Has, TokenOf, Passed, eval}
use Rattle.at_model.specs.Instances.{AnyText, all_literals, literals}
use Rattle.at_model.specs.Kinds.{HasKind, HaveKinds, ScopeKinds}
use Rattle.at_model.specs.Kinds as form
use Rattle.at_model.specs.Rules.{Rules, Kind}
use Rattle.at_model.specs.Run.{Value, Int, Truth, Text, Ref, Nodes, Contents, Run, Gives, Fails, Looks, Demands}
use Rattle.at_model.specs.TypedRuns.{ClassAt, AreArguments, IsOfKind, IsOfScopeKinds, IsTypedRun}
use Rattle.at_model.proofs.Chained.{chained}
use Rattle.at_model.proofs.Everywhere.{all_any}
use Rattle.at_model.proofs.of_typing.TypedExpressions.{all_typed, typed as evaluated_typed}
use Rattle.at_model.proofs.of_typing.TypedTogether.{any_text}
use Rattle.at_rules.specs.Bodies.{body_view, operator_view, order_view}
use Rattle.at_rules.specs.declared.body.Body.{Body}
use Rattle.at_body.specs.declared.todo.Binary.{Binary}
use Rattle.at_body.specs.declared.todo.Now.{Now}
use Rattle.at_body.specs.declared.todo.Now.TheVariants.{Enter, Back, Fail, Ask}
use Rattle.at_body.specs.declared.todo.Todo.TheVariants as code
use Rattle.at_body.specs.declared.todo.Unary.{Unary}
use Rattle.at_body.specs.declared.trial.Trial.{Trial}
use Rattle.at_body.specs.Values.{value_view}
use Rattle.at_body.specs.Standing.{Place, names, scope}
use Rattle.at_body.specs.Rest.{ev, ev_all, place_of, with_one, with_two}
use Rattle.at_body.specs.ValueKinds.{AreAlike}
use Rattle.at_body.specs.Typed.{IsOperand, AreOperands, ComesTo, IsOver, PlaceKinds, name_kinds, scope_kinds, AreBound, IsPlaceOf, IsUse, IsOperation, IsTodo, AreTodos, Stands, Takes, Enters, Uses, Operates, Calls, IsTypedNow}
use Rattle.at_body.specs.Typed as typed
use Rattle.at_body.proofs.of_typing.TypedUses.{is_int, is_truth, is_text, is_ref}

any_literal : (bytes : List ℕ) → AnyText bytes
any_literal bytes = tt

module _ (rules : Rules) (at : ClassAt ℕ) (look : Contents ℕ) (over : IsOver rules at look) where
  abbrev Is : Kind → Value ℕ → Type 0
  Is k v = IsOfKind rules.classes at v k

  abbrev Typed : Kind → Run ℕ (Value ℕ) → Type 0
  Typed k r = IsTypedRun rules at AnyText look (Is k) r

  -- places ------------------------------------------------------------------------------------------------------------

  names_typed : (ns cs : List ℕ) (vs : List (Value ℕ)) (ks : List Kind) → AreBound rules.classes at ns cs → AreArguments rules.classes at AnyText vs ks → AreArguments rules.classes at AnyText (names ns vs) (name_kinds cs ks)
  names_typed [] [] vs ks b h = h
  names_typed [] (c ∷ cs) vs ks b h = absurd b
  names_typed (n ∷ ns) [] vs ks b h = absurd b
  names_typed (n ∷ ns) (c ∷ cs) vs ks (x, b) h = (x, tt, names_typed ns cs vs ks b h)

  pub scope_typed : (s : PlaceKinds) (p : Place) → IsPlaceOf rules.classes at s p → IsOfScopeKinds rules.classes at AnyText (scope_kinds s) (scope p)
  scope_typed s p h = record { this = h.this; names = names_typed p.bound s.bound (map value_view p.passed) s.passed h.bound h.passed; child = h.child }

  pub evaluated : (s : ScopeKinds) (e : Expr) (k : Kind) (scope : Scope ℕ) → HasKind rules s e k → IsOfScopeKinds rules.classes at AnyText s scope → Typed k (eval rules.classes nat_eq e scope)
  evaluated s e k scope x h = evaluated_typed rules (chained rules.classes over.hierarchy) at AnyText look over.contents nat_eq s e k x scope (all_any AnyText (literals e) any_literal) h

  -- arguments ---------------------------------------------------------------------------------------------------------

  arguments_typed : (s : PlaceKinds) (p : Place) (es : Exprs) (ks : List Kind) (vs : List (Value ℕ)) → IsPlaceOf rules.classes at s p → HaveKinds rules (scope_kinds s) es ks → ev_all rules.classes es p ≡ Gives vs →
      AreArguments rules.classes at AnyText vs ks
  arguments_typed s p es ks vs place x e = subst (IsTypedRun rules at AnyText look (λ ws. AreArguments rules.classes at AnyText ws ks)) e
      (all_typed rules (chained rules.classes over.hierarchy) at AnyText look over.contents nat_eq (scope_kinds s) es ks x (scope p) (all_any AnyText (all_literals es) any_literal) (scope_typed s p place))

  -- a call hands on what was passed
  hands_on : (t : Trial) (attribute n : ℕ) (es : Exprs) → ev_all rules.classes es (place_of t) ≡ Gives (map value_view t.arguments) → Calls rules at t attribute (Some n) [] es →
      Calls rules at t attribute (Some n) (map value_view t.arguments) no_exprs
  hands_on t attribute n es e h = record {
    kinds = h.kinds;
    class = h.class;
    declaration = h.declaration;
    first = h.others;
    others = [];
    attribute_is = h.attribute_is;
    declared = h.declared;
    parameters = none_first h.first h.arguments h.parameters;
    node = h.node;
    arguments = arguments_typed h.kinds (place_of t) es h.others (map value_view t.arguments) h.stands.place h.are e;
    are = form.no_more;
    stands = h.stands;
  }
    where
      none_first : (first : List Kind) → AreArguments rules.classes at AnyText [] first → h.declaration.parameters ≡ first ++ h.others → h.declaration.parameters ≡ h.others ++ []
      none_first [] a e = e ∙ sym (append-nil h.others)
      none_first (k ∷ ks) a e = absurd a

  pub handed_on : {E : Type 0} (res : Result Now E) (t : Trial) (attribute n : ℕ) (es : Exprs) → ev_all rules.classes es (place_of t) ≡ Gives (map value_view t.arguments) → IfOk res (λ now. now ≡ Ask attribute n t.arguments) →
      Calls rules at t attribute (Some n) [] es → IfOk res (λ now. IsTypedNow rules at now t)
  handed_on (Ok now) t attribute n es e is h = subst (λ (k : Now). IsTypedNow rules at k t) (sym is) (hands_on t attribute n es e h)
  handed_on (Err e') t attribute n es e is h = tt

  -- what an evaluation comes to ---------------------------------------------------------------------------------------

  come_typed : (s : PlaceKinds) (k : Kind) (t : Trial) (r : Run ℕ (Value ℕ)) (now : Now) → Stands rules at s k t → Typed k r → ComesTo look r now → IsTypedNow rules at now t
  come_typed s k t (Gives v) (Back w) h x e = record { kinds = s; kind = k; is = subst (Is k) e x; stands = h }
  come_typed s k t (Gives v) (Enter b) h x e = absurd e
  come_typed s k t (Gives v) (Fail f) h x e = absurd e
  come_typed s k t (Gives v) (Ask attribute node passed) h x e = absurd e
  come_typed s k t (Fails f) (Fail g) h x e = tt
  come_typed s k t (Fails f) (Back w) h x e = absurd e
  come_typed s k t (Fails f) (Enter b) h x e = absurd e
  come_typed s k t (Fails f) (Ask attribute node passed) h x e = absurd e
  come_typed s k t (Looks l m) now h (there, x) e = come_typed s k t (m (look l)) now h x e
  come_typed s k t (Demands i m) now h x e = absurd e

  -- an expression for which nothing is to be done first
  pub evaluated_now : (t : Trial) (b : Body) (now : Now) → Enters rules at t b → ComesTo look (ev rules.classes (body_view b) (place_of t)) now → IsTypedNow rules at now t
  evaluated_now t b now h e = come_typed h.kinds h.kind t _ now h.stands (evaluated (scope_kinds h.kinds) (body_view b) h.kind (scope (place_of t)) h.is (scope_typed h.kinds (place_of t) h.stands.place)) e

  pub at_hand_takes : (t : Trial) (b : Body) (v : Value ℕ) → Enters rules at t b → ev rules.classes (body_view b) (place_of t) ≡ Gives v → Takes rules at t v
  at_hand_takes t b v h e = record {
    kinds = h.kinds;
    kind = h.kind;
    is = gives (ev rules.classes (body_view b) (place_of t)) e (evaluated (scope_kinds h.kinds) (body_view b) h.kind (scope (place_of t)) h.is (scope_typed h.kinds (place_of t) h.stands.place));
    stands = h.stands;
  }
    where
      gives : (r : Run ℕ (Value ℕ)) → r ≡ Gives v → Typed h.kind r → Is h.kind v
      gives r e x = subst (Typed h.kind) e x

  -- what is done with one value ----------------------------------------------------------------------------------------

  one_scope : (s : PlaceKinds) (p : Place) (k : Kind) (v : Value ℕ) → IsPlaceOf rules.classes at s p → Is k v → IsOfScopeKinds rules.classes at AnyText (record { this = s.this; names = k ∷ []; has_index = false }) (record { this = p.this; names = v ∷ []; child = None })
  one_scope s p k v h is = record { this = h.this; names = (is, any_text v, tt); child = tt }

  used_typed : (s : PlaceKinds) (p : Place) (k l : Kind) (u : Unary) (v : Value ℕ) → IsPlaceOf rules.classes at s p → IsUse rules k u l → Is k v → Typed l (with_one rules.classes u v)
  used_typed s p _ _ _ v h typed.negate is = evaluated _ (Negate (Name 0)) _ _ (form.negate (form.name 0 refl)) (one_scope s p _ v h is)
  used_typed s p _ _ _ v h typed.opposite is = evaluated _ (Not (Name 0)) _ _ (form.opposite (form.name 0 refl)) (one_scope s p _ v h is)
  used_typed s p _ _ _ v h (typed.instance_of c class there) is = evaluated _ (InstanceOf (Name 0) class) _ _ (form.instance_of c class there (form.name 0 refl)) (one_scope s p _ v h is)
  used_typed s p _ _ _ v h (typed.cast_to c class there) is = evaluated _ (CastTo class (Name 0)) _ _ (form.cast_to c class there (form.name 0 refl)) (one_scope s p _ v h is)
  used_typed s p _ _ _ v h (typed.child c part b e) is = evaluated _ (Child (Name 0) part) _ _ (form.child c part b e (form.name 0 refl)) (one_scope s p _ v h is)
  used_typed s p _ _ _ v h (typed.count c part b e) is = evaluated _ (Count (Name 0) part) _ _ (form.count c part b e (form.name 0 refl)) (one_scope s p _ v h is)
  used_typed s p _ _ _ v h (typed.has c part b e) is = evaluated _ (Has (Name 0) part) _ _ (form.has c part b e (form.name 0 refl)) (one_scope s p _ v h is)
  used_typed s p _ _ _ v h (typed.token c part kind e) is = evaluated _ (TokenOf (Name 0) part) _ _ (form.token_of c part kind e (form.name 0 refl)) (one_scope s p _ v h is)
  used_typed s p _ _ _ v h (typed.handed_on k) is = evaluated _ (Passed (Name 0)) _ _ (form.passed k (form.name 0 refl)) (one_scope s p _ v h is)

  -- and what it comes to may be told
  pub use_typed : (t : Trial) (u : Unary) (v : Value ℕ) (now : Now) → Uses rules at t (code.Use u) v → ComesTo look (with_one rules.classes u v) now → IsTypedNow rules at now t
  use_typed t u v now h e = by_todo h.kinds h.kind h.later h.result h.is h.does h.place h.rest
    where
      by_todo : (s : PlaceKinds) (k : Kind) (s' : PlaceKinds) (k' : Kind) → Is k v → IsTodo rules at s k (code.Use u) s' k' → IsPlaceOf rules.classes at s (place_of t) → AreTodos rules at s' k' t.todo → IsTypedNow rules at now t
      by_todo s _ _ _ is (typed.used _ k l _ does) place rest = come_typed s l t _ now (record { place = place; todo = rest }) (used_typed s (place_of t) k l u v place does is) e

  -- with two -----------------------------------------------------------------------------------------------------------

  two_scope : (s : PlaceKinds) (p : Place) (k l : Kind) (v w : Value ℕ) → IsPlaceOf rules.classes at s p → Is k v → Is l w → IsOfScopeKinds rules.classes at AnyText (record { this = s.this; names = k ∷ l ∷ []; has_index = false }) (record { this = p.this; names = v ∷ w ∷ []; child = None })
  two_scope s p k l v w h is its = record { this = h.this; names = (is, any_text v, (its, any_text w, tt)); child = tt }

  operation_typed : (s : PlaceKinds) (p : Place) (k l m : Kind) (o : Binary) (v w : Value ℕ) → IsPlaceOf rules.classes at s p → IsOperation rules k l o m → Is k v → Is l w → Typed m (with_two o v w)
  operation_typed s p _ _ _ _ v w h (typed.arithmetic o) is its = evaluated _ (Arithmetic (operator_view o) (Name 0) (Name 1)) _ _ (form.arithmetic _ (form.name 0 refl) (form.name 1 refl)) (two_scope s p _ _ v w h is its)
  operation_typed s p _ _ _ _ v w h (typed.compare o) is its = evaluated _ (Compare (order_view o) (Name 0) (Name 1)) _ _ (form.compare _ (form.name 0 refl) (form.name 1 refl)) (two_scope s p _ _ v w h is its)
  operation_typed s p _ _ _ _ v w h typed.join is its = evaluated _ (Join (Name 0) (Name 1)) _ _ (form.join (form.name 0 refl) (form.name 1 refl)) (two_scope s p _ _ v w h is its)
  operation_typed s p _ _ _ _ v w h typed.join_int is its = evaluated _ (JoinInt (Name 0) (Name 1)) _ _ (form.join_int (form.name 0 refl) (form.name 1 refl)) (two_scope s p _ _ v w h is its)
  operation_typed s p _ _ _ _ v w h (typed.same k l alike) is its = evaluated _ (Same (Name 0) (Name 1)) _ _ (form.same k l alike (form.name 0 refl) (form.name 1 refl)) (two_scope s p _ _ v w h is its)
  operation_typed s p _ _ _ _ v w h (typed.differ k l alike) is its = evaluated _ (Differ (Name 0) (Name 1)) _ _ (form.differ k l alike (form.name 0 refl) (form.name 1 refl)) (two_scope s p _ _ v w h is its)
  operation_typed s p _ _ _ _ v w h typed.equals is its = evaluated _ (Equals (Name 0) (Name 1)) _ _ (form.equals (form.name 0 refl) (form.name 1 refl)) (two_scope s p _ _ v w h is its)
  operation_typed s p _ _ _ _ v w h (typed.element c part b e) is its = evaluated _ (Element (Name 0) part (Name 1)) _ _ (form.element c part b e (form.name 0 refl) (form.name 1 refl)) (two_scope s p _ _ v w h is its)

  pub operates_typed : (t : Trial) (o : Binary) (v w : Value ℕ) (now : Now) → Operates rules at t o v w → ComesTo look (with_two o v w) now → IsTypedNow rules at now t
  operates_typed t o v w now h e = come_typed h.kinds h.result t _ now h.stands (operation_typed h.kinds (place_of t) h.left h.right h.result o v w h.stands.place h.does h.is_left h.is_right) e

-- operands ------------------------------------------------------------------------------------------------------------

module _ (rules : Rules) (at : ClassAt ℕ) where
  -- the value is one of which that may be asked
  pub use_operand : (t : Trial) (u : Unary) (v : Value ℕ) → Uses rules at t (code.Use u) v → IsOperand u v
  use_operand t u v h = by_todo h.kinds h.kind h.later h.result h.is h.does
    where
      by_use : (k l : Kind) (u : Unary) → IsUse rules k u l → IsOfKind rules.classes at v k → IsOperand u v
      by_use _ _ _ typed.negate is = is_int rules at v is
      by_use _ _ _ typed.opposite is = is_truth rules at v is
      by_use _ _ _ (typed.instance_of c class there) is = is_ref rules at c v is
      by_use _ _ _ (typed.cast_to c class there) is = is_ref rules at c v is
      by_use _ _ _ (typed.child c part b e) is = is_ref rules at c v is
      by_use _ _ _ (typed.count c part b e) is = is_ref rules at c v is
      by_use _ _ _ (typed.has c part b e) is = is_ref rules at c v is
      by_use _ _ _ (typed.token c part kind e) is = is_ref rules at c v is
      by_use _ _ _ (typed.handed_on k) is = tt

      by_todo : (s : PlaceKinds) (k : Kind) (s' : PlaceKinds) (k' : Kind) → IsOfKind rules.classes at v k → IsTodo rules at s k (code.Use u) s' k' → IsOperand u v
      by_todo s _ _ _ is (typed.used _ k l _ does) = by_use k l u does is

  alike : (k l : Kind) (v w : Value ℕ) → form.AreComparable k l → IsOfKind rules.classes at v k → IsOfKind rules.classes at w l → AreAlike v w
  alike _ _ (Int n) w form.ints is its = is_int rules at w its
  alike _ _ (Truth b) w form.ints is its = absurd is
  alike _ _ (Text bytes) w form.ints is its = absurd is
  alike _ _ (Ref n) w form.ints is its = absurd is
  alike _ _ (Nodes ns) w form.ints is its = absurd is
  alike _ _ (Truth b) w form.truths is its = is_truth rules at w its
  alike _ _ (Int n) w form.truths is its = absurd is
  alike _ _ (Text bytes) w form.truths is its = absurd is
  alike _ _ (Ref n) w form.truths is its = absurd is
  alike _ _ (Nodes ns) w form.truths is its = absurd is
  alike _ _ (Ref n) w (form.nodes c d) is its = is_ref rules at d w its
  alike _ _ (Int n) w (form.nodes c d) is its = absurd is
  alike _ _ (Truth b) w (form.nodes c d) is its = absurd is
  alike _ _ (Text bytes) w (form.nodes c d) is its = absurd is
  alike _ _ (Nodes ns) w (form.nodes c d) is its = absurd is

  -- the values are those with which that may be done
  pub operands_fit : (t : Trial) (o : Binary) (v w : Value ℕ) → Operates rules at t o v w → AreOperands o v w
  operands_fit t o v w h = by_operation h.left h.right h.result o h.does h.is_left h.is_right
    where
      by_operation : (k l m : Kind) (o : Binary) → IsOperation rules k l o m → IsOfKind rules.classes at v k → IsOfKind rules.classes at w l → AreOperands o v w
      by_operation _ _ _ _ (typed.arithmetic o) is its = (is_int rules at v is, is_int rules at w its)
      by_operation _ _ _ _ (typed.compare o) is its = (is_int rules at v is, is_int rules at w its)
      by_operation _ _ _ _ typed.join is its = (is_text rules at v is, is_text rules at w its)
      by_operation _ _ _ _ typed.join_int is its = (is_text rules at v is, is_int rules at w its)
      by_operation _ _ _ _ (typed.same k l comparable) is its = alike k l v w comparable is its
      by_operation _ _ _ _ (typed.differ k l comparable) is its = alike k l v w comparable is its
      by_operation _ _ _ _ typed.equals is its = (is_text rules at v is, is_text rules at w its)
      by_operation _ _ _ _ (typed.element c part b e) is its = (is_ref rules at c v is, is_int rules at w its)
