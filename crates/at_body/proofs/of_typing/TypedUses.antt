-- What a trial does with a value of the kind that it waits for is of the right kinds.
use Rattle.std.proofs.Common.{◌≡◌, ℕ, Bool, true, List, [], ◌∷◌, ◌++◌, map, Option, Some, None, refl, sym, ◌∙◌, subst, Bor, append_assoc, append-nil}
use Rattle.std.specs.Prelude.{IfSome}
use Rattle.std.specs.List.{AllByRecursion}
use Rattle.at_model.specs.Classes.{is_sub}
use Rattle.at_model.specs.Bodies.{no_exprs, expr, ref_of}
use Rattle.at_model.specs.Run.{Value, Int, Truth, Text, Ref, Nodes, Instance, Location}
use Rattle.at_model.specs.Rules.{Rules, Kind}
use Rattle.at_model.specs.Rules as model
use Rattle.at_model.specs.Kinds.{HasKind, HaveKinds}
use Rattle.at_model.specs.Kinds as form
use Rattle.at_model.specs.TypedRuns.{ClassAt, IsNodeOf, IsOfKind, AreArguments, IsOfItsKind}
use Rattle.at_model.specs.Instances.{AnyText}
use Rattle.at_model.proofs.Below.{AreChained, sub_sub}
use Rattle.at_model.proofs.of_typing.TypedTogether.{any_text}
use Rattle.at_rules.specs.Bodies.{body_view, bodies_view}
use Rattle.at_rules.specs.declared.body.Body.{Body}
use Rattle.std.specs.Global.{Box}
use Rattle.at_body.specs.declared.todo.Asking.{Asking}
use Rattle.at_body.specs.declared.value.Value.{Value as ValueCode}
use Rattle.at_body.specs.declared.todo.Binary.{Binary}
use Rattle.at_body.specs.declared.todo.Todo.{Todo}
use Rattle.at_body.specs.declared.todo.Todo.TheVariants as code
use Rattle.at_body.specs.declared.trial.Trial.{Trial}
use Rattle.at_body.specs.Values.{value_view}
use Rattle.at_body.specs.Rest.{place_of}
use Rattle.at_body.specs.ValueKinds.{IsInt, IsTruth, IsText, IsRef}
use Rattle.at_body.specs.Typed.{PlaceKinds, scope_kinds, IsPlaceOf, IsTodo, AreTodos, Stands, Takes, Enters, WaitsFor, Uses, Operates, Calls}
use Rattle.at_body.specs.Typed as typed

module _ (rules : Rules) (at : ClassAt ℕ) where
  abbrev Is : Kind → Value ℕ → Type 0
  Is k v = IsOfKind rules.classes at v k

  -- what a value of a kind is
  pub is_int : (v : Value ℕ) → Is model.Int v → IsInt v
  is_int (Int n) h = tt
  is_int (Truth b) h = h
  is_int (Text bytes) h = h
  is_int (Ref n) h = h
  is_int (Nodes ns) h = h

  pub is_truth : (v : Value ℕ) → Is model.Truth v → IsTruth v
  is_truth (Int n) h = h
  is_truth (Truth b) h = tt
  is_truth (Text bytes) h = h
  is_truth (Ref n) h = h
  is_truth (Nodes ns) h = h

  pub is_text : (v : Value ℕ) → Is model.Text v → IsText v
  is_text (Int n) h = h
  is_text (Truth b) h = h
  is_text (Text bytes) h = tt
  is_text (Ref n) h = h
  is_text (Nodes ns) h = h

  pub is_ref : (c : ℕ) (v : Value ℕ) → Is (model.Class c) v → IsRef v
  is_ref c (Int n) h = h
  is_ref c (Truth b) h = h
  is_ref c (Text bytes) h = h
  is_ref c (Ref n) h = tt
  is_ref c (Nodes ns) h = h

  -- where the trial stands, after it looked at more or has put something else away
  pub looked : (s : PlaceKinds) (k : Kind) (t : Trial) (seen : List (Location ℕ)) → Stands rules at s k t → Stands rules at s k (record t { reads = seen })
  looked s k t seen h = record { place = h.place; todo = h.todo }

  pub backs : (s : PlaceKinds) (k : Kind) (t : Trial) (v : Value ℕ) → Stands rules at s k t → Is k v → Takes rules at t v
  backs s k t v h is = record { kinds = s; kind = k; is = is; stands = h }

  pub enters : (s : PlaceKinds) (k : Kind) (t : Trial) (b : Body) → Stands rules at s k t → HasKind rules (scope_kinds s) (body_view b) k → Enters rules at t b
  enters s k t b h is = record { kinds = s; kind = k; is = is; stands = h }

  -- what waits is told a value of its kind
  pub told : (t : Trial) (j : Instance ℕ) (v : Value ℕ) → WaitsFor rules at t j → IsOfItsKind rules at j v → Takes rules at t v
  told t j v h is = record { kinds = h.kinds; kind = h.instance.declaration.result; is = is h.instance.declaration h.instance.attribute; stands = h.stands }

  module _ (chained : AreChained rules.classes) where
    pub widen : (c d : ℕ) (v : Value ℕ) → is_sub rules.classes c d ≡ true → Is (model.Class c) v → Is (model.Class d) v
    widen c d (Int n) e h = absurd h
    widen c d (Truth b) e h = absurd h
    widen c d (Text bytes) e h = absurd h
    widen c d (Ref None) e h = tt
    widen c d (Ref (Some n)) e (x, f, g) = (x, f, sub_sub rules.classes chained x c d g e)
    widen c d (Nodes ns) e h = absurd h

    each_widened : (c d : ℕ) (ns : List ℕ) → is_sub rules.classes c d ≡ true → AllByRecursion (λ m. IsNodeOf rules.classes at m c) ns
        → AllByRecursion (λ m. IsNodeOf rules.classes at m d) ns
    each_widened c d [] e h = tt
    each_widened c d (n ∷ ns) e ((x, f, g), hs) = ((x, f, sub_sub rules.classes chained x c d g e), each_widened c d ns e hs)

    widen_all : (c d : ℕ) (v : Value ℕ) → is_sub rules.classes c d ≡ true → Is (model.Nodes c) v → Is (model.Nodes d) v
    widen_all c d (Int n) e h = absurd h
    widen_all c d (Truth b) e h = absurd h
    widen_all c d (Text bytes) e h = absurd h
    widen_all c d (Ref n) e h = absurd h
    widen_all c d (Nodes ns) e (all, short) = (each_widened c d ns e all, short)

    -- what stands on top is told the value
    pub unwound : (s : PlaceKinds) (k : Kind) (t : Trial) (v : Value ℕ) (top : Todo) (ts : List Todo) → AreTodos rules at s k (top ∷ ts) → IsPlaceOf rules.classes at s (place_of t) → Is k v → Uses rules at (record t { todo = ts }) top v
    unwound s k t v top ts (typed.more {s' = s'} {k' = k'} does rest) place is = record { kinds = s; kind = k; later = s'; result = k'; is = is; does = does; place = place; rest = rest }
    unwound s _ t v top ts (typed.widened c d sub h) place is = unwound s (model.Class d) t v top ts h place (widen c d v sub is)
    unwound s _ t v top ts (typed.widened_all c d sub h) place is = unwound s (model.Nodes d) t v top ts h place (widen_all c d v sub is)

    pub taken : (t : Trial) (v : Value ℕ) (top : Todo) (ts : List Todo) → t.todo ≡ top ∷ ts → Takes rules at t v → Uses rules at (record t { todo = ts }) top v
    taken t v top ts e h = unwound h.kinds h.kind t v top ts (subst (AreTodos rules at h.kinds h.kind) e h.stands.todo) h.stands.place h.is

    -- once all arguments are there, the instance is well typed
    pub demands : (t : Trial) (attribute n : ℕ) (done : List (Value ℕ)) → Calls rules at t attribute (Some n) done no_exprs → WaitsFor rules at t (record { node = n; attribute = attribute; arguments = done })
    demands t attribute n done h =
        let whole = sym (h.parameters ∙ no_others h.others h.are) in
        record {
          kinds = h.kinds;
          instance = record {
            class = h.node.0;
            declaration = h.declaration;
            node = h.node.1;
            attribute = h.attribute_is;
            declared = sub_sub rules.classes chained h.node.0 h.class h.declaration.class h.node.2 h.declared;
            arguments = subst (AreArguments rules.classes at AnyText done) whole h.arguments;
          };
          stands = h.stands;
        }
      where
        no_others : (others : List Kind) → HaveKinds rules (scope_kinds h.kinds) no_exprs others → h.first ++ others ≡ h.first
        no_others _ form.no_more = append-nil h.first

  -- one argument more
  arguments_more : (vs : List (Value ℕ)) (ks : List Kind) (v : Value ℕ) (k : Kind) → AreArguments rules.classes at AnyText vs ks → Is k v → AreArguments rules.classes at AnyText (vs ++ v ∷ []) (ks ++ k ∷ [])
  arguments_more [] [] v k h is = (is, any_text v, tt)
  arguments_more [] (l ∷ ks) v k h is = absurd h
  arguments_more (w ∷ vs) [] v k h is = absurd h
  arguments_more (w ∷ vs) (l ∷ ks) v k (x, y, h) is = (x, y, arguments_more vs ks v k h is)

  -- uses --------------------------------------------------------------------------------------------------------------

  -- the right operand follows
  pub right_follows : (t : Trial) (o : Binary) (b : Bor Body) (v : ValueCode) → Uses rules at t (code.Right o b) (value_view v) → Enters rules at (record t { todo = code.Apply o v ∷ t.todo }) b.now
  right_follows t o b v h = by_todo h.kinds h.kind h.later h.result h.is h.does h.place h.rest
    where
      by_todo : (s : PlaceKinds) (k : Kind) (s' : PlaceKinds) (k' : Kind) → Is k (value_view v) → IsTodo rules at s k (code.Right o b) s' k' → IsPlaceOf rules.classes at s (place_of t) → AreTodos rules at s' k' t.todo → Enters rules at (record t { todo = code.Apply o v ∷ t.todo }) b.now
      by_todo s _ _ _ is (typed.right _ k l m _ _ does x) place rest = record { kinds = s; kind = l; is = x; stands = record { place = place; todo = typed.more (typed.apply s k l m o v does is) rest } }

  -- the operands are there
  pub operands_there : (t : Trial) (o : Binary) (v : ValueCode) (w : Value ℕ) → Uses rules at t (code.Apply o v) w → Operates rules at t o (value_view v) w
  operands_there t o v w h = by_todo h.kinds h.kind h.later h.result h.is h.does h.place h.rest
    where
      by_todo : (s : PlaceKinds) (k : Kind) (s' : PlaceKinds) (k' : Kind) → Is k w → IsTodo rules at s k (code.Apply o v) s' k' → IsPlaceOf rules.classes at s (place_of t) → AreTodos rules at s' k' t.todo → Operates rules at t o (value_view v) w
      by_todo s _ _ _ is (typed.apply _ k l m _ _ does x) place rest = record { kinds = s; left = k; right = l; result = m; does = does; is_left = x; is_right = is; stands = record { place = place; todo = rest } }

  -- `&&`, `||` and `?:` choose what follows
  pub and_enters : (t : Trial) (b : Bor Body) (v : Value ℕ) → Uses rules at t (code.And b) v → Enters rules at t b.now
  and_enters t b v h = by_todo h.kinds h.kind h.later h.result h.does h.place h.rest
    where
      by_todo : (s : PlaceKinds) (k : Kind) (s' : PlaceKinds) (k' : Kind) → IsTodo rules at s k (code.And b) s' k' → IsPlaceOf rules.classes at s (place_of t) → AreTodos rules at s' k' t.todo → Enters rules at t b.now
      by_todo s _ _ _ (typed.and _ _ x) place rest = enters s model.Truth t b.now (record { place = place; todo = rest }) x

  pub or_enters : (t : Trial) (b : Bor Body) (v : Value ℕ) → Uses rules at t (code.Or b) v → Enters rules at t b.now
  or_enters t b v h = by_todo h.kinds h.kind h.later h.result h.does h.place h.rest
    where
      by_todo : (s : PlaceKinds) (k : Kind) (s' : PlaceKinds) (k' : Kind) → IsTodo rules at s k (code.Or b) s' k' → IsPlaceOf rules.classes at s (place_of t) → AreTodos rules at s' k' t.todo → Enters rules at t b.now
      by_todo s _ _ _ (typed.or _ _ x) place rest = enters s model.Truth t b.now (record { place = place; todo = rest }) x

  pub and_takes : (t : Trial) (b : Bor Body) (v : Value ℕ) (c : Bool) → Uses rules at t (code.And b) v → Takes rules at t (Truth c)
  and_takes t b v c h = by_todo h.kinds h.kind h.later h.result h.does h.place h.rest
    where
      by_todo : (s : PlaceKinds) (k : Kind) (s' : PlaceKinds) (k' : Kind) → IsTodo rules at s k (code.And b) s' k' → IsPlaceOf rules.classes at s (place_of t) → AreTodos rules at s' k' t.todo → Takes rules at t (Truth c)
      by_todo s _ _ _ (typed.and _ _ x) place rest = backs s model.Truth t (Truth c) (record { place = place; todo = rest }) tt

  pub or_takes : (t : Trial) (b : Bor Body) (v : Value ℕ) (c : Bool) → Uses rules at t (code.Or b) v → Takes rules at t (Truth c)
  or_takes t b v c h = by_todo h.kinds h.kind h.later h.result h.does h.place h.rest
    where
      by_todo : (s : PlaceKinds) (k : Kind) (s' : PlaceKinds) (k' : Kind) → IsTodo rules at s k (code.Or b) s' k' → IsPlaceOf rules.classes at s (place_of t) → AreTodos rules at s' k' t.todo → Takes rules at t (Truth c)
      by_todo s _ _ _ (typed.or _ _ x) place rest = backs s model.Truth t (Truth c) (record { place = place; todo = rest }) tt

  -- the test of each is a truth value
  pub and_tests : (t : Trial) (b : Bor Body) (v : Value ℕ) → Uses rules at t (code.And b) v → IsTruth v
  and_tests t b v h = by_todo h.kinds h.kind h.later h.result h.is h.does
    where
      by_todo : (s : PlaceKinds) (k : Kind) (s' : PlaceKinds) (k' : Kind) → Is k v → IsTodo rules at s k (code.And b) s' k' → IsTruth v
      by_todo s _ _ _ is (typed.and _ _ x) = is_truth v is

  pub or_tests : (t : Trial) (b : Bor Body) (v : Value ℕ) → Uses rules at t (code.Or b) v → IsTruth v
  or_tests t b v h = by_todo h.kinds h.kind h.later h.result h.is h.does
    where
      by_todo : (s : PlaceKinds) (k : Kind) (s' : PlaceKinds) (k' : Kind) → Is k v → IsTodo rules at s k (code.Or b) s' k' → IsTruth v
      by_todo s _ _ _ is (typed.or _ _ x) = is_truth v is

  -- what is chosen, and the test
  pub record Chooses (t : Trial) (a b : Body) (v : Value ℕ) : Type 0 where
    pub test : IsTruth v
    pub yes : Enters rules at t a
    pub alternative : Enters rules at t b

  pub choices : (t : Trial) (a b : Bor Body) (v : Value ℕ) → Uses rules at t (code.Choose a b) v → Chooses t a.now b.now v
  choices t a b v h = by_todo h.kinds h.kind h.later h.result h.is h.does h.place h.rest
    where
      by_todo : (s : PlaceKinds) (k : Kind) (s' : PlaceKinds) (k' : Kind) → Is k v → IsTodo rules at s k (code.Choose a b) s' k' → IsPlaceOf rules.classes at s (place_of t) → AreTodos rules at s' k' t.todo → Chooses t a.now b.now v
      by_todo s _ _ k' is (typed.choose _ _ _ _ x y) place rest =
          let stands : Stands rules at s k' t = record { place = place; todo = rest } in
          record { test = is_truth v is; yes = enters s k' t a.now stands x; alternative = enters s k' t b.now stands y }

  -- calls -------------------------------------------------------------------------------------------------------------

  pub node_in : (c : ℕ) (n : Option ℕ) → Is (model.Class c) (Ref n) → IfSome n (λ m. IsNodeOf rules.classes at m c)
  node_in c None h = tt
  node_in c (Some n) h = h

  pub node_of_class : (c : ℕ) (v : Value ℕ) → Is (model.Class c) v → IfSome (ref_of v) (λ m. IsNodeOf rules.classes at m c)
  node_of_class c (Int n) h = absurd h
  node_of_class c (Truth b) h = absurd h
  node_of_class c (Text bytes) h = absurd h
  node_of_class c (Ref n) h = node_in c n h
  node_of_class c (Nodes ns) h = absurd h

  -- the receiver is a node or null
  pub receiver_is : (t : Trial) (attribute : ℕ) (bs : Bor (List Body)) (v : Value ℕ) → Uses rules at t (code.Arguments attribute bs) v → IsRef v
  receiver_is t attribute bs v h = by_todo h.kinds h.kind h.later h.result h.is h.does
    where
      by_todo : (s : PlaceKinds) (k : Kind) (s' : PlaceKinds) (k' : Kind) → Is k v → IsTodo rules at s k (code.Arguments attribute bs) s' k' → IsRef v
      by_todo s _ _ _ is (typed.arguments _ c _ d _ e sub xs) = is_ref c v is

  -- the receiver is there: the arguments follow
  pub receives : (t : Trial) (attribute : ℕ) (bs : Bor (List Body)) (v : Value ℕ) → Uses rules at t (code.Arguments attribute bs) v → Calls rules at t attribute (ref_of v) [] (bodies_view bs.now)
  receives t attribute bs v h = by_todo h.kinds h.kind h.later h.result h.is h.does h.place h.rest
    where
      by_todo : (s : PlaceKinds) (k : Kind) (s' : PlaceKinds) (k' : Kind) → Is k v → IsTodo rules at s k (code.Arguments attribute bs) s' k' → IsPlaceOf rules.classes at s (place_of t) → AreTodos rules at s' k' t.todo → Calls rules at t attribute (ref_of v) [] (bodies_view bs.now)
      by_todo s _ _ _ is (typed.arguments _ c _ d _ e sub xs) place rest = record {
        kinds = s;
        class = c;
        declaration = d;
        first = [];
        others = d.parameters;
        attribute_is = e;
        declared = sub;
        parameters = refl;
        node = node_of_class c v is;
        arguments = tt;
        are = xs;
        stands = record { place = place; todo = rest };
      }

  -- an argument is there: the others follow
  pub passes : (t : Trial) (call : Box Asking) (bs : Bor (List Body)) (v : Value ℕ) → Uses rules at t (code.Argument call bs) v → Calls rules at t call.value.attribute call.value.node (map value_view call.value.done.items ++ v ∷ []) (bodies_view bs.now)
  passes t call bs v h = by_todo h.kinds h.kind h.later h.result h.is h.does h.place h.rest
    where
      by_todo : (s : PlaceKinds) (k : Kind) (s' : PlaceKinds) (k' : Kind) → Is k v → IsTodo rules at s k (code.Argument call bs) s' k' → IsPlaceOf rules.classes at s (place_of t) → AreTodos rules at s' k' t.todo → Calls rules at t call.value.attribute call.value.node (map value_view call.value.done.items ++ v ∷ []) (bodies_view bs.now)
      by_todo s _ _ _ is (typed.argument _ c d _ _ ks k ls e sub all node args xs) place rest = record {
        kinds = s;
        class = c;
        declaration = d;
        first = ks ++ k ∷ [];
        others = ls;
        attribute_is = e;
        declared = sub;
        parameters = all ∙ sym (append_assoc ks (k ∷ []) ls);
        node = node;
        arguments = arguments_more (map value_view call.value.done.items) ks v k args is;
        are = xs;
        stands = record { place = place; todo = rest };
      }

  -- the next argument is evaluated
  pub next_enters : (t : Trial) (call : Box Asking) (b : Body) (bs : Bor (List Body)) → Calls rules at t call.value.attribute call.value.node (map value_view call.value.done.items) (expr (body_view b) (bodies_view bs.now)) → Enters rules at (record t { todo = code.Argument call bs ∷ t.todo }) b
  next_enters t call b bs h = by_kinds h.others h.parameters h.are
    where
      by_kinds : (others : List Kind) → h.declaration.parameters ≡ h.first ++ others → HaveKinds rules (scope_kinds h.kinds) (expr (body_view b) (bodies_view bs.now)) others → Enters rules at (record t { todo = code.Argument call bs ∷ t.todo }) b
      by_kinds _ all (form.argument {k = k} {ks = ls} allowed x xs) = record {
        kinds = h.kinds;
        kind = k;
        is = x;
        stands = record {
          place = h.stands.place;
          todo = typed.more (typed.argument h.kinds h.class h.declaration call bs h.first k ls h.attribute_is h.declared all h.node h.arguments xs) h.stands.todo;
        };
      }

  -- all arguments are there
  pub complete : (t : Trial) (call it : Asking) (vs : List ValueCode) → it ≡ call → vs ≡ it.done.items → Calls rules at t call.attribute call.node (map value_view call.done.items) no_exprs → Calls rules at t it.attribute it.node (map value_view vs) no_exprs
  complete t call it vs e f h = subst (λ ws. Calls rules at t it.attribute it.node (map value_view ws) no_exprs) (sym f) (subst (λ (x : Asking). Calls rules at t x.attribute x.node (map value_view x.done.items) no_exprs) (sym e) h)

  -- the demand of a call waits
  pub demands_call : AreChained rules.classes → (t : Trial) (j : Instance ℕ) (n attribute : ℕ) (node : Option ℕ) (done : List (Value ℕ)) → node ≡ Some n → j ≡ record { node = n; attribute = attribute; arguments = done } → Calls rules at t attribute node done no_exprs → WaitsFor rules at t j
  demands_call lined t j n attribute node done is made h = subst (λ i. WaitsFor rules at t i) (sym made) (demands lined t attribute n done (subst (λ o. Calls rules at t attribute o done no_exprs) is h))
