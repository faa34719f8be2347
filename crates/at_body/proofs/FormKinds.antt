-- A formula under way keeps to the kinds.
use Rattle.std.proofs.Common.{◌≡◌, ℕ, Bool, true, false, cond, List, [], ◌∷◌, ◌++◌, map, Option, Some, None, refl, ap, sym, ◌∙◌, subst, Result, Ok, Err, IfOk, Bor, append_assoc, append-nil, length}
use Rattle.std.specs.Prelude.{IfSome, option_and_then, ⊤}
use Rattle.std.specs.Global.{Box}
use Rattle.std.specs.List.{AllByRecursion}
use Rattle.at_model.specs.Classes.{class_in}
use Rattle.at_model.specs.Bodies.{Expr, And, Or, Choose, Call, Exists, no_exprs, expr, ref_of, truth_of}
use Rattle.at_model.specs.Follow.{Reached, Ends, Stops, Waits, follow}
use Rattle.at_model.specs.Instances.{AnyText}
use Rattle.at_model.specs.Kinds.{AreTyped, HasKind, HaveKinds, IsDeclarationTyped}
use Rattle.at_model.specs.Kinds as form
use Rattle.at_model.specs.Rules.{Rules, Kind, Attribute, start_of}
use Rattle.at_model.specs.Rules as model
use Rattle.at_model.specs.Run.{Value, Int, Truth, Text, Ref, Nodes, Instance, Location, Contents, Slot, Run, Gives, Fails, Looks, Demands}
use Rattle.at_model.specs.TypedRuns.{ClassAt, IsNodeOf, IsOfKind, AreArguments, IsOfItsKind, IsTypedRun, IsWellTyped}
use Rattle.at_model.specs.of_fixpoints.Formulas.{Formula, Known, Asks, is_known_as}
use Rattle.at_model.proofs.Below.{asked_below, sub_sub}
use Rattle.at_model.proofs.Chained.{chained}
use Rattle.at_model.proofs.of_typing.TypedTogether.{any_text}
use Rattle.at_rules.specs.Bodies.{body_view, bodies_view}
use Rattle.at_rules.specs.declared.body.Body.{Body}
use Rattle.at_body.specs.declared.forming.Forming.{Forming}
use Rattle.at_body.specs.declared.task.Purpose.{Purpose}
use Rattle.at_body.specs.declared.task.Purpose.TheVariants as purpose
use Rattle.at_body.specs.declared.task.Task.{Task}
use Rattle.at_body.specs.declared.task.Task.TheVariants.{Right, Join, Element}
use Rattle.at_body.specs.declared.task.Doing.{Doing}
use Rattle.at_body.specs.declared.task.Doing.TheVariants.{Form, Made}
use Rattle.at_body.specs.declared.todo.Asking.{Asking}
use Rattle.at_body.specs.declared.todo.Now.TheVariants.{Enter}
use Rattle.at_body.specs.declared.trial.Step.{Step}
use Rattle.at_body.specs.declared.trial.Step.TheVariants as step
use Rattle.at_body.specs.declared.trial.Trial.{Trial}
use Rattle.at_body.specs.declared.value.Value.{Value as ValueCode}
use Rattle.at_body.specs.Values.{value_view}
use Rattle.at_body.specs.ValueKinds.{IsTruth, IsRef}
use Rattle.at_body.specs.Stacked.{below}
use Rattle.at_body.specs.Standing.{scope}
use Rattle.at_body.specs.Pieces.{HasTop, combined, put_together, together, top_of}
use Rattle.at_body.specs.Rest.{ev, resumed, reached}
use Rattle.at_body.specs.Rest as trial
use Rattle.at_body.specs.Typed.{PlaceKinds, scope_kinds, kinds_inside, AreBound, IsOver, IsPlaceOf, IsTypedStep}
use Rattle.at_body.specs.Typed as typed
use Rattle.at_body.specs.Forms.{place_of, stepped}
use Rattle.at_body.specs.TypedForms.{AreTasks, Calls, Completes, Continues, Decides, Evaluates, Folds, Forms, GoesOver, IsForm, IsPurpose, IsTypedDoing, Stands, Uses}
use Rattle.at_body.specs.TypedForms as kinds
use Rattle.at_body.proofs.of_typing.TypedUses.{is_truth, is_ref, node_of_class}
use Rattle.at_body.proofs.of_typing.TypedAnswers.{evaluated, scope_typed}
use Rattle.at_body.proofs.of_typing.TypedSteps.{none_more}
use Rattle.at_body.proofs.FormRuns.{alone_there}
use Rattle.at_body.specs.TypedStart.{IsEquation}
use Rattle.at_model.proofs.Everywhere.{found}

module _ (rules : Rules) (at : ClassAt ℕ) where
  abbrev Is : Kind → Value ℕ → Type 0
  Is k v = IsOfKind rules.classes at v k

  abbrev Has : PlaceKinds → Expr → Kind → Type 0
  Has s e k = HasKind rules (scope_kinds s) e k

  -- expressions -------------------------------------------------------------------------------------------------------

  both_of : (s : PlaceKinds) (a b : Expr) → Has s (And a b) model.Truth → Has s a model.Truth × Has s b model.Truth
  both_of s a b x = by_kind model.Truth x
    where
      by_kind : (k : Kind) → Has s (And a b) k → Has s a model.Truth × Has s b model.Truth
      by_kind _ (form.widened c d sub x) = by_kind (model.Class c) x
      by_kind _ (form.widened_all c d sub x) = by_kind (model.Nodes c) x
      by_kind _ (form.and x y) = (x, y)

  either_of : (s : PlaceKinds) (a b : Expr) → Has s (Or a b) model.Truth → Has s a model.Truth × Has s b model.Truth
  either_of s a b x = by_kind model.Truth x
    where
      by_kind : (k : Kind) → Has s (Or a b) k → Has s a model.Truth × Has s b model.Truth
      by_kind _ (form.widened c d sub x) = by_kind (model.Class c) x
      by_kind _ (form.widened_all c d sub x) = by_kind (model.Nodes c) x
      by_kind _ (form.or x y) = (x, y)

  pub and_forms : (t : Forming) (c p : Bool) (b l : Body) (r : Bor Body) → body_view b ≡ And (body_view l) (body_view r.now) → Forms rules at t b →
      Forms rules at (record t { tasks = Right c p r ∷ t.tasks }) l
  and_forms t c p b l r is h =
      let (x, y) = both_of h.kinds (body_view l) (body_view r.now) (subst (λ z. Has h.kinds z model.Truth) is h.is) in
      record { kinds = h.kinds; is = x; stands = record { place = h.stands.place; tasks = kinds.right h.kinds c p r t.tasks t.pile y h.stands.tasks } }

  pub or_forms : (t : Forming) (c p : Bool) (b l : Body) (r : Bor Body) → body_view b ≡ Or (body_view l) (body_view r.now) → Forms rules at t b →
      Forms rules at (record t { tasks = Right c p r ∷ t.tasks }) l
  or_forms t c p b l r is h =
      let (x, y) = either_of h.kinds (body_view l) (body_view r.now) (subst (λ z. Has h.kinds z model.Truth) is h.is) in
      record { kinds = h.kinds; is = x; stands = record { place = h.stands.place; tasks = kinds.right h.kinds c p r t.tasks t.pile y h.stands.tasks } }

  pub choose_evaluates : (t : Forming) (p : Bool) (b test : Body) (l r : Bor Body) → body_view b ≡ Choose (body_view test) (body_view l.now) (body_view r.now) →
      Forms rules at t b → Evaluates rules at t (purpose.Choose p l r) test
  choose_evaluates t p b test l r is h = by_kind model.Truth refl (subst (λ z. Has h.kinds z model.Truth) is h.is)
    where
      by_kind : (k : Kind) → k ≡ model.Truth → Has h.kinds (Choose (body_view test) (body_view l.now) (body_view r.now)) k → Evaluates rules at t (purpose.Choose p l r) test
      by_kind _ e (form.widened c d sub x) = absurd cc
      by_kind _ e (form.widened_all c d sub x) = absurd cc
      by_kind k e (form.choose _ x y z) = record {
        kinds = h.kinds;
        kind = model.Truth;
        is = x;
        does = kinds.choose p l r (subst (Has h.kinds (body_view l.now)) e y) (subst (Has h.kinds (body_view r.now)) e z);
        stands = h.stands;
      }

  pub exists_evaluates : (t : Forming) (p : Bool) (b node : Body) (part : ℕ) (e : Bor Body) → body_view b ≡ Exists (body_view node) part (body_view e.now) →
      Forms rules at t b → Evaluates rules at t (purpose.Elements p part e) node
  exists_evaluates t p b node part e is h = by_kind model.Truth (subst (λ z. Has h.kinds z model.Truth) is h.is)
    where
      by_kind : (k : Kind) → Has h.kinds (Exists (body_view node) part (body_view e.now)) k → Evaluates rules at t (purpose.Elements p part e) node
      by_kind _ (form.widened c d sub x) = by_kind (model.Class c) x
      by_kind _ (form.widened_all c d sub x) = by_kind (model.Nodes c) x
      by_kind _ (form.exists c _ d is x y) = record { kinds = h.kinds; kind = model.Class c; is = x; does = kinds.elements p c part d e is y; stands = h.stands }

  pub call_evaluates : (t : Forming) (b receiver : Body) (attribute : ℕ) (bs : Bor (List Body)) → body_view b ≡ Call (body_view receiver) attribute (bodies_view bs.now) →
      Forms rules at t b → Evaluates rules at t (purpose.Arguments attribute bs) receiver
  call_evaluates t b receiver attribute bs is h = by_kind model.Truth refl (subst (λ z. Has h.kinds z model.Truth) is h.is)
    where
      by_kind : (k : Kind) → k ≡ model.Truth → Has h.kinds (Call (body_view receiver) attribute (bodies_view bs.now)) k → Evaluates rules at t (purpose.Arguments attribute bs) receiver
      by_kind _ e (form.widened c d sub x) = absurd cc
      by_kind _ e (form.widened_all c d sub x) = absurd cc
      by_kind k e (form.call c _ d is sub x xs) = record { kinds = h.kinds; kind = model.Class c; is = x; does = kinds.arguments c attribute d bs is e sub xs; stands = h.stands }

  pub evaluates_it : (t : Forming) (p : Bool) (b : Body) → Forms rules at t b → Evaluates rules at t (purpose.Formula p) b
  evaluates_it t p b h = record { kinds = h.kinds; kind = model.Truth; is = h.is; does = kinds.formula p; stands = h.stands }

  -- formulas ----------------------------------------------------------------------------------------------------------

  pub known_completes : (t : Forming) (s : PlaceKinds) (b : Bool) → Stands rules at s t t.pile → Completes rules at (record t { pile = Known (Truth b) ∷ t.pile })
  known_completes t s b h = record { kinds = s; formula = Known (Truth b); others = t.pile; top = refl; is = tt; stands = record { place = h.place; tasks = h.tasks } }

  no_others : (s : PlaceKinds) (first others : List Kind) → HaveKinds rules (scope_kinds s) no_exprs others → first ++ others ≡ first
  no_others s first _ form.no_more = append-nil first

  one_declaration : (d e : Attribute) (o : Option Attribute) → o ≡ Some d → o ≡ Some e → d ≡ e
  one_declaration d e o f g = let h : Some d ≡ Some e = sym f ∙ g in cc

  pub asks_completes : (look : Contents ℕ) → IsOver rules at look → (t : Forming) (attribute n : ℕ) (node : Option ℕ) (done : List (Value ℕ)) (i : Instance ℕ) (pile : List (Formula ℕ)) →
      node ≡ Some n → i ≡ record { node = n; attribute = attribute; arguments = done } → pile ≡ Asks i ∷ t.pile →
      Calls rules at t attribute node done no_exprs → Completes rules at (record t { pile = pile })
  asks_completes look over t attribute n node done i pile is made top h =
      let there : IfSome (Some n) (λ m. IsNodeOf rules.classes at m h.class) = subst (λ o. IfSome o (λ m. IsNodeOf rules.classes at m h.class)) is h.node in
      let whole : h.declaration.parameters ≡ h.first = h.parameters ∙ no_others h.kinds h.first h.others h.are in
      let well : IsWellTyped rules at AnyText (record { node = n; attribute = attribute; arguments = done }) = record {
        class = there.0;
        declaration = h.declaration;
        node = there.1;
        attribute = h.attribute_is;
        declared = sub_sub rules.classes (chained rules.classes over.hierarchy) there.0 h.class h.declaration.class there.2 h.declared;
        arguments = subst (AreArguments rules.classes at AnyText done) (sym whole) h.arguments;
      } in
      record {
        kinds = h.kinds;
        formula = Asks i;
        others = t.pile;
        top = top;
        is = subst (λ (j : Instance ℕ). IsForm rules at (Asks j)) (sym made) (well, λ d e. subst (λ (z : Attribute). z.result ≡ model.Truth) (one_declaration h.declaration d _ h.attribute_is e) h.result);
        stands = record { place = h.stands.place; tasks = h.stands.tasks };
      }

  pub join_kept : (t : Forming) (c : Bool) (s : PlaceKinds) → HasTop t.pile → IsForm rules at (top_of t.pile) → AreTasks rules at s t.tasks (below t.pile) → AreTasks rules at s (Join c ∷ t.tasks) t.pile
  join_kept t c s top is h = subst (AreTasks rules at s (Join c ∷ t.tasks)) (sym top) (kinds.join s c (top_of t.pile) t.tasks (below t.pile) is h)

  joined_form : (c : Bool) (f g : Formula ℕ) → IsForm rules at f → IsForm rules at g → IsForm rules at (together c f g)
  joined_form c f g x y = by_known (is_known_as c g)
    where
      two : (d : Bool) → IsForm rules at (combined d f g)
      two true = (x, y)
      two false = (x, y)

      by_known : (b : Bool) → IsForm rules at (cond b f (combined c f g))
      by_known true = x
      by_known false = two c

  -- uses of values ----------------------------------------------------------------------------------------------------

  truth_is : (v : Value ℕ) → Is model.Truth v → Truth (truth_of v) ≡ v
  truth_is (Int n) h = absurd h
  truth_is (Truth b) h = refl
  truth_is (Text bytes) h = absurd h
  truth_is (Ref n) h = absurd h
  truth_is (Nodes ns) h = absurd h

  pub formula_truth : (t : Forming) (p : Bool) (v : Value ℕ) → Uses rules at t (purpose.Formula p) v → IsTruth v
  formula_truth t p v h = by_purpose h.kind h.is h.does
    where
      by_purpose : (k : Kind) → Is k v → IsPurpose rules at h.kinds k (purpose.Formula p) → IsTruth v
      by_purpose _ is (kinds.formula _) = is_truth rules at v is

  pub choice_truth : (t : Forming) (p : Bool) (a b : Bor Body) (v : Value ℕ) → Uses rules at t (purpose.Choose p a b) v → IsTruth v
  choice_truth t p a b v h = by_purpose h.kind h.is h.does
    where
      by_purpose : (k : Kind) → Is k v → IsPurpose rules at h.kinds k (purpose.Choose p a b) → IsTruth v
      by_purpose _ is (kinds.choose _ _ _ x y) = is_truth rules at v is

  pub choice_forms : (t : Forming) (p c : Bool) (a b : Bor Body) (v : Value ℕ) → Uses rules at t (purpose.Choose p a b) v → Forms rules at t ((cond c a b).now)
  choice_forms t p c a b v h = by_purpose c h.kind h.does
    where
      by_purpose : (d : Bool) (k : Kind) → IsPurpose rules at h.kinds k (purpose.Choose p a b) → Forms rules at t ((cond d a b).now)
      by_purpose true _ (kinds.choose _ _ _ x y) = record { kinds = h.kinds; is = x; stands = h.stands }
      by_purpose false _ (kinds.choose _ _ _ x y) = record { kinds = h.kinds; is = y; stands = h.stands }

  pub receiver_ref : (t : Forming) (attribute : ℕ) (bs : Bor (List Body)) (v : Value ℕ) → Uses rules at t (purpose.Arguments attribute bs) v → IsRef v
  receiver_ref t attribute bs v h = by_purpose h.kind h.is h.does
    where
      by_purpose : (k : Kind) → Is k v → IsPurpose rules at h.kinds k (purpose.Arguments attribute bs) → IsRef v
      by_purpose _ is (kinds.arguments c _ d _ e r sub xs) = is_ref rules at c v is

  pub receiver_calls : (t : Forming) (attribute : ℕ) (bs : Bor (List Body)) (v : Value ℕ) → Uses rules at t (purpose.Arguments attribute bs) v → Calls rules at t attribute (ref_of v) [] (bodies_view bs.now)
  receiver_calls t attribute bs v h = by_purpose h.kind h.is h.does
    where
      by_purpose : (k : Kind) → Is k v → IsPurpose rules at h.kinds k (purpose.Arguments attribute bs) → Calls rules at t attribute (ref_of v) [] (bodies_view bs.now)
      by_purpose _ is (kinds.arguments c _ d _ e r sub xs) = record {
        kinds = h.kinds;
        class = c;
        declaration = d;
        first = [];
        others = d.parameters;
        attribute_is = e;
        result = r;
        declared = sub;
        parameters = refl;
        node = node_of_class rules at c v is;
        arguments = tt;
        are = xs;
        stands = h.stands;
      }

  arguments_more : (vs : List (Value ℕ)) (ks : List Kind) (v : Value ℕ) (k : Kind) → AreArguments rules.classes at AnyText vs ks → Is k v → AreArguments rules.classes at AnyText (vs ++ v ∷ []) (ks ++ k ∷ [])
  arguments_more [] [] v k h is = (is, any_text v, tt)
  arguments_more [] (l ∷ ks) v k h is = absurd h
  arguments_more (w ∷ vs) [] v k h is = absurd h
  arguments_more (w ∷ vs) (l ∷ ks) v k (x, y, h) is = (x, y, arguments_more vs ks v k h is)

  pub argument_calls : (t : Forming) (call : Box Asking) (bs : Bor (List Body)) (v : Value ℕ) → Uses rules at t (purpose.Argument call bs) v →
      Calls rules at t call.value.attribute call.value.node (map value_view call.value.done.items ++ v ∷ []) (bodies_view bs.now)
  argument_calls t call bs v h = by_purpose h.kind h.is h.does
    where
      by_purpose : (k : Kind) → Is k v → IsPurpose rules at h.kinds k (purpose.Argument call bs) → Calls rules at t call.value.attribute call.value.node (map value_view call.value.done.items ++ v ∷ []) (bodies_view bs.now)
      by_purpose _ is (kinds.argument c d _ _ ks k ls e r sub all node args xs) = record {
        kinds = h.kinds;
        class = c;
        declaration = d;
        first = ks ++ k ∷ [];
        others = ls;
        attribute_is = e;
        result = r;
        declared = sub;
        parameters = all ∙ sym (append_assoc ks (k ∷ []) ls);
        node = node;
        arguments = arguments_more (map value_view call.value.done.items) ks v k args is;
        are = xs;
        stands = h.stands;
      }

  pub next_evaluates : (t : Forming) (call : Box Asking) (b : Body) (bs : Bor (List Body)) → Calls rules at t call.value.attribute call.value.node (map value_view call.value.done.items) (expr (body_view b) (bodies_view bs.now)) →
      Evaluates rules at t (purpose.Argument call bs) b
  next_evaluates t call b bs h = by_kinds h.others h.parameters h.are
    where
      by_kinds : (others : List Kind) → h.declaration.parameters ≡ h.first ++ others → HaveKinds rules (scope_kinds h.kinds) (expr (body_view b) (bodies_view bs.now)) others → Evaluates rules at t (purpose.Argument call bs) b
      by_kinds _ all (form.argument {k = k} {ks = ls} allowed x xs) = record {
        kinds = h.kinds;
        kind = k;
        is = x;
        does = kinds.argument h.class h.declaration call bs h.first k ls h.attribute_is h.result h.declared all h.node h.arguments xs;
        stands = h.stands;
      }

  pub node_ref : (t : Forming) (p : Bool) (part : ℕ) (e : Bor Body) (v : Value ℕ) → Uses rules at t (purpose.Elements p part e) v → IsRef v
  node_ref t p part e v h = by_purpose h.kind h.is h.does
    where
      by_purpose : (k : Kind) → Is k v → IsPurpose rules at h.kinds k (purpose.Elements p part e) → IsRef v
      by_purpose _ is (kinds.elements _ c _ b _ shape x) = is_ref rules at c v is

  pub node_folds : (t : Forming) (p : Bool) (part : ℕ) (e : Bor Body) (v : Value ℕ) → Uses rules at t (purpose.Elements p part e) v → Folds rules at t part e.now (ref_of v)
  node_folds t p part e v h = by_purpose h.kind h.is h.does
    where
      by_purpose : (k : Kind) → Is k v → IsPurpose rules at h.kinds k (purpose.Elements p part e) → Folds rules at t part e.now (ref_of v)
      by_purpose _ is (kinds.elements _ c _ b _ shape x) = record {
        goes = record { kinds = h.kinds; class = b; is = x; nodes = tt; stands = h.stands };
        class = c;
        shape = shape;
        node = node_of_class rules at c v is;
      }

  pub sides_typed : {E : Type 0} (look : Contents ℕ) (res : Result Doing E) (t new : Forming) (c p : Bool) (l r : Bor Body) →
      IfOk res (λ d. (d ≡ Form p l) × (new ≡ record t { tasks = Right c p r ∷ t.tasks })) → Forms rules at (record t { tasks = Right c p r ∷ t.tasks }) l.now →
      IfOk res (λ d. IsTypedDoing rules at look d new)
  sides_typed look (Ok d) t new c p l r (is, becomes) h = rw (is, becomes) h
  sides_typed look (Err x) t new c p l r e h = tt

  pub known_typed : {E : Type 0} (look : Contents ℕ) (res : Result Doing E) (t new : Forming) (s : PlaceKinds) (b : Bool) → Stands rules at s t t.pile →
      IfOk res (λ d. (d ≡ Made) × (new ≡ record t { pile = Known (Truth b) ∷ t.pile })) → IfOk res (λ d. IsTypedDoing rules at look d new)
  known_typed look (Ok d) t new s b h (is, becomes) = rw (is, becomes) (known_completes t s b h)
  known_typed look (Err x) t new s b h e = tt

  pub complete : (t : Forming) (call it : Asking) (vs : List ValueCode) (bs : List Body) → length bs ≡ 0 → it ≡ call → vs ≡ it.done.items →
      Calls rules at t call.attribute call.node (map value_view call.done.items) (bodies_view bs) → Calls rules at t it.attribute it.node (map value_view vs) no_exprs
  complete t call it vs bs none e f h =
      let alone : bs ≡ [] = none_more bs none in
      subst (λ (ws : List ValueCode). Calls rules at t it.attribute it.node (map value_view ws) no_exprs) (sym f)
      (subst (λ (x : Asking). Calls rules at t x.attribute x.node (map value_view x.done.items) no_exprs) (sym e)
      (subst (λ es. Calls rules at t call.attribute call.node (map value_view call.done.items) (bodies_view es)) alone h))

  -- elements ----------------------------------------------------------------------------------------------------------

  pub elements_seen : (look : Contents ℕ) → IsOver rules at look → (t : Forming) (part : ℕ) (e : Body) (n : ℕ) (o : Option ℕ) (ns : List ℕ) (new : Trial) → o ≡ Some n → ns ≡ look (Slot n part) →
      Folds rules at t part e o → GoesOver rules at (record t { trial = new }) e ns
  elements_seen look over t part e n o ns new is children h =
      let there : IfSome (Some n) (λ m. IsNodeOf rules.classes at m h.class) = subst (λ z. IfSome z (λ m. IsNodeOf rules.classes at m h.class)) is h.node in
      record {
        kinds = h.goes.kinds;
        class = h.goes.class;
        is = h.goes.is;
        nodes = subst (AllByRecursion (λ m. IsNodeOf rules.classes at m h.goes.class)) (sym children) (over.contents.children n there.0 part h.goes.class there.1
            (asked_below rules.classes (chained rules.classes over.hierarchy) there.0 h.class part h.goes.class class_in there.2 (ap (option_and_then class_in) h.shape)));
        stands = record { place = h.goes.stands.place; tasks = h.goes.stands.tasks };
      }

  pub element_forms : (t : Forming) (p : Bool) (e : Bor Body) (n : ℕ) (ns : Bor (List ℕ)) → GoesOver rules at t e.now (n ∷ ns.now) →
      Forms rules at (record t { bound = n ∷ t.bound; tasks = Element p e ns ∷ t.tasks }) e.now
  element_forms t p e n ns h = record {
    kinds = kinds_inside h.kinds h.class;
    is = h.is;
    stands = record {
      place = record { this = h.stands.place.this; bound = (h.nodes.0, h.stands.place.bound); passed = h.stands.place.passed; child = h.stands.place.child; index = h.stands.place.index };
      tasks = kinds.element h.kinds h.class p e ns t.tasks t.pile h.is h.nodes.1 h.stands.tasks;
    };
  }

  -- tasks -------------------------------------------------------------------------------------------------------------

  pub top_there : (t : Forming) (k : Task) → Continues rules at t k → HasTop t.pile
  top_there t k h = rw (h.top) refl

  pub top_form : (t : Forming) (k : Task) → Continues rules at t k → IsForm rules at (top_of t.pile)
  top_form t k h = rw (h.top) h.is

  pub right_follows : (t : Forming) (c p : Bool) (e : Bor Body) → Continues rules at t (Right c p e) →
      (s : PlaceKinds) × IsPlaceOf rules.classes at s (place_of t) × HasKind rules (scope_kinds s) (body_view e.now) model.Truth × AreTasks rules at s t.tasks (below t.pile)
  right_follows t c p e h = by_tasks h.kinds h.others h.top h.place h.tasks
    where
      by_tasks : (s : PlaceKinds) (fs : List (Formula ℕ)) → t.pile ≡ h.formula ∷ fs → IsPlaceOf rules.classes at s (place_of t) → AreTasks rules at s (Right c p e ∷ t.tasks) fs →
          (s : PlaceKinds) × IsPlaceOf rules.classes at s (place_of t) × HasKind rules (scope_kinds s) (body_view e.now) model.Truth × AreTasks rules at s t.tasks (below t.pile)
      by_tasks s fs top place (kinds.right _ _ _ _ _ _ x more) = (s, place, x, subst (AreTasks rules at s t.tasks) (sym (ap below top)) more)

  pub joins_completes : (t : Forming) (c : Bool) (pile : List (Formula ℕ)) → pile ≡ put_together c t.pile → Continues rules at t (Join c) → Completes rules at (record t { pile = pile })
  joins_completes t c pile becomes h = by_tasks h.kinds h.others h.top h.place h.tasks
    where
      by_tasks : (s : PlaceKinds) (fs : List (Formula ℕ)) → t.pile ≡ h.formula ∷ fs → IsPlaceOf rules.classes at s (place_of t) → AreTasks rules at s (Join c ∷ t.tasks) fs → Completes rules at (record t { pile = pile })
      by_tasks s _ top place (kinds.join _ _ f _ fs x more) = record {
        kinds = s;
        formula = together c f h.formula;
        others = fs;
        top = becomes ∙ ap (put_together c) top;
        is = joined_form c f h.formula x h.is;
        stands = record { place = place; tasks = more };
      }

  outside_bound : (cs ns : List ℕ) (c : ℕ) → AreBound rules.classes at ns (c ∷ cs) → AreBound rules.classes at (below ns) cs
  outside_bound cs [] c h = absurd h
  outside_bound cs (n ∷ ns) c h = h.1

  pub element_decides : (t : Forming) (p : Bool) (e : Bor Body) (ns : Bor (List ℕ)) (bound : List ℕ) → bound ≡ below t.bound → Continues rules at t (Element p e ns) →
      Decides rules at (record t { bound = bound }) e.now ns.now
  element_decides t p e ns bound is h = by_tasks h.kinds h.others h.top h.place h.tasks
    where
      by_tasks : (s : PlaceKinds) (fs : List (Formula ℕ)) → t.pile ≡ h.formula ∷ fs → IsPlaceOf rules.classes at s (place_of t) → AreTasks rules at s (Element p e ns ∷ t.tasks) fs →
          Decides rules at (record t { bound = bound }) e.now ns.now
      by_tasks _ fs top place (kinds.element s b _ _ _ _ _ x nodes more) = record {
        kinds = s;
        class = b;
        is = x;
        nodes = nodes;
        stands = record {
          place = record {
            this = place.this;
            bound = subst (λ ms. AreBound rules.classes at ms s.bound) (sym is) (outside_bound s.bound t.bound b place.bound);
            passed = place.passed;
            child = place.child;
            index = place.index;
          };
          tasks = subst (AreTasks rules at s t.tasks) (sym (ap below top)) more;
        };
      }

  -- a task is taken from the others
  pub continues : (t : Forming) (k : Task) (ks : List Task) → t.tasks ≡ k ∷ ks → Completes rules at t → Continues rules at (record t { tasks = ks }) k
  continues t k ks is h = record {
    kinds = h.kinds;
    formula = h.formula;
    others = h.others;
    top = h.top;
    is = h.is;
    place = h.stands.place;
    tasks = subst (λ ts. AreTasks rules at h.kinds ts h.others) is h.stands.tasks;
  }

-- evaluations ---------------------------------------------------------------------------------------------------------

module _ (rules : Rules) (at : ClassAt ℕ) (look : Contents ℕ) where
  -- where a typed evaluation has come to
  abbrev pub Came : (Value ℕ → Type 0) → Reached ℕ (Value ℕ) → Type 0
  Came Q (Ends a) = Q a
  Came Q (Stops f) = ⊤
  Came Q (Waits j k) = IsWellTyped rules at AnyText j × ((v : Value ℕ) → IsOfItsKind rules at j v → IsTypedRun rules at AnyText look Q (k v))

  came : (Q : Value ℕ → Type 0) (seen : List (Location ℕ)) (r : Run ℕ (Value ℕ)) → IsTypedRun rules at AnyText look Q r → Came Q (follow look seen r).0
  came Q seen (Gives a) h = h
  came Q seen (Fails f) h = tt
  came Q seen (Looks l k) (x, h) = came Q (seen ++ l ∷ []) (k (look l)) h
  came Q seen (Demands j k) h = h

  -- what is done next, once the trial of the evaluation has come to that step
  pub step_typed : (t : Forming) (u : Purpose) (s : PlaceKinds) (k : Kind) (r : Run ℕ (Value ℕ)) (seen : List (Location ℕ)) (it : Step) (new : Trial) →
      IsPurpose rules at s k u → Stands rules at s t t.pile → IsTypedRun rules at AnyText look (λ v. IsOfKind rules.classes at v k) r →
      follow look seen r ≡ (reached rules.classes it new, new.reads) → IsTypedStep rules at it new →
      IsTypedDoing rules at look (stepped u it) (record t { trial = new })
  step_typed t u s k r seen it new does stands run is h =
      by_step it (subst (λ (p : Reached ℕ (Value ℕ) × List (Location ℕ)). Came (λ v. IsOfKind rules.classes at v k) p.0) is (came (λ v. IsOfKind rules.classes at v k) seen r run)) h
    where
      there : Stands rules at s (record t { trial = new }) t.pile
      there = record { place = stands.place; tasks = stands.tasks }

      by_step : (it : Step) → Came (λ v. IsOfKind rules.classes at v k) (reached rules.classes it new) → IsTypedStep rules at it new → IsTypedDoing rules at look (stepped u it) (record t { trial = new })
      by_step (step.Value v) x h = record { kinds = s; kind = k; is = x; does = does; stands = there }
      by_step (step.Fault f) x h = tt
      by_step (step.Need j) (w, x) h = record { kinds = s; kind = k; does = does; waits = h; comes = x; stands = there }

  -- an expression is evaluated by a trial that stands there
  pub trial_enters : (t : Forming) (u : Purpose) (b : Body) (new : Trial) → Evaluates rules at t u b → trial.place_of new ≡ place_of t → new.todo ≡ [] → typed.Enters rules at new b
  trial_enters t u b new h same idle = record {
    kinds = h.kinds;
    kind = h.kind;
    is = h.is;
    stands = record {
      place = subst (IsPlaceOf rules.classes at h.kinds) (sym same) h.stands.place;
      todo = subst (typed.AreTodos rules at h.kinds h.kind) (sym idle) (typed.ended h.kinds h.kind);
    };
  }

pub at_its_place : (t : Forming) (new : Trial) → new.this ≡ t.this → new.child ≡ t.child → new.bound ≡ t.bound → new.arguments ≡ t.arguments → trial.place_of new ≡ place_of t
at_its_place t new this child bound arguments = rw (this, child, bound, arguments) refl

pub evaluates_typed : (rules : Rules) (at : ClassAt ℕ) (look : Contents ℕ) → IsOver rules at look → (t : Forming) (u : Purpose) (b : Bor Body) (s : Step) (stood new : Trial) (doing : Doing) → trial.place_of stood ≡ place_of t → stood.todo ≡ [] →
    stood.reads ≡ t.trial.reads → follow look stood.reads (trial.rest rules.classes (Enter b) stood) ≡ (reached rules.classes s new, new.reads) → IsTypedStep rules at s new → doing ≡ stepped u s → Evaluates rules at t u b.now →
    IsTypedDoing rules at look doing (record t { trial = new })
evaluates_typed rules at look over t u b s stood new doing same idle still found is made h =
    subst (λ d. IsTypedDoing rules at look d (record t { trial = new })) (sym made)
    (step_typed rules at look t u h.kinds h.kind (ev rules.classes (body_view b.now) (place_of t)) t.trial.reads s new h.does h.stands
    (evaluated rules at look over (scope_kinds h.kinds) (body_view b.now) h.kind (scope (place_of t)) h.is (scope_typed rules at look over h.kinds (place_of t) h.stands.place))
    (alone_there rules look t.trial.reads b stood (place_of t) same idle ∙ ap (λ l. follow look l (trial.rest rules.classes (Enter b) stood)) (sym still) ∙ found) is)

module _ (rules : Rules) (at : ClassAt ℕ) (look : Contents ℕ) where
  pub told_typed : (t : Forming) (v : Value ℕ) (u : Purpose) (s : Step) (new : Trial) (doing : Doing) → t.purpose ≡ Some u → kinds.Takes rules at look t v →
      follow look t.trial.reads (resumed rules.classes t.trial v) ≡ (reached rules.classes s new, new.reads) → IsTypedStep rules at s new → doing ≡ stepped u s →
      IsTypedDoing rules at look doing (record t { purpose = None; trial = new })
  told_typed t v u s new doing is (w, j, has, h, its) found typed made =
      let same : w ≡ u = let e : Some w ≡ Some u = sym has ∙ is in cc in
      subst (λ d. IsTypedDoing rules at look d (record t { purpose = None; trial = new })) (sym made)
      (step_typed rules at look (record t { purpose = None }) u h.kinds h.kind (resumed rules.classes t.trial v) t.trial.reads s new (subst (IsPurpose rules at h.kinds h.kind) same h.does)
      (record { place = h.stands.place; tasks = h.stands.tasks }) (h.comes v its) found typed)

-- the equation of a circular attribute is one of booleans
pub equation_forms : (rules : Rules) (at : ClassAt ℕ) (s : Trial) (t : Forming) (b : Body) (a c : ℕ) → AreTyped rules → IsEquation rules at s b a → c ≡ a → start_of rules c ≡ Some t.start → place_of t ≡ trial.place_of s → t.tasks ≡ [] → t.pile ≡ [] →
    Forms rules at t b
equation_forms rules at s t b a c typed_rules h same start place idle none =
    let d = h.declaration in
    let its : start_of rules a ≡ d.start = ap (λ (o : Option Attribute). elim o as (λ _. Option Bool) [ None ↦ None | Some e ↦ e.start ]) h.attribute_is in
    let x = found (IsDeclarationTyped rules.classes) rules.attributes a d typed_rules.attributes h.attribute_is in
    let boolean : d.result ≡ model.Truth = x.boolean t.start (sym its ∙ sym (ap (start_of rules) same) ∙ start) in
    record {
      kinds = h.kinds;
      is = subst (HasKind rules (scope_kinds h.kinds) (body_view b)) boolean h.is;
      stands = record {
        place = subst (IsPlaceOf rules.classes at h.kinds) (sym place) h.place;
        tasks = subst (λ ts. AreTasks rules at h.kinds ts t.pile) (sym idle) (subst (AreTasks rules at h.kinds []) (sym none) (kinds.ended h.kinds));
      };
    }
