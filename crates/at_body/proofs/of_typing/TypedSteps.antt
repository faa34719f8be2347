-- What a trial does next, by the kinds of its values.
use Rattle.std.proofs.Common.{◌≡◌, ℕ, ℤ, ◌-◌, zero, suc, List, [], ◌∷◌, ◌++◌, length, map, Option, Some, None, refl, sym, subst, Bor, Result, Ok, Err, IfOk, arith}
use Rattle.std.specs.Prelude.{IsSome}
use Rattle.std.specs.List.{slice_get}
use Rattle.at_model.specs.Bodies.{Exprs, IndexName, Name, computed, joined}
use Rattle.at_model.specs.Kinds.{HasKind}
use Rattle.at_model.specs.Kinds as form
use Rattle.at_model.specs.Rules.{Rules, Kind, Class, Nodes}
use Rattle.at_model.specs.Run.{Value, Ref, Contents, Slot, Gives, Location}
use Rattle.at_model.specs.TypedRuns.{ClassAt, AreArguments}
use Rattle.at_model.specs.Instances.{AnyText}
use Rattle.at_model.proofs.Chained.{chained}
use Rattle.at_rules.specs.Bodies.{body_view, bodies_view, operator_view}
use Rattle.at_rules.specs.declared.body.Operator.{Operator}
use Rattle.at_rules.specs.declared.body.Body.{Body}
use Rattle.at_body.specs.declared.todo.Binary.{Binary}
use Rattle.at_body.specs.declared.todo.Fold.{Fold}
use Rattle.at_body.specs.declared.todo.Now.{Now}
use Rattle.at_body.specs.declared.todo.Now.TheVariants as now
use Rattle.at_body.specs.declared.todo.Todo.{Todo}
use Rattle.at_body.specs.declared.todo.Todo.TheVariants as code
use Rattle.at_body.specs.declared.todo.Unary.{Unary}
use Rattle.at_body.specs.declared.trial.Trial.{Trial}
use Rattle.at_body.specs.declared.value.Value.{Value as ValueCode}
use Rattle.at_body.specs.declared.value.Value.TheVariants as value
use Rattle.at_body.specs.Values.{value_view}
use Rattle.at_body.specs.Standing.{names, scope}
use Rattle.at_body.specs.Rest.{ev, place_of, with_one, with_two}
use Rattle.at_body.specs.Calling.{IsReceiver}
use Rattle.at_body.specs.Typed.{ComesTo, IsOver, PlaceKinds, name_kinds, scope_kinds, AreBound, Stands, Takes, Enters, Uses, Calls, Operates, GoesOver, Folds, IsTypedNow}
use Rattle.at_body.proofs.of_typing.TypedUses.{taken, receives, right_follows, operands_there}
use Rattle.at_body.proofs.of_typing.TypedFolds.{elements_there}
use Rattle.at_body.proofs.of_typing.TypedAnswers.{evaluated_now, at_hand_takes, use_typed, operates_typed}

-- nothing is left of what has no length
pub none_more : {A : Type 0} (xs : List A) → length xs ≡ 0 → xs ≡ []
none_more [] e = refl
none_more (x ∷ xs) e = absurd (cc)

-- an operator on the ints that the values are
pub computed_seen : (look : Contents ℕ) (o : Operator) (m n m' n' : ℤ) (now : Now) → m ≡ m' → n ≡ n' → ComesTo look (computed (operator_view o) m n) now → ComesTo look (computed (operator_view o) m' n') now
computed_seen look o m n m' n' now e f h = subst (λ x. ComesTo look (computed (operator_view o) x n') now) e (subst (λ y. ComesTo look (computed (operator_view o) m y) now) f h)

-- texts that are those of the values
pub joined_seen : {E : Type 0} (look : Contents ℕ) (res : Result Now E) (l r l' r' : List ℕ) → l ≡ l' → r ≡ r' → IfOk res (λ now. ComesTo look (joined (l ++ r)) now) → IfOk res (λ now. ComesTo look (joined (l' ++ r')) now)
joined_seen look res l r l' r' e f h = subst (λ x. IfOk res (λ now. ComesTo look (joined (x ++ r')) now)) e (subst (λ y. IfOk res (λ now. ComesTo look (joined (l ++ y)) now)) f h)

-- with nothing changed
pub joined_told : {E : Type 0} (look : Contents ℕ) (t : Trial) (res : Result Now E) (l r l' r' : List ℕ) → l ≡ l' → r ≡ r' → IfOk res (λ now. ComesTo look (joined (l ++ r)) now) → IfOk res (λ now. ComesTo look (joined (l' ++ r')) now × (t ≡ record t { reads = t.reads }))
joined_told look t (Err e) l r l' r' e' f h = tt
joined_told look t (Ok now) l r l' r' e f h = (joined_seen {E = ℕ} look (Ok now) l r l' r' e f h, refl)

pub told_still : {E : Type 0} (t : Trial) (res : Result Now E) (P : Now → Type 0) → IfOk res P → IfOk res (λ now. P now × (t ≡ record t { reads = t.reads }))
told_still t (Err e) P h = tt
told_still t (Ok now) P h = (h, refl)

module _ (rules : Rules) (at : ClassAt ℕ) where
  -- what is looked at changes nothing else
  seen_stands : (s : PlaceKinds) (k : Kind) (t : Trial) (seen : List (Location ℕ)) → Stands rules at s k t → Stands rules at s k (record t { reads = seen })
  seen_stands s k t seen h = record { place = h.place; todo = h.todo }

  seen_uses : (t : Trial) (todo : Todo) (v : Value ℕ) (seen : List (Location ℕ)) → Uses rules at t todo v → Uses rules at (record t { reads = seen }) todo v
  seen_uses t todo v seen h = record { kinds = h.kinds; kind = h.kind; later = h.later; result = h.result; is = h.is; does = h.does; place = h.place; rest = h.rest }

  seen_enters : (t : Trial) (b : Body) (seen : List (Location ℕ)) → Enters rules at t b → Enters rules at (record t { reads = seen }) b
  seen_enters t b seen h = record { kinds = h.kinds; kind = h.kind; is = h.is; stands = seen_stands h.kinds h.kind t seen h.stands }

  seen_operates : (t : Trial) (o : Binary) (v w : Value ℕ) (seen : List (Location ℕ)) → Operates rules at t o v w → Operates rules at (record t { reads = seen }) o v w
  seen_operates t o v w seen h = record { kinds = h.kinds; left = h.left; right = h.right; result = h.result; does = h.does; is_left = h.is_left; is_right = h.is_right; stands = seen_stands h.kinds h.result t seen h.stands }

  pub seen_goes : (t : Trial) (f : Fold) (e : Body) (ns : List ℕ) (seen : List (Location ℕ)) → GoesOver rules at t f e ns → GoesOver rules at (record t { reads = seen }) f e ns
  seen_goes t f e ns seen h = record { kinds = h.kinds; class = h.class; kind = h.kind; result = h.result; folds = h.folds; is = h.is; nodes = h.nodes; stands = seen_stands h.kinds h.result t seen h.stands }

  seen_calls : (t : Trial) (attribute : ℕ) (n : Option ℕ) (done : List (Value ℕ)) (es : Exprs) (seen : List (Location ℕ)) → Calls rules at t attribute n done es → Calls rules at (record t { reads = seen }) attribute n done es
  seen_calls t attribute n done es seen h = record {
    kinds = h.kinds;
    class = h.class;
    declaration = h.declaration;
    first = h.first;
    others = h.others;
    attribute_is = h.attribute_is;
    declared = h.declared;
    parameters = h.parameters;
    node = h.node;
    arguments = h.arguments;
    are = h.are;
    stands = seen_stands h.kinds h.declaration.result t seen h.stands;
  }

  -- names -------------------------------------------------------------------------------------------------------------

  passed_there : (vs : List (Value ℕ)) (ks : List Kind) (i : ℕ) (k : Kind) → AreArguments rules.classes at AnyText vs ks → slice_get ks i ≡ Some k → IsSome (slice_get vs i)
  passed_there [] [] i k h e = absurd (cc)
  passed_there [] (l ∷ ks) i k h e = absurd h
  passed_there (v ∷ vs) [] i k h e = absurd h
  passed_there (v ∷ vs) (l ∷ ks) zero k h e = refl
  passed_there (v ∷ vs) (l ∷ ks) (suc i) k (x, y, h) e = passed_there vs ks i k h e

  names_there : (ns cs : List ℕ) (vs : List (Value ℕ)) (ks : List Kind) (i : ℕ) (k : Kind) → AreBound rules.classes at ns cs → AreArguments rules.classes at AnyText vs ks → slice_get (name_kinds cs ks) i ≡ Some k → IsSome (slice_get (names ns vs) i)
  names_there [] [] vs ks i k b h e = passed_there vs ks i k h e
  names_there [] (c ∷ cs) vs ks i k b h e = absurd b
  names_there (n ∷ ns) [] vs ks i k b h e = absurd b
  names_there (n ∷ ns) (c ∷ cs) vs ks zero k b h e = refl
  names_there (n ∷ ns) (c ∷ cs) vs ks (suc i) k (x, b) h e = names_there ns cs vs ks i k b h e

  -- a name stands for something
  pub name_there : (t : Trial) (b : Body) (i : ℕ) → body_view b ≡ Name i → Enters rules at t b → IsSome (slice_get (scope (place_of t)).names i)
  name_there t b i e h = by_kind h.kind (subst (λ x. HasKind rules (scope_kinds h.kinds) x h.kind) e h.is)
    where
      by_kind : (k : Kind) → HasKind rules (scope_kinds h.kinds) (Name i) k → IsSome (slice_get (scope (place_of t)).names i)
      by_kind _ (form.widened c d sub x) = by_kind (Class c) x
      by_kind _ (form.widened_all c d sub x) = by_kind (Nodes c) x
      by_kind k (form.name _ is) = names_there (place_of t).bound h.kinds.bound (map value_view (place_of t).passed) h.kinds.passed i k h.stands.place.bound h.stands.place.passed is

  -- where there is an index name there is a child on the way down
  pub index_there : (t : Trial) (b : Body) → body_view b ≡ IndexName → Enters rules at t b → IsSome t.child
  index_there t b e h = by_kind h.kind (subst (λ x. HasKind rules (scope_kinds h.kinds) x h.kind) e h.is)
    where
      by_kind : (k : Kind) → HasKind rules (scope_kinds h.kinds) IndexName k → IsSome t.child
      by_kind _ (form.widened c d sub x) = by_kind (Class c) x
      by_kind _ (form.widened_all c d sub x) = by_kind (Nodes c) x
      by_kind _ (form.index_name is) = h.stands.place.index is

-- a name behind those of the folds is one of what was passed
pub behind_there : (ns : List ℕ) (vs : List ValueCode) (i j : ℕ) → slice_get ns i ≡ None → j ≡ i - length ns → IsSome (slice_get (names ns (map value_view vs)) i) → IsSome (slice_get vs j)
behind_there [] vs i j e f h = let g : j ≡ i = omega (arith, f) in rw g (unmapped vs i h)
  where
    unmapped : (vs : List ValueCode) (i : ℕ) → IsSome (slice_get (map value_view vs) i) → IsSome (slice_get vs i)
    unmapped [] i h = h
    unmapped (v ∷ vs) zero h = refl
    unmapped (v ∷ vs) (suc i) h = unmapped vs i h
behind_there (m ∷ ns) vs zero j e f h = absurd (cc)
behind_there (m ∷ ns) vs (suc i) j e f h = behind_there ns vs i j e (omega (arith, f)) h

module _ (rules : Rules) (at : ClassAt ℕ) (look : Contents ℕ) (over : IsOver rules at look) where
  -- what an expression, a use and an operation come to, with nothing but the locations looked at changed
  pub entered_told : {E : Type 0} (t new : Trial) (b : Body) (res : Result Now E) → Enters rules at t b →
      IfOk res (λ now. ComesTo look (ev rules.classes (body_view b) (place_of t)) now × (new ≡ record t { reads = new.reads })) → IfOk res (λ now. IsTypedNow rules at now new)
  entered_told t new b (Err e) h x = tt
  entered_told t new b (Ok now) h (x, is) = subst (λ z. IsTypedNow rules at now z) (sym is) (evaluated_now rules at look over (record t { reads = new.reads }) b now (seen_enters rules at t b new.reads h) x)

  pub entered_same : {E : Type 0} (t : Trial) (b : Body) (res : Result Now E) → Enters rules at t b →
      IfOk res (λ now. ComesTo look (ev rules.classes (body_view b) (place_of t)) now) → IfOk res (λ now. IsTypedNow rules at now t)
  entered_same t b (Err e) h x = tt
  entered_same t b (Ok now) h x = evaluated_now rules at look over t b now h x

  pub use_told : {E : Type 0} (t new : Trial) (u : Unary) (v : Value ℕ) (res : Result Now E) → Uses rules at t (code.Use u) v →
      IfOk res (λ now. ComesTo look (with_one rules.classes u v) now × (new ≡ record t { reads = new.reads })) → IfOk res (λ now. IsTypedNow rules at now new)
  use_told t new u v (Err e) h x = tt
  use_told t new u v (Ok now) h (x, is) = subst (λ z. IsTypedNow rules at now z) (sym is) (use_typed rules at look over (record t { reads = new.reads }) u v now (seen_uses rules at t (code.Use u) v new.reads h) x)

  pub operates_told : {E : Type 0} (t new : Trial) (o : Binary) (v w : Value ℕ) (res : Result Now E) → Operates rules at t o v w →
      IfOk res (λ now. ComesTo look (with_two o v w) now × (new ≡ record t { reads = new.reads })) → IfOk res (λ now. IsTypedNow rules at now new)
  operates_told t new o v w (Err e) h x = tt
  operates_told t new o v w (Ok now) h (x, is) = subst (λ z. IsTypedNow rules at now z) (sym is) (operates_typed rules at look over (record t { reads = new.reads }) o v w now (seen_operates rules at t o v w new.reads h) x)

  -- a value at hand is used
  pub hand_uses : (t : Trial) (k : Todo) (b : Body) (v : Value ℕ) → Enters rules at (record t { todo = k ∷ t.todo }) b → ev rules.classes (body_view b) (place_of t) ≡ Gives v → Uses rules at t k v
  hand_uses t k b v h e = taken rules at (chained rules.classes over.hierarchy) (record t { todo = k ∷ t.todo }) v k t.todo refl (at_hand_takes rules at look over (record t { todo = k ∷ t.todo }) b v h e)

  -- what a call goes on with, once its receiver is there
  pub receiver_called : (t mid : Trial) (b : Body) (n attribute : ℕ) (bs : Bor (List Body)) → IsReceiver look (body_view b) t mid (Some n) →
      Enters rules at (record t { todo = code.Arguments attribute bs ∷ t.todo }) b → Calls rules at mid attribute (Some n) [] (bodies_view bs.now)
  receiver_called t mid b n attribute bs (seen, after, comes, goes) h =
      let waits : Trial = record t { todo = code.Arguments attribute bs ∷ t.todo } in
      let takes : Takes rules at waits (Ref (Some n)) = evaluated_now rules at look over waits b (now.Back (value.Ref (Some n))) h (comes rules.classes) in
      let uses : Uses rules at t (code.Arguments attribute bs) (Ref (Some n)) = taken rules at (chained rules.classes over.hierarchy) waits (Ref (Some n)) (code.Arguments attribute bs) t.todo refl takes in
      subst (λ z. Calls rules at z attribute (Some n) [] (bodies_view bs.now)) (sym after) (seen_calls rules at t attribute (Some n) [] (bodies_view bs.now) seen (receives rules at t attribute bs (Ref (Some n)) uses))

  -- and is the right operand
  pub hand_operates : (t : Trial) (o : Binary) (b : Bor Body) (v : ValueCode) (w : Value ℕ) → Uses rules at t (code.Right o b) (value_view v) → ev rules.classes (body_view b.now) (place_of t) ≡ Gives w → Operates rules at t o (value_view v) w
  hand_operates t o b v w h e = operands_there rules at t o v w (hand_uses t (code.Apply o v) b.now w (right_follows rules at t o b v h) e)

  -- the elements of a node that is looked at
  pub elements_seen : (t : Trial) (f : Fold) (part : ℕ) (e : Body) (n : ℕ) (o : Option ℕ) (ns : List ℕ) (seen : List (Location ℕ)) → o ≡ Some n → ns ≡ look (Slot n part) → Folds rules at t f part e o → GoesOver rules at (record t { reads = seen }) f e ns
  elements_seen t f part e n o ns seen is children h = seen_goes rules at t f e ns seen (subst (λ ms. GoesOver rules at t f e ms) (sym children) (elements_there rules at look over t f part e n (subst (λ z. Folds rules at t f part e z) is h)))
