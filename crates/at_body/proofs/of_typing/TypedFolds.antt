-- Folds under way, by the kinds of their values; and what names stand for.
use Rattle.std.proofs.Common.{◌≡◌, ℕ, ℤ, Bool, false, List, [], ◌∷◌, Some, None, ap, sym, subst, Bor}
use Rattle.std.specs.Prelude.{option_and_then}
use Rattle.std.specs.Int.{w32, int_wrapping_add}
use Rattle.at_model.specs.Classes.{Classes, class_in}
use Rattle.at_model.specs.Bodies.{Expr, int_of, ref_of}
use Rattle.at_model.specs.Run.{Value, Int, Truth, Ref, Slot, Contents, Gives}
use Rattle.at_model.specs.Rules.{Rules, Kind}
use Rattle.at_model.specs.Rules as model
use Rattle.at_model.specs.Kinds.{HasKind}
use Rattle.at_model.specs.TypedRuns.{ClassAt, IsOfKind}
use Rattle.at_model.proofs.Below.{asked_below}
use Rattle.at_model.proofs.Chained.{chained}
use Rattle.at_model.proofs.of_typing.TypedExpressions.{read_back}
use Rattle.at_rules.specs.Bodies.{body_view}
use Rattle.at_rules.specs.declared.body.Body.{Body}
use Rattle.at_body.specs.declared.todo.Fold.{Fold}
use Rattle.at_body.specs.declared.todo.Fold.TheVariants as fold
use Rattle.at_body.specs.declared.todo.Todo.TheVariants as code
use Rattle.at_body.specs.declared.trial.Trial.{Trial}
use Rattle.at_body.specs.Stacked.{below}
use Rattle.at_body.specs.Standing.{Place}
use Rattle.at_body.specs.Rest.{place_of, over}
use Rattle.at_body.specs.ValueKinds.{IsRef}
use Rattle.at_body.specs.Typed.{IsOver, PlaceKinds, name_kinds, scope_kinds, kinds_inside, AreBound, IsPlaceOf, IsFold, IsTodo, AreTodos, Stands, Takes, Enters, Uses, IsTold, GoesOver, Decides, Folds}
use Rattle.at_body.specs.Typed as typed
use Rattle.at_body.proofs.of_typing.TypedUses.{is_int, is_truth, is_ref, backs, node_of_class}

module _ (rules : Rules) (at : ClassAt ℕ) where
  abbrev Is : Kind → Value ℕ → Type 0
  Is k v = IsOfKind rules.classes at v k

  -- the next node is bound, and the fold's expression is evaluated there
  pub element_enters : (t : Trial) (f : Fold) (e : Bor Body) (n : ℕ) (ns : Bor (List ℕ)) (bound : List ℕ) → bound ≡ n ∷ t.bound → GoesOver rules at t f e.now (n ∷ ns.now) → Enters rules at (record t { bound = bound; todo = code.Element f e n ns ∷ t.todo }) e.now
  element_enters t f e n ns bound is h = record {
    kinds = kinds_inside h.kinds h.class;
    kind = h.kind;
    is = h.is;
    stands = record {
      place = record {
        this = h.stands.place.this;
        bound = subst (λ ms. AreBound rules.classes at ms (h.class ∷ h.kinds.bound)) (sym is) (h.nodes.0, h.stands.place.bound);
        passed = h.stands.place.passed;
        child = h.stands.place.child;
        index = h.stands.place.index;
      };
      todo = typed.more (typed.at_element h.kinds h.class f h.kind h.result e n ns h.folds h.is h.nodes.0 h.nodes.1) h.stands.todo;
    };
  }

  -- what a fold comes to at the end
  pub comes_to : (t : Trial) (f : Fold) (e : Body) (classes : Classes) (x : Expr) (p : Place) (v : Value ℕ) → GoesOver rules at t f e [] → over classes f x p [] ≡ Gives v → Takes rules at t v
  comes_to t f e classes x p v h end = by_fold f h.kind h.result h.folds end h.stands
    where
      by_fold : (g : Fold) (k m : Kind) → IsFold rules.classes at h.class g k m → over classes g x p [] ≡ Gives v → Stands rules at h.kinds m t → Takes rules at t v
      by_fold _ _ _ typed.exists e stands = let is : Truth false ≡ v = cc in backs rules at h.kinds model.Truth t v stands (subst (Is model.Truth) is tt)
      by_fold _ _ _ typed.first e stands = let is : Ref None ≡ v = cc in backs rules at h.kinds (model.Class h.class) t v stands (subst (Is (model.Class h.class)) is tt)
      by_fold _ _ _ (typed.sum total int) e stands = let is : Int total ≡ v = cc in backs rules at h.kinds model.Int t v stands (subst (Is model.Int) is int)

  -- the fold is decided: by the truth value, or at this node
  pub decides_true : (t : Trial) (e : Body) (n : ℕ) (ns : List ℕ) (v : Value ℕ) (b : Bool) → Decides rules at t fold.Exists e n ns v → Takes rules at t (Truth b)
  decides_true t e n ns v b h = by_fold h.goes.kind h.goes.result h.goes.folds h.goes.stands
    where
      by_fold : (k m : Kind) → IsFold rules.classes at h.goes.class fold.Exists k m → Stands rules at h.goes.kinds m t → Takes rules at t (Truth b)
      by_fold _ _ typed.exists stands = backs rules at h.goes.kinds model.Truth t (Truth b) stands tt

  pub decides_here : (t : Trial) (e : Body) (n : ℕ) (ns : List ℕ) (v : Value ℕ) → Decides rules at t fold.First e n ns v → Takes rules at t (Ref (Some n))
  decides_here t e n ns v h = by_fold h.goes.kind h.goes.result h.goes.folds h.goes.stands
    where
      by_fold : (k m : Kind) → IsFold rules.classes at h.goes.class fold.First k m → Stands rules at h.goes.kinds m t → Takes rules at t (Ref (Some n))
      by_fold _ _ typed.first stands = backs rules at h.goes.kinds (model.Class h.goes.class) t (Ref (Some n)) stands h.node

  -- the test of each is a truth value, and what is summed an int
  pub is_told : (t : Trial) (f : Fold) (e : Body) (n : ℕ) (ns : List ℕ) (v : Value ℕ) → Decides rules at t f e n ns v → IsTold f v
  is_told t f e n ns v h = by_fold f h.goes.kind h.goes.result h.goes.folds h.told
    where
      by_fold : (g : Fold) (k m : Kind) → IsFold rules.classes at h.goes.class g k m → Is k v → IsTold g v
      by_fold _ _ _ typed.exists is = is_truth rules at v is
      by_fold _ _ _ typed.first is = is_truth rules at v is
      by_fold _ _ _ (typed.sum total int) is = is_int rules at v is

  -- the sum up to there
  pub sum_goes : (t : Trial) (total : ℤ) (next : Fold) (e : Body) (n : ℕ) (ns : List ℕ) (v : Value ℕ) → Decides rules at t (fold.Sum total) e n ns v → next ≡ fold.Sum (int_wrapping_add w32 total (int_of v)) → GoesOver rules at t next e ns
  sum_goes t total next e n ns v h is = by_fold h.goes.kind h.goes.result h.goes.folds h.goes.is h.goes.stands
    where
      by_fold : (k m : Kind) → IsFold rules.classes at h.goes.class (fold.Sum total) k m → HasKind rules (scope_kinds (kinds_inside h.goes.kinds h.goes.class)) (body_view e) k → Stands rules at h.goes.kinds m t → GoesOver rules at t next e ns
      by_fold _ _ (typed.sum _ int) x stands = record {
        kinds = h.goes.kinds;
        class = h.goes.class;
        kind = model.Int;
        result = model.Int;
        folds = subst (λ g. IsFold rules.classes at h.goes.class g model.Int model.Int) (sym is) (typed.sum _ (read_back _));
        is = x;
        nodes = h.goes.nodes;
        stands = stands;
      }

  -- the node over whose elements the fold goes is a node or null
  pub holder_is : (t : Trial) (f : Fold) (part : ℕ) (e : Bor Body) (v : Value ℕ) → Uses rules at t (code.Elements f part e) v → IsRef v
  holder_is t f part e v h = by_todo h.kinds h.kind h.later h.result h.is h.does
    where
      by_todo : (s : PlaceKinds) (k : Kind) (s' : PlaceKinds) (k' : Kind) → Is k v → IsTodo rules at s k (code.Elements f part e) s' k' → IsRef v
      by_todo s _ _ _ is (typed.elements _ c _ b _ k m _ shape folds x) = is_ref rules at c v is

  -- it is there
  pub folds_over : (t : Trial) (f : Fold) (part : ℕ) (e : Bor Body) (v : Value ℕ) → Uses rules at t (code.Elements f part e) v → Folds rules at t f part e.now (ref_of v)
  folds_over t f part e v h = by_todo h.kinds h.kind h.later h.result h.is h.does h.place h.rest
    where
      by_todo : (s : PlaceKinds) (k : Kind) (s' : PlaceKinds) (k' : Kind) → Is k v → IsTodo rules at s k (code.Elements f part e) s' k' → IsPlaceOf rules.classes at s (place_of t) → AreTodos rules at s' k' t.todo → Folds rules at t f part e.now (ref_of v)
      by_todo s _ _ _ is (typed.elements _ c _ b _ k m _ shape folds x) place rest = record {
        goes = record { kinds = s; class = b; kind = k; result = m; folds = folds; is = x; nodes = tt; stands = record { place = place; todo = rest } };
        class = c;
        shape = shape;
        node = node_of_class rules at c v is;
      }

  -- and so are its elements
  pub elements_there : (look : Contents ℕ) → IsOver rules at look → (t : Trial) (f : Fold) (part : ℕ) (e : Body) (n : ℕ) → Folds rules at t f part e (Some n) → GoesOver rules at t f e (look (Slot n part))
  elements_there look ok t f part e n h = record {
    kinds = h.goes.kinds;
    class = h.goes.class;
    kind = h.goes.kind;
    result = h.goes.result;
    folds = h.goes.folds;
    is = h.goes.is;
    nodes = ok.contents.children n h.node.0 part h.goes.class h.node.1
        (asked_below rules.classes (chained rules.classes ok.hierarchy) h.node.0 h.class part h.goes.class class_in h.node.2 (ap (option_and_then class_in) h.shape));
    stands = h.goes.stands;
  }

  outside_bound : (cs ns : List ℕ) (c : ℕ) → AreBound rules.classes at ns (c ∷ cs) → AreBound rules.classes at (below ns) cs
  outside_bound cs [] c h = absurd h
  outside_bound cs (n ∷ ns) c h = h.1

  -- the fold's expression has a value at this node
  pub element_told : (t : Trial) (f : Fold) (e : Bor Body) (n : ℕ) (ns : Bor (List ℕ)) (v : Value ℕ) (bound : List ℕ) → bound ≡ below t.bound → Uses rules at t (code.Element f e n ns) v → Decides rules at (record t { bound = bound }) f e.now n ns.now v
  element_told t f e n ns v bound is h = by_todo h.kinds h.kind h.later h.result h.is h.does h.place h.rest
    where
      by_todo : (s : PlaceKinds) (k : Kind) (s' : PlaceKinds) (k' : Kind) → Is k v → IsTodo rules at s k (code.Element f e n ns) s' k' → IsPlaceOf rules.classes at s (place_of t) → AreTodos rules at s' k' t.todo → Decides rules at (record t { bound = bound }) f e.now n ns.now v
      by_todo _ _ _ _ told (typed.at_element s b _ k m _ _ _ folds x node nodes) place rest = record {
        goes = record {
          kinds = s;
          class = b;
          kind = k;
          result = m;
          folds = folds;
          is = x;
          nodes = nodes;
          stands = record {
            place = record {
              this = place.this;
              bound = subst (λ ms. AreBound rules.classes at ms s.bound) (sym is) (outside_bound s.bound t.bound b place.bound);
              passed = place.passed;
              child = place.child;
              index = place.index;
            };
            todo = rest;
          };
        };
        node = node;
        told = told;
      }
