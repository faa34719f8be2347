-- Searches under way, by the kinds of their values.
use Rattle.std.proofs.Common.{◌≡◌, ℕ, Bool, true, List, [], ◌∷◌, Option, Some, ap, sym, subst, Bor}
use Rattle.std.specs.Prelude.{IfSome, option_and_then}
use Rattle.std.specs.Global.{Box}
use Rattle.std.specs.List.{AllByRecursion}
use Rattle.at_model.specs.Bodies.{Expr, SeekAny, SeekFirst, ref_of}
use Rattle.at_model.specs.Classes.{class_in}
use Rattle.at_model.specs.Drawers.{Key}
use Rattle.at_model.specs.Kinds.{HasKind}
use Rattle.at_model.specs.Kinds as form
use Rattle.at_model.specs.Rules.{Rules, Kind}
use Rattle.at_model.specs.Rules as model
use Rattle.at_model.specs.Run.{Contents, Drawer, Location, Ref, Truth, Value}
use Rattle.at_model.specs.TypedRuns.{ClassAt, IsNodeOf, IsOfKind}
use Rattle.at_model.proofs.Below.{asked_below}
use Rattle.at_model.proofs.Chained.{chained}
use Rattle.at_class.specs.Keys.{key_view}
use Rattle.at_rules.specs.Bodies.{body_view, sought_view}
use Rattle.at_rules.specs.declared.body.Body.{Body}
use Rattle.at_rules.specs.declared.body.Lookup.{Lookup}
use Rattle.at_store.specs.Shown.{IsIdle}
use Rattle.at_body.specs.declared.candidates.Candidates.{Candidates}
use Rattle.at_body.specs.declared.todo.Fold.{Fold}
use Rattle.at_body.specs.declared.todo.Fold.TheVariants as fold
use Rattle.at_body.specs.declared.todo.Search.{Search}
use Rattle.at_body.specs.declared.todo.Search.TheVariants as search
use Rattle.at_body.specs.declared.todo.Todo.{Todo}
use Rattle.at_body.specs.declared.todo.Todo.TheVariants as code
use Rattle.at_body.specs.declared.trial.Trial.{Trial}
use Rattle.at_body.specs.Rest.{place_of}
use Rattle.at_body.specs.Seeking.{candidates, fold_of, found_by}
use Rattle.at_body.specs.ValueKinds.{IsRef, IsTruth}
use Rattle.at_body.specs.Typed.{AreBound, AreTodos, Decides, Enters, Folds, GoesOver, IsFold, IsOver, IsPlaceOf, IsTodo, PlaceKinds, Takes, Uses, kinds_inside, scope_kinds}
use Rattle.at_body.specs.Typed as typed
use Rattle.at_body.proofs.of_typing.TypedFolds.{decides_here, decides_true}
use Rattle.at_body.proofs.of_typing.TypedParts.{IsPart}
use Rattle.at_body.proofs.of_typing.TypedSteps.{seen_goes}
use Rattle.at_body.proofs.of_typing.TypedUses.{is_ref, is_truth, node_of_class}

-- the node that a search asks is a part of it
module _ (rules : Rules) (at : ClassAt ℕ) (s : PlaceKinds) where
  pub seeks_any : (a : Expr) (look : Bor Lookup) (b : Bor Body) (k : Kind) (ts : List Todo) →
      HasKind rules (scope_kinds s) (SeekAny a look.now.part (key_view look.now.key) (sought_view look.now.sought) (body_view b.now)) k →
      AreTodos rules at s k ts → IsPart rules at s a (code.Under search.Any look b) ts
  seeks_any a look b k ts x h = by_kind k x h
    where
      by_kind : (k : Kind) → HasKind rules (scope_kinds s) (SeekAny a look.now.part (key_view look.now.key) (sought_view look.now.sought) (body_view b.now)) k →
          AreTodos rules at s k ts → IsPart rules at s a (code.Under search.Any look b) ts
      by_kind _ (form.widened c d sub x) h = by_kind (model.Class c) x (typed.widened c d sub h)
      by_kind _ (form.widened_all c d sub x) h = by_kind (model.Nodes c) x (typed.widened_all c d sub h)
      by_kind _ (form.seek_any c _ e _ is x t y) h = record {
        kind = model.Class c;
        is = x;
        todo = typed.more (typed.under s c e search.Any model.Truth model.Truth look b is typed.exists y) h;
      }

  pub seeks_first : (a : Expr) (look : Bor Lookup) (b : Bor Body) (k : Kind) (ts : List Todo) →
      HasKind rules (scope_kinds s) (SeekFirst a look.now.part (key_view look.now.key) (sought_view look.now.sought) (body_view b.now)) k →
      AreTodos rules at s k ts → IsPart rules at s a (code.Under search.First look b) ts
  seeks_first a look b k ts x h = by_kind k x h
    where
      by_kind : (k : Kind) → HasKind rules (scope_kinds s) (SeekFirst a look.now.part (key_view look.now.key) (sought_view look.now.sought) (body_view b.now)) k →
          AreTodos rules at s k ts → IsPart rules at s a (code.Under search.First look b) ts
      by_kind _ (form.widened c d sub x) h = by_kind (model.Class c) x (typed.widened c d sub h)
      by_kind _ (form.widened_all c d sub x) h = by_kind (model.Nodes c) x (typed.widened_all c d sub h)
      by_kind _ (form.seek_first c _ e _ is x t y) h = record {
        kind = model.Class c;
        is = x;
        todo = typed.more (typed.under s c e search.First model.Truth (model.Class e) look b is typed.first y) h;
      }

module _ (rules : Rules) (at : ClassAt ℕ) where
  abbrev Is : Kind → Value ℕ → Type 0
  Is k v = IsOfKind rules.classes at v k

  -- the node over whose elements the search goes is a node or null, and is there
  pub holder_is : (t : Trial) (f : Search) (look : Bor Lookup) (e : Bor Body) (v : Value ℕ) → Uses rules at t (code.Under f look e) v → IsRef v
  holder_is t f look e v h = by_todo h.kinds h.kind h.later h.result h.is h.does
    where
      by_todo : (s : PlaceKinds) (k : Kind) (s' : PlaceKinds) (k' : Kind) → Is k v → IsTodo rules at s k (code.Under f look e) s' k' → IsRef v
      by_todo s _ _ _ is (typed.under _ c b _ k m _ _ shape folds x) = is_ref rules at c v is

  pub folds_under : (t : Trial) (f : Search) (look : Bor Lookup) (e : Bor Body) (v : Value ℕ) → Uses rules at t (code.Under f look e) v →
      Folds rules at t (fold_of f) look.now.part e.now (ref_of v)
  folds_under t f look e v h = by_todo h.kinds h.kind h.later h.result h.is h.does h.place h.rest
    where
      by_todo : (s : PlaceKinds) (k : Kind) (s' : PlaceKinds) (k' : Kind) → Is k v → IsTodo rules at s k (code.Under f look e) s' k' →
          IsPlaceOf rules.classes at s (place_of t) → AreTodos rules at s' k' t.todo → Folds rules at t (fold_of f) look.now.part e.now (ref_of v)
      by_todo s _ _ _ is (typed.under _ c b _ k m _ _ shape folds x) place rest = record {
        goes = record { kinds = s; class = b; kind = k; result = m; folds = folds; is = x; nodes = tt; stands = record { place = place; todo = rest } };
        class = c;
        shape = shape;
        node = node_of_class rules at c v is;
      }

  -- and so are those that are looked for
  pub candidates_seen : (look : Contents ℕ) → IsOver rules at look → (t : Trial) (f : Fold) (part : ℕ) (key : Key) (mark : ℕ) (e : Body) (n : ℕ) (o : Option ℕ) (ns : List ℕ) (seen : List (Location ℕ)) →
      o ≡ Some n → ns ≡ look (Drawer n part key mark) → Folds rules at t f part e o → GoesOver rules at (record t { reads = seen }) f e ns
  candidates_seen look over t f part key mark e n o ns seen is are h =
      let there : IfSome (Some n) (λ m. IsNodeOf rules.classes at m h.class) = subst (λ z. IfSome z (λ m. IsNodeOf rules.classes at m h.class)) is h.node in
      seen_goes rules at t f e ns seen (record {
        kinds = h.goes.kinds;
        class = h.goes.class;
        kind = h.goes.kind;
        result = h.goes.result;
        folds = h.goes.folds;
        is = h.goes.is;
        nodes = subst (AllByRecursion (λ m. IsNodeOf rules.classes at m h.goes.class)) (sym are) (over.contents.chosen n there.0 part h.goes.class key mark there.1
            (asked_below rules.classes (chained rules.classes over.hierarchy) there.0 h.class part h.goes.class class_in there.2 (ap (option_and_then class_in) h.shape)));
        stands = h.goes.stands;
      })

  -- the next one is bound, and the search's expression is evaluated there
  pub candidate_enters : (t : Trial) (f : Search) (mark : ℕ) (e : Bor Body) (all others : Candidates) (n : ℕ) (bound : List ℕ) → candidates all mark ≡ n ∷ candidates others mark →
      IsIdle others.store.now → bound ≡ n ∷ t.bound → GoesOver rules at t (fold_of f) e.now (candidates all mark) →
      Enters rules at (record t { bound = bound; todo = code.Among f mark e others ∷ t.todo }) e.now
  candidate_enters t f mark e all others n bound are idle is h =
      let nodes : AllByRecursion (λ m. IsNodeOf rules.classes at m h.class) (n ∷ candidates others mark) = subst (AllByRecursion (λ m. IsNodeOf rules.classes at m h.class)) are h.nodes in
      record {
        kinds = kinds_inside h.kinds h.class;
        kind = h.kind;
        is = h.is;
        stands = record {
          place = record {
            this = h.stands.place.this;
            bound = subst (λ ms. AreBound rules.classes at ms (h.class ∷ h.kinds.bound)) (sym is) (nodes.0, h.stands.place.bound);
            passed = h.stands.place.passed;
            child = h.stands.place.child;
            index = h.stands.place.index;
          };
          todo = typed.more (typed.among h.kinds h.class f h.kind h.result mark e others h.folds h.is nodes.1 idle) h.stands.todo;
        };
      }

  -- the node decides the search
  pub decides_found : (t : Trial) (f : Search) (e : Body) (n : ℕ) (ns : List ℕ) (v : Value ℕ) → Decides rules at t (fold_of f) e n ns v → Takes rules at t (found_by f n)
  decides_found t search.Any e n ns v h = decides_true rules at t e n ns v true h
  decides_found t search.First e n ns v h = decides_here rules at t e n ns v h

  -- the search's expression has a value at the node that was bound last
  pub record IsBehind (t : Trial) (f : Search) (mark : ℕ) (e : Bor Body) (others : Candidates) (v : Value ℕ) : Type 0 where
    pub truth : IsTruth v
    pub idle : IsIdle others.store.now
    pub bound : t.bound ≡ [] → ⊥
    pub decides : (n : ℕ) (ns : List ℕ) → t.bound ≡ n ∷ ns → Decides rules at (record t { bound = ns }) (fold_of f) e.now n (candidates others mark) v

  search_told : (b : ℕ) (f : Search) (k m : Kind) (v : Value ℕ) → IsFold rules.classes at b (fold_of f) k m → Is k v → IsTruth v
  search_told b search.Any _ _ v typed.exists is = is_truth rules at v is
  search_told b search.First _ _ v typed.first is = is_truth rules at v is

  none_bound : (ns cs : List ℕ) (c : ℕ) → AreBound rules.classes at ns (c ∷ cs) → ns ≡ [] → ⊥
  none_bound [] cs c h e = h
  none_bound (n ∷ ns) cs c h e = absurd cc

  first_bound : (ms : List ℕ) (n : ℕ) (ns : List ℕ) (c : ℕ) (cs : List ℕ) → ms ≡ n ∷ ns → AreBound rules.classes at ms (c ∷ cs) → AreBound rules.classes at (n ∷ ns) (c ∷ cs)
  first_bound ms n ns c cs is h = subst (λ ks. AreBound rules.classes at ks (c ∷ cs)) is h

  pub is_behind : (t : Trial) (f : Search) (mark : ℕ) (e : Bor Body) (others : Candidates) (v : Value ℕ) → Uses rules at t (code.Among f mark e others) v →
      IsBehind t f mark e others v
  is_behind t f mark e others v h = by_todo h.kinds h.kind h.later h.result h.is h.does h.place h.rest
    where
      by_todo : (s : PlaceKinds) (k : Kind) (s' : PlaceKinds) (k' : Kind) → Is k v → IsTodo rules at s k (code.Among f mark e others) s' k' →
          IsPlaceOf rules.classes at s (place_of t) → AreTodos rules at s' k' t.todo → IsBehind t f mark e others v
      by_todo _ _ _ _ told (typed.among s b _ k m _ _ _ folds x nodes idle) place rest = record {
        truth = search_told b f k m v folds told;
        idle = idle;
        bound = none_bound t.bound s.bound b place.bound;
        decides = λ n ns is.
            let (node, bound) = first_bound t.bound n ns b s.bound is place.bound in
            record {
              goes = record {
                kinds = s;
                class = b;
                kind = k;
                result = m;
                folds = folds;
                is = x;
                nodes = nodes;
                stands = record {
                  place = record { this = place.this; bound = bound; passed = place.passed; child = place.child; index = place.index };
                  todo = rest;
                };
              };
              node = node;
              told = told;
            };
      }
