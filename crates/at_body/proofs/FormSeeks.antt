-- Searches in a formula under way keep to the kinds.
use Rattle.std.proofs.Common.{◌≡◌, ℕ, Bool, List, [], ◌∷◌, Option, Some, ap, sym, subst, Bor}
use Rattle.std.specs.Prelude.{IfSome, option_and_then}
use Rattle.std.specs.Global.{Box}
use Rattle.std.specs.List.{AllByRecursion}
use Rattle.at_model.specs.Bodies.{SeekAny, ref_of}
use Rattle.at_model.specs.Classes.{class_in}
use Rattle.at_model.specs.Drawers.{Key}
use Rattle.at_model.specs.Kinds.{HasKind}
use Rattle.at_model.specs.Kinds as form
use Rattle.at_model.specs.Rules.{Rules, Kind}
use Rattle.at_model.specs.Rules as model
use Rattle.at_model.specs.Run.{Contents, Drawer, Value}
use Rattle.at_model.specs.TypedRuns.{ClassAt, IsNodeOf, IsOfKind}
use Rattle.at_model.specs.of_fixpoints.Formulas.{Formula}
use Rattle.at_model.proofs.Below.{asked_below}
use Rattle.at_model.proofs.Chained.{chained}
use Rattle.at_class.specs.Keys.{key_view}
use Rattle.at_rules.specs.Bodies.{body_view, sought_view}
use Rattle.at_rules.specs.declared.body.Body.{Body}
use Rattle.at_rules.specs.declared.body.Lookup.{Lookup}
use Rattle.at_store.specs.Shown.{IsIdle}
use Rattle.at_body.specs.declared.candidates.Candidates.{Candidates}
use Rattle.at_body.specs.declared.forming.Forming.{Forming}
use Rattle.at_body.specs.declared.task.Purpose.TheVariants as purpose
use Rattle.at_body.specs.declared.task.Task.TheVariants.{Among}
use Rattle.at_body.specs.declared.trial.Trial.{Trial}
use Rattle.at_body.specs.Forms.{place_of}
use Rattle.at_body.specs.Seeking.{candidates}
use Rattle.at_body.specs.Stacked.{below}
use Rattle.at_body.specs.Typed.{AreBound, IsOver, IsPlaceOf, PlaceKinds, kinds_inside, scope_kinds}
use Rattle.at_body.specs.TypedForms.{AreTasks, Continues, Decides, Evaluates, Folds, Forms, GoesOver, IsPurpose, Uses}
use Rattle.at_body.specs.TypedForms as kinds
use Rattle.at_body.specs.ValueKinds.{IsRef}
use Rattle.at_body.proofs.of_typing.TypedUses.{is_ref, node_of_class}

module _ (rules : Rules) (at : ClassAt ℕ) where
  abbrev Is : Kind → Value ℕ → Type 0
  Is k v = IsOfKind rules.classes at v k

  pub seek_evaluates : (t : Forming) (p : Bool) (b node : Body) (look : Bor Lookup) (e : Bor Body) →
      body_view b ≡ SeekAny (body_view node) look.now.part (key_view look.now.key) (sought_view look.now.sought) (body_view e.now) →
      Forms rules at t b → Evaluates rules at t (purpose.Under p look e) node
  seek_evaluates t p b node look e is h = by_kind model.Truth (subst (λ z. HasKind rules (scope_kinds h.kinds) z model.Truth) is h.is)
    where
      by_kind : (k : Kind) → HasKind rules (scope_kinds h.kinds) (SeekAny (body_view node) look.now.part (key_view look.now.key) (sought_view look.now.sought) (body_view e.now)) k →
          Evaluates rules at t (purpose.Under p look e) node
      by_kind _ (form.widened c d sub x) = by_kind (model.Class c) x
      by_kind _ (form.widened_all c d sub x) = by_kind (model.Nodes c) x
      by_kind _ (form.seek_any c _ d _ is x s y) = record { kinds = h.kinds; kind = model.Class c; is = x; does = kinds.under p c d look e is y; stands = h.stands }

  pub node_ref : (t : Forming) (p : Bool) (look : Bor Lookup) (e : Bor Body) (v : Value ℕ) → Uses rules at t (purpose.Under p look e) v → IsRef v
  node_ref t p look e v h = by_purpose h.kind h.is h.does
    where
      by_purpose : (k : Kind) → Is k v → IsPurpose rules at h.kinds k (purpose.Under p look e) → IsRef v
      by_purpose _ is (kinds.under _ c b _ _ shape x) = is_ref rules at c v is

  pub node_folds : (t : Forming) (p : Bool) (look : Bor Lookup) (e : Bor Body) (v : Value ℕ) → Uses rules at t (purpose.Under p look e) v →
      Folds rules at t look.now.part e.now (ref_of v)
  node_folds t p look e v h = by_purpose h.kind h.is h.does
    where
      by_purpose : (k : Kind) → Is k v → IsPurpose rules at h.kinds k (purpose.Under p look e) → Folds rules at t look.now.part e.now (ref_of v)
      by_purpose _ is (kinds.under _ c b _ _ shape x) = record {
        goes = record { kinds = h.kinds; class = b; is = x; nodes = tt; stands = h.stands };
        class = c;
        shape = shape;
        node = node_of_class rules at c v is;
      }

  pub candidates_seen : (look : Contents ℕ) → IsOver rules at look → (t : Forming) (part : ℕ) (key : Key) (mark : ℕ) (e : Body) (n : ℕ) (o : Option ℕ) (ns : List ℕ) (new : Trial) → o ≡ Some n →
      ns ≡ look (Drawer n part key mark) → Folds rules at t part e o → GoesOver rules at (record t { trial = new }) e ns
  candidates_seen look over t part key mark e n o ns new is are h =
      let there : IfSome (Some n) (λ m. IsNodeOf rules.classes at m h.class) = subst (λ z. IfSome z (λ m. IsNodeOf rules.classes at m h.class)) is h.node in
      record {
        kinds = h.goes.kinds;
        class = h.goes.class;
        is = h.goes.is;
        nodes = subst (AllByRecursion (λ m. IsNodeOf rules.classes at m h.goes.class)) (sym are) (over.contents.chosen n there.0 part h.goes.class key mark there.1
            (asked_below rules.classes (chained rules.classes over.hierarchy) there.0 h.class part h.goes.class class_in there.2 (ap (option_and_then class_in) h.shape)));
        stands = record { place = h.goes.stands.place; tasks = h.goes.stands.tasks };
      }

  pub candidate_forms : (t : Forming) (p : Bool) (mark : ℕ) (e : Bor Body) (n : ℕ) (all : Candidates) (others : Box Candidates) → candidates all mark ≡ n ∷ candidates others.value mark →
      IsIdle others.value.store.now → GoesOver rules at t e.now (candidates all mark) → Forms rules at (record t { bound = n ∷ t.bound; tasks = Among p mark e others ∷ t.tasks }) e.now
  candidate_forms t p mark e n all others are idle h =
      let nodes : AllByRecursion (λ m. IsNodeOf rules.classes at m h.class) (n ∷ candidates others.value mark) = subst (AllByRecursion (λ m. IsNodeOf rules.classes at m h.class)) are h.nodes in
      record {
        kinds = kinds_inside h.kinds h.class;
        is = h.is;
        stands = record {
          place = record { this = h.stands.place.this; bound = (nodes.0, h.stands.place.bound); passed = h.stands.place.passed; child = h.stands.place.child; index = h.stands.place.index };
          tasks = kinds.among h.kinds h.class p mark e others t.tasks t.pile h.is nodes.1 idle h.stands.tasks;
        };
      }

  outside_bound : (cs ns : List ℕ) (c : ℕ) → AreBound rules.classes at ns (c ∷ cs) → AreBound rules.classes at (below ns) cs
  outside_bound cs [] c h = absurd h
  outside_bound cs (n ∷ ns) c h = h.1

  pub candidate_decides : (t : Forming) (p : Bool) (mark : ℕ) (e : Bor Body) (others : Box Candidates) (now : Candidates) (bound : List ℕ) → now ≡ others.value → bound ≡ below t.bound → Continues rules at t (Among p mark e others) →
      Decides rules at (record t { bound = bound }) e.now (candidates now mark)
  candidate_decides t p mark e others now bound same is h =
      subst (λ (x : Candidates). Decides rules at (record t { bound = bound }) e.now (candidates x mark)) (sym same) (by_tasks h.kinds h.others h.top h.place h.tasks)
    where
      by_tasks : (s : PlaceKinds) (fs : List (Formula ℕ)) → t.pile ≡ h.formula ∷ fs → IsPlaceOf rules.classes at s (place_of t) → AreTasks rules at s (Among p mark e others ∷ t.tasks) fs →
          Decides rules at (record t { bound = bound }) e.now (candidates others.value mark)
      by_tasks _ fs top place (kinds.among s b _ _ _ _ _ _ x nodes idle more) = record {
        kinds = s;
        class = b;
        is = x;
        nodes = nodes;
        stands = record {
          place = record {
            this = place.this;
            bound = subst (λ ms. AreBound rules.classes at ms s.bound) (sym is) (outside_bound s.bound t.bound b place.bound);
            passed = place.passed;
            child = place.child;
            index = place.index;
          };
          tasks = subst (AreTasks rules at s t.tasks) (sym (ap below top)) more;
        };
      }

  pub candidates_idle : (t : Forming) (p : Bool) (mark : ℕ) (e : Bor Body) (others : Box Candidates) → Continues rules at t (Among p mark e others) → IsIdle others.value.store.now
  candidates_idle t p mark e others h = by_tasks h.kinds h.others h.tasks
    where
      by_tasks : (s : PlaceKinds) (fs : List (Formula ℕ)) → AreTasks rules at s (Among p mark e others ∷ t.tasks) fs → IsIdle others.value.store.now
      by_tasks _ fs (kinds.among s b _ _ _ _ _ _ x nodes idle more) = idle
