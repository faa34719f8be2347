-- What is found of an expression as it is written has the kind that is found.
use Rattle.std.proofs.Common.{◌≡◌, ℕ, Bool, true, false, List, ◌∷◌, Option, Some, None, option_map, refl, sym, subst}
use Rattle.std.specs.Prelude.{is_some, position}
use Rattle.std.specs.List.{slice_get, AllZip}
use Rattle.std.specs.Str.{bytes_eq}
use Rattle.at_model.specs.Bodies as body
use Rattle.at_model.specs.Bodies.{Expr}
use Rattle.at_model.specs.Rules.{Rules, Kind, Attribute}
use Rattle.at_model.specs.Rules as model
use Rattle.at_model.specs.Kinds.{ScopeKinds, HasKind, bound_kinds}
use Rattle.at_model.specs.Kinds as has
use Rattle.at_model.proofs.Options.{led, mapped}
use Rattle.at_text.specs.declared.place.Place.{Place}
use Rattle.at_jrag.specs.Syntax as written
use Rattle.at_rules.specs.declared.body.Kind.TheVariants as known_kind
use Rattle.at_kinds.specs.Judging.{Kinded, Is, Wrong, Scope, Bound, and_then, within, index_eq, bound_to, index_named, named_by, named, this_node, negation, opposite, joined, chosen, cast, tested, called, list_called, list_or, no_list, folded, placed, judged, judged_all, judged_list}
use Rattle.at_kinds.specs.Kinds.{of_written}
use Rattle.at_kinds.specs.Signatures.{Declared}
use Rattle.at_kinds.specs.declared.arguments.Arguments.{Arguments}
use Rattle.at_kinds.specs.declared.signatures.WrittenKind.{WrittenKind}
use Rattle.at_kinds.specs.declared.signatures.WrittenKind.TheVariants.{Known}
use Rattle.at_kinds.proofs.Holding.{Holds, then_holds, none_holds}
use Rattle.at_kinds.proofs.KindsKnown.{IsKind, IsDeclaredAs, beside_it}
use Rattle.at_kinds.proofs.KindsOfForms.{Has, Right, negation_right, opposite_right, joined_right, chosen_right, cast_right, tested_right}
use Rattle.at_kinds.proofs.KindsOfCalls.{AllRight, IsListOf, scope_at, result_right, called_right, list_called_right, no_list_right, folded_right}
use Rattle.at_typing.proofs.Literals.{AreInts, AreIntsAmong}

abbrev pub IsBound : Bound → Kind → Type 0
IsBound b k = IsKind b.kind k

-- where an expression stands are these kinds
pub record AreKinds (t : ScopeKinds) (this : ℕ) (names : List Bound) (index : Option (List ℕ)) : Type 0 where
  pub this_class : this ≡ t.this
  pub bound : AllZip IsBound names t.names
  pub indexed : is_some index ≡ true → t.has_index ≡ true

module _ (allowed : Arguments) (rules : Rules) (declared : List Declared) (same : AllZip IsDeclaredAs declared rules.attributes) where
  abbrev At : ℕ → List Bound → Option (List ℕ) → Scope
  At this names index = scope_at rules allowed declared same this names index

  this_right : (t : ScopeKinds) (this : ℕ) (names : List Bound) (index : Option (List ℕ)) (at : Place) → AreKinds t this names index → Right rules t (this_node (At this names index) at)
  this_right t this names index at are = subst (λ c. HasKind rules t body.This (model.Class c)) (sym are.this_class) has.this

  index_right : (t : ScopeKinds) (at : Place) (name : List ℕ) (index : Option (List ℕ)) → (is_some index ≡ true → t.has_index ≡ true) → Holds (Right rules t) (index_named at (index_eq index name))
  index_right t at name None indexed = tt
  index_right t at name (Some text) indexed = by (bytes_eq text name)
    where
      by : (b : Bool) → Holds (Right rules t) (index_named at b)
      by true = has.index_name (indexed refl)
      by false = tt

  named_right : (t : ScopeKinds) (this : ℕ) (names : List Bound) (index : Option (List ℕ)) (at : Place) (name : List ℕ)
      → AreKinds t this names index → Holds (Right rules t) (named (At this names index) at name)
  named_right t this names index at name are = by (bound_to names name) refl
    where
      by : (o : Option (ℕ × WrittenKind)) → bound_to names name ≡ o → Holds (Right rules t) (named_by at (index_eq index name) o)
      by None is = index_right t at name index are.indexed
      by (Some b) is =
          let (i, at, inside) = led (λ (i : ℕ). option_map (λ (b : Bound). (i, b.kind)) (slice_get names i)) (position (λ (b : Bound). bytes_eq b.name name) names) b is in
          let (x, there, is_b) = mapped (λ (b : Bound). (i, b.kind)) (slice_get names i) b inside in
          let (k, stands, known) = beside_it IsBound names t.names i x are.bound there in
          subst (λ (p : ℕ × WrittenKind). Has rules t (of_written p.1) (body.Name p.0)) is_b (result_right rules t (body.Name i) x.kind k known (has.name i stands))

  -- in the braces of a fold
  bound_in : (t : ScopeKinds) (this : ℕ) (names : List Bound) (index : Option (List ℕ)) (name : List ℕ) (c : ℕ)
      → AreKinds t this names index
      → AreKinds (bound_kinds t c) this (record { name = name; kind = Known (known_kind.Class c) } ∷ names) index
  bound_in t this names index name c are = record { this_class = are.this_class; bound = (refl, are.bound); indexed = are.indexed }

  mutual
    pub judged_right : (t : ScopeKinds) (this : ℕ) (names : List Bound) (index : Option (List ℕ)) → AreKinds t this
        names index → (e : written.Expr) → AreInts e → Holds (Right rules t) (judged (At this names index) e)
    judged_right t this names index are (written.Number at n) ints = has.int_literal n ints
    judged_right t this names index are (written.TextLiteral at bytes) ints = has.text_literal bytes
    judged_right t this names index are (written.Truth at b) ints = has.truth_literal b
    judged_right t this names index are (written.Null at) ints = λ c. has.null_literal c
    judged_right t this names index are (written.This at) ints = this_right t this names index at are
    judged_right t this names index are (written.Name at name) ints = named_right t this names index at name are
    judged_right t this names index are (written.Call at name es) ints =
        then_holds (AllRight rules t) (Right rules t)
        (called (At this names index) at name (this_node (At this names index) at))
        (judged_all (At this names index) es) (judged_all_right t this names index are es ints) (λ ks all.
        called_right rules allowed declared same t this names index at name (this_node (At this names index) at) ks
        (this_right t this names index at are) all)
    judged_right t this names index are (written.CallOf at e name es) ints =
        then_holds (Right rules t) (Right rules t)
        (λ k. and_then (called (At this names index) at name k) (judged_all (At this names index) es))
        (judged (At this names index) e) (judged_right t this names index are e ints.0) (λ k h.
        then_holds (AllRight rules t) (Right rules t) (called (At this names index) at name k) (judged_all (At this names index) es) (judged_all_right t this names index are es ints.1) (λ ks all.
        called_right rules allowed declared same t this names index at name k ks h all))
    judged_right t this names index are (written.Paren at e) ints = then_holds (Right rules t) (Right rules t)
        (placed at) (judged (At this names index) e) (judged_right t this names index are e ints) (λ k h. h)
    judged_right t this names index are (written.Negate at e) ints =
        then_holds (Right rules t) (Right rules t) (negation at) (judged (At this names index) e)
        (judged_right t this names index are e ints) (λ k h. negation_right rules t at k h)
    judged_right t this names index are (written.Not at e) ints =
        then_holds (Right rules t) (Right rules t) (opposite at) (judged (At this names index) e)
        (judged_right t this names index are e ints) (λ k h. opposite_right rules t at k h)
    judged_right t this names index are (written.Cast at class e) ints =
        then_holds (Right rules t) (Right rules t) (cast rules.classes at class) (judged (At this names index) e)
        (judged_right t this names index are e ints) (λ k h. cast_right rules t at class k h)
    judged_right t this names index are (written.InstanceOf at e behind class) ints =
        then_holds (Right rules t) (Right rules t) (tested rules.classes at class) (judged (At this names index) e)
        (judged_right t this names index are e ints) (λ k h. tested_right rules t at class k h)
    judged_right t this names index are (written.Binary at o between a b) ints =
        then_holds (Right rules t) (Right rules t) (λ j. and_then (joined at o j) (judged (At this names index) b))
        (judged (At this names index) a) (judged_right t this names index are a ints.0) (λ j h.
        then_holds (Right rules t) (Right rules t) (joined at o j) (judged (At this names index) b) (judged_right t this names index are b ints.1) (λ k g. joined_right rules t at o j k h g))
    judged_right t this names index are (written.Choose at c behind a b) ints =
        then_holds (Right rules t) (Right rules t) (λ i. and_then (λ j.
        and_then (chosen rules.classes at i j) (judged (At this names index) b)) (judged (At this names index) a))
        (judged (At this names index) c) (judged_right t this names index are c ints.0) (λ i f.
        then_holds (Right rules t) (Right rules t)
        (λ j. and_then (chosen rules.classes at i j) (judged (At this names index) b))
        (judged (At this names index) a) (judged_right t this names index are a ints.1) (λ j h.
        then_holds (Right rules t) (Right rules t) (chosen rules.classes at i j) (judged (At this names index) b)
        (judged_right t this names index are b ints.2) (λ k g. chosen_right rules t at i j k f h g)))
    judged_right t this names index are (written.Fold at form name list e) ints =
        then_holds (IsListOf rules t) (Right rules t) (λ l. and_then (folded at form l)
        (judged (within (At this names index) name.text l.class) e)) (list_or at (judged (At this names index) list)
        (judged_list (At this names index) at list)) (listed_right t this names index are at list ints.0) (λ l is.
        then_holds (Right rules (bound_kinds t l.class)) (Right rules t) (folded at form l)
        (judged (within (At this names index) name.text l.class) e) (judged_right (bound_kinds t l.class) this
        (record { name = name.text; kind = Known (known_kind.Class l.class) } ∷ names) index
        (bound_in t this names index name.text l.class are) e ints.1) (λ k h.
        folded_right rules t at form l k is h))

    pub judged_all_right : (t : ScopeKinds) (this : ℕ) (names : List Bound) (index : Option (List ℕ))
        → AreKinds t this names index → (es : written.Exprs) → AreIntsAmong es
        → Holds (AllRight rules t) (judged_all (At this names index) es)
    judged_all_right t this names index are written.no_exprs ints = tt
    judged_all_right t this names index are (written.expr e es) ints =
        then_holds (Right rules t) (AllRight rules t)
        (λ k. and_then (λ ks. Is (k ∷ ks)) (judged_all (At this names index) es)) (judged (At this names index) e)
        (judged_right t this names index are e ints.0) (λ k h.
        then_holds (AllRight rules t) (AllRight rules t) (λ ks. Is (k ∷ ks)) (judged_all (At this names index) es) (judged_all_right t this names index are es ints.1) (λ ks all. (h, all)))

    listed_right : (t : ScopeKinds) (this : ℕ) (names : List Bound) (index : Option (List ℕ))
        → AreKinds t this names index → (fold : Place) (e : written.Expr) → AreInts e → Holds (IsListOf rules t)
        (list_or fold (judged (At this names index) e) (judged_list (At this names index) fold e))
    listed_right t this names index are fold (written.Call at name es) ints =
        then_holds (AllRight rules t) (IsListOf rules t)
        (list_called (At this names index) fold at name (this_node (At this names index) at))
        (judged_all (At this names index) es) (judged_all_right t this names index are es ints) (λ ks all.
        list_called_right rules allowed declared same t this names index fold at name
        (this_node (At this names index) at) ks (this_right t this names index at are))
    listed_right t this names index are fold (written.CallOf at e name es) ints =
        then_holds (Right rules t) (IsListOf rules t)
        (λ k. and_then (list_called (At this names index) fold at name k) (judged_all (At this names index) es))
        (judged (At this names index) e) (judged_right t this names index are e ints.0) (λ k h.
        then_holds (AllRight rules t) (IsListOf rules t) (list_called (At this names index) fold at name k)
        (judged_all (At this names index) es) (judged_all_right t this names index are es ints.1) (λ ks all.
        list_called_right rules allowed declared same t this names index fold at name k ks h))
    listed_right t this names index are fold e ints = none_holds (IsListOf rules t) (no_list fold) (judged (At this names index) e) (no_list_right rules t fold)
