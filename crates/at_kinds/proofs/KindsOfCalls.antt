-- The kinds of what is asked of nodes and texts, and of folds.
use Rattle.std.proofs.Common.{◌≡◌, ℕ, Bool, true, false, ◌&&◌, List, [], ◌∷◌, length, Option, Some, None, option_map, refl, sym, ap, ◌∙◌, subst, true≢false, arith}
use Rattle.std.specs.Prelude.{⊤, not, codes, position, nat_eq, if◌then◌else◌, option_and_then}
use Rattle.std.specs.List.{slice_get, AllZip}
use Rattle.std.specs.Option.{option_or}
use Rattle.std.specs.Str.{bytes_eq}
use Rattle.std.proofs.lemmas.Bool.{eqb-true}
use Rattle.std.proofs.lemmas.Option.{none-some}
use Rattle.at_model.specs.Classes.{Classes, Component, Shape, TokenKind, is_sub, parts}
use Rattle.at_model.specs.Classes as class
use Rattle.at_model.specs.Bodies.{Expr, Exprs}
use Rattle.at_model.specs.Bodies as body
use Rattle.at_model.specs.Rules.{Rules, Kind, Attribute}
use Rattle.at_model.specs.Rules as model
use Rattle.at_model.specs.Kinds.{ScopeKinds, HasKind, HaveKinds, IsArgumentForm, bound_kinds, kind_of_token, shape_of_part, single_class}
use Rattle.at_model.specs.Kinds as has
use Rattle.at_model.proofs.Options.{both, led, mapped}
use Rattle.at_text.specs.declared.place.Place.{Place}
use Rattle.at_jrag.specs.Syntax as written
use Rattle.at_rules.specs.declared.body.Kind.TheVariants as known_kind
use Rattle.at_kinds.specs.Accessors.{accessor_named, accessed as accessed_part, got_or, getter, named_besides, is_had, is_counted, is_listed, is_list, is_optional, shape_of, token_kind, element_class, listed, listed_in}
use Rattle.at_kinds.specs.Judging.{Kinded, Wrong, Judged, Scope, Bound, Listed, and_then, of_kind, where_fit, one_argument, equal, alone, accessed, is_given_text, is_argument, is_number, is_computed, passed_for, misfit, bodies, bodies_or, fitted, demanded_of, asked_by, asked, asked_of, called, list_named, nodes_of, no_list, folded_in, folded_over, without, list_by, list_called, folded}
use Rattle.at_kinds.specs.Kinds.{known, of_written, is_int, is_truth, is_text, is_within, fits}
use Rattle.at_kinds.specs.Signatures.{Declared, declared_named, is_below}
use Rattle.at_kinds.specs.declared.accessors.Accessor.{Accessor}
use Rattle.at_kinds.specs.declared.accessors.Accessor.TheVariants as accessor
use Rattle.at_kinds.specs.declared.arguments.Arguments.{Arguments}
use Rattle.at_kinds.specs.declared.arguments.Arguments.TheVariants.{Given, Computed}
use Rattle.at_kinds.specs.declared.code.RuleCode.TheVariants as code
use Rattle.at_kinds.specs.declared.signatures.WrittenKind.{WrittenKind}
use Rattle.at_kinds.specs.declared.signatures.WrittenKind.TheVariants.{Known, Strange}
use Rattle.at_kinds.specs.declared.typing.kinds.ExprKind.{ExprKind}
use Rattle.at_kinds.specs.declared.typing.kinds.ExprKind.TheVariants as found
use Rattle.at_kinds.proofs.Holding.{Holds, then_holds, none_holds}
use Rattle.at_kinds.proofs.KindsKnown.{IsKind, IsDeclaredAs, beside_it, element_found}
use Rattle.at_kinds.proofs.KindsOfForms.{Has, Right, int_has, truth_has, text_has, if_right}

-- accessors -------------------------------------------------------------------------------------------------------------

-- the component is there, and such as the accessor asks
abbrev pub Gets : Classes → ℕ → Accessor → Type 0
Gets classes c (accessor.Child part b) = option_and_then single_class (shape_of_part classes c part) ≡ Some b
Gets classes c (accessor.Element part b) = shape_of_part classes c part ≡ Some (class.Many b)
Gets classes c (accessor.Token part k) = (kind : TokenKind) × (shape_of_part classes c part ≡ Some (class.Token kind)) × (token_kind kind ≡ k)
Gets classes c (accessor.Has part) = (b : ℕ) × (shape_of_part classes c part ≡ Some (class.Maybe b))
Gets classes c (accessor.Count part) = (b : ℕ) × (shape_of_part classes c part ≡ Some (class.Many b))
Gets classes c (accessor.List part) = ⊤

getter_gets : (classes : Classes) (c part : ℕ) (s : Shape) → shape_of_part classes c part ≡ Some s → Gets classes c (getter part s)
getter_gets classes c part (class.One b) is = ap (option_and_then single_class) is
getter_gets classes c part (class.Maybe b) is = ap (option_and_then single_class) is
getter_gets classes c part (class.Many b) is = is
getter_gets classes c part (class.Token k) is = (k, is, refl)

-- the shape of the component that was found by its name
shape_found : (classes : Classes) (c part : ℕ) (test : Component → Bool) → position test (parts classes c) ≡ Some part
    → (p : Component) × (shape_of_part classes c part ≡ Some p.shape) × (test p ≡ true)
shape_found classes c part test is =
    let (p, there, passes, less) = element_found test (parts classes c) part is in
    (p, ap (option_map (λ (q : Component). q.shape)) there, passes)

optional_shape : (s : Shape) → is_optional s ≡ true → (b : ℕ) × (s ≡ class.Maybe b)
optional_shape (class.Maybe b) is = (b, refl)
optional_shape s is = absurd (true≢false (sym is))

list_shape : (s : Shape) → is_list s ≡ true → (b : ℕ) × (s ≡ class.Many b)
list_shape (class.Many b) is = (b, refl)
list_shape s is = absurd (true≢false (sym is))

same_accessor : (classes : Classes) (c : ℕ) (a b : Accessor) → Some a ≡ Some b → Gets classes c a → Gets classes c b
same_accessor classes c a b is gets = let e : a ≡ b = cc in subst (Gets classes c) e gets

module _ (classes : Classes) (c : ℕ) (name : List ℕ) (a : Accessor) where
  had_gets : (part : ℕ) → position (is_had name) (parts classes c) ≡ Some part → Gets classes c (accessor.Has part)
  had_gets part is =
      let (p, shape, passes) = shape_found classes c part (is_had name) is in
      let (b, same) = optional_shape p.shape (both (is_optional p.shape) _ passes).0 in
      (b, shape ∙ ap Some same)

  counted_gets : (part : ℕ) → position (is_counted name) (parts classes c) ≡ Some part → Gets classes c (accessor.Count part)
  counted_gets part is =
      let (p, shape, passes) = shape_found classes c part (is_counted name) is in
      let (b, same) = list_shape p.shape (both (is_list p.shape) _ passes).0 in
      (b, shape ∙ ap Some same)

  besides_gets : named_besides (parts classes c) name ≡ Some a → Gets classes c a
  besides_gets is = by (position (is_had name) (parts classes c)) refl (position (is_counted name) (parts classes c)) refl (position (is_listed name) (parts classes c)) is
    where
      by : (o : Option ℕ) → position (is_had name) (parts classes c) ≡ o → (p : Option ℕ)
          → position (is_counted name) (parts classes c) ≡ p → (q : Option ℕ) → option_or (option_map accessor.Has o)
          (option_or (option_map accessor.Count p) (option_map accessor.List q)) ≡ Some a → Gets classes c a
      by (Some part) had p counted q is = same_accessor classes c (accessor.Has part) a is (had_gets part had)
      by None had (Some part) counted q is = same_accessor classes c (accessor.Count part) a is (counted_gets part counted)
      by None had None counted (Some part) is = same_accessor classes c (accessor.List part) a is tt
      by None had None counted None is = absurd (none-some a is)

  pub accessor_gets : accessor_named classes c name ≡ Some a → Gets classes c a
  accessor_gets is = by (accessed_part classes c name) refl is
    where
      by : (o : Option ℕ) → accessed_part classes c name ≡ o → got_or (parts classes c) (named_besides (parts classes c) name) o ≡ Some a → Gets classes c a
      by None at is = besides_gets is
      by (Some part) at is =
          let (s, shape, same) = mapped (getter part) (shape_of (parts classes c) part) a is in
          subst (Gets classes c) same (getter_gets classes c part s shape)

-- the list that is found has elements of that class
listed_many : (classes : Classes) (c : ℕ) (name : List ℕ) (l : ℕ × ℕ) → listed classes c name ≡ Some l → shape_of_part classes c l.0 ≡ Some (class.Many l.1)
listed_many classes c name l is =
    let (part, at, inside) = led (listed_in (parts classes c)) (position (is_listed name) (parts classes c)) l is in
    let (b, elements, same) = mapped (λ (b : ℕ). (part, b)) (option_and_then element_class (shape_of (parts classes c) part)) l inside in
    let (s, shape, of) = led element_class (shape_of (parts classes c) part) b elements in
    subst (λ (m : ℕ × ℕ). shape_of_part classes c m.0 ≡ Some (class.Many m.1)) same (shape ∙ ap Some (by s b of))
  where
    by : (s : Shape) (b : ℕ) → element_class s ≡ Some b → s ≡ class.Many b
    by (class.Many e) b is = let f : e ≡ b = cc in ap class.Many f
    by s b is = absurd (none-some b is)

given_form : (e : Expr) → is_given_text e ≡ true → IsArgumentForm model.Text e
given_form (body.TextLiteral bytes) is = tt
given_form (body.Name i) is = tt
given_form (body.TokenOf e part) is = tt
given_form e is = absurd (true≢false (sym is))

module _ (rules : Rules) where
  -- what is found of arguments
  abbrev pub AllRight : ScopeKinds → List Kinded → Type 0
  AllRight t [] = ⊤
  AllRight t (k ∷ ks) = Right rules t k × AllRight t ks

  -- the list in that component is one of the node
  abbrev pub IsListIn : ScopeKinds → Listed → Option ℕ → Type 0
  IsListIn t l None = ⊤
  IsListIn t l (Some part) = (c : ℕ) × (shape_of_part rules.classes c part ≡ Some (class.Many l.class)) × HasKind rules t l.node (model.Class c)

  -- if it is a list, it is one of a node
  abbrev pub IsListOf : ScopeKinds → Listed → Type 0
  IsListOf t l = IsListIn t l l.part

  pub no_list_right : (t : ScopeKinds) (fold : Place) (k : Kinded) → Holds (IsListOf t) (no_list fold k)
  no_list_right t fold k = by k.kind
    where
      by : (m : ExprKind) → Holds (IsListOf t) (nodes_of fold m k.body)
      by (found.Class c) = tt
      by m = tt

  known_right : (t : ScopeKinds) (kind : TokenKind) (e : Expr) → HasKind rules t e (kind_of_token kind) → Has rules t (known (token_kind kind)) e
  known_right t class.Int e h = h
  known_right t class.Truth e h = h
  known_right t class.Text e h = h

  alone_right : (t : ScopeKinds) (at : Place) (ks : List Kinded) (j : Judged) → Holds (Right rules t) j → Holds (Right rules t) (alone at ks j)
  alone_right t at [] j h = h
  alone_right t at (k ∷ ks) j h = tt

  -- the only argument passes the test
  abbrev Passes : ScopeKinds → (ExprKind → Bool) → Expr → Type 0
  Passes t test e = (k : ExprKind) × (test k ≡ true) × Has rules t k e

  one_right : (t : ScopeKinds) (test : ExprKind → Bool) (at : Place) (ks : List Kinded) → AllRight t ks → Holds (Passes t test) (one_argument test at ks)
  one_right t test at [] all = tt
  one_right t test at (k ∷ l ∷ ks) all = tt
  one_right t test at (k ∷ []) all = by (test k.kind) refl
    where
      by : (b : Bool) → test k.kind ≡ b → Holds (Passes t test) (where_fit b k)
      by true is = (k.kind, is, all.0)
      by false is = tt

  accessed_right : (t : ScopeKinds) (at : Place) (c : ℕ) (a : Accessor) (e : Expr) (ks : List Kinded) → Gets
      rules.classes c a → HasKind rules t e (model.Class c) → AllRight t ks → Holds (Right rules t) (accessed at a e ks)
  accessed_right t at c (accessor.Child part b) e ks gets h all = alone_right t at ks (of_kind at (found.Class b) (body.Child e part)) (has.child c part b gets h)
  accessed_right t at c (accessor.Element part b) e ks gets h all =
      then_holds (Passes t is_int) (Right rules t) (λ i. of_kind at (found.Class b) (body.Element e part i))
      (one_argument is_int at ks) (one_right t is_int at ks all)
      (λ i (k, is, x). has.element c part b gets h (int_has rules t k i is x))
  accessed_right t at c (accessor.Token part k) e ks (kind, shape, same) h all =
      alone_right t at ks (of_kind at (known k) (body.TokenOf e part)) (subst (λ m. Has rules t (known m)
      (body.TokenOf e part)) same (known_right t kind (body.TokenOf e part) (has.token_of c part kind shape h)))
  accessed_right t at c (accessor.Has part) e ks (b, shape) h all = alone_right t at ks (of_kind at found.Bool (body.Has e part)) (has.has c part b shape h)
  accessed_right t at c (accessor.Count part) e ks (b, shape) h all = alone_right t at ks (of_kind at found.Int (body.Count e part)) (has.count c part b shape h)
  accessed_right t at c (accessor.List part) e ks gets h all = alone_right t at ks (Wrong code.Kind at) tt

  -- a.equals(b)
  equal_right : (t : ScopeKinds) (at : Place) (k : Kinded) (ks : List Kinded) → Right rules t k → AllRight t ks → Holds (Right rules t) (equal at k ks)
  equal_right t at k ks h all = by (is_text k.kind) refl
    where
      by : (b : Bool) → is_text k.kind ≡ b → Holds (Right rules t) (if b then and_then (λ e. of_kind at found.Bool (body.Equals k.body e)) (one_argument is_text at ks) else Wrong code.Kind at)
      by true is = then_holds (Passes t is_text) (Right rules t) (λ e. of_kind at found.Bool (body.Equals k.body e))
          (one_argument is_text at ks) (one_right t is_text at ks all)
          (λ e (m, text, x). has.equals (text_has rules t k.kind k.body is h) (text_has rules t m e text x))
      by false is = tt

  -- arguments -----------------------------------------------------------------------------------------------------------

  pub within_has : (t : ScopeKinds) (b : ℕ) (k : ExprKind) (e : Expr) → is_within rules.classes b k ≡ true → Has rules t k e → HasKind rules t e (model.Class b)
  within_has t b (found.Class c) e is h = has.widened c b is h
  within_has t b found.Null e is h = h b
  within_has t b k e is h = absurd (true≢false (sym is))

  -- an argument that fits its parameter
  given_right : (t : ScopeKinds) (k : Kinded) (p : WrittenKind) (m : Kind) → IsKind p m
      → is_argument Given rules.classes k p ≡ true
      → Right rules t k → IsArgumentForm m k.body × HasKind rules t k.body m
  given_right t k (Known known_kind.Int) m is fit h =
      let (one, other) = both (is_int k.kind) true fit in
      subst (λ n. IsArgumentForm n k.body × HasKind rules t k.body n) is (tt, int_has rules t k.kind k.body one h)
  given_right t k (Known known_kind.Bool) m is fit h =
      let (one, other) = both (is_truth k.kind) true fit in
      subst (λ n. IsArgumentForm n k.body × HasKind rules t k.body n) is (tt, truth_has rules t k.kind k.body one h)
  given_right t k (Known known_kind.Text) m is fit h =
      let (one, other) = both (is_text k.kind) (is_given_text k.body) fit in
      subst (λ n. IsArgumentForm n k.body × HasKind rules t k.body n) is (given_form k.body other, text_has rules t k.kind k.body one h)
  given_right t k (Known (known_kind.Class b)) m is fit h =
      let (one, other) = both (is_within rules.classes b k.kind) true fit in
      subst (λ n. IsArgumentForm n k.body × HasKind rules t k.body n) is (tt, within_has t b k.kind k.body one h)
  given_right t k (Strange first) m is fit h = absurd is

  -- of that kind, and for a text of a form that may be passed
  abbrev IsPassed : ScopeKinds → Kind → Expr → Type 0
  IsPassed t m e = IsArgumentForm m e × HasKind rules t e m

  number_passed : (t : ScopeKinds) (e : Expr) (b : Bool) → HasKind rules t e model.Int
      → IsPassed t model.Int (if b then body.Passed e else e)
  number_passed t e true h = (tt, has.passed model.Int h)
  number_passed t e false h = (tt, h)

  text_passed : (t : ScopeKinds) (e : Expr) (b : Bool) → is_given_text e ≡ b → HasKind rules t e model.Text
      → IsPassed t model.Text (if not b then body.Passed e else e)
  text_passed t e true is h = (given_form e is, h)
  text_passed t e false is h = (tt, has.passed model.Text h)

  fits_passed : (t : ScopeKinds) (k : ExprKind) (e : Expr) (p : WrittenKind) (m : Kind) → IsKind p m
      → fits rules.classes k p ≡ true
      → Has rules t k e → IsPassed t m (if is_computed k e then body.Passed e else e)
  fits_passed t found.Int e (Known known_kind.Int) m is fit h =
      subst (λ n. IsPassed t n (if not (is_number e) then body.Passed e else e)) is
      (number_passed t e (not (is_number e)) h)
  fits_passed t found.Bool e (Known known_kind.Bool) m is fit h = subst (λ n. IsPassed t n e) is (tt, h)
  fits_passed t found.Text e (Known known_kind.Text) m is fit h =
      subst (λ n. IsPassed t n (if not (is_given_text e) then body.Passed e else e)) is
      (text_passed t e (is_given_text e) refl h)
  fits_passed t (found.Class c) e (Known (known_kind.Class b)) m is fit h =
      subst (λ n. IsPassed t n e) is (tt, within_has t b (found.Class c) e fit h)
  fits_passed t found.Null e (Known (known_kind.Class b)) m is fit h =
      subst (λ n. IsPassed t n e) is (tt, within_has t b found.Null e fit h)
  fits_passed t k e (Strange first) m is fit h = absurd is
  fits_passed t k e (Known known_kind.Int) m is fit h = absurd (true≢false (sym fit))
  fits_passed t k e (Known known_kind.Bool) m is fit h = absurd (true≢false (sym fit))
  fits_passed t k e (Known known_kind.Text) m is fit h = absurd (true≢false (sym fit))
  fits_passed t k e (Known (known_kind.Class b)) m is fit h = absurd (true≢false (sym fit))

  argument_right : (allowed : Arguments) (t : ScopeKinds) (k : Kinded) (p : WrittenKind) (m : Kind) → IsKind p m
      → is_argument allowed rules.classes k p ≡ true → Right rules t k → IsPassed t m (passed_for allowed k)
  argument_right Given t k p m is fit h = given_right t k p m is fit h
  argument_right Computed t k p m is fit h = fits_passed t k.kind k.body p m is
      (both (fits rules.classes k.kind p) true fit).0 h

  arguments_right : (allowed : Arguments) (t : ScopeKinds) (ks : List Kinded) (ps : List WrittenKind) (ms : List Kind)
      → length ks ≡ length ps
      → AllZip IsKind ps ms → misfit allowed rules.classes ks ps ≡ None → AllRight t ks
      → HaveKinds rules t (bodies allowed ks) ms
  arguments_right allowed t [] [] [] same zip none all = has.no_more
  arguments_right allowed t [] [] (m ∷ ms) same zip none all = absurd zip
  arguments_right allowed t [] (p ∷ ps) ms same zip none all = absurd (omega (arith, same))
  arguments_right allowed t (k ∷ ks) [] ms same zip none all = absurd (omega (arith, same))
  arguments_right allowed t (k ∷ ks) (p ∷ ps) [] same zip none all = absurd zip
  arguments_right allowed t (k ∷ ks) (p ∷ ps) (m ∷ ms) same zip none all =
      by (is_argument allowed rules.classes k p) refl none (λ rest. arguments_right allowed t ks ps ms
      (omega (arith, same)) zip.1 rest all.1)
    where
      by : (b : Bool) → is_argument allowed rules.classes k p ≡ b
          → (if b then misfit allowed rules.classes ks ps else Some k.at)
          ≡ None → (misfit allowed rules.classes ks ps ≡ None → HaveKinds rules t (bodies allowed ks) ms)
          → HaveKinds rules t (body.expr (passed_for allowed k) (bodies allowed ks)) (m ∷ ms)
      by true fit none rest = let (form, x) = argument_right allowed t k p m zip.0 fit all.0 in
          has.argument form x (rest none)
      by false fit none rest = absurd (none-some k.at (sym none))

  fitted_right : (allowed : Arguments) (t : ScopeKinds) (at : Place) (ks : List Kinded) (ps : List WrittenKind)
      (ms : List Kind)
      → AllZip IsKind ps ms → AllRight t ks → Holds (λ es. HaveKinds rules t es ms)
      (fitted allowed rules.classes at ks ps)
  fitted_right allowed t at ks ps ms zip all = by (nat_eq (length ks) (length ps)) refl
    where
      none_wrong : (o : Option Place) → length ks ≡ length ps → misfit allowed rules.classes ks ps ≡ o
          → Holds (λ es. HaveKinds rules t es ms) (bodies_or allowed ks o)
      none_wrong None same is = arguments_right allowed t ks ps ms same zip is all
      none_wrong (Some place) same is = tt

      by : (b : Bool) → nat_eq (length ks) (length ps) ≡ b → Holds (λ es. HaveKinds rules t es ms)
          (if b then bodies_or allowed ks (misfit allowed rules.classes ks ps) else Wrong code.Argument at)
      by true is = none_wrong (misfit allowed rules.classes ks ps) (eqb-true (length ks) (length ps) is) refl
      by false is = tt

  -- attributes ----------------------------------------------------------------------------------------------------------

  -- the value of an attribute
  pub result_right : (t : ScopeKinds) (e : Expr) (w : WrittenKind) (m : Kind) → IsKind w m → HasKind rules t e m → Has rules t (of_written w) e
  result_right t e (Known known_kind.Int) m is h = subst (λ n. HasKind rules t e n) (sym is) h
  result_right t e (Known known_kind.Bool) m is h = subst (λ n. HasKind rules t e n) (sym is) h
  result_right t e (Known known_kind.Text) m is h = subst (λ n. HasKind rules t e n) (sym is) h
  result_right t e (Known (known_kind.Class b)) m is h = subst (λ n. HasKind rules t e n) (sym is) h
  result_right t e (Strange first) m is h = absurd is

  module _ (allowed : Arguments) (declared : List Declared) (same : AllZip IsDeclaredAs declared rules.attributes) where
    abbrev pub scope_at : ℕ → List Bound → Option (List ℕ) → Scope
    scope_at this names index = record {
      classes = rules.classes;
      declared = declared;
      arguments = allowed;
      this = this;
      names = names;
      index = index;
    }

    declared_right : (t : ScopeKinds) (at : Place) (c n : ℕ) (name : List ℕ) (e : Expr) (ks : List Kinded)
        → declared_named rules.classes declared c name ≡ Some n → HasKind rules t e (model.Class c) → AllRight t ks
        → Holds (Right rules t) (demanded_of allowed rules.classes at n (slice_get declared n) e ks)
    declared_right t at c n name e ks is h all =
        let (d, there, passes, less) = element_found (λ (x : Declared). bytes_eq x.name name && is_below rules.classes c x.class) declared n is in
        let (a, attribute, of) = beside_it IsDeclaredAs declared rules.attributes n d same there in
        let below = ap (is_below rules.classes c) (sym of.class) ∙ (both (bytes_eq d.name name) (is_below rules.classes c d.class) passes).1 in
        subst (λ o. Holds (Right rules t) (demanded_of allowed rules.classes at n o e ks)) (sym there)
        (then_holds (λ es. HaveKinds rules t es a.parameters) (Right rules t)
        (λ es. of_kind at (of_written d.result) (body.Call e n es)) (fitted allowed rules.classes at ks d.parameters)
        (fitted_right allowed t at ks d.parameters a.parameters of.parameters all) (λ es x.
        result_right t (body.Call e n es) d.result a.result of.result (has.call c n a attribute below h x)))

    module _ (t : ScopeKinds) (this : ℕ) (names : List Bound) (index : Option (List ℕ)) where
      asked_right : (at : Place) (name : List ℕ) (c : ℕ) (e : Expr) (ks : List Kinded) → HasKind rules t e
          (model.Class c) → AllRight t ks → Holds (Right rules t) (asked (scope_at this names index) at name c e ks)
      asked_right at name c e ks h all = by (accessor_named rules.classes c name) refl (declared_named rules.classes declared c name) refl
        where
          by : (o : Option Accessor) → accessor_named rules.classes c name ≡ o → (n : Option ℕ)
              → declared_named rules.classes declared c name ≡ n
              → Holds (Right rules t) (asked_by (scope_at this names index) at n o e ks)
          by (Some a) is n named = accessed_right t at c a e ks (accessor_gets rules.classes c name a is) h all
          by None is (Some n) named = declared_right t at c n name e ks named h all
          by None is None named = tt

      asked_of_right : (at : Place) (name : List ℕ) (k : ExprKind) (e : Expr) (ks : List Kinded) → Has rules t k e
          → AllRight t ks → Holds (Right rules t) (asked_of (scope_at this names index) at name k e ks)
      asked_of_right at name (found.Class c) e ks h all = asked_right at name c e ks h all
      asked_of_right at name (found.Strange first) e ks h all = tt
      asked_of_right at name k e ks h all = tt

      pub called_right : (at : Place) (name : List ℕ) (k : Kinded) (ks : List Kinded) → Right rules t k → AllRight t ks → Holds (Right rules t) (called (scope_at this names index) at name k ks)
      called_right at name k ks h all = by (bytes_eq name (codes "equals"))
        where
          by : (b : Bool) → Holds (Right rules t) (if b then equal at k ks else asked_of (scope_at this names index) at name k.kind k.body ks)
          by true = equal_right t at k ks h all
          by false = asked_of_right at name k.kind k.body ks h all

      -- folds -----------------------------------------------------------------------------------------------------------

      pub list_called_right : (fold at : Place) (name : List ℕ) (k : Kinded) (ks : List Kinded) → Right rules t k → Holds (IsListOf t) (list_called (scope_at this names index) fold at name k ks)
      list_called_right fold at name k ks h = by (list_named rules.classes k.kind name) refl
        where
          node_of : (m : ExprKind) (l : ℕ × ℕ) (e : Expr) → list_named rules.classes m name ≡ Some l → Has rules t m e → IsListOf t (record { node = e; part = Some l.0; class = l.1 })
          node_of (found.Class c) l e is h = (c, listed_many rules.classes c name l is, h)
          node_of m l e is h = absurd (none-some l is)

          alone_listed : (l : Listed) (ls : List Kinded) → IsListOf t l → Holds (IsListOf t) (without at ls l)
          alone_listed l [] x = x
          alone_listed l (j ∷ js) x = tt

          by : (o : Option (ℕ × ℕ)) → list_named rules.classes k.kind name ≡ o → Holds (IsListOf t) (list_by fold at o (called (scope_at this names index) at name k ks) k ks)
          by None is = none_holds (IsListOf t) (no_list fold) (called (scope_at this names index) at name k ks) (no_list_right t fold)
          by (Some l) is = alone_listed (record { node = k.body; part = Some l.0; class = l.1 }) ks (node_of k.kind l k.body is h)

  -- a fold over a list
  pub folded_right : (t : ScopeKinds) (at : Place) (form : written.FoldForm) (l : Listed) (k : Kinded) → IsListOf t l
      → Right rules (bound_kinds t l.class) k → Holds (Right rules t) (folded at form l k)
  folded_right t at form l k list g = by l.part list
    where
      over : (form : written.FoldForm) (part c : ℕ) → shape_of_part rules.classes c part ≡ Some (class.Many l.class)
          → HasKind rules t l.node (model.Class c) → Holds (Right rules t) (folded_over at form l part k)
      over written.Exists part c shape h = if_right rules t (is_truth k.kind) at found.Bool (body.Exists l.node part
          k.body) (λ is. has.exists c part l.class shape h (truth_has rules (bound_kinds t l.class) k.kind k.body is g))
      over written.First part c shape h = if_right rules t (is_truth k.kind) at
          (found.Class l.class) (body.First l.node part k.body)
          (λ is. has.first c part l.class shape h (truth_has rules (bound_kinds t l.class) k.kind k.body is g))
      over written.Sum part c shape h = if_right rules t (is_int k.kind) at found.Int (body.Sum l.node part k.body)
          (λ is. has.sum c part l.class shape h (int_has rules (bound_kinds t l.class) k.kind k.body is g))

      by : (o : Option ℕ) → IsListIn t l o → Holds (Right rules t) (folded_in at form l o k)
      by None x = tt
      by (Some part) (c, shape, h) = over form part c shape h
