-- The kinds of what operators, casts and choices make of parts.
use Rattle.std.proofs.Common.{◌≡◌, ℕ, ◌<◌, Bool, true, false, length, Option, Some, None, refl, sym, ap, subst, true≢false}
use Rattle.std.specs.Prelude.{if◌then◌else◌}
use Rattle.std.specs.Str.{bytes_eq}
use Rattle.std.proofs.lemmas.Option.{none-some}
use Rattle.at_model.specs.Classes.{Class, is_sub, class_of_name}
use Rattle.at_model.specs.Bodies.{Expr}
use Rattle.at_model.specs.Bodies as body
use Rattle.at_model.specs.Rules.{Rules, Kind}
use Rattle.at_model.specs.Rules as model
use Rattle.at_model.specs.Kinds.{ScopeKinds, HasKind, AreComparable}
use Rattle.at_model.specs.Kinds as has
use Rattle.at_model.proofs.Options.{both}
use Rattle.at_text.specs.declared.place.Place.{Place}
use Rattle.at_jrag.specs.Syntax.{Word}
use Rattle.at_jrag.specs.Syntax as written
use Rattle.at_kinds.specs.Judging.{Kinded, Is, Wrong, kind_if, of_kind, negation, opposite, computed, ordered, added, text_joined, joined, of_wider, chosen, beside, class_beside, cast, tested}
use Rattle.at_kinds.specs.Kinds.{is_int, is_truth, is_text, is_node, are_ints, are_truths, are_alike, only_if, upper, wider_class, wider}
use Rattle.at_kinds.specs.declared.code.RuleCode.TheVariants as code
use Rattle.at_kinds.specs.declared.typing.kinds.ExprKind.{ExprKind}
use Rattle.at_kinds.specs.declared.typing.kinds.ExprKind.TheVariants as found
use Rattle.at_kinds.proofs.Holding.{Holds, then_holds}
use Rattle.at_kinds.proofs.KindsKnown.{element_found}

module _ (rules : Rules) where
  -- The body has the kind that was found: null has every class. Of no class that isn't there is anything found, where no
  -- declaration has a fault.
  abbrev pub Has : ScopeKinds → ExprKind → Expr → Type 0
  Has t found.Int e = HasKind rules t e model.Int
  Has t found.Bool e = HasKind rules t e model.Truth
  Has t found.Text e = HasKind rules t e model.Text
  Has t (found.Class c) e = HasKind rules t e (model.Class c)
  Has t (found.Strange first) e = ⊥
  Has t found.Null e = (c : ℕ) → HasKind rules t e (model.Class c)

  -- so has what is found of an expression
  abbrev pub Right : ScopeKinds → Kinded → Type 0
  Right t k = Has t k.kind k.body

  -- kinds ---------------------------------------------------------------------------------------------------------------

  pub int_has : (t : ScopeKinds) (k : ExprKind) (e : Expr) → is_int k ≡ true → Has t k e → HasKind rules t e model.Int
  int_has t found.Int e is h = h
  int_has t k e is h = absurd (true≢false (sym is))

  pub int_of : (t : ScopeKinds) (k : ExprKind) (e : Expr) → is_int k ≡ true → HasKind rules t e model.Int → Has t k e
  int_of t found.Int e is h = h
  int_of t k e is h = absurd (true≢false (sym is))

  pub truth_has : (t : ScopeKinds) (k : ExprKind) (e : Expr) → is_truth k ≡ true → Has t k e → HasKind rules t e model.Truth
  truth_has t found.Bool e is h = h
  truth_has t k e is h = absurd (true≢false (sym is))

  pub truth_of : (t : ScopeKinds) (k : ExprKind) (e : Expr) → is_truth k ≡ true → HasKind rules t e model.Truth → Has t k e
  truth_of t found.Bool e is h = h
  truth_of t k e is h = absurd (true≢false (sym is))

  pub text_has : (t : ScopeKinds) (k : ExprKind) (e : Expr) → is_text k ≡ true → Has t k e → HasKind rules t e model.Text
  text_has t found.Text e is h = h
  text_has t k e is h = absurd (true≢false (sym is))

  pub text_of : (t : ScopeKinds) (k : ExprKind) (e : Expr) → is_text k ≡ true → HasKind rules t e model.Text → Has t k e
  text_of t found.Text e is h = h
  text_of t k e is h = absurd (true≢false (sym is))

  -- nodes and null have a class
  pub node_has : (t : ScopeKinds) (k : ExprKind) (e : Expr) → is_node k ≡ true → Has t k e → (c : ℕ) × HasKind rules t e (model.Class c)
  node_has t (found.Class c) e is h = (c, h)
  node_has t found.Null e is h = (0, h 0)
  node_has t (found.Strange first) e is h = absurd h
  node_has t k e is h = absurd (true≢false (sym is))

  -- operators -----------------------------------------------------------------------------------------------------------

  pub if_right : (t : ScopeKinds) (b : Bool) (at : Place) (k : ExprKind) (e : Expr) → (b ≡ true → Has t k e) → Holds (Right t) (kind_if b at k e)
  if_right t true at k e h = h refl
  if_right t false at k e h = tt

  pub negation_right : (t : ScopeKinds) (at : Place) (k : Kinded) → Right t k → Holds (Right t) (negation at k)
  negation_right t at k h = if_right t (is_int k.kind) at found.Int (body.Negate k.body) (λ is. has.negate (int_has t k.kind k.body is h))

  pub opposite_right : (t : ScopeKinds) (at : Place) (k : Kinded) → Right t k → Holds (Right t) (opposite at k)
  opposite_right t at k h = if_right t (is_truth k.kind) at found.Bool (body.Not k.body) (λ is. has.opposite (truth_has t k.kind k.body is h))

  computed_right : (t : ScopeKinds) (at : Place) (o : body.Operator) (j k : Kinded) → Right t j → Right t k → Holds (Right t) (computed at o j k)
  computed_right t at o j k h g =
      if_right t (are_ints j.kind k.kind) at found.Int (body.Arithmetic o j.body k.body) (λ is.
      let (a, b) = both (is_int j.kind) (is_int k.kind) is in
      has.arithmetic o (int_has t j.kind j.body a h) (int_has t k.kind k.body b g))

  ordered_right : (t : ScopeKinds) (at : Place) (o : body.Order) (j k : Kinded) → Right t j → Right t k → Holds (Right t) (ordered at o j k)
  ordered_right t at o j k h g =
      if_right t (are_ints j.kind k.kind) at found.Bool (body.Compare o j.body k.body) (λ is.
      let (a, b) = both (is_int j.kind) (is_int k.kind) is in
      has.compare o (int_has t j.kind j.body a h) (int_has t k.kind k.body b g))

  text_joined_right : (t : ScopeKinds) (at : Place) (a : Expr) (k : ExprKind) (b : Expr) → HasKind rules t a model.Text → Has t k b → Holds (Right t) (text_joined at a k b)
  text_joined_right t at a found.Text b h g = has.join h g
  text_joined_right t at a found.Int b h g = has.join_int h g
  text_joined_right t at a k b h g = tt

  added_right : (t : ScopeKinds) (at : Place) (j k : Kinded) → Right t j → Right t k → Holds (Right t) (added at j k)
  added_right t at j k h g = by (is_text j.kind) refl
    where
      by : (b : Bool) → is_text j.kind ≡ b → Holds (Right t) (if b then text_joined at j.body k.kind k.body else computed at body.Add j k)
      by true is = text_joined_right t at j.body k.kind k.body (text_has t j.kind j.body is h) g
      by false is = computed_right t at body.Add j k h g

  -- what may stand beside `==`
  abbrev Alike : ScopeKinds → Expr → Expr → Type 0
  Alike t a b = (l : Kind) × (m : Kind) × AreComparable l m × HasKind rules t a l × HasKind rules t b m

  nodes_alike : (t : ScopeKinds) (c : ℕ) (k : ExprKind) (a b : Expr) → is_node k ≡ true → HasKind rules t a (model.Class c) → Has t k b → Alike t a b
  nodes_alike t c k a b is h g = let (d, n) = node_has t k b is g in (model.Class c, model.Class d, has.nodes c d, h, n)

  alike_has : (t : ScopeKinds) (j k : ExprKind) (a b : Expr) → are_alike j k ≡ true → Has t j a → Has t k b → Alike t a b
  alike_has t found.Int k a b is h g = (model.Int, model.Int, has.ints, h, int_has t k b is g)
  alike_has t found.Bool k a b is h g = (model.Truth, model.Truth, has.truths, h, truth_has t k b is g)
  alike_has t found.Text k a b is h g = absurd (true≢false (sym is))
  alike_has t (found.Class c) k a b is h g = nodes_alike t c k a b is h g
  alike_has t (found.Strange first) k a b is h g = absurd h
  alike_has t found.Null k a b is h g = nodes_alike t 0 k a b is (h 0) g

  same_right : (t : ScopeKinds) (at : Place) (j k : Kinded) → Right t j → Right t k → Holds (Right t) (joined at written.Same j k)
  same_right t at j k h g =
      if_right t (are_alike j.kind k.kind) at found.Bool (body.Same j.body k.body) (λ is.
      let (l, m, are, a, b) = alike_has t j.kind k.kind j.body k.body is h g in has.same l m are a b)

  differs_right : (t : ScopeKinds) (at : Place) (j k : Kinded) → Right t j → Right t k → Holds (Right t) (joined at written.Differs j k)
  differs_right t at j k h g =
      if_right t (are_alike j.kind k.kind) at found.Bool (body.Differ j.body k.body) (λ is.
      let (l, m, are, a, b) = alike_has t j.kind k.kind j.body k.body is h g in has.differ l m are a b)

  and_right : (t : ScopeKinds) (at : Place) (j k : Kinded) → Right t j → Right t k → Holds (Right t) (joined at written.And j k)
  and_right t at j k h g =
      if_right t (are_truths j.kind k.kind) at found.Bool (body.And j.body k.body) (λ is.
      let (a, b) = both (is_truth j.kind) (is_truth k.kind) is in
      has.and (truth_has t j.kind j.body a h) (truth_has t k.kind k.body b g))

  or_right : (t : ScopeKinds) (at : Place) (j k : Kinded) → Right t j → Right t k → Holds (Right t) (joined at written.Or j k)
  or_right t at j k h g =
      if_right t (are_truths j.kind k.kind) at found.Bool (body.Or j.body k.body) (λ is.
      let (a, b) = both (is_truth j.kind) (is_truth k.kind) is in
      has.or (truth_has t j.kind j.body a h) (truth_has t k.kind k.body b g))

  pub joined_right : (t : ScopeKinds) (at : Place) (o : written.Operator) (j k : Kinded) → Right t j → Right t k → Holds (Right t) (joined at o j k)
  joined_right t at written.Add j k h g = added_right t at j k h g
  joined_right t at written.Subtract j k h g = computed_right t at body.Subtract j k h g
  joined_right t at written.Multiply j k h g = computed_right t at body.Multiply j k h g
  joined_right t at written.Divide j k h g = computed_right t at body.Divide j k h g
  joined_right t at written.Remainder j k h g = computed_right t at body.Remainder j k h g
  joined_right t at written.Below j k h g = ordered_right t at body.Below j k h g
  joined_right t at written.AtMost j k h g = ordered_right t at body.AtMost j k h g
  joined_right t at written.Above j k h g = ordered_right t at body.Above j k h g
  joined_right t at written.AtLeast j k h g = ordered_right t at body.AtLeast j k h g
  joined_right t at written.Same j k h g = same_right t at j k h g
  joined_right t at written.Differs j k h g = differs_right t at j k h g
  joined_right t at written.And j k h g = and_right t at j k h g
  joined_right t at written.Or j k h g = or_right t at j k h g

  -- choices -------------------------------------------------------------------------------------------------------------

  only_some : (b : Bool) (k m : ExprKind) → only_if b k ≡ Some m → (b ≡ true) × (k ≡ m)
  only_some true k m is = let e : k ≡ m = cc in (refl, e)
  only_some false k m is = absurd (none-some m is)

  moved : (t : ScopeKinds) (e : Expr) (k m : ExprKind) → Some k ≡ Some m → Has t k e → Has t m e
  moved t e k m is h = let same : k ≡ m = cc in subst (λ l. Has t l e) same h

  -- of two classes, the one that is the other or above it
  upper_has : (t : ScopeKinds) (c a b : Expr) (d e : ℕ) (m : ExprKind) → HasKind rules t c model.Truth
      → HasKind rules t a (model.Class d) → HasKind rules t b (model.Class e) → upper rules.classes d e ≡ Some m
      → Has t m (body.Choose c a b)
  upper_has t c a b d e m hc ha hb is = by (is_sub rules.classes e d) refl is
    where
      by : (s : Bool) → is_sub rules.classes e d ≡ s → (if s then Some (found.Class d) else only_if (is_sub rules.classes d e) (found.Class e)) ≡ Some m → Has t m (body.Choose c a b)
      by true sub is = moved t (body.Choose c a b) (found.Class d) m is (has.choose (model.Class d) hc ha (has.widened e d sub hb))
      by false sub is =
          let (up, same) = only_some (is_sub rules.classes d e) (found.Class e) m is in
          moved t (body.Choose c a b) (found.Class e) m (ap Some same) (has.choose (model.Class e) hc (has.widened d e up ha) hb)

  wider_class_has : (t : ScopeKinds) (c a b : Expr) (d : ℕ) (k m : ExprKind) → HasKind rules t c model.Truth → HasKind
      rules t a (model.Class d) → Has t k b → wider_class rules.classes d k ≡ Some m → Has t m (body.Choose c a b)
  wider_class_has t c a b d (found.Class e) m hc ha hb is = upper_has t c a b d e m hc ha hb is
  wider_class_has t c a b d found.Null m hc ha hb is = moved t (body.Choose c a b) (found.Class d) m is (has.choose (model.Class d) hc ha (hb d))
  wider_class_has t c a b d k m hc ha hb is = absurd (none-some m is)

  -- null beside a node or null
  null_has : (t : ScopeKinds) (c a b : Expr) (k : ExprKind) → is_node k ≡ true → HasKind rules t c model.Truth → ((d : ℕ) → HasKind rules t a (model.Class d)) → Has t k b → Has t k (body.Choose c a b)
  null_has t c a b (found.Class d) is hc ha hb = has.choose (model.Class d) hc (ha d) hb
  null_has t c a b found.Null is hc ha hb = λ d. has.choose (model.Class d) hc (ha d) (hb d)
  null_has t c a b (found.Strange first) is hc ha hb = absurd hb
  null_has t c a b k is hc ha hb = absurd (true≢false (sym is))

  wider_has : (t : ScopeKinds) (c a b : Expr) (j k m : ExprKind) → HasKind rules t c model.Truth → Has t j a → Has t k b → wider rules.classes j k ≡ Some m → Has t m (body.Choose c a b)
  wider_has t c a b found.Int k m hc ha hb is =
      let (one, same) = only_some (is_int k) k m is in
      moved t (body.Choose c a b) k m (ap Some same) (int_of t k (body.Choose c a b) one (has.choose model.Int hc ha (int_has t k b one hb)))
  wider_has t c a b found.Bool k m hc ha hb is =
      let (one, same) = only_some (is_truth k) k m is in
      moved t (body.Choose c a b) k m (ap Some same) (truth_of t k (body.Choose c a b) one (has.choose model.Truth hc ha (truth_has t k b one hb)))
  wider_has t c a b found.Text k m hc ha hb is =
      let (one, same) = only_some (is_text k) k m is in
      moved t (body.Choose c a b) k m (ap Some same) (text_of t k (body.Choose c a b) one (has.choose model.Text hc ha (text_has t k b one hb)))
  wider_has t c a b (found.Class d) k m hc ha hb is = wider_class_has t c a b d k m hc ha hb is
  wider_has t c a b (found.Strange first) k m hc ha hb is = absurd ha
  wider_has t c a b found.Null k m hc ha hb is =
      let (one, same) = only_some (is_node k) k m is in
      moved t (body.Choose c a b) k m (ap Some same) (null_has t c a b k one hc ha hb)

  of_wider_right : (t : ScopeKinds) (at : Place) (e : Expr) (o : Option ExprKind) → ((m : ExprKind) → o ≡ Some m → Has t m e) → Holds (Right t) (of_wider at e o)
  of_wider_right t at e None h = tt
  of_wider_right t at e (Some m) h = h m refl

  pub chosen_right : (t : ScopeKinds) (at : Place) (c j k : Kinded) → Right t c → Right t j → Right t k → Holds (Right t) (chosen rules.classes at c j k)
  chosen_right t at c j k hc hj hk = by (is_truth c.kind) refl
    where
      by : (b : Bool) → is_truth c.kind ≡ b → Holds (Right t) (if b then of_wider at (body.Choose c.body j.body k.body) (wider rules.classes j.kind k.kind) else Wrong code.Kind at)
      by true is = of_wider_right t at (body.Choose c.body j.body k.body) (wider rules.classes j.kind k.kind)
          (λ m wide. wider_has t c.body j.body k.body j.kind k.kind m (truth_has t c.kind c.body is hc) hj hk wide)
      by false is = tt

  -- casts and `instanceof` ----------------------------------------------------------------------------------------------

  -- the class is there, and the expression has one
  abbrev Beside : ScopeKinds → Expr → ℕ → Type 0
  Beside t e c = (c < length rules.classes) × (d : ℕ) × HasKind rules t e (model.Class d)

  class_beside_right : (t : ScopeKinds) (at : Place) (class : Word) (k : Kinded) → Right t k → Holds (Beside t k.body) (class_beside rules.classes at class k)
  class_beside_right t at class k h = by (class_of_name rules.classes class.text) refl
    where
      if_node : (c : ℕ) (b : Bool) → is_node k.kind ≡ b → c < length rules.classes → Holds (Beside t k.body) (if b then Is c else Wrong code.Kind at)
      if_node c true is less = let (d, x) = node_has t k.kind k.body is h in (less, d, x)
      if_node c false is less = tt

      by : (o : Option ℕ) → class_of_name rules.classes class.text ≡ o → Holds (Beside t k.body) (beside at k.kind o)
      by None is = tt
      by (Some c) is = if_node c (is_node k.kind) refl (element_found (λ (x : Class). bytes_eq class.text x.name) rules.classes c is).3

  pub cast_right : (t : ScopeKinds) (at : Place) (class : Word) (k : Kinded) → Right t k → Holds (Right t) (cast rules.classes at class k)
  cast_right t at class k h =
      then_holds (Beside t k.body) (Right t) (λ c. of_kind at (found.Class c) (body.CastTo c k.body)) (class_beside
      rules.classes at class k) (class_beside_right t at class k h) (λ c (less, d, x). has.cast_to d c less x)

  pub tested_right : (t : ScopeKinds) (at : Place) (class : Word) (k : Kinded) → Right t k → Holds (Right t) (tested rules.classes at class k)
  tested_right t at class k h =
      then_holds (Beside t k.body) (Right t) (λ c. of_kind at found.Bool (body.InstanceOf k.body c)) (class_beside
      rules.classes at class k) (class_beside_right t at class k h) (λ c (less, d, x). has.instance_of d c less x)
