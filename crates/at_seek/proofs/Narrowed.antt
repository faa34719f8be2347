-- What is searched goes as it went before, but for what it leaves out.
use Rattle.std.proofs.Common.{◌≡◌, ◌⊎◌, ℕ, zero, suc, pos, Bool, true, false, cond, not, ◌&&◌, List, [], ◌∷◌, Option, Some, None, inl, inr, refl, sym, ap, ◌∙◌, subst}
use Rattle.std.specs.List.{slice_get, AllByRecursion}
use Rattle.std.specs.Str.{bytes_eq}
use Rattle.at_model.specs.Classes.{fits, is_sub, is_concrete}
use Rattle.at_model.specs.Classes as class
use Rattle.at_model.specs.Drawers.{Key, mark_of, has_key, is_under}
use Rattle.at_model.specs.Trees.{Tree, Token, class_of}
use Rattle.at_model.specs.Trees as tree
use Rattle.at_model.specs.Terms.{max_depth}
use Rattle.at_model.specs.Paths.{Node, node_eq, tree_at}
use Rattle.at_model.specs.Run.{Value, Int, Truth, Text, Ref, Nodes, Instance, Is, Tok, Slot, Drawer, Run, Gives, Fails, Looks, Demands, Null, ◌>>=◌}
use Rattle.at_model.specs.Bodies.{Expr, Exprs, TruthLiteral, This, Name, And, Negate, Arithmetic, Compare, Join, JoinInt, Same, Differ, Equals, InstanceOf, CastTo, Child, Element, Count, Has, TokenOf, First, Sum, SeekFirst, Fold, AnyOf, FirstOf, SumOf, Gather, Close, Listed, Only, Union, Contains, Over, Children, Parent, Passed, Scope, bound, named, truth_of, text_of, ref_of, nodes_of, value_of, node_of, demand_of, exists_in, first_in, sum_in, fold_in, bool_eq, elements_of, drawer_of, eval, eval_all}
use Rattle.at_model.specs.Rules.{Rules, Kind, OwnEquation, InheritedEquation, own_equation, is_inherited, start_of}
use Rattle.at_model.specs.Rules as kind
use Rattle.at_model.specs.Meaning.{content}
use Rattle.at_model.specs.Kinds.{ScopeKinds, HasKind, bound_kinds, IsDeclarationTyped}
use Rattle.at_model.specs.of_fixpoints.FormKinds.{AreBoolean, IsOfItsForm, AreFormsTyped}
use Rattle.at_model.proofs.of_formulas.TypedFormulas.{forms_typed}
use Rattle.at_model.specs.TypedRuns.{class_at, IsNodeOf, IsOfKind, AreArguments, IsTypedRun, IsWellTyped, IsOfItsKind, IsOfScopeKinds, AreContentsTyped}
use Rattle.at_model.specs.Instances.{AnyText, literals}
use Rattle.at_model.specs.WellFormed.{AreWellFormed, IsTreeSound}
use Rattle.at_model.specs.Seeking.{Looking, Silent, IsTest, never, token, turned, IsText, is_in_drawer, those}
use Rattle.at_model.specs.of_fixpoints.Formulas.{Formula, Known, Asks, is_surely, turned as turned_value, starts_from, demanded, fold_form, form, joined}
use Rattle.at_model.specs.of_fixpoints.Evaluations.{by_equation, evaluation_within, forms}
use Rattle.at_model.proofs.Below.{AreChained}
use Rattle.at_model.proofs.Chained.{chained}
use Rattle.at_model.proofs.Options.{both, mapped}
use Rattle.at_model.proofs.Complete.{conforms_at, fits_there}
use Rattle.at_model.proofs.Everywhere.{all_any, found as at_place}
use Rattle.at_model.proofs.of_edits.Drawing.{behind_true}
use Rattle.at_model.proofs.of_seeking.ByKey.{not_equal, not_equal_turned}
use Rattle.at_model.proofs.of_seeking.DrawnFrom.{are_drawn}
use Rattle.at_model.proofs.of_typing.TypedExpressions.{typed, nodes_there, elements_typed, bound_scope}
use Rattle.at_model.proofs.of_typing.TypedTogether.{met_any}
use Rattle.at_seek.specs.Sought.{IsSearched, IsSearchedIn, IsSearchedOver, AreSearched, AreElements, is_over, IsSoughtText, literal, name, BeginsByKey, TestsByKey, HasTextKey, IsSought}
use Rattle.at_seek.specs.Sought as searched
use Rattle.at_seek.proofs.KindsKept.{other}
use Rattle.at_seek.proofs.EquationsKept.{BothBy, OwnBodies, own_both}
use Rattle.at_seek.proofs.Narrowing.{Narrows, gives, fails, looks_less, looks_more, by_itself, by_equal, then_narrows, then_silent, by_truth, sides_narrow, exists_narrows, first_narrows, sum_narrows, gather_narrows, fold_narrows, exists_drawn, first_drawn, fold_drawn, typed_then}

-- a test is no fold, and stays ------------------------------------------------------------------------------------------

module _ (rules : Rules) (s : ScopeKinds) where
  truth_stays : (b : Bool) (f : Expr) → IsSearched rules s (TruthLiteral b) f → f ≡ TruthLiteral b
  truth_stays b _ (searched.itself _) = refl

  name_stays : (i : ℕ) (f : Expr) → IsSearched rules s (Name i) f → f ≡ Name i
  name_stays i _ (searched.itself _) = refl

  this_stays : (f : Expr) → IsSearched rules s This f → f ≡ This
  this_stays _ (searched.itself _) = refl

  token_stays : (part : ℕ) (f : Expr) → IsSearched rules s (TokenOf This part) f → f ≡ TokenOf This part
  token_stays part _ (searched.itself _) = refl
  token_stays part _ (searched.token_of {a' = a'} _ p) = ap (λ x. TokenOf x part) (this_stays a' p)

  equals_stays : (a b f : Expr) → ((g : Expr) → IsSearched rules s a g → g ≡ a) → ((g : Expr) → IsSearched rules s b g → g ≡ b)
      → IsSearched rules s (Equals a b) f → f ≡ Equals a b
  equals_stays a b _ left right (searched.itself _) = refl
  equals_stays a b _ left right (searched.equals {a' = a'} {b' = b'} p q) = ap (λ x. Equals x b') (left a' p) ∙ ap (λ x. Equals a x) (right b' q)

  test_stays : (key : Key) (has : Bool) (e f : Expr) → IsTest key has e → IsSearched rules s e f → f ≡ e
  test_stays key has _ f never p = truth_stays false f p
  test_stays key has _ f (token h) p = equals_stays (TokenOf This key.token) (Name 0) f (token_stays key.token) (name_stays 0) p
  test_stays key has _ f (turned h) p = equals_stays (Name 0) (TokenOf This key.token) f (name_stays 0) (token_stays key.token) p

module _ (rules : Rules) (own : List OwnEquation) (inherited : List InheritedEquation) (sought : IsSought rules (other rules own inherited))
    (ok : AreWellFormed rules) (t : Tree) (sound : IsTreeSound rules.classes t) where
  abbrev others : Rules
  others = other rules own inherited

  contents : AreContentsTyped rules.classes (class_at t) AnyText (content t)
  contents = (met_any rules ok t sound).contents

  lined : AreChained rules.classes
  lined = chained rules.classes ok.hierarchy

  -- the instance is of no circular attribute, and comes to the value by looks alone
  abbrev pub Plain : Instance Node → Value Node → Type 0
  Plain i v = (start_of rules i.attribute ≡ None)
      × Looking (content t) (evaluation_within max_depth rules node_eq i) (Known v)
      × Looking (content t) (evaluation_within max_depth others node_eq i) (Known v)

  abbrev pub Nar : {A : Type 0} → Run Node A → Run Node A → Type 0
  Nar r s = Narrows (content t) (IsOfItsKind rules (class_at t)) Plain r s

  abbrev pub Scopes : ScopeKinds → Scope Node → Type 0
  Scopes s scope = IsOfScopeKinds rules.classes (class_at t) AnyText s scope

  abbrev IsElement : ℕ → Node → Type 0
  IsElement element n = IsNodeOf rules.classes (class_at t) n element

  -- elements -------------------------------------------------------------------------------------------------------------

  concrete : (n : Node) (c : ℕ) → class_at t n ≡ Some c → is_concrete rules.classes c ≡ true
  concrete n c e =
      let (u, there, is) = mapped class_of (tree_at t n) c e in
      let (b, conform) = conforms_at rules.classes t 0 n u sound.conform there in
      subst (λ x. is_concrete rules.classes x ≡ true) is (both (is_concrete rules.classes (class_of u)) (is_sub rules.classes (class_of u) b) (fits_there rules.classes u b conform)).0

  fits_element : (element : ℕ) (n : Node) → IsElement element n → fits rules.classes (content t (Is n)) element ≡ true
  fits_element element n (c, e, sub) =
      subst (λ x. fits rules.classes x element ≡ true) (sym (contents.class n c e))
      (and_both (is_concrete rules.classes c) (is_sub rules.classes c element) (concrete n c e) sub)
    where
      and_both : (a b : Bool) → a ≡ true → b ≡ true → (a && b) ≡ true
      and_both true b e f = f
      and_both false b e f = absurd cc

  is_text : (v : Token) → IsOfKind rules.classes (class_at t) (value_of {N = Node} v) kind.Text → IsText v
  is_text (tree.Text bytes) h = (bytes, refl)
  is_text (tree.Int n) h = absurd h
  is_text (tree.Truth b) h = absurd h

  key_text : (key : Key) (element : ℕ) (n : Node) → IsElement element n → HasTextKey rules.classes key (content t (Is n)) → IsText (content t (Tok n key.token))
  key_text key element n (c, e, sub) h =
      is_text (content t (Tok n key.token)) (contents.token n c key.token class.Text e
      (subst (λ x. HasTextKey rules.classes key x) (contents.class n c e) h))

  -- tests by a key ---------------------------------------------------------------------------------------------------------

  branch : {A : Type 0} (b : Bool) (x y : Run Node A) (v : A) → b ≡ false → Looking (content t) y v → Looking (content t) (elim b [ true ↦ x | false ↦ y ]) v
  branch true x y v e h = absurd cc
  branch false x y v e h = h

  -- the evaluation comes to the value silently
  abbrev Quiet : Run Node (Value Node) → Value Node → Type 0
  Quiet r v = Silent (content t) Plain r v

  abbrev asked : Node → (attribute : ℕ) → List ℕ → Instance Node
  asked n a bytes = record { node = n; attribute = a; arguments = Text bytes ∷ [] }

  abbrev here : Node → List ℕ → Scope Node
  here n bytes = record { this = n; names = Text bytes ∷ []; child = None }

  by_test : (key : Key) (bytes : List ℕ) (n : Node) (e : Expr) → IsTest key (has_key key (content t (Is n))) e
      → (has_key key (content t (Is n)) ≡ true → IsText (content t (Tok n key.token)))
      → (has_key key (content t (Is n)) ≡ true → is_under (mark_of bytes) (content t (Tok n key.token)) ≡ false)
      → Looking (content t) (eval rules.classes node_eq e (here n bytes) >>= λ v. Gives (Known v)) (Known (Truth false))
  by_test key bytes n _ never text off = refl
  by_test key bytes n _ (token has) text off = ap (λ b. Known (Truth b)) (not_equal Node (content t (Tok n key.token)) bytes (text has) (off has))
  by_test key bytes n _ (turned has) text off = ap (λ b. Known (Truth b)) (not_equal_turned Node (content t (Tok n key.token)) bytes (text has) (off has))

  looking_own : (some : Rules) (n : Node) (a : ℕ) (bytes : List ℕ) (e : Expr) (o : Option Expr) (start : Option Bool) → o ≡ Some e → start ≡ None
      → Looking (content t) (eval some.classes node_eq e (here n bytes) >>= λ v. Gives (Known v)) (Known (Truth false))
      → Looking (content t) (by_equation some node_eq start (here n bytes) (Fails Null) o) (Known (Truth false))
  looking_own some n a bytes e o start is strict h =
      subst (λ (x : Option Bool). Looking (content t) (by_equation some node_eq x (here n bytes) (Fails Null) o) (Known (Truth false))) (sym strict)
      (subst (λ (x : Option Expr). Looking (content t) (by_equation some node_eq None (here n bytes) (Fails Null) x) (Known (Truth false))) (sym is) h)

  same_there : (c a : ℕ) (e : Expr) (key : Key) (has : Bool) → IsTest key has e → (d : kind.Attribute) → slice_get rules.attributes a ≡ Some d
      → (o q : Option Expr) → BothBy (OwnBodies rules own inherited sought c a) o q → o ≡ Some e → q ≡ Some e
  same_there c a e key has test d g None q h is = absurd cc
  same_there c a e key has test d g (Some x) None h is = absurd h
  same_there c a e key has test d g (Some x) (Some y) (b, sub, searches) is =
      let f : x ≡ e = cc in
      ap Some (test_stays rules (record { this = b; names = d.parameters; has_index = false }) key has e y test
      (subst (λ z. IsSearched rules (record { this = b; names = d.parameters; has_index = false }) z y) f (searches d g)))

  -- an attribute that tests by the key comes to `false` by looks at an element that doesn't stand under the mark
  plain : (key : Key) (element a : ℕ) (bytes : List ℕ) (n : Node) → TestsByKey rules key element a → IsElement element n
      → is_in_drawer (content t) key (mark_of bytes) n ≡ false → Plain (asked n a bytes) (Truth false)
  plain key element a bytes n tests is off =
      let (e, equation, test, text) = tests.equations (content t (Is n)) (fits_element element n is) in
      let under : has_key key (content t (Is n)) ≡ true → is_under (mark_of bytes) (content t (Tok n key.token)) ≡ false
      = λ has. behind_true (has_key key (content t (Is n))) (is_under (mark_of bytes) (content t (Tok n key.token))) has off in
      let body = by_test key bytes n e test (λ has. key_text key element n is (text has)) under in
      let also = same_there (content t (Is n)) a e key (has_key key (content t (Is n))) test tests.text.0 tests.text.1
      (own_equation rules (content t (Is n)) a) (own_equation others (content t (Is n)) a)
      (own_both rules own inherited sought (content t (Is n)) a) equation in (
        tests.strict,
        branch (is_inherited rules a) _ _ (Known (Truth false)) tests.own
            (looking_own rules n a bytes e (own_equation rules (content t (Is n)) a) (start_of rules a) equation tests.strict body),
        branch (is_inherited rules a) _ _ (Known (Truth false)) tests.own
            (looking_own others n a bytes e (own_equation others (content t (Is n)) a) (start_of rules a) also tests.strict body),
      )

  module _ (key : Key) (element : ℕ) (u : Expr) (bytes : List ℕ) (scope : Scope Node) (n : Node) (is : IsElement element n)
      (text : eval rules.classes node_eq u (bound scope n) ≡ Gives (Text bytes)) (off : is_in_drawer (content t) key (mark_of bytes) n ≡ false) where
    under : has_key key (content t (Is n)) ≡ true → is_under (mark_of bytes) (content t (Tok n key.token)) ≡ false
    under has = behind_true (has_key key (content t (Is n))) (is_under (mark_of bytes) (content t (Tok n key.token))) has off

    on_false : (b : Bool) (r : Run Node (Value Node)) → b ≡ false → Silent (content t) Plain (cond b r (Gives (Truth false))) (Truth false)
    on_false true r e = absurd cc
    on_false false r e = refl

    and_silent : (e f : Expr) → (v : Value Node) × Quiet (eval rules.classes node_eq e (bound scope n)) v × (truth_of v ≡ false)
        → (v : Value Node) × Quiet (eval rules.classes node_eq (And e f) (bound scope n)) v × (truth_of v ≡ false)
    and_silent e f (v, quiet, falsely) = (
      Truth false,
      then_silent (content t) (IsOfItsKind rules (class_at t)) Plain (eval rules.classes node_eq e (bound scope n)) v
          (λ w. cond (truth_of w) (eval rules.classes node_eq f (bound scope n)) (Gives (Truth false))) (Truth false) quiet
          (on_false (truth_of v) (eval rules.classes node_eq f (bound scope n)) falsely),
      refl,
    )

    -- what begins with a test by the key comes to `false` silently
    silent : (e : Expr) → BeginsByKey rules key element u e
        → (v : Value Node) × Silent (content t) Plain (eval rules.classes node_eq e (bound scope n)) v × (truth_of v ≡ false)
    silent _ (searched.token keyed) =
        let (has, shape) = keyed (content t (Is n)) (fits_element element n is) in (
          Truth (bytes_eq (text_of {N = Node} (value_of (content t (Tok n key.token)))) bytes),
          subst (λ (r : Run Node (Value Node)). Quiet (r >>= λ w. Gives (Truth (bytes_eq (text_of {N = Node} (value_of (content t (Tok n key.token)))) (text_of w))))
              (Truth (bytes_eq (text_of {N = Node} (value_of (content t (Tok n key.token)))) bytes))) (sym text) refl,
          not_equal Node (content t (Tok n key.token)) bytes (key_text key element n is shape) (under has),
        )
    silent _ (searched.turned keyed) =
        let (has, shape) = keyed (content t (Is n)) (fits_element element n is) in (
          Truth (bytes_eq bytes (text_of {N = Node} (value_of (content t (Tok n key.token))))),
          subst (λ (r : Run Node (Value Node)). Quiet (r >>= λ w. Looks (Tok n key.token) (λ c. Gives (Truth (bytes_eq (text_of w) (text_of {N = Node} (value_of c))))))
              (Truth (bytes_eq bytes (text_of {N = Node} (value_of (content t (Tok n key.token))))))) (sym text) refl,
          not_equal_turned Node (content t (Tok n key.token)) bytes (key_text key element n is shape) (under has),
        )
    silent _ (searched.attribute a tests) = (
      Truth false,
      subst (λ (r : Run Node (Value Node)). Quiet ((r >>= λ v. Gives (v ∷ [])) >>= demand_of a (Ref (Some n))) (Truth false)) (sym text)
          (Truth false, plain key element a bytes n tests is off, refl),
      refl,
    )
    silent _ (searched.and {e = e} {f = f} begins) = and_silent e f (silent e begins)

    turned_off : (p : Bool) (v : Value Node) → truth_of v ≡ false → truth_of (turned_value p v) ≡ not p
    turned_off true v e = e
    turned_off false v e = ap not e

    silent_demand : (b p : Bool) (o : Option Bool) (i : Instance Node) → o ≡ None → Plain i (Truth false)
        → Silent (content t) Plain (cond (p && starts_from b o) (Gives (Asks i)) (Demands i (λ v. Gives (Known (turned_value p v))))) (Known (turned_value p (Truth false)))
    silent_demand b true None i e h = (Truth false, h, refl)
    silent_demand b false o i e h = (Truth false, h, refl)
    silent_demand b true (Some c) i e h = absurd cc

    decided : (b : Bool) (v : Value Node) (r : Run Node (Formula Node)) → b ≡ true → Silent (content t) Plain (cond b (Gives (Known v)) r) (Known v)
    decided true v r e = refl
    decided false v r e = absurd cc

    as_ever : (p : Bool) (e : Expr) → BeginsByKey rules key element u e
        → (v : Value Node) × Silent (content t) Plain (eval rules.classes node_eq e (bound scope n) >>= λ v. Gives (Known (turned_value p v))) (Known v) × (truth_of v ≡ not p)
    as_ever p e begins =
        let (v, quiet, falsely) = silent e begins in (
          turned_value p v,
          then_silent (content t) (IsOfItsKind rules (class_at t)) Plain (eval rules.classes node_eq e (bound scope n)) v (λ v. Gives (Known (turned_value p v)))
              (Known (turned_value p v)) quiet refl,
          turned_off p v falsely,
        )

    surely : (p : Bool) (v : Value Node) → truth_of v ≡ not p → is_surely {N = Node} (not p) (Known v) ≡ true
    surely true v e = ap (bool_eq false) e
    surely false v e = ap (bool_eq true) e

    and_form : (b p : Bool) (e f : Expr)
        → (v : Value Node) × Silent (content t) Plain (form rules.classes node_eq (start_of rules) b p e (bound scope n)) (Known v) × (truth_of v ≡ not p)
        → (v : Value Node) × Silent (content t) Plain (form rules.classes node_eq (start_of rules) b p (And e f) (bound scope n)) (Known v) × (truth_of v ≡ not p)
    and_form b p e f (v, quiet, falsely) = (
      v,
      then_silent (content t) (IsOfItsKind rules (class_at t)) Plain (form rules.classes node_eq (start_of rules) b p e (bound scope n)) (Known v)
          (λ g. cond (is_surely (not p) g) (Gives g) (form rules.classes node_eq (start_of rules) b p f (bound scope n) >>= λ h. Gives (joined p g h))) (Known v) quiet
          (decided (is_surely (not p) (Known v)) v (form rules.classes node_eq (start_of rules) b p f (bound scope n) >>= λ h. Gives (joined p (Known v) h)) (surely p v falsely)),
      falsely,
    )

    -- and so does its formula, or that of its negation
    silent_form : (b p : Bool) (e : Expr) → BeginsByKey rules key element u e
        → (v : Value Node) × Silent (content t) Plain (form rules.classes node_eq (start_of rules) b p e (bound scope n)) (Known v) × (truth_of v ≡ not p)
    silent_form b p _ (searched.token keyed) = as_ever p (Equals (TokenOf (Name 0) key.token) u) (searched.token keyed)
    silent_form b p _ (searched.turned keyed) = as_ever p (Equals u (TokenOf (Name 0) key.token)) (searched.turned keyed)
    silent_form b p _ (searched.attribute a tests) = (
      turned_value p (Truth false),
      subst (λ (r : Run Node (Value Node)). Silent (content t) Plain ((r >>= λ v. Gives (v ∷ [])) >>= λ vs. demanded (start_of rules) b p (record { node = n; attribute = a; arguments = vs }))
          (Known (turned_value p (Truth false)))) (sym text)
          (silent_demand b p (start_of rules a) (asked n a bytes) tests.strict (plain key element a bytes n tests is off)),
      turned_off p (Truth false) refl,
    )
    silent_form b p _ (searched.and {e = e} {f = f} begins) = and_form b p e f (silent_form b p e begins)

  -- the text that is looked for ------------------------------------------------------------------------------------------

  name_text : (vs : List (Value Node)) (ks : List Kind) (i : ℕ) → AreArguments rules.classes (class_at t) AnyText vs ks → slice_get ks i ≡ Some kind.Text
      → (bytes : List ℕ) × (named vs i ≡ Text bytes)
  name_text [] [] i h e = absurd cc
  name_text [] (k ∷ ks) i h e = absurd h
  name_text (v ∷ vs) [] i h e = absurd h
  name_text (v ∷ vs) (k ∷ ks) zero h e = let f : k ≡ kind.Text = cc in is_that v (subst (λ z. IsOfKind rules.classes (class_at t) v z) f h.0)
    where
      is_that : (v : Value Node) → IsOfKind rules.classes (class_at t) v kind.Text → (bytes : List ℕ) × (v ≡ Text bytes)
      is_that (Text bytes) h = (bytes, refl)
      is_that (Int n) h = absurd h
      is_that (Truth b) h = absurd h
      is_that (Ref n) h = absurd h
      is_that (Nodes ns) h = absurd h
  name_text (v ∷ vs) (k ∷ ks) (suc i) h e = name_text vs ks i h.2 e

  sought_value : (s : ScopeKinds) (scope : Scope Node) (x u : Expr) → IsSoughtText s x u → Scopes s scope
      → (bytes : List ℕ) × (eval rules.classes node_eq x scope ≡ Gives (Text bytes)) × ((n : Node) → eval rules.classes node_eq u (bound scope n) ≡ Gives (Text bytes))
  sought_value s scope _ _ (literal bytes) h = (bytes, refl, λ n. refl)
  sought_value s scope _ _ (name i e) h = let (bytes, is) = name_text scope.names s.names i h.names e in (bytes, ap Gives is, λ n. ap Gives is)

  -- plain values fit -------------------------------------------------------------------------------------------------------

  start_at : (attribute : ℕ) (d : kind.Attribute) → slice_get rules.attributes attribute ≡ Some d → start_of rules attribute ≡ d.start
  start_at attribute d e = rw (e, start_of) refl

  pub boolean : AreBoolean rules
  boolean attribute b d e f =
      let x = at_place (IsDeclarationTyped rules.classes) rules.attributes attribute d ok.typed.attributes f in
      x.boolean b (sym (start_at attribute d f) ∙ e)

  pub here_typed : AreFormsTyped rules (class_at t) AnyText (content t) (forms rules)
  here_typed = forms_typed rules t AnyText (met_any rules ok t sound) boolean

  looking_typed : {A : Type 0} (Q : A → Type 0) (r : Run Node A) (a : A) → IsTypedRun rules (class_at t) AnyText (content t) Q r → Looking (content t) r a → Q a
  looking_typed Q (Gives b) a h e = subst Q e h
  looking_typed Q (Fails f) a h e = absurd e
  looking_typed Q (Looks l k) a (s, h) e = looking_typed Q (k (content t l)) a h e
  looking_typed Q (Demands i k) a h e = absurd e

  pub plain_fits : (i : Instance Node) (v : Value Node) → IsWellTyped rules (class_at t) AnyText i → Plain i v → IsOfItsKind rules (class_at t) i v
  plain_fits i v w h = looking_typed (IsOfItsForm rules (class_at t) AnyText i) (evaluation_within max_depth rules node_eq i) (Known v) (here_typed i w) h.1

  -- lists ----------------------------------------------------------------------------------------------------------------

  typed_receiver : (s : ScopeKinds) (a : Expr) (k : Kind) (scope : Scope Node) → HasKind rules s a k → Scopes s scope
      → IsTypedRun rules (class_at t) AnyText (content t) (λ v. IsOfKind rules.classes (class_at t) v k) (eval rules.classes node_eq a scope)
  typed_receiver s a k scope x h = typed rules lined (class_at t) AnyText (content t) contents node_eq s a k x scope (all_any AnyText (literals a) (λ z. tt)) h

  -- what goes over a list goes over elements of its class
  over_elements : {B : Type 0} (s : ScopeKinds) (a a' : Expr) (part element : ℕ) (scope : Scope Node) (K H : List Node → Run Node B) → AreElements rules s a part element
      → Scopes s scope → Nar (eval rules.classes node_eq a scope) (eval rules.classes node_eq a' scope)
      → ((ns : List Node) → AllByRecursion (IsElement element) ns → Nar (K ns) (H ns))
      → Nar (eval rules.classes node_eq a scope >>= λ v. elements_of part v >>= K) (eval rules.classes node_eq a' scope >>= λ v. elements_of part v >>= H)
  over_elements s a a' part element scope K H els h p each =
      typed_then rules (class_at t) AnyText (content t) Plain plain_fits (λ v. IsOfKind rules.classes (class_at t) v (kind.Class els.class))
      (eval rules.classes node_eq a scope) (eval rules.classes node_eq a' scope) (λ v. elements_of part v >>= K) (λ v. elements_of part v >>= H) p
      (typed_receiver s a (kind.Class els.class) scope els.kind h)
      (λ v k. typed_then rules (class_at t) AnyText (content t) Plain plain_fits (AllByRecursion (IsElement element)) (elements_of part v) (elements_of part v) K H
      (by_itself (content t) (IsOfItsKind rules (class_at t)) Plain (elements_of part v))
      (elements_typed rules lined (class_at t) AnyText (content t) contents node_eq els.class part element v els.list k) each)

  by_drawer : {B : Type 0} (part element : ℕ) (key : Key) (m : ℕ) (K H : List Node → Run Node B) (o : Option Node)
      → IsTypedRun rules (class_at t) AnyText (content t) (AllByRecursion (IsElement element))
      (elim o [ None ↦ Fails Null | Some n ↦ Gives n ] >>= λ n. Looks (Slot n part) (λ ns. Gives ns))
      → ((ns : List Node) → AllByRecursion (IsElement element) ns → Nar (K ns) (H (those (is_in_drawer (content t) key m) ns)))
      → Nar ((elim o [ None ↦ Fails Null | Some n ↦ Gives n ] >>= λ n. Looks (Slot n part) (λ ns. Gives ns)) >>= K)
      ((elim o [ None ↦ Fails Null | Some n ↦ Gives n ] >>= λ n. Looks (Drawer n part key m) (λ ns. Gives ns)) >>= H)
  by_drawer part element key m K H None h each = fails Null
  by_drawer part element key m K H (Some n) (there, all) each =
      looks_less (Slot n part) _ _ (looks_more (Drawer n part key m) _ _
      (subst (λ (ns : List Node). Nar (K (content t (Slot n part))) (H ns)) (sym (are_drawn t n part key m)) (each (content t (Slot n part)) all)))

  -- and into a drawer, where what isn't there is left out
  over_drawer : {B : Type 0} (s : ScopeKinds) (a a' x : Expr) (part element : ℕ) (key : Key) (bytes : List ℕ) (scope : Scope Node) (K H : List Node → Run Node B)
      → AreElements rules s a part element → Scopes s scope → Nar (eval rules.classes node_eq a scope) (eval rules.classes node_eq a' scope)
      → eval rules.classes node_eq x scope ≡ Gives (Text bytes)
      → ((ns : List Node) → AllByRecursion (IsElement element) ns → Nar (K ns) (H (those (is_in_drawer (content t) key (mark_of bytes)) ns)))
      → Nar (eval rules.classes node_eq a scope >>= λ v. elements_of part v >>= K)
      (eval rules.classes node_eq a' scope >>= λ v. eval rules.classes node_eq x scope >>= λ w. drawer_of part key v w >>= H)
  over_drawer s a a' x part element key bytes scope K H els h p is each =
      typed_then rules (class_at t) AnyText (content t) Plain plain_fits (λ v. IsOfKind rules.classes (class_at t) v (kind.Class els.class))
      (eval rules.classes node_eq a scope) (eval rules.classes node_eq a' scope) (λ v. elements_of part v >>= K)
      (λ v. eval rules.classes node_eq x scope >>= λ w. drawer_of part key v w >>= H) p (typed_receiver s a (kind.Class els.class) scope els.kind h)
      (λ v k. subst (λ r. Nar (elements_of part v >>= K) (r >>= λ w. drawer_of part key v w >>= H)) (sym is)
      (by_drawer part element key (mark_of bytes) K H (ref_of v)
      (elements_typed rules lined (class_at t) AnyText (content t) contents node_eq els.class part element v els.list k) each))

  -- inside the braces: as it was, or narrower at each element
  abbrev Inside : {A : Type 0} → ScopeKinds → Expr → ℕ → (Expr → Node → Run Node A) → Expr → Expr → Type 0
  Inside s a part T e f = (e ≡ f) ⊎ ((element : ℕ) × AreElements rules s a part element × ((n : Node) → IsElement element n → Nar (T e n) (T f n)))

  list_narrows : {A B : Type 0} (s : ScopeKinds) (a a' : Expr) (part : ℕ) (T : Expr → Node → Run Node A) (e f : Expr) (scope : Scope Node)
      (fold : (Node → Run Node A) → List Node → Run Node B) → Scopes s scope → Nar (eval rules.classes node_eq a scope) (eval rules.classes node_eq a' scope)
      → Inside s a part T e f
      → ((element : ℕ) (test also : Node → Run Node A) → ((n : Node) → IsElement element n → Nar (test n) (also n)) → (ns : List Node) → AllByRecursion (IsElement element) ns
      → Nar (fold test ns) (fold also ns))
      → Nar (eval rules.classes node_eq a scope >>= λ v. elements_of part v >>= fold (λ n. T e n)) (eval rules.classes node_eq a' scope >>= λ v. elements_of part v >>= fold (λ n. T f n))
  list_narrows s a a' part T e f scope fold h p (inl same) each =
      then_narrows (content t) (IsOfItsKind rules (class_at t)) Plain (eval rules.classes node_eq a scope) (eval rules.classes node_eq a' scope) _ _ p
      (λ v. by_equal (content t) (IsOfItsKind rules (class_at t)) Plain (elements_of part v >>= fold (λ n. T e n)) (elements_of part v >>= fold (λ n. T f n))
      (ap (λ x. elements_of part v >>= fold (λ n. T x n)) same))
  list_narrows s a a' part T e f scope fold h p (inr (element, els, same)) each =
      over_elements s a a' part element scope (fold (λ n. T e n)) (fold (λ n. T f n)) els h p (each element (λ n. T e n) (λ n. T f n) same)

  abbrev Among' : {A : Type 0} → ScopeKinds → Fold → Expr → (Expr → Node → Run Node A) → Expr → Expr → Type 0
  Among' s fold a T e f = (e ≡ f) ⊎ ((class : ℕ) × (is_over fold ≡ true) × HasKind rules s a (kind.Nodes class) × ((n : Node) → IsElement class n → Nar (T e n) (T f n)))

  nodes_narrow : {A B : Type 0} (s : ScopeKinds) (f' : Fold) (a a' : Expr) (T : Expr → Node → Run Node A) (e f : Expr) (scope : Scope Node)
      (fold : (Node → Run Node A) → List Node → Run Node B) → Scopes s scope → Nar (eval rules.classes node_eq a scope) (eval rules.classes node_eq a' scope)
      → Among' s f' a T e f
      → (is_over f' ≡ true → (element : ℕ) (test also : Node → Run Node A) → ((n : Node) → IsElement element n → Nar (test n) (also n)) → (ns : List Node)
      → AllByRecursion (IsElement element) ns → Nar (fold test ns) (fold also ns))
      → Nar (eval rules.classes node_eq a scope >>= λ v. fold (λ n. T e n) (nodes_of v)) (eval rules.classes node_eq a' scope >>= λ v. fold (λ n. T f n) (nodes_of v))
  nodes_narrow s f' a a' T e f scope fold h p (inl same) each =
      then_narrows (content t) (IsOfItsKind rules (class_at t)) Plain (eval rules.classes node_eq a scope) (eval rules.classes node_eq a' scope) _ _ p
      (λ v. by_equal (content t) (IsOfItsKind rules (class_at t)) Plain (fold (λ n. T e n) (nodes_of v)) (fold (λ n. T f n) (nodes_of v))
      (ap (λ x. fold (λ n. T x n) (nodes_of v)) same))
  nodes_narrow s f' a a' T e f scope fold h p (inr (class, over, x, same)) each =
      typed_then rules (class_at t) AnyText (content t) Plain plain_fits (λ v. IsOfKind rules.classes (class_at t) v (kind.Nodes class))
      (eval rules.classes node_eq a scope) (eval rules.classes node_eq a' scope) (λ v. fold (λ n. T e n) (nodes_of v)) (λ v. fold (λ n. T f n) (nodes_of v)) p
      (typed_receiver s a (kind.Nodes class) scope x h)
      (λ v k. each over class (λ n. T e n) (λ n. T f n) same (nodes_of v) (nodes_there rules lined (class_at t) AnyText (content t) contents node_eq class v k))

  fold_in_narrows : (fold : Fold) → is_over fold ≡ true → (element : ℕ) (test also : Node → Run Node (Value Node)) → ((n : Node) → IsElement element n → Nar (test n) (also n))
      → (ns : List Node) → AllByRecursion (IsElement element) ns → Nar (fold_in node_eq fold test ns) (fold_in node_eq fold also ns)
  fold_in_narrows AnyOf over element test also same ns all = exists_narrows (content t) (IsOfItsKind rules (class_at t)) Plain (IsElement element) test also same ns all
  fold_in_narrows FirstOf over element test also same ns all = first_narrows (content t) (IsOfItsKind rules (class_at t)) Plain (IsElement element) test also same ns all
  fold_in_narrows SumOf over element test also same ns all = sum_narrows (content t) (IsOfItsKind rules (class_at t)) Plain (IsElement element) test also same (pos 0) ns all
  fold_in_narrows Gather over element test also same ns all = gather_narrows (content t) (IsOfItsKind rules (class_at t)) Plain (IsElement element) test also same node_eq [] ns all
  fold_in_narrows Close over element test also same ns all = absurd cc

  -- expressions ----------------------------------------------------------------------------------------------------------

  one : {B : Type 0} (a a' : Expr) (scope : Scope Node) (k : Value Node → Run Node B) → Nar (eval rules.classes node_eq a scope) (eval rules.classes node_eq a' scope)
      → Nar (eval rules.classes node_eq a scope >>= k) (eval rules.classes node_eq a' scope >>= k)
  one a a' scope k p =
      then_narrows (content t) (IsOfItsKind rules (class_at t)) Plain (eval rules.classes node_eq a scope) (eval rules.classes node_eq a' scope) k k p
      (λ v. by_itself (content t) (IsOfItsKind rules (class_at t)) Plain (k v))

  then_each : {B : Type 0} (a a' : Expr) (scope : Scope Node) (k h : Value Node → Run Node B) → Nar (eval rules.classes node_eq a scope) (eval rules.classes node_eq a' scope)
      → ((v : Value Node) → Nar (k v) (h v)) → Nar (eval rules.classes node_eq a scope >>= k) (eval rules.classes node_eq a' scope >>= h)
  then_each a a' scope k h p each =
      then_narrows (content t) (IsOfItsKind rules (class_at t)) Plain (eval rules.classes node_eq a scope) (eval rules.classes node_eq a' scope) k h p each

  two : {B : Type 0} (a a' b b' : Expr) (scope : Scope Node) (k : Value Node → Value Node → Run Node B) → Nar (eval rules.classes node_eq a scope) (eval rules.classes node_eq a' scope)
      → Nar (eval rules.classes node_eq b scope) (eval rules.classes node_eq b' scope)
      → Nar (eval rules.classes node_eq a scope >>= λ v. eval rules.classes node_eq b scope >>= λ w. k v w) (eval rules.classes node_eq a' scope >>= λ v. eval rules.classes node_eq b' scope >>= λ w. k v w)
  two a a' b b' scope k p q = then_each a a' scope _ _ p (λ v. one b b' scope (k v) q)

  choice : {B : Type 0} (b : Bool) (x y x' y' : Run Node B) → Nar x x' → Nar y y' → Nar (cond b x y) (cond b x' y')
  choice b x y x' y' p q = by_truth (content t) (IsOfItsKind rules (class_at t)) Plain b x y x' y' p q

  abbrev E : Scope Node → Expr → Node → Run Node (Value Node)
  E scope e n = eval rules.classes node_eq e (bound scope n)

  mutual
    pub eval_narrows : (s : ScopeKinds) (e f : Expr) → IsSearched rules s e f → (scope : Scope Node) → Scopes s scope
        → Nar (eval rules.classes node_eq e scope) (eval rules.classes node_eq f scope)
    eval_narrows s e _ (searched.itself _) scope h = by_itself (content t) (IsOfItsKind rules (class_at t)) Plain (eval rules.classes node_eq e scope)
    eval_narrows s _ _ (searched.negate {a = a} {a' = a'} p) scope h = one a a' scope _ (eval_narrows s a a' p scope h)
    eval_narrows s _ _ (searched.opposite {a = a} {a' = a'} p) scope h = one a a' scope _ (eval_narrows s a a' p scope h)
    eval_narrows s _ _ (searched.arithmetic {a = a} {a' = a'} {b = b} {b' = b'} o p q) scope h = two a a' b b' scope _ (eval_narrows s a a' p scope h) (eval_narrows s b b' q scope h)
    eval_narrows s _ _ (searched.compare {a = a} {a' = a'} {b = b} {b' = b'} o p q) scope h = two a a' b b' scope _ (eval_narrows s a a' p scope h) (eval_narrows s b b' q scope h)
    eval_narrows s _ _ (searched.join {a = a} {a' = a'} {b = b} {b' = b'} p q) scope h = two a a' b b' scope _ (eval_narrows s a a' p scope h) (eval_narrows s b b' q scope h)
    eval_narrows s _ _ (searched.join_int {a = a} {a' = a'} {b = b} {b' = b'} p q) scope h = two a a' b b' scope _ (eval_narrows s a a' p scope h) (eval_narrows s b b' q scope h)
    eval_narrows s _ _ (searched.same {a = a} {a' = a'} {b = b} {b' = b'} p q) scope h = two a a' b b' scope _ (eval_narrows s a a' p scope h) (eval_narrows s b b' q scope h)
    eval_narrows s _ _ (searched.differ {a = a} {a' = a'} {b = b} {b' = b'} p q) scope h = two a a' b b' scope _ (eval_narrows s a a' p scope h) (eval_narrows s b b' q scope h)
    eval_narrows s _ _ (searched.equals {a = a} {a' = a'} {b = b} {b' = b'} p q) scope h = two a a' b b' scope _ (eval_narrows s a a' p scope h) (eval_narrows s b b' q scope h)
    eval_narrows s _ _ (searched.union {a = a} {a' = a'} {b = b} {b' = b'} p q) scope h = two a a' b b' scope _ (eval_narrows s a a' p scope h) (eval_narrows s b b' q scope h)
    eval_narrows s _ _ (searched.contains {a = a} {a' = a'} {b = b} {b' = b'} p q) scope h = two a a' b b' scope _ (eval_narrows s a a' p scope h) (eval_narrows s b b' q scope h)
    eval_narrows s _ _ (searched.element {a = a} {a' = a'} {b = b} {b' = b'} part p q) scope h = two a a' b b' scope _ (eval_narrows s a a' p scope h) (eval_narrows s b b' q scope h)
    eval_narrows s _ _ (searched.and {a = a} {a' = a'} {b = b} {b' = b'} p q) scope h =
        then_each a a' scope _ _ (eval_narrows s a a' p scope h) (λ v. choice (truth_of v) _ _ _ _ (eval_narrows s b b' q scope h) (gives _))
    eval_narrows s _ _ (searched.or {a = a} {a' = a'} {b = b} {b' = b'} p q) scope h =
        then_each a a' scope _ _ (eval_narrows s a a' p scope h) (λ v. choice (truth_of v) _ _ _ _ (gives _) (eval_narrows s b b' q scope h))
    eval_narrows s _ _ (searched.choose {c = c} {c' = c'} {a = a} {a' = a'} {b = b} {b' = b'} o p q) scope h =
        then_each c c' scope _ _ (eval_narrows s c c' o scope h) (λ v. choice (truth_of v) _ _ _ _ (eval_narrows s a a' p scope h) (eval_narrows s b b' q scope h))
    eval_narrows s _ _ (searched.instance_of {a = a} {a' = a'} class p) scope h = one a a' scope _ (eval_narrows s a a' p scope h)
    eval_narrows s _ _ (searched.cast_to {a = a} {a' = a'} class p) scope h = one a a' scope _ (eval_narrows s a a' p scope h)
    eval_narrows s _ _ (searched.child {a = a} {a' = a'} part p) scope h = one a a' scope _ (eval_narrows s a a' p scope h)
    eval_narrows s _ _ (searched.count {a = a} {a' = a'} part p) scope h = one a a' scope _ (eval_narrows s a a' p scope h)
    eval_narrows s _ _ (searched.has {a = a} {a' = a'} part p) scope h = one a a' scope _ (eval_narrows s a a' p scope h)
    eval_narrows s _ _ (searched.token_of {a = a} {a' = a'} part p) scope h = one a a' scope _ (eval_narrows s a a' p scope h)
    eval_narrows s _ _ (searched.listed {a = a} {a' = a'} part p) scope h = one a a' scope _ (eval_narrows s a a' p scope h)
    eval_narrows s _ _ (searched.only {a = a} {a' = a'} p) scope h = one a a' scope _ (eval_narrows s a a' p scope h)
    eval_narrows s _ _ (searched.children {a = a} {a' = a'} p) scope h = one a a' scope _ (eval_narrows s a a' p scope h)
    eval_narrows s _ _ (searched.parent {a = a} {a' = a'} p) scope h = one a a' scope _ (eval_narrows s a a' p scope h)
    eval_narrows s _ _ (searched.passed {a = a} {a' = a'} p) scope h = one a a' scope _ (eval_narrows s a a' p scope h)
    eval_narrows s _ _ (searched.call {a = a} {a' = a'} {es = es} {fs = fs} attribute p qs) scope h =
        then_each a a' scope _ _ (eval_narrows s a a' p scope h) (λ v.
        then_narrows (content t) (IsOfItsKind rules (class_at t)) Plain (eval_all rules.classes node_eq es scope) (eval_all rules.classes node_eq fs scope) _ _
        (all_narrow s es fs qs scope h) (λ vs. by_itself (content t) (IsOfItsKind rules (class_at t)) Plain (demand_of attribute v vs)))
    eval_narrows s _ _ (searched.exists {a = a} {a' = a'} {e = e} {f = f} part p q) scope h =
        list_narrows s a a' part (E scope) e f scope exists_in h (eval_narrows s a a' p scope h) (inside s a part e f q scope h)
        (λ element test also same ns all. exists_narrows (content t) (IsOfItsKind rules (class_at t)) Plain (IsElement element) test also same ns all)
    eval_narrows s _ _ (searched.first {a = a} {a' = a'} {e = e} {f = f} part p q) scope h =
        list_narrows s a a' part (E scope) e f scope first_in h (eval_narrows s a a' p scope h) (inside s a part e f q scope h)
        (λ element test also same ns all. first_narrows (content t) (IsOfItsKind rules (class_at t)) Plain (IsElement element) test also same ns all)
    eval_narrows s _ _ (searched.sum {a = a} {a' = a'} {e = e} {f = f} part p q) scope h =
        list_narrows s a a' part (E scope) e f scope (λ test ns. sum_in test (pos 0) ns) h (eval_narrows s a a' p scope h) (inside s a part e f q scope h)
        (λ element test also same ns all. sum_narrows (content t) (IsOfItsKind rules (class_at t)) Plain (IsElement element) test also same (pos 0) ns all)
    eval_narrows s _ _ (searched.over {a = a} {a' = a'} {e = e} {f = f} fold p q) scope h =
        nodes_narrow s fold a a' (E scope) e f scope (fold_in node_eq fold) h (eval_narrows s a a' p scope h) (inside_nodes s fold a e f q scope h) (fold_in_narrows fold)
    eval_narrows s _ _ (searched.seek_any {a = a} {a' = a'} {t = x} {u = u} {e = e} {f = f} part element key els text begins p q) scope h =
        let (bytes, outside, inside) = sought_value s scope x u text h in
        over_drawer s a a' x part element key bytes scope (exists_in (E scope e)) (exists_in (E scope f)) els h (eval_narrows s a a' p scope h) outside
        (exists_drawn (content t) (IsOfItsKind rules (class_at t)) Plain key (mark_of bytes) (IsElement element) (E scope e) (E scope f)
        (λ n is. eval_narrows (bound_kinds s element) e f q (bound scope n) (bound_scope rules lined (class_at t) AnyText (content t) contents node_eq s scope n element h is))
        (λ n is off. silent key element u bytes scope n is (inside n) off e begins))
    eval_narrows s _ _ (searched.seek_first {a = a} {a' = a'} {t = x} {u = u} {e = e} {f = f} part element key els text begins p q) scope h =
        let (bytes, outside, inside) = sought_value s scope x u text h in
        over_drawer s a a' x part element key bytes scope (first_in (E scope e)) (first_in (E scope f)) els h (eval_narrows s a a' p scope h) outside
        (first_drawn (content t) (IsOfItsKind rules (class_at t)) Plain key (mark_of bytes) (IsElement element) (E scope e) (E scope f)
        (λ n is. eval_narrows (bound_kinds s element) e f q (bound scope n) (bound_scope rules lined (class_at t) AnyText (content t) contents node_eq s scope n element h is))
        (λ n is off. silent key element u bytes scope n is (inside n) off e begins))

    inside : (s : ScopeKinds) (a : Expr) (part : ℕ) (e f : Expr) → IsSearchedIn rules s a part e f → (scope : Scope Node) → Scopes s scope → Inside s a part (E scope) e f
    inside s a part e _ (searched.unchanged _) scope h = inl refl
    inside s a part e f (searched.elements element els p) scope h = inr (
      element,
      els,
      λ n is. eval_narrows (bound_kinds s element) e f p (bound scope n) (bound_scope rules lined (class_at t) AnyText (content t) contents node_eq s scope n element h is),
    )

    inside_nodes : (s : ScopeKinds) (fold : Fold) (a e f : Expr) → IsSearchedOver rules s fold a e f → (scope : Scope Node) → Scopes s scope → Among' s fold a (E scope) e f
    inside_nodes s fold a e _ (searched.unchanged_over _) scope h = inl refl
    inside_nodes s fold a e f (searched.nodes class over x p) scope h = inr (
      class,
      over,
      x,
      λ n is. eval_narrows (bound_kinds s class) e f p (bound scope n) (bound_scope rules lined (class_at t) AnyText (content t) contents node_eq s scope n class h is),
    )

    all_narrow : (s : ScopeKinds) (es fs : Exprs) → AreSearched rules s es fs → (scope : Scope Node) → Scopes s scope
        → Nar (eval_all rules.classes node_eq es scope) (eval_all rules.classes node_eq fs scope)
    all_narrow s _ _ searched.no_more scope h = gives _
    all_narrow s _ _ (searched.argument {e = e} {f = f} {es = es} {fs = fs} p qs) scope h =
        then_each e f scope _ _ (eval_narrows s e f p scope h) (λ v.
        then_narrows (content t) (IsOfItsKind rules (class_at t)) Plain (eval_all rules.classes node_eq es scope) (eval_all rules.classes node_eq fs scope) _ _
        (all_narrow s es fs qs scope h) (λ vs. gives (v ∷ vs)))

  -- formulas -------------------------------------------------------------------------------------------------------------

  abbrev F : Bool → Bool → Scope Node → Expr → Node → Run Node (Formula Node)
  F b p scope e n = form rules.classes node_eq (start_of rules) b p e (bound scope n)

  plainly : (p : Bool) (e f : Expr) (scope : Scope Node) → Nar (eval rules.classes node_eq e scope) (eval rules.classes node_eq f scope)
      → Nar (eval rules.classes node_eq e scope >>= λ v. Gives (Known (turned_value p v))) (eval rules.classes node_eq f scope >>= λ v. Gives (Known (turned_value p v)))
  plainly p e f scope n = one e f scope (λ v. Gives (Known (turned_value p v))) n

  mutual
    pub form_narrows : (b p : Bool) (s : ScopeKinds) (e f : Expr) → IsSearched rules s e f → (scope : Scope Node) → Scopes s scope
        → Nar (form rules.classes node_eq (start_of rules) b p e scope) (form rules.classes node_eq (start_of rules) b p f scope)
    form_narrows b p s e _ (searched.itself _) scope h = by_itself (content t) (IsOfItsKind rules (class_at t)) Plain (form rules.classes node_eq (start_of rules) b p e scope)
    form_narrows b p s _ _ (searched.opposite {a = a} {a' = a'} x) scope h = form_narrows b (not p) s a a' x scope h
    form_narrows b p s _ _ (searched.and {a = a} {a' = a'} {b = c} {b' = c'} x y) scope h =
        sides_narrow (content t) (IsOfItsKind rules (class_at t)) Plain p _ _ _ _ (form_narrows b p s a a' x scope h) (form_narrows b p s c c' y scope h)
    form_narrows b p s _ _ (searched.or {a = a} {a' = a'} {b = c} {b' = c'} x y) scope h =
        sides_narrow (content t) (IsOfItsKind rules (class_at t)) Plain (not p) _ _ _ _ (form_narrows b p s a a' x scope h) (form_narrows b p s c c' y scope h)
    form_narrows b p s _ _ (searched.choose {c = d} {c' = d'} {a = a} {a' = a'} {b = c} {b' = c'} z x y) scope h =
        then_each d d' scope _ _ (eval_narrows s d d' z scope h) (λ v. choice (truth_of v) _ _ _ _ (form_narrows b p s a a' x scope h) (form_narrows b p s c c' y scope h))
    form_narrows b p s _ _ (searched.call {a = a} {a' = a'} {es = es} {fs = fs} attribute x ys) scope h =
        then_each a a' scope _ _ (eval_narrows s a a' x scope h) (λ v.
        then_narrows (content t) (IsOfItsKind rules (class_at t)) Plain (eval_all rules.classes node_eq es scope) (eval_all rules.classes node_eq fs scope) _ _
        (all_narrow s es fs ys scope h) (λ vs. by_itself (content t) (IsOfItsKind rules (class_at t)) Plain
        (node_of v >>= λ n. demanded (start_of rules) b p (record { node = n; attribute = attribute; arguments = vs }))))
    form_narrows b p s _ _ (searched.exists {a = a} {a' = a'} {e = e} {f = f} part x y) scope h =
        list_narrows s a a' part (F b p scope) e f scope (fold_form p) h (eval_narrows s a a' x scope h) (inside_form b p s a part e f y scope h)
        (λ element test also same ns all. fold_narrows (content t) (IsOfItsKind rules (class_at t)) Plain p (IsElement element) test also same ns all)
    form_narrows b p s _ _ (searched.over {a = a} {a' = a'} {e = e} {f = f} AnyOf x y) scope h =
        nodes_narrow s AnyOf a a' (F b p scope) e f scope (fold_form p) h (eval_narrows s a a' x scope h) (nodes_form b p s AnyOf a e f y scope h)
        (λ over element test also same ns all. fold_narrows (content t) (IsOfItsKind rules (class_at t)) Plain p (IsElement element) test also same ns all)
    form_narrows b p s _ _ (searched.seek_any {a = a} {a' = a'} {t = x} {u = u} {e = e} {f = f} part element key els text begins y z) scope h =
        let (bytes, outside, inside) = sought_value s scope x u text h in
        over_drawer s a a' x part element key bytes scope (fold_form p (F b p scope e)) (fold_form p (F b p scope f)) els h (eval_narrows s a a' y scope h) outside
        (fold_drawn (content t) (IsOfItsKind rules (class_at t)) Plain p key (mark_of bytes) (IsElement element) (F b p scope e) (F b p scope f)
        (λ n is. form_narrows b p (bound_kinds s element) e f z (bound scope n) (bound_scope rules lined (class_at t) AnyText (content t) contents node_eq s scope n element h is))
        (λ n is off. silent_form key element u bytes scope n is (inside n) off b p e begins))
    form_narrows b p s _ _ (searched.negate {a = a} {a' = a'} x) scope h = plainly p (Negate a) (Negate a') scope (eval_narrows s (Negate a) (Negate a') (searched.negate x) scope h)
    form_narrows b p s _ _ (searched.instance_of {a = a} {a' = a'} k x) scope h = plainly p (InstanceOf a k) (InstanceOf a' k) scope (eval_narrows s (InstanceOf a k) (InstanceOf a' k) (searched.instance_of k x) scope h)
    form_narrows b p s _ _ (searched.cast_to {a = a} {a' = a'} k x) scope h = plainly p (CastTo k a) (CastTo k a') scope (eval_narrows s (CastTo k a) (CastTo k a') (searched.cast_to k x) scope h)
    form_narrows b p s _ _ (searched.child {a = a} {a' = a'} k x) scope h = plainly p (Child a k) (Child a' k) scope (eval_narrows s (Child a k) (Child a' k) (searched.child k x) scope h)
    form_narrows b p s _ _ (searched.count {a = a} {a' = a'} k x) scope h = plainly p (Count a k) (Count a' k) scope (eval_narrows s (Count a k) (Count a' k) (searched.count k x) scope h)
    form_narrows b p s _ _ (searched.has {a = a} {a' = a'} k x) scope h = plainly p (Has a k) (Has a' k) scope (eval_narrows s (Has a k) (Has a' k) (searched.has k x) scope h)
    form_narrows b p s _ _ (searched.token_of {a = a} {a' = a'} k x) scope h = plainly p (TokenOf a k) (TokenOf a' k) scope (eval_narrows s (TokenOf a k) (TokenOf a' k) (searched.token_of k x) scope h)
    form_narrows b p s _ _ (searched.listed {a = a} {a' = a'} k x) scope h = plainly p (Listed a k) (Listed a' k) scope (eval_narrows s (Listed a k) (Listed a' k) (searched.listed k x) scope h)
    form_narrows b p s _ _ (searched.only {a = a} {a' = a'} x) scope h = plainly p (Only a) (Only a') scope (eval_narrows s (Only a) (Only a') (searched.only x) scope h)
    form_narrows b p s _ _ (searched.children {a = a} {a' = a'} x) scope h = plainly p (Children a) (Children a') scope (eval_narrows s (Children a) (Children a') (searched.children x) scope h)
    form_narrows b p s _ _ (searched.parent {a = a} {a' = a'} x) scope h = plainly p (Parent a) (Parent a') scope (eval_narrows s (Parent a) (Parent a') (searched.parent x) scope h)
    form_narrows b p s _ _ (searched.passed {a = a} {a' = a'} x) scope h = plainly p (Passed a) (Passed a') scope (eval_narrows s (Passed a) (Passed a') (searched.passed x) scope h)
    form_narrows b p s _ _ (searched.arithmetic {a = a} {a' = a'} {b = c} {b' = c'} k x y) scope h = plainly p (Arithmetic k a c) (Arithmetic k a' c') scope (eval_narrows s (Arithmetic k a c) (Arithmetic k a' c') (searched.arithmetic k x y) scope h)
    form_narrows b p s _ _ (searched.compare {a = a} {a' = a'} {b = c} {b' = c'} k x y) scope h = plainly p (Compare k a c) (Compare k a' c') scope (eval_narrows s (Compare k a c) (Compare k a' c') (searched.compare k x y) scope h)
    form_narrows b p s _ _ (searched.join {a = a} {a' = a'} {b = c} {b' = c'} x y) scope h = plainly p (Join a c) (Join a' c') scope (eval_narrows s (Join a c) (Join a' c') (searched.join x y) scope h)
    form_narrows b p s _ _ (searched.join_int {a = a} {a' = a'} {b = c} {b' = c'} x y) scope h = plainly p (JoinInt a c) (JoinInt a' c') scope (eval_narrows s (JoinInt a c) (JoinInt a' c') (searched.join_int x y) scope h)
    form_narrows b p s _ _ (searched.same {a = a} {a' = a'} {b = c} {b' = c'} x y) scope h = plainly p (Same a c) (Same a' c') scope (eval_narrows s (Same a c) (Same a' c') (searched.same x y) scope h)
    form_narrows b p s _ _ (searched.differ {a = a} {a' = a'} {b = c} {b' = c'} x y) scope h = plainly p (Differ a c) (Differ a' c') scope (eval_narrows s (Differ a c) (Differ a' c') (searched.differ x y) scope h)
    form_narrows b p s _ _ (searched.equals {a = a} {a' = a'} {b = c} {b' = c'} x y) scope h = plainly p (Equals a c) (Equals a' c') scope (eval_narrows s (Equals a c) (Equals a' c') (searched.equals x y) scope h)
    form_narrows b p s _ _ (searched.element {a = a} {a' = a'} {b = c} {b' = c'} k x y) scope h = plainly p (Element a k c) (Element a' k c') scope (eval_narrows s (Element a k c) (Element a' k c') (searched.element k x y) scope h)
    form_narrows b p s _ _ (searched.union {a = a} {a' = a'} {b = c} {b' = c'} x y) scope h = plainly p (Union a c) (Union a' c') scope (eval_narrows s (Union a c) (Union a' c') (searched.union x y) scope h)
    form_narrows b p s _ _ (searched.contains {a = a} {a' = a'} {b = c} {b' = c'} x y) scope h = plainly p (Contains a c) (Contains a' c') scope (eval_narrows s (Contains a c) (Contains a' c') (searched.contains x y) scope h)
    form_narrows b p s _ _ (searched.first {a = a} {a' = a'} {e = e} {f = f} k x y) scope h = plainly p (First a k e) (First a' k f) scope (eval_narrows s (First a k e) (First a' k f) (searched.first k x y) scope h)
    form_narrows b p s _ _ (searched.sum {a = a} {a' = a'} {e = e} {f = f} k x y) scope h = plainly p (Sum a k e) (Sum a' k f) scope (eval_narrows s (Sum a k e) (Sum a' k f) (searched.sum k x y) scope h)
    form_narrows b p s _ _ (searched.over {a = a} {a' = a'} {e = e} {f = f} FirstOf x y) scope h = plainly p (Over FirstOf a e) (Over FirstOf a' f) scope (eval_narrows s (Over FirstOf a e) (Over FirstOf a' f) (searched.over FirstOf x y) scope h)
    form_narrows b p s _ _ (searched.over {a = a} {a' = a'} {e = e} {f = f} SumOf x y) scope h = plainly p (Over SumOf a e) (Over SumOf a' f) scope (eval_narrows s (Over SumOf a e) (Over SumOf a' f) (searched.over SumOf x y) scope h)
    form_narrows b p s _ _ (searched.over {a = a} {a' = a'} {e = e} {f = f} Gather x y) scope h = plainly p (Over Gather a e) (Over Gather a' f) scope (eval_narrows s (Over Gather a e) (Over Gather a' f) (searched.over Gather x y) scope h)
    form_narrows b p s _ _ (searched.over {a = a} {a' = a'} {e = e} {f = f} Close x y) scope h = plainly p (Over Close a e) (Over Close a' f) scope (eval_narrows s (Over Close a e) (Over Close a' f) (searched.over Close x y) scope h)
    form_narrows b p s _ _ (searched.seek_first {a = a} {a' = a'} {t = w} {e = e} {f = f} part element key els text begins x y) scope h = plainly p (First a part e) (SeekFirst a' part key w f) scope (eval_narrows s (First a part e) (SeekFirst a' part key w f) (searched.seek_first part element key els text begins x y) scope h)

    inside_form : (b p : Bool) (s : ScopeKinds) (a : Expr) (part : ℕ) (e f : Expr) → IsSearchedIn rules s a part e f → (scope : Scope Node) → Scopes s scope
        → Inside s a part (F b p scope) e f
    inside_form b p s a part e _ (searched.unchanged _) scope h = inl refl
    inside_form b p s a part e f (searched.elements element els x) scope h = inr (
      element,
      els,
      λ n is. form_narrows b p (bound_kinds s element) e f x (bound scope n) (bound_scope rules lined (class_at t) AnyText (content t) contents node_eq s scope n element h is),
    )

    nodes_form : (b p : Bool) (s : ScopeKinds) (fold : Fold) (a e f : Expr) → IsSearchedOver rules s fold a e f → (scope : Scope Node) → Scopes s scope
        → Among' s fold a (F b p scope) e f
    nodes_form b p s fold a e _ (searched.unchanged_over _) scope h = inl refl
    nodes_form b p s fold a e f (searched.nodes class over z x) scope h = inr (
      class,
      over,
      z,
      λ n is. form_narrows b p (bound_kinds s class) e f x (bound scope n) (bound_scope rules lined (class_at t) AnyText (content t) contents node_eq s scope n class h is),
    )
