-- With accepted rules each equation has a typed formula; what is led to is well typed, and values have their kinds.
use Rattle.std.proofs.Common.{◌≡◌, ℕ, zero, suc, Bool, true, false, not, List, [], ◌∷◌, ◌++◌, Option, Some, None, inl, inr, refl, sym, ap, ◌∙◌, subst}
use Rattle.std.specs.Prelude.{IsSome, option_map, map}
use Rattle.std.specs.List.{slice_get, AllByRecursion}
use Rattle.std.specs.Str.{bytes_eq}
use Rattle.at_model.specs.Classes.{is_sub}
use Rattle.at_model.specs.Trees.{Tree, class_of}
use Rattle.at_model.specs.Terms.{max_depth}
use Rattle.at_model.specs.Paths.{Node, node_eq, tree_at}
use Rattle.at_model.specs.Run.{Value, Truth, Instance, Contents, Run, Gives, Fails, Looks, Demands, Null, Is, Up}
use Rattle.at_model.specs.Bodies.{Expr, Scope, eval, mentioned}
use Rattle.at_model.specs.Rules.{Rules, Kind, Attribute, OwnEquation, InheritedEquation, past_arguments, own_equation, inherited_equation, attribute_name, is_inherited, start_of, past_nodes}
use Rattle.at_model.specs.Rules as kind
use Rattle.at_model.specs.Meaning.{Outcome, Finds, Among, Reaches, content}
use Rattle.at_model.specs.Support.{argument_classes}
use Rattle.at_model.specs.Alike.{neither, both}
use Rattle.at_model.specs.Kinds.{ScopeKinds, HasKind, IsOwnTyped, IsInheritedTyped, is_for_list}
use Rattle.at_model.specs.TypedRuns.{ClassAt, Texts, IsTypedRun, class_at, IsOfKind, IsWellTyped, IsOfItsKind, IsLocationThere, IsOfScopeKinds}
use Rattle.at_model.specs.Instances.{literals}
use Rattle.at_model.proofs.Everywhere.{all_two}
use Rattle.at_model.proofs.Reached.{either_among}
use Rattle.at_model.proofs.WithinTree.{UpLike, parent_within}
use Rattle.at_model.proofs.of_typing.TypedSteps.{then_typed, less_typed}
use Rattle.at_model.proofs.of_typing.TypedExpressions.{typed}
use Rattle.at_model.proofs.of_typing.TypedEquations.{AreMet, one_declaration, node_there, arguments_sought, own_there, inherited_there, declared_inherited, declared_name, own_body}
use Rattle.at_model.specs.of_fixpoints.Formulas.{Formula, Known, Asks, Both, Either, atoms, Forms}
use Rattle.at_model.specs.of_fixpoints.Fixpoints.{Made, Ends, Valued, HoldsAt, EndsAt, HasValue}
use Rattle.at_model.specs.of_fixpoints.Resting.{Comes, Leads, stays, goes}
use Rattle.at_model.specs.of_fixpoints.Evaluations.{formula_of, by_equation, by_inherited, by_own, evaluation_within, forms}
use Rattle.at_model.specs.of_fixpoints.FormKinds.{AreBoolean, IsFormulaOf, IsOfItsForm, AreFormsTyped}
use Rattle.at_model.proofs.of_formulas.TypedForms.{form_typed}

module _ (rules : Rules) (t : Tree) (Allowed : Texts) (ok : AreMet rules t Allowed) (boolean : AreBoolean rules) where
  abbrev F : Kind → Formula Node → Type 0
  F k f = IsFormulaOf rules (class_at t) Allowed k f

  abbrev Typed : {A : Type 0} → (A → Type 0) → Run Node A → Type 0
  Typed Q r = IsTypedRun rules (class_at t) Allowed (content t) Q r

  body_typed : (s : ScopeKinds) (e : Expr) (k : Kind) (start : Option Bool) →
      ((b : Bool) → start ≡ Some b → k ≡ kind.Truth) → HasKind rules s e k → (scope : Scope Node) →
      AllByRecursion Allowed (literals e) → IsOfScopeKinds rules.classes (class_at t) Allowed s scope →
      Typed (F k) (formula_of rules node_eq start e scope)
  body_typed s e k None of x scope said stands =
      then_typed rules (class_at t) Allowed (content t) (λ v. IsOfKind rules.classes (class_at t) v k) (F k)
      (eval rules.classes node_eq e scope) (λ v. Gives (Known v))
      (typed rules ok.lined (class_at t) Allowed (content t) ok.contents node_eq s e k x scope said stands) (λ v z. z)
  body_typed s e k (Some b) of x scope said stands =
      let q = of b refl in
      subst (λ z. Typed (F z) (formula_of rules node_eq (Some b) e scope)) (sym q)
      (form_typed rules ok.lined (class_at t) Allowed (content t) ok.contents node_eq s e k q x b true scope said
      stands)

  one_past : {A : Type 0} (Q : A → Type 0) (vs : List (Value Node)) (r : Run Node A) →
      (AllByRecursion (IsLocationThere rules.classes (class_at t)) (argument_classes vs) → Typed Q r →
      Typed Q (past_arguments vs r)) → Typed Q r →
      (ns : List Node) → AllByRecursion (IsLocationThere rules.classes (class_at t)) (map (λ n. Is n) ns ++ argument_classes vs) →
      Typed Q (past_nodes ns (past_arguments vs r))
  one_past Q vs r rest h [] all = rest all h
  one_past Q vs r rest h (n ∷ ns) (x, all) = (x, one_past Q vs r rest h ns all)

  -- looks at the arguments, and then goes on
  past_typed : {A : Type 0} (Q : A → Type 0) (vs : List (Value Node)) (r : Run Node A) →
      AllByRecursion (IsLocationThere rules.classes (class_at t)) (argument_classes vs) → Typed Q r →
      Typed Q (past_arguments vs r)
  past_typed Q [] r all h = h
  past_typed Q (v ∷ vs) r all h = one_past Q vs r (past_typed Q vs r) h (mentioned v) all

  module _ (i : Instance Node) (w : IsWellTyped rules (class_at t) Allowed i) where
    start_is : (b : Bool) → start_of rules i.attribute ≡ Some b → w.declaration.result ≡ kind.Truth
    start_is b e = boolean i.attribute b w.declaration e w.attribute

    -- by the node's own equation
    own_typed : w.declaration.is_inherited ≡ false →
        Typed (F w.declaration.result) (by_own rules node_eq i (content t (Is i.node)))
    own_typed own = by_body (own_equation rules (content t (Is i.node)) i.attribute) refl
      where
        scope : Scope Node
        scope = record { this = i.node; names = i.arguments; child = None }

        by_body : (o : Option Expr) → own_equation rules (content t (Is i.node)) i.attribute ≡ o →
            Typed (F w.declaration.result)
            (by_equation rules node_eq (start_of rules i.attribute) scope (Fails Null) o)
        by_body None e = tt
        by_body (Some body) e =
            let (eq, (kinds, said), above, same, is) =
            own_there rules (λ (e : OwnEquation). IsOwnTyped rules e × AllByRecursion Allowed (literals e.body))
            (all_two (IsOwnTyped rules) (λ (e : OwnEquation). AllByRecursion Allowed (literals e.body)) rules.own
            ok.typed.own ok.said.own) (content t (Is i.node)) i.attribute body e in
            let x = own_body rules eq kinds w.declaration (ap (slice_get rules.attributes) same ∙ w.attribute) in
            let here = ok.contents.class i.node w.class w.node in
            subst (λ z. Typed (F w.declaration.result)
            (formula_of rules node_eq (start_of rules i.attribute) z scope)) is
            (body_typed (record { this = eq.class; names = w.declaration.parameters; has_index = false }) eq.body
            w.declaration.result (start_of rules i.attribute) start_is x scope said
            (record {
              this = (w.class, w.node, subst (λ c. is_sub rules.classes c eq.class ≡ true) here above);
              names = w.arguments;
              child = tt;
            }))

    -- by an equation above the node n
    module _ (inherits : w.declaration.is_inherited ≡ true) where
      body_above : (n p : Node) (part : ℕ) (rest : Run Node (Formula Node)) → IsSome (class_at t n) →
          IsSome (class_at t p) → Typed (F w.declaration.result) rest → (o : Option Expr) →
          inherited_equation rules (content t (Is p)) part (attribute_name rules i.attribute) ≡ o →
          Typed (F w.declaration.result)
          (by_equation rules node_eq (start_of rules i.attribute)
          (record { this = p; names = i.arguments; child = Some n }) rest o)
      body_above n p part rest there up h None e = h
      body_above n p part rest there up h (Some body) e =
          let (eq, (kinds, said), above, named, is) =
          inherited_there rules
          (λ (e : InheritedEquation). IsInheritedTyped rules e × AllByRecursion Allowed (literals e.body))
          (all_two (IsInheritedTyped rules) (λ (e : InheritedEquation). AllByRecursion Allowed (literals e.body))
          rules.inherited ok.typed.inherited ok.said.inherited) (content t (Is p)) part (attribute_name rules
          i.attribute) body e in
          let same = subst (λ z. bytes_eq eq.name z ≡ true)
          (declared_name rules i.attribute w.declaration w.attribute) named in
          let x = kinds.body i.attribute w.declaration (w.attribute, inherits, same) in
          let (c, f) = some_class (class_at t p) up in
          subst (λ z. Typed (F w.declaration.result)
          (formula_of rules node_eq (start_of rules i.attribute) z
          (record { this = p; names = i.arguments; child = Some n }))) is
          (body_typed (record { this = eq.class; names = w.declaration.parameters; has_index = is_for_list rules eq })
          eq.body w.declaration.result (start_of rules i.attribute) start_is x
          (record { this = p; names = i.arguments; child = Some n }) said
          (record {
            this = (
              c,
              f,
              subst (λ z. is_sub rules.classes z eq.class ≡ true)
                  (ok.contents.class p c f) above,
            );
            names = w.arguments;
            child = there;
          }))
        where
          some_class : (o : Option ℕ) → IsSome o → (c : ℕ) × (o ≡ Some c)
          some_class None h = absurd cc
          some_class (Some c) h = (c, refl)

      at_parent : (height : ℕ) (n : Node) → IsSome (tree_at t n) →
          ((m : Node) → IsSome (tree_at t m) →
          Typed (F w.declaration.result)
          (by_inherited rules node_eq (start_of rules i.attribute) (attribute_name rules i.attribute) i.arguments
          height m)) →
          (o p : Option (Node × ℕ)) → UpLike t o p →
          Typed (F w.declaration.result) (elim o as (λ _. Run Node (Formula Node)) [
            | None ↦ Fails Null
            | Some p ↦ Looks (Is p.0)
                (λ c. by_equation rules node_eq (start_of rules i.attribute)
                (record { this = p.0; names = i.arguments; child = Some n })
                (by_inherited rules node_eq (start_of rules i.attribute) (attribute_name rules i.attribute)
                i.arguments height p.0) (inherited_equation rules c p.1 (attribute_name rules i.attribute)))
          ])
      at_parent height n there rest _ _ neither = tt
      at_parent height n there rest _ _ (both {a = p} ((same, up), part)) = (
        node_there t p.0 up,
        body_above n p.0 p.1 (by_inherited rules node_eq (start_of rules i.attribute)
            (attribute_name rules i.attribute) i.arguments height p.0)
            (node_there t n there) (node_there t p.0 up) (rest p.0 up)
            (inherited_equation rules (content t (Is p.0)) p.1 (attribute_name rules i.attribute)) refl,
      )

      above_typed : (height : ℕ) (n : Node) → IsSome (tree_at t n) →
          Typed (F w.declaration.result)
          (by_inherited rules node_eq (start_of rules i.attribute) (attribute_name rules i.attribute) i.arguments
          height n)
      above_typed zero n there = tt
      above_typed (suc height) n there = (
        node_there t n there,
        at_parent height n there (above_typed height) (content t (Up n)) (content t (Up n))
            (parent_within t n there),
      )

    pick_typed : {A : Type 0} (Q : A → Type 0) (b c : Bool) (r s : Run Node A) → c ≡ b → (b ≡ true → Typed Q r) →
        (b ≡ false → Typed Q s) → Typed Q (elim c as (λ _. Run Node A) [ true ↦ r | false ↦ s ])
    pick_typed Q b true r s e f g = f (sym e)
    pick_typed Q b false r s e f g = g (sym e)

    its_form : (f : Formula Node) → F w.declaration.result f → IsOfItsForm rules (class_at t) Allowed i f
    its_form f h d e = subst (λ (a : Attribute). F a.result f)
        (one_declaration w.declaration d (slice_get rules.attributes i.attribute) w.attribute e) h

    node_is_there : (o : Option Tree) (c : ℕ) → option_map class_of o ≡ Some c → IsSome o
    node_is_there None c e = absurd cc
    node_is_there (Some u) c e = refl

    formula_typed : Typed (IsOfItsForm rules (class_at t) Allowed i) (evaluation_within max_depth rules node_eq i)
    formula_typed = (
      rw w.node refl,
      past_typed (IsOfItsForm rules (class_at t) Allowed i) i.arguments _
          (arguments_sought rules.classes (class_at t) Allowed i.arguments w.declaration.parameters w.arguments)
          (pick_typed (IsOfItsForm rules (class_at t) Allowed i) w.declaration.is_inherited
          (is_inherited rules i.attribute)
          (by_inherited rules node_eq (start_of rules i.attribute) (attribute_name rules i.attribute) i.arguments
          max_depth i.node) (by_own rules node_eq i (content t (Is i.node)))
          (declared_inherited rules i.attribute w.declaration w.declaration.is_inherited w.attribute refl)
          (λ inherits. less_typed rules (class_at t) Allowed (content t) (F w.declaration.result)
          (IsOfItsForm rules (class_at t) Allowed i)
          (by_inherited rules node_eq (start_of rules i.attribute) (attribute_name rules i.attribute) i.arguments
          max_depth i.node) its_form
          (above_typed inherits max_depth i.node (node_is_there (tree_at t i.node) w.class w.node)))
          (λ own. less_typed rules (class_at t) Allowed (content t) (F w.declaration.result)
          (IsOfItsForm rules (class_at t) Allowed i)
          (by_own rules node_eq i (content t (Is i.node))) its_form (own_typed own))),
    )

  pub forms_typed : AreFormsTyped rules (class_at t) Allowed (content t) (forms rules)
  forms_typed i w = formula_typed i w

module _ {N : Type 0} (rules : Rules) (boolean : AreBoolean rules) (at : ClassAt N) (Allowed : Texts)
    (look : Contents N) where
  -- what a typed evaluation gives is as is said
  ends_typed : {A : Type 0} (H : Instance N → Outcome N → Type 0) →
      ((j : Instance N) (v : Value N) → IsWellTyped rules at Allowed j → H j (Finds v) → IsOfItsKind rules at j v) →
      (i : Instance N) (Q : A → Type 0) (r : Run N A) (a : A) → IsTypedRun rules at Allowed look Q r →
      Ends look H i r (Made a) → Q a
  ends_typed H lower i Q (Gives b) a h e = let f : b ≡ a = cc in subst Q f h
  ends_typed H lower i Q (Fails x) a h e = absurd cc
  ends_typed H lower i Q (Looks l k) a (s, h) e = ends_typed H lower i Q (k (look l)) a h e
  ends_typed H lower i Q (Demands j k) a (w, h) (inl (v, x, e)) =
      ends_typed H lower i Q (k v) a (h v (lower j v w x)) e
  ends_typed H lower i Q (Demands j k) a (w, h) (inr (f, to, x, e)) = absurd cc

  reached_typed : {A : Type 0} (Has : Instance N → Value N → Type 0) →
      ((j : Instance N) (v : Value N) → IsWellTyped rules at Allowed j → Has j v → IsOfItsKind rules at j v) →
      (Q : A → Type 0) (r : Run N A) (m : Instance N) → IsTypedRun rules at Allowed look Q r → Reaches look Has r m →
      IsWellTyped rules at Allowed m
  reached_typed Has kinds Q (Gives a) m h x = absurd x
  reached_typed Has kinds Q (Fails f) m h x = absurd x
  reached_typed Has kinds Q (Looks l k) m (s, h) x = reached_typed Has kinds Q (k (look l)) m h x
  reached_typed Has kinds Q (Demands j k) m (w, h) (inl e) = subst (IsWellTyped rules at Allowed) e w
  reached_typed Has kinds Q (Demands j k) m (w, h) (inr (v, has, x)) =
      reached_typed Has kinds Q (k v) m (h v (kinds j v w has)) x

  -- the instances of a formula are well typed
  atom_typed : (k : Kind) (f : Formula N) (j : Instance N) → IsFormulaOf rules at Allowed k f → Among j (atoms f) →
      IsWellTyped rules at Allowed j
  atom_typed k (Known v) j h x = absurd x
  atom_typed k (Asks i) j (w, h) (inl e) = subst (IsWellTyped rules at Allowed) (sym e) w
  atom_typed k (Asks i) j (w, h) (inr u) = absurd u
  atom_typed k (Both f g) j (x, y) a =
      elim (either_among j (atoms f) (atoms g) a) [ inl u ↦ atom_typed k f j x u | inr u ↦ atom_typed k g j y u ]
  atom_typed k (Either f g) j (x, y) a =
      elim (either_among j (atoms f) (atoms g) a) [ inl u ↦ atom_typed k f j x u | inr u ↦ atom_typed k g j y u ]

  module _ (forms : Forms N) (starts : (a : ℕ) → forms.starts a ≡ start_of rules a)
      (typed : AreFormsTyped rules at Allowed look forms) where
    by_start : (H : Instance N → Formula N → Type 0) (i : Instance N) (v : Value N) (start : Option Bool) →
        start ≡ start_of rules i.attribute →
        ((w : Value N) → H i (Known w) → IsOfItsKind rules at i w) → Valued H start i v → IsOfItsKind rules at i v
    by_start H i v None e plain x d f = plain v x d f
    by_start H i v (Some b) e plain (inl (x, p)) d f =
        subst (λ z. IsOfKind rules.classes at z d.result) (sym p)
        (subst (λ k. IsOfKind rules.classes at (Truth (not b)) k) (sym (boolean i.attribute b d (sym e) f)) tt)
    by_start H i v (Some b) e plain (inr (x, p)) d f =
        subst (λ z. IsOfKind rules.classes at z d.result) (sym p)
        (subst (λ k. IsOfKind rules.classes at (Truth b) k) (sym (boolean i.attribute b d (sym e) f)) tt)

    value_at : (n : ℕ) (i : Instance N) (v : Value N) → IsWellTyped rules at Allowed i →
        HoldsAt look forms n i (Finds v) → IsOfItsKind rules at i v
    value_at zero i v w x = absurd x
    value_at (suc n) i v w (c, x) =
        by_start (λ j f. EndsAt look forms n j (Made f)) i v (forms.starts i.attribute) (starts i.attribute)
        (λ u e. ends_typed (HoldsAt look forms n) (value_at n) i (IsOfItsForm rules at Allowed i) (forms.formula i)
        (Known u) (typed i w) e) x

    pub value_typed : (i : Instance N) (v : Value N) → IsWellTyped rules at Allowed i → HasValue look forms i v →
        IsOfItsKind rules at i v
    value_typed i v w (n, x) = value_at n i v w x

    comes_typed : (i j : Instance N) → IsWellTyped rules at Allowed i → Comes look forms i j →
        IsWellTyped rules at Allowed j
    comes_typed i j w (inl x) =
        reached_typed (HasValue look forms) value_typed (IsOfItsForm rules at Allowed i) (forms.formula i) j
        (typed i w) x
    comes_typed i j w (inr (f, (n, x), a)) =
        atom_typed w.declaration.result f j
        (ends_typed (HoldsAt look forms n) (value_at n) i (IsOfItsForm rules at Allowed i) (forms.formula i) f
        (typed i w) x w.declaration w.attribute) a

    pub leads_typed : (i j : Instance N) → IsWellTyped rules at Allowed i → Leads look forms i j →
        IsWellTyped rules at Allowed j
    leads_typed _ _ w (stays i) = w
    leads_typed _ _ w (goes i m j c l) = leads_typed m j (comes_typed i m w c) l
