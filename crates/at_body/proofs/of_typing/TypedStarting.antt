-- The equation that an instance has is of the kind of its attribute, at the place where it stands.
use Rattle.std.proofs.Common.{◌≡◌, ℕ, suc, Bool, true, false, ◌&&◌, nat_eq, List, [], map, Option, Some, None, refl, sym, ap, ◌∙◌, subst}
use Rattle.std.specs.Prelude.{IsSome, IfSome, find}
use Rattle.std.specs.Option.{option_or}
use Rattle.std.specs.List.{slice_get}
use Rattle.std.specs.Str.{bytes_eq}
use Rattle.at_model.specs.Classes.{chain, is_sub}
use Rattle.at_model.specs.Run.{Contents, Is, Up}
use Rattle.at_model.specs.Bodies.{Expr}
use Rattle.at_model.specs.Rules.{Rules, Attribute, OwnEquation, InheritedEquation, own_in, own_equation, part_eq, inherited_in, inherited_equation, attribute_name, is_inherited}
use Rattle.at_model.specs.Kinds.{HasKind, AreTyped, IsOwnTyped, IsInheritedTyped, is_for_list}
use Rattle.at_model.specs.TypedRuns.{ClassAt, AreArguments}
use Rattle.at_model.specs.Instances.{AnyText}
use Rattle.at_model.proofs.Options.{mapped, both}
use Rattle.at_model.proofs.of_typing.TypedEquations.{found_in, either_of, answered, each_among, one_declaration}
use Rattle.at_model.proofs.Chained.{nat_same}
use Rattle.at_rules.specs.Bodies.{body_view}
use Rattle.at_rules.specs.declared.body.Body.{Body}
use Rattle.at_body.specs.declared.trial.Trial.{Trial}
use Rattle.at_body.specs.Values.{value_view}
use Rattle.at_body.specs.Typed.{AreBound, Enters}
use Rattle.at_body.specs.Typed as typed
use Rattle.at_body.specs.TypedStart.{AtParent, Begins, HasEquation, IsEquation, OrElse}

module _ (rules : Rules) (are : AreTyped rules) where
  -- the own equation of a class has the kind of its attribute, in the class where it stands
  pub record IsOwn (c : ℕ) (d : Attribute) (body : Expr) : Type 0 where
    pub class : ℕ
    pub above : is_sub rules.classes c class ≡ true
    pub is : HasKind rules (record { this = class; names = d.parameters; has_index = false }) body d.result

  pub own_is : (c attribute : ℕ) (d : Attribute) (body : Expr) → slice_get rules.attributes attribute ≡ Some d → own_equation rules c attribute ≡ Some body → IsOwn c d body
  own_is c attribute d body at h =
      let (b, sub, g) = answered (λ b. is_sub rules.classes c b ≡ true) (own_in rules attribute) (chain rules.classes c) body (each_among (chain rules.classes c)) h in
      let (e, f, k) = mapped (λ (e : OwnEquation). e.body) (find (λ (e : OwnEquation). nat_eq e.class b && nat_eq e.attribute attribute) rules.own) body g in
      let (p, test) = found_in (IsOwnTyped rules) (λ (e : OwnEquation). nat_eq e.class b && nat_eq e.attribute attribute) rules.own e are.own f in
      let (x, y) = both (nat_eq e.class b) (nat_eq e.attribute attribute) test in
      let same : e.attribute ≡ attribute = nat_same e.attribute attribute y in
      let is = one_declaration p.declaration d (slice_get rules.attributes attribute) (ap (slice_get rules.attributes) (sym same) ∙ p.attribute) at in
      let kind : HasKind rules (record { this = e.class; names = d.parameters; has_index = false }) e.body d.result = subst (λ (z : Attribute). HasKind rules (record { this = e.class; names = z.parameters; has_index = false }) e.body z.result) is p.body in
      record {
        class = e.class;
        above = subst (λ z. is_sub rules.classes c z ≡ true) (sym (nat_same e.class b x)) sub;
        is = subst (λ (z : Expr). HasKind rules (record { this = e.class; names = d.parameters; has_index = false }) z d.result) k kind;
      }

  -- and so has an inherited one
  pub record IsPassed (c : ℕ) (d : Attribute) (body : Expr) : Type 0 where
    pub class : ℕ
    pub has_index : Bool
    pub above : is_sub rules.classes c class ≡ true
    pub is : HasKind rules (record { this = class; names = d.parameters; has_index = has_index }) body d.result

  passed_in : (c b attribute : ℕ) (part : Option ℕ) (d : Attribute) (body : Expr) → slice_get rules.attributes attribute ≡ Some d → d.is_inherited ≡ true → is_sub rules.classes c b ≡ true → inherited_in rules d.name part b ≡ Some body → IsPassed c d body
  passed_in c b attribute part d body at inh sub h =
      let (e, f, k) = mapped (λ (e : InheritedEquation). e.body) (find (λ (e : InheritedEquation). nat_eq e.class b && part_eq e.part part && bytes_eq e.name d.name) rules.inherited) body h in
      let (p, test) = found_in (IsInheritedTyped rules) (λ (e : InheritedEquation). nat_eq e.class b && part_eq e.part part && bytes_eq e.name d.name) rules.inherited e are.inherited f in
      let (xy, z) = both (nat_eq e.class b && part_eq e.part part) (bytes_eq e.name d.name) test in
      let (x, y) = both (nat_eq e.class b) (part_eq e.part part) xy in
      record {
        class = e.class;
        has_index = is_for_list rules e;
        above = subst (λ z. is_sub rules.classes c z ≡ true) (sym (nat_same e.class b x)) sub;
        is = subst (λ (z : Expr). HasKind rules (record { this = e.class; names = d.parameters; has_index = is_for_list rules e }) z d.result) k (p.body attribute d (at, inh, z));
      }

  pub passed_is : (c part attribute : ℕ) (d : Attribute) (body : Expr) → slice_get rules.attributes attribute ≡ Some d → d.is_inherited ≡ true → inherited_equation rules c part d.name ≡ Some body → IsPassed c d body
  passed_is c part attribute d body at inh h =
      let (b, sub, g) = answered (λ b. is_sub rules.classes c b ≡ true) (λ b. option_or (inherited_in rules d.name (Some part) b) (inherited_in rules d.name None b)) (chain rules.classes c) body (each_among (chain rules.classes c)) h in
      either_of (λ z. IsPassed c d z) (inherited_in rules d.name (Some part) b) (inherited_in rules d.name None b) body (passed_in c b attribute (Some part) d body at inh sub) (passed_in c b attribute None d body at inh sub) g

  declared_inherited : (attribute : ℕ) (d : Attribute) → slice_get rules.attributes attribute ≡ Some d → is_inherited rules attribute ≡ true → d.is_inherited ≡ true
  declared_inherited attribute d e h = sym (ap (λ o. elim o as (λ _. Bool) [ None ↦ false | Some a ↦ a.is_inherited ]) e) ∙ h

  declared_name : (attribute : ℕ) (d : Attribute) → slice_get rules.attributes attribute ≡ Some d → attribute_name rules attribute ≡ d.name
  declared_name attribute d e = ap (λ o. elim o as (λ _. List ℕ) [ None ↦ [] | Some a ↦ a.name ]) e

  module _ (at : ClassAt ℕ) (look : Contents ℕ) where
    -- a trial that begins with the own equation stands where it stands
    pub own_stands : (t : Trial) (class attribute : ℕ) (b : Body) → Begins rules at look t class attribute → t.child ≡ None → t.bound ≡ [] → own_equation rules class attribute ≡ Some (body_view b) → IsEquation rules at t b attribute
    own_stands t class attribute b begins top unbound has =
        let own = own_is class attribute begins.declaration (body_view b) begins.attribute_is has in
        record {
          declaration = begins.declaration;
          kinds = record { this = own.class; bound = []; passed = begins.declaration.parameters; has_index = false };
          attribute_is = begins.attribute_is;
          is = own.is;
          place = record {
            this = (class, begins.node, own.above);
            bound = subst (λ ns. AreBound rules.classes at ns []) (sym unbound) tt;
            passed = begins.arguments;
            child = subst (λ o. IfSome o (λ n. IsSome (at n))) (sym top) tt;
            index = λ e. absurd (cc);
          };
        }

    -- and so does one that has come up to an inherited equation
    pub passed_stands : (first t : Trial) (class attribute : ℕ) (b : Body) → Begins rules at look first class attribute → is_inherited rules attribute ≡ true → t.arguments ≡ first.arguments → (part c child : ℕ) → t.child ≡ Some child → at t.this ≡ Some c → IsSome (at child) →
        t.bound ≡ [] → inherited_equation rules c part (attribute_name rules attribute) ≡ Some (body_view b) → IsEquation rules at t b attribute
    passed_stands first t class attribute b begins inh same part c child below there child_there unbound has =
        let d = begins.declaration in
        let passed = passed_is c part attribute d (body_view b) begins.attribute_is (declared_inherited attribute d begins.attribute_is inh) (subst (λ name. inherited_equation rules c part name ≡ Some (body_view b)) (declared_name attribute d begins.attribute_is) has) in
        record {
          declaration = d;
          kinds = record { this = passed.class; bound = []; passed = d.parameters; has_index = passed.has_index };
          attribute_is = begins.attribute_is;
          is = passed.is;
          place = record {
            this = (c, there, passed.above);
            bound = subst (λ ns. AreBound rules.classes at ns []) (sym unbound) tt;
            passed = subst (λ vs. AreArguments rules.classes at AnyText (map value_view vs) d.parameters) (sym same) begins.arguments;
            child = subst (λ o. IfSome o (λ n. IsSome (at n))) (sym below) child_there;
            index = λ e. subst (λ o. IsSome o) (sym below) refl;
          };
        }

-- where it stands it enters the equation
pub equation_enters : (rules : Rules) (at : ClassAt ℕ) (t : Trial) (b : Body) (attribute : ℕ) → t.todo ≡ [] → IsEquation rules at t b attribute → Enters rules at t b
equation_enters rules at t b attribute idle h = record {
  kinds = h.kinds;
  kind = h.declaration.result;
  is = h.is;
  stands = record { place = h.place; todo = subst (λ ts. typed.AreTodos rules at h.kinds h.declaration.result ts) (sym idle) (typed.ended _ _) };
}

-- an equation stands at the parent, or above it
pub record Above (rules : Rules) (at : ClassAt ℕ) (look : Contents ℕ) (name : List ℕ) (h m part : ℕ) : Type 0 where
  pub there : at m ≡ Some (look (Is m))
  pub further : OrElse (inherited_equation rules (look (Is m)) part name) (HasEquation rules at look name h m)

module _ (rules : Rules) (at : ClassAt ℕ) (look : Contents ℕ) (name : List ℕ) where
  abbrev Stood : ℕ → ℕ → ℕ → Type 0
  Stood h m part = (at m ≡ Some (look (Is m))) × OrElse (inherited_equation rules (look (Is m)) part name) (HasEquation rules at look name h m)

  pub at_parent : (height h n m part : ℕ) → height ≡ suc h → Some (m, part) ≡ look (Up n) → HasEquation rules at look name height n → Above rules at look name h m part
  at_parent height h n m part high up x =
      let y : AtParent (look (Up n)) (Stood h) = subst (λ k. HasEquation rules at look name k n) high x in
      let z : Stood h m part = subst (λ o. AtParent o (Stood h)) (sym up) y in
      record { there = z.0; further = z.1 }

  pub has_parent : (height h n : ℕ) → height ≡ suc h → None ≡ look (Up n) → HasEquation rules at look name height n → ⊥
  has_parent height h n high up x =
      let y : AtParent (look (Up n)) (Stood h) = subst (λ k. HasEquation rules at look name k n) high x in
      let z : AtParent {N = ℕ} None (Stood h) = subst (λ o. AtParent o (Stood h)) (sym up) y in z

  pub goes_on_above : (h m part c : ℕ) → c ≡ look (Is m) → None ≡ inherited_equation rules c part name → Above rules at look name h m part → HasEquation rules at look name h m
  goes_on_above h m part c is none x =
      let e : None ≡ inherited_equation rules (look (Is m)) part name = none ∙ ap (λ d. inherited_equation rules d part name) is in
      subst (λ o. OrElse o (HasEquation rules at look name h m)) (sym e) x.further

  pub parent_class : (h m part c : ℕ) → c ≡ look (Is m) → Above rules at look name h m part → at m ≡ Some c
  parent_class h m part c is x = x.there ∙ ap Some (sym is)

  pub some_class : (m c : ℕ) → at m ≡ Some c → IsSome (at m)
  some_class m c e = subst (λ o. IsSome o) (sym e) refl
