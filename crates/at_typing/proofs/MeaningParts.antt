-- What a declaration that has no fault adds is of its own words.
use Rattle.std.proofs.Common.{◌≡◌, ℕ, List, [], ◌∷◌, ◌++◌, refl, ap, sym, ◌∙◌, subst, true≢false, Option, Some, None, get_or}
use Rattle.std.specs.Prelude.{Bool, true, false, ◌&&◌, not, codes, position, is_some, IfSome, cond, slice_get}
use Rattle.std.specs.Str.{bytes_eq}
use Rattle.std.proofs.lemmas.Slice.Eq.{bytes_eq-Decides}
use Rattle.std.proofs.lemmas.List.Quantifiers.{position-Some}
use Rattle.std.proofs.lemmas.Option.{none-some}
use Rattle.at_model.specs.Bodies.{Expr}
use Rattle.at_model.specs.Classes.{Class, Classes, class_of_name, parts}
use Rattle.at_model.specs.Rules.{Attribute, OwnEquation, InheritedEquation}
use Rattle.at_text.specs.declared.place.Place.{Place}
use Rattle.at_jrag.specs.Syntax.{Word, KindWord, Body, DeclForm}
use Rattle.at_jrag.specs.Syntax as written
use Rattle.at_kinds.specs.declared.arguments.Arguments.{Arguments}
use Rattle.at_kinds.specs.Accessors.{accessed, is_got, shape_of}
use Rattle.at_typing.specs.Declaring.{is_attribute, is_inherited, is_own_equation, getter_in, params_in, body_in, class_text, name_text, synthesized_named, inherited_named, is_synthesized_by, is_below, attributes}
use Rattle.at_kinds.specs.Judging.{Judgement, Is, Wrong, and_then}
use Rattle.at_typing.specs.Located.{Located, class_word}
use Rattle.at_typing.specs.Meanings.{Meaning, attribute, attribute_meant, own_equation, own_meant, inherited_equation, inherited_meant, body_meant, body_if, signatures, with_body, form_meant, synthesized_meant, meant}
use Rattle.at_typing.specs.Ruling.{or_unknown, class_named, kind_named, params_named, component_got, component_at, is_component, index_of_list}
use Rattle.at_kinds.specs.Signatures.{Declared}
use Rattle.at_kinds.specs.declared.code.RuleCode.{RuleCode}
use Rattle.at_kinds.specs.declared.code.RuleCode.TheVariants as code

abbrev pub OfAttribute : Classes → Located → Attribute → Type 0
OfAttribute classes d a = (is_attribute d.decl.form ≡ true) × (class_of_name classes (class_text d) ≡ Some a.class) × (a.name ≡ name_text d) × (is_inherited d.decl.form ≡ a.is_inherited)

abbrev pub OfOwn : Classes → List Located → Located → OwnEquation → Type 0
OfOwn classes ds d e = (is_own_equation d.decl.form ≡ true) × (class_of_name classes (class_text d) ≡ Some e.class) × (synthesized_named classes ds (class_text d) (name_text d) ≡ Some e.attribute)

abbrev pub OfInherited : Classes → Located → InheritedEquation → Type 0
OfInherited classes d e = (g : Word) × (getter_in d.decl.form ≡ Some g) × (class_of_name classes (class_text d) ≡ Some e.class) × (component_got classes e.class g ≡ Is e.part) × (e.name ≡ name_text d)

pub record IsOf (classes : Classes) (ds : List Located) (d : Located) (m : Meaning) : Type 0 where
  pub declares : is_some m.attribute ≡ is_attribute d.decl.form
  pub attribute : IfSome m.attribute (OfAttribute classes d)
  pub own : IfSome m.own (OfOwn classes ds d)
  pub inherited : IfSome m.inherited (OfInherited classes d)

-- judgements -----------------------------------------------------------------------------------------------------------

abbrev is_right : {A : Type 0} → Judgement A → Bool
is_right (Is a) = true
is_right (Wrong c at) = false

wrong-is : {A B : Type 0} {c : RuleCode} {at : Place} (a : A) → Wrong c at ≡ Is a → B
wrong-is a is = absurd (true≢false (sym (ap is_right is)))

abbrev right_or : {A : Type 0} → A → Judgement A → A
right_or a (Is x) = x
right_or a (Wrong c at) = a

is-is : {A : Type 0} (a b : A) → Is a ≡ Is b → a ≡ b
is-is a b is = ap (right_or a) is

abbrev Part : {A B : Type 0} → (A → Judgement B) → Judgement A → B → Type 0
Part {A} f j m = (a : A) × (j ≡ Is a) × (f a ≡ Is m)

part_of : {A B : Type 0} (f : A → Judgement B) (j : Judgement A) (m : B) → and_then f j ≡ Is m → Part f j m
part_of f (Is a) m is = (a, refl, is)
part_of f (Wrong c at) m is = wrong-is m is

known : {A : Type 0} (at : Place) (o : Option A) (a : A) → or_unknown at o ≡ Is a → o ≡ Some a
known at None a is = wrong-is a is
known at (Some b) a is = ap Some (is-is b a is)

-- attributes and equations ---------------------------------------------------------------------------------------------

attribute_of_words : (allowed : Arguments) (classes : Classes) (d : Located) (result : KindWord) (a : Attribute)
    → is_attribute d.decl.form ≡ true → attribute_meant allowed classes d result ≡ Is a → OfAttribute classes d a
attribute_of_words allowed classes d result a declares is =
    let first = part_of _ (kind_named classes result) a is in
    let second = part_of _ (class_named classes (class_word d.decl.form)) a first.2 in
    let third = part_of _ (params_named allowed classes 0 (params_in d.decl.form).items) a second.2 in
    let same : attribute d second.0 first.0 third.0 ≡ a = is-is _ a third.2 in (
      declares,
      known (class_word d.decl.form).at (class_of_name classes (class_text d)) second.0 second.1
          ∙ ap (λ (x : Attribute). Some x.class) same,
      sym (ap (λ (x : Attribute). x.name) same),
      ap (λ (x : Attribute). x.is_inherited) same,
    )

numbered_by : (allowed : Arguments) (classes : Classes) (declared : List Declared) (c : ℕ) (d : Located) (body : Body)
    (o : Option ℕ) (p : ℕ × Expr) → body_meant allowed classes declared c d body o ≡ Is p → o ≡ Some p.0
numbered_by allowed classes declared c d body None p is = wrong-is p is
numbered_by allowed classes declared c d body (Some a) p is = let found =
    part_of (λ e. Is (a, e)) (body_if allowed classes declared c d
    body (slice_get declared a)) p is in ap (λ (x : ℕ × Expr). Some x.0) (is-is (a, found.0) p found.2)

own_of_words : (allowed : Arguments) (classes : Classes) (ds : List Located) (d : Located) (body : Body) (c : ℕ)
    (e : OwnEquation)
    → is_own_equation d.decl.form ≡ true → class_of_name classes (class_text d) ≡ Some c
    → own_meant allowed classes ds d body c ≡ Is e → OfOwn classes ds d e
own_of_words allowed classes ds d body c e has class is =
    let found = part_of _ (body_meant allowed classes (signatures classes ds) c d body
    (synthesized_named classes ds (class_text d) (name_text d))) e is in
    let same : own_equation c found.0 ≡ e = is-is _ e found.2 in (
      has,
      class ∙ ap (λ (x : OwnEquation). Some x.class) same,
      numbered_by allowed classes (signatures classes ds) c d body
          (synthesized_named classes ds (class_text d) (name_text d)) found.0 found.1
          ∙ ap (λ (x : OwnEquation). Some x.attribute) same,
    )

inherited_of_words : (allowed : Arguments) (classes : Classes) (ds : List Located) (d : Located) (index : Option Word)
    (body : Body) (c : ℕ)
    (g : Word) (part : Option ℕ) (e : InheritedEquation) → getter_in d.decl.form ≡ Some g
    → class_of_name classes (class_text d) ≡ Some c → component_got classes c g ≡ Is part
    → inherited_meant allowed classes ds d index body c part ≡ Is e → OfInherited classes d e
inherited_of_words allowed classes ds d index body c g part e gets class got is =
    let first = part_of _ (index_of_list classes c part index) e is in
    let second = part_of _ (body_meant allowed classes (signatures classes ds) c d body
    (inherited_named ds (name_text d))) e first.2 in
    let same : inherited_equation d c part second.0.1 ≡ e = is-is _ e second.2 in (
      g,
      gets,
      class ∙ ap (λ (x : InheritedEquation). Some x.class) same,
      subst (λ (x : InheritedEquation).
          component_got classes x.class g ≡ Is x.part) same got,
      sym (ap (λ (x : InheritedEquation). x.name) same),
    )

-- declarations ---------------------------------------------------------------------------------------------------------

moved : (classes : Classes) (ds : List Located) (d : Located) (m n : Meaning) → Is m ≡ Is n → IsOf classes ds d m → IsOf classes ds d n
moved classes ds d m n is of = subst (IsOf classes ds d) (is-is m n is) of

synthesized_of : (allowed : Arguments) (classes : Classes) (ds : List Located) (d : Located) (result : KindWord)
    (m : Meaning)
    → is_attribute d.decl.form ≡ true → getter_in d.decl.form ≡ None
    → synthesized_meant allowed classes ds d result ≡ Is m
    → IsOf classes ds d m
synthesized_of allowed classes ds d result m declares none is =
    let found = part_of _ (attribute_meant allowed classes d result) m is in
    let of = attribute_of_words allowed classes d result found.0 declares found.1 in
    by found.0 of (body_in d.decl.form) refl found.2
  where
    by : (a : Attribute) → OfAttribute classes d a → (o : Option Body) → body_in d.decl.form ≡ o
        → with_body allowed classes ds d o a ≡ Is m → IsOf classes ds d m
    by a of None at rest = moved classes ds d _ m rest (record { declares = sym declares; attribute = of; own = tt; inherited = tt })
    by a of (Some body) at rest =
        let found = part_of _ (own_meant allowed classes ds d body a.class) m rest in
        let has : is_own_equation d.decl.form ≡ true = ap (λ x. is_some x && not (is_some (getter_in d.decl.form))) at ∙ ap (λ (x : Option Word). not (is_some x)) none in
        moved classes ds d _ m found.2 (record {
          declares = sym declares;
          attribute = of;
          own =
              own_of_words allowed classes ds d body a.class found.0 has of.1 found.1;
          inherited = tt;
        })

of_form : (allowed : Arguments) (classes : Classes) (ds : List Located) (d : Located) (m : Meaning) (form : DeclForm)
    → d.decl.form ≡ form → form_meant allowed classes ds d form ≡ Is m → IsOf classes ds d m
of_form allowed classes ds d m (written.Synthesized lazy result class name params start ending) at is =
    synthesized_of allowed classes ds d result m (ap is_attribute at) (ap getter_in at) is
of_form allowed classes ds d m (written.Inherited lazy result class name params start) at is =
    let found = part_of _ (attribute_meant allowed classes d result) m is in
    moved classes ds d _ m found.2 (record {
      declares = sym (ap is_attribute at);
      attribute =
          attribute_of_words allowed classes d result found.0 (ap is_attribute at) found.1;
      own = tt;
      inherited = tt;
    })
of_form allowed classes ds d m (written.Equation class name params body) at is =
    let first = part_of _ (class_named classes class) m is in
    let second = part_of _ (own_meant allowed classes ds d body first.0) m first.2 in
    let of_class = ap (λ f. class_of_name classes (class_word f).text) at ∙ known class.at (class_of_name classes class.text) first.0 first.1 in
    moved classes ds d _ m second.2 (record {
      declares = sym (ap is_attribute at);
      attribute = tt;
      own =
          own_of_words allowed classes ds d body first.0 second.0 (ap is_own_equation at) of_class second.1;
      inherited = tt;
    })
of_form allowed classes ds d m (written.InheritedEquation class getter index name params body) at is =
    let first = part_of _ (class_named classes class) m is in
    let second = part_of _ (component_got classes first.0 getter) m first.2 in
    let third = part_of _ (inherited_meant allowed classes ds d index body first.0 second.0) m second.2 in
    let of_class = ap (λ f. class_of_name classes (class_word f).text) at ∙ known class.at (class_of_name classes class.text) first.0 first.1 in
    moved classes ds d _ m third.2
    (record {
      declares = sym (ap is_attribute at);
      attribute = tt;
      own = tt;
      inherited = inherited_of_words allowed classes
          ds d index body first.0 getter second.0 third.0 (ap getter_in at) of_class second.1 third.1;
    })

pub of_words : (allowed : Arguments) (classes : Classes) (ds : List Located) (d : Located) (m : Meaning)
    → meant allowed classes ds d ≡ Is m → IsOf classes ds d m
of_words allowed classes ds d m is = of_form allowed classes ds d m d.decl.form refl is

-- the same of two declarations -----------------------------------------------------------------------------------------

passed : {A : Type 0} (p : A → Bool) (xs : List A) (i : ℕ) → position p xs ≡ Some i → (x : A) × (p x ≡ true) × ((q : A → Bool) → position q xs ≡ Some i → q x ≡ true)
passed p [] i is = absurd (none-some i is)
passed p (x ∷ xs) i is = (get_or (x ∷ xs) i x, (position-Some p (x ∷ xs) i x is).1, λ q at. (position-Some q (x ∷ xs) i x at).1)

pub second_of : (a b : Bool) → (a && b) ≡ true → b ≡ true
second_of true b is = is
second_of false b is = absurd (true≢false (sym is))

pub first_of : (a b : Bool) → (a && b) ≡ true → a ≡ true
first_of true b is = refl
first_of false b is = is

pub same_class_text : (classes : Classes) (v w : List ℕ) (c : ℕ) → class_of_name classes v ≡ Some c → class_of_name classes w ≡ Some c → v ≡ w
same_class_text classes v w c is at =
    let found = passed (λ (k : Class). bytes_eq v k.name) classes c is in
    (bytes_eq-Decides v found.0.name).0 found.1 ∙ sym ((bytes_eq-Decides w found.0.name).0 (found.2 (λ (k : Class). bytes_eq w k.name) at))

pub same_name_text : (classes : Classes) (ds : List Located) (v w n p : List ℕ) (a : ℕ) → synthesized_named classes ds v n ≡ Some a → synthesized_named classes ds w p ≡ Some a → n ≡ p
same_name_text classes ds v w n p a is at =
    let found = passed (is_synthesized_by classes v n) (attributes ds) a is in
    let declared = not (is_inherited found.0.decl.form) in
    let here = first_of (bytes_eq n (name_text found.0)) (is_below classes v (class_text found.0))
    (second_of declared (bytes_eq n (name_text found.0) && is_below classes v (class_text found.0)) found.1) in
    let there = first_of (bytes_eq p (name_text found.0)) (is_below classes w (class_text found.0))
    (second_of declared (bytes_eq p (name_text found.0) && is_below classes w (class_text found.0))
    (found.2 (is_synthesized_by classes w p) at)) in
    (bytes_eq-Decides n (name_text found.0)).0 here ∙ sym ((bytes_eq-Decides p (name_text found.0)).0 there)

got_at : (classes : Classes) (c : ℕ) (at : Place) (o : Option ℕ) (part : Option ℕ) → component_at classes c at o ≡ Is part → (k : ℕ) × (o ≡ Some k) × (part ≡ Some k)
got_at classes c at None part is = wrong-is part is
got_at classes c at (Some k) part is = by (is_component (shape_of (parts classes c) k)) is
  where
    by : (b : Bool) → cond b (Is (Some k)) (Wrong code.UnknownName at) ≡ Is part → (k' : ℕ) × (Some k ≡ Some k') × (part ≡ Some k')
    by true is = (k, refl, sym (is-is (Some k) part is))
    by false is = wrong-is part is

-- the getters of one component are written the same
pub same_getter : (classes : Classes) (c : ℕ) (g h : Word) (part : Option ℕ) → component_got classes c g ≡ Is part → component_got classes c h ≡ Is part → g.text ≡ h.text
same_getter classes c g h part is at = by (bytes_eq g.text (codes "getChild")) refl (bytes_eq h.text (codes "getChild")) refl is at
  where
    each_one : (a b : Bool) → bytes_eq g.text (codes "getChild") ≡ a → bytes_eq h.text (codes "getChild") ≡ b → a ≡ true → b ≡ true → g.text ≡ h.text
    each_one a b e f x y = (bytes_eq-Decides g.text (codes "getChild")).0 (e ∙ x) ∙ sym ((bytes_eq-Decides h.text (codes "getChild")).0 (f ∙ y))

    by : (a : Bool) → bytes_eq g.text (codes "getChild") ≡ a → (b : Bool) → bytes_eq h.text (codes "getChild") ≡ b
        → cond a (Is None) (component_at classes c g.at (accessed classes c g.text)) ≡ Is part → cond b (Is None) (component_at classes c h.at (accessed classes c h.text)) ≡ Is part → g.text ≡ h.text
    by true e true f is at = each_one true true e f refl refl
    by true e false f is at = let found = got_at classes c h.at (accessed classes c h.text) part at in absurd (none-some found.0 (is-is None part is ∙ found.2))
    by false e true f is at = let found = got_at classes c g.at (accessed classes c g.text) part is in absurd (none-some found.0 (is-is None part at ∙ found.2))
    by false e false f is at =
        let one = got_at classes c g.at (accessed classes c g.text) part is in
        let other = got_at classes c h.at (accessed classes c h.text) part at in
        let component = passed (is_got g.text) (parts classes c) one.0 one.1 in
        let here = (bytes_eq-Decides g.text (codes "get" ++ component.0.name)).0 component.1 in
        let there = (bytes_eq-Decides h.text (codes "get" ++ component.0.name)).0 (component.2 (is_got h.text) (other.1 ∙ sym other.2 ∙ one.2)) in
        here ∙ sym there
