-- Attributes that are declared without a fault have the kinds that are written.
use Rattle.std.proofs.Common.{◌≡◌, ℕ, zero, suc, ◌+◌, ◌<◌, ◌≤◌, Bool, true, false, ◌&&◌, ◌||◌, List, [], ◌∷◌, ◌++◌, length, map, Option, Some, None, refl, sym, ap, ◌∙◌, subst, true≢false, arith}
use Rattle.std.specs.Prelude.{⊤, cond, is_some, nat_lt}
use Rattle.std.specs.List.{slice_get, AllZip, AllByRecursion, filter_map, cons_option, flat_map}
use Rattle.std.specs.Str.{bytes_eq}
use Rattle.std.proofs.lemmas.Bool.{ltb-true}
use Rattle.std.proofs.lemmas.List.Concat.{flat_map-cons}
use Rattle.std.proofs.lemmas.Option.{none-some}
use Rattle.at_model.specs.Classes.{Class, Classes, class_of_name}
use Rattle.at_model.specs.Declarations.{first_given}
use Rattle.at_model.specs.Rules.{Attribute, Truth}
use Rattle.at_model.specs.Kinds.{IsKindThere, IsParameter, IsDeclarationTyped}
use Rattle.at_model.proofs.Options.{both, mapped}
use Rattle.at_jrag.specs.Syntax.{KindWord, Param, DeclForm}
use Rattle.at_jrag.specs.Syntax as written
use Rattle.at_rules.specs.Bodies.{kind_view}
use Rattle.at_rules.specs.declared.body.Kind.{Kind}
use Rattle.at_rules.specs.declared.body.Kind.TheVariants as kind
use Rattle.at_typing.specs.Building.{meaning_if, meanings, refusal, refused_at}
use Rattle.at_typing.specs.Declaring.{attributes, is_attribute, is_inherited, is_lazy, start_in, result_in, params_in, class_text, name_text, IsNotCircular}
use Rattle.at_kinds.specs.declared.arguments.Arguments.{Arguments}
use Rattle.at_kinds.specs.declared.arguments.Arguments.TheVariants.{Given, Computed}
use Rattle.at_kinds.specs.Judging.{Judgement, Is, Wrong, and_then}
use Rattle.at_typing.specs.Located.{Located, class_word}
use Rattle.at_typing.specs.Meanings.{Meaning, attribute, attribute_with, attribute_for, attribute_meant, results, signature, signature_if, signatures, signatures_among, meant, with_body, below_class, below_component, form_meant, own_meant, inherited_meant, declared_alone, declared_with, own_alone, inherited_alone}
use Rattle.at_typing.specs.Ruling.{known_kind, as_written, first_unless, written_kind, or_unknown, class_named, kind_named, max_parameters, can_be_passed, passed_if, param_named, params_named, component_got}
use Rattle.at_kinds.specs.declared.signatures.WrittenKind.{WrittenKind}
use Rattle.at_typing.proofs.Gathering.{first_none, other_none}
use Rattle.at_typing.proofs.Starting.{IsBoolean, IsBooleanIn}
use Rattle.at_kinds.proofs.Holding.{Holds, then_holds, none_holds}
use Rattle.at_kinds.proofs.KindsKnown.{IsKind, IsDeclaredAs, element_found}

-- what is named ---------------------------------------------------------------------------------------------------------

pub class_there : (classes : Classes) (word : List ℕ) (c : ℕ) → class_of_name classes word ≡ Some c → c < length classes
class_there classes word c is = (element_found (λ (k : Class). bytes_eq word k.name) classes c is).3

pub class_named_right : (classes : Classes) (word : written.Word) → Holds (λ c. class_of_name classes word.text ≡ Some c) (class_named classes word)
class_named_right classes word = by (class_of_name classes word.text) refl
  where
    by : (o : Option ℕ) → class_of_name classes word.text ≡ o → Holds (λ c. class_of_name classes word.text ≡ Some c) (or_unknown word.at o)
    by None is = tt
    by (Some c) is = is

-- the kind is the one that is written, and a class that it names is there
pub record IsNamed (classes : Classes) (word : KindWord) (k : Kind) : Type 0 where
  pub known : (first : Option ℕ) → IsKind (as_written first (known_kind classes word.kind)) (kind_view k)
  pub there : IsKindThere classes (kind_view k)

kind_there : (classes : Classes) (w : written.Kind) (k : Kind) → known_kind classes w ≡ Some k → IsKindThere classes (kind_view k)
kind_there classes w kind.Int is = tt
kind_there classes w kind.Bool is = tt
kind_there classes w kind.Text is = tt
kind_there classes written.Int (kind.Class c) is = absurd (cc)
kind_there classes written.Bool' (kind.Class c) is = absurd (cc)
kind_there classes written.Text (kind.Class c) is = absurd (cc)
kind_there classes (written.Class name) (kind.Class c) is =
    let (b, named, same) = mapped kind.Class (class_of_name classes name) (kind.Class c) is in
    let e : b ≡ c = cc in
    subst (λ n. n < length classes) e (class_there classes name b named)

pub kind_named_right : (classes : Classes) (word : KindWord) → Holds (IsNamed classes word) (kind_named classes word)
kind_named_right classes word = by (known_kind classes word.kind) refl
  where
    by : (o : Option Kind) → known_kind classes word.kind ≡ o → Holds (IsNamed classes word) (or_unknown word.at o)
    by None is = tt
    by (Some k) is = record { known = λ first. subst (λ o. IsKind (as_written first o) (kind_view k)) (sym is) refl; there = kind_there classes word.kind k is }

-- what is written as a boolean is one
truth_named : (classes : Classes) (word : KindWord) (k : Kind) → IsNamed classes word k → word.kind ≡ written.Bool'
    → kind_view k ≡ Truth
truth_named classes word k named is =
    sym (subst (λ w. IsKind (as_written None (known_kind classes w)) (kind_view k)) is (named.known None))

-- parameters ------------------------------------------------------------------------------------------------------------

-- it is named, can be passed, and is among the first ones
pub record IsPassed (allowed : Arguments) (classes : Classes) (i : ℕ) (p : Param) (k : Kind) : Type 0 where
  pub named : IsNamed classes p.kind k
  pub passed : IsParameter classes (kind_view k)
  pub early : i < max_parameters allowed

passed_there : (classes : Classes) (k : Kind) → IsKindThere classes (kind_view k) → IsParameter classes (kind_view k)
passed_there classes kind.Int there = tt
passed_there classes kind.Bool there = tt
passed_there classes kind.Text there = tt
passed_there classes (kind.Class c) there = there

pub param_named_right : (allowed : Arguments) (classes : Classes) (i : ℕ) (p : Param)
    → Holds (IsPassed allowed classes i p) (param_named allowed classes i p)
param_named_right allowed classes i p = then_holds (IsNamed classes p.kind) (IsPassed allowed classes i p)
    (λ k. passed_if (can_be_passed allowed k && nat_lt i (max_parameters allowed)) p.kind.at k)
    (kind_named classes p.kind)
    (kind_named_right classes p.kind) (λ k named. by k named (can_be_passed allowed k && nat_lt i
    (max_parameters allowed)) refl)
  where
    by : (k : Kind) → IsNamed classes p.kind k → (b : Bool) →
        (can_be_passed allowed k && nat_lt i (max_parameters allowed)) ≡ b
        → Holds (IsPassed allowed classes i p) (passed_if b p.kind.at k)
    by k named true is =
        let (passes, early) = both (can_be_passed allowed k) (nat_lt i (max_parameters allowed)) is in
        record {
          named = named;
          passed = passed_there classes k named.there;
          early =
              ltb-true i (max_parameters allowed) early;
        }
    by k named false is = tt

abbrev pub written_kinds : Classes → (words : List KindWord) → List Param → List WrittenKind
written_kinds classes words ps = map (λ p. written_kind classes words p.kind.kind) ps

pub record ArePassed (allowed : Arguments) (classes : Classes) (i : ℕ) (ps : List Param) (ks : List Kind) : Type 0 where
  pub named : (words : List KindWord) → AllZip IsKind (written_kinds classes words ps) (map kind_view ks)
  pub passed : AllByRecursion (IsParameter classes) (map kind_view ks)
  pub few : i ≤ max_parameters allowed → i + length (map kind_view ks) ≤ max_parameters allowed

pub params_named_right : (allowed : Arguments) (classes : Classes) (i : ℕ) (ps : List Param)
    → Holds (ArePassed allowed classes i ps) (params_named allowed classes i ps)
params_named_right allowed classes i [] = record { named = λ words. tt; passed = tt; few = λ less. omega (arith, less) }
params_named_right allowed classes i (p ∷ ps) =
    then_holds (IsPassed allowed classes i p) (ArePassed allowed classes i (p ∷ ps)) (λ k. and_then (λ ks. Is (k ∷ ks))
    (params_named allowed classes (i + 1) ps)) (param_named allowed classes i p) (param_named_right allowed classes i p)
    (λ k first.
    then_holds (ArePassed allowed classes (i + 1) ps) (ArePassed allowed classes i (p ∷ ps)) (λ ks. Is (k ∷ ks))
    (params_named allowed classes (i + 1) ps) (params_named_right allowed classes (i + 1) ps) (λ ks rest.
    record {
      named = λ words. (first.named.known (first_unless (is_some (known_kind classes p.kind.kind)) words p.kind.kind), rest.named words);
      passed = (first.passed, rest.passed);
      few = λ less. counted i (length (map kind_view ks)) (max_parameters allowed) first.early rest.few;
    }))
  where
    counted : (i n most : ℕ) → i < most → (i + 1 ≤ most → (i + 1) + n ≤ most) → i + suc n ≤ most
    counted i n most early few = let h = few (omega (arith, early)) in omega (arith, h)

-- attributes ------------------------------------------------------------------------------------------------------------

-- the attribute is the one that is declared with that kind
pub record IsOfWord (classes : Classes) (d : Located) (result : KindWord) (a : Attribute) : Type 0 where
  pub declared : (words : List KindWord) → IsDeclaredAs (signature classes words d result) a
  pub typed : IsBoolean (Some result) (start_in d.decl.form) → IsDeclarationTyped classes a
  pub same_name : name_text d ≡ a.name
  pub inherits : is_inherited d.decl.form ≡ a.is_inherited
  pub starts : start_in d.decl.form ≡ a.start
  pub keeps : is_lazy d.decl.form ≡ a.is_lazy

few_parameters : (allowed : Arguments) (n : ℕ) → 0 + n ≤ max_parameters allowed → n ≤ 4
unfolding max_parameters
few_parameters Given n less = omega (arith, less)
few_parameters Computed n less = omega (arith, less)

within : (n : ℕ) → 0 ≤ n
within n = omega arith

pub attribute_right : (allowed : Arguments) (classes : Classes) (d : Located) (result : KindWord)
    → Holds (IsOfWord classes d result) (attribute_meant allowed classes d result)
attribute_right allowed classes d result =
    then_holds (IsNamed classes result) (IsOfWord classes d result) (attribute_for allowed classes d)
    (kind_named classes result) (kind_named_right classes result) (λ k named.
    then_holds (λ c. class_of_name classes (class_text d) ≡ Some c) (IsOfWord classes d result)
    (attribute_with allowed classes d k) (class_named classes (class_word d.decl.form))
    (class_named_right classes (class_word d.decl.form)) (λ c class.
    then_holds (ArePassed allowed classes 0 (params_in d.decl.form).items) (IsOfWord classes d result)
    (λ params. Is (attribute d c k params)) (params_named allowed classes 0 (params_in d.decl.form).items)
    (params_named_right allowed classes 0 (params_in d.decl.form).items) (λ ks passed.
    record {
      declared = λ words. record { class = class; parameters = passed.named words; result = named.known (first_unless (is_some (known_kind classes result.kind)) words result.kind) };
      typed = λ boolean. record {
        class = class_there classes (class_text d) c class;
        result = named.there;
        parameters = passed.passed;
        few = few_parameters allowed (length (map kind_view ks)) (passed.few (within (max_parameters allowed)));
        boolean = λ b at. truth_named classes result k named (boolean result b refl at);
      };
      same_name = refl;
      inherits = refl;
      starts = refl;
      keeps = refl;
    })))

-- the attribute of a declaration that has none, or the one that it declares
abbrev pub IsMeant : Classes → Located → Option KindWord → Option Attribute → Type 0
IsMeant classes d None None = ⊤
IsMeant classes d None (Some a) = ⊥
IsMeant classes d (Some result) None = ⊥
IsMeant classes d (Some result) (Some a) = IsOfWord classes d result a

abbrev Means' : Classes → Located → DeclForm → Meaning → Type 0
Means' classes d form m = IsMeant classes d (result_in form) m.attribute

form_right : (allowed : Arguments) (classes : Classes) (ds : List Located) (d : Located) (form : DeclForm)
    → Holds (Means' classes d form) (form_meant allowed classes ds d form)
form_right allowed classes ds d (written.Synthesized lazy result class name params start ending) =
    then_holds (IsOfWord classes d result) (λ (m : Meaning). IsMeant classes d (Some result) m.attribute)
    (with_body allowed
    classes ds d _) (attribute_meant allowed classes d result) (attribute_right allowed classes d result)
    (λ a of. by a of _)
  where
    by : (a : Attribute) → IsOfWord classes d result a → (o : Option written.Body)
        → Holds (λ (m : Meaning). IsMeant classes d (Some result) m.attribute) (with_body allowed classes ds d o a)
    by a of None = of
    by a of (Some body) = none_holds (λ (m : Meaning). IsMeant classes d (Some result) m.attribute) (declared_with a)
        (own_meant allowed classes ds d body a.class) (λ e. of)
form_right allowed classes ds d (written.Inherited lazy result class name params start) =
    then_holds (IsOfWord classes d result) (λ (m : Meaning). IsMeant classes d (Some result) m.attribute) declared_alone
    (attribute_meant allowed classes d result) (attribute_right allowed classes d result) (λ a of. of)
form_right allowed classes ds d (written.Equation class name params body) =
    none_holds (λ (m : Meaning). IsMeant classes d None m.attribute)
    (λ c. and_then own_alone (own_meant allowed classes ds d body c)) (class_named classes class) (λ c.
    none_holds (λ (m : Meaning). IsMeant classes d None m.attribute) own_alone (own_meant allowed classes ds d body c)
    (λ e. tt))
form_right allowed classes ds d (written.InheritedEquation class getter index name params body) =
    none_holds (λ (m : Meaning). IsMeant classes d None m.attribute)
    (below_class allowed classes ds d getter index body) (class_named classes class) (λ c.
    none_holds (λ (m : Meaning). IsMeant classes d None m.attribute) (below_component allowed classes ds d index body c)
    (component_got classes c getter) (λ part.
    none_holds (λ (m : Meaning). IsMeant classes d None m.attribute) inherited_alone
    (inherited_meant allowed classes ds d index body c part) (λ e. tt)))

-- all of them -----------------------------------------------------------------------------------------------------------

-- the declaration declares the attribute
abbrev pub Declares : Classes → Located → Attribute → Type 0
Declares classes d a = (result : KindWord) × (result_in d.decl.form ≡ Some result) × IsOfWord classes d result a

declares_result : (form : DeclForm) → is_some (result_in form) ≡ is_attribute form
declares_result (written.Synthesized lazy result class name params start ending) = refl
declares_result (written.Inherited lazy result class name params start) = refl
declares_result (written.Equation class name params body) = refl
declares_result (written.InheritedEquation class getter index name params body) = refl

-- where no declaration has a fault, the attributes are those that are declared
pub all_declared : (allowed : Arguments) (classes : Classes) (all : List Located) (k : ℕ) (some : List Located)
    → first_given (refused_at allowed classes all) k some ≡ None → AllZip (Declares classes) (attributes some)
    (filter_map (λ (m : Meaning). m.attribute) (meanings allowed classes all some))
all_declared allowed classes all k [] none = tt
all_declared allowed classes all k (d ∷ ds) none = by (meant allowed classes all d) refl
    (form_right allowed classes all d d.decl.form)
    (first_none (refused_at allowed classes all k d) _ none)
    (all_declared allowed classes all (k + 1) ds (other_none (refused_at allowed classes all k d) _ none))
  where
    with_one : (r : Option KindWord) → result_in d.decl.form ≡ r → (o : Option Attribute) → IsMeant classes d r o
        → (xs : List Located) (ys : List Attribute) → AllZip (Declares classes) xs ys
        → AllZip (Declares classes) (cond (is_some r) (d ∷ xs) xs) (cons_option o ys)
    with_one None at None is xs ys rest = rest
    with_one None at (Some a) is xs ys rest = absurd is
    with_one (Some result) at None is xs ys rest = absurd is
    with_one (Some result) at (Some a) is xs ys rest = ((result, at, is), rest)

    by : (j : Judgement Meaning) → meant allowed classes all d ≡ j → Holds (Means' classes d d.decl.form) j
        → refusal d j ≡ None → AllZip (Declares classes) (attributes ds)
        (filter_map (λ (m : Meaning). m.attribute) (meanings allowed classes all ds))
        → AllZip (Declares classes) (cond (is_attribute d.decl.form) (d ∷ attributes ds) (attributes ds))
        (filter_map (λ (m : Meaning). m.attribute) (cons_option (meaning_if j) (meanings allowed classes all ds)))
    by (Is m) is holds faultless rest =
        subst (λ b. AllZip (Declares classes) (cond b (d ∷ attributes ds) (attributes ds)) (cons_option m.attribute
        (filter_map (λ (m : Meaning). m.attribute) (meanings allowed classes all ds)))) (declares_result d.decl.form)
        (with_one (result_in d.decl.form) refl m.attribute holds (attributes ds) _ rest)
    by (Wrong c at) is holds faultless rest = absurd (none-some _ (sym faultless))

-- what is declared of attributes is what they are
among_same : (classes : Classes) (words : List KindWord) (ds : List Located) (as' : List Attribute)
    → AllZip (Declares classes) (attributes ds) as' → AllZip IsDeclaredAs (signatures_among classes words ds) as'
among_same classes words [] as' zip = by as' zip
  where
    by : (as' : List Attribute) → AllZip (Declares classes) [] as' → AllZip IsDeclaredAs (signatures_among classes words []) as'
    by [] zip = tt
    by (a ∷ as') zip = absurd zip
among_same classes words (d ∷ ds) as' zip =
    subst (λ xs. AllZip IsDeclaredAs xs as') (sym (flat_map-cons (λ d. signature_if classes words d (result_in d.decl.form)) d ds))
    (by (result_in d.decl.form) refl as' (subst (λ b. AllZip (Declares classes) (cond b (d ∷ attributes ds)
    (attributes ds)) as') (sym (declares_result d.decl.form)) zip) (among_same classes words ds))
  where
    by : (r : Option KindWord) → result_in d.decl.form ≡ r → (as' : List Attribute)
        → AllZip (Declares classes) (cond (is_some r) (d ∷ attributes ds) (attributes ds)) as' → ((bs : List Attribute)
        → AllZip (Declares classes) (attributes ds) bs → AllZip IsDeclaredAs (signatures_among classes words ds) bs)
        → AllZip IsDeclaredAs (signature_if classes words d r ++ signatures_among classes words ds) as'
    by None at as' zip rest = rest as' zip
    by (Some result) at [] zip rest = absurd zip
    by (Some result) at (a ∷ as') zip rest =
        let e : zip.0.0 ≡ result = let f : Some zip.0.0 ≡ Some result = sym zip.0.1 ∙ at in cc in
        (subst (λ r. IsDeclaredAs (signature classes words d r) a) e (zip.0.2.declared words), rest as' zip.1)

pub signatures_same : (classes : Classes) (ds : List Located) (as' : List Attribute) → AllZip (Declares classes) (attributes ds) as' → AllZip IsDeclaredAs (signatures classes ds) as'
signatures_same classes ds as' zip = among_same classes (results ds) ds as' zip

-- so the rules' attributes are typed
pub all_typed : (classes : Classes) (ds : List Located) (as' : List Attribute) → AllByRecursion IsBooleanIn ds
    → AllZip (Declares classes) ds as'
    → AllByRecursion (IsDeclarationTyped classes) as'
all_typed classes [] [] booleans zip = tt
all_typed classes [] (a ∷ as') booleans zip = absurd zip
all_typed classes (d ∷ ds) [] booleans zip = absurd zip
all_typed classes (d ∷ ds) (a ∷ as') (boolean, booleans) ((result, at, of), zip) =
    (of.typed (subst (λ r. IsBoolean r (start_in d.decl.form)) at boolean), all_typed classes ds as' booleans zip)

-- where none has a start, none of them is circular
pub none_starts : (classes : Classes) (ds : List Located) (as' : List Attribute) → AllByRecursion IsNotCircular ds
    → AllZip (Declares classes) ds as'
    → (n : ℕ) → elim (slice_get as' n) as (λ _. Option Bool) [ None ↦ None | Some a ↦ a.start ] ≡ None
none_starts classes [] [] none zip n = refl
none_starts classes [] (a ∷ as') none zip n = absurd zip
none_starts classes (d ∷ ds) [] none zip n = absurd zip
none_starts classes (d ∷ ds) (a ∷ as') (none, others) zip zero = sym zip.0.2.starts ∙ none
none_starts classes (d ∷ ds) (a ∷ as') (none, others) zip (suc n) = none_starts classes ds as' others zip.1 n

or_on : (b : Bool) → (b || true) ≡ true
or_on true = refl
or_on false = refl

-- one that is declared with a start is lazy
lazy_form : (form : DeclForm) (b : Bool) → start_in form ≡ Some b → is_lazy form ≡ true
lazy_form (written.Synthesized lazy result class name params start ending) b is =
    ap (λ o. is_some lazy || is_some o) is ∙ or_on (is_some lazy)
lazy_form (written.Inherited lazy result class name params start) b is =
    ap (λ o. is_some lazy || is_some o) is ∙ or_on (is_some lazy)
lazy_form (written.Equation class name params body) b is = absurd (none-some b is)
lazy_form (written.InheritedEquation class getter index name params body) b is = absurd (none-some b is)

pub circular_lazy : (classes : Classes) (ds : List Located) (as' : List Attribute) → AllZip (Declares classes) ds as'
    → (n : ℕ) (b : Bool)
    → elim (slice_get as' n) as (λ _. Option Bool) [ None ↦ None | Some a ↦ a.start ] ≡ Some b
    → elim (slice_get as' n) as (λ _. Bool) [ None ↦ false | Some a ↦ a.is_lazy ] ≡ true
circular_lazy classes [] [] zip n b is = absurd (none-some b is)
circular_lazy classes [] (a ∷ as') zip n b is = absurd zip
circular_lazy classes (d ∷ ds) [] zip n b is = absurd zip
circular_lazy classes (d ∷ ds) (a ∷ as') zip zero b is =
    sym zip.0.2.keeps ∙ lazy_form d.decl.form b (zip.0.2.starts ∙ is)
circular_lazy classes (d ∷ ds) (a ∷ as') zip (suc n) b is = circular_lazy classes ds as' zip.1 n b is
