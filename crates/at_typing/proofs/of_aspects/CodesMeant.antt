-- What is told of a declaration by itself is a name that isn't there, a wrong argument or a wrong kind: that its attribute isn't declared
-- is told before.
use Rattle.std.proofs.Common.{◌≡◌, ℕ, zero, suc, ◌+◌, Bool, true, false, ◌&&◌, ◌||◌, not, List, [], ◌∷◌, ◌++◌, length, Option, Some, None, refl, sym, ap, ◌∙◌, true≢false}
use Rattle.std.specs.Prelude.{cond, codes, is_some, nat_lt, option_and_then, position, slice_get, if◌then◌else◌}
use Rattle.std.specs.Str.{bytes_eq}
use Rattle.std.proofs.lemmas.Option.{none-some}
use Rattle.at_model.specs.Classes.{Classes, class_of_name, parts}
use Rattle.at_model.specs.Rules.{Attribute}
use Rattle.at_model.proofs.FirstGiven.{any_there}
use Rattle.at_model.proofs.GrammarKept.{text_same}
use Rattle.at_model.proofs.Options.{and_true}
use Rattle.at_text.specs.declared.place.Place.{Place}
use Rattle.at_jrag.specs.Syntax.{Word, KindWord, Param, Body, DeclForm, Synthesized, Inherited, Equation, InheritedEquation}
use Rattle.at_rules.specs.declared.body.Kind.{Kind}
use Rattle.at_kinds.specs.declared.arguments.Arguments.{Arguments}
use Rattle.at_kinds.specs.Accessors.{accessed, shape_of}
use Rattle.at_kinds.specs.Judging.{Is, Wrong, and_then, body_of}
use Rattle.at_kinds.specs.Signatures.{Declared}
use Rattle.at_kinds.specs.declared.code.RuleCode.TheVariants as code
use Rattle.at_kinds.specs.declared.signatures.WrittenKind.{WrittenKind}
use Rattle.at_kinds.proofs.CodesJudged.{TellsOne, then_tells, body_tells}
use Rattle.at_kinds.proofs.KindsKnown.{element_found}
use Rattle.at_typing.specs.AspectRules.{AreOfAttributes}
use Rattle.at_typing.specs.Declaring.{attributes, body_in, class_text, inherited_named, is_attribute, is_below, is_inherited, is_inherited_name, is_sub_or_none, is_synthesized, is_synthesized_by, name_text, params_in, result_in, synthesized_named}
use Rattle.at_typing.specs.Located.{Located, class_word, name_word}
use Rattle.at_typing.specs.Meanings.{attribute, attribute_for, attribute_meant, attribute_with, below_class, below_component, body_for, body_if, body_meant, declared_alone, declared_with, form_meant, inherited_alone, inherited_equation, inherited_meant, meant, own_alone, own_equation, own_meant, results, scope, signature_if, signatures, signatures_among, with_body}
use Rattle.at_typing.specs.Ruling.{as_declared, can_be_passed, class_named, component_at, component_got, index_of_list, is_component, is_kind, is_many, kind_named, max_parameters, or_unknown, param_as_declared, param_named, params_named, passed_if}
use Rattle.at_typing.proofs.of_attributes.AttributesFound.{synthesized_there, inherited_there}
use Rattle.at_typing.proofs.of_aspects.EquationsApart.{there_synthesized, there_inherited}

-- the parts of a declaration -------------------------------------------------------------------------------------------

unknown_tells : {A : Type 0} (at : Place) (o : Option A) → TellsOne (or_unknown at o)
unknown_tells at None = tt
unknown_tells at (Some a) = tt

passed_tells : (b : Bool) (at : Place) (k : Kind) → TellsOne (passed_if b at k)
passed_tells true at k = tt
passed_tells false at k = tt

param_tells : (allowed : Arguments) (classes : Classes) (i : ℕ) (p : Param) → TellsOne (param_named allowed classes i p)
param_tells allowed classes i p =
    then_tells (λ k. passed_if (can_be_passed allowed k && nat_lt i (max_parameters allowed)) p.kind.at k)
    (kind_named classes p.kind)
    (unknown_tells p.kind.at _) (λ k. passed_tells (can_be_passed allowed k && nat_lt i (max_parameters allowed))
    p.kind.at k)

params_tell : (allowed : Arguments) (classes : Classes) (i : ℕ) (ps : List Param)
    → TellsOne (params_named allowed classes i ps)
params_tell allowed classes i [] = tt
params_tell allowed classes i (p ∷ ps) =
    then_tells (λ k. and_then (λ ks. Is (k ∷ ks)) (params_named allowed classes (i + 1) ps))
    (param_named allowed classes i p) (param_tells allowed classes i p)
    (λ k. then_tells (λ ks. Is (k ∷ ks)) (params_named allowed classes (i + 1) ps)
    (params_tell allowed classes (i + 1) ps) (λ ks. tt))

declared_tells : (allowed : Arguments) (classes : Classes) (ws : List WrittenKind) (end : Place) (i : ℕ)
    (ps : List Param) → TellsOne (as_declared allowed classes ws end i ps)
declared_tells allowed classes ws end i [] = by (nat_lt i (length ws))
  where
    by : (b : Bool) → TellsOne {A = Unit {0}} (if b then Wrong code.Argument end else Is tt)
    by true = tt
    by false = tt
declared_tells allowed classes ws end i (p ∷ ps) =
    then_tells (λ k. as_declared allowed classes ws end (i + 1) ps) (param_as_declared allowed classes ws i p)
    (then_tells (λ k. passed_if (is_kind (slice_get ws i) k) p.kind.at k) (param_named allowed classes i p)
    (param_tells allowed classes i p) (λ k. passed_tells (is_kind (slice_get ws i) k) p.kind.at k))
    (λ k. declared_tells allowed classes ws end (i + 1) ps)

component_tells : (classes : Classes) (c : ℕ) (at : Place) (o : Option ℕ) → TellsOne (component_at classes c at o)
component_tells classes c at None = tt
component_tells classes c at (Some part) = by (is_component (shape_of (parts classes c) part))
  where
    by : (b : Bool) → TellsOne (if b then Is (Some part) else Wrong code.UnknownName at)
    by true = tt
    by false = tt

got_tells : (classes : Classes) (c : ℕ) (getter : Word) → TellsOne (component_got classes c getter)
got_tells classes c getter = by (bytes_eq getter.text (codes "getChild"))
  where
    by : (b : Bool) → TellsOne {A = Option ℕ} (if b then Is None else component_at classes c getter.at (accessed classes c getter.text))
    by true = tt
    by false = component_tells classes c getter.at (accessed classes c getter.text)

index_tells : (classes : Classes) (c : ℕ) (part : Option ℕ) (index : Option Word) → TellsOne (index_of_list classes c part index)
index_tells classes c part None = tt
index_tells classes c part (Some word) = by (is_many (option_and_then (shape_of (parts classes c)) part))
  where
    by : (b : Bool) → TellsOne {A = Unit {0}} (if b then Is tt else Wrong code.UnknownName word.at)
    by true = tt
    by false = tt

-- the attribute --------------------------------------------------------------------------------------------------------

-- of each attribute it is known what is declared
declared_there : (classes : Classes) (words : List KindWord) (ds : List Located) (k : ℕ) (d : Located) → slice_get (attributes ds) k ≡ Some d
    → (s : Declared) × (slice_get (signatures_among classes words ds) k ≡ Some s)
declared_there classes words [] k d is = absurd (none-some d is)
declared_there classes words (x ∷ xs) k d is = by x.decl.form refl k is (declared_there classes words xs)
  where
    first : (o : Option KindWord) (k : ℕ) → is_some o ≡ true → slice_get (cond true (x ∷ attributes xs) (attributes xs)) k ≡ Some d
        → ((k : ℕ) (d : Located) → slice_get (attributes xs) k ≡ Some d → (s : Declared) × (slice_get (signatures_among classes words xs) k ≡ Some s))
        → (s : Declared) × (slice_get (signature_if classes words x o ++ signatures_among classes words xs) k ≡ Some s)
    first None k e is rest = absurd (true≢false (sym e))
    first (Some w) zero e is rest = (_, refl)
    first (Some w) (suc k) e is rest = rest k d is

    by : (form : DeclForm) → x.decl.form ≡ form → (k : ℕ) → slice_get (cond (is_attribute form) (x ∷ attributes xs) (attributes xs)) k ≡ Some d
        → ((k : ℕ) (d : Located) → slice_get (attributes xs) k ≡ Some d → (s : Declared) × (slice_get (signatures_among classes words xs) k ≡ Some s))
        → (s : Declared) × (slice_get (signature_if classes words x (result_in form) ++ signatures_among classes words xs) k ≡ Some s)
    by (Synthesized lazy kind class name params start ending) e k is rest = first (Some kind) k refl is rest
    by (Inherited lazy kind class name params start) e k is rest = first (Some kind) k refl is rest
    by (Equation class name params body) e k is rest = rest k d is
    by (InheritedEquation class getter index name params body) e k is rest = rest k d is

module _ (allowed : Arguments) (classes : Classes) (ds : List Located) where
  body_for_tells : (c : ℕ) (d : Located) (body : Body) (s : Declared)
      → TellsOne (body_for allowed classes (signatures classes ds) c d body s)
  body_for_tells c d body s =
      then_tells (λ u. body_of (scope allowed classes (signatures classes ds) c d.decl.form) body.expr s.result)
      (as_declared allowed classes s.parameters (params_in d.decl.form).end 0 (params_in d.decl.form).items)
      (declared_tells allowed classes s.parameters (params_in d.decl.form).end 0 (params_in d.decl.form).items)
      (λ u. body_tells (scope allowed classes (signatures classes ds) c d.decl.form) body.expr s.result)

  if_tells : (c : ℕ) (d : Located) (body : Body) (o : Option Declared) (s : Declared) → o ≡ Some s
      → TellsOne (body_if allowed classes (signatures classes ds) c d body o)
  if_tells c d body None s e = absurd (none-some s e)
  if_tells c d body (Some x) s e = body_for_tells c d body x

  -- an attribute that is found by its position is declared
  meant_tells : (c : ℕ) (d : Located) (body : Body) (test : Located → Bool) (o : Option ℕ) → o ≡ position test (attributes ds) → is_some o ≡ true
      → TellsOne (body_meant allowed classes (signatures classes ds) c d body o)
  meant_tells c d body test None e is = absurd (true≢false (sym is))
  meant_tells c d body test (Some a) e is =
      let (x, at, passes, less) = element_found test (attributes ds) a (sym e) in
      let (s, there) = declared_there classes (results ds) ds a x at in
      then_tells (λ b. Is (a, b)) (body_if allowed classes (signatures classes ds) c d body
      (slice_get (signatures classes ds) a))
      (if_tells c d body (slice_get (signatures classes ds) a) s there) (λ b. tt)

  own_tells : (d : Located) (body : Body) (c : ℕ) → is_synthesized classes ds (class_text d) (name_text d) ≡ true
      → TellsOne (own_meant allowed classes ds d body c)
  own_tells d body c is =
      then_tells (λ e. Is (own_equation c e)) (body_meant allowed classes (signatures classes ds) c d body
      (synthesized_named classes ds (class_text d) (name_text d)))
      (meant_tells c d body (is_synthesized_by classes (class_text d) (name_text d)) (synthesized_named classes ds
      (class_text d) (name_text d)) refl (synthesized_there classes ds (class_text d) (name_text d) ∙ is))
      (λ e. tt)

  below_tells : (d : Located) (index : Option Word) (body : Body) (c : ℕ) (part : Option ℕ) → is_inherited_name ds (name_text d) ≡ true
      → TellsOne (inherited_meant allowed classes ds d index body c part)
  below_tells d index body c part is =
      then_tells (λ u. and_then (λ e. Is (inherited_equation d c part e.1))
      (body_meant allowed classes (signatures classes ds) c d body (inherited_named ds (name_text d))))
      (index_of_list classes c part index) (index_tells classes c part index)
      (λ u. then_tells (λ e. Is (inherited_equation d c part e.1))
      (body_meant allowed classes (signatures classes ds) c d body (inherited_named ds (name_text d)))
      (meant_tells c d body (λ (y : Located). is_inherited y.decl.form && bytes_eq (name_text d) (name_text y)) (inherited_named ds (name_text d)) refl (inherited_there ds (name_text d) ∙ is))
      (λ e. tt))

  attribute_tells : (d : Located) (result : KindWord) → TellsOne (attribute_meant allowed classes d result)
  attribute_tells d result =
      then_tells (attribute_for allowed classes d) (kind_named classes result) (unknown_tells result.at _)
      (λ k. then_tells (attribute_with allowed classes d k) (class_named classes (class_word d.decl.form))
      (unknown_tells (class_word d.decl.form).at _)
      (λ c. then_tells (λ params. Is (attribute d c k params))
      (params_named allowed classes 0 (params_in d.decl.form).items)
      (params_tell allowed classes 0 (params_in d.decl.form).items) (λ ps. tt)))

  -- declarations -------------------------------------------------------------------------------------------------------

  -- a synthesized attribute has itself
  of_itself : (i : ℕ) (d : Located) → slice_get ds i ≡ Some d → is_attribute d.decl.form ≡ true → not (is_inherited d.decl.form) ≡ true → is_synthesized classes ds (class_text d) (name_text d) ≡ true
  of_itself i d is declares own =
      any_there (λ (e : Located). (is_attribute e.decl.form && not (is_inherited e.decl.form)) && (bytes_eq (name_text d) (name_text e) && is_below classes (class_text d) (class_text e))) ds i d is
      (and_true (is_attribute d.decl.form && not (is_inherited d.decl.form)) (bytes_eq (name_text d) (name_text d) && is_below classes (class_text d) (class_text d))
      (and_true (is_attribute d.decl.form) (not (is_inherited d.decl.form)) declares own)
      (and_true (bytes_eq (name_text d) (name_text d)) (is_below classes (class_text d) (class_text d)) (text_same (name_text d) (name_text d) refl)
      (ap (λ b. b || is_sub_or_none classes (class_of_name classes (class_text d)) (class_of_name classes (class_text d))) (text_same (class_text d) (class_text d) refl))))

  with_tells : (d : Located) (o : Option Body) (a : Attribute)
      → is_synthesized classes ds (class_text d) (name_text d) ≡ true → TellsOne (with_body allowed classes ds d o a)
  with_tells d None a is = tt
  with_tells d (Some body) a is = then_tells (declared_with a) (own_meant allowed classes ds d body a.class)
      (own_tells d body a.class is) (λ e. tt)

  form_tells : (i : ℕ) (d : Located) (form : DeclForm) → AreOfAttributes classes ds → slice_get ds i ≡ Some d
      → d.decl.form ≡ form → TellsOne (form_meant allowed classes ds d form)
  form_tells i d (Synthesized lazy result class name params start ending) h is at =
      then_tells (with_body allowed classes ds d (body_in d.decl.form)) (attribute_meant allowed classes d result)
      (attribute_tells d result)
      (λ a. with_tells d (body_in d.decl.form) a (of_itself i d is (ap is_attribute at) (ap (λ f. not (is_inherited f)) at)))
  form_tells i d (Inherited lazy result class name params start) h is at =
      then_tells declared_alone (attribute_meant allowed classes d result) (attribute_tells d result) (λ a. tt)
  form_tells i d (Equation class name params body) h is at =
      let there : is_synthesized classes ds (class_text d) (name_text d) ≡ true =
      ap (λ f. is_synthesized classes ds (class_word f).text (name_word f).text) at ∙ there_synthesized classes ds class.text name.text (h.own i d class name params body is at) in
      then_tells (λ c. and_then own_alone (own_meant allowed classes ds d body c)) (class_named classes class)
      (unknown_tells class.at _)
      (λ c. then_tells own_alone (own_meant allowed classes ds d body c) (own_tells d body c there) (λ e. tt))
  form_tells i d (InheritedEquation class getter index name params body) h is at =
      let there : is_inherited_name ds (name_text d) ≡ true =
      ap (λ f. is_inherited_name ds (name_word f).text) at ∙ there_inherited classes ds name.text (h.inherited i d class getter name index params body is at) in
      then_tells (below_class allowed classes ds d getter index body) (class_named classes class)
      (unknown_tells class.at _)
      (λ c. then_tells (below_component allowed classes ds d index body c) (component_got classes c getter)
      (got_tells classes c getter)
      (λ part. then_tells inherited_alone (inherited_meant allowed classes ds d index body c part)
      (below_tells d index body c part there) (λ e. tt)))

  pub one_told : AreOfAttributes classes ds → (i : ℕ) (d : Located) → slice_get ds i ≡ Some d
      → TellsOne (meant allowed classes ds d)
  one_told h i d is = form_tells i d d.decl.form h is refl
