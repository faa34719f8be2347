-- What a declaration adds to the equations.
use Rattle.std.proofs.Common.{◌≡◌, ℕ, List, refl, ap, ap₂, sym, ◌∙◌, subst, Option, Some, None, Result, Ok, Err}
use Rattle.at_model.specs.Bodies.{Expr}
use Rattle.at_model.specs.Classes.{Classes}
use Rattle.at_model.specs.Rules.{Attribute}
use Rattle.at_jrag.specs.Syntax.{Word, KindWord, Body}
use Rattle.at_jrag.specs.View.{word_view}
use Rattle.at_jrag.specs.declared.syntax.Word.{Word as WordValue}
use Rattle.at_rules.specs.declared.body.Kind.{Kind}
use Rattle.at_rules.specs.declared.rules.Equations.{Equations}
use Rattle.at_kinds.specs.declared.arguments.Arguments.{Arguments}
use Rattle.at_kinds.specs.Judging.{Judgement, Is, and_then}
use Rattle.at_typing.specs.Located.{Located, class_word}
use Rattle.at_typing.specs.Meanings.{Meaning, own_equation, inherited_equation, declared_alone, declared_with, own_alone, inherited_alone, body_meant, inherited_meant, signatures, with_body, own_meant, attribute_with, attribute_for, attribute_meant}
use Rattle.at_typing.specs.Declaring.{class_text, name_text, synthesized_named, inherited_named}
use Rattle.at_typing.specs.Ruling.{class_named, kind_named, index_of_list}
use Rattle.std.specs.Borrow.{Bor}
use Rattle.std.specs.Option.{option_map, option_copied}
use Rattle.indexmap.specs.IndexMap.{insert_entry}
use Rattle.at_typing.specs.Seen.{attribute_of, same_key, Declares, AddsOwn, AddsInherited, Adds}
use Rattle.at_kinds.specs.Signatures.{Declared}
use Rattle.at_kinds.specs.Typed.{Judges}
use Rattle.at_kinds.specs.declared.code.RuleCode.{RuleCode}
use Rattle.at_text.specs.declared.fault.Fault.{Fault}
use Rattle.at_text.specs.declared.fault.Fault.TheVariants.{Refused, Memory}

-- an attribute of a class that isn't there
pub attribute_fault : (allowed : Arguments) (classes : Classes) (d : Located) (result : KindWord) (k : Kind) (w : Word)
    (e : Fault RuleCode)
    → kind_named classes result ≡ Is k → w ≡ class_word d.decl.form → Judges {T = ℕ} (λ c. c) (class_named classes w)
    (Err e) → Judges (attribute_of d) (attribute_meant allowed classes d result) (Err e)
attribute_fault allowed classes d result k w (Refused c at) kind same is =
    ap (and_then (attribute_for allowed classes d)) kind ∙ ap (and_then (attribute_with allowed classes d k))
    (ap (class_named classes) (sym same) ∙ is)
attribute_fault allowed classes d result k w Memory kind same is = tt

module _ (d : Located) (n : ℕ) (old new : Equations) where
  -- a part's fault is that of the declaration
  pub adds_fault : {A T : Type 0} (view : T → A) (f : A → Judgement Meaning) (j : Judgement A) (e : Fault RuleCode) → Judges view j (Err e) → Adds d n (and_then f j) old new (Err e)
  adds_fault view f j (Refused c at) is = ap (and_then f) is
  adds_fault view f j Memory is = tt

  -- what is added where a part is so
  pub adds_then : {A : Type 0} (f : A → Judgement Meaning) (j : Judgement A) (a : A) (r : Result (Unit {0}) (Fault RuleCode)) → j ≡ Is a → Adds d n (f a) old new r → Adds d n (and_then f j) old new r
  adds_then f j a r is adds = subst (λ k. Adds d n (and_then f k) old new r) (sym is) adds

  pub declares_fault : (f : Attribute → Judgement Meaning) (j : Judgement Attribute) (e : Fault RuleCode)
      → Declares d n j old.attributes.entries new.attributes.entries (Err e) → Adds d n (and_then f j) old new (Err e)
  declares_fault f j (Refused c at) is = ap (and_then f) is
  declares_fault f j Memory is = tt

  -- an attribute without an equation
  pub declares_alone : (f : Attribute → Judgement Meaning) (j : Judgement Attribute) (c : ℕ) (u : Unit {0})
      → ((a : Attribute) → f a ≡ declared_alone a) → Declares d n j old.attributes.entries new.attributes.entries (Ok c)
      → new.own ≡ old.own → new.inherited ≡ old.inherited → Adds d n (and_then f j) old new (Ok u)
  declares_alone f j c u alone (a, is, at) own inherited = (
    record { attribute = Some (c, a); own = None; inherited = None },
    ap (and_then f) is ∙ alone (attribute_of d (c, a)),
    record { attributes = at; own = λ i. (own i).entries; inherited = λ i. (inherited i).entries },
  )

  -- an equation for the class's own nodes
  pub adds_own : (c : ℕ) (j : Judgement (ℕ × Expr)) (r : Result (Unit {0}) (Fault RuleCode)) → AddsOwn c j old.own.entries new.own.entries r
      → new.attributes ≡ old.attributes → new.inherited ≡ old.inherited → Adds d n (and_then own_alone (and_then (λ e. Is (own_equation c e)) j)) old new r
  adds_own c j (Ok u) (e, is, at) attributes inherited = (
    record { attribute = None; own = Some ((c, e.0), e.1); inherited = None },
    ap (λ k. and_then own_alone (and_then (λ e. Is (own_equation c e)) k)) is,
    record { attributes = λ i. (attributes i).entries; own = at; inherited = λ i. (inherited i).entries },
  )
  adds_own c j (Err (Refused code at)) is attributes inherited = ap (λ k. and_then own_alone (and_then (λ e. Is (own_equation c e)) k)) is
  adds_own c j (Err Memory) is attributes inherited = tt

  -- an equation for the nodes in the component, or in each one
  pub adds_inherited : (c : ℕ) (part : Option ℕ) (j : Judgement (ℕ × Expr)) (r : Result (Unit {0}) (Fault RuleCode)) → AddsInherited c part n j old.inherited.entries new.inherited.entries r
      → new.attributes ≡ old.attributes → new.own ≡ old.own → Adds d n (and_then inherited_alone (and_then (λ e. Is (inherited_equation d c part e.1)) j)) old new r
  adds_inherited c part j (Ok u) (e, is, at) attributes own = (
    record { attribute = None; own = None; inherited = Some ((c, part), e.1) },
    ap (λ k. and_then inherited_alone (and_then (λ e. Is (inherited_equation d c part e.1)) k)) is,
    record { attributes = λ i. (attributes i).entries; own = λ i. (own i).entries; inherited = at },
  )
  adds_inherited c part j (Err (Refused code at)) is attributes own = ap (λ k. and_then inherited_alone (and_then (λ e. Is (inherited_equation d c part e.1)) k)) is
  adds_inherited c part j (Err Memory) is attributes own = tt

-- an index name for what is no list
pub index_fault : (allowed : Arguments) (classes : Classes) (ds : List Located) (d : Located) (n : ℕ)
    (old new : Equations) (c : ℕ)
    (part : Option ℕ) (index : Option Word) (body : Body) (e : Fault RuleCode)
    → Judges {T = Unit {0}} (λ u. tt) (index_of_list classes c part index) (Err e)
    → Adds d n (and_then inherited_alone (inherited_meant allowed classes ds d index body c part)) old new (Err e)
index_fault allowed classes ds d n old new c part index body (Refused code at) is =
    ap (λ k. and_then inherited_alone (and_then (λ u. and_then (λ e. Is (inherited_equation d c part e.1))
    (body_meant allowed classes (signatures classes ds) c d body (inherited_named ds (name_text d)))) k)) is
index_fault allowed classes ds d n old new c part index body Memory is = tt

-- the word of an index name
pub seen_word : (o : Option (Bor WordValue)) → option_map (λ w. word_view w.now) o ≡ option_map word_view (option_copied o)
seen_word None = refl
seen_word (Some w) = refl

-- by what is known of the attributes among all declarations
module _ (allowed : Arguments) (classes : Classes) (ds : List Located) (d : Located) (body : Body) (declared : List Declared) (c : ℕ) (o : Option ℕ) (known : declared ≡ signatures classes ds) where
  -- the equation of a class for its own nodes
  pub own_meaning : o ≡ synthesized_named classes ds (class_text d) (name_text d)
      → body_meant allowed classes declared c d body o ≡ body_meant allowed classes (signatures classes ds) c d body
      (synthesized_named classes ds (class_text d) (name_text d))
  own_meaning found = ap₂ (λ x y. body_meant allowed classes x c d body y) known found

  pub adds_equation : (n : ℕ) (old new : Equations) (r : Result (Unit {0}) (Fault RuleCode))
      → o ≡ synthesized_named classes ds (class_text d) (name_text d)
      → AddsOwn c (body_meant allowed classes declared c d body o) old.own.entries new.own.entries r
      → new.attributes ≡ old.attributes → new.inherited ≡ old.inherited
      → Adds d n (and_then own_alone (own_meant allowed classes ds d body c)) old new r
  adds_equation n old new r found adds attributes inherited =
      adds_own d n old new c (body_meant allowed classes (signatures classes ds) c d body
      (synthesized_named classes ds (class_text d) (name_text d))) r
      (subst (λ j. AddsOwn c j old.own.entries new.own.entries r) (own_meaning found) adds) attributes inherited

  -- the equation of a class for the nodes in the component, or in each one
  pub adds_equation_below : (n : ℕ) (old new : Equations) (r : Result (Unit {0}) (Fault RuleCode)) (part : Option ℕ)
      (index : Option Word) → o ≡ inherited_named ds (name_text d) → index_of_list classes c part index ≡ Is tt
      → AddsInherited c part n (body_meant allowed classes declared c d body o) old.inherited.entries
      new.inherited.entries r
      → new.attributes ≡ old.attributes → new.own ≡ old.own → Adds d n
      (and_then inherited_alone (inherited_meant allowed classes ds d index body c part)) old new r
  adds_equation_below n old new r part index found listed adds attributes own =
      subst (λ k. Adds d n (and_then inherited_alone (and_then (λ u. and_then (λ e. Is (inherited_equation d c part
      e.1)) (body_meant allowed classes (signatures classes ds) c d body (inherited_named ds (name_text d)))) k)) old
      new r)
      (sym listed)
      (adds_inherited d n old new c part (body_meant allowed classes (signatures classes ds) c d body
      (inherited_named ds (name_text d))) r
      (subst (λ j. AddsInherited c part n j old.inherited.entries new.inherited.entries r)
      (ap₂ (λ x y. body_meant allowed classes x c d body y) known found) adds) attributes own)

  -- an attribute with its equation
  pub declares_with : (n : ℕ) (old mid new : Equations) (j : Judgement Attribute) (b : Option Body)
      (r : Result (Unit {0}) (Fault RuleCode)) → b ≡ Some body → o ≡ synthesized_named classes ds (class_text d)
      (name_text d) → Declares d n j old.attributes.entries mid.attributes.entries (Ok c) → mid.own ≡ old.own
      → mid.inherited ≡ old.inherited
      → AddsOwn c (body_meant allowed classes declared c d body o) mid.own.entries new.own.entries r → new.attributes
      ≡ mid.attributes → new.inherited ≡ mid.inherited → Adds d n
      (and_then (with_body allowed classes ds d b) j) old new r
  declares_with n old mid new j b (Ok u) is_body found (a, is, at) own inherited (e, judged, there) same behind = (
    record { attribute = Some (c, a); own = Some ((c, e.0), e.1); inherited = None },
    ap (and_then (with_body allowed classes ds d b)) is
        ∙ ap (λ x. with_body allowed classes ds d x (attribute_of d (c, a))) is_body
        ∙ ap (λ k. and_then (declared_with (attribute_of d (c, a))) (and_then (λ e. Is (own_equation c e)) k)) (sym (own_meaning found) ∙ judged),
    (let attributes_same : new.attributes.entries ≡ mid.attributes.entries = λ i. (same i).entries in
        let own_same : mid.own.entries ≡ old.own.entries = λ i. (own i).entries in
        let inherited_same : new.inherited.entries ≡ mid.inherited.entries = λ i. (behind i).entries in
        let inherited_first : mid.inherited.entries ≡ old.inherited.entries = λ i. (inherited i).entries in
        record {
          attributes = attributes_same ∙ at;
          own = there ∙ ap (λ es. insert_entry same_key es (c, e.0) e.1) own_same;
          inherited = inherited_same ∙ inherited_first;
        }),
  )
  declares_with n old mid new j b (Err (Refused code at)) is_body found (a, is, here) own inherited judged same behind =
      ap (and_then (with_body allowed classes ds d b)) is ∙ ap
      (λ x. with_body allowed classes ds d x (attribute_of d (c, a))) is_body
      ∙ ap (λ k. and_then (declared_with (attribute_of d (c, a))) (and_then (λ e. Is (own_equation c e)) k)) (sym (own_meaning found) ∙ judged)
  declares_with n old mid new j b (Err Memory) is_body found there own inherited judged same behind = tt
