-- Attributes by their numbers: which lack an equation, and the first one that does.
use Rattle.std.proofs.Common.{◌≡◌, ℕ, zero, suc, ◌+◌, ◌<◌, ◌≤◌, ◌⊎◌, inl, inr, List, [], length, refl, ap, sym, subst, ◌∙◌, arith, Option, Some, None, true≢false}
use Rattle.std.specs.Prelude.{Bool, true, false, cond, is_some, option_map, slice_get}
use Rattle.std.specs.Borrow.{Bor}
use Rattle.std.specs.Map.{lookup}
use Rattle.std.specs.Str.{bytes_eq}
use Rattle.std.proofs.lemmas.Option.{none-some, slice_get_within}
use Rattle.std.proofs.lemmas.Slice.Eq.{bytes_eq-Decides}
use Rattle.indexmap.specs.IndexMap.{get_by, IndexMap}
use Rattle.at_model.specs.Rules.{Rules, Attribute, attribute_name, is_inherited}
use Rattle.at_complete.specs.Completing.{IsFirst, LacksBelow, LacksOwn, LacksInherited, IsExposedBelow, MeetsExposed, MeetExposed, Tells, is_among, walk_for}
use Rattle.at_complete.specs.Walks.{has_met}
use Rattle.at_complete.specs.declared.walk.Walk.{Walk}

some_is : {A : Type 0} (x y : A) → Some x ≡ Some y → x ≡ y
some_is x y e = cc

-- the first one -------------------------------------------------------------------------------------------------------

-- none of the first attributes lacks an equation
abbrev pub AreClear : (ℕ → Type 0) → ℕ → Type 0
AreClear Lacks n = (j : ℕ) → j < n → Lacks j → ⊥

pub clear_first : (Lacks : ℕ → Type 0) → AreClear Lacks 0
clear_first Lacks j less = absurd (omega (arith, less))

last_or_before : (j n : ℕ) → j < suc n → (j < n) ⊎ (j ≡ n)
last_or_before zero zero less = inr refl
last_or_before zero (suc n) less = inl (omega arith)
last_or_before (suc j) zero less = absurd (omega (arith, less))
last_or_before (suc j) (suc n) less = elim (last_or_before j n (omega (arith, less))) [
  | inl before ↦ inl (omega (arith, before))
  | inr is ↦ inr (ap suc is)
]

pub clear_more : (Lacks : ℕ → Type 0) (n : ℕ) → AreClear Lacks n → (Lacks n → ⊥) → AreClear Lacks (n + 1)
clear_more Lacks n clear here = λ j less lacks. elim (last_or_before j n (omega (arith, less))) [
  | inl before ↦ clear j before lacks
  | inr is ↦ here (subst Lacks is lacks)
]

pub first_here : (Lacks : ℕ → Type 0) (n k : ℕ) → k ≡ n → AreClear Lacks n → Lacks k → IsFirst Lacks (Some k)
first_here Lacks n k is clear lacks = (lacks, subst (AreClear Lacks) (sym is) clear)

pub first_none : (Lacks : ℕ → Type 0) (n m : ℕ) → m ≤ n → AreClear Lacks n → ((j : ℕ) → Lacks j → j < m) → IsFirst Lacks None
first_none Lacks n m all clear inside = λ j lacks. clear j (omega (arith, inside j lacks, all)) lacks

pub it_is : (P : Type 0) (b : Bool) → b ≡ true → Tells b P → P
it_is P true is told = told
it_is P false is told = absurd (true≢false (sym is))

pub it_is_not : (P : Type 0) (b : Bool) → b ≡ false → Tells b P → P → ⊥
it_is_not P true is told = absurd (true≢false is)
it_is_not P false is told = told

-- the attribute of a number -------------------------------------------------------------------------------------------

inherited_at : (rules : Rules) (attribute : ℕ) (a : Attribute) → slice_get rules.attributes attribute ≡ Some a → is_inherited rules attribute ≡ a.is_inherited
inherited_at rules attribute a there = ap (λ (o : Option Attribute). elim o [ None ↦ false | Some x ↦ x.is_inherited ]) there

name_at : (rules : Rules) (attribute : ℕ) (a : Attribute) → slice_get rules.attributes attribute ≡ Some a → attribute_name rules attribute ≡ a.name
name_at rules attribute a there = ap (λ (o : Option Attribute). elim o [ None ↦ [] | Some x ↦ x.name ]) there

class_at : (rules : Rules) (attribute : ℕ) (a : Attribute) → slice_get rules.attributes attribute ≡ Some a
    → option_map (λ (x : Attribute). x.class) (slice_get rules.attributes attribute) ≡ Some a.class
class_at rules attribute a there = ap (option_map (λ (x : Attribute). x.class)) there

-- synthesized ones ----------------------------------------------------------------------------------------------------

pub own_inside : (rules : Rules) (j : ℕ) → LacksOwn rules j → j < length rules.attributes
own_inside rules j lacks = slice_get_within rules.attributes j lacks.0 lacks.1

pub not_synthesized : (rules : Rules) (attribute : ℕ) → is_inherited rules attribute ≡ true → LacksOwn rules attribute → ⊥
not_synthesized rules attribute inherited (a, there, synthesized, lacks) = true≢false (sym inherited ∙ inherited_at rules attribute a there ∙ synthesized)

pub no_attribute : (rules : Rules) (attribute : ℕ) → None ≡ option_map (λ (a : Attribute). a.class) (slice_get rules.attributes attribute) → LacksOwn rules attribute → ⊥
no_attribute rules attribute none (a, there, synthesized, lacks) = none-some a.class (none ∙ class_at rules attribute a there)

-- a synthesized attribute lacks an equation where a class that fits its class does
pub is_synthesized : (rules : Rules) (attribute class : ℕ) (b : Bool) → is_inherited rules attribute ≡ false
    → Some class ≡ option_map (λ (a : Attribute). a.class) (slice_get rules.attributes attribute)
    → Tells b (LacksBelow rules class attribute) → Tells b (LacksOwn rules attribute)
is_synthesized rules attribute class b synthesized declared told = by (slice_get rules.attributes attribute) refl declared
  where
    here : (a : Attribute) → slice_get rules.attributes attribute ≡ Some a → a.class ≡ class → (t : Bool) → Tells t (LacksBelow rules class attribute) → Tells t (LacksOwn rules attribute)
    here a there is true told = (a, there, sym (inherited_at rules attribute a there) ∙ synthesized, subst (λ c. LacksBelow rules c attribute) (sym is) told)
    here a there is false told = λ lacks. told (subst (λ c. LacksBelow rules c attribute) (ap (λ (x : Attribute). x.class) (some_is lacks.0 a (sym lacks.1 ∙ there)) ∙ is) lacks.3)

    by : (o : Option Attribute) → slice_get rules.attributes attribute ≡ o → Some class ≡ option_map (λ (a : Attribute). a.class) o → Tells b (LacksOwn rules attribute)
    by None none is = absurd (none-some class (sym is))
    by (Some a) there is = here a there (sym (some_is class a.class is)) b told

-- inherited ones ------------------------------------------------------------------------------------------------------

pub inherited_inside : (rules : Rules) (j : ℕ) → LacksInherited rules j → j < length rules.attributes
inherited_inside rules j lacks = slice_get_within rules.attributes j lacks.0 lacks.1

pub not_inherited : (rules : Rules) (attribute : ℕ) → is_inherited rules attribute ≡ false → LacksInherited rules attribute → ⊥
not_inherited rules attribute synthesized (a, there, inherited, exposed) = true≢false (sym inherited ∙ sym (inherited_at rules attribute a there) ∙ synthesized)

module _ {S : Type 0} (rules : Rules) where
  pub none_met : (m : IndexMap (Bor (List ℕ)) Walk S) → m.entries ≡ [] → MeetExposed rules m
  none_met m empty = λ name w there. absurd (none-some w (sym (ap (lookup (λ (k : Bor (List ℕ)). bytes_eq name k.now)) empty) ∙ there))

  -- one more walk is noted
  pub meets_more : (key : Bor (List ℕ)) (name : List ℕ) (old new : IndexMap (Bor (List ℕ)) Walk S) (w : Walk) → key.now
      ≡ name → ((q : Bor (List ℕ)) → walk_for q.now new ≡ cond (bytes_eq key.now q.now) (Some w) (walk_for q.now old))
      → MeetsExposed rules name w → MeetExposed rules old → MeetExposed rules new
  meets_more key name old new w is updates meets known = λ n v there. by n (bytes_eq key.now n) refl v (sym (updates (record { ref_ptr = key.ref_ptr; now = n })) ∙ there)
    where
      by : (n : List ℕ) (b : Bool) → bytes_eq key.now n ≡ b → (v : Walk) → cond b (Some w) (walk_for n old) ≡ Some v → MeetsExposed rules n v
      by n true same v there = subst (MeetsExposed rules n) (some_is w v there) (subst (λ m. MeetsExposed rules m w) (sym is ∙ (bytes_eq-Decides key.now n).0 same) meets)
      by n false other v there = known n v there

  -- what the walk of the name tells
  pub tells_met : (attribute : ℕ) (m : IndexMap (Bor (List ℕ)) Walk S) (o : Option Walk) (class : Option ℕ)
      → walk_for (attribute_name rules attribute) m ≡ o → is_some o ≡ true → MeetExposed rules m
      → is_inherited rules attribute ≡ true
      → class ≡ option_map (λ (a : Attribute). a.class) (slice_get rules.attributes attribute) → Tells (is_among o class) (LacksInherited rules attribute)
  tells_met attribute m None class at some known inherited declared = absurd (true≢false (sym some))
  tells_met attribute m (Some w) class at some known inherited declared = by (slice_get rules.attributes attribute) refl
    where
      here : (a : Attribute) → slice_get rules.attributes attribute ≡ Some a → (t : Bool) → Tells t
          (IsExposedBelow rules (attribute_name rules attribute) a.class) → Tells t (LacksInherited rules attribute)
      here a there true told = (a, there, sym (inherited_at rules attribute a there) ∙ inherited, subst (λ name. IsExposedBelow rules name a.class) (name_at rules attribute a there) told)
      here a there false told = λ lacks.
          told (subst (λ name. IsExposedBelow rules name a.class) (sym (name_at rules attribute a there))
          (subst (λ (x : Attribute). IsExposedBelow rules x.name x.class)
          (some_is lacks.0 a (sym lacks.1 ∙ there)) lacks.3))

      by : (o : Option Attribute) → slice_get rules.attributes attribute ≡ o → Tells (is_among (Some w) class) (LacksInherited rules attribute)
      by None none = subst (λ c. Tells (is_among (Some w) c) (LacksInherited rules attribute)) (sym (declared
          ∙ ap (option_map (λ (a : Attribute). a.class)) none)) (λ lacks. none-some lacks.0 (sym none ∙ lacks.1))
      by (Some a) there =
          subst (λ c. Tells (is_among (Some w) c) (LacksInherited rules attribute)) (sym (declared ∙ class_at rules attribute a there))
          (here a there (has_met w.met.items a.class) (known (attribute_name rules attribute) w at a.class))
