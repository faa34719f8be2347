-- Rules in which a class lacks an equation.
use Rattle.std.specs.Prelude.{◌≡◌, ℕ, zero, suc, ◌<◌, Bool, true, false, ◌||◌, ◌&&◌, not, nat_eq, List, length, Option, None, Some, is_none, is_some, option_and_then, slice_get, if◌then◌else◌}
use Rattle.std.specs.Borrow.{Bor}
use Rattle.std.specs.Option.{option_eq}
use Rattle.std.specs.Str.{bytes_eq}
use Rattle.indexmap.specs.IndexMap.{get_by, IndexMap}
use Rattle.at_model.specs.Classes.{Classes, class_in, fits, is_concrete, is_sub, parent_of, parts}
use Rattle.at_model.specs.Rules.{Rules, Attribute, Exposed, attribute_name, inherited_equation, own_equation, own_in}
use Rattle.at_complete.specs.Hierarchies.{is_child}
use Rattle.at_complete.specs.Walks.{has_met, MeetsFrom, Walked}
use Rattle.at_complete.specs.declared.walk.Walk.{Walk}

-- a class that fits the one of that number has no equation for the attribute
abbrev pub LacksBelow : Rules → (class attribute : ℕ) → Type 0
LacksBelow rules b attribute = (c : ℕ) × (fits rules.classes c b ≡ true) × (own_equation rules c attribute ≡ None)

-- a class that fits the one of that number is exposed for an inherited attribute of that name
abbrev pub IsExposedBelow : Rules → List ℕ → (class : ℕ) → Type 0
IsExposedBelow rules name b = (c : ℕ) × (fits rules.classes c b ≡ true) × Exposed rules name c

-- the attribute is synthesized, and such a class lacks an equation
abbrev pub LacksOwn : Rules → (attribute : ℕ) → Type 0
LacksOwn rules attribute = (a : Attribute) × (slice_get rules.attributes attribute ≡ Some a) × (a.is_inherited ≡ false) × LacksBelow rules a.class attribute

-- the attribute is inherited, and such a class is exposed
abbrev pub LacksInherited : Rules → (attribute : ℕ) → Type 0
LacksInherited rules attribute = (a : Attribute) × (slice_get rules.attributes attribute ≡ Some a) × (a.is_inherited ≡ true)
    × IsExposedBelow rules a.name a.class

-- the first attribute of which it is so, if there is one
abbrev pub IsFirst : (ℕ → Type 0) → Option ℕ → Type 0
IsFirst Lacks None = (k : ℕ) → Lacks k → ⊥
IsFirst Lacks (Some k) = Lacks k × ((j : ℕ) → j < k → Lacks j → ⊥)

-- the answer says whether it is so
abbrev pub Tells : Bool → Type 0 → Type 0
Tells true P = P
Tells false P = P → ⊥

-- how the classes are walked through ---------------------------------------------------------------------------------

-- the walk met the classes below which one is exposed for an inherited attribute of that name
abbrev pub MeetsExposed : Rules → List ℕ → Walk → Type 0
MeetsExposed rules name w = (b : ℕ) → Tells (has_met w.met.items b) (IsExposedBelow rules name b)

-- the walk of that name, if there is one
abbrev pub walk_for : {S : Type 0} → List ℕ → IndexMap (Bor (List ℕ)) Walk S → Option Walk
walk_for name walks = get_by (λ k. bytes_eq name k.now) walks

-- each walk met those for its name
abbrev pub MeetExposed : {S : Type 0} → Rules → IndexMap (Bor (List ℕ)) Walk S → Type 0
MeetExposed rules walks = (name : List ℕ) (w : Walk) → walk_for name walks ≡ Some w → MeetsExposed rules name w

-- the class was met in the walk
abbrev pub is_among : Option Walk → Option ℕ → Bool
is_among None c = false
is_among (Some w) None = false
is_among (Some w) (Some c) = has_met w.met.items c

-- the class of the trees in a component for which the class has no equation
abbrev pub passed : Rules → List ℕ → (c part : ℕ) → Option ℕ
passed rules name c part =
    if is_none (inherited_equation rules c part name) then option_and_then (λ p. class_in p.shape) (slice_get (parts rules.classes c) part) else None

-- trees of class d are in one of the first components of c for which c has no equation
abbrev pub is_passed : Rules → List ℕ → (count c d : ℕ) → Bool
is_passed rules name zero c d = false
is_passed rules name (suc n) c d = is_passed rules name n c d || option_eq nat_eq (Some d) (passed rules name c n)

-- trees of class d may stand where those of c may, or in one of them without equation
abbrev pub leads : Rules → List ℕ → (c d : ℕ) → Bool
leads rules name c d = is_child rules.classes c d || (is_concrete rules.classes c && is_passed rules name (length (parts rules.classes c)) c d)

-- each class that is not abstract, the class or one below it, is exposed
abbrev pub AllExposed : Rules → List ℕ → ℕ → Type 0
AllExposed rules name c = (e : ℕ) → fits rules.classes e c ≡ true → Exposed rules name e

-- the class is directly below one that has no equation for the attribute
abbrev pub leads_own : Rules → (attribute c d : ℕ) → Bool
leads_own rules attribute c d = is_none (own_in rules attribute c) && is_child rules.classes c d

-- the class has an equation for the attribute, or needs none
abbrev pub passes_own : Rules → (attribute c : ℕ) → Bool
passes_own rules attribute c = is_some (own_in rules attribute c) || not (is_concrete rules.classes c)

-- the class is below that one, and no class above it has an equation
abbrev pub IsWithoutAbove : Rules → (b attribute c : ℕ) → Type 0
IsWithoutAbove rules b attribute c = (is_sub rules.classes c b ≡ true) × (own_in rules attribute c ≡ None → own_equation rules c attribute ≡ None)

-- the one class is the superclass of the other
abbrev pub leads_up : Classes → (c d : ℕ) → Bool
leads_up classes c d = option_eq nat_eq (Some d) (parent_of classes c)

-- one class of the walk was looked at: it is without equation and not abstract, or the walk goes on below it
abbrev pub LooksAt : Bool → Rules → (attribute c : ℕ) → Walk → Walk → Type 0
LooksAt true rules attribute c old new = (own_in rules attribute c ≡ None) × (is_concrete rules.classes c ≡ true)
LooksAt false rules attribute c old new = (passes_own rules attribute c ≡ true) × MeetsFrom (leads_own rules attribute c) old new

-- the walk met the classes of which trees may stand where no class above has an equation
abbrev pub IsExposedWalk : Rules → List ℕ → Walk → Type 0
IsExposedWalk rules name w = Walked (length rules.classes) (λ c. nat_eq c 0) (leads rules name) (λ c. true) (AllExposed rules name) w.met.items

-- a class that was met, and that isn't abstract, fits this one
abbrev pub HasBelow : Classes → List Bool → ℕ → Type 0
HasBelow classes met b = (c : ℕ) × (fits classes c b ≡ true) × (has_met met c ≡ true)

-- the class was met and isn't abstract
abbrev pub is_met_concrete : Classes → List Bool → ℕ → Bool
is_met_concrete classes met c = has_met met c && is_concrete classes c

-- the walk met those classes and those above them
abbrev pub IsMarking : Classes → Walk → Walk → Type 0
IsMarking classes exposed w =
    Walked (length classes) (is_met_concrete classes exposed.met.items) (leads_up classes) (λ c. true) (HasBelow classes exposed.met.items) w.met.items
