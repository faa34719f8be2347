-- Ways down through the classes: which classes are on one, what is taken there, and what is found of a class at its end.
use Rattle.std.specs.Prelude.{◌≡◌, ℕ, suc, ◌-◌, ◌<◌, List, [], ◌∷◌, length, map, reverse, take, get_or, Option, Some, None, String}
use Rattle.std.specs.List.{flat_map}
use Rattle.at_model.specs.Classes.{Classes, Component, chain, chain_within, own_of, parts}
use Rattle.at_model.specs.Declarations.{above, is_twice, max_parts}
use Rattle.at_class.specs.Taken.{AreTaken, IsFirst}
use Rattle.at_class.specs.declared.taken.TakenNames.{TakenNames}
use Rattle.at_class.specs.declared.found.Found.{Found}
use Rattle.at_class.specs.declared.way.Level.{Level}
use Rattle.at_class.specs.declared.way.Way.{Way}

-- no way up is cut: the chain of a class is the class, and the whole chain of its superclass
abbrev pub AreLed : Classes → Type 0
AreLed classes = (c : ℕ) → chain classes c ≡ c ∷ above classes c

-- the components of these classes, the lowest of which comes first, those of the highest first
abbrev pub all_of : Classes → List ℕ → List Component
all_of classes up = flat_map (own_of classes) (reverse up)

-- the class at the end of a way
abbrev pub end_of : List ℕ → Option ℕ
end_of [] = None
end_of (c ∷ cs) = Some c

abbrev pub classes_on : List Level → List ℕ
classes_on up = map (λ (l : Level). l.class) up

-- the classes on a way, the lowest first
abbrev pub on_way : List Level → List ℕ
on_way levels = classes_on (reverse levels)

abbrev pub top_of : List Level → Option ℕ
top_of levels = end_of (on_way levels)

-- the names are those of the classes up from here, and each level says how many of them there were before it
abbrev pub Holds : {A : Type 0} → Classes → List Level → List (String A) → List (String A) → Type 0
Holds classes [] names accessors = AreTaken [] names accessors
Holds classes (l ∷ ls) names accessors = AreTaken (all_of classes (classes_on (l ∷ ls))) names accessors
    × (l.room ≡ suc max_parts - length (all_of classes (classes_on (l ∷ ls)))) × Holds classes ls (take l.names names) (take l.accessors accessors)

-- the levels are the whole way to a class, and the names those that its components and the inherited ones take
pub record IsWay (classes : Classes) (levels : List Level) (t : TakenNames) : Type 0 where
  pub led : on_way levels ≡ chain_within (length classes) classes (top_of levels)
  pub holds : Holds classes (reverse levels) t.names.keys t.accessors.keys

-- which of the class's own components is the first that stands twice, and how many are wanting before there are too many
pub record IsFound (classes : Classes) (c : ℕ) (f : Found) : Type 0 where
  pub twice : IsFirst (is_twice classes c) f.twice
  pub room : f.room ≡ suc max_parts - length (parts classes c)

abbrev pub known_at : List (Option Found) → ℕ → Option Found
known_at found c = get_or found c None

-- the way is one, and what is known of classes is right
pub record Knows (classes : Classes) (w : Way) (found : List (Option Found)) : Type 0 where
  pub way : IsWay classes w.levels.items w.taken
  pub right : (c : ℕ) (f : Found) → known_at found c ≡ Some f → IsFound classes c f

-- these were found of the first so many classes
pub record AreFound (classes : Classes) (fs : List Found) (n : ℕ) : Type 0 where
  pub count : length fs ≡ n
  pub each : (c : ℕ) (d : Found) → c < n → IsFound classes c (get_or fs c d)
