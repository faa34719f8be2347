-- Pairs of a name and a number, as the code has them.
use Rattle.std.specs.Prelude.{ℕ, nat_eq, nat_le, Bool, ◌&&◌, not, List, [], ◌∷◌}
use Rattle.std.specs.List.{list_any}
use Rattle.std.specs.Str.{bytes_eq}
use Rattle.at_model.specs.Classes.{Classes}
use Rattle.at_kinds.specs.Accessors.{is_accessor}
use Rattle.at_start.specs.Overloading.{Counted, Overloads}
use Rattle.at_start.specs.declared.overloaded.pairs.Pairs.{Pairs}

-- the name is there with that number
abbrev pub has_pair : Pairs → (name : List ℕ) → (count : ℕ) → Bool
has_pair p name count = list_any (λ k. bytes_eq name k.0.now && nat_eq count k.1) p.items.keys

-- the attributes that they tell to be overloaded: none with more than four parameters
abbrev pub overloaded_in : Pairs → Overloads
overloaded_in p name count = nat_le count 4 && has_pair p name count

-- the attribute can't be called by its name alone, where those are declared
abbrev pub needs_in : Classes → Pairs → Counted → Bool
needs_in classes p c = list_any (λ n. not (nat_eq n c.count) && has_pair p c.name n) (0 ∷ 1 ∷ 2 ∷ 3 ∷ 4 ∷ []) && not (is_accessor classes c.name)
