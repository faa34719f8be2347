-- That rules have one declaration of each: what build looks for in the declarations together.
use Rattle.std.specs.Prelude.{◌≡◌, ℕ, ◌<◌, false, true, ◌&&◌, ◌||◌, nat_eq, Some}
use Rattle.std.specs.List.{slice_get}
use Rattle.std.specs.Option.{option_eq}
use Rattle.std.specs.Str.{bytes_eq}
use Rattle.at_model.specs.Classes.{is_sub}
use Rattle.at_model.specs.Rules.{Rules, Attribute, OwnEquation, InheritedEquation}

-- of two attributes of one name no class is the other's or above it; of two own equations of one attribute no two have one class;
-- of two inherited equations of one class and one name no two are for the same component
pub record AreSingle (rules : Rules) : Type 0 where
  pub attributes : (i j : ℕ) (a b : Attribute) → i < j → slice_get rules.attributes i ≡ Some a → slice_get rules.attributes j ≡ Some b
      → bytes_eq a.name b.name ≡ true
      → (is_sub rules.classes a.class b.class || is_sub rules.classes b.class a.class) ≡ false
  pub own : (i j : ℕ) (e f : OwnEquation) → i < j → slice_get rules.own i ≡ Some e → slice_get rules.own j ≡ Some f
      → (nat_eq e.class f.class && nat_eq e.attribute f.attribute) ≡ false
  pub inherited : (i j : ℕ) (e f : InheritedEquation) → i < j → slice_get rules.inherited i ≡ Some e → slice_get rules.inherited j ≡ Some f
      → ((nat_eq e.class f.class && option_eq nat_eq e.part f.part) && bytes_eq e.name f.name) ≡ false
