-- What is answered and what is written mean the same.
use Rattle.std.proofs.Common.{◌≡◌, ℕ, List, Option, Bool, ap, ◌∙◌}
use Rattle.at_text.specs.declared.place.Place.{Place}
use Rattle.at_grammar.specs.declared.syntax.Shape.{Shape}
use Rattle.at_grammar.specs.Meaning.{Component, Class, kind_or}

pub component_is : (n m k l : List ℕ) (s : Shape) (p q : Place) → n ≡ m → k ≡ l → p ≡ q → ◌≡◌ {A = Component}
    (record { name = n; kind = k; shape = s; at = p }) (record { name = m; kind = l; shape = s; at = q })
component_is n m k l s p q e f g = cc

pub kind_same : (n m : List ℕ) (k l : Option (List ℕ)) → n ≡ m → k ≡ l → kind_or n k ≡ kind_or m l
kind_same n m k l e f = ap (λ x. kind_or x k) e ∙ ap (kind_or m) f

pub class_is : (n m : List ℕ) (a b : Bool) (s t : Option (List ℕ)) (xs ys : List Component) (p q : Place) → n ≡ m → a ≡ b → s ≡ t → xs ≡ ys → p ≡ q
    → ◌≡◌ {A = Class} (record { name = n; is_abstract = a; parent = s; parts = xs; at = p }) (record { name = m; is_abstract = b; parent = t; parts = ys; at = q })
class_is n m a b s t xs ys p q e f g h i = cc
