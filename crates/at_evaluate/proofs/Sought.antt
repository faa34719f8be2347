-- What is looked for by a key is evaluated without a look.
use Rattle.std.proofs.Common.{◌≡◌, ℕ, refl, ap}
use Rattle.at_model.specs.Bodies.{drawer_of}
use Rattle.at_model.specs.Classes.{Classes}
use Rattle.at_model.specs.Run.{Gives, Run, Value, ◌>>=◌}
use Rattle.at_class.specs.Keys.{key_view}
use Rattle.at_rules.specs.Bodies.{body_view, sought_view}
use Rattle.at_rules.specs.declared.body.Body.{Body}
use Rattle.at_rules.specs.declared.body.Lookup.{Lookup}
use Rattle.at_rules.specs.declared.body.Sought.{Sought}
use Rattle.at_rules.specs.declared.body.Sought.TheVariants as sought
use Rattle.at_body.specs.Rest.{ev, over}
use Rattle.at_body.specs.Seeking.{sought_in}
use Rattle.at_body.specs.Standing.{Place, scope}
use Rattle.at_body.specs.declared.todo.Fold.{Fold}
use Rattle.at_evaluate.specs.Parts.{search_of}

came : (classes : Classes) (p : Place) (s : Sought) → ev classes (sought_view s) p ≡ Gives (sought_in s (scope p).names)
came classes p (sought.Text text) = refl
came classes p (sought.Name i) = refl

-- a search begins with the node, and goes over what stands under the text's mark
pub searched : (classes : Classes) (p : Place) (f : Fold) (a : Body) (look : Lookup) (b : Body) →
    ev classes (body_view a) p >>= (λ v. ev classes (sought_view look.sought) p >>= λ w. drawer_of look.part (key_view look.key) v w
    >>= over classes f (body_view b) p) ≡ search_of classes p f a look b
searched classes p f a look b = ap (λ (r : Run ℕ (Value ℕ)). ev classes (body_view a) p
    >>= λ v. r >>= λ w. drawer_of look.part (key_view look.key) v w >>= over classes f (body_view b) p) (came classes p look.sought)
