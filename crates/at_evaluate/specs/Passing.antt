-- Elements at which the expression of a fold comes to false at once.
use Rattle.std.specs.Prelude.{◌≡◌, ◌++◌, ◌∷◌, [], ⊤, ℕ, Bool, List, Some, false, nat_eq, true}
use Rattle.at_model.specs.Bodies.{token_of}
use Rattle.at_model.specs.Rules.{Rules, evaluation, own_equation}
use Rattle.at_model.specs.Run.{Contents, Gives, Location, Ref, Run, Text, Truth, Value, ◌>>=◌}
use Rattle.at_rules.specs.Bodies.{body_view}
use Rattle.at_rules.specs.declared.body.Body.{Body}
use Rattle.at_body.specs.Comparing.{IsComparison}
use Rattle.at_body.specs.Rest.{ev, with_two}
use Rattle.at_body.specs.Values.{value_view}
use Rattle.at_body.specs.declared.value.Value.{Value as ValueCode}
use Rattle.at_evaluate.specs.Looking.{HasLooked}
use Rattle.at_evaluate.specs.Near.{asked, entered, own_place}
use Rattle.at_evaluate.specs.declared.passing.Asked.{Asked}
use Rattle.at_evaluate.specs.declared.passing.Asked.TheVariants as ask

-- each of these nodes, asked in turn for the attribute, passed these, comes to false by looks alone
abbrev pub AreFalse : Rules → Contents ℕ → (attribute : ℕ) → List ValueCode → (nodes : List ℕ) → (old new : List (Location ℕ)) → Type 0
AreFalse rules look attribute passed [] old new = new ≡ old
AreFalse rules look attribute passed (n ∷ ns) old new = (mid : List (Location ℕ))
    × HasLooked look old mid (evaluation rules nat_eq (asked n attribute passed)) (Truth false) × AreFalse rules look attribute passed ns mid new

-- So do those of the nodes that stand in front of the rest.
pub record ArePassedBy (rules : Rules) (look : Contents ℕ) (attribute : ℕ) (passed : List ValueCode) (old new : List (Location ℕ))
    (nodes rest : List ℕ) : Type 0 where
  pub front : List ℕ
  pub those : nodes ≡ front ++ rest
  pub are : AreFalse rules look attribute passed front old new

-- what is asked of a node, behind its class and those of the nodes among the arguments
abbrev pub asked_of : Asked → (node : ℕ) → Run ℕ (Value ℕ)
asked_of ask.Never n = Gives (Truth false)
asked_of (ask.Compared o part text) n = token_of part (Ref (Some n)) >>= λ v. with_two o v (Text text.now)

-- what compares is a comparison
abbrev pub AsksToCompare : Asked → Type 0
AsksToCompare ask.Never = ⊤
AsksToCompare (ask.Compared o part text) = IsComparison o

-- The own equation of nodes of the class asks that of each.
pub record AsksOwn (rules : Rules) (class attribute : ℕ) (passed : List ValueCode) (a : Asked) : Type 0 where
  pub body : Body
  pub own : Some (body_view body) ≡ own_equation rules class attribute
  pub asks : (n : ℕ) → ev rules.classes (body_view body) (own_place n passed) ≡ asked_of a n
  pub compares : AsksToCompare a

-- behind the classes what is asked comes to false by looks alone, or nothing was looked at
abbrev pub MayHavePassed : Contents ℕ → (old new : List (Location ℕ)) → (node : ℕ) → List ValueCode → Asked → Bool → Type 0
MayHavePassed look old new node passed a true = HasLooked look (entered old node passed) new (asked_of a node) (Truth false)
MayHavePassed look old new node passed a false = new ≡ old
