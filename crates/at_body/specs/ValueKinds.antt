-- What a value is.
use Rattle.std.specs.Prelude.{ℕ, ⊤}
use Rattle.at_model.specs.Run.{Value, Int, Truth, Text, Ref, Nodes}

-- what a value is
abbrev pub IsInt : Value ℕ → Type 0
IsInt (Int n) = ⊤
IsInt v = ⊥

abbrev pub IsTruth : Value ℕ → Type 0
IsTruth (Truth b) = ⊤
IsTruth v = ⊥

abbrev pub IsText : Value ℕ → Type 0
IsText (Text bytes) = ⊤
IsText v = ⊥

abbrev pub IsRef : Value ℕ → Type 0
IsRef (Ref n) = ⊤
IsRef v = ⊥

abbrev pub AreNodes : Value ℕ → Type 0
AreNodes (Nodes ns) = ⊤
AreNodes v = ⊥

-- both are of one kind
abbrev pub AreAlike : Value ℕ → Value ℕ → Type 0
AreAlike (Int m) w = IsInt w
AreAlike (Truth a) w = IsTruth w
AreAlike (Text bytes) w = IsText w
AreAlike (Ref m) w = IsRef w
AreAlike (Nodes ns) w = AreNodes w
