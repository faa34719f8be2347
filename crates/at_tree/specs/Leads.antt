-- The steps of a reader over several characters.
use Rattle.std.specs.Prelude.{◌≡◌, ℕ, List, [], ◌∷◌, ◌++◌, Option, Some, None, encode_utf8, encode_utf8_all}

-- the steps lead over the characters from one partial value to another
abbrev pub Leads : {P : Type 0} → (P → ℕ → Option P) → P → List ℕ → P → Type 0
Leads step p [] q = p ≡ q
Leads {P} step p (c ∷ cs) q = (next : P) × (step p c ≡ Some next) × Leads step next cs q

-- they lead over the characters of a text before the rest
abbrev pub LeadsTo : {P : Type 0} → (P → ℕ → Option P) → P → List ℕ → P → List ℕ → Type 0
LeadsTo step p text q rest = (cs : List ℕ) × (text ≡ encode_utf8_all cs ++ rest) × Leads step p cs q

-- and over one at least
abbrev pub Takes : {P : Type 0} → (P → ℕ → Option P) → P → List ℕ → P → List ℕ → Type 0
Takes step p text q rest = (c : ℕ) × (cs : List ℕ) × (text ≡ encode_utf8_all (c ∷ cs) ++ rest) × Leads step p (c ∷ cs) q

-- no step takes the first character of the text
abbrev pub TakesNone : {P : Type 0} → (P → ℕ → Option P) → P → List ℕ → Type 0
TakesNone step p text = (c : ℕ) × (rest : List ℕ) × (text ≡ encode_utf8 c ++ rest) × (step p c ≡ None)
