-- What reading and writing quoted texts promise.
use Rattle.std.specs.Prelude.{◌≡◌, ℕ, List, ◌∷◌, ◌++◌, length, Result, Ok, Err, String, string_bytes}
use Rattle.std.specs.List.{flat_map}
use Rattle.at_model.specs.Texts.{escaped, quoted}
use Rattle.at_text.specs.declared.quoted.QuoteFault.{QuoteFault}
use Rattle.at_text.specs.declared.quoted.QuoteFault.TheVariants.{Form, Memory}

-- the spelling of this value stands at the front
abbrev pub Begins : List ℕ → List ℕ → Type 0
Begins text value = (rest : List ℕ) × (text ≡ quoted value ++ rest)

-- behind the opening quote: this value is left, and then the closing quote
abbrev pub EndsIn : List ℕ → List ℕ → Type 0
EndsIn text value = (rest : List ℕ) × (text ≡ flat_map escaped value ++ 34 ∷ rest)

-- bytes were only added
abbrev pub Extends : List ℕ → List ℕ → Type 0
Extends old new = (more : List ℕ) × (new ≡ old ++ more)

-- this value with the length of its spelling, or want of memory
abbrev pub Reads : {Z : Type 0} → Result (String Z × ℕ) QuoteFault → List ℕ → Type 0
Reads (Ok r) value = (string_bytes r.0 ≡ value) × (r.1 ≡ length (quoted value))
Reads (Err e) value = e ≡ Memory

-- why this was not read: it is no text's spelling, or memory ran out
abbrev pub SpellsNone : List ℕ → QuoteFault → Type 0
SpellsNone text Form = (value : List ℕ) → quoted value ≡ text → ⊥
SpellsNone text Memory = Unit {0}

-- the whole of this is the spelling of what was read
abbrev pub Spells : {Z : Type 0} → List ℕ → Result (String Z) QuoteFault → Type 0
Spells text (Ok value) = quoted (string_bytes value) ≡ text
Spells text (Err fault) = SpellsNone text fault
