-- Where a text is refused.
use Rattle.std.specs.Prelude.{◌≡◌, ℕ, List, [], ◌∷◌, ◌++◌, Bool, cond, ◌||◌, ◌⊎◌}
use lib.Chars.{codes}
use Rattle.at_text.specs.Symbols.{PlacedToken, HasTokens, next_place}
use Rattle.at_text.specs.Rows.{is_word}
use Rattle.at_jrag.specs.FirstFault.{GoesOn, IsFirstFault}
use Rattle.at_jrag.specs.declared.Forms.{Forms}
use Rattle.at_jrag.specs.Forms.{IsFile, IsFileWithin, MeetsLeftOut}
use Rattle.at_text.specs.declared.scan.ScanFault.{ScanFault}
use Rattle.at_text.specs.declared.scan.ScanFault.TheVariants as scan
use Rattle.at_text.specs.Faults.{FaultsAt}
use Rattle.at_text.specs.Place.{first_place, place_of}
use Rattle.at_text.specs.declared.place.Place.{Place}
use Rattle.at_text.specs.declared.fault.Fault.{Fault}
use Rattle.at_text.specs.declared.fault.Fault.TheVariants.{Refused, Memory}
use Rattle.at_jrag.specs.declared.JragCode.{JragCode}
use Rattle.at_jrag.specs.declared.JragCode.TheVariants.{Syntax, LeftOut, Nesting}

-- ---- declarations

-- one begins with the token
abbrev pub begins_declaration : PlacedToken → Bool
begins_declaration t = is_word (codes "syn") t || is_word (codes "inh") t || is_word (codes "eq") t

-- the place of the last of the tokens that begins one; this place, where there is none
abbrev pub last_from : Place → List PlacedToken → Place
last_from at [] = at
last_from at (t ∷ ts) = last_from (cond (begins_declaration t) t.at at) ts

abbrev pub last_declaration : List PlacedToken → Place
last_declaration tokens = last_from first_place tokens

-- ---- texts that can't be cut into tokens

-- what is answered for a text that can't be cut into tokens
abbrev pub uncut : List ℕ → ScanFault → Fault JragCode
uncut text scan.Memory = Memory
uncut text (scan.Bad offset) = Refused Syntax (place_of text offset)
uncut text (scan.OpenText offset) = Refused Syntax (place_of text offset)
uncut text (scan.OpenComment offset) = Refused Syntax (place_of text offset)

-- the text is no row of tokens, and this is the place where it can't be cut further
abbrev pub IsScanFaultAt : List ℕ → Place → ScanFault → Type 0
IsScanFaultAt text at fault = FaultsAt text fault × (uncut text fault ≡ Refused Syntax at)

-- ---- where reading stops

-- The front begins a file within the limit, and no such file goes on with the token after it, or with the end of the text.
pub record StopsAt (forms : Forms) (text : List ℕ) (front rest : List PlacedToken) : Type 0 where
  pub tokens : HasTokens text (front ++ rest)
  pub fault : IsFirstFault (IsFileWithin forms) front rest

-- the place of a fault between the front and the rest: of the declaration, where its expressions nest too deep
abbrev pub fault_place : List ℕ → JragCode → (front rest : List PlacedToken) → Place
fault_place text Syntax front rest = next_place text rest
fault_place text LeftOut front rest = next_place text rest
fault_place text Nesting front rest = last_declaration front

-- The fault of the text: it can't be cut into tokens, or reading stops. Where no file goes on, however deep its expressions
-- nest, it is a syntax error, or a form begins there that is left out; where one does, they nest too deep. Of want of
-- memory nothing is said.
abbrev pub IsFault : Forms → List ℕ → Fault JragCode → Type 0
IsFault forms text Memory = Unit {0}
IsFault forms text (Refused Syntax at) = ((fault : ScanFault) × IsScanFaultAt text at fault)
    ⊎ ((front : List PlacedToken) × (rest : List PlacedToken) × StopsAt forms text front rest × (GoesOn (IsFile forms) front rest → ⊥)
    × (MeetsLeftOut forms front rest → ⊥) × (at ≡ next_place text rest))
IsFault forms text (Refused LeftOut at) =
    (front : List PlacedToken) × (rest : List PlacedToken) × StopsAt forms text front rest × (GoesOn (IsFile forms) front rest → ⊥)
    × MeetsLeftOut forms front rest × (at ≡ next_place text rest)
IsFault forms text (Refused Nesting at) =
    (front : List PlacedToken) × (rest : List PlacedToken) × StopsAt forms text front rest × GoesOn (IsFile forms) front rest × (at ≡ last_declaration front)
