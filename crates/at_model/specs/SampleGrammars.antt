-- Small grammars, each with a fault, beside others that have none.
use Rattle.std.specs.Prelude.{ℕ, zero, suc, false, List, [], ◌∷◌, Option, Some}
use Rattle.at_model.specs.Declarations.{Place, Form, One, PartDeclaration, Declaration, Code, Fault}

-- a component at its place
abbrev pub part : Form → (name kind : List ℕ) → Place → PartDeclaration
part form name kind at = record { name = name; kind = kind; form = form; at = at }

-- a class in that line, with a superclass or without
abbrev pub class_in : (line : ℕ) → List ℕ → Option (List ℕ) → List PartDeclaration → Declaration
class_in line name parent parts = record { name = name; is_abstract = false; parent = parent; parts = parts; at = (line, 1) }

-- the fault of that code at that place
abbrev pub at : Code → Place → Option Fault
at code place = Some (record { code = code; at = place })

-- a name of so many letters x, and one more
abbrev pub letters_x : ℕ → List ℕ
letters_x zero = 120 ∷ []
letters_x (suc n) = 120 ∷ letters_x n

-- so many components of one class, with names of their own
abbrev pub many_parts : (kind : List ℕ) → ℕ → List PartDeclaration
many_parts kind zero = []
many_parts kind (suc n) = part One (letters_x n) kind (1, n) ∷ many_parts kind n
