-- What the answer of a reader says.
use Rattle.std.specs.Prelude.{◌≡◌, ℕ, IfErr, IfOk, List, Result, Ok, Err, ⊤}
use Rattle.at_tree.specs.Stops.{StopsAt}
use Rattle.at_tree.specs.declared.fault.TermFault.{TermFault}
use Rattle.at_tree.specs.declared.fault.TermFault.TheVariants.{Syntax, Memory}

-- this value, or want of memory
abbrev pub Reads : {A B : Type 0} → (A → B) → Result A TermFault → B → Type 0
Reads view (Ok a) b = view a ≡ b
Reads view (Err e) b = e ≡ Memory

-- the place where the text stops being one of the kind, or want of memory
abbrev pub StopsWith : (List ℕ → Type 0) → List ℕ → TermFault → Type 0
StopsWith IsWhole text (Syntax place) = StopsAt IsWhole text place
StopsWith IsWhole text Memory = ⊤

-- What a reader of a kind of values says of a text: what is read is the value that the text is written of; whatever value it is written
-- of is read, unless memory runs out; and a fault stands where the text stops being one of the kind.
pub record ReadsText {A B : Type 0} (view : A → B) (Fits : B → Type 0) (written : B → List ℕ) (IsWhole : List ℕ → Type 0) (text : List ℕ)
    (result : Result A TermFault) : Type 0 where
  pub found : IfOk result (λ a. Fits (view a) × (written (view a) ≡ text))
  pub only : (b : B) → Fits b → written b ≡ text → Reads view result b
  pub fault : IfErr result (StopsWith IsWhole text)
