-- What the end of a text gives.
use Rattle.std.specs.Prelude.{◌≡◌, ℕ, Option, Some, None, Result, Ok, Err, ⊤}
use Rattle.at_tree.specs.declared.fault.TermFault.{TermFault}
use Rattle.at_tree.specs.declared.fault.TermFault.TheVariants.{Syntax, Memory}

-- the end as the place of the fault, where nothing is whole
abbrev pub FailsAt : {B : Type 0} → ℕ → TermFault → Option B → Type 0
FailsAt end (Syntax place) whole = (place ≡ end) × (whole ≡ None)
FailsAt end Memory whole = ⊤

-- the value that is whole
abbrev pub Finishes : {A B : Type 0} → (A → B) → Result A TermFault → Option B → ℕ → Type 0
Finishes view (Ok a) whole end = whole ≡ Some (view a)
Finishes view (Err e) whole end = FailsAt end e whole
