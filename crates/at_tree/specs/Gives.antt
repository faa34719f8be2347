-- What a step of a reader returns.
use Rattle.std.specs.Prelude.{◌≡◌, Option, Some, None, Result, Ok, Err, ⊤}
use Rattle.at_text.specs.declared.fault.Failure.{Failure}
use Rattle.at_text.specs.declared.fault.Failure.TheVariants.{For, Memory}
use Rattle.at_tree.specs.declared.fault.Misfit.{Misfit}
use Rattle.at_tree.specs.declared.fault.Misfit.TheVariants.{Form}

abbrev pub Fails : {P : Type 0} → Failure Misfit → Option P → Type 0
Fails Memory read = ⊤
Fails (For Form) read = read ≡ None

-- what was returned is what the step gives, unless memory ran out
abbrev pub GivesBy : {A P : Type 0} → (A → P) → Result A (Failure Misfit) → Option P → Type 0
GivesBy view (Ok a) read = read ≡ Some (view a)
GivesBy view (Err e) read = Fails e read
