-- What stands there is of another form: there is one such reason.
use Rattle.std.proofs.Common.{◌≡◌, refl}
use Rattle.at_tree.specs.declared.fault.Misfit.{Misfit}
use Rattle.at_tree.specs.declared.fault.Misfit.TheVariants.{Form}

pub one_form : (m : Misfit) → m ≡ Form
one_form Form = refl
