use Rattle.std.proofs.Common.{sym, ap, ◌∙◌, refl, ◌≡◌}
use Rattle.at_text.specs.Rows.{Row}
use Rattle.at_java.specs.Seen.{declared_view}
use Rattle.at_java.specs.Declarations.{declaration, first_declared, behind_modifiers}
use Rattle.at_java.proofs.Exits.{found_as, fault_as}
use Rattle.at_java.proofs.reader.Reader.declaration.Goals as goal

first : (row : Row) → declaration row ≡ first_declared (behind_modifiers row)
unfolding declaration
first row = refl

pub returns-clause-found : goal.returns-clause-found
returns-clause-found c = found_as c.first_declared.result declared_view _ _ _ (first _ ∙ ap first_declared (sym c.skips_modifiers.ensures)) c.first_declared.ensures.found

pub returns-clause-fault : goal.returns-clause-fault
returns-clause-fault c = fault_as c.first_declared.result _ _ _ (first _ ∙ ap first_declared (sym c.skips_modifiers.ensures)) c.first_declared.ensures.fault
