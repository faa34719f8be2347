use Rattle.at_index.proofs.Common.{refl, Is, Up}
use Rattle.at_index.proofs.Locations.{power_alone, stands_alone}
use Rattle.at_index.proofs.facet.Facet.of.Goals as goal

pub returns-in-Is : goal.returns-in-Is
returns-in-Is c l = rw c.in-Is.is (stands_alone 1 0 (Is c.in-Is.field-0) l (power_alone 0) refl)

pub returns-in-Up : goal.returns-in-Up
returns-in-Up c l = rw c.in-Up.is (stands_alone 2 1 (Up c.in-Up.field-0) l (power_alone 1) refl)
