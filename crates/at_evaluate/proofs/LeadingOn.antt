-- Where an instance leads, on from one to the next.
use Rattle.at_model.specs.Run.{Instance, Location, Contents}
use Rattle.at_model.specs.of_fixpoints.Formulas.{Forms}
use Rattle.at_model.specs.of_fixpoints.Resting.{Leads, Supports}
use Rattle.at_model.proofs.of_formulas.Spreading.{leads_further}

module _ {N : Type 0} (look : Contents N) (forms : Forms N) where
  pub leads_on : (i j k : Instance N) → Leads look forms i j → Leads look forms j k → Leads look forms i k
  leads_on i j k h g = leads_further look forms i j k h g

  pub supports_on : (i j : Instance N) (l : Location N) → Leads look forms i j → Supports look forms l j → Supports look forms l i
  supports_on i j l led (k, more, sees) = (k, leads_on i j k led more, sees)
