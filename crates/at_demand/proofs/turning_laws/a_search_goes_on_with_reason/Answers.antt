use Rattle.std.proofs.Common.{None, refl}
use Rattle.at_store.specs.Shown.{contents}
use Rattle.at_evaluate.specs.Valued.{meaning}
use Rattle.at_demand.proofs.of_levels.Wholes.{whole_led}
use Rattle.at_demand.proofs.of_searches.ReasonedTurns.{reasons_more, reasons_posted, turn_reasons}
use Rattle.at_demand.proofs.of_searches.Stepping.{whole_valued}
use Rattle.at_demand.proofs.turning_laws.a_search_goes_on_with_reason.Goals as goal

pub returns-clause-posted : goal.returns-clause-posted
returns-clause-posted c look forms first q = reasons_posted look forms first q

pub returns-clause-turned : goal.returns-clause-turned
returns-clause-turned c rules s first kept q i can circle right reasons u v on r x =
    turn_reasons (contents s) (meaning rules) first q i circle kept right reasons
    (whole_led rules s can.basis.idle can.basis.formed can.basis.sound q can.typed) (whole_valued rules (contents s)) u v None on r x refl

pub returns-clause-more : goal.returns-clause-more
returns-clause-more c look forms first more grows q u r = reasons_more look forms first more grows q u r
