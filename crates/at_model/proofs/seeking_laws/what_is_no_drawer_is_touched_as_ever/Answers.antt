use Rattle.std.proofs.Common.{refl}
use Rattle.at_model.specs.Run.{Is, Tok, Slot, Up, Idx}
use Rattle.at_model.proofs.of_edits.NoDrawer.{touched_as_before}
use Rattle.at_model.proofs.seeking_laws.what_is_no_drawer_is_touched_as_ever.Goals as goal

pub returns-clause-is : goal.returns-clause-is
returns-clause-is c = λ t e n. touched_as_before t (Is n) (λ node part u. refl) e

pub returns-clause-token : goal.returns-clause-token
returns-clause-token c = λ t e n part. touched_as_before t (Tok n part) (λ node p u. refl) e

pub returns-clause-slot : goal.returns-clause-slot
returns-clause-slot c = λ t e n part. touched_as_before t (Slot n part) (λ node p u. refl) e

pub returns-clause-up : goal.returns-clause-up
returns-clause-up c = λ t e n. touched_as_before t (Up n) (λ node part u. refl) e

pub returns-clause-index : goal.returns-clause-index
returns-clause-index c = λ t e n. touched_as_before t (Idx n) (λ node part u. refl) e
