use Rattle.at_seek.proofs.SameMachine.{formed_to, formed_from}
use Rattle.at_seek.proofs.laws.what_is_sought_is_answered_the_same.Goals as goal

pub returns-clause-to : goal.returns-clause-to
returns-clause-to c = λ rules also sought ok t sound q a formed h. formed_to rules also sought ok t sound q a formed h

pub returns-clause-from : goal.returns-clause-from
returns-clause-from c = λ rules also sought ok t sound q a formed h. formed_from rules also sought ok t sound q a formed h
