use Rattle.std.proofs.Common.{◌≡◌, map, rules}
use Rattle.at_body.specs.Values.{value_view}
use Rattle.at_body.proofs.FormKinds.{asks_completes}
use Rattle.at_body.proofs.forming.Forming.asks.Goals as goal

pub returns-in_ok-push_asks-in-Some-clause-does : goal.returns-in_ok-push_asks-in-Some-clause-does
returns-in_ok-push_asks-in-Some-clause-does c =
    record { same = search rules; less = search rules; reads = search rules }

pub returns-in-None-clause-does : goal.returns-in-None-clause-does
returns-in-None-clause-does c = record { same = search rules; less = search rules; reads = search rules }

pub returns-in_ok-push_asks-in-Some-clause-typed : goal.returns-in_ok-push_asks-in-Some-clause-typed
returns-in_ok-push_asks-in-Some-clause-typed c = λ rules at look over h.
    asks_completes rules at look over c.args.self.now c.args.attribute c.in-Some.node c.args.node (map value_view c.args.arguments) _ c.push_asks.new.self c.in-Some.is c.new.ensures c.in_ok-push_asks-in-Some.ensures h
