use Rattle.std.proofs.Common.{◌++◌, ◌∷◌, [], OnOk, sym, subst}
use Rattle.std.specs.Map.{keys_of}
use Rattle.at_search.specs.Systems.{HasPushed, IsUnderWay}
use Rattle.at_search.proofs.Adding.{value_added}
use Rattle.at_search.proofs.conditions.Conditions.add.Goals as goal

pub returns-in-Known-clause-added : goal.returns-in-Known-clause-added
returns-in-Known-clause-added g c = λ ps u.
    rw c.in-Known.is (value_added (g.K.Known.value_of c.args.known.now) (keys_of c.args.seen.now.entries) c.push.result c.args.self.now
    c.push.new.self ps c.in-Known.value u c.push.ensures.stays
    (subst (λ z. OnOk c.push.result (HasPushed z c.args.self.now c.push.new.self)) c.tells.ensures c.push.ensures.pushed))
