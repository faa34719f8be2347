use Rattle.at_engine.proofs.marks.using.has_named.Goals as goal

pub returns-in-Set : goal.returns-in-Set
returns-in-Set g c = rw c.in-Set.is c.has_in.ensures

pub returns-in-Put : goal.returns-in-Put
returns-in-Put g c = rw c.in-Put.is c.has_in-in-Put.ensures

pub returns-in-Drop : goal.returns-in-Drop
returns-in-Drop g c = rw c.in-Drop.is c.has_in-in-Drop.ensures

pub returns-in-Insert : goal.returns-in-Insert
returns-in-Insert g c = rw c.in-Insert.is c.has_in-in-Insert.ensures

pub returns-in-Token : goal.returns-in-Token
returns-in-Token g c = rw c.in-Token.is c.has_in-in-Token.ensures
