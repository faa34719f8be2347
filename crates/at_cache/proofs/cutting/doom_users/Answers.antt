use Rattle.at_cache.proofs.Common.{subst, List, Edge, edges_in, GoesOver}
use Rattle.at_cache.proofs.of_cut.Passing.{over_users, still_there}
use Rattle.at_cache.proofs.cutting.doom_users.Goals as goal

pub exchange_users-requires : goal.exchange_users-requires
exchange_users-requires c = record {
  there = still_there c.args.loss c.args.slot (edges_in c.exchange_users-users.result) c.args.first c.doom_listed-first.result c.args.cut.now c.exchange_users-users.new.self
      c.doom_listed-first.new.cut c.requires.there c.requires.hidden c.exchange_users-users.ensures.was c.exchange_users-users.ensures.written c.exchange_users-users.ensures.len
      c.doom_listed-first.ensures;
}

pub returns : goal.returns
returns c = over_users c.args.loss c.args.slot (edges_in c.exchange_users-users.result) c.args.first c.doom_listed-first.result c.args.cut.now c.exchange_users-users.new.self
    c.doom_listed-first.new.cut c.requires.there c.requires.hidden c.exchange_users-users.ensures.was c.exchange_users-users.ensures.written c.exchange_users-users.ensures.len
    c.doom_listed-first.ensures c.exchange_users.new.self c.exchange_users.ensures.written c.exchange_users.ensures.len

pub returns-in-Some : goal.returns-in-Some
returns-in-Some c = subst (λ (us : List Edge). GoesOver c.args.loss us c.args.first c.args.cut.now c.doom_row.result c.doom_row.new.cut) c.in-Some.ensures c.doom_row.ensures
