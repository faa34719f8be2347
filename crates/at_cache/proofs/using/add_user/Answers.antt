use Rattle.at_cache.proofs.Common.{◌∙◌, sym, edges_in, memory_of, listed_one, lists_moved}
use Rattle.at_cache.proofs.Users.{reused_twice, still_there}
use Rattle.at_index.proofs.OneEdge.{alone_has, lists_alone}
use Rattle.at_cache.proofs.of_cut.Alive.{told_reused}
use Rattle.at_cache.proofs.using.add_user.Goals as goal

pub returns-then-is_empty-clause-lists : goal.returns-then-is_empty-clause-lists
returns-then-is_empty-clause-lists c =
    let x = c.exchange_users-users.ensures in (
      edges_in c.of.result,
      x.written,
      lists_alone _ _ _ _ _ (sym c.is_empty.ensures ∙ c.if-is_empty.true) x.was c.of.ensures,
      alone_has _ _ c.of.ensures,
    )

pub returns-then-are_outdated-clause-lists : goal.returns-then-are_outdated-clause-lists
returns-then-are_outdated-clause-lists c =
    let x = c.exchange_users-users.ensures in (
      edges_in c.of.result,
      x.written,
      lists_moved (told_reused c.args.cut.now.standings.items _ _ (memory_of c.args.cut.now.entries) _ x.written) x.was
          (listed_one (c.are_outdated.ensures c.if-are_outdated.true) c.of.ensures),
      alone_has _ _ c.of.ensures,
    )

pub returns-clause-lists : goal.returns-clause-lists
returns-clause-lists c =
    let x = c.exchange_users-users.ensures in (
      edges_in c.add_edge-result.new.edges,
      λ k. c.exchange_users.ensures.written k ∙ reused_twice _ _ _ _ _ x.written k,
      lists_moved (told_reused c.args.cut.now.standings.items _ _ (memory_of c.args.cut.now.entries) _ x.written) x.was
          c.add_edge-result.ensures.lists,
      c.add_edge-result.ensures.has,
    )

pub exchange_users-requires : goal.exchange_users-requires
exchange_users-requires c = record { there = still_there _ _ _ _ c.requires.there c.exchange_users-users.ensures.written }
