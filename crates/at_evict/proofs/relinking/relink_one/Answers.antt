use Rattle.at_evict.proofs.Common.{◌∙◌, subst, sym, edges_in, AreLone, slots_at, memory_of}
use Rattle.at_evict.proofs.of_folding.Relinking.{current_taken, relinks_none, relinks_one}
use Rattle.at_evict.proofs.relinking.relink_one.Goals as goal

pub returns-then-not-is_taken : goal.returns-then-not-is_taken
returns-then-not-is_taken c = relinks_none _ c.args.slot _ (sym c.is_taken.ensures ∙ c.if-not-is_taken.true)

pub exchange_users-users-requires : goal.exchange_users-users-requires
exchange_users-users-requires c = record { there = sym c.is_taken.ensures ∙ c.if-not-is_taken.false }

pub invariant_of-by : goal.invariant_of-by
invariant_of-by c = record {
  alone = subst (λ t. AreLone t (slots_at c.args.plan.now) c.args.lone.now.none c.args.lone.now.stamps.items)
      (sym (current_taken c.args.slot _ _ c.exchange_users-users.ensures.written)) c.requires.lone;
}

pub returns : goal.returns
returns c =
    relinks_one c.args.links.now c.in_ok-list.list.items c.args.slot (memory_of c.args.entries.now) (memory_of c.exchange_users-users.new.self) (memory_of c.relink.new.self)
    (edges_in c.exchange_users-users.result) (edges_in c.rewrite_list.new.edges) c.exchange_users-users.ensures.written c.exchange_users-users.ensures.was
    c.in_ok-rewrite_list.ensures c.relink.ensures c.in_ok-list.ensures
