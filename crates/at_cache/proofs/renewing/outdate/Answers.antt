use Rattle.at_cache.proofs.Common.{sym, ◌∙◌, memory_of}
use Rattle.at_cache.proofs.Users.{from_kept}
use Rattle.at_cache.proofs.of_cut.Outdated.{awaited_still, stays_awaited}
use Rattle.at_cache.proofs.renewing.outdate.Goals as goal

pub returns-then-stamp-ge-NUMBERS : goal.returns-then-stamp-ge-NUMBERS
returns-then-stamp-ge-NUMBERS c lists i a = awaited_still lists c.args.cut.now.entries c.args.cut.now.standings.items
    c.args.puts.now i c.args.slot a

pub returns-then-not-is_taken : goal.returns-then-not-is_taken
returns-then-not-is_taken c lists i a = awaited_still lists c.args.cut.now.entries c.args.cut.now.standings.items
    c.args.puts.now i c.args.slot a

pub outdate-requires : goal.outdate-requires
outdate-requires c = record { there = sym c.is_taken.ensures ∙ c.if-not-is_taken.false }

pub returns : goal.returns
returns c lists i a =
    let (e, there) = from_kept (memory_of c.args.cut.now.entries) c.args.slot
    (sym c.is_taken.ensures ∙ c.if-not-is_taken.false) in
    stays_awaited lists c.args.cut.now.entries c.outdate.new.self c.args.cut.now.standings.items
    c.take_trace.new.standings.items c.args.puts.now c.args.slot i c.new.result.items c.new.ensures.items a e there
    c.outdate.ensures c.take_trace.ensures.taken
