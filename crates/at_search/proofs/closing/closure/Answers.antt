use Rattle.std.proofs.Common.{ap, sym, reverse, ◌∙◌}
use Rattle.std.specs.Map.{keys_of}
use Rattle.at_search.specs.Recorded.{IsSettled, seen_by, todo_of}
use Rattle.at_search.proofs.Coming.{begins_at, steps_to}
use Rattle.at_search.proofs.Gathering.{ended_at, gone_on, led_out}
use Rattle.at_search.proofs.closing.closure.Goals as goal

pub loop-next-init : goal.loop-next-init
loop-next-init g c =
    begins_at (IsSettled (g.K.Known.value_of c.args.known.now) c.args.ended.now.entries) (λ e. Unit {0}) c.args.ended.now.entries
    c.args.inst.now (seen_by c.in_ok-search.search)
    (todo_of c.in_ok-search.search) c.in_ok-search.ensures.seen c.in_ok-search.ensures.todo

pub returns-then-not-has_ended-clause-none : goal.returns-then-not-has_ended-clause-none
returns-then-not-has_ended-clause-none g c =
    led_out (g.K.Known.value_of c.args.known.now) c.args.ended.now.entries c.args.inst.now c.gather.new.search c.in_ok-has_ended.has_ended
    c.if-not-has_ended.true
    (c.in_ok-has_ended.ensures.gathered c.args.inst.now
    (steps_to (IsSettled (g.K.Known.value_of c.args.known.now) c.args.ended.now.entries) (λ e. Unit {0}) c.args.ended.now.entries
    c.args.inst.now (seen_by c.loop-next.search)
    (seen_by c.next.new.self) (todo_of c.loop-next.search) (todo_of c.next.new.self) c.in-Some.next
    (ap (λ m. reverse (keys_of m.entries)) c.next.ensures.seen) c.in-Some.ensures.some c.loop-next.invariant))

pub loop-next-preserved : goal.loop-next-preserved
loop-next-preserved g c =
    gone_on (g.K.Known.value_of c.args.known.now) c.args.ended.now.entries c.args.inst.now c.gather.new.search c.in_ok-has_ended.has_ended
    c.if-not-has_ended.false
    (c.in_ok-has_ended.ensures.gathered c.args.inst.now
    (steps_to (IsSettled (g.K.Known.value_of c.args.known.now) c.args.ended.now.entries) (λ e. Unit {0}) c.args.ended.now.entries
    c.args.inst.now (seen_by c.loop-next.search)
    (seen_by c.next.new.self) (todo_of c.loop-next.search) (todo_of c.next.new.self) c.in-Some.next
    (ap (λ m. reverse (keys_of m.entries)) c.next.ensures.seen) c.in-Some.ensures.some c.loop-next.invariant))

pub returns-clause-some : goal.returns-clause-some
returns-clause-some g c =
    ended_at (g.K.Known.value_of c.args.known.now) c.args.ended.now.entries c.args.inst.now (seen_by c.loop-next.search)
    (todo_of c.loop-next.search) (keys_of c.take_seen.result.entries) c.loop-next.invariant c.in_default.ensures.none
    (ap (λ m. reverse (keys_of m.entries)) (sym (c.take_seen.ensures.seen ∙ c.next.ensures.seen)))
