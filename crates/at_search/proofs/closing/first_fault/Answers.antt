use Rattle.std.proofs.Common.{ap, sym, inl, inr, IsSome, reverse, ◌∙◌}
use Rattle.std.specs.Map.{keys_of}
use Rattle.at_search.specs.Recorded.{seen_by, todo_of}
use Rattle.at_model.specs.of_fixpoints.Searched.{IsMade}
use Rattle.at_search.proofs.Coming.{begins_at, steps_to as step_on}
use Rattle.at_search.proofs.Faultless.{formed_at_end, gone_on, led_out, none_taken}
use Rattle.at_search.proofs.Meeting.{begins_at as begins_met, looked, steps_to, taken}
use Rattle.at_search.proofs.closing.first_fault.Goals as goal

pub returns-then-has_fault-clause-some : goal.returns-then-has_fault-clause-some
returns-then-has_fault-clause-some g c = λ look forms facts whole.
    taken look forms c.args.inst.now (seen_by c.look_at.new.search) (todo_of c.look_at.new.search) c.look_at.new.search.fault
    c.take_fault.result c.take_fault.ensures.fault
    (looked look forms c.args.inst.now c.look_at.new.search c.in_ok-has_ended.has_ended c.if-not-has_ended.false
    (c.in_ok-has_ended.ensures.met look forms facts whole c.args.inst.now
    (steps_to look forms c.args.inst.now (seen_by c.loop-next.search)
    (seen_by c.next.new.self) (todo_of c.loop-next.search) (todo_of c.next.new.self) c.in-Some.next c.loop-next.search.fault
    c.next.new.self.fault (ap (λ m. reverse (keys_of m.entries)) c.next.ensures.seen) c.in-Some.ensures.some c.next.ensures.fault
    (c.loop-next.invariant.0 look forms facts whole))))

pub returns-then-has_fault-clause-none : goal.returns-then-has_fault-clause-none
returns-then-has_fault-clause-none g c = λ look forms facts whole.
    none_taken _ c.look_at.new.search.fault c.take_fault.result c.has_fault.result c.take_fault.ensures.fault c.has_fault.ensures
    c.if-has_fault.true

pub returns-then-not-has_ended-clause-none : goal.returns-then-not-has_ended-clause-none
returns-then-not-has_ended-clause-none g c = λ look forms facts whole.
    inl (led_out (g.K.Known.value_of c.args.known.now) c.args.ended.now.entries c.args.inst.now c.look_at.new.search c.in_ok-has_ended.has_ended
    c.if-not-has_ended.true (c.in_ok-has_ended.ensures.on c.args.inst.now
    (step_on (λ k. IsSome (g.K.Known.value_of c.args.known.now k)) IsMade c.args.ended.now.entries c.args.inst.now
    (seen_by c.loop-next.search)
    (seen_by c.next.new.self) (todo_of c.loop-next.search) (todo_of c.next.new.self) c.in-Some.next
    (ap (λ m. reverse (keys_of m.entries)) c.next.ensures.seen) c.in-Some.ensures.some c.loop-next.invariant.1)))

pub loop-next-init : goal.loop-next-init
loop-next-init g c = (
  (λ look forms facts whole. begins_met look forms c.args.inst.now (seen_by c.in_ok-search.search) (todo_of c.in_ok-search.search)
      c.in_ok-search.search.fault c.in_ok-search.ensures.seen c.in_ok-search.ensures.todo c.in_ok-search.ensures.fault),
  begins_at (λ k. IsSome (g.K.Known.value_of c.args.known.now k)) IsMade c.args.ended.now.entries c.args.inst.now
      (seen_by c.in_ok-search.search)
      (todo_of c.in_ok-search.search) c.in_ok-search.ensures.seen c.in_ok-search.ensures.todo,
)

pub loop-next-preserved : goal.loop-next-preserved
loop-next-preserved g c = (
  (λ look forms facts whole.
      looked look forms c.args.inst.now c.look_at.new.search c.in_ok-has_ended.has_ended c.if-not-has_ended.false
      (c.in_ok-has_ended.ensures.met look forms facts whole c.args.inst.now
      (steps_to look forms c.args.inst.now (seen_by c.loop-next.search)
      (seen_by c.next.new.self) (todo_of c.loop-next.search) (todo_of c.next.new.self) c.in-Some.next c.loop-next.search.fault
      c.next.new.self.fault (ap (λ m. reverse (keys_of m.entries)) c.next.ensures.seen) c.in-Some.ensures.some c.next.ensures.fault
      (c.loop-next.invariant.0 look forms facts whole)))),
  gone_on (g.K.Known.value_of c.args.known.now) c.args.ended.now.entries c.args.inst.now c.look_at.new.search c.in_ok-has_ended.has_ended
      c.has_fault.result c.if-not-has_ended.false c.has_fault.ensures c.if-has_fault.false (c.in_ok-has_ended.ensures.on c.args.inst.now
      (step_on (λ k. IsSome (g.K.Known.value_of c.args.known.now k)) IsMade c.args.ended.now.entries c.args.inst.now
      (seen_by c.loop-next.search)
      (seen_by c.next.new.self) (todo_of c.loop-next.search) (todo_of c.next.new.self) c.in-Some.next
      (ap (λ m. reverse (keys_of m.entries)) c.next.ensures.seen) c.in-Some.ensures.some c.loop-next.invariant.1)),
)

pub returns-clause-none : goal.returns-clause-none
returns-clause-none g c = λ look forms facts whole.
    inr (formed_at_end (g.K.Known.value_of c.args.known.now) c.args.ended.now.entries c.args.inst.now look forms facts whole
    (seen_by c.loop-next.search)
    (todo_of c.loop-next.search) c.loop-next.invariant.1 c.in_default.ensures.none)
