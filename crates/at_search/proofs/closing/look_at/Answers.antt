use Rattle.std.proofs.Common.{inl, inr, IsSome, sym, refl}
use Rattle.at_model.specs.of_fixpoints.Searched.{IsMade}
use Rattle.at_search.specs.Recorded.{seen_by, todo_of, end_of}
use Rattle.at_search.proofs.Seeing.{some_is}
use Rattle.at_search.proofs.Coming.{passes as passes_on}
use Rattle.at_search.proofs.Faultless.{sees_to as sees_on}
use Rattle.at_search.proofs.Meeting.{passes, sees_to}
use Rattle.at_search.proofs.Working.{less_to}
use Rattle.at_search.proofs.closing.look_at.Goals as goal

pub returns-then-has_seen-clause-met : goal.returns-then-has_seen-clause-met
returns-then-has_seen-clause-met g c = λ look forms facts whole i m.
    passes look forms i (seen_by c.args.search.now) (todo_of c.args.search.now) c.args.next c.args.search.now.fault m (inl c.if-has_seen.ensures)

pub returns-in-Some-clause-met : goal.returns-in-Some-clause-met
returns-in-Some-clause-met g c = λ look forms facts whole i m.
    passes look forms i (seen_by c.args.search.now) (todo_of c.args.search.now) c.args.next c.args.search.now.fault m
    (inr (whole c.args.next (some_is (g.K.Known.value_of c.args.known.now c.args.next) _ c.in-Some.ensures)))

pub returns-clause-met : goal.returns-clause-met
returns-clause-met g c = λ look forms facts whole i m.
    sees_to look forms i (seen_by c.args.search.now) (todo_of c.args.search.now)
    (seen_by c.see.new.self) (todo_of c.see.new.self) c.args.next c.in-Some-get.found.now.ending c.args.search.now.fault c.see.new.self.fault
    m c.if-has_seen.ensures
    (facts c.args.next (end_of c.in-Some-get.found.now.ending) (c.in-Some-get.found.now, sym c.in-Some-get.ensures.value, refl))
    c.in_ok-see.ensures.fault c.in_ok-see.ensures.seen c.in_ok-see.ensures.todo

pub returns-clause-less : goal.returns-clause-less
returns-clause-less g c =
    less_to c.args.ended.now.entries (seen_by c.args.search.now) (todo_of c.args.search.now)
    (seen_by c.see.new.self) (todo_of c.see.new.self) c.args.next c.in-Some-get.found.now
    c.in-Some-get.ensures.value c.if-has_seen.ensures c.in_ok-see.ensures.seen c.in_ok-see.ensures.todo

pub returns-then-has_seen-clause-on : goal.returns-then-has_seen-clause-on
returns-then-has_seen-clause-on g c = λ i x none.
    passes_on (λ k. IsSome (g.K.Known.value_of c.args.known.now k)) IsMade c.args.ended.now.entries i (seen_by c.args.search.now)
    (todo_of c.args.search.now) c.args.next x (inl c.if-has_seen.ensures)

pub returns-in-Some-clause-on : goal.returns-in-Some-clause-on
returns-in-Some-clause-on g c = λ i x none.
    passes_on (λ k. IsSome (g.K.Known.value_of c.args.known.now k)) IsMade c.args.ended.now.entries i (seen_by c.args.search.now)
    (todo_of c.args.search.now) c.args.next x (inr (some_is (g.K.Known.value_of c.args.known.now c.args.next) _ c.in-Some.ensures))

pub returns-clause-on : goal.returns-clause-on
returns-clause-on g c = λ i x.
    sees_on (g.K.Known.value_of c.args.known.now) c.args.ended.now.entries i (seen_by c.args.search.now) (todo_of c.args.search.now)
    (seen_by c.see.new.self) (todo_of c.see.new.self) c.args.next c.in-Some-get.found.now c.args.search.now.fault c.see.new.self.fault
    x c.in_default.ensures c.in-Some-get.ensures.value c.in_ok-see.ensures.fault c.in_ok-see.ensures.seen c.in_ok-see.ensures.todo
