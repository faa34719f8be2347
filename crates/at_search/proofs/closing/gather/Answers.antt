use Rattle.std.proofs.Common.{inl, inr, sym, refl}
use Rattle.at_search.specs.Recorded.{IsSettled, seen_by, todo_of}
use Rattle.at_search.proofs.Seeing.{some_is}
use Rattle.at_search.proofs.Coming.{passes}
use Rattle.at_search.proofs.Gathering.{sees_to}
use Rattle.at_search.proofs.Working.{less_to}
use Rattle.at_search.proofs.closing.gather.Goals as goal

pub returns-then-has_seen-clause-gathered : goal.returns-then-has_seen-clause-gathered
returns-then-has_seen-clause-gathered g c = λ i x.
    passes (IsSettled (g.K.Known.value_of c.args.known.now) c.args.ended.now.entries) (λ e. Unit {0}) c.args.ended.now.entries i (seen_by c.args.search.now)
    (todo_of c.args.search.now) c.args.next x (inl c.if-has_seen.ensures)

pub returns-in-Some-clause-gathered : goal.returns-in-Some-clause-gathered
returns-in-Some-clause-gathered g c = λ i x.
    passes (IsSettled (g.K.Known.value_of c.args.known.now) c.args.ended.now.entries) (λ e. Unit {0}) c.args.ended.now.entries i (seen_by c.args.search.now)
    (todo_of c.args.search.now) c.args.next x (inr (inl (some_is (g.K.Known.value_of c.args.known.now c.args.next) _ c.in-Some.ensures)))

pub returns-then-found-clause-gathered : goal.returns-then-found-clause-gathered
returns-then-found-clause-gathered g c = λ i x.
    passes (IsSettled (g.K.Known.value_of c.args.known.now) c.args.ended.now.entries) (λ e. Unit {0}) c.args.ended.now.entries i (seen_by c.args.search.now)
    (todo_of c.args.search.now) c.args.next x (inr (inr (c.in-Some-get.found.now, sym c.in-Some-get.ensures.value, c.if-found.true)))

pub returns-clause-gathered : goal.returns-clause-gathered
returns-clause-gathered g c = λ i x.
    sees_to (g.K.Known.value_of c.args.known.now) c.args.ended.now.entries i (seen_by c.args.search.now) (todo_of c.args.search.now)
    (seen_by c.see.new.self) (todo_of c.see.new.self) c.args.next c.in-Some-get.found.now x c.in_default.ensures
    c.in-Some-get.ensures.value c.if-found.false c.in_ok-see.ensures.seen c.in_ok-see.ensures.todo

pub returns-clause-less : goal.returns-clause-less
returns-clause-less g c =
    less_to c.args.ended.now.entries (seen_by c.args.search.now) (todo_of c.args.search.now)
    (seen_by c.see.new.self) (todo_of c.see.new.self) c.args.next c.in-Some-get.found.now
    c.in-Some-get.ensures.value c.if-has_seen.ensures c.in_ok-see.ensures.seen c.in_ok-see.ensures.todo
