use Rattle.std.proofs.Common.{refl, sym, ap, reverse}
use Rattle.std.specs.Map.{keys_of}
use Rattle.std.specs.Box.{with_value}
use Rattle.at_demand.proofs.Questioned.{alike_done, next_taken}
use Rattle.at_demand.proofs.question.Question.next.Goals as goal

pub returns-in-Some-clause-some : goal.returns-in-Some-clause-some
returns-in-Some-clause-some c =
    let e = c.next.ensures in
    let b = c.in-Some.search in
    next_taken c.args.self.now c.deref_mut.result.now c.next.new.self b (with_value b c.next.new.self) c.next.result c.in-Some.is (sym c.deref_mut.ensures.value) refl
    e.root (ap (λ s. reverse (keys_of s.entries)) e.seen) e.fault e.some

pub returns-in-Some-clause-same : goal.returns-in-Some-clause-same
returns-in-Some-clause-same c =
    let e = c.next.ensures in
    let b = c.in-Some.search in
    alike_done c.args.self.now c.deref_mut.result.now c.next.new.self b (with_value b c.next.new.self) c.next.result c.in-Some.is (sym c.deref_mut.ensures.value) refl
    e.root (ap (λ s. reverse (keys_of s.entries)) e.seen) e.fault e.none e.left
