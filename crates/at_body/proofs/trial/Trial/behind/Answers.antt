use Rattle.std.proofs.Common.{◌≡◌, ℕ, IfOk, subst, sym}
use Rattle.at_model.specs.Run.{Run, Value}
use Rattle.at_body.specs.Rest.{rest}
use Rattle.at_body.specs.Values.{value_view}
use Rattle.at_body.proofs.Seeks.{unbound_among}
use Rattle.at_body.proofs.of_typing.TypedSeeks.{is_behind}
use Rattle.at_body.proofs.trial.Trial.behind.Goals as goal

pub decide_among-requires : goal.decide_among-requires
decide_among-requires c =
    let (r, a, h) = c.requires.typed in
    let b = is_behind r a c.args.self.now c.args.search c.args.mark c.args.body c.args.others.now (value_view c.args.value.now) h in
    record { truth = b.truth; idle_store = b.idle }

pub returns-clause-same : goal.returns-clause-same
returns-clause-same c = λ classes. subst (λ (r : Run ℕ (Value ℕ)). IfOk c.decide_among.result (λ now. r ≡ rest classes now c.decide_among.new.self))
    (sym (unbound_among classes c.args.self.now c.args.search c.args.mark c.args.body c.args.others.now c.in-Some.node c.pop.new.self (value_view c.args.value.now) c.in-Some.ensures.taken))
    (c.decide_among.ensures.same classes)

pub returns-clause-typed : goal.returns-clause-typed
returns-clause-typed c = λ r a h. c.decide_among.ensures.typed r a
    ((is_behind r a c.args.self.now c.args.search c.args.mark c.args.body c.args.others.now (value_view c.args.value.now) h).decides c.in-Some.node c.pop.new.self c.in-Some.ensures.taken)
