use Rattle.std.proofs.Common.{◌≡◌, ◌∙◌, ℕ, IfOk, ap, subst, sym}
use Rattle.at_model.specs.Run.{Run, Value}
use Rattle.at_rules.specs.Bodies.{body_view}
use Rattle.at_body.specs.Rest.{rest, resumed}
use Rattle.at_body.specs.Seeking.{candidates}
use Rattle.at_body.specs.Typed.{Takes}
use Rattle.at_body.specs.Values.{value_view}
use Rattle.at_body.proofs.Seeks.{decided_at, undecided}
use Rattle.at_body.proofs.of_typing.TypedSeeks.{decides_found}
use Rattle.at_body.proofs.trial.Trial.decide_among.Goals as goal

pub returns-then-truth-clause-same : goal.returns-then-truth-clause-same
returns-then-truth-clause-same c = λ classes.
    decided_at classes c.args.self.now c.args.search (body_view c.args.body.now) c.args.node (candidates c.args.others.now c.args.mark) (value_view c.args.value.now) (sym c.truth.ensures ∙ c.if-truth.true)
    ∙ ap (resumed classes c.args.self.now) (sym c.found.ensures)

pub returns-then-truth-clause-typed : goal.returns-then-truth-clause-typed
returns-then-truth-clause-typed c = λ r a h. subst (Takes r a c.args.self.now) (sym c.found.ensures)
    (decides_found r a c.args.self.now c.args.search c.args.body.now c.args.node (candidates c.args.others.now c.args.mark) (value_view c.args.value.now) h)

pub returns-clause-same : goal.returns-clause-same
returns-clause-same c = λ classes. subst (λ (r : Run ℕ (Value ℕ)). IfOk c.next_among.result (λ now. r ≡ rest classes now c.next_among.new.self))
    (sym (undecided classes c.args.self.now c.args.search (body_view c.args.body.now) c.args.node (candidates c.args.others.now c.args.mark) (value_view c.args.value.now) (sym c.truth.ensures ∙ c.if-truth.false)))
    (c.next_among.ensures.same classes)

pub returns-clause-typed : goal.returns-clause-typed
returns-clause-typed c = λ r a h. c.next_among.ensures.typed r a h.goes
