use Rattle.std.proofs.Common.{◌≡◌, ◌&&◌, ap, sym, ◌∙◌, true, false, refl}
use Rattle.at_model.specs.Bodies.{Call}
use Rattle.at_model.specs.Rules.{start_of}
use Rattle.at_model.specs.of_fixpoints.Formulas.{starts_from}
use Rattle.at_rules.specs.Bodies.{body_view, bodies_view}
use Rattle.at_body.specs.Forms.{place_of, rest}
use Rattle.at_body.specs.declared.task.Doing.TheVariants.{Evaluate, Form}
use Rattle.at_body.specs.declared.task.Purpose.TheVariants as purpose
use Rattle.at_body.proofs.FormRuns.{as_demanded, call_evaluated}
use Rattle.at_body.proofs.FormKinds.{call_evaluates, evaluates_it}
use Rattle.at_body.proofs.forming.Forming.call.Goals.{else-positive-via-then-positive+else-starts_from, else-positive-via-else-positive}
use Rattle.at_body.proofs.forming.Forming.call.Goals as goal

pub returns-then-starts_from-clause-same : goal.returns-then-starts_from-clause-same
returns-then-starts_from-clause-same c = call_evaluated c.args.rules.now c.args.self.now c.args.positive (body_view c.args.body.now) (body_view c.args.receiver.now) c.args.attribute c.args.arguments c.requires.is
    c.if-positive.true (ap (starts_from c.args.self.now.start) (sym c.start_of.ensures) ∙ sym c.starts_from.ensures ∙ c.if-starts_from.true)

pub returns-then-starts_from-clause-typed : goal.returns-then-starts_from-clause-typed
returns-then-starts_from-clause-typed c = λ at look h. call_evaluates c.args.rules.now at c.args.self.now c.args.body.now c.args.receiver.now c.args.attribute c.args.arguments c.requires.is h

pub returns-clause-same : goal.returns-clause-same
returns-clause-same c = as_demanded c.args.rules.now c.args.self.now c.args.positive (body_view c.args.body.now) (body_view c.args.receiver.now) c.args.attribute (bodies_view c.args.arguments.now) c.requires.is
    (elim c.else-positive.branch [
      | else-positive-via-then-positive+else-starts_from w ↦
          ap (λ b. b && starts_from c.args.self.now.start (start_of c.args.rules.now c.args.attribute)) w.if-positive.true
          ∙ ap (starts_from c.args.self.now.start) (sym w.start_of.ensures) ∙ sym w.starts_from.ensures ∙ w.if-starts_from.false
      | else-positive-via-else-positive w ↦ ap (λ b. b && starts_from c.args.self.now.start (start_of c.args.rules.now c.args.attribute)) w.if-positive.false
    ])

pub returns-clause-typed : goal.returns-clause-typed
returns-clause-typed c = λ at look h. evaluates_it c.args.rules.now at c.args.self.now c.args.positive c.args.body.now h
