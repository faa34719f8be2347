use Rattle.std.proofs.Common.{◌≡◌, ◌∙◌, [], ap, map, refl, sym, subst}
use Rattle.at_model.specs.TypedRuns.{IsTypedRun}
use Rattle.at_rules.specs.Bodies.{body_view}
use Rattle.at_store.specs.Shown.{contents}
use Rattle.at_body.specs.Forms.{place_of, stepped}
use Rattle.at_body.specs.Rest.{ev}
use Rattle.at_body.specs.Rest as trial
use Rattle.at_body.specs.Typed.{class_shown}
use Rattle.at_body.specs.declared.trial.Trial.{Trial}
use Rattle.at_body.proofs.FormRuns.{alone_there, evaluated_at}
use Rattle.at_body.proofs.FormKinds.{at_its_place, trial_enters, evaluates_typed}
use Rattle.at_body.proofs.forming.Forming.evaluate.Goals as goal

pub advance-requires-clause-typed : goal.advance-requires-clause-typed
advance-requires-clause-typed c = trial_enters c.args.rules.now (class_shown c.args.store.now) (contents c.args.store.now) c.args.self.now c.args.purpose c.args.body.now c.stand.new.self c.requires.typed
    (at_its_place c.args.self.now c.stand.new.self c.in_ok-stand.ensures.this c.in_ok-stand.ensures.child c.in_ok-stand.ensures.bound (c.in_ok-stand.ensures.arguments ∙ c.in_ok-arguments.ensures)) c.in_ok-stand.ensures.idle

pub returns-clause-same : goal.returns-clause-same
returns-clause-same c = evaluated_at c.args.rules.now (contents c.args.store.now) c.args.self.now c.args.purpose c.args.body c.in_ok-step.step c.stand.new.self c.advance.new.self c.stepped.result
    (at_its_place c.args.self.now c.stand.new.self c.in_ok-stand.ensures.this c.in_ok-stand.ensures.child c.in_ok-stand.ensures.bound (c.in_ok-stand.ensures.arguments ∙ c.in_ok-arguments.ensures)) c.in_ok-stand.ensures.idle c.in_ok-stand.ensures.reads c.in_ok-step.ensures.found c.stepped.ensures

pub returns-clause-typed : goal.returns-clause-typed
returns-clause-typed c = evaluates_typed c.args.rules.now (class_shown c.args.store.now) (contents c.args.store.now) c.requires.over c.args.self.now c.args.purpose c.args.body c.in_ok-step.step c.stand.new.self c.advance.new.self c.stepped.result
    (at_its_place c.args.self.now c.stand.new.self c.in_ok-stand.ensures.this c.in_ok-stand.ensures.child c.in_ok-stand.ensures.bound (c.in_ok-stand.ensures.arguments ∙ c.in_ok-arguments.ensures)) c.in_ok-stand.ensures.idle c.in_ok-stand.ensures.reads c.in_ok-step.ensures.found c.in_ok-step.ensures.typed c.stepped.ensures c.requires.typed
