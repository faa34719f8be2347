use Rattle.std.proofs.Common.{◌≡◌, ◌∙◌, sym}
use Rattle.at_store.specs.Shown.{contents}
use Rattle.at_body.specs.Forms.{reached}
use Rattle.at_body.specs.Typed.{class_shown}
use Rattle.at_body.specs.Values.{value_view}
use Rattle.at_body.proofs.FormKinds.{told_typed}
use Rattle.at_body.proofs.FormRuns.{told_found}
use Rattle.at_body.proofs.forming.Forming.resume.Goals as goal

pub advance-requires-clause-typed : goal.advance-requires-clause-typed
advance-requires-clause-typed c = rw (c.replace.ensures.after) (told_typed c.args.rules.now (class_shown c.args.store.now) (contents c.args.store.now) c.args.self.now (value_view c.args.value) c.in-Some.purpose c.in_ok-step.step c.resume.new.self c.stepped.result
    (sym c.in-Some.ensures.value) c.requires.takes c.in_ok-step.ensures.found c.in_ok-step.ensures.typed c.stepped.ensures)

pub returns-clause-found : goal.returns-clause-found
returns-clause-found c = told_found c.advance.result c.args.rules.now (contents c.args.store.now) c.args.self.now (value_view c.args.value) c.in-Some.purpose c.in_ok-step.step c.resume.new.self c.stepped.result c.replace.new.dest
    (λ p. (reached c.args.rules.now p c.advance.new.self, c.advance.new.self.trial.reads))
    (sym c.in-Some.ensures.value) c.in_ok-step.ensures.found c.stepped.ensures c.advance.ensures.found
