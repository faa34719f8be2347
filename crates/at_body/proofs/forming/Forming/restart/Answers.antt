use Rattle.std.proofs.Common.{◌≡◌, ◌∙◌, ap, nat_eq, sym}
use Rattle.at_model.specs.Rules.{start_of}
use Rattle.at_model.specs.of_fixpoints.Evaluations.{evaluation}
use Rattle.at_store.specs.Shown.{contents}
use Rattle.at_body.specs.Forms.{reached}
use Rattle.at_body.specs.Typed.{class_shown}
use Rattle.at_body.proofs.FormKinds.{equation_forms}
use Rattle.at_body.proofs.FormRuns.{begun_found}
use Rattle.at_body.proofs.of_typing.TypedShown.{shown_typed}
use Rattle.at_body.proofs.forming.Forming.restart.Goals as goal

pub advance-requires-clause-over : goal.advance-requires-clause-over
advance-requires-clause-over c = shown_typed c.args.rules.now c.args.store.now c.requires.asked.idle c.requires.asked.formed c.requires.asked.sound

pub advance-requires-clause-typed : goal.advance-requires-clause-typed
advance-requires-clause-typed c = equation_forms c.args.rules.now (class_shown c.args.store.now) c.seek.new.self c.settle.new.self c.in_ok-body.body.now c.args.inst.now.attribute c.attribute.result c.requires.asked.formed.typed c.in_ok-body.ensures.equation c.attribute.ensures
    c.in_ok-settle.ensures.start c.in_ok-settle.ensures.place c.in_ok-settle.ensures.tasks c.in_ok-settle.ensures.pile

pub returns-clause-found : goal.returns-clause-found
returns-clause-found c = begun_found c.advance.result c.args.rules.now (contents c.args.store.now) c.settle.new.self c.seek.new.self c.args.inst.now.attribute c.in_ok-body.body ((evaluation c.args.rules.now nat_eq).formula c.args.inst.now)
    (λ p. (reached c.args.rules.now p c.advance.new.self, c.advance.new.self.trial.reads))
    (ap (start_of c.args.rules.now) (sym c.attribute.ensures) ∙ c.in_ok-settle.ensures.start) c.in_ok-settle.ensures.place c.in_ok-settle.ensures.tasks c.in_ok-settle.ensures.pile c.in_ok-settle.ensures.trial c.in_ok-body.ensures.formed c.advance.ensures.found
