use Rattle.at_store.specs.Shown.{contents}
use Rattle.std.proofs.Common.{refl, ◌∙◌, ap, sym, map}
use Rattle.at_body.proofs.Steps.{behind_same}
use Rattle.at_body.proofs.of_typing.TypedShown.{shown_typed}
use Rattle.at_body.proofs.of_typing.TypedStarting.{equation_enters}
use Rattle.at_body.specs.Typed.{class_shown}
use Rattle.at_body.proofs.trial.Trial.restart.Goals as goal

pub returns-clause-found : goal.returns-clause-found
returns-clause-found c = behind_same c.advance.result c.args.rules.now.classes c.advance.new.self _ _ c.advance.new.self.reads c.in_ok-body.ensures.same c.advance.ensures.found

pub advance-requires-clause-over : goal.advance-requires-clause-over
advance-requires-clause-over c = shown_typed c.args.rules.now c.args.store.now c.requires.idle c.requires.formed c.requires.sound

pub advance-requires-clause-typed : goal.advance-requires-clause-typed
advance-requires-clause-typed c = equation_enters c.args.rules.now (class_shown c.args.store.now) _ _ c.args.inst.now.attribute c.in_ok-body.ensures.alone.idle c.in_ok-body.ensures.equation
