use Rattle.std.proofs.Common.{◌∙◌, sym}
use Rattle.at_model.specs.Machine.{takes_numbers}
use Rattle.at_engine.specs.Engines.{rules_of}
use Rattle.at_engine.proofs.ReadingLemmas.{any_viewed, with_some, without}
use Rattle.at_engine.proofs.engine.Engine.reads.Goals as goal

pub returns-then-not-pass_numbers : goal.returns-then-not-pass_numbers
returns-then-not-pass_numbers g c =
    without (takes_numbers (rules_of c.args.self.now)) _ (sym (any_viewed c.args.arguments.now) ∙ sym c.pass_numbers.ensures ∙ c.if-not-pass_numbers.true)

pub returns : goal.returns
returns g c =
    c.takes_numbers.ensures
    ∙ with_some (takes_numbers (rules_of c.args.self.now)) _ (sym (any_viewed c.args.arguments.now) ∙ sym c.pass_numbers.ensures ∙ c.if-not-pass_numbers.false)
