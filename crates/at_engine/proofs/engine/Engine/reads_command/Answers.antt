use Rattle.std.proofs.Common.{◌∙◌, ◌||◌, not, List, ap}
use Rattle.std.specs.List.{list_any}
use Rattle.at_model.specs.Machine.{is_number, takes_numbers}
use Rattle.at_protocol.specs.LineView.{arguments_view}
use Rattle.at_protocol.specs.declared.line.Argument.{Argument}
use Rattle.at_engine.specs.Engines.{rules_of}
use Rattle.at_engine.proofs.ReadingLemmas.{other_read}
use Rattle.at_engine.proofs.engine.Engine.reads_command.Goals as goal

pub returns-in-Post : goal.returns-in-Post
returns-in-Post g c =
    rw c.in-Post.is (c.reads.ensures
    ∙ ap (λ (l : List Argument). takes_numbers (rules_of c.args.self.now) || not (list_any is_number (arguments_view l))) c.deref.ensures.value)

pub returns-in_default : goal.returns-in_default
returns-in_default g c = other_read (rules_of c.args.self.now) c.args.command.now c.in_default.not-Post
