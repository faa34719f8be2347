use Rattle.std.proofs.Common.{◌∙◌, ap, sym}
use Rattle.at_body.specs.Rest.{resumed}
use Rattle.at_body.proofs.Naming.{is_passed}
use Rattle.at_body.proofs.trial.Trial.argument.Goals as goal

pub returns-clause-same : goal.returns-clause-same
returns-clause-same c = λ classes. let h = rw (c.as_slice.ensures, c.saturating_sub-passed.ensures, c.len.ensures) at c.in-Some.ensures in ap (resumed classes c.args.self.now) (is_passed c.args.self.now.arguments _ c.in-Some.value.now h ∙ sym c.in_ok-copy-in-Some.ensures)

pub returns-clause-told : goal.returns-clause-told
returns-clause-told c = λ look. let h = rw (c.as_slice.ensures, c.saturating_sub-passed.ensures, c.len.ensures) at c.in-Some.ensures in is_passed c.args.self.now.arguments _ c.in-Some.value.now h ∙ sym c.in_ok-copy-in-Some.ensures
