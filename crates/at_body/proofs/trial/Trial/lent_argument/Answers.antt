use Rattle.std.proofs.Common.{refl, ◌∙◌}
use Rattle.at_body.proofs.Naming.{is_passed}
use Rattle.at_body.proofs.trial.Trial.lent_argument.Goals as goal

pub returns : goal.returns
returns c = let h = rw (c.as_slice.ensures, c.saturating_sub-passed.ensures, c.len.ensures) at c.in-Some.ensures in (refl, is_passed c.args.self.now.arguments _ c.in-Some.argument.now h ∙ c.in-Some-text_in.ensures)
