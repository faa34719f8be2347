use Rattle.std.proofs.Common.{◌∙◌, sym}
use Rattle.at_body.proofs.Naming.{is_passed}
use Rattle.at_evaluate.proofs.here.Here.argument.Goals as goal

pub returns-in_ok-copy-in-Some : goal.returns-in_ok-copy-in-Some
returns-in_ok-copy-in-Some c = let h = rw (c.as_slice.ensures, c.saturating_sub-passed.ensures, c.len.ensures) at c.in-Some.ensures in is_passed c.args.self.now.arguments _ c.in-Some.value.now h ∙ sym c.in_ok-copy-in-Some.ensures
