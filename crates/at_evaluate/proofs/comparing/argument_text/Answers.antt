use Rattle.std.proofs.Common.{◌≡◌, subst, sym, IfSome}
use Rattle.at_model.specs.Run.{Text}
use Rattle.at_body.proofs.Naming.{is_passed}
use Rattle.at_evaluate.proofs.comparing.argument_text.Goals as goal

pub returns : goal.returns
returns c = subst (λ v. IfSome c.text_in.result (λ text. v ≡ Text text.now)) (sym (is_passed c.args.arguments.now c.args.position c.in-Some.value.now c.in-Some.ensures)) c.text_in.ensures
