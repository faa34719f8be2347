use Rattle.std.proofs.Common.{◌≡◌, ◌∙◌, map, refl, subst, sym, IfSome}
use Rattle.at_model.specs.Run.{Text}
use Rattle.at_body.specs.Values.{value_view}
use Rattle.at_body.proofs.Naming.{is_behind}
use Rattle.at_evaluate.proofs.comparing.lent_argument.Goals as goal

pub returns : goal.returns
returns c =
    let h = rw (c.as_slice.ensures, c.saturating_sub-passed.ensures, c.len.ensures) at c.argument_text.ensures in
    subst (λ v. IfSome c.argument_text.result (λ text. v ≡ Text text.now)) (sym (is_behind c.args.here.now.bound (map value_view c.args.here.now.arguments) c.args.position _ (cc) refl)) h
