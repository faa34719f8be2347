use Rattle.std.proofs.Common.{◌∙◌, ℕ, ap, sym}
use Rattle.at_model.specs.Bodies.{text_of}
use Rattle.at_model.specs.Drawers.{mark_of}
use Rattle.at_model.specs.Run.{Value}
use Rattle.at_body.proofs.Naming.{is_none, is_passed}
use Rattle.at_body.proofs.candidates.mark_passed.Goals as goal

pub returns-in-Some : goal.returns-in-Some
returns-in-Some c = c.mark_of.ensures ∙ ap mark_of c.bytes_of.ensures ∙ ap (λ (v : Value ℕ). mark_of (text_of v)) (sym (is_passed c.args.arguments.now c.args.position c.in-Some.value.now c.in-Some.ensures))

pub returns-in-None : goal.returns-in-None
returns-in-None c = c.mark_of-in-None.ensures ∙ ap (λ (v : Value ℕ). mark_of (text_of v)) (sym (is_none c.args.arguments.now c.args.position c.in-None.ensures))
