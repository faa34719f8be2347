use Rattle.std.proofs.Common.{◌∙◌, ℕ, ap, map, sym, refl}
use Rattle.at_model.specs.Bodies.{text_of}
use Rattle.at_model.specs.Drawers.{mark_of}
use Rattle.at_model.specs.Run.{Value}
use Rattle.at_body.specs.Values.{value_view}
use Rattle.at_body.proofs.Naming.{is_bound, is_behind}
use Rattle.at_body.proofs.candidates.mark_named.Goals as goal

pub returns-in-Some : goal.returns-in-Some
returns-in-Some c = c.mark_of.ensures ∙ ap (λ (v : Value ℕ). mark_of (text_of v)) (sym (is_bound c.args.bound.now (map value_view c.args.arguments.now) c.args.position c.in-Some.field-0 (cc)))

pub returns-in-None : goal.returns-in-None
returns-in-None c = c.mark_passed.ensures ∙ ap (λ (v : Value ℕ). mark_of (text_of v)) (sym (is_behind c.args.bound.now (map value_view c.args.arguments.now) c.args.position c.saturating_sub.result (cc) (rw (c.saturating_sub.ensures, c.len.ensures) refl)))
