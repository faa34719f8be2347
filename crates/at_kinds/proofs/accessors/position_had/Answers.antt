use Rattle.std.proofs.Common.{map, ap, sym, ◌∙◌, ◌++◌, string_bytes}
use Rattle.std.specs.Prelude.{codes, ◌&&◌}
use Rattle.std.specs.Str.{bytes_eq}
use Rattle.at_class.specs.View.{part_view, shape_view}
use Rattle.at_class.specs.declared.part.Part.{Part}
use Rattle.at_kinds.specs.Accessors.{is_had, is_optional}
use Rattle.at_kinds.proofs.Accessing.{position-view, position-never}
use Rattle.at_kinds.proofs.accessors.position_had.Goals as goal
use Rattle.at_model.proofs.Options.{and_false}

pub returns-in_err-component : goal.returns-in_err-component
returns-in_err-component c = c.from_residual.ensures ∙ sym (position-never (is_had c.args.name.now) (map part_view
    c.args.parts.now) (λ p. ap (λ b. is_optional p.shape && b) (ap (λ n. bytes_eq n (codes "has" ++ p.name))
    (sym c.as_bytes.ensures.value) ∙ c.in_err-component.ensures p.name) ∙ and_false (is_optional p.shape)))

pub returns : goal.returns
returns c = c.position_optional.ensures ∙ position-view (is_had c.args.name.now) (λ (p : Part).
    is_optional (shape_view p.shape) && bytes_eq c.in_ok-component.component.now (string_bytes p.name)) c.args.parts.now
    (λ p. ap (λ b. is_optional (shape_view p.shape) && b) (sym (c.in_ok-component.ensures (string_bytes p.name))
    ∙ ap (λ n. bytes_eq n (codes "has" ++ string_bytes p.name)) c.as_bytes.ensures.value))
