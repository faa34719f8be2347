use Rattle.std.proofs.Common.{map, ap, sym, ◌∙◌, ◌++◌, string_bytes}
use Rattle.std.specs.Prelude.{codes}
use Rattle.std.specs.Str.{bytes_eq}
use Rattle.at_class.specs.View.{part_view}
use Rattle.at_class.specs.declared.part.Part.{Part}
use Rattle.at_kinds.specs.Accessors.{is_got}
use Rattle.at_kinds.proofs.Accessing.{position-view, position-never}
use Rattle.at_kinds.proofs.accessors.position_got.Goals as goal

pub returns-in_err-component : goal.returns-in_err-component
returns-in_err-component c = c.from_residual.ensures
    ∙ sym (position-never (is_got c.args.name.now) (map part_view c.args.parts.now) (λ p.
    ap (λ n. bytes_eq n (codes "get" ++ p.name)) (sym c.as_bytes.ensures.value) ∙ c.in_err-component.ensures p.name))

pub returns : goal.returns
returns c = c.position_named.ensures ∙ position-view (is_got c.args.name.now)
    (λ (p : Part). bytes_eq c.in_ok-component.component.now (string_bytes p.name)) c.args.parts.now
    (λ p. sym (c.in_ok-component.ensures (string_bytes p.name))
    ∙ ap (λ n. bytes_eq n (codes "get" ++ string_bytes p.name)) c.as_bytes.ensures.value)
