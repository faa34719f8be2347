use Rattle.std.proofs.Common.{map, ap, sym, ◌∙◌, ◌++◌, string_bytes}
use Rattle.std.specs.Prelude.{codes, ◌&&◌}
use Rattle.std.specs.Str.{bytes_eq}
use Rattle.at_class.specs.View.{part_view, shape_view}
use Rattle.at_class.specs.declared.part.Part.{Part}
use Rattle.at_kinds.specs.Accessors.{is_listed, is_list}
use Rattle.at_kinds.proofs.Accessing.{position-view, position-never}
use Rattle.at_kinds.proofs.accessors.position_listed.Goals as goal
use Rattle.at_model.proofs.Options.{and_false}

pub returns-in_err-rest : goal.returns-in_err-rest
returns-in_err-rest c =
    c.from_residual.ensures
    ∙ sym (position-never (is_listed c.args.name.now) (map part_view c.args.parts.now)
    (λ p. ap (λ b. is_list p.shape && b) (ap (λ n. bytes_eq n (codes "get" ++ p.name ++ codes "List"))
    (sym c.as_bytes.ensures.value) ∙ c.in_err-rest.ensures (p.name ++ codes "List")) ∙ and_false (is_list p.shape)))

pub returns-in_err-component : goal.returns-in_err-component
returns-in_err-component c =
    c.from_residual-in_err-component.ensures
    ∙ sym (position-never (is_listed c.args.name.now) (map part_view c.args.parts.now) (λ p.
    ap (λ b. is_list p.shape && b) (ap (λ n. bytes_eq n (codes "get" ++ p.name ++ codes "List")) (sym
    c.as_bytes.ensures.value) ∙ c.in_ok-rest.ensures (p.name ++ codes "List") ∙ c.in_err-component.ensures p.name)
    ∙ and_false (is_list p.shape)))

pub returns : goal.returns
returns c =
    c.position_list.ensures
    ∙ position-view (is_listed c.args.name.now) (λ (p : Part). is_list (shape_view p.shape) && bytes_eq c.in_ok-component.component.now (string_bytes p.name)) c.args.parts.now (λ p.
    ap (λ b. is_list (shape_view p.shape) && b) (sym (c.in_ok-component.ensures (string_bytes p.name))
    ∙ sym (c.in_ok-rest.ensures (string_bytes p.name ++ codes "List"))
    ∙ ap (λ n. bytes_eq n (codes "get" ++ string_bytes p.name ++ codes "List")) c.as_bytes.ensures.value))
