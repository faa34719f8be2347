use Rattle.std.proofs.Common.{◌∙◌, ap, sym, map}
use Rattle.at_kinds.specs.Signatures.{declared_view, declared_named, is_below, key_in}
use Rattle.at_kinds.proofs.Signing.{found_by_name, none_by_name}
use Rattle.at_kinds.proofs.signatures.Signatures.attribute.Goals as goal

pub returns-in_err-name : goal.returns-in_err-name
returns-in_err-name c =
    let ds = map declared_view c.self.inside.items.items in
    let classes = c.args.classes.now in
    c.from_residual.ensures
    ∙ sym (none_by_name (λ d. is_below classes c.args.class d.class) c.args.name.now ds (c.self.invariant.named c.args.name.now (sym c.in_err-name.ensures.found)))
    ∙ ap (λ ds. declared_named classes ds c.args.class c.args.name.now) c.self.view_is

pub returns : goal.returns
returns c =
    let ds = map declared_view c.self.inside.items.items in
    let names = c.self.inside.names.keys in
    let classes = c.args.classes.now in
    c.upward.ensures (map (key_in names) ds) c.self.invariant.noted
    ∙ found_by_name names ds c.args.name.now c.in_ok-name.name (sym c.in_ok-name.ensures.number) classes c.args.class
    ∙ ap (λ ds. declared_named classes ds c.args.class c.args.name.now) c.self.view_is
