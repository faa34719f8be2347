use Rattle.std.proofs.Common.{◌≡◌, ◌∙◌, ap, sym, subst}
use Rattle.std.specs.Prelude.{◌&&◌, nat_eq, position, IfSome}
use Rattle.std.specs.Map.{keys_of}
use Rattle.at_rules.specs.Dispatch.{cell_view, chosen, key_at}
use Rattle.at_rules.proofs.Dispatching.{next_right}
use Rattle.at_rules.proofs.dispatch.Dispatch.next.Goals as goal

pub returns : goal.returns
returns g c =
    let p = c.args.precedence in
    let ks = keys_of c.args.keys.now.entries in
    let class = c.args.class in
    let number = c.args.number in
    let here : c.get_index_of-here.result ≡ key_at ks number class = c.get_index_of-here.ensures.index ∙ ap (λ j. position (λ key. nat_eq j key.0 && nat_eq number key.1) ks) c.index.ensures in
    subst (λ h. IfSome c.of.result (λ cell. cell_view cell ≡ h))
    (c.choose.ensures
    ∙ ap (λ o. chosen p o c.position.result) here
    ∙ ap (chosen p (key_at ks number class)) c.position.ensures
    ∙ next_right p ks c.args.classes.now c.args.self.now.rows.items c.requires.hierarchy c.above.ensures.sound.some c.requires.right class number c.in_ok-above.above (sym c.in_ok-above.ensures.above))
    c.of.ensures
