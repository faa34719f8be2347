use Rattle.std.proofs.Common.{◌≡◌, ◌∙◌, ℕ, Some, length, map, refl, sym, ap}
use Rattle.std.specs.List.{slice_get}
use Rattle.std.proofs.lemmas.Option.{slice_get_read}
use Rattle.std.proofs.lemmas.Bool.{ltb-true}
use Rattle.at_model.specs.Classes.{Classes, parts}
use Rattle.at_model.specs.Paths.{part_named}
use Rattle.at_model.specs.Run.{Is}
use Rattle.at_class.specs.View.{part_view}
use Rattle.at_store.specs.Shown.{contents}
use Rattle.at_engine.proofs.Components.{component_found, part_read}
use Rattle.at_engine.proofs.Within.{shown_within}
use Rattle.at_engine.proofs.engine.view.View.component.Goals as goal

pub part_named-requires : goal.part_named-requires
part_named-requires g c = rw (c.class-class.ensures, c.classes.ensures) (shown_within _ c.args.self.now.store.now c.args.node c.args.self.now.conforming)

pub parts-requires : goal.parts-requires
parts-requires g c = rw (c.class-class.ensures, c.classes-2.ensures) (shown_within _ c.args.self.now.store.now c.args.node c.args.self.now.conforming)

pub returns : goal.returns
returns g c n p =
    let v = c.args.self.now in
    let k = v.rules.now.classes in
    let ps = c.parts.result.now in
    let i = c.in_ok-part.part in
    let q = c.in_ok-component.component.now in
    let there : slice_get ps i ≡ Some q = slice_get_read ps (length ps) i q refl (ltb-true i (length ps) (sym c.in_ok-component.ensures.lookup.0)) c.in_ok-component.ensures.lookup.1 in
    let same : map part_view ps ≡ parts k (contents v.store.now (Is c.args.node)) = c.parts.ensures ∙ ap (λ (x : Classes). parts x c.class-class.result) c.classes-2.ensures ∙ ap (parts k) c.class-class.ensures in
    let named : part_named k (contents v.store.now (Is c.args.node)) c.args.name.now ≡ Some i =
    sym (c.in_ok-part.ensures.found ∙ ap (λ (x : Classes). part_named x c.class-class.result c.args.name.now) c.classes.ensures ∙ ap (λ (j : ℕ). part_named k j c.args.name.now) c.class-class.ensures) in
    component_found k v.store.now c.args.node n c.args.name.now p i q named (part_read ps _ i q same there)
