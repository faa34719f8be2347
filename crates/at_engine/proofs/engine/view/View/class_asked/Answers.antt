use Rattle.std.proofs.Common.{◌≡◌, ◌∙◌, ◌≤◌, None, Some, is_some, length, map, ap, refl, sym}
use Rattle.std.specs.List.{slice_get}
use Rattle.std.proofs.lemmas.Option.{slice_get_past, slice_get_read}
use Rattle.std.proofs.lemmas.Bool.{ltb-false, ltb-true}
use Rattle.at_model.specs.Classes.{Classes, Component, class_in, parts}
use Rattle.at_model.specs.Run.{Is}
use Rattle.at_class.specs.View.{part_view}
use Rattle.at_store.specs.Shown.{contents}
use Rattle.at_engine.proofs.Components.{asked_below, asked_of_root, part_missing, part_read}
use Rattle.at_engine.proofs.Within.{shown_within}
use Rattle.at_engine.proofs.engine.view.View.class_asked.Goals as goal

pub parts-requires : goal.parts-requires
parts-requires g c = rw (c.class.ensures, c.classes-classes.ensures) (shown_within _ c.args.self.now.store.now _ c.args.self.now.conforming)

pub returns-in_default : goal.returns-in_default
returns-in_default g c n p =
    let v = c.args.self.now in
    (ap Some c.start.ensures.first ∙ sym (asked_of_root v.rules.now.classes v.store.now c.args.self.now.idle c.args.self.now.conforming c.args.node n p (sym c.in_default.ensures)), refl)

pub returns-in_err-part : goal.returns-in_err-part
returns-in_err-part g c n p =
    let v = c.args.self.now in
    let k = v.rules.now.classes in
    let ps = c.parts.result.now in
    let i = c.in-Some.place.1 in
    let a = asked_below k v.store.now c.args.self.now.idle c.args.self.now.conforming c.args.node n p c.in-Some.place (sym c.in-Some.ensures) in
    let same : map part_view ps ≡ parts k (contents v.store.now (Is c.in-Some.place.0)) = c.parts.ensures ∙ ap (λ (x : Classes). parts x c.class.result) c.classes-classes.ensures ∙ ap (parts k) c.class.ensures in
    let past : length ps ≤ i = ltb-false i (length ps) (sym c.in_err-part.ensures.lookup.0) in
    let none : None ≡ Some a.component = sym (part_missing ps _ i same (slice_get_past ps i past)) ∙ a.is in absurd cc

same_part : (a b : Component) → Some a ≡ Some b → a ≡ b
same_part a b e = cc

pub returns : goal.returns
returns g c n p =
    let v = c.args.self.now in
    let k = v.rules.now.classes in
    let ps = c.parts.result.now in
    let i = c.in-Some.place.1 in
    let q = c.in_ok-part.part.now in
    let a = asked_below k v.store.now c.args.self.now.idle c.args.self.now.conforming c.args.node n p c.in-Some.place (sym c.in-Some.ensures) in
    let same : map part_view ps ≡ parts k (contents v.store.now (Is c.in-Some.place.0)) = c.parts.ensures ∙ ap (λ (x : Classes). parts x c.class.result) c.classes-classes.ensures ∙ ap (parts k) c.class.ensures in
    let there : slice_get ps i ≡ Some q = slice_get_read ps (length ps) i q refl (ltb-true i (length ps) (sym c.in_ok-part.ensures.lookup.0)) c.in_ok-part.ensures.lookup.1 in
    let is : part_view q ≡ a.component = same_part (part_view q) a.component (sym (part_read ps _ i q same there) ∙ a.is) in
    let whole : c.class_in.result ≡ Some a.class = c.class_in.ensures ∙ ap (λ (x : Component). class_in x.shape) is ∙ a.in_it in
    (whole ∙ sym a.asked, ap is_some whole)
