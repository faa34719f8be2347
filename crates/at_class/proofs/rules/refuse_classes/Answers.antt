use Rattle.std.proofs.Common.{◌∙◌, ap, sym, refl, subst, length}
use Rattle.std.specs.Prelude.{option_map}
use Rattle.std.proofs.lemmas.Result.{err_from_is_err_and, on_ok_weaker, IfErr-weaker}
use Rattle.at_model.specs.Declarations.{classes_of}
use Rattle.at_class.specs.declared.fault.ClassCode.TheVariants.{SuperclassCircle, TokenKind, ComponentTwice, Limit}
use Rattle.at_class.specs.View.{classes_view}
use Rattle.at_class.specs.Ways.{AreLed}
use Rattle.at_class.specs.Grammar.{declarations_view, place_view}
use Rattle.at_class.specs.Faults.{IsAt, IsRefusedFor}
use Rattle.at_class.proofs.Named.{circle-declared, twice-declared, over-declared}
use Rattle.at_class.proofs.Order.{refused_for, fault_circle, fault_token_kind, fault_component_twice, fault_limit}
use Rattle.at_class.proofs.Acyclic.{hierarchy}
use Rattle.at_model.proofs.LedUp.{led}
use Rattle.at_class.proofs.Places.{as_many, found_of}
use Rattle.at_class.proofs.rules.refuse_classes.Goals as goal

pub returns-in_err-refuse-clause-refused : goal.returns-in_err-refuse-clause-refused
returns-in_err-refuse-clause-refused c =
    let ds = declarations_view c.args.declarations.now in
    let k = c.requires.known in
    let to-s = sym (circle-declared ds (classes_view c.args.classes.now) c.requires.declared) ∙ sym c.in_ok-superclass_circle.ensures in
    let p = err_from_is_err_and c.from_residual-in_err-refuse.result c.from_residual-in_err-refuse.ensures.1 in
    rw (p.1, p.2) (refused_for ds SuperclassCircle (option_map place_view c.in_ok-superclass_circle.field-0)
    _ (λ at there. fault_circle ds at k.some k.once k.known (to-s ∙ there)) c.in_err-refuse.ensures.err)

pub returns-in_err-refuse-2-clause-refused : goal.returns-in_err-refuse-2-clause-refused
returns-in_err-refuse-2-clause-refused c =
    let ds = declarations_view c.args.declarations.now in
    let k = c.requires.known in
    let s = sym (circle-declared ds (classes_view c.args.classes.now) c.requires.declared) ∙ sym c.in_ok-superclass_circle.ensures ∙ ap (option_map place_view) c.in_ok-refuse.ensures.ok in
    let p = err_from_is_err_and c.from_residual-in_err-refuse-2.result c.from_residual-in_err-refuse-2.ensures.1 in
    rw (p.1, p.2) (refused_for ds TokenKind (option_map place_view c.wrong_token_kind.result)
    _ (λ at there. fault_token_kind ds at k.some k.once k.known s (sym c.wrong_token_kind.ensures ∙ there))
    c.in_err-refuse-2.ensures.err)

pub found_of_all-requires : goal.found_of_all-requires
found_of_all-requires c =
    let ds = declarations_view c.args.declarations.now in
    let s = sym (circle-declared ds (classes_view c.args.classes.now) c.requires.declared) ∙ sym c.in_ok-superclass_circle.ensures ∙ ap (option_map place_view) c.in_ok-refuse.ensures.ok in
    subst AreLed (sym c.requires.declared) (led (classes_of ds) (hierarchy ds c.requires.sound s) c.requires.sound.some)

pub component_twice-requires : goal.component_twice-requires
component_twice-requires c = ap length c.deref.ensures.value ∙ c.in_ok-found.ensures.count ∙ as_many c.args.classes.now c.args.declarations.now c.requires.declared

pub over_limit-requires : goal.over_limit-requires
over_limit-requires c = ap length c.deref-2.ensures.value ∙ c.in_ok-found.ensures.count ∙ as_many c.args.classes.now c.args.declarations.now c.requires.declared

pub returns-in_err-refuse-3-clause-refused : goal.returns-in_err-refuse-3-clause-refused
returns-in_err-refuse-3-clause-refused c =
    let ds = declarations_view c.args.declarations.now in
    let k = c.requires.known in
    let s = sym (circle-declared ds (classes_view c.args.classes.now) c.requires.declared) ∙ sym c.in_ok-superclass_circle.ensures ∙ ap (option_map place_view) c.in_ok-refuse.ensures.ok in
    let t = sym c.wrong_token_kind.ensures ∙ ap (option_map place_view) c.in_ok-refuse-2.ensures.ok in
    let are = found_of (classes_view c.args.classes.now) (classes_of ds) c.in_ok-found.found.items c.deref.result.now _ c.requires.declared c.deref.ensures.value c.in_ok-found.ensures in
    let to-c = sym (twice-declared ds (classes_of ds) refl) ∙ sym (c.component_twice.ensures (classes_of ds) are) in
    let p = err_from_is_err_and c.from_residual-in_err-refuse-3.result c.from_residual-in_err-refuse-3.ensures.1 in
    rw (p.1, p.2) (refused_for ds ComponentTwice (option_map place_view c.component_twice.result) _ (λ at there.
    fault_component_twice ds at k.some k.once k.known s t (to-c ∙ there)) c.in_err-refuse-3.ensures.err)

pub returns-clause-refused : goal.returns-clause-refused
returns-clause-refused c =
    let ds = declarations_view c.args.declarations.now in
    let k = c.requires.known in
    let s = sym (circle-declared ds (classes_view c.args.classes.now) c.requires.declared) ∙ sym c.in_ok-superclass_circle.ensures ∙ ap (option_map place_view) c.in_ok-refuse.ensures.ok in
    let t = sym c.wrong_token_kind.ensures ∙ ap (option_map place_view) c.in_ok-refuse-2.ensures.ok in
    let are = found_of (classes_view c.args.classes.now) (classes_of ds) c.in_ok-found.found.items c.deref.result.now _ c.requires.declared c.deref.ensures.value c.in_ok-found.ensures in
    let w = sym (twice-declared ds (classes_of ds) refl) ∙ sym (c.component_twice.ensures (classes_of ds) are) ∙ ap (option_map place_view) c.in_ok-refuse-3.ensures.ok in
    let still = found_of (classes_view c.args.classes.now) (classes_of ds) c.in_ok-found.found.items c.deref-2.result.now _ c.requires.declared c.deref-2.ensures.value c.in_ok-found.ensures in
    let to-l = sym (over-declared ds (classes_of ds) refl) ∙ sym (c.over_limit.ensures (classes_of ds) still) in
    IfErr-weaker c.refuse-4.result (IsAt Limit (option_map place_view c.over_limit.result)) (IsRefusedFor ds)
    (λ e. refused_for ds Limit (option_map place_view c.over_limit.result) e
    (λ at there. fault_limit ds at k.some k.once k.known s t w (to-l ∙ there))) c.refuse-4.ensures.err

pub returns-clause-regular : goal.returns-clause-regular
returns-clause-regular c =
    let ds = declarations_view c.args.declarations.now in
    let are = found_of (classes_view c.args.classes.now) (classes_of ds) c.in_ok-found.found.items c.deref.result.now _ c.requires.declared c.deref.ensures.value c.in_ok-found.ensures in
    let still = found_of (classes_view c.args.classes.now) (classes_of ds) c.in_ok-found.found.items c.deref-2.result.now _ c.requires.declared c.deref-2.ensures.value c.in_ok-found.ensures in
    on_ok_weaker c.refuse-4.result (λ none. record {
      circle = sym (circle-declared ds (classes_view c.args.classes.now) c.requires.declared) ∙ sym c.in_ok-superclass_circle.ensures ∙ ap (option_map place_view) c.in_ok-refuse.ensures.ok;
      kind = sym c.wrong_token_kind.ensures ∙ ap (option_map place_view) c.in_ok-refuse-2.ensures.ok;
      twice = sym (twice-declared ds (classes_of ds) refl) ∙ sym (c.component_twice.ensures (classes_of ds) are) ∙ ap (option_map place_view) c.in_ok-refuse-3.ensures.ok;
      limit = sym (over-declared ds (classes_of ds) refl) ∙ sym (c.over_limit.ensures (classes_of ds) still) ∙ ap (option_map place_view) none;
    }) c.refuse-4.ensures.ok
