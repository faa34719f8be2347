use Rattle.std.proofs.Common.{◌≡◌, ◌∙◌, ap, sym, false, map, option_map, Bor}
use Rattle.at_jrag.specs.declared.syntax.Body.{Body as BodyValue}
use Rattle.at_jrag.specs.Syntax.{Params}
use Rattle.at_jrag.specs.View.{decl_form_view, body_view, param_view}
use Rattle.at_typing.specs.Bound.{names_view, bound_after, texts_of}
use Rattle.at_typing.specs.Declaring.{is_repeated, index_names, param_names, binds_twice}
use Rattle.at_typing.proofs.Binding.{binds_by_body, not_off, ok_also}
use Rattle.at_typing.proofs.checks.bound.binds_twice.Goals as goal

pub returns-in-Some : goal.returns-in-Some
returns-in-Some c =
    let form = decl_form_view c.args.form.now in
    let texts : texts_of (map param_view c.deref.result.now) ≡ param_names form = ap (λ ps. texts_of
    (map param_view ps)) c.deref.ensures.value ∙ ap (λ (ps : Params). texts_of ps.items) c.params_in.ensures in
    let once : is_repeated (index_names form) (param_names form) ≡ false = ap (is_repeated (index_names form))
    (sym texts) ∙ ap (λ ns. is_repeated ns (texts_of (map param_view c.deref.result.now)))
    (sym c.in_ok-bound.ensures) ∙ not_off _ _ c.in_ok-bind_all.ensures.new c.if-not-branch.false in
    let bound : names_view c.bind_all.new.self ≡ bound_after (index_names form) (param_names form) =
    c.in_ok-bind_all.ensures.bound c.if-not-branch.false
    ∙ ap (λ ns. bound_after ns (texts_of (map param_view c.deref.result.now))) c.in_ok-bound.ensures
    ∙ ap (bound_after (index_names form)) texts in
    let body = sym c.body_in.ensures ∙ ap (option_map (λ (b : Bor BodyValue). body_view b.now)) c.in-Some.is in
    ok_also _ (λ b. b ≡ binds_twice form) c.is_bound_again.result c.is_bound_again.ensures.again (λ b so.
    binds_by_body form (body_view c.in-Some.body.now) (names_view c.bind_all.new.self) b once body bound so)
