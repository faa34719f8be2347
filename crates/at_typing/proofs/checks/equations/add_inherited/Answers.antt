use Rattle.std.proofs.Common.{sym, ap, ◌∙◌}
use Rattle.std.specs.Prelude.{◌&&◌, nat_eq, option_map}
use Rattle.std.specs.Str.{bytes_eq}
use Rattle.at_jrag.specs.View.{word_view}
use Rattle.at_typing.proofs.EquationsBefore.{class_eq, inherited_new, inherited_more}
use Rattle.at_typing.proofs.checks.equations.add_inherited.Goals as goal

pub returns-clause-new : goal.returns-clause-new
returns-clause-new c =
    let d = c.args.numbered.now in
    inherited_new d (word_view c.in-Some.getter.now) c.as_str.result.now _ c.args.inherited.now.keys
    c.in_ok-is_new.is_new (sym c.getter_in.ensures ∙ ap (option_map (λ w. word_view w.now)) c.in-Some.is)
    c.as_str.ensures.value
    (λ k. ap (λ b. (b && bytes_eq c.as_str.result.now k.1.now) && nat_eq d.name k.2) (class_eq d.class k.0)) c.in_ok-is_new.ensures.added

pub returns-clause-added : goal.returns-clause-added
returns-clause-added c = λ is. inherited_more c.args.numbered.now (word_view c.in-Some.getter.now) c.as_str.result
    _ c.args.inherited.now.keys c.insert_full.new.self.keys
    (sym c.getter_in.ensures ∙ ap (option_map (λ w. word_view w.now)) c.in-Some.is) c.as_str.ensures.value
    (sym is ∙ c.in_ok-is_new.ensures.added) c.in_ok-is_new.ensures.keys
