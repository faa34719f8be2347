use Rattle.std.proofs.Common.{ap, not, ◌∙◌}
use Rattle.std.specs.Str.{bytes_eq}
use Rattle.std.specs.List.{list_any}
use Rattle.at_typing.specs.Bound.{names_view}
use Rattle.at_typing.proofs.Binding.{any_key}
use Rattle.at_typing.proofs.checks.bound.Names.bind.Goals as goal

pub returns-clause-new : goal.returns-clause-new
returns-clause-new c = c.in_ok-is_new.ensures.added ∙ ap not (any_key (bytes_eq c.as_str.result.now)
    c.args.self.now.texts.keys ∙ ap (λ t. list_any (bytes_eq t) (names_view c.args.self.now)) c.as_str.ensures.value)
