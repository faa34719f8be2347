use Rattle.std.proofs.Common.{ap, ◌∙◌, map}
use Rattle.at_typing.specs.Located.{located_view}
use Rattle.at_typing.proofs.WordNumbers.{numbered}
use Rattle.at_typing.proofs.numbered.Declarations.of.Goals as goal

pub returns-clause-declared : goal.returns-clause-declared
returns-clause-declared c = c.in_ok-items.ensures.view ∙ ap (map located_view) c.deref.ensures.value ∙ c.in_ok-all.ensures

pub returns-clause-numbered : goal.returns-clause-numbered
returns-clause-numbered c = numbered c.args.classes.now c.all_numbered.new.self.unknown.keys c.all_numbered.new.self.names.keys c.in_ok-items.items.items c.in_ok-items.ensures.numbers

pub returns-clause-named : goal.returns-clause-named
returns-clause-named c = λ k d less. rw c.into_names.ensures (c.in_ok-items.ensures.numbers k d less).name
