use Rattle.std.proofs.Common.{◌∙◌, ap, drop, map, sym, take}
use Rattle.std.proofs.lemmas.List.{drop-map, take-map}
use Rattle.at_store.specs.Located.{loc_view}
use Rattle.at_body.proofs.reads.Reads.split_off.Goals as goal

pub returns-clause-front : goal.returns-clause-front
returns-clause-front c =
    ap (map loc_view) c.in_ok-items.ensures.items ∙ sym (take-map loc_view c.args.count _)
    ∙ ap (take c.args.count) c.self.view_is

pub returns-clause-tail : goal.returns-clause-tail
returns-clause-tail c =
    ap (map loc_view) c.in_ok-items.ensures.tail ∙ sym (drop-map loc_view c.args.count _)
    ∙ ap (drop c.args.count) c.self.view_is
