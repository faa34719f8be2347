use Rattle.std.proofs.Common.{Some, map, ap, sym, ◌∙◌}
use Rattle.std.proofs.lemmas.List.{map_push}
use Rattle.at_jrag.specs.View.{param_view}
use Rattle.at_jrag.specs.Heads.{index}
use Rattle.at_java.proofs.Methods.{index_last}
use Rattle.at_java.proofs.reader.declarations.index_of.Goals as goal

pub returns-in-Some : goal.returns-in-Some
returns-in-Some c =
    ap Some c.name_of.ensures
    ∙ sym (index_last (map param_view c.pop.new.self.items) (param_view c.in-Some.param))
    ∙ ap index (sym (ap (map param_view) c.in-Some.ensures.items ∙ map_push param_view c.pop.new.self.items c.in-Some.param))
