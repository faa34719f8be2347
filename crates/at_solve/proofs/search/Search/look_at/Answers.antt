use Rattle.std.proofs.Common.{◌∙◌, sym}
use Rattle.at_solve.specs.declared.search.Mark.TheVariants.{Unmet, OnPath}
use Rattle.at_solve.proofs.Merging.{merged_search}
use Rattle.at_solve.proofs.Stepping.{passed_search, mark_there, on_path, unmet_off}
use Rattle.at_solve.proofs.search.Search.look_at.Goals as goal

pub enter-requires-clause-unmet : goal.enter-requires-clause-unmet
enter-requires-clause-unmet c = mark_there c.args.self.now.marks.items c.args.node Unmet unmet_off (sym c.in-Unmet.is ∙ c.mark_of.ensures)

pub returns-in-OnPath-clause-searches : goal.returns-in-OnPath-clause-searches
returns-in-OnPath-clause-searches c = merged_search c.args.edges.now c.args.self.now c.merge.new.self c.args.node c.in-OnPath.place c.requires.searches
    (mark_there c.args.self.now.marks.items c.args.node (OnPath c.in-OnPath.place) (on_path c.in-OnPath.place) (sym c.in-OnPath.is ∙ c.mark_of.ensures))
    c.requires.lead c.merge.ensures.groups c.merge.ensures.marks c.merge.ensures.path c.merge.ensures.todo c.merge.ensures.lists

pub returns-in-Listed-clause-searches : goal.returns-in-Listed-clause-searches
returns-in-Listed-clause-searches c = passed_search c.args.edges.now c.args.self.now c.args.node (sym c.mark_of.ensures ∙ c.in-Listed.is) c.requires.searches
