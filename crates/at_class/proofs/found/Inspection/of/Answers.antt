use Rattle.std.proofs.Common.{◌∙◌, sym}
use Rattle.at_class.specs.View.{classes_view}
use Rattle.at_class.proofs.Descents.{knows_more}
use Rattle.at_class.proofs.found.Inspection.of.Goals as goal

pub returns-in-Some : goal.returns-in-Some
returns-in-Some c = (c.requires.1.right c.args.class c.in-Some.found (sym c.known.ensures ∙ c.in-Some.is), c.requires.1)

pub go_to-requires : goal.go_to-requires
go_to-requires c = (c.requires.0, c.requires.1.way)

pub returns : goal.returns
returns c = (
  c.in_ok-found.ensures.0,
  knows_more (classes_view c.args.classes.now) c.go_to.new.self c.args.self.now.found.items c.keep.new.known.items
      c.args.class c.in_ok-found.found c.in_ok-found.ensures.1 c.requires.1.right c.in_ok-found.ensures.0
      c.keep.ensures,
)
