-- What the aspects of a file stand for.
use Rattle.std.specs.Prelude.{List, Vec, map}
use Rattle.std.specs.Global.{Global}
use Rattle.at_jrag.specs.Syntax.{Aspect}
use Rattle.at_jrag.specs.View.{aspect_view}
use Rattle.at_jrag.specs.declared.syntax.Aspect.{Aspect as AspectValue}

abbrev pub aspects_of : Vec AspectValue Global → List Aspect
aspects_of v = map aspect_view v.items
