use Rattle.std.proofs.Common.{length, map}
use Rattle.std.specs.Str.{bytes_eq}
use lib.Chars.{codes}
use Rattle.at_jrag.specs.View.{param_view}
use Rattle.at_text.specs.Rows.{left}
use Rattle.at_jrag.proofs.Declarations.{Wanted}
use Rattle.at_jrag.proofs.ParamStops.{BeforeParam}
use Rattle.at_jrag.proofs.reader.Reader.params.Given as goal

abbrev pub invariant-loop-items : goal.invariant-loop-items
invariant-loop-items l = Wanted (map param_view l.items.items) (left l.initial.self.cursor.rest.now) (left l.self.cursor.rest.now)
    × BeforeParam (bytes_eq l.name (codes "getChild")) (left l.fn.self.cursor.rest.now) (left l.self.cursor.rest.now)

abbrev pub decreases-loop-items : goal.decreases-loop-items
decreases-loop-items l = length (left l.self.cursor.rest.now)
