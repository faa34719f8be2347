use Rattle.std.proofs.Common.{map}
use Rattle.at_text.specs.Rows.{left}
use Rattle.at_jrag.specs.View.{decl_view}
use Rattle.at_java.specs.Seen.{constant_view}
use Rattle.at_java.proofs.DeclarationLists.{Among}
use Rattle.at_java.proofs.reader.Reader.declarations.Given as goal

abbrev pub invariant-loop-end : goal.invariant-loop-end
invariant-loop-end l =
    Among (left l.fn.self.cursor.rest.now) (map decl_view l.all.decls.items) (map constant_view l.all.constants.items) l.room (left l.self.cursor.rest.now)

abbrev pub decreases-loop-end : goal.decreases-loop-end
decreases-loop-end l = l.room
