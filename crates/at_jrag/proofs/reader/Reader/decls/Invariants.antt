use Rattle.std.proofs.Common.{length, map}
use Rattle.std.specs.List.{AllByRecursion}
use Rattle.at_jrag.specs.View.{decl_view}
use Rattle.at_jrag.specs.Grammar.{Decls, NestsWithin}
use Rattle.at_text.specs.Rows.{left}
use Rattle.at_jrag.proofs.reader.Reader.decls.Given as goal

abbrev pub invariant-loop-forms : goal.invariant-loop-forms
invariant-loop-forms l = Decls l.fn.forms (map decl_view l.decls.items) (left l.fn.self.cursor.rest.now) (left l.self.cursor.rest.now) × AllByRecursion NestsWithin (map decl_view l.decls.items)

abbrev pub decreases-loop-forms : goal.decreases-loop-forms
decreases-loop-forms l = length (left l.self.cursor.rest.now)
