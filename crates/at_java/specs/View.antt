-- What the statements of the code stand for.
use Rattle.std.specs.Prelude.{map}
use Rattle.at_jrag.specs.View.{expr_view, kind_word_view, word_view}
use Rattle.at_java.specs.Written.{Statement, to_statements}
use Rattle.at_java.specs.Written as written
use Rattle.at_java.specs.declared.written.Statement.{Statement as StatementValue}
use Rattle.at_java.specs.declared.written.Statement.TheOpen.{Statement-F}
use Rattle.at_java.specs.declared.written.Statement.TheFolds.{fold-Statement}

-- a statement whose parts are already seen
abbrev pub see_statement : Statement-F Statement → Statement
see_statement (Statement-F.Return at e) = written.Return at (expr_view e)
see_statement (Statement-F.If at c s t) = written.If at (expr_view c) s.value t.value
see_statement (Statement-F.Each at k w l s) = written.Each at (kind_word_view k) (word_view w) (expr_view l) s.value
see_statement (Statement-F.Block ss) = written.Block (to_statements ss.items)
see_statement Statement-F.Empty = written.Empty

abbrev pub statement_view : StatementValue → Statement
statement_view = fold-Statement Statement see_statement
