-- What names stand for in a copy.
use Rattle.std.specs.Prelude.{Option, Some, None}
use Rattle.at_jrag.specs.Syntax.{Name}
use Rattle.at_jrag.specs.View.{expr_view}
use Rattle.at_java.specs.Naming.{Names, name_for}
use Rattle.at_java.specs.declared.rewriting.copying.Found.{Found}

abbrev pub names_of : Option Found → Names
names_of None = Name
names_of (Some f) = name_for f.name.now (expr_view f.expr.now)
