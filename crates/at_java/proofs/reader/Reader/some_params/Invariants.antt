use Rattle.std.proofs.Common.{◌≡◌, map}
use Rattle.at_text.specs.Rows.{left}
use Rattle.at_jrag.specs.View.{param_view}
use Rattle.at_java.specs.Kinds.{some_params, most_params}
use Rattle.at_java.proofs.ParamLists.{behind}
use Rattle.at_java.proofs.reader.Reader.some_params.Given as goal

abbrev pub invariant-loop-room : goal.invariant-loop-room
invariant-loop-room l = some_params most_params (left l.fn.self.cursor.rest.now)
    ≡ behind (map param_view l.items.items) (some_params l.room (left l.self.cursor.rest.now))

abbrev pub decreases-loop-room : goal.decreases-loop-room
decreases-loop-room l = l.room
