-- Which replies can be written, and which need little room.
use Rattle.std.specs.Prelude.{⊤, ℕ, Option, Some, None}
use Rattle.at_model.specs.Paths.{IsPath}
use Rattle.at_tree.specs.PathView.{path_view}
use Rattle.at_class.specs.declared.token.TokVal.{TokVal}
use Rattle.at_class.specs.declared.token.TokVal.TheVariants as value
use Rattle.at_protocol.specs.declared.reply.Shown.{Shown}
use Rattle.at_protocol.specs.declared.reply.Shown.TheVariants as shown
use Rattle.at_protocol.specs.declared.reply.Form.{Form}
use Rattle.at_protocol.specs.declared.reply.Form.TheVariants as form
use Rattle.at_protocol.specs.declared.reply.Posting.{Posting}
use Rattle.at_protocol.specs.declared.reply.Reply.{Reply}

-- a path has a text
abbrev pub IsShownWritable : Shown → Type 0
IsShownWritable (shown.Token v) = ⊤
IsShownWritable (shown.Node path) = IsPath (path_view path)
IsShownWritable shown.Null = ⊤
IsShownWritable (shown.Term text) = ⊤

abbrev pub IsWritable : Form → Type 0
IsWritable (form.Ok version) = ⊤
IsWritable (form.Shows s) = IsShownWritable s
IsWritable (form.Fault kind path attribute) = IsPath (path_view path)
IsWritable (form.Circular path attribute) = IsPath (path_view path)
IsWritable (form.Refused r) = ⊤
IsWritable form.Memory = ⊤
IsWritable (form.Open number) = ⊤

-- it shows no path, no text and no term
abbrev pub IsTokenShort : TokVal → Type 0
IsTokenShort (value.Str text) = ⊥
IsTokenShort (value.Short text alloc) = ⊥
IsTokenShort (value.Int n) = ⊤
IsTokenShort (value.Bool b) = ⊤

abbrev pub IsShownShort : Shown → Type 0
IsShownShort (shown.Token v) = IsTokenShort v
IsShownShort (shown.Node path) = ⊥
IsShownShort shown.Null = ⊤
IsShownShort (shown.Term text) = ⊥

abbrev pub IsFormShort : Form → Type 0
IsFormShort (form.Ok version) = ⊤
IsFormShort (form.Shows s) = IsShownShort s
IsFormShort (form.Fault kind path attribute) = ⊥
IsFormShort (form.Circular path attribute) = ⊥
IsFormShort (form.Refused r) = ⊤
IsFormShort form.Memory = ⊤
IsFormShort (form.Open number) = ⊤

-- the most bytes of what is told, where that needs little room
abbrev pub form_room : Form → ℕ
form_room form.Memory = 7
form_room other = 42

-- the most bytes of the question that was posted
abbrev pub done_room : Option Posting → ℕ
done_room None = 0
done_room (Some p) = 47

-- it tells that memory ran out
abbrev pub IsMemory : Form → Type 0
IsMemory form.Memory = ⊤
IsMemory other = ⊥

-- the reply needs little room; of the answers to questions that were posted, `memory` alone does
abbrev pub IsShort : Reply → Type 0
IsShort r = elim r.done [ None ↦ IsFormShort r.form | Some p ↦ IsMemory r.form ]
