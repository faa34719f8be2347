use Rattle.std.proofs.Common.{sym, ◌∙◌}
use Rattle.at_java.proofs.Methods.{five_tokens, too_few}
use Rattle.at_java.proofs.reader.Reader.begins_method.Goals as goal

pub returns-in_default : goal.returns-in_default
returns-in_default c = sym (too_few c.args.self.now.cursor.rest.now c.in_default.len_below)

pub returns-in-len5-up : goal.returns-in-len5-up
returns-in-len5-up c = c.heads_method.ensures ∙ sym (five_tokens c.args.self.now.cursor.rest.now _ _ _ _ _ c.in-len5-up.len_at_least)
