use Rattle.std.proofs.Common.{Some, None, ◌∙◌, lit<}
use Rattle.std.proofs.lemmas.Str.Pattern.{find_char}
use Rattle.at_rules.proofs.Counting.{plain_to, plain_itself}
use Rattle.at_rules.proofs.rules.to_slash.Goals as goal

pub returns-in-Some : goal.returns-in-Some
returns-in-Some c =
    let found = find_char 47 c.args.text.now (Some c.in-Some.at) c.in-Some.ensures.cases (lit< tt) in
    c.split_at.ensures.front ∙ plain_to c.args.text.now c.in-Some.at found.0 found.1 found.2

pub returns-in-None : goal.returns-in-None
returns-in-None c = plain_itself c.args.text.now (find_char 47 c.args.text.now None c.in-None.ensures.cases (lit< tt))
