use Rattle.std.proofs.Common.{◌≡◌, ◌<◌, false}
use Rattle.at_text.specs.Rows.{left, is_sign, next_is}
use Rattle.at_jrag.proofs.Tokens.{taken_within}
use Rattle.at_jrag.proofs.reader.Reader.takes_within.Goals as goal

pub returns-clause-found : goal.returns-clause-found
returns-clause-found c =
    taken_within c.takes_sign.result c.args.text.now (left c.args.self.now.cursor.rest.now) (left c.takes_sign.new.self.rest.now) c.is_before_sign.result
    ((c.takes_sign.new.self ≡ c.args.self.now.cursor) × (next_is (is_sign c.args.text.now) (left c.args.self.now.cursor.rest.now) ≡ false)) (c.args.depth < c.args.budget)
    c.else-is_before_sign.either c.is_before_sign.ensures c.takes_sign.ensures
