-- What the value of a token stands for.
use Rattle.std.specs.Prelude.{string_bytes}
use Rattle.at_model.specs.Trees.{Token, Text, Int, Truth}
use Rattle.at_class.specs.declared.token.TokVal.{TokVal}
use Rattle.at_class.specs.declared.token.TokVal.TheVariants as value

abbrev pub token_view : TokVal → Token
token_view (value.Str text) = Text (string_bytes text)
token_view (value.Short text alloc) = Text text.bytes
token_view (value.Int n) = Int n
token_view (value.Bool b) = Truth b
