-- What the value of a token stands for, where it is lent.
use Rattle.at_model.specs.Trees.{Token, Text, Int, Truth}
use Rattle.at_store.specs.declared.token.Token.{Token as Lent}
use Rattle.at_store.specs.declared.token.Token.TheVariants as value

abbrev pub lent_view : Lent → Token
lent_view (value.Str text alloc) = Text text.now
lent_view (value.Int n) = Int n
lent_view (value.Bool b) = Truth b
