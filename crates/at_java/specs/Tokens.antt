-- Single tokens.
use Rattle.std.specs.Prelude.{ℕ, List, [], ◌∷◌, cond}
use Rattle.at_text.specs.declared.place.Place.{Place}
use Rattle.at_text.specs.Rows.{Row, is_sign, is_word, is_name_token}
use Rattle.at_jrag.specs.Syntax.{Word}
use Rattle.at_java.specs.Read.{Read, got, fails, here}
use Rattle.at_java.specs.declared.JavaCode.TheVariants.{Syntax}

-- the sign, of which the place is told
abbrev pub sign_here : List ℕ → Row → Read Place
sign_here text [] = fails (here Syntax [])
sign_here text (t ∷ ts) = cond (is_sign text t) (got t.at ts) (fails (here Syntax (t ∷ ts)))

-- a name
abbrev pub name : Row → Read Word
name [] = fails (here Syntax [])
name (t ∷ ts) = cond (is_name_token t) (got (record { text = t.text; at = t.at }) ts) (fails (here Syntax (t ∷ ts)))
