-- A place moves with the characters.
use Rattle.std.proofs.Common.{◌≡◌, ℕ, ◌+◌, ◌-◌, ◌≤◌, List, ◌++◌, take, drop, sym, ap, ◌∙◌, arith}
use Rattle.std.specs.Prelude.{chars}
use Rattle.std.specs.Str.{IsUtf8, IsCharBoundary}
use Rattle.std.proofs.lemmas.Str.{chars-append, IsUtf8-take}
use Rattle.std.proofs.Math.Seq.{take-add}
use Rattle.at_text.specs.Place.{place_after, place_of}

between : (text : List ℕ) (from to : ℕ) → from ≤ to → take from text ++ take (to - from) (drop from text) ≡ take to text
between text from to le = let whole : from + (to - from) ≡ to = omega arith in sym (take-add from (to - from) text) ∙ ap (λ n. take n text) whole

-- what lies between two offsets leads from the one place to the other
pub place_between : (text : List ℕ) (from to : ℕ) → IsUtf8 text → IsCharBoundary text from → from ≤ to
    → place_after (chars (take from text) ++ chars (take (to - from) (drop from text))) ≡ place_of text to
place_between text from to utf8 at le =
    ap place_after (sym (chars-append (take from text) (take (to - from) (drop from text)) (IsUtf8-take text from utf8 at)) ∙ ap chars (between text from to le))
