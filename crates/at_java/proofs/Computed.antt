-- Declarations that declare no constant.
use Rattle.std.proofs.Common.{◌≡◌, Option, Some, None, false, sym, ap, ◌∙◌}
use lib.Chars.{codes}
use Rattle.at_text.specs.Rows.{Row, is_word, next_is}
use Rattle.at_text.specs.declared.place.Place.{Place}
use Rattle.at_jrag.specs.Syntax.{Decl}
use Rattle.at_java.specs.Read.{Read, got, then_read}
use Rattle.at_java.specs.Next.{after_word}
use Rattle.at_java.specs.Declarations.{Declared, laziness, computed, declared_constant, synthesized, other_declared, declared, without}
use Rattle.at_java.proofs.Nexts.{word_not}

-- what is read behind `lazy` and `final`
abbrev behind_lazy : Place → Option Place → Row → Read Declared
behind_lazy at lazy row = after_word (codes "nta") row (λ nta behind. declared_constant at behind) (without (computed at lazy row))

pub computed_read : (at : Place) (row mid same : Row) (lazy : Option Place) (d : Decl) (whole : Declared) (rest : Row) → laziness None row ≡ got lazy mid
    → next_is (is_word (codes "nta")) mid ≡ false → same ≡ mid → computed at lazy same ≡ got d rest → whole ≡ record { decl = Some d; constant = None }
    → synthesized at row ≡ got whole rest
computed_read at row mid same lazy d whole rest l n s r w =
    ap (λ q. then_read q (behind_lazy at)) l ∙ word_not (codes "nta") mid (λ nta behind. declared_constant at behind) (without (computed at lazy mid)) n
    ∙ ap without (ap (computed at lazy) (sym s) ∙ r) ∙ ap (λ x. got x rest) (sym w)

pub other_read : (row same : Row) (d : Decl) (whole : Declared) (rest : Row) → next_is (is_word (codes "syn")) row ≡ false → same ≡ row
    → other_declared same ≡ got d rest → whole ≡ record { decl = Some d; constant = None } → declared row ≡ got whole rest
other_read row same d whole rest n s r w =
    word_not (codes "syn") row synthesized (without (other_declared row)) n ∙ ap without (ap other_declared (sym s) ∙ r) ∙ ap (λ x. got x rest) (sym w)
