-- A class is below another by numbers exactly where it is by words.
use Rattle.std.proofs.Common.{◌≡◌, ap, ◌∙◌}
use Rattle.std.specs.Prelude.{◌||◌}
use Rattle.std.specs.Str.{bytes_eq}
use Rattle.at_model.specs.Classes.{Classes, class_of_name}
use Rattle.at_typing.specs.Declaring.{class_text, is_below, is_sub_or_none}
use Rattle.at_typing.specs.Numbering.{numbered_view, known_class, is_class_below, IsOfItsClass, AreAlike}
use Rattle.at_typing.specs.declared.numbered.Numbered.{Numbered as NumberedValue}

pub below : (classes : Classes) (d e : NumberedValue) → IsOfItsClass classes d → IsOfItsClass classes e
    → AreAlike d e → is_class_below classes d.class e.class
    ≡ is_below classes (class_text (numbered_view d)) (class_text (numbered_view e))
below classes d e own other alike =
    ap (λ b. b || is_sub_or_none classes (known_class d.class) (known_class e.class)) alike.class
    ∙ ap (λ o. bytes_eq (class_text (numbered_view d)) (class_text (numbered_view e)) || is_sub_or_none classes o (known_class e.class)) own
    ∙ ap (λ o. bytes_eq (class_text (numbered_view d)) (class_text (numbered_view e)) || is_sub_or_none classes (class_of_name classes (class_text (numbered_view d))) o) other
