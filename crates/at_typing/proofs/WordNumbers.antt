-- Numbers that are positions of words: they are the same exactly where the words are.
use Rattle.std.proofs.Common.{◌≡◌, ℕ, ◌<◌, List, [], ◌∷◌, ◌++◌, ◌+◌, subst, length, get_or, refl, ap, sym, ◌∙◌, Option, Some, None, String, string_bytes}
use Rattle.std.specs.Prelude.{Bool, true, false, option_map, map, take, All}
use Rattle.std.specs.Str.{bytes_eq}
use Rattle.std.proofs.lemmas.Cmp.{nat_list_eq_equiv}
use Rattle.std.proofs.lemmas.List.{map-append, map_more}
use Rattle.std.proofs.lemmas.List.Elements.{All-push}
use Rattle.std.proofs.lemmas.Option.{none-some}
use Rattle.at_text.proofs.Openings.{bytes_same}
use Rattle.at_model.specs.Classes.{Classes, class_of_name}
use Rattle.at_rules.specs.Names.{number_in, Keeps}
use Rattle.at_rules.proofs.NameNumbers.{agree, injective}
use Rattle.at_typing.specs.Declaring.{class_text, name_text}
use Rattle.at_typing.specs.Numbering.{numbered_view, same_class, known_class, class_or_unknown, IsOfItsClass, AreAlike, AreNumbered, HasNumbers}
use Rattle.at_typing.specs.declared.numbered.NamedClass.{NamedClass}
use Rattle.at_typing.specs.declared.numbered.NamedClass.TheVariants.{Known, Unknown}
use Rattle.at_typing.specs.declared.numbered.Numbered.{Numbered as NumberedValue}

moved : (d e c b : NamedClass) (t : Bool) → Some d ≡ Some c → Some e ≡ Some b → same_class d e ≡ t → same_class c b ≡ t
moved d e c b t first second is = sym (ap (λ x. same_class d x) (injective second) ∙ ap (λ x. same_class x b) (injective first)) ∙ is

apart : (classes : Classes) (v w : List ℕ) (m : ℕ) → class_of_name classes v ≡ Some m → class_of_name classes w ≡ None → bytes_eq v w ≡ false
apart classes v w m first second = by (bytes_eq v w) refl
  where
    by : (b : Bool) → bytes_eq v w ≡ b → b ≡ false
    by false is = refl
    by true is = absurd (none-some _ (sym second ∙ ap (class_of_name classes) (sym (bytes_same v w is)) ∙ first))

alike_class : {Z : Type 0} (classes : Classes) (unknown : List (String Z)) (v w : List ℕ) (o p q r : Option ℕ)
    → class_of_name classes v ≡ o → class_of_name classes w ≡ p → number_in unknown v ≡ q → number_in unknown w ≡ r
    → (c b : NamedClass) → class_or_unknown o q ≡ Some c → class_or_unknown p r ≡ Some b → same_class c b ≡ bytes_eq v w
alike_class classes unknown v w (Some m) (Some n) q r first second here there c b is js = moved (Known m) (Known n) c b (bytes_eq v w) is js (agree (λ k. k.name) classes v w m n first second)
alike_class classes unknown v w (Some m) None q (Some n) first second here there c b is js = moved (Known m) (Unknown n) c b (bytes_eq v w) is js (sym (apart classes v w m first second))
alike_class classes unknown v w (Some m) None q None first second here there c b is js = absurd (none-some _ js)
alike_class classes unknown v w None (Some n) (Some m) r first second here there c b is js = moved (Unknown m) (Known n)
    c b (bytes_eq v w) is js (sym (nat_list_eq_equiv.symm v w ∙ apart classes w v n second first))
alike_class classes unknown v w None (Some n) None r first second here there c b is js = absurd (none-some _ is)
alike_class classes unknown v w None None (Some m) (Some n) first second here there c b is js = moved (Unknown m) (Unknown n) c b (bytes_eq v w) is js (agree string_bytes unknown v w m n here there)
alike_class classes unknown v w None None (Some m) None first second here there c b is js = absurd (none-some _ js)
alike_class classes unknown v w None None None r first second here there c b is js = absurd (none-some _ is)

known : (o n : Option ℕ) (c : NamedClass) → class_or_unknown o n ≡ Some c → known_class c ≡ o
known (Some m) n c is = ap known_class (sym (injective is))
known None None c is = absurd (none-some _ is)
known None (Some n) c is = ap known_class (sym (injective is))

kept_class : (o m n : Option ℕ) (c : NamedClass) → ((k : ℕ) → m ≡ Some k → n ≡ Some k) → class_or_unknown o m ≡ Some c → class_or_unknown o n ≡ Some c
kept_class (Some k) m n c keeps is = is
kept_class None None n c keeps is = absurd (none-some _ is)
kept_class None (Some m) n c keeps is = ap (option_map Unknown) (keeps m refl) ∙ is

-- a declaration keeps its numbers
pub kept : {Y Z : Type 0} (classes : Classes) (u v : List (String Y)) (ms ns : List (String Z)) (d : NumberedValue) → Keeps u v → Keeps ms ns → HasNumbers classes u ms d → HasNumbers classes v ns d
kept classes u v ms ns d words names has = record {
  class = kept_class (class_of_name classes w) (number_in u w) (number_in v w) d.class (words w) has.class;
  name = names (name_text (numbered_view d)) d.name has.name;
}
  where
    w : List ℕ
    w = class_text (numbered_view d)

-- positions are numbers
pub numbered : {Y Z : Type 0} (classes : Classes) (unknown : List (String Y)) (names : List (String Z)) (ds : List NumberedValue) → All (HasNumbers classes unknown names) ds → AreNumbered classes ds
numbered classes unknown names ds all = record {
  class = λ k d less. at (get_or ds k d) (all k d less);
  alike = λ k d less j e within. pair (get_or ds k d) (get_or ds j e) (all k d less) (all j e within);
}
  where
    at : (d : NumberedValue) → HasNumbers classes unknown names d → IsOfItsClass classes d
    at d has = known (class_of_name classes (class_text (numbered_view d))) (number_in unknown (class_text (numbered_view d))) d.class has.class

    pair : (d e : NumberedValue) → HasNumbers classes unknown names d → HasNumbers classes unknown names e → AreAlike d e
    pair d e has other = record {
      class = alike_class classes unknown (class_text (numbered_view d)) (class_text (numbered_view e)) _ _ _ _ refl refl refl refl d.class e.class has.class other.class;
      name = agree string_bytes names (name_text (numbered_view d)) (name_text (numbered_view e)) d.name e.name has.name other.name;
    }

-- one more of each
pub both_more : {X Y A : Type 0} (f : X → A) (g : Y → A) (old new : List X) (ys : List Y) (k : ℕ) (x : X) (y : Y)
    → new ≡ old ++ x ∷ [] → k < length ys → y ≡ get_or ys k y → f x ≡ g y → map f old ≡ map g (take k ys)
    → map f new ≡ map g (take (k + 1) ys)
both_more f g old new ys k x y pushed less is same so_far =
    ap (map f) pushed ∙ map-append f old (x ∷ []) ∙ ap (λ zs. zs ++ f x ∷ []) so_far ∙ ap (λ z. map g (take k ys) ++ z ∷ []) (same ∙ ap g is) ∙ sym (map_more g ys k y less)

pub all_more : {X : Type 0} (P : X → Type 0) (old new : List X) (x : X) → new ≡ old ++ x ∷ [] → All P old → P x → All P new
all_more P old new x pushed all here = subst (All P) (sym pushed) (All-push P old x all here)
