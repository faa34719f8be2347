-- What stands in front of a declaration: modifiers, `lazy` and `final`, and of a file: imports.
use Rattle.std.proofs.Common.{◌≡◌, ◌<◌, ◌≤◌, ◌-◌, length, take, drop, take_all, slice_index_or, List, [], ◌∷◌, Bool, true, false, Option, Some, not, cond, refl, sym, ap, ◌∙◌, arith}
use lib.Chars.{codes}
use Rattle.at_text.specs.declared.placed.Placed.{Placed}
use Rattle.at_text.specs.Symbols.{PlacedToken, placed}
use Rattle.at_text.specs.Rows.{Row, left, word, is_word, is_sign, next_is}
use Rattle.at_text.specs.declared.place.Place.{Place}
use Rattle.at_java.specs.declared.JavaCode.TheVariants.{Syntax, LeftOut}
use Rattle.at_java.specs.Read.{got, fails, here}
use Rattle.at_java.specs.Declarations.{laziness, is_modifier, behind_modifiers}
use Rattle.at_java.specs.Files.{imports}
use Rattle.at_java.proofs.Nexts.{cond_true, cond_false}

-- ---- what is left

pub none_left : (ts : List Placed) → length ts < 1 → left ts ≡ []
none_left [] h = refl
none_left (t ∷ ts) h = absurd (omega (arith, h))

pub one_left : (ts : List Placed) (other : Placed) → 1 ≤ length ts → left ts ≡ placed (slice_index_or ts 0 other) ∷ left (take (length ts - 1) (drop 1 ts))
one_left [] other h = absurd (omega (arith, h))
one_left (t ∷ ts) other h = ap (λ xs. placed t ∷ left xs) (sym (take_all (length (t ∷ ts) - 1) ts (omega arith)))

pub shorter : (row rest : Row) (t : PlacedToken) → row ≡ t ∷ rest → length rest < length row
shorter row rest t r = omega (arith, ap length r)

-- ---- `lazy` and `final`

pub lazy_taken : (lazy : Option Place) (row : Row) (at : Place) (rest : Row) → row ≡ word (codes "lazy") at ∷ rest → laziness lazy row ≡ laziness (Some at) rest
unfolding laziness
lazy_taken lazy row at rest r = ap (laziness lazy) r

pub final_taken : (lazy : Option Place) (row : Row) (at : Place) (rest : Row) → row ≡ word (codes "final") at ∷ rest → laziness lazy row ≡ laziness lazy rest
unfolding laziness
final_taken lazy row at rest r = ap (laziness lazy) r

pub lazy_ends : (lazy : Option Place) (row : Row) → next_is (is_word (codes "lazy")) row ≡ false → next_is (is_word (codes "final")) row ≡ false
    → laziness lazy row ≡ got lazy row
unfolding laziness
lazy_ends lazy [] l f = refl
lazy_ends lazy (t ∷ ts) l f = cond_false _ _ _ l ∙ cond_false _ _ _ f

-- ---- modifiers

pub modifier_taken : (row rest : Row) (t : PlacedToken) → row ≡ t ∷ rest → is_modifier t ≡ true → behind_modifiers row ≡ behind_modifiers rest
unfolding behind_modifiers
modifier_taken row rest t r m = ap behind_modifiers r ∙ cond_true _ _ _ m

pub modifiers_end : (row : Row) → next_is is_modifier row ≡ false → behind_modifiers row ≡ row
unfolding behind_modifiers
modifiers_end [] m = refl
modifiers_end (t ∷ ts) m = cond_false _ _ _ m

-- ---- imports

import_part : (row rest : Row) (t : PlacedToken) → row ≡ t ∷ rest → imports true row ≡ imports (not (is_sign (codes ";") t)) rest
unfolding imports
import_part row rest t r = ap (imports true) r

pub import_goes_on : (within ends : Bool) (row rest : Row) (t : PlacedToken) → row ≡ t ∷ rest → within ≡ true → ends ≡ is_sign (codes ";") t
    → imports within row ≡ imports (not ends) rest
import_goes_on within ends row rest t r w s = ap (λ x. imports x row) w ∙ import_part row rest t r ∙ ap (λ x. imports (not x) rest) (sym s)

import_word : (row rest : Row) (t : PlacedToken) → row ≡ t ∷ rest → is_word (codes "import") t ≡ true → imports false row ≡ imports true rest
unfolding imports
import_word row rest t r i = ap (imports false) r ∙ cond_true _ _ _ i

pub import_begins : (within : Bool) (row rest : Row) (t : PlacedToken) → row ≡ t ∷ rest → within ≡ false → is_word (codes "import") t ≡ true
    → imports within row ≡ imports true rest
import_begins within row rest t r w i = ap (λ x. imports x row) w ∙ import_word row rest t r i

no_import : (row rest : Row) (t : PlacedToken) → row ≡ t ∷ rest → is_word (codes "import") t ≡ false → imports false row ≡ got tt row
unfolding imports
no_import row rest t r i = ap (imports false) r ∙ cond_false _ _ _ i ∙ ap (got tt) (sym r)

pub imports_end : (within : Bool) (row rest : Row) (t : PlacedToken) → row ≡ t ∷ rest → within ≡ false → is_word (codes "import") t ≡ false
    → imports within row ≡ cond within (fails (here Syntax row)) (got tt row)
imports_end within row rest t r w i =
    ap (λ x. imports x row) w ∙ no_import row rest t r i ∙ sym (ap (λ x. cond x (fails (here Syntax row)) (got tt row)) w)

pub imports_at_end : (within : Bool) (row : Row) → row ≡ [] → imports within row ≡ cond within (fails (here Syntax row)) (got tt row)
unfolding imports
imports_at_end true row r = ap (imports true) r ∙ ap (λ x. fails (here Syntax x)) (sym r)
imports_at_end false row r = ap (imports false) r ∙ ap (got tt) (sym r)
