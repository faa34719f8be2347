-- What the getters read, as what stands in the rows.
use Rattle.std.proofs.Common.{◌≡◌, ◌<◌, ◌^◌, ◌∙◌, ap, sym, refl, arith, inl, inr, true, false, ℕ, Bool, is_some, option_map, List, Option, None, Some, Result, Ok, Err, codes, unwrap_or}
use Rattle.std.specs.Prelude.{IfSome, find, option_and_then, slice_get}
use Rattle.std.specs.Str.{bytes_eq}
use Rattle.std.specs.Str.Parse.{ParsesUnsigned}
use Rattle.clap.specs.Words.{ReadsOne, Row, Text, all_of, first_of}
use Rattle.attrd.specs.Options.{IsFlag, SpellsUpTo, is_set, number, number_asked}

-- where a first value is, there are values
pub all_some : (id : Text) (rows : List Row) → is_some (first_of id rows) ≡ true → is_some (all_of id rows) ≡ true
all_some id rows h = go (find (λ r. bytes_eq r.id id) rows) h
  where
    go : (o : Option Row) → is_some (option_and_then (λ (r : Row). slice_get r.values 0) o) ≡ true → is_some (option_map (λ (r : Row). r.values) o) ≡ true
    go None none = none
    go (Some r) some = refl

-- what spells a number of so many bits is read as it
number_read : (bits most : ℕ) → most < 2 ^ bits → (E : Type 0) (G : List ℕ → Result ℕ E → Type 0) → ((u : List ℕ) (x : Result ℕ E) → G u x → ParsesUnsigned bits 10 u x)
    → (text : Text) (r : Option ℕ) → ReadsOne G text r → SpellsUpTo most text → r ≡ Some (number text)
number_read bits most small E G only text None read spells = absurd (only text (Err read.0) read.1 (spells.0, omega (arith, small, spells.1)))
number_read bits most small E G only text (Some v) read spells = ap Some (only text (Ok v) read).1

-- and where there is a text that spells one, and only there
pub given_read : (bits most : ℕ) → most < 2 ^ bits → (E : Type 0) (G : List ℕ → Result ℕ E → Type 0) → ((u : List ℕ) (x : Result ℕ E) → G u x → ParsesUnsigned bits 10 u x)
    → (o : Option Text) (r : Option ℕ) → (o ≡ None → r ≡ None) → ((text : Text) → o ≡ Some text → ReadsOne G text r)
    → IfSome o (SpellsUpTo most) → r ≡ option_map number o
given_read bits most small E G only None r none some spells = none refl
given_read bits most small E G only (Some text) r none some spells = number_read bits most small E G only text r (some text refl) spells

pub asked_read : (bits most : ℕ) → most < 2 ^ bits → (E : Type 0) (G : List ℕ → Result ℕ E → Type 0) → ((u : List ℕ) (x : Result ℕ E) → G u x → ParsesUnsigned bits 10 u x)
    → (o : Option Text) (r : Option ℕ) → (o ≡ None → r ≡ None) → ((text : Text) → o ≡ Some text → ReadsOne G text r)
    → IfSome o (SpellsUpTo most) → unwrap_or r 1 ≡ number_asked o
asked_read bits most small E G only o r none some spells =
    ap (λ x. unwrap_or x 1) (given_read bits most small E G only o r none some spells) ∙ or_one o
  where
    or_one : (o : Option Text) → unwrap_or (option_map number o) 1 ≡ number_asked o
    or_one None = refl
    or_one (Some text) = refl

pub flag_read : (o : Option Text) (b : Bool) → (o ≡ None → b ≡ false) → (o ≡ Some (codes "true") → b ≡ true)
    → (o ≡ Some (codes "false") → b ≡ false) → IfSome o IsFlag → b ≡ is_set o
flag_read None b none on off flag = none refl
flag_read (Some text) b none on off (inl is) = on (ap Some is) ∙ ap (λ t. is_set (Some t)) (sym is)
flag_read (Some text) b none on off (inr is) = off (ap Some is) ∙ ap (λ t. is_set (Some t)) (sym is)
