-- The options that words ask for: what their rows say of them, and which words are taken.
use Rattle.std.proofs.Common.{◌≡◌, ◌∙◌, ◌≤◌, ◌<◌, ap, sym, subst, refl, arith, true, is_some, ℕ, List, [], ◌∷◌, length, map, Option, None, Some, option_map, codes}
use Rattle.std.specs.Prelude.{IfSome, find, option_and_then, slice_get, string_bytes}
use Rattle.std.specs.Str.{bytes_eq}
use Rattle.std.proofs.lemmas.List.{length-map}
use Rattle.clap.specs.Words.{Row, Text, all_of, first_of, matches_of, takes}
use Rattle.clap.proofs.WalkLemmas.{both}
use Rattle.attrd.specs.CommandLine.{command_line}
use Rattle.attrd.specs.Forms.{name_forms}
use Rattle.attrd.specs.Options.{are_taken, max_connections, max_keep, max_slice, number, number_asked, Asks, HasValues, IsUpTo, IsUsable, IsWhole, SpellsUpTo}
use Rattle.attrd.specs.declared.options.Options.{Options}

-- ---- what can be served

-- where a first value is, the values aren't none
values_some : (id : Text) (rows : List Row) (texts : List Text) → is_some (first_of id rows) ≡ true
    → Some texts ≡ all_of id rows
    → 0 < length texts
values_some id rows texts there is = go (find (λ r. bytes_eq r.id id) rows) there is
  where
    some_of : (xs ys : List Text) → Some xs ≡ Some ys → xs ≡ ys
    some_of xs ys e = cc

    held : (values : List Text) → is_some (slice_get values 0) ≡ true → 0 < length values
    held [] none = cc
    held (v ∷ vs) some = omega arith

    go : (o : Option Row) → is_some (option_and_then (λ (r : Row). slice_get r.values 0) o) ≡ true
        → Some texts ≡ option_map (λ (r : Row). r.values) o → 0 < length texts
    go None none e = cc
    go (Some r) some e = subst (λ (vs : List Text). 0 < length vs) (sym (some_of texts r.values e)) (held r.values some)

asked_within : (most : ℕ) → 1 ≤ most → (o : Option Text) → IfSome o (SpellsUpTo most) → IsUpTo most (number_asked o)
asked_within most some None spells = (omega arith, some)
asked_within most some (Some text) spells = spells.1

given_within : (most : ℕ) (o : Option Text) → IfSome o (SpellsUpTo most) → IfSome (option_map number o) (IsUpTo most)
given_within most None spells = tt
given_within most (Some text) spells = spells.1

pub usable_by : (rows : List Row) (o : Options) → IsWhole rows → HasValues rows o → IsUsable o
usable_by rows o whole values = (
  subst (λ (n : ℕ). 0 < n) (length-map o.aspects.items string_bytes)
      (values_some (codes "ASPECT") rows (map string_bytes o.aspects.items) whole.aspects values.aspects),
  subst (IsUpTo max_connections) (sym values.connections)
      (asked_within max_connections (omega arith) _ whole.connections),
  subst (IsUpTo max_slice) (sym values.slice) (asked_within max_slice (omega arith) _ whole.slice),
  subst (λ (o : Option ℕ). IfSome o (IsUpTo max_keep)) (sym values.keep) (given_within max_keep _ whole.keep),
)

-- ---- which words are taken

module _ (words : List Text) (rows : List Row) (list : Option Text) (matched : rows ≡ matches_of command_line words)
    (found : list ≡ first_of (codes "forms") rows) where
  is_list : list ≡ first_of (codes "forms") (matches_of command_line words)
  is_list = found ∙ ap (first_of (codes "forms")) matched

  pub names_known : are_taken words ≡ true → name_forms list ≡ true
  names_known taken =
      ap name_forms is_list
      ∙ (both (takes command_line words) (name_forms (first_of (codes "forms") (matches_of command_line words))) taken).1

  pub asks_by : (o : Options) → takes command_line words ≡ true → name_forms list ≡ true → HasValues rows o
      → Asks words o
  asks_by o takes known values = record {
    taken = rw (takes, ← is_list, known) refl;
    values = subst (λ (rs : List Row). HasValues rs o) matched values;
  }

pub line_takes : (words : List Text) → are_taken words ≡ true → takes command_line words ≡ true
line_takes words taken =
    (both (takes command_line words) (name_forms (first_of (codes "forms") (matches_of command_line words))) taken).0
