-- Declarations one behind the other, with their constants, as a loop reads them.
use Rattle.std.proofs.Common.{◌≡◌, ◌-◌, ◌<◌, ℕ, List, [], ◌∷◌, ◌++◌, false, refl, sym, ap, ◌∙◌}
use Rattle.std.specs.List.{filter_map}
use Rattle.std.proofs.lemmas.List.Elements.{filter_map-append}
use lib.Chars.{codes}
use Rattle.at_text.specs.Rows.{Row, sign, is_sign, next_is}
use Rattle.at_text.specs.declared.place.Place.{Place}
use Rattle.at_text.specs.declared.fault.Failure.{Failure}
use Rattle.at_jrag.specs.Syntax.{Decl}
use Rattle.at_java.specs.declared.reader.Breach.{Breach}
use Rattle.at_java.specs.declared.JavaCode.TheVariants.{Limit}
use Rattle.at_java.specs.Read.{Read, got, fails, here, map_read, Fails}
use Rattle.at_java.specs.Items.{Closed, items_until}
use Rattle.at_java.specs.Declarations.{Constant, Declared, declaration}
use Rattle.at_java.specs.Files.{Declarations, sorted, declarations, most_declarations}
use Rattle.at_java.proofs.ItemLists.{behind, behind_none, item_read, item_fails, items_too_many, items_end}
use Rattle.at_java.proofs.Loops.{map_fails}

abbrev decls_of : List Declared → List Decl
decls_of = filter_map (λ d. d.decl)

abbrev constants_of : List Declared → List Constant
constants_of = filter_map (λ d. d.constant)

-- these were read in front of the row, and so many more may be
pub record Among (whole : Row) (decls : List Decl) (constants : List Constant) (n : ℕ) (row : Row) : Type 0 where
  pub items : List Declared
  pub decls_are : decls_of items ≡ decls
  pub constants_are : constants_of items ≡ constants
  pub is : items_until declaration most_declarations whole ≡ behind items (items_until declaration n row)

pub none_among : (row : Row) (decls : List Decl) (constants : List Constant) → decls ≡ [] → constants ≡ [] → Among row decls constants most_declarations row
none_among row decls constants d c = record { items = []; decls_are = sym d; constants_are = sym c; is = behind_none (items_until declaration most_declarations row) }

module _ (whole : Row) (decls : List Decl) (constants : List Constant) (n : ℕ) (row : Row) (among : Among whole decls constants n row) where
  pub more_among : (d : Declared) (ds : List Decl) (cs : List Constant) (there mid : Row) → 0 < n → next_is (is_sign (codes "}")) row ≡ false → there ≡ row
      → declaration there ≡ got d mid → ds ≡ decls ++ decls_of (d ∷ []) → cs ≡ constants ++ constants_of (d ∷ []) → Among whole ds cs (n - 1) mid
  more_among d ds cs there mid z h same r p q = record {
    items = among.items ++ d ∷ [];
    decls_are = filter_map-append (λ (x : Declared). x.decl) among.items (d ∷ []) ∙ ap (λ xs. xs ++ decls_of (d ∷ [])) among.decls_are ∙ sym p;
    constants_are = filter_map-append (λ (x : Declared). x.constant) among.items (d ∷ []) ∙ ap (λ xs. xs ++ constants_of (d ∷ [])) among.constants_are ∙ sym q;
    is = item_read declaration n _ among.items d _ row there mid z among.is h same r refl;
  }

  pub among_end : (at : Place) (rest : Row) → row ≡ sign (codes "}") at ∷ rest
      → declarations whole ≡ got (record { decls = decls; constants = constants; end = at }) rest
  among_end at rest r =
      ap (map_read sorted) (items_end declaration n _ among.items row at rest among.is r)
      ∙ ap (λ xs. got (record { decls = xs; constants = constants_of among.items; end = at }) rest) among.decls_are
      ∙ ap (λ xs. got (record { decls = decls; constants = xs; end = at }) rest) among.constants_are

  pub among_too_many : (there : Row) → n ≡ 0 → next_is (is_sign (codes "}")) row ≡ false → there ≡ row → declarations whole ≡ fails (here Limit there)
  among_too_many there z h same = ap (map_read sorted) (items_too_many declaration n _ among.items row there z among.is h same)

  pub among_fails : (e : Failure Breach) (there rest : Row) → 0 < n → next_is (is_sign (codes "}")) row ≡ false → there ≡ row → Fails e rest (declaration there)
      → Fails e rest (declarations whole)
  among_fails e there rest z h same f =
      map_fails e rest sorted (items_until declaration most_declarations whole) (item_fails declaration n _ among.items e row there rest z among.is h same f)
