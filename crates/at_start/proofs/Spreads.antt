-- What is read of files in which attributes are declared for ASTNode.
use Rattle.std.proofs.Common.{◌≡◌, ◌∙◌, ℕ, List, [], ◌∷◌, ◌++◌, Vec, Bool, true, false, Result, IfOk, cond, length, map, refl, sym, ap, ap₂, subst}
use Rattle.std.specs.List.{AllByRecursion, flat_map}
use Rattle.std.specs.Prelude.{nat_le}
use Rattle.std.specs.Global.{Global}
use Rattle.at_model.specs.Classes.{Classes}
use Rattle.at_jrag.specs.Syntax.{Aspect, Decl}
use Rattle.at_jrag.specs.declared.syntax.Aspect.{Aspect as AspectValue}
use Rattle.at_start.specs.Spreading.{Head, HaveNoneEverywhere, aspect_spread, decls_everywhere, files_spread, heads, is_everywhere, spread, spread_as}
use Rattle.at_start.specs.declared.everywhere.Sought.TheVariants.{Attributes, Equations}
use Rattle.at_start.proofs.Rereading.{aspects_of}

module _ (classes : Classes) (files : List (List Aspect)) where
  abbrev by_count : Bool → List (List Aspect)
  by_count b = cond b (files_spread classes (heads Attributes files) (heads Equations files) files) files

  counted : (attributes : List Head) (count : ℕ) → attributes ≡ heads Attributes files → length attributes ≡ count
      → nat_le (length (heads Attributes files)) 2000 ≡ nat_le count 2000
  counted attributes count is counts =
      ap (λ (n : ℕ). nat_le n 2000) (ap (λ (hs : List Head). length hs) (sym is) ∙ counts)

  -- where there are so few attributes
  pub few_spread : (attributes : List Head) (count : ℕ) → attributes ≡ heads Attributes files → length attributes ≡ count
      → nat_le count 2000 ≡ true → files_spread classes attributes (heads Equations files) files ≡ spread classes files
  few_spread attributes count is counts few =
      ap (λ hs. files_spread classes hs (heads Equations files) files) is
      ∙ sym (ap by_count (counted attributes count is counts ∙ few))

  -- where there are too many
  pub many_spread : (attributes : List Head) (count : ℕ) → attributes ≡ heads Attributes files → length attributes ≡ count
      → nat_le count 2000 ≡ false → files ≡ spread classes files
  many_spread attributes count is counts many = sym (ap by_count (counted attributes count is counts ∙ many))

-- ---- nothing is declared for ASTNode

module _ (classes : Classes) (attributes equations : List Head) where
  decls_stand : (ds : List Decl) → AllByRecursion (λ d. is_everywhere d.form ≡ false) ds
      → flat_map (spread_as classes attributes equations) ds ≡ ds
  decls_stand [] are = refl
  decls_stand (d ∷ ds) are =
      let rest = flat_map (spread_as classes attributes equations) ds in
      ap (λ (b : Bool). cond b (decls_everywhere classes attributes equations d) (d ∷ []) ++ rest) are.0
      ∙ ap (λ (xs : List Decl). d ∷ xs) (decls_stand ds are.1)

  aspects_stand : (as' : List Aspect) → AllByRecursion (λ a. AllByRecursion (λ d. is_everywhere d.form ≡ false) a.decls) as'
      → map (aspect_spread classes attributes equations) as' ≡ as'
  aspects_stand [] are = refl
  aspects_stand (a ∷ as') are =
      ap₂ (λ (ds : List Decl) (rest : List Aspect). let b : Aspect = record { name = a.name; decls = ds } in b ∷ rest)
      (decls_stand a.decls are.0) (aspects_stand as' are.1)

  files_stand : (files : List (List Aspect)) → HaveNoneEverywhere files → files_spread classes attributes equations files ≡ files
  files_stand [] are = refl
  files_stand (f ∷ fs) are = ap₂ (λ (g : List Aspect) (rest : List (List Aspect)). g ∷ rest) (aspects_stand f are.0) (files_stand fs are.1)

pub none_spread : (classes : Classes) (files : List (List Aspect)) → HaveNoneEverywhere files → spread classes files ≡ files
none_spread classes files are = by (nat_le (length (heads Attributes files)) 2000)
  where
    by : (b : Bool) → by_count classes files b ≡ files
    by true = files_stand classes (heads Attributes files) (heads Equations files) files are
    by false = refl

-- ---- results

-- what is said of a result, of equal files
pub stand_for : {E : Type 0} (r : Result (Vec (Vec AspectValue Global) Global) E) (x y : List (List Aspect)) → x ≡ y
    → IfOk r (λ v. map aspects_of v.items ≡ x) → IfOk r (λ v. map aspects_of v.items ≡ y)
stand_for r x y is so = subst (λ (z : List (List Aspect)). IfOk r (λ v. map aspects_of v.items ≡ z)) is so
