-- The fault of constants, of its six parts.
use Rattle.std.proofs.Common.{◌≡◌, ◌∙◌, ℕ, ◌+◌, Some, false, not, if◌then◌else◌, List, [], ◌∷◌, length, map, Option, None, Ok, refl, sym, ap, ap₂, subst, arith}
use Rattle.std.specs.List.{filter}
use Rattle.std.specs.Option.{option_map, option_or}
use Rattle.std.proofs.lemmas.List.{length-map}
use Rattle.at_model.specs.Classes.{Classes}
use Rattle.at_model.specs.Declarations.{Declaration, Declarations, Fault, PartDeclaration, Place, classes_of, first_fault, first_given, first_of}
use Rattle.at_model.specs.WellFormed.{IsHierarchy}
use Rattle.at_start.specs.Constants.{Placed, additions, bare, level, planted_classes, whole_grammar}
use Rattle.at_start.specs.ConstantFaults.{Refusal, Tells, barren, breaking, constants_fault, first_empty, first_refusal, is_empty, lacking, misfilled, misshapen, unnamed, unstanding}
use Rattle.at_start.specs.Planted.{IsPlanted}
use Rattle.at_start.specs.declared.fault.StartFault.{StartFault}
use Rattle.at_start.proofs.PlantingGrammars.{none_breaking}
use Rattle.at_start.proofs.PlantingLevels.{level_first}
use Rattle.at_start.proofs.PlantingLoops.{tells_behind, tells_first}

all_none : (a b c d e f : Option Refusal) → a ≡ None → b ≡ None → c ≡ None → d ≡ None → e ≡ None → f ≡ None
    → first_of (a ∷ b ∷ c ∷ d ∷ e ∷ f ∷ []) ≡ None
all_none a b c d e f first second third fourth fifth sixth = rw (first, second, third, fourth, fifth, sixth) refl

module _ (marks : List Place) (ds : Declarations) (ks : List Placed) where
  pub told_name : (e : StartFault) → Tells (first_refusal unnamed ks) e → Tells (constants_fault marks ds ks) e
  told_name e told = tells_first (first_refusal unnamed ks) _ e told

  module _ (names : first_refusal unnamed ks ≡ None) where
    pub told_rule : (e : StartFault) → Tells (breaking ds (additions marks ds ks)) e → Tells (constants_fault marks ds ks) e
    told_rule e told = tells_behind (first_refusal unnamed ks) _ e names (tells_first (breaking ds (additions marks ds ks)) _ e told)

    module _ (rules : breaking ds (additions marks ds ks) ≡ None) where
      behind_rules : (rest : Option Refusal) (e : StartFault) → Tells rest e
          → Tells (option_or (first_refusal unnamed ks) (option_or (breaking ds (additions marks ds ks)) rest)) e
      behind_rules rest e told =
          tells_behind (first_refusal unnamed ks) _ e names (tells_behind (breaking ds (additions marks ds ks)) rest e rules told)

      pub told_filling : (e : StartFault) → Tells (misfilled marks ds ks) e → Tells (constants_fault marks ds ks) e
      told_filling e told = behind_rules _ e (tells_first (misfilled marks ds ks) _ e told)

      module _ (filling : misfilled marks ds ks ≡ None) where
        behind_filling : (rest : Option Refusal) (e : StartFault) → Tells rest e
            → Tells (option_or (first_refusal unnamed ks) (option_or (breaking ds (additions marks ds ks)) (option_or (misfilled marks ds ks) rest))) e
        behind_filling rest e told = behind_rules _ e (tells_behind (misfilled marks ds ks) rest e filling told)

        pub told_barren : (e : StartFault) → Tells (barren marks ds) e → Tells (constants_fault marks ds ks) e
        told_barren e told = behind_filling _ e (tells_first (barren marks ds) _ e told)

        module _ (fertile : barren marks ds ≡ None) (plain : Classes) (are : plain ≡ classes_of (bare marks ds)) where
          pub told_term : (e : StartFault) → Tells (first_refusal (misshapen plain) ks) e → Tells (constants_fault marks ds ks) e
          told_term e told =
              behind_filling _ e (tells_behind (barren marks ds) _ e fertile
              (tells_first (first_refusal (misshapen (classes_of (bare marks ds))) ks) _ e
              (subst (λ (k : Classes). Tells (first_refusal (misshapen k) ks) e) are told)))

          module _ (terms : first_refusal (misshapen plain) ks ≡ None) (planted : Classes) (is : planted ≡ planted_classes marks ds ks) where
            shapes : first_refusal (misshapen (classes_of (bare marks ds))) ks ≡ None
            shapes = subst (λ (k : Classes). first_refusal (misshapen k) ks ≡ None) are terms

            pub told_circle : (e : StartFault) → Tells (unstanding planted ks) e → Tells (constants_fault marks ds ks) e
            told_circle e told =
                behind_filling _ e (tells_behind (barren marks ds) _ e fertile
                (tells_behind (first_refusal (misshapen (classes_of (bare marks ds))) ks) _ e shapes
                (tells_first (unstanding (planted_classes marks ds ks) ks) None e
                (subst (λ (k : Classes). Tells (unstanding k ks) e) is told))))

            -- all can stand
            pub all_stand : unstanding planted ks ≡ None → constants_fault marks ds ks ≡ None
            all_stand circles =
                all_none (first_refusal unnamed ks) (breaking ds (additions marks ds ks)) (misfilled marks ds ks) (barren marks ds)
                (first_refusal (misshapen (classes_of (bare marks ds))) ks) (unstanding (planted_classes marks ds ks) ks)
                names rules filling fertile shapes (subst (λ (k : Classes). unstanding k ks ≡ None) is circles)

-- ---- no marks, and no constants

no_parts : (d : Declaration) (k : ℕ) (ps : List PartDeclaration)
    → first_given (λ i p. if is_empty [] [] d p then Some p.at else None) k ps ≡ None
no_parts d k [] = refl
no_parts d k (p ∷ ps) = no_parts d (k + 1) ps

no_classes : (k : ℕ) (ds : Declarations) → first_given (λ c d. first_empty [] [] d) k ds ≡ None
no_classes k [] = refl
no_classes k (d ∷ ds) = ap (λ (o : Option Place). option_or o (first_given (λ c d. first_empty [] [] d) (k + 1) ds)) (no_parts d 0 d.parts) ∙ no_classes (k + 1) ds

filter_all : {A : Type 0} (xs : List A) → filter (λ x. not false) xs ≡ xs
filter_all [] = refl
filter_all (x ∷ xs) = ap (λ ys. x ∷ ys) (filter_all xs)

bare_none : (ds : Declarations) → bare [] ds ≡ ds
bare_none [] = refl
bare_none (d ∷ ds) =
    ap₂ (λ (ps : List PartDeclaration) (es : Declarations).
    record { name = d.name; is_abstract = d.is_abstract; parent = d.parent; parts = ps; at = d.at } ∷ es) (filter_all d.parts) (bare_none ds)

-- where there are none nothing is to be refused, and the classes are those that are declared
pub none_planted : (ds : Declarations) → first_fault ds ≡ None → (constants_fault [] ds [] ≡ None) × (planted_classes [] ds [] ≡ classes_of ds)
none_planted ds faultless =
    let filling : misfilled [] ds [] ≡ None = ap (λ (o : Option Place). option_or (option_map lacking o) None) (no_classes 0 ds) in
    let fertile : barren [] ds ≡ None = ap (λ (o : Option Fault). option_map (λ (f : Fault). lacking f.at) o)
    (ap first_fault (bare_none ds) ∙ faultless) in
    (all_none None (breaking ds []) (misfilled [] ds []) (barren [] ds) None None refl (none_breaking ds [] faultless) filling fertile refl refl, level_first ds [])

pub no_constants : {X Y : Type 0} (view : X → Placed) (place : Y → Place) (xs : List X) (ys : List Y) (ds : Declarations) (classes : Classes)
    → length xs ≡ 0 → length ys ≡ 0 → first_fault ds ≡ None
    → classes ≡ classes_of ds → IsHierarchy classes → IsPlanted (map place ys) ds (map view xs) (Ok classes)
no_constants view place [] [] ds classes none none' faultless are hierarchy =
    let both = none_planted ds faultless in (both.0, are ∙ sym both.1, hierarchy)
no_constants view place [] (y ∷ ys) ds classes none none' faultless are hierarchy = absurd (omega (arith, none'))
no_constants view place (x ∷ xs) ys ds classes none none' faultless are hierarchy = absurd (omega (arith, none))

-- the classes of the last level
pub last_level : {X : Type 0} (view : X → Placed) (xs : List X) (marks : List Place) (ds whole : Declarations) (planted : Classes)
    → whole ≡ whole_grammar marks ds (map view xs) → planted ≡ level whole (map view xs) (length xs)
    → planted ≡ planted_classes marks ds (map view xs)
last_level view xs marks ds whole planted is at =
    at ∙ ap₂ (λ (d : Declarations) (n : ℕ). level d (map view xs) n) is (sym (length-map xs view))
