-- The rules that aspect files give are well formed; their circular attributes are lazy and boolean, and there are
-- none where that form isn't read.
use Rattle.std.proofs.Common.{◌≡◌, ◌∙◌, ℕ, ◌+◌, true, false, List, [], ◌∷◌, Some, Result, Ok, Err, refl, sym, subst, true≢false}
use Rattle.std.specs.Result.{IfOk}
use Rattle.std.specs.List.{AllByRecursion, slice_get}
use Rattle.at_model.specs.Kinds.{IsDeclarationTyped}
use Rattle.at_model.specs.Rules.{Attribute, Rules, start_of}
use Rattle.at_model.specs.WellFormed.{IsHierarchy, AreWellFormed}
use Rattle.at_jrag.specs.Syntax.{Aspect}
use Rattle.at_jrag.specs.declared.Forms.{Forms}
use Rattle.at_model.proofs.Everywhere.{all_both, found}
use Rattle.at_rules.specs.Circular.{AreCircularLazy, HasNoneCircular}
use Rattle.at_kinds.specs.declared.arguments.Arguments.TheVariants.{Given, Computed}
use Rattle.at_typing.specs.Declaring.{IsNotCircular}
use Rattle.at_typing.specs.Located.{IsSpelled, from_file, located}
use Rattle.at_typing.proofs.BuiltWellFormed.{built_well_formed, built_plain, declared_well_formed}
use Rattle.at_typing.proofs.Starting.{file_plain}
use Rattle.at_evaluate.specs.Meant.{AreCircularWell}
use Rattle.at_java.specs.Aliases.{Alias}
use Rattle.at_start.specs.Lists.{aliases_in}
use Rattle.at_model.specs.Declarations.{Declarations, Place as Mark, classes_of}
use Rattle.at_java.specs.Files.{Contents}
use Rattle.at_start.specs.Constants.{Placed, planted_classes}
use Rattle.at_start.specs.AspectFiles.{AllGive, GivesRules, AllHold, IsRuled, aspects_in, reads_circular}
use Rattle.at_start.specs.declared.language.Language.{Language}
use Rattle.at_start.specs.declared.language.Language.TheVariants.{Profile, JastAdd}
use Rattle.at_start.specs.declared.fault.StartFault.{StartFault}
use Rattle.at_start.specs.Redeclaring.{read_in}
use Rattle.at_start.proofs.JavaFits.{hold_booleans, hold_ints}
use Rattle.at_start.proofs.Ruled.{made_builds}

-- each file of the profile that holds aspects spells them
hold_spelled : (forms : Forms) (names : List Alias) (files : List (List ℕ)) (contents : List Contents)
    → AllHold (Profile forms) names files contents → AllByRecursion IsSpelled (aspects_in contents)
hold_spelled forms names [] [] hold = tt
hold_spelled forms names [] (a ∷ as') hold = absurd hold
hold_spelled forms names (f ∷ fs) [] hold = absurd hold
hold_spelled forms names (f ∷ fs) (a ∷ as') hold =
    ((forms, hold.0.written.0.tokens, hold.0.written.0.spells), hold_spelled forms names fs as' hold.1)

pub given_well_formed : (language : Language) (marks : List Mark) (ds : Declarations) (files : List (List ℕ)) (rules : Rules)
    → (gives : GivesRules language marks ds files rules) → IsHierarchy (planted_classes marks ds gives.constants) → AreWellFormed rules
given_well_formed (Profile forms) marks ds files rules gives hierarchy =
    let give = gives.given in
    built_well_formed Given (planted_classes marks ds gives.constants) gives.aspects rules hierarchy
    (subst (AllByRecursion IsSpelled) (sym give.aspects_are) (hold_spelled forms (aliases_in (Profile forms) (classes_of ds)) files give.contents give.hold))
    gives.built
given_well_formed JastAdd marks ds files rules gives hierarchy =
    let classes = planted_classes marks ds gives.constants in
    let names = aliases_in JastAdd (classes_of ds) in
    declared_well_formed Computed classes (located 1 (read_in JastAdd classes gives.aspects)) rules hierarchy
    (hold_ints names classes files gives.aspects gives.constants gives.given)
    (hold_booleans names classes files gives.aspects gives.constants gives.given)
    (made_builds JastAdd classes gives.aspects rules gives.built)

pub well_formed_by : (language : Language) (marks : List Mark) (ds : Declarations) (files : List (List ℕ)) (aspects : List (List Aspect)) (constants : List Placed)
    (give : AllGive language (aliases_in language (classes_of ds)) files aspects constants) (result : Result Rules StartFault)
    → IsRuled language marks ds aspects constants result → IfOk result AreWellFormed
well_formed_by language marks ds files aspects constants give (Ok rules) (stand, hierarchy, lazy, built) =
    given_well_formed language marks ds files rules
    (record { aspects = aspects; constants = constants; given = give; stand = stand; built = built }) hierarchy
well_formed_by language marks ds files aspects constants give (Err e) ruled = tt

-- ---- circular ones

start_at : (rules : Rules) (attribute : ℕ) (d : Attribute) → slice_get rules.attributes attribute ≡ Some d
    → start_of rules attribute ≡ d.start
start_at rules attribute d e = rw (e, start_of) refl

-- in well-formed rules they are boolean
circular_well : (rules : Rules) → AreCircularLazy rules → AreWellFormed rules → AreCircularWell rules
circular_well rules lazy formed = record {
  lazy = lazy;
  boolean = λ attribute b d starts there.
      (found (IsDeclarationTyped rules.classes) rules.attributes attribute d formed.typed.attributes there).boolean b
      (sym (start_at rules attribute d there) ∙ starts);
}

pub circular_by : (result : Result Rules StartFault) → IfOk result AreCircularLazy → IfOk result AreWellFormed
    → IfOk result AreCircularWell
circular_by (Ok rules) lazy formed = circular_well rules lazy formed
circular_by (Err e) lazy formed = tt

-- each file that holds aspects declares none where the form isn't read
hold_plain : (forms : Forms) (names : List Alias) → forms.circular ≡ false → (n : ℕ) (files : List (List ℕ)) (contents : List Contents)
    → AllHold (Profile forms) names files contents → AllByRecursion IsNotCircular (located n (aspects_in contents))
hold_plain forms names off n [] [] hold = tt
hold_plain forms names off n [] (a ∷ as') hold = absurd hold
hold_plain forms names off n (f ∷ fs) [] hold = absurd hold
hold_plain forms names off n (f ∷ fs) (a ∷ as') hold =
    all_both IsNotCircular (from_file n a.aspects) (located (n + 1) (aspects_in as'))
    (file_plain forms off n a.aspects hold.0.written.0.tokens [] hold.0.written.0.spells)
    (hold_plain forms names off (n + 1) fs as' hold.1)

pub given_plain : (language : Language) → reads_circular language ≡ false → (marks : List Mark) (ds : Declarations) (files : List (List ℕ)) (rules : Rules)
    → GivesRules language marks ds files rules → HasNoneCircular rules
given_plain (Profile forms) off marks ds files rules gives =
    let give = gives.given in
    built_plain Given (planted_classes marks ds gives.constants) (located 1 gives.aspects) rules
    (subst (λ (as' : List (List Aspect)). AllByRecursion IsNotCircular (located 1 as')) (sym give.aspects_are)
    (hold_plain forms (aliases_in (Profile forms) (classes_of ds)) off 1 files give.contents give.hold))
    gives.built
given_plain JastAdd off marks ds files rules gives = absurd (true≢false off)
