-- The classes that a grammar without faults declares are a hierarchy.
use Rattle.std.proofs.Common.{◌≡◌, ◌+◌, ◌<◌, [], length, refl, ap, sym, subst, ◌∙◌, arith, get_or, None}
use Rattle.std.specs.Prelude.{Bool, true, false, nat_eq, if◌then◌else◌, Some}
use Rattle.std.specs.List.{list_any}
use Rattle.std.proofs.lemmas.List.{length-map}
use Rattle.at_model.specs.Classes.{AreSound}
use Rattle.at_model.specs.Declarations.{Declarations, Declaration, Place, above, class_by, class_named, classes_of, superclass_circle}
use Rattle.at_model.specs.WellFormed.{IsHierarchy}
use Rattle.at_model.proofs.of_typing.TypedTogether.{classes_hierarchy}
use Rattle.at_class.specs.Checks.{circle_at}
use Rattle.at_class.proofs.Sound.{given_nowhere}

pub passed : (b : Bool) (p : Place) → (if b then Some p else None) ≡ None → b ≡ false
passed true p h = absurd (cc)
passed false p h = refl

pub hierarchy : (ds : Declarations) → AreSound (classes_of ds) → superclass_circle ds ≡ None → IsHierarchy (classes_of ds)
unfolding superclass_circle classes_of
hierarchy ds sound none =
    let classes = classes_of ds in
    classes_hierarchy classes sound (λ c less.
    let l : c < length ds = subst (λ n. c < n) (length-map ds (class_by (class_named ds))) less in
    let n : 0 + c ≡ c = omega arith in
    passed (list_any (nat_eq c) (above classes c)) (get_or ds c spare).at
    (ap (λ m. circle_at classes m (get_or ds c spare)) (sym n) ∙ given_nowhere (circle_at classes) 0 ds c spare none l))
  where
    spare : Declaration
    spare = record { name = []; is_abstract = false; parent = None; parts = []; at = (0, 0) }
