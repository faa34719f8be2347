-- The first of the faults.
use Rattle.std.proofs.Common.{◌≡◌, [], ◌∷◌, refl, ap, sym, ◌∙◌, Option, Some, None}
use Rattle.at_model.specs.Declarations.{Declarations, Place, NoClass, ClassTwice, UnknownClass, SuperclassCircle, TokenKindCode, ComponentTwice, Limit, coded, first_of, first_fault, no_class, class_twice, unknown_class, superclass_circle, token_kind, component_twice, over_limit}
use Rattle.at_text.specs.declared.fault.Fault.{Fault}
use Rattle.at_text.specs.declared.fault.Fault.TheVariants.{Refused, Memory}
use Rattle.at_class.specs.declared.fault.ClassCode.{ClassCode}
use Rattle.at_class.specs.Grammar.{place_view}
use Rattle.at_class.specs.Faults.{IsAt, IsRefusedFor, code_view}

-- what a refusal says is the first fault, if its code has it at that place
pub refused_for : (ds : Declarations) (code : ClassCode) (place : Option Place) (e : Fault ClassCode)
    → ((at : Place) → place ≡ Some at → first_fault ds ≡ Some (record { code = code_view code; at = at }))
    → IsAt code place e → IsRefusedFor ds e
refused_for ds code place (Refused c at) first (same, there) = first (place_view at) there ∙ ap (λ k. Some (record { code = code_view k; at = place_view at })) (sym same)
refused_for ds code place Memory first h = tt

pub fault_no_class : (ds : Declarations) (at : Place) → no_class ds ≡ Some at → first_fault ds ≡ Some (record { code = NoClass; at = at })
unfolding first_fault
fault_no_class ds at h = rw h refl

pub fault_class_twice : (ds : Declarations) (at : Place) → no_class ds ≡ None → class_twice ds ≡ Some at → first_fault ds ≡ Some (record { code = ClassTwice; at = at })
unfolding first_fault
fault_class_twice ds at a h = rw (a, h) refl

pub fault_unknown_class : (ds : Declarations) (at : Place) → no_class ds ≡ None → class_twice ds ≡ None → unknown_class ds ≡ Some at → first_fault ds ≡ Some (record { code = UnknownClass; at = at })
unfolding first_fault
fault_unknown_class ds at a b h = rw (a, b, h) refl

pub fault_circle : (ds : Declarations) (at : Place) → no_class ds ≡ None → class_twice ds ≡ None → unknown_class ds
    ≡ None → superclass_circle ds ≡ Some at → first_fault ds ≡ Some (record { code = SuperclassCircle; at = at })
unfolding first_fault
fault_circle ds at a b c h = rw (a, b, c, h) refl

pub fault_token_kind : (ds : Declarations) (at : Place) → no_class ds ≡ None → class_twice ds ≡ None
    → unknown_class ds ≡ None → superclass_circle ds ≡ None → token_kind ds ≡ Some at
    → first_fault ds ≡ Some (record { code = TokenKindCode; at = at })
unfolding first_fault
fault_token_kind ds at a b c d h = rw (a, b, c, d, h) refl

pub fault_component_twice : (ds : Declarations) (at : Place) → no_class ds ≡ None → class_twice ds ≡ None
    → unknown_class ds ≡ None → superclass_circle ds ≡ None → token_kind ds ≡ None → component_twice ds ≡ Some at
    → first_fault ds ≡ Some (record { code = ComponentTwice; at = at })
unfolding first_fault
fault_component_twice ds at a b c d e h = rw (a, b, c, d, e, h) refl

pub fault_limit : (ds : Declarations) (at : Place) → no_class ds ≡ None → class_twice ds ≡ None
    → unknown_class ds ≡ None → superclass_circle ds ≡ None → token_kind ds ≡ None → component_twice ds ≡ None
    → over_limit ds ≡ Some at → first_fault ds ≡ Some (record { code = Limit; at = at })
unfolding first_fault
fault_limit ds at a b c d e f h = rw (a, b, c, d, e, f, h) refl

pub no_fault : (ds : Declarations) → no_class ds ≡ None → class_twice ds ≡ None → unknown_class ds ≡ None
    → superclass_circle ds ≡ None → token_kind ds ≡ None → component_twice ds ≡ None → over_limit ds ≡ None
    → first_fault ds ≡ None
unfolding first_fault
no_fault ds a b c d e f h = rw (a, b, c, d, e, f, h) refl

-- a grammar without a fault breaks none of these rules
pub none_broken : (ds : Declarations) → first_fault ds ≡ None → (superclass_circle ds ≡ None) × (component_twice ds ≡ None) × (class_twice ds ≡ None)
unfolding first_fault
none_broken ds e = by (no_class ds) (class_twice ds) (unknown_class ds) (superclass_circle ds) (token_kind ds) (component_twice ds) e
  where
    by : (a b c d t p : Option Place) → first_of (coded NoClass a ∷ coded ClassTwice b ∷ coded UnknownClass c ∷ coded
        SuperclassCircle d ∷ coded TokenKindCode t ∷ coded ComponentTwice p ∷ coded Limit (over_limit ds) ∷ []) ≡ None
        → (d ≡ None) × (p ≡ None) × (b ≡ None)
    by None None None None None None e = (refl, refl, refl)
    by None None None None None (Some p) e = absurd cc
    by None None None None (Some t) p e = absurd cc
    by None None None (Some d) t p e = absurd cc
    by None None (Some c) d t p e = absurd cc
    by None (Some b) c d t p e = absurd cc
    by (Some a) b c d t p e = absurd cc
