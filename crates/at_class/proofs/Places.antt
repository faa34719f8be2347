-- Places of the first components and classes at which a rule is broken, by what was found of their classes.
use Rattle.std.proofs.Common.{◌≡◌, ℕ, zero, suc, ◌+◌, ◌-◌, ◌<◌, ◌≤◌, List, [], ◌∷◌, length, map, get_or, refl, ap, sym, ◌∙◌, subst, arith, eq-eqb, true≢false, Some, None}
use Rattle.std.specs.Prelude.{Bool, true, false, ◌||◌, if◌then◌else◌, nat_eq, nat_le, nat_lt}
use Rattle.std.specs.List.{slice_get}
use Rattle.std.specs.Option.{option_map}
use Rattle.std.proofs.lemmas.Bool.{eqb-true, ltb-true, ltb-false}
use Rattle.std.proofs.lemmas.List.{length-map}
use Rattle.std.proofs.lemmas.Option.{slice_get-map, slice_get_read, slice_get_past}
use Rattle.at_grammar.specs.declared.syntax.ClassDecl.{ClassDecl}
use Rattle.at_grammar.specs.declared.syntax.PartDecl.{PartDecl}
use Rattle.at_model.specs.Classes.{Classes, parts}
use Rattle.at_model.specs.Declarations.{PartDeclaration, class_by, class_named, classes_of, first_given, is_twice, max_classes, max_parts}
use Rattle.at_class.specs.Checks.{parts_twice}
use Rattle.at_class.specs.Grammar.{declaration_view, declarations_view, part_declaration_view, place_view}
use Rattle.at_class.specs.Taken.{IsFirst}
use Rattle.at_class.specs.View.{class_view, classes_view}
use Rattle.at_class.specs.Ways.{AreFound, IsFound}
use Rattle.at_class.specs.declared.class.Class.{Class}
use Rattle.at_class.specs.declared.found.Found.{Found}

given_none : (test : ℕ → Bool) (k : ℕ) (ps : List PartDeclaration) → ((i : ℕ) → test i ≡ false) → first_given (λ i p. if test i then Some p.at else None) k ps ≡ None
given_none test k [] none = refl
given_none test k (p ∷ ps) none = rw (none k) (given_none test (k + 1) ps none)

given_at : (test : ℕ → Bool) (k m : ℕ) (ps : List PartDeclaration) → test (k + m) ≡ true → ((j : ℕ) → j < k + m → test j ≡ false)
    → first_given (λ i p. if test i then Some p.at else None) k ps ≡ option_map (λ (p : PartDeclaration). p.at) (slice_get ps m)
given_at test k m [] here none = refl
given_at test k zero (p ∷ ps) here none =
    let n : k ≡ k + 0 = omega arith in
    let t : test k ≡ true = ap test n ∙ here in
    rw t refl
given_at test k (suc m) (p ∷ ps) here none =
    let n : (k + 1) + m ≡ k + suc m = omega arith in
    rw (none k (omega arith)) (given_at test (k + 1) m ps (ap test n ∙ here) (λ j less. none j (omega (arith, less))))

pub twice_nowhere : (classes : Classes) (c : ℕ) (ps : List PartDeclaration) → IsFirst (is_twice classes c) None → parts_twice classes c ps ≡ None
unfolding parts_twice
twice_nowhere classes c ps none = given_none (is_twice classes c) 0 ps none

twice_at_first : (classes : Classes) (c i : ℕ) (ps : List PartDeclaration) → IsFirst (is_twice classes c) (Some i)
    → parts_twice classes c ps ≡ option_map (λ (p : PartDeclaration). p.at) (slice_get ps i)
unfolding parts_twice
twice_at_first classes c i ps first =
    let n : 0 + i ≡ i = omega arith in
    given_at (is_twice classes c) 0 i ps (ap (is_twice classes c) n ∙ first.0) (λ j less. first.1 j (omega (arith, less, n)))

pub twice_there : (classes : Classes) (c i : ℕ) (parts : List PartDecl) (p : PartDecl)
    → IsFirst (is_twice classes c) (Some i) → i < length parts → p ≡ get_or parts i p
    → parts_twice classes c (map part_declaration_view parts) ≡ Some (place_view p.at)
twice_there classes c i parts p first less is =
    twice_at_first classes c i (map part_declaration_view parts) first
    ∙ ap (option_map (λ (q : PartDeclaration). q.at)) (slice_get-map part_declaration_view parts i ∙ ap (option_map part_declaration_view) (slice_get_read parts (length parts) i p refl less is))

pub twice_past : (classes : Classes) (c i : ℕ) (parts : List PartDecl) → IsFirst (is_twice classes c) (Some i) → length parts ≤ i → parts_twice classes c (map part_declaration_view parts) ≡ None
twice_past classes c i parts first past =
    twice_at_first classes c i (map part_declaration_view parts) first
    ∙ ap (option_map (λ (q : PartDeclaration). q.at)) (slice_get-map part_declaration_view parts i ∙ ap (option_map part_declaration_view) (slice_get_past parts i past))

-- what was found of the classes, as it is lent
pub found_of : (classes other : Classes) (fs lent : List Found) (n : ℕ) → classes ≡ other → lent ≡ fs → AreFound classes fs n → AreFound other lent (length lent)
found_of classes other fs lent n same is are =
    subst (λ ks. AreFound ks lent (length lent)) same
    (subst (λ gs. AreFound classes gs (length gs)) (sym is) (subst (λ m. AreFound classes fs m) (sym are.count) are))

-- no room is left just where there are too many
room_none : (n r : ℕ) → r ≡ suc max_parts - n → nat_eq r 0 ≡ nat_lt max_parts n
room_none n r e = by (nat_eq r 0) (nat_lt max_parts n) refl refl
  where
    by : (s t : Bool) → nat_eq r 0 ≡ s → nat_lt max_parts n ≡ t → s ≡ t
    by true true f g = refl
    by false false f g = refl
    by true false f g = absurd (omega (arith, e, eqb-true r 0 f, ltb-false max_parts n g))
    by false true f g = absurd (true≢false (sym (eq-eqb r 0 (omega (arith, e, ltb-true max_parts n g))) ∙ f))

pub over_test : (classes : Classes) (k : ℕ) (f : Found) (r : Bool) → IsFound classes k f → r ≡ (nat_le max_classes k
    || nat_eq f.room 0) → (nat_le max_classes k || nat_lt max_parts (length (parts classes k))) ≡ r
over_test classes k f r found e = sym (e ∙ ap (λ b. nat_le max_classes k || b) (room_none (length (parts classes k)) f.room found.room))

-- there are as many classes as declarations
pub as_many : (ks : List Class) (xs : List ClassDecl) → classes_view ks ≡ classes_of (declarations_view xs) → length ks ≡ length xs
unfolding classes_of
as_many ks xs e =
    sym (length-map ks class_view) ∙ ap length e ∙ length-map (declarations_view xs) (class_by (class_named (declarations_view xs))) ∙ length-map xs declaration_view
