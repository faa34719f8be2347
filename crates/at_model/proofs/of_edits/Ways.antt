-- Where the steps to children lead over each edit.
use Rattle.std.proofs.Common.{◌≡◌, ℕ, ◌+◌, ◌-◌, ◌<◌, ◌≤◌, Bool, true, false, ◌&&◌, nat_eq, nat_lt, nat_le, if◌then◌else◌, Option, Some, None, refl, sym, ap, ◌∙◌, arith}
use Rattle.std.proofs.lemmas.Bool.Decides.{nat_tests}
use Rattle.at_model.specs.Paths.{step_eq}
use Rattle.at_model.specs.Edits.{past_set, past_put, past_drop, past_insert}
use Rattle.at_model.proofs.of_edits.Moving.{Way, KeepsParts, IsApart}

unless : {A : Type 0} (b : Bool) (o : Option A) (a : A) → (if b then None else o) ≡ Some a → (b ≡ false) × (o ≡ Some a)
unless true o a e = absurd cc
unless false o a e = (refl, e)

pub same_some : {A : Type 0} (a b : A) → Some a ≡ Some b → a ≡ b
same_some a b e = cc

-- two steps with the same parts are the same
pub same_way : (s r : Way) → s.0 ≡ r.0 → s.1 ≡ r.1 → s ≡ r
same_way s r e f = λ i. (e i, f i)

true_not_false : (b : Bool) → b ≡ true → b ≡ false → ⊥
true_not_false b e f = let g : true ≡ false = sym e ∙ f in cc

-- a set
pub set_way : (place s u : Way) → past_set place s ≡ Some u → (s ≡ u) × (step_eq place s ≡ false)
set_way place s u e = let (apart, is) = unless (step_eq place s) (Some s) u e in (same_some s u is, apart)

-- a put
pub put_way : (part : ℕ) (s u : Way) → past_put part s ≡ Some u → (s ≡ u) × (nat_eq part s.0 ≡ false)
put_way part s u e = let (apart, is) = unless (nat_eq part s.0) (Some s) u e in (same_some s u is, apart)

-- a drop: what stood behind moves to the front, what stood before or elsewhere stays
pub data DropWay (place s u : Way) : Type 0 where
  behind : s.0 ≡ place.0 → place.1 < s.1 → u.0 ≡ s.0 → u.1 + 1 ≡ s.1 → DropWay place s u
  stays : u ≡ s → (s.0 ≡ place.0 → s.1 < place.1) → DropWay place s u

pub drop_way : (place s u : Way) → past_drop place s ≡ Some u → DropWay place s u
drop_way place s u e = let (apart, is) = unless (step_eq place s) _ u e in by_tests (nat_eq place.0 s.0) (nat_eq place.1 s.1) (nat_lt place.1 s.1) refl refl refl apart is
  where
    by_tests : (a b c : Bool) → nat_eq place.0 s.0 ≡ a → nat_eq place.1 s.1 ≡ b → nat_lt place.1 s.1 ≡ c
        → (a && b) ≡ false → (if a && c then Some (s.0, s.1 - 1) else Some s) ≡ Some u → DropWay place s u
    by_tests true b true x y z apart is =
        let same = same_some {A = Way} (s.0, s.1 - 1) u is in
        let less : place.1 < s.1 = grind (arith, nat_tests) in
        let index : u.1 ≡ s.1 - 1 = ap (λ (w : Way). w.1) (sym same) in
        behind (grind (arith, nat_tests)) less (ap (λ (w : Way). w.0) (sym same)) (omega arith)
    by_tests true true false x y z apart is = absurd cc
    by_tests true false false x y z apart is = stays (sym (same_some s u is)) (λ h. grind (arith, nat_tests))
    by_tests false b c x y z apart is = stays (sym (same_some s u is)) (λ h. absurd (let f : nat_eq place.0 s.0 ≡ true = grind (arith, nat_tests) in cc))

pub drop_apart : (place : Way) → IsApart (past_drop place)
drop_apart place s r u e f = by_ways (drop_way place s u e) (drop_way place r u f)
  where
    by_ways : DropWay place s u → DropWay place r u → s ≡ r
    by_ways (behind a b c d) (behind w x y z) = same_way s r (sym c ∙ y) (sym d ∙ z)
    by_ways (behind a b c d) (stays is less) = let g : r.0 ≡ place.0 = ap (λ (w : Way). w.0) (sym is) ∙ c ∙ a in
        let h : r.1 < place.1 = less g in let k : u.1 ≡ r.1 = ap (λ (w : Way). w.1) is in absurd (omega arith)
    by_ways (stays is less) (behind w x y z) = let g : s.0 ≡ place.0 = ap (λ (w : Way). w.0) (sym is) ∙ y ∙ w in
        let h : s.1 < place.1 = less g in let k : u.1 ≡ s.1 = ap (λ (w : Way). w.1) is in absurd (omega arith)
    by_ways (stays is less) (stays js more) = sym is ∙ js

-- an insert: what stood there and behind moves to the back
pub data InsertWay (place s u : Way) : Type 0 where
  behind : s.0 ≡ place.0 → place.1 ≤ s.1 → u.0 ≡ s.0 → u.1 ≡ s.1 + 1 → InsertWay place s u
  stays : u ≡ s → (s.0 ≡ place.0 → s.1 < place.1) → InsertWay place s u

pub insert_way : (place s u : Way) → past_insert place s ≡ Some u → InsertWay place s u
insert_way place s u e = by_tests (nat_eq place.0 s.0) (nat_le place.1 s.1) refl refl e
  where
    by_tests : (a b : Bool) → nat_eq place.0 s.0 ≡ a → nat_le place.1 s.1 ≡ b → (if a && b then Some (s.0, s.1 + 1) else Some s) ≡ Some u → InsertWay place s u
    by_tests true true x y is =
        let same = same_some {A = Way} (s.0, s.1 + 1) u is in
        behind (grind (arith, nat_tests)) (grind (arith, nat_tests)) (ap (λ (w : Way). w.0) (sym same)) (ap (λ (w : Way). w.1) (sym same))
    by_tests true false x y is = stays (sym (same_some s u is)) (λ h. grind (arith, nat_tests))
    by_tests false b x y is = stays (sym (same_some s u is)) (λ h. absurd (let f : nat_eq place.0 s.0 ≡ true = grind (arith, nat_tests) in cc))

pub insert_apart : (place : Way) → IsApart (past_insert place)
insert_apart place s r u e f = by_ways (insert_way place s u e) (insert_way place r u f)
  where
    by_ways : InsertWay place s u → InsertWay place r u → s ≡ r
    by_ways (behind a b c d) (behind w x y z) = let g : s.1 ≡ r.1 = omega arith in same_way s r (sym c ∙ y) g
    by_ways (behind a b c d) (stays is less) = let g : r.0 ≡ place.0 = ap (λ (w : Way). w.0) (sym is) ∙ c ∙ a in
        let h : r.1 < place.1 = less g in let k : u.1 ≡ r.1 = ap (λ (w : Way). w.1) is in absurd (omega arith)
    by_ways (stays is less) (behind w x y z) = let g : s.0 ≡ place.0 = ap (λ (w : Way). w.0) (sym is) ∙ y ∙ w in
        let h : s.1 < place.1 = less g in let k : u.1 ≡ s.1 = ap (λ (w : Way). w.1) is in absurd (omega arith)
    by_ways (stays is less) (stays js more) = sym is ∙ js

-- each keeps the components of steps, and those in other components whole
apart_else : (place s : Way) → nat_eq place.0 s.0 ≡ false → step_eq place s ≡ false
apart_else place s e = ap (λ b. b && nat_eq place.1 s.1) e

pub set_keeps : (place : Way) → KeepsParts (past_set place) place.0
set_keeps place = record {
  other = λ s e. ap (λ (b : Bool). if b then None else Some s) (apart_else place s e);
  same = λ s u e. ap (λ (w : Way). w.0) (sym (set_way place s u e).0);
}

pub put_keeps : (part : ℕ) → KeepsParts (past_put part) part
put_keeps part = record {
  other = λ s e. ap (λ (b : Bool). if b then None else Some s) e;
  same = λ s u e. ap (λ (w : Way). w.0) (sym (put_way part s u e).0);
}

drop_part : (place s u : Way) → DropWay place s u → u.0 ≡ s.0
drop_part place s u (behind a b c d) = c
drop_part place s u (stays is less) = ap (λ (w : Way). w.0) is

insert_part : (place s u : Way) → InsertWay place s u → u.0 ≡ s.0
insert_part place s u (behind a b c d) = c
insert_part place s u (stays is less) = ap (λ (w : Way). w.0) is

pub drop_keeps : (place : Way) → KeepsParts (past_drop place) place.0
drop_keeps place = record {
  other = λ s e. ap (λ (b : Bool). if b then None else
      (if nat_eq place.0 s.0 && nat_lt place.1 s.1 then Some (s.0, s.1 - 1) else Some s)) (apart_else place s e)
      ∙ ap (λ (b : Bool). if b && nat_lt place.1 s.1 then Some (s.0, s.1 - 1) else Some s) e;
  same = λ s u e. drop_part place s u (drop_way place s u e);
}

pub insert_keeps : (place : Way) → KeepsParts (past_insert place) place.0
insert_keeps place = record {
  other = λ s e. ap (λ (b : Bool). if b && nat_le place.1 s.1 then Some (s.0, s.1 + 1) else Some s) e;
  same = λ s u e. insert_part place s u (insert_way place s u e);
}

pub set_apart : (place : Way) → IsApart (past_set place)
set_apart place s r u e f = (set_way place s u e).0 ∙ sym (set_way place r u f).0

pub put_apart : (part : ℕ) → IsApart (past_put part)
put_apart part s r u e f = (put_way part s u e).0 ∙ sym (put_way part r u f).0
