-- The classes without an equation below a class are those that a walk downward meets.
use Rattle.std.proofs.Common.{◌≡◌, ℕ, ◌+◌, ◌<◌, inl, inr, List, [], ◌++◌, length, refl, ap, sym, ◌∙◌, subst, Option, Some, None, true≢false}
use Rattle.std.specs.Prelude.{Bool, true, false, ◌||◌, ◌&&◌, not, nat_eq, is_none, is_some, replicate, IfNone}
use Rattle.std.specs.Option.{option_to_list}
use Rattle.std.proofs.lemmas.Bool.{and_from, eqb-true}
use Rattle.std.proofs.lemmas.List.{length-replicate}
use Rattle.std.proofs.lemmas.Option.{none-some}
use Rattle.at_model.specs.Classes.{AreSound, chain, is_concrete, is_sub, parent_of}
use Rattle.at_model.specs.Rules.{Rules, own_equation, own_in}
use Rattle.at_model.specs.Bodies.{Expr}
use Rattle.at_model.proofs.Options.{both}
use Rattle.at_complete.specs.Walks.{has_met, Meets, Walked, Walking}
use Rattle.at_complete.specs.Hierarchies.{is_child}
use Rattle.at_complete.specs.Completing.{LacksBelow, leads_own, passes_own, IsWithoutAbove}
use Rattle.at_complete.proofs.Climbing.{no_list, same, sub_itself, sub_above, sub_parent, sub_split, child_within, descends, none_each, each_none}
use Rattle.at_complete.proofs.Walking.{or_cases, meets_like, meets_none, begins, steps, taken_good, ends, ends_full}
use Rattle.at_complete.proofs.Exposing.{is_some_of, is_some_from, fits_within, above_within}

-- no class above has one
pub each_without : (rules : Rules) (attribute c : ℕ) → own_equation rules c attribute ≡ None → (x : ℕ) → is_sub rules.classes c x ≡ true → own_in rules attribute x ≡ None
each_without rules attribute c e x s = none_each (own_in rules attribute) (chain rules.classes c) e x s

pub without_each : (rules : Rules) (attribute c : ℕ) → ((x : ℕ) → is_sub rules.classes c x ≡ true → own_in rules attribute x ≡ None) → own_equation rules c attribute ≡ None
without_each rules attribute c each = each_none (own_in rules attribute) (chain rules.classes c) each

none_from : (o : Option Expr) → is_none o ≡ true → o ≡ None
none_from None e = refl
none_from (Some x) e = no_list e

pub without_begins : (rules : Rules) (b attribute : ℕ) → own_equation rules b attribute ≡ None → (c : ℕ) → c < length rules.classes → c ≡ b → IsWithoutAbove rules b attribute c
without_begins rules b attribute e c less is = (subst (λ z. is_sub rules.classes c z ≡ true) is (sub_itself rules.classes c less), λ none. ap (λ z. own_equation rules z attribute) is ∙ e)

pub without_on : (rules : Rules) → AreSound rules.classes → (b attribute c d : ℕ) → IsWithoutAbove rules b attribute c → leads_own rules attribute c d ≡ true → IsWithoutAbove rules b attribute d
without_on rules sound b attribute c d (below, without) e =
    let (none, child) = both (is_none (own_in rules attribute c)) (is_child rules.classes c d) e in
    let up = is_some_of (parent_of rules.classes d) c child in
    let above = without (none_from (own_in rules attribute c) none) in (
      sub_above rules.classes sound d c b (child_within rules.classes d c up) (sub_parent rules.classes sound d c up) below,
      λ own. without_each rules attribute d (λ x s. elim (sub_split rules.classes sound d x s) [
        | inl f ↦ ap (own_in rules attribute) f ∙ own
        | inr f ↦ each_without rules attribute c above x (subst (λ o. is_sub rules.classes o x ≡ true) (one f.0 c (sym f.1 ∙ up)) f.2)
      ]),
    )
  where
    one : (p c : ℕ) → Some p ≡ Some c → p ≡ c
    one p c e = cc

pub lacks_there : (rules : Rules) (b attribute c : ℕ) → IsWithoutAbove rules b attribute c → own_in rules attribute c ≡ None → is_concrete rules.classes c ≡ true → LacksBelow rules b attribute
lacks_there rules b attribute c (below, without) own concrete = (c, and_from (is_concrete rules.classes c) (is_sub rules.classes c b) concrete below, without own)

-- where the class or one above has an equation
pub lacks_none_above : (rules : Rules) → AreSound rules.classes → (b attribute : ℕ) (e : Expr) → own_equation rules b attribute ≡ Some e → LacksBelow rules b attribute → ⊥
lacks_none_above rules sound b attribute e has (c, f, none) =
    let sub = (both (is_concrete rules.classes c) (is_sub rules.classes c b) f).1 in
    none-some e (sym (without_each rules attribute b (λ x s. each_without rules attribute c none x (sub_above rules.classes sound c b x (fits_within rules.classes c b f) sub s))) ∙ has)

-- where the walk is over
pub lacks_none : (rules : Rules) → AreSound rules.classes → (b attribute : ℕ) (met : List Bool)
    → Walked (length rules.classes) (λ c. nat_eq c b) (leads_own rules attribute) (passes_own rules attribute)
    (IsWithoutAbove rules b attribute) met → LacksBelow rules b attribute → ⊥
lacks_none rules sound b attribute met w (c, f, none) = elim (or_cases (is_some (own_in rules attribute c)) (not (is_concrete rules.classes c)) (w.passed c there)) [
  | inl e ↦ true≢false (sym e ∙ ap is_some own)
  | inr e ↦ true≢false (sym (sym (ap not concrete) ∙ e.1))
]
  where
    concrete : is_concrete rules.classes c ≡ true
    concrete = (both (is_concrete rules.classes c) (is_sub rules.classes c b) f).0

    own : own_in rules attribute c ≡ None
    own = each_without rules attribute c none c (sub_itself rules.classes c (fits_within rules.classes c b f))

    on : (p d : ℕ) → parent_of rules.classes d ≡ Some p → (is_sub rules.classes c p ≡ true → has_met met p ≡ true) → is_sub rules.classes c d ≡ true → has_met met d ≡ true
    on p d up rest s =
        let above = sub_above rules.classes sound c d p (fits_within rules.classes c b f) s (sub_parent rules.classes sound d p up) in
        w.closed p d (rest above) (child_within rules.classes d p up)
        (and_from (is_none (own_in rules attribute p)) (is_child rules.classes p d)
        (ap is_none (each_without rules attribute c none p above)) (is_some_from (parent_of rules.classes d) p up))

    there : has_met met c ≡ true
    there = descends rules.classes (λ d. is_sub rules.classes c d ≡ true → has_met met d ≡ true) on c b (both (is_concrete rules.classes c) (is_sub rules.classes c b) f).1
        (λ s. w.started b (above_within rules.classes sound c b f) (same b b refl)) (sub_itself rules.classes c (fits_within rules.classes c b f))

-- the walk, step by step
pub lacking_begins : (rules : Rules) (b attribute count : ℕ) (met : List Bool) (pending : List ℕ) → own_equation rules b
    attribute ≡ None → count ≡ length rules.classes → Meets (λ c. nat_eq c b) (replicate count false) met [] pending
    → Walking (length rules.classes) (λ c. nat_eq c b) (leads_own rules attribute) (passes_own rules attribute) (IsWithoutAbove rules b attribute) 0 met pending
lacking_begins rules b attribute count met pending none all m =
    begins (length rules.classes) (λ c. nat_eq c b) (leads_own rules attribute) (passes_own rules attribute) (IsWithoutAbove rules b attribute) met pending
    (subst (λ n. Meets (λ c. nat_eq c b) (replicate n false) met [] pending) all m) (length-replicate (length rules.classes) false)
    (λ c less e. without_begins rules b attribute none c less (eqb-true c b e))

pub lacking_on : (rules : Rules) → AreSound rules.classes → (b attribute i c : ℕ) (o : Option ℕ) (met old after : List Bool) (pending rest waiting : List ℕ)
    → Walking (length rules.classes) (λ c. nat_eq c b) (leads_own rules attribute) (passes_own rules attribute)
    (IsWithoutAbove rules b attribute) i met pending → old ≡ met → pending ≡ rest ++ option_to_list o → o ≡ Some c
    → (passes_own rules attribute c ≡ true) × Meets (leads_own rules attribute c) old after rest waiting
    → Walking (length rules.classes) (λ c. nat_eq c b) (leads_own rules attribute) (passes_own rules attribute) (IsWithoutAbove rules b attribute) (i + 1) after waiting
lacking_on rules sound b attribute i c o met old after pending rest waiting w same_met taken is m =
    steps (length rules.classes) (λ c. nat_eq c b) (leads_own rules attribute) (passes_own rules attribute)
    (IsWithoutAbove rules b attribute) i c o met old after pending rest waiting w same_met taken is m.1 m.0
    (λ d good less l. without_on rules sound b attribute c d good l)

pub lacking_found : (rules : Rules) (b attribute i c : ℕ) (o : Option ℕ) (met : List Bool) (pending rest : List ℕ)
    → Walking (length rules.classes) (λ c. nat_eq c b) (leads_own rules attribute) (passes_own rules attribute)
    (IsWithoutAbove rules b attribute) i met pending → pending ≡ rest ++ option_to_list o → o ≡ Some c
    → (own_in rules attribute c ≡ None) × (is_concrete rules.classes c ≡ true) → LacksBelow rules b attribute
lacking_found rules b attribute i c o met pending rest w taken is (own, concrete) =
    lacks_there rules b attribute c (taken_good (length rules.classes) (λ c. nat_eq c b) (leads_own rules attribute)
    (passes_own rules attribute) (IsWithoutAbove rules b attribute) i c o met pending rest w taken is) own concrete

pub lacking_stops : (rules : Rules) → AreSound rules.classes → (b attribute i : ℕ) (o : Option ℕ) (met : List Bool) (pending : List ℕ)
    → Walking (length rules.classes) (λ c. nat_eq c b) (leads_own rules attribute) (passes_own rules attribute)
    (IsWithoutAbove rules b attribute) i met pending → o ≡ None → IfNone o (length pending ≡ 0)
    → LacksBelow rules b attribute → ⊥
lacking_stops rules sound b attribute i o met pending w is none =
    lacks_none rules sound b attribute met
    (ends (length rules.classes) (λ c. nat_eq c b) (leads_own rules attribute) (passes_own rules attribute)
    (IsWithoutAbove rules b attribute) i met pending (subst (λ x. IfNone x (length pending ≡ 0)) is none) w)

pub lacking_out : (rules : Rules) → AreSound rules.classes → (b attribute i : ℕ) (met : List Bool) (pending : List ℕ)
    → Walking (length rules.classes) (λ c. nat_eq c b) (leads_own rules attribute) (passes_own rules attribute) (IsWithoutAbove rules b attribute) i met pending → i ≡ length rules.classes
    → LacksBelow rules b attribute → ⊥
lacking_out rules sound b attribute i met pending w full =
    lacks_none rules sound b attribute met (ends_full (length rules.classes) (λ c. nat_eq c b) (leads_own rules
    attribute) (passes_own rules attribute) (IsWithoutAbove rules b attribute) i met pending full w)

-- a class that has an equation is passed, and leads nowhere
pub looks_past : (rules : Rules) (attribute c : ℕ) (e : Expr) (met : List Bool) (pending : List ℕ)
    → Some e ≡ own_in rules attribute c → (passes_own rules attribute c ≡ true)
    × Meets (leads_own rules attribute c) met met pending pending
looks_past rules attribute c e met pending has = (
  ap (λ o. is_some o || not (is_concrete rules.classes c)) (sym has),
  meets_like _ _ (λ d. ap (λ o. is_none o && is_child rules.classes c d) has) met met pending pending (meets_none met pending),
)

-- one that is abstract is passed, and leads to those below
pub looks_below : (rules : Rules) (attribute c : ℕ) (t : ℕ → Bool) (met after : List Bool) (pending waiting : List ℕ) →
    None ≡ own_in rules attribute c → is_concrete rules.classes c ≡ false → ((d : ℕ) → t d ≡ is_child rules.classes c d)
    → Meets t met after pending waiting → (passes_own rules attribute c ≡ true) × Meets (leads_own rules attribute c) met after pending waiting
looks_below rules attribute c t met after pending waiting has abstract' child m = (
  ap (λ o. is_some o || not (is_concrete rules.classes c)) (sym has) ∙ ap not abstract',
  meets_like _ _ (λ d. child d ∙ ap (λ o. is_none o && is_child rules.classes c d) has) met after pending waiting m,
)
