-- Declarations make rules exactly where they keep each rule; the code that they are refused for is that of the first one that they break.
use Rattle.std.proofs.Common.{◌≡◌, ℕ, zero, suc, ◌<◌, ◌↔◌, Bool, true, false, List, Option, Some, None, Ok, Err, refl, sym, ap, ◌∙◌, subst, arith}
use Rattle.std.specs.Prelude.{⊤, nat_lt, option_and_then, option_map, slice_get}
use Rattle.std.specs.Option.{option_or}
use Rattle.std.proofs.lemmas.Bool.{ltb-true, ltb-false}
use Rattle.at_model.specs.Classes.{Classes}
use Rattle.at_model.specs.Rules.{Rules}
use Rattle.at_text.specs.declared.fault.Failure.TheVariants as failure
use Rattle.at_complete.specs.Completing.{IsFirst, LacksInherited, LacksOwn}
use Rattle.at_jrag.specs.Syntax.{Body}
use Rattle.at_kinds.specs.declared.arguments.Arguments.{Arguments}
use Rattle.at_kinds.specs.Judging.{Judgement, Is, Wrong}
use Rattle.at_kinds.specs.declared.code.RuleCode.{RuleCode}
use Rattle.at_kinds.specs.declared.code.RuleCode.TheVariants as code
use Rattle.at_kinds.proofs.CodesJudged.{IsOfOne, TellsOne}
use Rattle.at_typing.specs.AspectRules.{AreCovered, AreDeclaredOnce, AreEquationsOnce, AreFew, AreNoAccessors, AreOfAttributes, HaveMeanings, HaveOwnEquations, Keeps, order}
use Rattle.at_typing.specs.Building.{Builds, IsFault, IsLack, first_fault, refusal, refused, refused_at, rules_of}
use Rattle.at_typing.specs.Completing.{IsFirstFault, fault_of}
use Rattle.at_typing.specs.Declaring.{accessor_at, accessor_named, attributes, body_in, declared_twice, equation_at, equation_twice, fault_at, fault_if, fault_together, limit_at, long_text, over_limit, twice_at, undeclared_at, without_attribute}
use Rattle.at_typing.specs.Located.{Located}
use Rattle.at_typing.specs.Meanings.{Meaning, meant}
use Rattle.at_typing.specs.declared.fault.Breach.{Breach}
use Rattle.at_typing.proofs.Built.{are_declared, no_first}
use Rattle.at_typing.proofs.Gathering.{first_none, other_none}
use Rattle.at_typing.proofs.of_aspects.FaultNowhere.{both_none, coded, given_at}
use Rattle.at_typing.proofs.of_aspects.AttributesFew.{limits}
use Rattle.at_typing.proofs.of_aspects.NamesFree.{names_free}
use Rattle.at_typing.proofs.of_aspects.DeclaredApart.{declared_once}
use Rattle.at_typing.proofs.of_aspects.EquationsApart.{equations_declared, equations_once}
use Rattle.at_typing.proofs.of_aspects.MeaningsFound.{covers_none, each_means, lacks_none, none_covers, none_lacks}
use Rattle.at_typing.proofs.of_aspects.CodesMeant.{one_told}

-- codes ----------------------------------------------------------------------------------------------------------------

limit_or : (b : Bool) (d : Located) (o : Option Body) (f : Breach)
    → option_or (fault_if b code.Limit d) (option_map (fault_at code.Limit d) (option_and_then (λ b. long_text b.expr) o)) ≡ Some f → f.code ≡ code.Limit
limit_or true d o f e = let same : fault_at code.Limit d d.decl.at ≡ f = cc in ap (λ (g : Breach). g.code) (sym same)
limit_or false d o f e = by (option_and_then (λ b. long_text b.expr) o) e
  where
    by : (p : Option _) → option_map (fault_at code.Limit d) p ≡ Some f → f.code ≡ code.Limit
    by None e = absurd cc
    by (Some at) e = let same : fault_at code.Limit d at ≡ f = cc in ap (λ (g : Breach). g.code) (sym same)

of_refusal : (d : Located) (j : Judgement Meaning) (f : Breach) → TellsOne j → refusal d j ≡ Some f → order f.code ≡ 5
of_refusal d (Is m) f t e = absurd cc
of_refusal d (Wrong c at) f t e = let same : fault_at c d at ≡ f = cc in ap (λ (g : Breach). order g.code) (sym same) ∙ of_one c t
  where
    of_one : (c : RuleCode) → IsOfOne c → order c ≡ 5
    of_one code.UnknownName t = refl
    of_one code.Argument t = refl
    of_one code.Kind t = refl
    of_one c t = absurd t

of_attribute : (c : RuleCode) (ds : List Located) (k : ℕ) (f : Breach) → Some f ≡ fault_of c ds (Some k) → f.code ≡ c
of_attribute c ds k f e = by (slice_get (attributes ds) k) e
  where
    by : (o : Option Located) → Some f ≡ option_map (λ (d : Located). fault_at c d d.decl.at) o → f.code ≡ c
    by None e = absurd cc
    by (Some d) e = let same : f ≡ fault_at c d d.decl.at = cc in ap (λ (g : Breach). g.code) same

-- stages ---------------------------------------------------------------------------------------------------------------

module _ (allowed : Arguments) (classes : Classes) (ds : List Located) where
  -- the rule that is looked at then
  abbrev AtStage : ℕ → Type 0
  AtStage zero = AreFew ds
  AtStage (suc zero) = AreNoAccessors classes ds
  AtStage (suc (suc zero)) = AreDeclaredOnce allowed classes ds
  AtStage (suc (suc (suc zero))) = AreOfAttributes classes ds
  AtStage (suc (suc (suc (suc zero)))) = AreEquationsOnce ds
  AtStage (suc (suc (suc (suc (suc zero))))) = HaveMeanings allowed classes ds
  AtStage (suc (suc (suc (suc (suc (suc zero)))))) = HaveOwnEquations (rules_of allowed classes ds)
  AtStage (suc (suc (suc (suc (suc (suc (suc zero))))))) = AreCovered (rules_of allowed classes ds)
  AtStage (suc (suc (suc (suc (suc (suc (suc (suc n)))))))) = ⊤

  kept_at : (c : RuleCode) → AtStage (order c) → Keeps allowed classes ds c
  kept_at code.Limit k = k
  kept_at code.NameOfAccessor k = k
  kept_at code.AttributeTwice k = k
  kept_at code.EquationWithoutAttribute k = k
  kept_at code.EquationTwice k = k
  kept_at code.UnknownName k = k
  kept_at code.Argument k = k
  kept_at code.Kind k = k
  kept_at code.ClassWithoutEquation k = k
  kept_at code.InheritedWithoutEquation k = k

  at_kept : (c : RuleCode) → Keeps allowed classes ds c → AtStage (order c)
  at_kept code.Limit k = k
  at_kept code.NameOfAccessor k = k
  at_kept code.AttributeTwice k = k
  at_kept code.EquationWithoutAttribute k = k
  at_kept code.EquationTwice k = k
  at_kept code.UnknownName k = k
  at_kept code.Argument k = k
  at_kept code.Kind k = k
  at_kept code.ClassWithoutEquation k = k
  at_kept code.InheritedWithoutEquation k = k

  abbrev Kept : ℕ → Type 0
  Kept n = (i : ℕ) → i < n → AtStage i

  none_kept : Kept 0
  none_kept i l = absurd (omega (arith, l))

  one_more : (n : ℕ) → Kept n → AtStage n → Kept (suc n)
  one_more n kept k i l = by (nat_lt i n) refl
    where
      by : (b : Bool) → nat_lt i n ≡ b → AtStage i
      by true e = kept i (ltb-true i n e)
      by false e =
          let g = ltb-false i n e in
          let same : n ≡ i = omega (arith, g, l) in
          subst AtStage same k

  -- the fault is of that stage, and those before have none
  abbrev IsOfStage : Breach → ℕ → Type 0
  IsOfStage f n = (order f.code ≡ n) × (AtStage n → ⊥) × Kept n

  abbrev Tells : Option Breach → Type 0
  Tells o = (f : Breach) → o ≡ Some f → (n : ℕ) × IsOfStage f n

  stage : (n : ℕ) (o p : Option Breach) → (o ≡ None) ↔ AtStage n → ((f : Breach) → o ≡ Some f → order f.code ≡ n) → Kept n → (Kept (suc n) → Tells p) → Tells (option_or o p)
  stage n None p same of kept rest f e = rest (one_more n kept (same.0 refl)) f e
  stage n (Some g) p same of kept rest f e = (n, (of f e, λ k. nothing (same.1 k), kept))
    where
      nothing : Some g ≡ None → ⊥
      nothing e = cc

  in_order : (c : RuleCode) (f : Breach) → f.code ≡ c → order f.code ≡ order c
  in_order c f e = ap order e

  nothing : (f : Breach) (o : Option Breach) → o ≡ Some f → o ≡ None → ⊥
  nothing f None e g = cc
  nothing f (Some x) e g = cc

  -- each by itself
  alone : Kept 5 → Tells (refused allowed classes ds)
  alone kept f e =
      let (i, d, at, gives) = given_at (refused_at allowed classes ds) ds f e in (
        5,
        (
          of_refusal d (meant allowed classes ds d) f (one_told allowed classes ds (kept 3 (omega arith)) i d at)
              gives,
          λ k. nothing f (refused allowed classes ds) e ((each_means allowed classes ds).1 k),
          kept,
        ),
      )

  abbrev Whole : Option Breach
  Whole = option_or (over_limit ds) (option_or (accessor_named classes ds) (option_or (declared_twice allowed classes ds) (option_or (without_attribute classes ds)
      (option_or (equation_twice ds) (refused allowed classes ds)))))

  next : (a b c : Option Breach) → option_or (option_or a b) c ≡ option_or a (option_or b c)
  next None b c = refl
  next (Some x) b c = refl

  -- several together before those
  together : Tells (first_fault allowed classes ds)
  together f e = by f (assoc e)
    where
      assoc : first_fault allowed classes ds ≡ Some f → Whole ≡ Some f
      assoc e =
          sym (next (over_limit ds) _ (refused allowed classes ds) ∙ ap (option_or (over_limit ds))
          (next (accessor_named classes ds) _ (refused allowed classes ds) ∙ ap (option_or (accessor_named classes ds))
          (next (declared_twice allowed classes ds) _ (refused allowed classes ds) ∙ ap (option_or (declared_twice allowed classes ds))
          (next (without_attribute classes ds) (equation_twice ds) (refused allowed classes ds)))))
          ∙ e

      by : Tells Whole
      by =
          stage 0 (over_limit ds) _ (limits ds) (λ f e. let (i, d, at, gives) = given_at (limit_at ds) ds f e in in_order code.Limit f (limit_or _ d (body_in d.decl.form) f gives)) none_kept
          (λ kept. stage 1 (accessor_named classes ds) _ (names_free classes ds)
          (λ f e. let (i, d, at, gives) = given_at (accessor_at classes) ds f e in
          in_order code.NameOfAccessor f (coded _ code.NameOfAccessor d f gives)) kept
          (λ kept. stage 2 (declared_twice allowed classes ds) _ (declared_once allowed classes ds)
          (λ f e. let (i, d, at, gives) = given_at (twice_at allowed classes ds) ds f e in
          in_order code.AttributeTwice f (coded _ code.AttributeTwice d f gives)) kept
          (λ kept. stage 3 (without_attribute classes ds) _ (equations_declared classes ds)
          (λ f e. let (i, d, at, gives) = given_at (undeclared_at classes ds) ds f e in
          in_order code.EquationWithoutAttribute f (coded _ code.EquationWithoutAttribute d f gives)) kept
          (λ kept. stage 4 (equation_twice ds) _ (equations_once ds) (λ f e. let (i, d, at, gives) = given_at
          (equation_at ds) ds f e in in_order code.EquationTwice f (coded _ code.EquationTwice d f gives)) kept
          (λ kept. alone kept)))))

  -- where none of these has a fault, each of them is kept
  all_kept : first_fault allowed classes ds ≡ None → Kept 6
  all_kept none =
      let alone = other_none (fault_together allowed classes ds) (refused allowed classes ds) none in
      let first = first_none (fault_together allowed classes ds) (refused allowed classes ds) none in
      let names = other_none (over_limit ds) _ first in
      let twice = other_none (accessor_named classes ds) _ names in
      let declared = other_none (declared_twice allowed classes ds) _ twice in
      let once = other_none (without_attribute classes ds) (equation_twice ds) declared in
      one_more 5 (one_more 4 (one_more 3 (one_more 2 (one_more 1 (one_more 0 none_kept
      ((limits ds).0 (first_none (over_limit ds) _ first)))
      ((names_free classes ds).0 (first_none (accessor_named classes ds) _ names)))
      ((declared_once allowed classes ds).0 (first_none (declared_twice allowed classes ds) _ twice)))
      ((equations_declared classes ds).0 (first_none (without_attribute classes ds) (equation_twice ds) declared)))
      ((equations_once ds).0 once))
      ((each_means allowed classes ds).0 alone)

  none_first : Kept 6 → first_fault allowed classes ds ≡ None
  none_first kept =
      both_none (fault_together allowed classes ds) (refused allowed classes ds)
      (both_none (over_limit ds) _ ((limits ds).1 (kept 0 (omega arith)))
      (both_none (accessor_named classes ds) _ ((names_free classes ds).1 (kept 1 (omega arith)))
      (both_none (declared_twice allowed classes ds) _ ((declared_once allowed classes ds).1 (kept 2 (omega arith)))
      (both_none (without_attribute classes ds) (equation_twice ds) ((equations_declared classes ds).1 (kept 3 (omega arith)))
      ((equations_once ds).1 (kept 4 (omega arith)))))))
      ((each_means allowed classes ds).1 (kept 5 (omega arith)))

  -- equations that classes lack ----------------------------------------------------------------------------------------

  abbrev made : Rules
  made = rules_of allowed classes ds

  own_none : first_fault allowed classes ds ≡ None → IsFirstFault code.ClassWithoutEquation (LacksOwn made) ds None
      → HaveOwnEquations made
  own_none none h = none_lacks made (no_first code.ClassWithoutEquation (LacksOwn made) made ds
      (λ k lacks. (lacks.0, lacks.1)) (are_declared allowed classes ds made none refl) h)

  inherited_none : first_fault allowed classes ds ≡ None → IsFirstFault code.InheritedWithoutEquation
      (LacksInherited made) ds None → AreCovered made
  inherited_none none h = none_covers made (no_first code.InheritedWithoutEquation (LacksInherited made) made ds
      (λ k lacks. (lacks.0, lacks.1)) (are_declared allowed classes ds made none refl) h)

  some_lacks : (c : RuleCode) (Lacks : ℕ → Type 0) (f : Breach) → IsFirstFault c Lacks ds (Some f) → (f.code ≡ c) × (IsFirst Lacks None → ⊥)
  some_lacks c Lacks f (None, first, e) = absurd cc
  some_lacks c Lacks f (Some k, first, e) = (of_attribute c ds k f e, λ none. none k first.0)

  lacking : (f : Breach) → first_fault allowed classes ds ≡ None → IsLack made ds (Some f) → (n : ℕ) × IsOfStage f n
  lacking f none (Some g, own, e) =
      let same : g ≡ f = cc in
      let (of, lacks) = some_lacks code.ClassWithoutEquation (LacksOwn made) f (subst (λ x. IsFirstFault code.ClassWithoutEquation (LacksOwn made) ds (Some x)) same own) in
      (6, (in_order code.ClassWithoutEquation f of, λ k. lacks (lacks_none made k), all_kept none))
  lacking f none (None, own, behind) =
      let (of, lacks) = some_lacks code.InheritedWithoutEquation (LacksInherited made) f behind in
      (7, (in_order code.InheritedWithoutEquation f of, λ k. lacks (covers_none made k), one_more 6 (all_kept none) (own_none none own)))

  abbrev IsOfFirst : Breach → Type 0
  IsOfFirst f = (Keeps allowed classes ds f.code → ⊥) × ((c : RuleCode) → order c < order f.code
      → Keeps allowed classes ds c)

  of_stage : (f : Breach) (n : ℕ) → IsOfStage f n → IsOfFirst f
  of_stage f n (at, broken, kept) = (λ k. broken (subst AtStage at (at_kept f.code k)), λ c l. kept_at c (kept (order c) (subst (λ m. order c < m) at l)))

  pub told : (f : Breach) → Builds allowed classes ds (Err (failure.For f)) → IsOfFirst f
  told f h = by (first_fault allowed classes ds) refl h
    where
      by : (o : Option Breach) → first_fault allowed classes ds ≡ o → IsFault allowed classes ds o (Some f)
          → IsOfFirst f
      by None none lack = let (n, is) = lacking f none lack in of_stage f n is
      by (Some g) some e = let (n, is) = together f (some ∙ sym e) in of_stage f n is

  pub accepted : ((rules : Rules) × Builds allowed classes ds (Ok rules))
      ↔ ((c : RuleCode) → Keeps allowed classes ds c)
  accepted = (
    λ (rules, (fault, is)). by (first_fault allowed classes ds) refl fault,
    λ h.
        let kept : Kept 6 = stages h in
        let none = none_first kept in (
          made,
          (
            subst (λ o. IsFault allowed classes ds o None) (sym none) (
              None,
              (None, lacks_none made (h code.ClassWithoutEquation), refl),
              (None, covers_none made (h code.InheritedWithoutEquation), refl),
            ),
            refl,
          ),
        ),
  )
    where
      stages : ((c : RuleCode) → Keeps allowed classes ds c) → Kept 6
      stages h =
          one_more 5 (one_more 4
          (one_more 3 (one_more 2 (one_more 1 (one_more 0 none_kept (h code.Limit)) (h code.NameOfAccessor))
          (h code.AttributeTwice)) (h code.EquationWithoutAttribute)) (h code.EquationTwice)) (h code.Kind)

      early : (c : RuleCode) → Kept 8 → Keeps allowed classes ds c
      early c kept = kept_at c (kept (order c) (below c))
        where
          below : (c : RuleCode) → order c < 8
          below code.Limit = omega arith
          below code.NameOfAccessor = omega arith
          below code.AttributeTwice = omega arith
          below code.EquationWithoutAttribute = omega arith
          below code.EquationTwice = omega arith
          below code.UnknownName = omega arith
          below code.Argument = omega arith
          below code.Kind = omega arith
          below code.ClassWithoutEquation = omega arith
          below code.InheritedWithoutEquation = omega arith

      lack_none : first_fault allowed classes ds ≡ None → IsLack made ds None → (c : RuleCode)
          → Keeps allowed classes ds c
      lack_none none (Some g, own, e) = absurd cc
      lack_none none (None, own, behind) = λ c. early c (one_more 7 (one_more 6 (all_kept none) (own_none none own)) (inherited_none none behind))

      by : (o : Option Breach) → first_fault allowed classes ds ≡ o → IsFault allowed classes ds o None → (c : RuleCode)
          → Keeps allowed classes ds c
      by None none lack = lack_none none lack
      by (Some g) some e = absurd cc
