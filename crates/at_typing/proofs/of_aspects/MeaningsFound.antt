-- J3, J5 and J4: no declaration has a fault by itself exactly where each means something. J7 and J8: no class lacks an equation exactly
-- where each has one.
use Rattle.std.proofs.Common.{◌≡◌, ◌↔◌, List, Option, Some, None, refl, sym, ap, true≢false}
use Rattle.std.specs.Prelude.{IsSome}
use Rattle.at_model.specs.Classes.{Classes}
use Rattle.at_model.specs.Rules.{Rules, own_equation}
use Rattle.at_model.proofs.FirstGiven.{none_at, none_anywhere}
use Rattle.at_complete.specs.Completing.{IsFirst, LacksInherited, LacksOwn}
use Rattle.at_kinds.specs.declared.arguments.Arguments.{Arguments}
use Rattle.at_kinds.specs.Judging.{Judgement, Is, Wrong}
use Rattle.at_typing.specs.AspectRules.{AreCovered, HaveMeanings, HaveOwnEquations}
use Rattle.at_typing.specs.Building.{refusal, refused, refused_at}
use Rattle.at_typing.specs.Located.{Located}
use Rattle.at_typing.specs.Meanings.{Meaning, meant}

found : (d : Located) (j : Judgement Meaning) → refusal d j ≡ None → (m : Meaning) × (j ≡ Is m)
found d (Is m) e = (m, refl)
found d (Wrong c at) e = absurd cc

pub each_means : (allowed : Arguments) (classes : Classes) (ds : List Located) → (refused allowed classes ds ≡ None)
    ↔ HaveMeanings allowed classes ds
each_means allowed classes ds = (
  λ none i d is. found d (meant allowed classes ds d) (none_at (refused_at allowed classes ds) ds none i d is),
  λ h. none_anywhere (refused_at allowed classes ds) ds (λ i d is. ap (refusal d) (h i d is).1),
)

-- equations ------------------------------------------------------------------------------------------------------------

no_some : {A : Type 0} (o : Option A) → o ≡ None → IsSome o → ⊥
no_some None e h = true≢false (sym h)
no_some (Some a) e h = absurd cc

some_found : {A : Type 0} (o : Option A) → (o ≡ None → ⊥) → IsSome o
some_found None none = absurd (none refl)
some_found (Some a) none = refl

pub lacks_none : (rules : Rules) → HaveOwnEquations rules → IsFirst (LacksOwn rules) None
lacks_none rules h k (a, there, own, (c, fit, none)) = no_some (own_equation rules c k) none (h c k a there own fit)

pub none_lacks : (rules : Rules) → IsFirst (LacksOwn rules) None → HaveOwnEquations rules
none_lacks rules h = λ c k a there own fit. some_found (own_equation rules c k) (λ none. h k (a, there, own, (c, fit, none)))

pub covers_none : (rules : Rules) → AreCovered rules → IsFirst (LacksInherited rules) None
covers_none rules h k (a, there, inherited, (c, fit, exposed)) = h c k a there inherited fit exposed

pub none_covers : (rules : Rules) → IsFirst (LacksInherited rules) None → AreCovered rules
none_covers rules h = λ c k a there inherited fit exposed. h k (a, there, inherited, (c, fit, exposed))
