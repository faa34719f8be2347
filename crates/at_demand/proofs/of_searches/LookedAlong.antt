-- What searches look at that pass what is behind known ones, step by step.
use Rattle.std.proofs.Common.{◌≡◌, ◌⊎◌, ℕ, List, [], ◌∷◌, inl, inr, sym, subst}
use Rattle.std.specs.Prelude.{IsSome}
use Rattle.at_model.specs.Meaning.{Among}
use Rattle.at_model.specs.Rules.{Rules}
use Rattle.at_model.specs.Run.{Instance, Contents, Known}
use Rattle.at_model.specs.of_fixpoints.Circles.{HasNone, IsOpen}
use Rattle.at_model.specs.of_fixpoints.Fixpoints.{AreFormed, End, EndsSo, LeadsOver, Made, goes, stays}
use Rattle.at_model.specs.of_fixpoints.Formulas.{Formula, Forms, atoms}
use Rattle.at_model.specs.of_fixpoints.Met.{HasLookedAt, HaveLookedAt, again}
use Rattle.at_model.specs.of_fixpoints.Searched.{AreClosed, IsMade, IsWhole}
use Rattle.at_model.specs.of_fixpoints.Searching.{Level, asked_in, under}
use Rattle.at_model.proofs.of_formulas.Closure.{closure}
use Rattle.at_model.proofs.of_formulas.Components.{form_of, pick}
use Rattle.at_model.proofs.of_searching.LookedAt.{seen_on}
use Rattle.at_model.proofs.of_searching.LookedSteps.{looked_again, looked_more, looked_past}
use Rattle.at_model.proofs.of_searching.PassedCircles.{ends_one}
use Rattle.at_model.proofs.of_searching.PassedLooks.{looks_past, past_only}
use Rattle.at_model.proofs.of_searching.Steps.{formed_of}
use Rattle.at_search.specs.Recorded.{AreWhole}
use Rattle.at_evaluate.specs.Valued.{meaning}
use Rattle.at_demand.specs.Turns.{IsBehind}
use Rattle.at_demand.proofs.Marking.{told_among}
use Rattle.at_demand.proofs.of_searches.Stepping.{whole_valued}

-- All to which formulas lead from one that leads to formulas alone, in a list.
module _ (look : Contents ℕ) (forms : Forms ℕ) (c : Instance ℕ) where
  -- the equation of one that it leads to has ended so
  abbrev pub EndsLed : Instance ℕ → End ℕ (Formula ℕ) → Type 0
  EndsLed i e = LeadsOver (EndsSo look forms) c i × EndsSo look forms i e

  led_so : (i k : Instance ℕ) → LeadsOver EndsLed i k → LeadsOver (EndsSo look forms) i k
  led_so _ k (stays _) = stays k
  led_so _ k (goes i j _ f (l, y) a r) = goes i j k f y a (led_so j k r)

  formed_at : (V : List (Instance ℕ)) → AreClosed (EndsSo look forms) IsMade V → (k : Instance ℕ) → Among k V →
      (f : Formula ℕ) × EndsSo look forms k (Made f)
  formed_at V closed k a = let (f, y, next) = formed_of look forms told_among V closed k a in (f, y)

  led_among : (V : List (Instance ℕ)) → AreClosed (EndsSo look forms) IsMade V → (i k : Instance ℕ) → Among i V →
      LeadsOver (EndsSo look forms) i k → Among k V
  led_among V closed _ k a (stays _) = a
  led_among V closed _ k a (goes i j _ f y b r) =
      let (g, z, next) = formed_of look forms told_among V closed i a in
      let same : Made g ≡ Made f = ends_one look forms i (Made g) (Made f) z y in
      led_among V closed j k (next j (subst (λ (e : End ℕ (Formula ℕ)). Among j (asked_in e)) (sym same) b)) r

  formed_led : (V : List (Instance ℕ)) → AreClosed (EndsSo look forms) IsMade V → Among c V → AreFormed EndsLed c
  formed_led V closed a k l =
      let led = led_so c k l in
      let (f, y) = formed_at V closed k (led_among V closed c k a led) in
      (f, (led, y))

  -- the list, and that it has no other one
  pub led_list : IsWhole look forms c → (W : List (Instance ℕ)) × AreClosed (EndsSo look forms) IsMade W
      × ((i : Instance ℕ) → Among i W → LeadsOver (EndsSo look forms) c i) × Among c W
  led_list (V, closed, a) =
      let (W, all, there) = closure EndsLed c (formed_led V closed a) V (λ k l. led_among V closed c k a
      (led_so c k l)) in (
        W,
        (λ i b. let (f, (l, y), m) = form_of EndsLed W W i all b in
            record { end = Made f; ends = y; good = tt; next = λ k d. pick (atoms f) W k m d }),
        (λ i b. let (f, (l, y), m) = form_of EndsLed W W i all b in l),
        there,
      )

-- more is behind what is known
pub behind_more : (look : Contents ℕ) (forms : Forms ℕ) (known more : Known ℕ) → ((i : Instance ℕ) → IsSome (known i) →
    IsSome (more i)) →
    (k : Instance ℕ) → IsBehind look forms known k → IsBehind look forms more k
behind_more look forms known more grows k (c, s, l) = (c, grows c s, l)

-- so levels have looked at no less
pub have_looked_more : (look : Contents ℕ) (forms : Forms ℕ) (Told More : Instance ℕ → Type 0) → ((i : Instance ℕ) →
    Told i → More i) →
    (ls : List (Level ℕ)) → HaveLookedAt look forms Told ls → HaveLookedAt look forms More ls
have_looked_more look forms Told More more [] h = tt
have_looked_more look forms Told More more (l ∷ ls) h = (
  looked_more look forms told_among Told (under ls) l.root l.seen l.next l.todo h.0 More more,
  have_looked_more look forms Told More more ls h.1,
)

-- One that was seen or is known comes off those to do, and to them again.
module _ (rules : Rules) (look : Contents ℕ) (known : Known ℕ) (wholes : AreWhole look (meaning rules) known)
    (below : List (Instance ℕ))
    (root : Instance ℕ) (seen : List (Instance ℕ)) (c : Instance ℕ) (todo : List (Instance ℕ)) where
  abbrev pub Behind : Instance ℕ → Type 0
  Behind = IsBehind look (meaning rules) known

  abbrev pub IsPassedOver : Type 0
  IsPassedOver = (Among c seen × (¬ (IsOpen look (meaning rules) below c))) ⊎ IsSome (known c)

  valued_in : (W : List (Instance ℕ)) → AreClosed (EndsSo look (meaning rules)) IsMade W → (i : Instance ℕ) →
      Among i W →
      HasNone look (meaning rules) i → ⊥
  valued_in W closed i a = whole_valued rules look i (W, closed, a)

  pub looked_off : IsPassedOver → HasLookedAt look (meaning rules) Behind below root seen (c ∷ todo) →
      HasLookedAt look (meaning rules) Behind below root seen todo
  looked_off (inl (a, off)) h = looked_again look (meaning rules) told_among Behind below root seen c todo h off a
  looked_off (inr k) h =
      let (W, closed, led, there) = led_list look (meaning rules) c (wholes c k) in
      looked_past look (meaning rules) told_among Behind below root seen c todo h W closed (valued_in W closed)
      (λ i a. (c, k, led i a)) there

  pub looked_on_top : IsPassedOver → HasLookedAt look (meaning rules) Behind below root seen todo →
      HasLookedAt look (meaning rules) Behind below root seen (c ∷ todo)
  looked_on_top (inl (a, off)) h = record {
    looks = λ x l. elim (seen_on look (meaning rules) below seen todo c x a l) [
      | inl e ↦ h.looked x (subst (λ z. Among z seen) (sym e) a)
      | inr m ↦ h.looks x m
    ];
    looked = h.looked;
    only = λ x l. elim (h.only x l) [
      | inl t ↦ inl t
      | inr d ↦ inr (elim d [ inl b ↦ inl b | inr m ↦ inr (again c off a m) ])
    ];
  }
  looked_on_top (inr k) h =
      let (W, closed, led, there) = led_list look (meaning rules) c (wholes c k) in record {
        looks = λ x l. elim (past_only look (meaning rules) told_among W (formed_of look
            (meaning rules) told_among W closed) (valued_in W closed)
            c below seen todo there l) [
              | inl b ↦ inl (c, k, led x b)
              | inr m ↦ h.looks x m
            ];
        looked = h.looked;
        only = λ x l. elim (h.only x l) [
          | inl t ↦ inl t
          | inr d ↦ elim d [
            | inl b ↦ inr (inl b)
            | inr m ↦ elim (looks_past look (meaning rules) told_among W (formed_of look
                (meaning rules) told_among W closed) (valued_in W closed)
                c below seen todo there m) [
                  | inl b ↦ inl (c, k, led x b)
                  | inr n ↦ inr (inr n)
                ]
          ]
        ];
      }
