-- What one try of an instance has come to, and what it leaves kept.
use Rattle.std.proofs.Common.{◌≡◌, ℕ, true, true≢false, List, [], ◌∷◌, ◌++◌, map, None, Some, inl, inr, sym, ◌∙◌, subst}
use Rattle.at_model.specs.Run.{Value, Instance, Contents}
use Rattle.at_model.specs.Rules.{Rules, is_lazy, start_of}
use Rattle.at_model.specs.Meaning.{Among, Faults}
use Rattle.at_model.specs.of_fixpoints.Fixpoints.{HasValue, Holds}
use Rattle.at_model.specs.of_fixpoints.Resting as led
use Rattle.at_model.specs.TypedRuns.{ClassAt}
use Rattle.at_store.specs.Shown.{Shown, contents}
use Rattle.at_store.specs.Located.{loc_view}
use Rattle.at_body.specs.Typed.{IsTypedStep}
use Rattle.at_body.specs.Values.{FaultCode, fault_view, value_view}
use Rattle.at_body.specs.declared.value.Value.{Value as ValueCode}
use Rattle.at_body.specs.declared.trial.Trial.{Trial}
use Rattle.at_body.specs.declared.trial.Step.TheVariants as step
use Rattle.at_cache.specs.Kept.{Entries}
use Rattle.at_demand.specs.declared.evaluation.Demanded.{Demanded}
use Rattle.at_demand.specs.declared.evaluation.Find.{Find}
use Rattle.at_demand.specs.declared.evaluation.Frame.{Frame}
use Rattle.at_evaluate.specs.Valued.{meaning, kept_values, ArePlain, AreValued, IsKept}
use Rattle.at_demand.specs.Known.{known_in, MayAdd, AreThere}
use Rattle.at_evaluate.specs.Meant.{AreRightValues}
use Rattle.at_evaluate.specs.Right.{AreRight, IsThere, IsValued, AreCovered}
use Rattle.at_demand.specs.UnderWay.{HasStepped, IsOpen}
use Rattle.at_rules.specs.Circular.{AreCircularLazy}
use Rattle.at_demand.specs.Covering.{AreWhole, AreWholeIn, HasPassedTo, IsWhole, alone, by_first, in_group}
use Rattle.at_demand.specs.Only.{TakesOnly}
use Rattle.std.specs.Prelude.{IsSome}
use Rattle.at_evaluate.specs.Sparing.{AddsWorthy, AreOnly, AreSpare}
use Rattle.at_demand.specs.Worth.{AreSettled, MayGain}
use Rattle.at_demand.specs.Attempts.{HasFound, HasNeeded}
use Rattle.at_demand.proofs.of_levels.Plain.{has_fault, has_value}
use Rattle.at_demand.proofs.Passing.{whole}
use Rattle.at_demand.proofs.OnlyLemmas.{lean, needs_reaches}
use Rattle.at_demand.proofs.Orderly.{neither}
use Rattle.at_evaluate.proofs.Entered.{entered}
use Rattle.at_demand.proofs.Gaining.{came, is_kept, worthy_more, lazy_more, deep_more, settled_push}
use Rattle.at_evaluate.proofs.of_nesting.InnerGains.{worthy_none}

module _ (rules : Rules) (look : Contents ℕ) (entries : Entries) (found : List (Instance ℕ × Find)) (i : Instance ℕ) where
  valued : (t : Trial) (v : ValueCode) → start_of rules i.attribute ≡ None → HasStepped rules look i t (step.Value v) → HasValue look (meaning rules) i (value_view v)
  valued t v none (js, past) = has_value rules look i none (value_view v) js t.reads past

  -- its value
  pub has_found : (f : Frame) (v : ValueCode) (d : Find) → start_of rules i.attribute ≡ None → HasStepped rules look i f.trial (step.Value v) → HasPassedTo rules look found i f (step.Value v) → TakesOnly rules look found i f.demanded → AreValued entries f.demanded.kept.items →
      d.value ≡ v → map loc_view d.reads.items ≡ f.trial.reads → d.demanded ≡ f.demanded → HasFound rules look entries found i d
  has_found f v d none stepped passed takes kept value reads demanded = record {
    value = subst (λ (w : ValueCode). HasValue look (meaning rules) i (value_view w)) (sym value) (valued f.trial v none stepped);
    whole = whole rules look found i f v d none passed reads demanded;
    lean = lean rules look found i f v d none stepped takes reads demanded;
    kept = subst (λ (x : Demanded). AreValued entries x.kept.items) (sym demanded) kept;
  }

  -- its fault
  pub has_failed : (t : Trial) (k : FaultCode) → start_of rules i.attribute ≡ None → HasStepped rules look i t (step.Fault k) → Holds look (meaning rules) i (Faults (fault_view k) i)
  has_failed t k none (js, past) = has_fault rules look i none (fault_view k) js t.reads past

  -- or what it needs
  pub has_needed : (at : ClassAt ℕ) (t : Trial) (j : Instance ℕ) → start_of rules i.attribute ≡ None → HasStepped rules look i t (step.Need j) → IsOpen (known_in entries found) (step.Need j) → IsTypedStep rules at (step.Need j) t → HasNeeded rules at look entries found i j
  has_needed at t j none stepped unknown typed = let n = neither entries found j unknown in record {
    comes = inl (needs_reaches rules look i j t none stepped);
    unkept = n.0;
    unfound = n.1;
    typed = typed.instance;
  }

-- a value that holds may come to what is kept
module _ (rules : Rules) (old new : Entries) (i : Instance ℕ) (v : Value ℕ) (adds : MayAdd old new i v) where
  pub right_added : (look : Contents ℕ) → HasValue look (meaning rules) i v → AreRightValues look (meaning rules) (kept_values old) → AreRightValues look (meaning rules) (kept_values new)
  right_added look holds right j w e = elim (adds.values j) [
    | inl f ↦ right j w (sym f ∙ e)
    | inr p ↦ let is : Some v ≡ Some w = sym p.1 ∙ e in let same : v ≡ w = cc in subst (λ x. HasValue look (meaning rules) j x) same (subst (λ x. HasValue look (meaning rules) x v) p.0 holds)
  ]

  pub right_stays : (s : Shown) (found : List (Instance ℕ × Find)) → MayGain rules found old new i → ArePlain rules new → HasValue (contents s) (meaning rules) i v → (AreCovered rules (contents s) old → AreCovered rules (contents s) new) →
      IsThere s i → AreThere rules s found → AreRight rules s old → AreRight rules s new
  right_stays s found grows plain holds covers there finds right = record {
    values = right_added (contents s) holds right.values;
    valued = came (IsValued rules s) rules old new i found grows right.valued (v, holds) (λ j f. (finds j f).1);
    there = came (IsThere s) rules old new i found grows right.there there (λ j f. (finds j f).0);
    covers = covers right.covers;
    plain = plain;
  }

pub worthy_added : (rules : Rules) (look : Contents ℕ) (old new : Entries) (i : Instance ℕ) (v : Value ℕ) (found : List (Instance ℕ × Find)) → MayGain rules found old new i → HasValue look (meaning rules) i v → AddsWorthy rules look i old new
worthy_added rules look old new i v found grows holds = worthy_more rules look old new i found grows i old (λ lazy. record { reached = led.stays i; lazy = lazy; value = v; has = holds }) (worthy_none rules look i old)

-- the find of one that isn't circular is that of itself alone
pub whole_alone : (rules : Rules) (look : Contents ℕ) (found : List (Instance ℕ × Find)) (i : Instance ℕ) (f : Find) → start_of rules i.attribute ≡ None → IsWhole rules look found i f → AreWholeIn rules look found (i ∷ []) f
whole_alone rules look found i f none (alone w) = w
whole_alone rules look found i f none (in_group these c a w) = let c' = rw none at c in absurd (true≢false (sym c'))
whole_alone rules look found i f none (by_first j c x l) = let c' = rw none at c in absurd (true≢false (sym c'))

-- what is kept stays spare, and what was found settled
module _ (rules : Rules) (look : Contents ℕ) (old new : Entries) (found : List (Instance ℕ × Find)) (i : Instance ℕ) (d : Find) (well : AreCircularLazy rules) (none : start_of rules i.attribute ≡ None) (grows : MayGain rules found old new i) (whole : AreWhole rules look found) (has : HasFound rules look old found i d)
    (settled : AreSettled rules old found) (spare : AreSpare rules look old) where
  took : (u : Instance ℕ) → Among u d.demanded.kept.items → IsSome (old u)
  took u a = entered old u (is_kept old d.demanded.kept.items u has.kept a)

  pub spare_added : AreOnly rules look new → AreSpare rules look new
  spare_added only = record { only = only; lazy = lazy_more rules look old new i found grows spare.lazy; deep = deep_more rules look old new i found grows d well whole (whole_alone rules look found i d none has.whole) settled took spare.deep }

  pub settled_added : (is_lazy rules i.attribute ≡ true → IsKept new i) → AreSettled rules new (found ++ (i, d) ∷ [])
  settled_added kept = settled_push rules look old new i found grows d well whole (whole_alone rules look found i d none has.whole) settled took spare.deep kept
