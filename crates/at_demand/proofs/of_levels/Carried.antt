-- What one try comes to, for a value.
use Rattle.std.proofs.Common.{◌≡◌, ℕ, List, None, inl, refl, sym, subst}
use Rattle.std.specs.Global.{Box}
use Rattle.at_model.specs.Rules.{Rules, start_of}
use Rattle.at_model.specs.Run.{Fails, Instance, Contents}
use Rattle.at_model.specs.TypedRuns.{ClassAt}
use Rattle.at_body.specs.Values.{fault_view}
use Rattle.at_body.specs.declared.forming.Progress.{Progress}
use Rattle.at_body.specs.declared.forming.Progress.TheVariants as progress
use Rattle.at_cache.specs.Kept.{Entries}
use Rattle.at_demand.specs.declared.evaluation.Find.{Find}
use Rattle.at_demand.specs.declared.evaluation.Frame.{Frame}
use Rattle.at_demand.specs.declared.formation.Formation.{Formation}
use Rattle.at_demand.specs.declared.trials.Attempt.{Attempt}
use Rattle.at_demand.specs.declared.trials.Attempt.TheVariants as attempt
use Rattle.at_demand.specs.declared.trying.Tried.{Tried}
use Rattle.at_demand.specs.Covering.{IsTold}
use Rattle.at_demand.specs.Attempts.{Awaits, HasTried, IsIdleBy as AttemptIsIdle, IsKeptAs, SettlesOn as AttemptSettles}
use Rattle.at_demand.specs.Forming.{IsFormedBy, IsTriedBy, waits_for}
use Rattle.at_evaluate.specs.Valued.{kept_values}
use Rattle.at_evaluate.specs.Sparing.{AddsWorthy}
use Rattle.at_demand.specs.Worth.{AreSettled, MayGain}
use Rattle.at_demand.specs.Tries.{HasTriedTo, IsIdleBy, NeedsOther, SettlesOn}
use Rattle.at_demand.specs.declared.trying.Trying.TheVariants as trying
use Rattle.at_evaluate.proofs.Entered.{not_none}
use Rattle.at_demand.proofs.Recalling.{unknown}
use Rattle.at_demand.proofs.of_levels.FailedMet.{failed_met}
use Rattle.at_demand.proofs.of_levels.Plain.{comes_by_demand, ends_spoilt, past_formula}

pub value_tried : (rules : Rules) (at : ClassAt ℕ) (look : Contents ℕ) (before after : Entries) (found : List (Instance ℕ × Find)) (i : Instance ℕ) (a : Attempt) (f : Box Frame) (r : Tried) → start_of rules i.attribute ≡ None → HasTried rules at look before found i a → IsKeptAs after i a →
    Awaits rules at look before found i f.value a → IsTriedBy a f r → HasTriedTo rules at look before after found i r
value_tried rules at look before after found i (attempt.Kept v) f r none (d, is, has) kept waits e =
    subst (HasTriedTo rules at look before after found i) (sym e) (d, is, has, none, kept)
value_tried rules at look before after found i (attempt.Found d) f r none has kept waits e =
    subst (HasTriedTo rules at look before after found i) (sym e) (has, none)
value_tried rules at look before after found i (attempt.Fails k) f r none has kept waits e =
    let (js, past) = waits.stepped in
    let (ks, told) = waits.passed in
    let ends = ends_spoilt rules look i none (fault_view k) js f.value.trial.reads past in
    subst (HasTriedTo rules at look before after found i) (sym e) (
      ends,
      failed_met rules look before found i f.value.demanded waits.kept (fault_view k) ends ks
          f.value.trial.reads (past_formula rules look i none (IsTold rules look found f.value.demanded) (Fails (fault_view k)) ks f.value.trial.reads told),
    )
value_tried rules at look before after found i (attempt.Needs j) f r none has kept waits e =
    let needs : NeedsOther rules at look before found i j (waits_for (trying.Value f) j) = record {
      demands = comes_by_demand rules look i none j has.comes;
      unknown = unknown before found j (sym has.unkept) (sym has.unfound);
      typed = has.typed;
      waits = (none, waits);
    } in
    subst (HasTriedTo rules at look before after found i) (sym e) needs

-- nothing comes
pub none_gained : (rules : Rules) (found : List (Instance ℕ × Find)) (entries : Entries) (i : Instance ℕ) → MayGain rules found entries entries i
none_gained rules found entries i = record { stays = λ j some. refl; lazy = λ j. inl refl; comes = λ j some. inl some }

pub none_worthy : (rules : Rules) (look : Contents ℕ) (asked : Instance ℕ) (entries : Entries) → AddsWorthy rules look asked entries entries
none_worthy rules look asked entries = record { stays = λ i some. refl; worthy = λ i none some. absurd (not_none (kept_values entries i) some none) }

-- nothing is kept where no value was found
pub value_idle : (before after : Entries) (earlier later : ℕ) (a : Attempt) (f : Box Frame) (r : Tried) → IsTriedBy a f r →
    AttemptIsIdle before after earlier later a → IsIdleBy before after earlier later r
value_idle before after earlier later (attempt.Kept v) f r e idle = subst (λ t. IsIdleBy before after earlier later t) (sym e) tt
value_idle before after earlier later (attempt.Found d) f r e idle = subst (λ t. IsIdleBy before after earlier later t) (sym e) tt
value_idle before after earlier later (attempt.Fails k) f r e idle = subst (λ t. IsIdleBy before after earlier later t) (sym e) idle
value_idle before after earlier later (attempt.Needs j) f r e idle = subst (λ t. IsIdleBy before after earlier later t) (sym e) idle

pub formed_idle : (entries : Entries) (work : ℕ) (p : Progress) (b : Box Formation) (r : Tried) → IsFormedBy p b r → IsIdleBy entries entries work work r
formed_idle entries work (progress.Formula f) b r (d, e, from) = subst (λ t. IsIdleBy entries entries work work t) (sym e) (refl, refl)
formed_idle entries work (progress.Fault k) b r e = subst (λ t. IsIdleBy entries entries work work t) (sym e) (refl, refl)
formed_idle entries work (progress.Need j) b r e = subst (λ t. IsIdleBy entries entries work work t) (sym e) (refl, refl)

-- what was found of lazy attributes is kept
pub value_settles : (rules : Rules) (entries : Entries) (found : List (Instance ℕ × Find)) (i : Instance ℕ) (a : Attempt) (f : Box Frame) (r : Tried) →
    IsTriedBy a f r → AttemptSettles rules entries found i a → SettlesOn rules entries found i r
value_settles rules entries found i (attempt.Kept v) f r e s = subst (λ t. SettlesOn rules entries found i t) (sym e) s
value_settles rules entries found i (attempt.Found d) f r e s = subst (λ t. SettlesOn rules entries found i t) (sym e) s
value_settles rules entries found i (attempt.Fails k) f r e s = subst (λ t. SettlesOn rules entries found i t) (sym e) s
value_settles rules entries found i (attempt.Needs j) f r e s = subst (λ t. SettlesOn rules entries found i t) (sym e) s

pub formed_settles : (rules : Rules) (entries : Entries) (found : List (Instance ℕ × Find)) (i : Instance ℕ) (p : Progress) (b : Box Formation) (r : Tried) →
    IsFormedBy p b r → AreSettled rules entries found → SettlesOn rules entries found i r
formed_settles rules entries found i (progress.Formula f) b r (d, e, from) s = subst (λ t. SettlesOn rules entries found i t) (sym e) s
formed_settles rules entries found i (progress.Fault k) b r e s = subst (λ t. SettlesOn rules entries found i t) (sym e) s
formed_settles rules entries found i (progress.Need j) b r e s = subst (λ t. SettlesOn rules entries found i t) (sym e) s
