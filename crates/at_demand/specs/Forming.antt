-- How the evaluation of a circular attribute begins and goes on, over what is kept and what was found; and what a try begins with.
use Rattle.std.specs.Prelude.{◌≡◌, ℕ, List, [], map, None, IsSome}
use Rattle.std.specs.Global.{Box}
use Rattle.at_model.specs.Follow.{Past}
use Rattle.at_model.specs.Rules.{Rules, start_of}
use Rattle.at_model.specs.Run.{Instance, Contents, Run}
use Rattle.at_model.specs.of_fixpoints.Formulas.{Formula}
use Rattle.at_store.specs.Located.{loc_view}
use Rattle.at_store.specs.Shown.{Shown, contents}
use Rattle.at_body.specs.Forms.{reached}
use Rattle.at_body.specs.Typed.{class_shown}
use Rattle.at_body.specs.TypedForms.{IsTypedProgress}
use Rattle.at_body.specs.declared.forming.Progress.{Progress}
use Rattle.at_body.specs.declared.forming.Progress.TheVariants as progress
use Rattle.at_body.specs.declared.trial.Step.TheVariants as step
use Rattle.at_cache.specs.Kept.{Entries}
use Rattle.at_search.specs.declared.ended.Formed.{Formed}
use Rattle.at_demand.specs.declared.evaluation.Find.{Find}
use Rattle.at_demand.specs.declared.formation.Formation.{Formation}
use Rattle.at_demand.specs.declared.trials.Attempt.{Attempt}
use Rattle.at_demand.specs.declared.trials.Attempt.TheVariants as attempt
use Rattle.at_demand.specs.declared.trying.Going.{Going}
use Rattle.at_demand.specs.declared.trying.Going.TheVariants as going
use Rattle.at_demand.specs.declared.trying.Tried.{Tried}
use Rattle.at_demand.specs.declared.trying.Tried.TheVariants as tried
use Rattle.at_demand.specs.declared.trying.Trying.{Trying}
use Rattle.at_demand.specs.declared.trying.Trying.TheVariants as trying
use Rattle.at_demand.specs.declared.evaluation.Frame.{Frame}
use Rattle.at_demand.specs.Advancing.{HasBegun}
use Rattle.at_demand.specs.Covering.{IsTold}
use Rattle.at_evaluate.specs.Valued.{AreValued, meaning}
use Rattle.at_demand.specs.Known.{known_in}
use Rattle.at_demand.specs.Only.{TakesOnly}
use Rattle.at_demand.specs.UnderWay.{left_of}

-- the evaluation of i has come to where this is left, past values of what its formation demanded
abbrev pub HasPassedForming : Rules → Contents ℕ → List (Instance ℕ × Find) → Instance ℕ → Formation → Run ℕ (Formula ℕ) → Type 0
HasPassedForming rules look found i f r =
    (js : List (Instance ℕ)) × Past look (IsTold rules look found f.demanded) ((meaning rules).formula i) js f.forming.trial.reads r

-- it has come so far
abbrev pub HasPassedToForm : Rules → Contents ℕ → List (Instance ℕ × Find) → Instance ℕ → Formation → Progress → Type 0
HasPassedToForm rules look found i f p = HasPassedForming rules look found i f (left_of (reached rules p f.forming))

-- an instance that it comes to isn't known
abbrev pub IsOpenAt : Entries → List (Instance ℕ × Find) → Progress → Type 0
IsOpenAt entries found (progress.Formula f) = Unit {0}
IsOpenAt entries found (progress.Fault k) = Unit {0}
IsOpenAt entries found (progress.Need j) = known_in entries found j ≡ None

-- The evaluation of an instance of a circular attribute has begun, and has come so far by itself.
pub record HasBegunForming (rules : Rules) (s : Shown) (i : Instance ℕ) (new : Formation) (p : Progress) : Type 0 where
  pub fresh : new.demanded.kept.items ≡ []
  pub unfound : new.demanded.finds.items ≡ []
  pub passed : (finds : List (Instance ℕ × Find)) → HasPassedToForm rules (contents s) finds i new p
  pub typed : IsTypedProgress rules (class_shown s) (contents s) p new.forming

-- It has gone on, over what is kept and what was found: to its end, or to an instance that isn't known.
pub record HasGoneOnForming (rules : Rules) (s : Shown) (entries : Entries) (found : List (Instance ℕ × Find)) (old : Formation) (before : Progress)
    (new : Formation) (after : Progress) : Type 0 where
  pub kept : AreValued entries new.demanded.kept.items
  pub passed : (i : Instance ℕ) → HasPassedToForm rules (contents s) found i old before → HasPassedToForm rules (contents s) found i new after
  pub only : (i : Instance ℕ) → HasPassedToForm rules (contents s) found i old before → TakesOnly rules (contents s) found i old.demanded
      → TakesOnly rules (contents s) found i new.demanded
  pub typed : IsTypedProgress rules (class_shown s) (contents s) after new.forming
  pub unknown : IsOpenAt entries found after

-- the evaluation of an instance has begun so, by whether its attribute is circular
abbrev pub HasBegunTrying : Rules → Shown → Instance ℕ → Going → Type 0
HasBegunTrying rules s i (going.Value f t) = (start_of rules i.attribute ≡ None) × HasBegun rules s i f.value t
HasBegunTrying rules s i (going.Formula b p) = IsSome (start_of rules i.attribute) × HasBegunForming rules s i b.value p

-- it has come to the demand of j
abbrev pub waits_for : Trying → Instance ℕ → Going
waits_for (trying.Value f) j = going.Value f (step.Need j)
waits_for (trying.Formula b) j = going.Formula b (progress.Need j)

-- the try for a value has come to that
abbrev pub IsTriedBy : Attempt → Box Frame → Tried → Type 0
IsTriedBy (attempt.Kept v) f r = r ≡ tried.Kept v
IsTriedBy (attempt.Found d) f r = r ≡ tried.Found d
IsTriedBy (attempt.Fails k) f r = r ≡ tried.Fails k
IsTriedBy (attempt.Needs j) f r = r ≡ tried.Waits (trying.Value f) j

-- what the formation looked at and took stands with the formula
pub record IsFormedFrom (b : Formation) (f : Formula ℕ) (d : Formed) : Type 0 where
  pub formula : d.formula ≡ f
  pub reads : map loc_view d.reads.items ≡ b.forming.trial.reads
  pub kept : d.kept ≡ b.demanded.kept
  pub finds : d.finds ≡ b.demanded.finds

-- the try for a formula has come to that: what it looked at and took stands with its formula
abbrev pub IsFormedBy : Progress → Box Formation → Tried → Type 0
IsFormedBy (progress.Formula f) b r = (d : Formed) × (r ≡ tried.Forms d) × IsFormedFrom b.value f d
IsFormedBy (progress.Fault k) b r = r ≡ tried.Fails k
IsFormedBy (progress.Need j) b r = r ≡ tried.Waits (trying.Formula b) j
