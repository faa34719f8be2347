-- What turns of a search let come to be kept has a reason, where a circle answers the question; so it was met, or was kept before.
use Rattle.std.proofs.Common.{◌≡◌, ℕ, Option, None, Some, Ok, inl, inr, refl, sym, ◌∙◌, subst}
use Rattle.std.specs.declared.alloc.AllocError.{AllocError}
use Rattle.at_model.specs.Rules.{Rules}
use Rattle.at_model.specs.Run.{Instance, Known, Value}
use Rattle.at_model.specs.Meaning.{Answer}
use Rattle.at_model.specs.of_fixpoints.Circles.{Circular}
use Rattle.at_model.specs.of_fixpoints.Resting.{stays}
use Rattle.at_model.specs.of_fixpoints.Searched.{IsOn}
use Rattle.at_model.specs.of_fixpoints.Searching.{Level, Search, Turned, posted}
use Rattle.at_store.specs.Shown.{Shown, contents}
use Rattle.at_cache.specs.Kept.{Entries}
use Rattle.at_cache.specs.Traced.{Memories}
use Rattle.at_demand.specs.declared.question.Question.{Question}
use Rattle.at_demand.specs.Answerable.{CanBegin}
use Rattle.at_demand.specs.Answered.{AddsMet, GainsBy}
use Rattle.at_evaluate.specs.Valued.{kept_values, meaning, KeepsEntries}
use Rattle.at_demand.specs.Levels.{StandsFor}
use Rattle.at_evaluate.specs.Meant.{AreRightValues}
use Rattle.at_evaluate.specs.Led.{AreLed}
use Rattle.at_demand.specs.Reasons.{HasReason, HasReasons}
use Rattle.at_demand.specs.Sound.{AreSound}
use Rattle.at_evaluate.specs.Sparing.{AddsWorthy, AreSpare}
use Rattle.at_demand.specs.Turns.{AreTurns, GainsInTurn, HasTurnedBy}
use Rattle.at_demand.specs.Turns as turns
use Rattle.at_model.proofs.of_searching.Turned.{begun_on}
use Rattle.at_evaluate.proofs.Entered.{entered, is_there, not_none, there}
use Rattle.at_demand.proofs.Marking.{told_among}
use Rattle.at_demand.proofs.of_levels.Wholes.{stays_on, whole_led}
use Rattle.at_demand.proofs.of_steps.Grown.{stands_more}
use Rattle.at_demand.proofs.of_searches.ReasonedTurns.{came_reason, demanded_reason, reasons_posted, turn_reasons}
use Rattle.at_demand.proofs.of_searches.Stepping.{whole_valued}

module _ (rules : Rules) (s : Shown) (first : Known ℕ) (q : Instance ℕ) where
  abbrev pub AreReasoned : Entries → Type 0
  AreReasoned entries = (i : Instance ℕ) (v : Value ℕ) → kept_values entries i ≡ Some v →
      HasReason (contents s) (meaning rules) first q i

  -- The search has come so far with reason, and so has all that is kept, which is right.
  pub record IsReasoned (entries : Entries) (u : Search ℕ) : Type 0 where
    pub on : IsOn (contents s) (meaning rules) q u
    pub reasons : HasReasons (contents s) (meaning rules) first q u
    pub kept : AreReasoned entries
    pub right : AreRightValues (contents s) (meaning rules) (kept_values entries)

module _ (rules : Rules) (s : Shown) (first : Known ℕ) (q c : Instance ℕ) (can : CanBegin rules s q)
    (circle : Circular (contents s) (meaning rules) q c) where
  abbrev AllReasoned : Entries → Type 0
  AllReasoned entries = AreReasoned rules s first q entries

  abbrev SoReasoned : Entries → Search ℕ → Type 0
  SoReasoned entries u = IsReasoned rules s first q entries u

  -- what is kept again has one
  pub again_reasoned : (e f : Entries) (u : Search ℕ) → SoReasoned e u → AreLed rules s u.last.next e f →
      AreRightValues (contents s) (meaning rules) (kept_values f) → AllReasoned f
  again_reasoned e f u r led right i v k = by (kept_values e i) refl
    where
      by : (o : Option (Value ℕ)) → kept_values e i ≡ o → HasReason (contents s) (meaning rules) first q i
      by (Some w) was = r.kept i w was
      by None was = demanded_reason (contents s) (meaning rules) first q c circle u r.on r.reasons i v
          (led i was (is_there (kept_values f i) v k)) (right i v k)

  -- so has what a turn lets come
  pub more_reasoned : (e f : Entries) (u : Search ℕ) → SoReasoned e u → GainsInTurn rules e f u →
      AreRightValues (contents s) (meaning rules) (kept_values f) → AllReasoned f
  more_reasoned e f u r gains right i v k = by (kept_values e i) refl
    where
      by : (o : Option (Value ℕ)) → kept_values e i ≡ o → HasReason (contents s) (meaning rules) first q i
      by (Some w) was = r.kept i w was
      by None was = elim (gains.last i) [
        | inl same ↦ absurd (not_none (kept_values f i) (is_there (kept_values f i) v k) (same ∙ was))
        | inr (may, kept, lazy) ↦ came_reason (contents s) (meaning rules) first q c circle u r.on r.reasons i v may
            (right i v k)
      ]

  pub turned_reasoned : (e f : Entries) (u w : Search ℕ) (o : Option (Answer ℕ)) → SoReasoned e u →
      Turned (contents s) (meaning rules) (kept_values e) u w o → o ≡ None → AllReasoned f →
      AreRightValues (contents s) (meaning rules) (kept_values f) → SoReasoned f w
  turned_reasoned e f u w o r turned none all right = record {
    on = stays_on rules s can.basis.idle can.basis.formed can.basis.sound q can.typed (kept_values e) r.right u w r.on
        (subst (λ p. Turned (contents s) (meaning rules) (kept_values e) u w p) none turned);
    reasons = turn_reasons (contents s) (meaning rules) first q c circle (kept_values e) r.right r.kept
        (whole_led rules s can.basis.idle can.basis.formed can.basis.sound q can.typed) (whole_valued rules (contents s))
        u w o r.on r.reasons turned none;
    kept = all;
    right = right;
  }

  module _ (m : Memories) where
    -- so it is behind turns
    pub turns_reasoned : (n : ℕ) (d e : Entries) (u v : Search ℕ) (o : Option (Answer ℕ)) → AreTurns rules s m n d u e v o →
        o ≡ None → SoReasoned d u → SoReasoned e v
    turns_reasoned _ d _ u _ _ (turns.none _ _) none r = r
    turns_reasoned n d e u v _ (turns.again _ _ x _ _ _ front on again led right) none r =
        let mid = turns_reasoned n d x u v None front refl r in
        record { on = mid.on; reasons = mid.reasons; kept = again_reasoned x e v mid led right; right = right }
    turns_reasoned _ d e u v o (turns.more n _ x _ _ w _ _ front turned gains right) none r =
        let mid = turns_reasoned n d x u w None front refl r in
        turned_reasoned x e w v o mid turned none (more_reasoned x e w mid gains right) right

    -- and what is kept has a reason, also where the last one answers
    pub kept_reasoned : (n : ℕ) (d e : Entries) (u v : Search ℕ) (o : Option (Answer ℕ)) → AreTurns rules s m n d u e v o →
        SoReasoned d u → AllReasoned e
    kept_reasoned _ d _ u _ _ (turns.none _ _) r = r.kept
    kept_reasoned n d e u v _ (turns.again _ _ x _ _ _ front on again led right) r =
        let mid = turns_reasoned n d x u v None front refl r in again_reasoned x e v mid led right
    kept_reasoned _ d e u v o (turns.more n _ x _ _ w _ _ front turned gains right) r =
        let mid = turns_reasoned n d x u w None front refl r in more_reasoned x e w mid gains right

-- a question that is posted has come so far with reason, where what is kept is right
pub posted_reasoned : (rules : Rules) (s : Shown) (q : Instance ℕ) (entries : Entries) →
    AreRightValues (contents s) (meaning rules) (kept_values entries) →
    IsReasoned rules s (kept_values entries) q entries (posted q)
posted_reasoned rules s q entries right = record {
  on = begun_on (contents s) (meaning rules) told_among q;
  reasons = reasons_posted (contents s) (meaning rules) (kept_values entries) q;
  kept = λ i v k. inl (i, v, k, stays i);
  right = right;
}

-- Where a circle answers the question that was asked of i, some search for which q stands has come so far with reason.
pub record StandsReasoned (rules : Rules) (s : Shown) (i : Instance ℕ) (first entries : Entries) (q : Question) : Type 0 where
  pub way : Search ℕ
  pub stands : StandsFor rules s entries q way
  pub reasoned : (c : Instance ℕ) → Circular (contents s) (meaning rules) i c →
      IsReasoned rules s (kept_values first) i entries way

pub begun_reasoned : (rules : Rules) (s : Shown) (i : Instance ℕ) (entries : Entries) (q : Question) →
    AreRightValues (contents s) (meaning rules) (kept_values entries) → StandsFor rules s entries q (posted i) →
    StandsReasoned rules s i entries entries q
begun_reasoned rules s i entries q right stands =
    record { way = posted i; stands = stands; reasoned = λ c circle. posted_reasoned rules s i entries right }

-- Up to `mid` what came is led to by demands from its last instance; then it was given a turn.
module _ (rules : Rules) (s : Shown) (i : Instance ℕ) (can : CanBegin rules s i) (first old mid : Entries) (q : Question)
    (r : StandsReasoned rules s i first old q) (stays : KeepsEntries old mid) (led : AreLed rules s q.inst old mid)
    (sound : AreSound rules s mid) where
  led_next : AreLed rules s r.way.last.next old mid
  led_next = subst (λ (l : Level ℕ). AreLed rules s l.next old mid) (sym r.stands.is.last) led

  pub ahead_all : (c : Instance ℕ) → Circular (contents s) (meaning rules) i c →
      AreReasoned rules s (kept_values first) i mid
  ahead_all c circle = again_reasoned rules s (kept_values first) i c can circle old mid r.way (r.reasoned c circle)
      led_next sound.right

  pub ahead_reasoned : StandsReasoned rules s i first mid q
  ahead_reasoned = record {
    way = r.way;
    stands = stands_more rules s old mid stays q sound r.way r.stands;
    reasoned = λ c circle. let x = r.reasoned c circle in
        record { on = x.on; reasons = x.reasons; kept = ahead_all c circle; right = sound.right };
  }

  module _ (new : Entries) (right : AreRightValues (contents s) (meaning rules) (kept_values new))
      (gains : GainsBy rules s mid new q) where
    pub turned_all : (c : Instance ℕ) → Circular (contents s) (meaning rules) i c →
        AreReasoned rules s (kept_values first) i new
    turned_all c circle = more_reasoned rules s (kept_values first) i c can circle mid new ahead_reasoned.way
        (ahead_reasoned.reasoned c circle) (gains.searched ahead_reasoned.way ahead_reasoned.stands) right

    pub turned_on : (p : Question) → HasTurnedBy {E = AllocError} rules s mid new q p (Ok None) →
        StandsReasoned rules s i first new p
    turned_on p t = let (v, turned, stands) = t.searched ahead_reasoned.way ahead_reasoned.stands in record {
      way = v;
      stands = stands refl;
      reasoned = λ c circle. turned_reasoned rules s (kept_values first) i c can circle mid new ahead_reasoned.way v
          None (ahead_reasoned.reasoned c circle) turned refl (turned_all c circle) right;
    }

-- what came with reason was met, where what was kept before is spare
pub reasoned_met : (rules : Rules) (s : Shown) (i : Instance ℕ) (old new : Entries) → AreSpare rules (contents s) old →
    AddsWorthy rules (contents s) i old new →
    ((c : Instance ℕ) → Circular (contents s) (meaning rules) i c → AreReasoned rules s (kept_values old) i new) →
    AddsMet rules (contents s) i old new
reasoned_met rules s i old new spare worthy all c j circle none kept =
    let (v, k) = there (kept_values new j) kept in
    elim (all c circle j v k) [
      | inl (d, w, known, l) ↦ absurd (not_none (kept_values old j)
          (spare.deep d j (entered old d (is_there (kept_values old d) w known)) l (worthy.worthy j none kept).lazy) none)
      | inr met ↦ met
    ]

-- so it is of what demands lead to from the instance itself
pub led_met : (rules : Rules) (s : Shown) (i : Instance ℕ) (can : CanBegin rules s i) (old new : Entries) →
    AreSpare rules (contents s) old → AreRightValues (contents s) (meaning rules) (kept_values old) →
    AreRightValues (contents s) (meaning rules) (kept_values new) → AddsWorthy rules (contents s) i old new →
    AreLed rules s i old new → AddsMet rules (contents s) i old new
led_met rules s i can old new spare right still worthy led = reasoned_met rules s i old new spare worthy
    (λ c circle. again_reasoned rules s (kept_values old) i c can circle old new (posted i)
    (posted_reasoned rules s i old right) led still)
