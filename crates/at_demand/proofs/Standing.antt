-- A question that was posted on the tree as it is stands so after each of its turns, and while more comes to what is kept.
use Rattle.std.proofs.Common.{◌≡◌, ◌↔◌, ℕ, get_or, nat_eq, List, [], ◌∷◌, Option, Some, None, Ok, inl, inr, refl, sym, ap, ◌∙◌, subst}
use Rattle.std.specs.Map.{keys_of}
use Rattle.std.specs.declared.alloc.AllocError.{AllocError}
use Rattle.at_model.specs.Instances.{AnyText}
use Rattle.at_model.specs.Meaning as plain
use Rattle.at_model.specs.Meaning.{Among, Outcome}
use Rattle.at_model.specs.Rules.{Rules}
use Rattle.at_model.specs.Run.{Value, Instance, Contents}
use Rattle.at_model.specs.Turning.{asked}
use Rattle.at_model.specs.TypedRuns.{IsWellTyped}
use Rattle.at_model.specs.of_fixpoints.Circles.{Answers}
use Rattle.at_model.specs.of_fixpoints.Fixpoints.{Holds}
use Rattle.at_model.specs.of_fixpoints.Formulas.{Forms}
use Rattle.at_model.specs.of_fixpoints.Resting.{Leads}
use Rattle.at_model.specs.of_fixpoints.Searched.{IsWhole}
use Rattle.at_model.specs.of_fixpoints.Searching.{Level}
use Rattle.at_model.proofs.of_formulas.PlainForms.{holds_on_all, holds_back_all}
use Rattle.at_model.proofs.of_formulas.PlainRules.{rules_plain}
use Rattle.at_rules.specs.Circular.{HasNoneCircular}
use Rattle.at_store.specs.Shown.{Shown, contents}
use Rattle.at_body.specs.Typed.{class_shown}
use Rattle.at_cache.specs.Kept.{Entries}
use Rattle.at_demand.specs.declared.answer.Answer.{Answer as AnswerCode}
use Rattle.at_demand.specs.declared.question.Question.{Question}
use Rattle.at_demand.specs.Answerable.{IsBasis}
use Rattle.at_evaluate.specs.Valued.{IsKept, equations, kept_values, meaning}
use Rattle.at_demand.specs.Known.{answer_view}
use Rattle.at_demand.specs.Levels.{IsAbout, LevelCode, asked_by, root_in}
use Rattle.at_evaluate.specs.Meant.{AreRightValues}
use Rattle.at_demand.specs.Sound.{AreKeptWhole, AreSound}
use Rattle.at_evaluate.specs.Sparing.{AddsWorthy, IsWorthy}
use Rattle.at_demand.specs.Turns.{HasTurnedBy, IsStanding, IsStandingPlainly, under_way}
use Rattle.at_evaluate.proofs.Entered.{entered_on, is_there}
use Rattle.at_demand.proofs.of_searches.Reaching.{asked_at}
use Rattle.at_demand.proofs.of_searches.Returning.{with_level}
use Rattle.at_demand.proofs.of_levels.Wholes.{stays_on, told_right, whole_led}

-- where no attribute is circular, formulas say what equations say
pub plain_holds : (rules : Rules) → HasNoneCircular rules → (look : Contents ℕ) (i : Instance ℕ) (o : Outcome ℕ) →
    Holds look (meaning rules) i o → plain.Holds look (equations rules) i o
plain_holds rules none look i o h =
    let both = subst (λ (z : Forms ℕ). plain.Holds look (equations rules) i o ↔ Holds look z i o) (sym (rules_plain rules nat_eq none))
    (holds_on_all look (equations rules) i o, holds_back_all look (equations rules) i o) in both.1 h

-- what was asked is the first of the chain
chain_asked : (ws : List (Instance ℕ × LevelCode)) (i : Instance ℕ) (d : LevelCode) → d ≡ None →
    ((j : Instance ℕ) (l : LevelCode) → Among (with_level l j) ws → l ≡ None) → get_or (keys_of ws) 0 i ≡ asked_at ws d i
chain_asked [] i d e all = sym (ap (λ (l : LevelCode). root_in l i) e)
chain_asked (w ∷ ws) i d e all = sym (ap (λ (l : LevelCode). root_in l w.0) (all w.0 w.1 (inl refl)))

pub plain_asked : (rules : Rules) (s : Shown) (q : Question) → IsStandingPlainly rules s q → asked (under_way q) ≡ asked_by q
plain_asked rules s q p = chain_asked q.waiting.entries q.inst q.level p.level p.levels

-- a question is about what was asked
first_about : (ws : List (Instance ℕ × LevelCode)) (i : Instance ℕ) (d : LevelCode) →
    (j : Instance ℕ) × (l : LevelCode) × Among (with_level l j) (with_level d i ∷ ws) × (asked_at ws d i ≡ root_in l j)
first_about [] i d = (i, d, inl refl, refl)
first_about (w ∷ ws) i d = (w.0, w.1, inr (inl refl), refl)

pub asked_about : (q : Question) → IsAbout q (asked_by q)
asked_about q = let (j, l, a, e) = first_about q.waiting.entries q.inst q.level in inr (j, l, a, inr e)

-- more comes, and more again
pub worthy_both : (rules : Rules) (look : Contents ℕ) (q : Instance ℕ) (first next last : Entries) → AddsWorthy rules look q first next →
    AddsWorthy rules look q next last → AddsWorthy rules look q first last
worthy_both rules look q first next last a b = record {
  stays = λ i some. b.stays i (entered_on first next a.stays i some) ∙ a.stays i some;
  worthy = λ i none some. by i none some (kept_values next i) refl;
}
  where
    by : (i : Instance ℕ) → kept_values first i ≡ None → IsKept last i → (o : Option (Value ℕ)) → kept_values next i ≡ o → IsWorthy rules look q i
    by i none some None is = b.worthy i is some
    by i none some (Some v) is = a.worthy i none (is_there (kept_values next i) v is)

-- what is kept is whole, where all that came is led to from what is well typed
pub sound_more : (rules : Rules) (s : Shown) → IsBasis rules s → (q : Instance ℕ) → IsWellTyped rules (class_shown s) AnyText q →
    (before after : Entries) → AreKeptWhole rules s before → AreRightValues (contents s) (meaning rules) (kept_values after) →
    AddsWorthy rules (contents s) q before after → AreSound rules s after
sound_more rules s basis q typed before after whole right adds = record {
  right = right;
  whole = λ i some. by i some (kept_values before i) refl;
}
  where
    by : (i : Instance ℕ) → IsKept after i → (o : Option (Value ℕ)) → kept_values before i ≡ o → IsWhole (contents s) (meaning rules) i
    by i some None is =
        let w = adds.worthy i is some in
        whole_led rules s basis.idle basis.formed basis.sound q typed i w.value w.reached w.has
    by i some (Some v) is = whole i (is_there (kept_values before i) v is)

-- A question stands.
module _ (rules : Rules) (s : Shown) (basis : IsBasis rules s) (entries : Entries) (q : Question) (sound : AreSound rules s entries)
    (st : IsStanding rules s entries q) where
  pub asked_typed : IsWellTyped rules (class_shown s) AnyText (asked_by q)
  asked_typed = let (u, x) = st.levels sound in x.typed (asked_by q) (asked_about q)

  -- what was asked leads to the last one
  pub last_led : Leads (contents s) (meaning rules) (asked_by q) q.inst
  last_led =
      let (u, x) = st.levels sound in
      subst (λ (l : Level ℕ). Leads (contents s) (meaning rules) (asked_by q) l.next) x.is.last (x.fresh.led u.last.next (inl refl))

  pub sound_after : (after : Entries) → AreRightValues (contents s) (meaning rules) (kept_values after) →
      AddsWorthy rules (contents s) (asked_by q) entries after → AreSound rules s after
  sound_after after right adds = sound_more rules s basis (asked_by q) asked_typed entries after sound.whole right adds

  module _ (after : Entries) (new : Question) where
    -- a turn without an answer leaves what was asked
    pub asked_same : HasTurnedBy {E = AllocError} rules s entries after q new (Ok None) → asked_by new ≡ asked_by q
    asked_same t =
        let (u, x) = st.levels sound in
        let (v, turned, stands) = t.searched u x in
        let y = stands refl in
        let on = stays_on rules s basis.idle basis.formed basis.sound (asked_by q) asked_typed (kept_values entries) sound.right u v x.on turned in
        sym y.on.starts ∙ on.starts

    -- and the answer of another one is right
    pub answers_right : (a : AnswerCode) → HasTurnedBy {E = AllocError} rules s entries after q new (Ok (Some a)) →
        Answers (contents s) (meaning rules) (asked_by q) (answer_view a)
    answers_right a t =
        let (u, x) = st.levels sound in
        let (v, turned, stands) = t.searched u x in
        told_right rules s basis.idle basis.formed basis.sound (asked_by q) asked_typed (kept_values entries) sound.right u v (answer_view a)
        x.on turned
