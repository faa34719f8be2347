-- The trials that are kept beside a question fit its chain.
use Rattle.std.proofs.Common.{◌≡◌, ℕ, List, [], ◌∷◌, ◌++◌, Option, Some, None, inl, inr, refl, sym, ap, ◌∙◌, subst, append_assoc, append-nil, arith, true≢false}
use Rattle.std.specs.Prelude.{IsSome}
use Rattle.std.specs.Map.{lookup}
use Rattle.std.proofs.lemmas.Option.{none-some}
use Rattle.at_body.specs.Same.{same_instance}
use Rattle.at_search.specs.declared.ended.Fault.{Fault}
use Rattle.at_model.specs.Run.{Instance, Contents}
use Rattle.at_model.specs.Rules.{Rules}
use Rattle.at_model.specs.TypedRuns.{ClassAt}
use Rattle.at_model.specs.of_fixpoints.Formulas.{Formula}
use Rattle.at_store.specs.Shown.{Shown, contents}
use Rattle.at_body.specs.Forms.{reached as reached_forming}
use Rattle.at_body.specs.Rest.{reached}
use Rattle.at_body.specs.Typed.{class_shown}
use Rattle.at_body.specs.declared.forming.Progress.TheVariants as progress
use Rattle.at_body.specs.declared.trial.Step.TheVariants as step
use Rattle.at_cache.specs.Kept.{Entries}
use Rattle.at_demand.specs.declared.evaluation.Find.{Find}
use Rattle.at_demand.specs.declared.question.Question.{Question}
use Rattle.at_demand.specs.declared.trials.Trials.{Trials}
use Rattle.at_demand.specs.declared.trying.Trying.{Trying}
use Rattle.at_demand.specs.declared.trying.Trying.TheVariants as trying
use Rattle.at_demand.specs.Attempts.{IsGoing}
use Rattle.at_demand.specs.Covering.{Extends, IsTold}
use Rattle.at_demand.specs.declared.trying.Going.{Going}
use Rattle.at_demand.specs.declared.trying.Going.TheVariants as going
use Rattle.at_demand.specs.Forming.{HasBegunTrying, waits_for}
use Rattle.at_demand.specs.KeptTrials.{AllWait, AreTrials, Fit, FitAt, HasDropped, HasEndedLast, HasNoLast, HasTaken, IsNotedRight, frames_of, next_of, owners_of}
use Rattle.at_evaluate.specs.Valued.{AreValued, KeepsEntries, meaning}
use Rattle.at_demand.specs.Levels.{LevelCode, root_in}
use Rattle.at_demand.specs.UnderWay.{left_of}
use Rattle.at_evaluate.proofs.Entered.{valued_on}
use Rattle.at_demand.proofs.OnlyLemmas.{takes_more, takes_none}
use Rattle.at_demand.proofs.Passing.{demanded_more, passed_more, past_more}

-- one element at the end of equal lists
same_ends : {A : Type 0} (xs ys : List A) (x y : A) → xs ++ x ∷ [] ≡ ys ++ y ∷ [] → (xs ≡ ys) × (x ≡ y)
same_ends [] [] x y e = (refl, cc)
same_ends [] (z ∷ []) x y e = absurd cc
same_ends [] (z ∷ (w ∷ ys)) x y e = absurd cc
same_ends (z ∷ []) [] x y e = absurd cc
same_ends (z ∷ (w ∷ xs)) [] x y e = absurd cc
same_ends (z ∷ xs) (w ∷ ys) x y e =
    let front : z ≡ w = cc in
    let rest : xs ++ x ∷ [] ≡ ys ++ y ∷ [] = cc in
    let r = same_ends xs ys x y rest in
    (ap (λ u. u ∷ xs) front ∙ ap (λ us. w ∷ us) r.0, r.1)

-- what ends with an element isn't empty
data Ended {A : Type 0} : List A → Type 0 where
  ends : (xs : List A) (x : A) → Ended (xs ++ x ∷ [])
  nothing : Ended []

end_of : {A : Type 0} (xs : List A) → Ended xs
end_of [] = nothing
end_of (x ∷ xs) = onto x xs (end_of xs)
  where
    onto : {A : Type 0} (x : A) (xs : List A) → Ended xs → Ended (x ∷ xs)
    onto x _ (ends ys y) = ends (x ∷ ys) y
    onto x _ nothing = ends [] x

-- one that waits in its level, and its trial
abbrev Owner : Type 0
Owner = Instance ℕ × LevelCode

abbrev with_trial : Owner → Trying → Owner × Trying
with_trial o t = (o, t)

frames_push : (es : List (Owner × Trying)) (o : Owner) (t : Trying) → frames_of (es ++ with_trial o t ∷ []) ≡ frames_of es ++ t ∷ []
frames_push [] o t = refl
frames_push (e ∷ es) o t = ap (λ ts. e.1 ∷ ts) (frames_push es o t)

owners_push : (es : List (Owner × Trying)) (o : Owner) (t : Trying) → owners_of (es ++ with_trial o t ∷ []) ≡ owners_of es ++ o ∷ []
owners_push [] o t = refl
owners_push (e ∷ es) o t = ap (λ os. e.0 ∷ os) (owners_push es o t)

next_push : (es : List (Owner × Trying)) (o : Owner) (j : Instance ℕ) (t : Trying) → next_of (es ++ with_trial o t ∷ []) j ≡ next_of es (root_in o.1 o.0)
next_push [] o j t = refl
next_push (e ∷ es) o j t = refl

no_end : {A : Type 0} (xs : List A) (x : A) → xs ++ x ∷ [] ≡ [] → ⊥
no_end [] x e = absurd cc
no_end (y ∷ xs) x e = absurd cc

module _ (rules : Rules) (at : ClassAt ℕ) (look : Contents ℕ) (entries : Entries) (found : List (Instance ℕ × Find)) where
  -- a trial waits
  abbrev Waits : Instance ℕ → Trying → Instance ℕ → Type 0
  Waits i t j = IsGoing rules at look entries found i (waits_for t j)

  wait_push : (es : List (Owner × Trying)) (o : Owner) (j : Instance ℕ) (t : Trying) → AllWait rules at look entries found es (root_in o.1 o.0) →
      Waits o.0 t j → AllWait rules at look entries found (es ++ with_trial o t ∷ []) j
  wait_push [] o j t all one = (one, tt)
  wait_push (e ∷ es) o j t all one = (subst (λ x. Waits e.0.0 e.1 x) (sym (next_push es o j t)) all.0, wait_push es o j t all.1 one)

  wait_pop : (es : List (Owner × Trying)) (o : Owner) (j : Instance ℕ) (t : Trying) → AllWait rules at look entries found (es ++ with_trial o t ∷ []) j →
      AllWait rules at look entries found es (root_in o.1 o.0) × Waits o.0 t j
  wait_pop [] o j t all = (tt, all.0)
  wait_pop (e ∷ es) o j t all =
      let rest = wait_pop es o j t all.1 in ((subst (λ x. Waits e.0.0 e.1 x) (next_push es o j t) all.0, rest.0), rest.1)

  -- no trial is kept
  pub no_trials : (owners : List Owner) (j : Instance ℕ) (frames : List Trying) → frames ≡ [] → AreTrials rules at look entries found owners j frames
  no_trials owners j frames none = record { front = owners; tail = []; owners_are = sym (append-nil owners); frames_are = none; wait = tt }

  pub push_trial : (owners : List Owner) (o : Owner) (j : Instance ℕ) (frames : List Trying) (t : Trying) →
      AreTrials rules at look entries found owners (root_in o.1 o.0) frames → Waits o.0 t j →
      AreTrials rules at look entries found (owners ++ o ∷ []) j (frames ++ t ∷ [])
  push_trial owners o j frames t ts one = record {
    front = ts.front;
    tail = ts.tail ++ with_trial o t ∷ [];
    owners_are = ap (λ os. os ++ o ∷ []) ts.owners_are ∙ append_assoc ts.front (owners_of ts.tail) (o ∷ [])
        ∙ ap (λ os. ts.front ++ os) (sym (owners_push ts.tail o t));
    frames_are = ap (λ fs. fs ++ t ∷ []) ts.frames_are ∙ sym (frames_push ts.tail o t);
    wait = wait_push ts.tail o j t ts.wait one;
  }

  pub pop_trial : (owners : List Owner) (o : Owner) (j : Instance ℕ) (frames : List Trying) (t : Trying) →
      AreTrials rules at look entries found (owners ++ o ∷ []) j (frames ++ t ∷ []) →
      AreTrials rules at look entries found owners (root_in o.1 o.0) frames × Waits o.0 t j
  pop_trial owners o j frames t ts = by ts.tail (end_of ts.tail) ts.owners_are ts.frames_are ts.wait
    where
      by : (tail : List (Owner × Trying)) → Ended tail → owners ++ o ∷ [] ≡ ts.front ++ owners_of tail → frames ++ t ∷ [] ≡ frames_of tail →
          AllWait rules at look entries found tail j → AreTrials rules at look entries found owners (root_in o.1 o.0) frames × Waits o.0 t j
      by _ (ends es e) os fs all =
          let f_is = same_ends frames (frames_of es) t e.1 (fs ∙ frames_push es e.0 e.1) in
          let o_is = same_ends owners (ts.front ++ owners_of es) o e.0
          (os ∙ ap (λ ks. ts.front ++ ks) (owners_push es e.0 e.1) ∙ sym (append_assoc ts.front (owners_of es) (e.0 ∷ []))) in
          let parts = wait_pop es e.0 j e.1 all in
          let here = subst (λ (x : Owner). Waits x.0 e.1 j) (sym o_is.1) parts.1 in (
            record {
              front = ts.front;
              tail = es;
              owners_are = o_is.0;
              frames_are = f_is.0;
              wait = subst (λ (x : Owner). AllWait rules at look entries found es (root_in x.1 x.0)) (sym o_is.1) parts.0;
            },
            subst (λ x. Waits o.0 x j) (sym f_is.1) here,
          )
      by _ nothing os fs all = absurd (no_end frames t fs)

  -- where the last trial is gone, the others are those of the others
  pub dropped_trials : (owners : List Owner) (o : Owner) (j : Instance ℕ) (old new : Trials) → HasDropped old new →
      AreTrials rules at look entries found (owners ++ o ∷ []) j old.frames.items → AreTrials rules at look entries found owners (root_in o.1 o.0) new.frames.items
  dropped_trials owners o j old new d ts = elim d.frames [
    | inl x ↦ (
        let (t, is) = x in
        let parts = pop_trial owners o j new.frames.items t (subst (λ fs. AreTrials rules at look entries found (owners ++ o ∷ []) j fs) is ts) in
        parts.0
        )
    | inr x ↦ no_trials owners (root_in o.1 o.0) new.frames.items x.1
  ]

-- more was found, and more is kept
module _ (rules : Rules) (at : ClassAt ℕ) (look : Contents ℕ) (entries more : Entries) (grown : KeepsEntries entries more)
    (found all : List (Instance ℕ × Find)) (extends : Extends found all) where
  pub going_more : (i : Instance ℕ) (t : Trying) (j : Instance ℕ) → IsGoing rules at look entries found i (waits_for t j) →
      IsGoing rules at look more all i (waits_for t j)
  going_more i (trying.Value f) j (own, h) = (
    own,
    record {
      stepped = h.stepped;
      passed = passed_more rules look found all i f.value (left_of (reached rules.classes (step.Need j) f.value.trial)) extends
          h.passed;
      takes = takes_more rules look found all i f.value.demanded extends h.takes;
      typed = h.typed;
      kept = valued_on entries more grown f.value.demanded.kept.items h.kept;
    },
  )
  going_more i (trying.Formula b) j (some, h) = (
    some,
    record {
      passed =
          let f = b.value in
          let (js, past) = h.passed in (
            js,
            past_more look (IsTold rules look found f.demanded) (IsTold rules look all f.demanded)
                (λ k w t. (t.0, demanded_more found all f.demanded k extends t.1)) ((meaning rules).formula i)
                (left_of (reached_forming rules (progress.Need j) f.forming)) js f.forming.trial.reads past,
          );
      takes = takes_more rules look found all i b.value.demanded extends h.takes;
      typed = h.typed;
      kept = valued_on entries more grown b.value.demanded.kept.items h.kept;
    },
  )

  wait_more : (es : List (Owner × Trying)) (j : Instance ℕ) → AllWait rules at look entries found es j → AllWait rules at look more all es j
  wait_more [] j h = tt
  wait_more (e ∷ es) j h = (going_more e.0.0 e.1 (next_of es j) h.0, wait_more es j h.1)

  pub more_trials : (owners : List Owner) (j : Instance ℕ) (frames : List Trying) → AreTrials rules at look entries found owners j frames →
      AreTrials rules at look more all owners j frames
  more_trials owners j frames t =
      record { front = t.front; tail = t.tail; owners_are = t.owners_are; frames_are = t.frames_are; wait = wait_more t.tail j t.wait }

-- the trials fit still where more is kept
pub fit_grown : (rules : Rules) (s : Shown) (entries more : Entries) → KeepsEntries entries more → (q : Question) (frames : List Trying)
    (o : Option (Instance ℕ)) → FitAt rules s entries q frames o → FitAt rules s more q frames o
fit_grown rules s entries more grown q frames None fit = more_trials rules (class_shown s) (contents s) entries more grown
    q.found.entries q.found.entries ([], sym (append-nil q.found.entries)) q.waiting.entries (root_in q.level q.inst) frames fit
fit_grown rules s entries more grown q frames (Some j) fit = more_trials rules (class_shown s) (contents s) entries more grown
    q.found.entries q.found.entries ([], sym (append-nil q.found.entries)) (q.waiting.entries ++ (q.inst, q.level) ∷ []) j frames fit

-- where nothing is noted nothing is wrong
pub none_noted : (rules : Rules) (look : Contents ℕ) (noted : List (Instance ℕ × Fault)) → noted ≡ [] → IsNotedRight
    rules look noted
none_noted rules look noted none i f is = let at = subst (λ ps. lookup (same_instance i) ps ≡ Some f) none is in
    absurd (none-some f at)

-- what is noted stays right
pub noted_same : (rules : Rules) (look : Contents ℕ) (old new : List (Instance ℕ × Fault)) → new ≡ old → IsNotedRight
    rules look old →
    IsNotedRight rules look new
noted_same rules look old new same right = subst (λ ps. IsNotedRight rules look ps) (sym same) right

-- none fit any question
pub none_fit : (rules : Rules) (s : Shown) (entries : Entries) (q : Question) (t : Trials) → t.frames.items ≡ [] → t.awaited ≡ None →
    IsNotedRight rules (contents s) t.noted.entries → Fit rules s entries q t
none_fit rules s entries q t none gone noted = record {
  chain = subst (λ o. FitAt rules s entries q t.frames.items o) (sym gone)
      (no_trials rules (class_shown s) (contents s) entries q.found.entries q.waiting.entries (root_in q.level q.inst)
      t.frames.items none);
  noted = noted;
}

-- where the last one has a trial it was taken, and those of the others fit
module _ (rules : Rules) (s : Shown) (entries : Entries) (q : Question) (old new : Trials) (fit : Fit rules s entries q old) where
  pub taken_fit : (t : Trying) (j : Instance ℕ) → HasTaken old new t j →
      IsGoing rules (class_shown s) (contents s) entries q.found.entries q.inst (waits_for t j) × Fit rules s entries q new
  taken_fit t j taken =
      let there : FitAt rules s entries q (new.frames.items ++ t ∷ []) (Some j) =
      subst (λ fs. FitAt rules s entries q fs (Some j)) taken.frames (subst (λ o. FitAt rules s entries q
      old.frames.items o) taken.awaited fit.chain) in
      let parts = pop_trial rules (class_shown s) (contents s) entries q.found.entries q.waiting.entries (
        q.inst,
        q.level,
      ) j new.frames.items t there in (
        parts.1,
        record {
          chain = subst (λ o. FitAt rules s entries q new.frames.items o) (sym taken.none) parts.0;
          noted = noted_same rules (contents s) old.noted.entries new.noted.entries taken.noted fit.noted;
        },
      )

  pub untaken_fit : HasNoLast old new → Fit rules s entries q new
  untaken_fit t = record {
    chain = subst (λ o. FitAt rules s entries q new.frames.items o) (sym t.none) (elim t.same [
      | inl none ↦ subst (λ fs. FitAt rules s entries q fs None) (sym t.frames) (subst (λ o. FitAt rules s entries q
          old.frames.items o) none fit.chain)
      | inr empty ↦ no_trials rules (class_shown s) (contents s) entries q.found.entries q.waiting.entries (root_in
          q.level q.inst) new.frames.items
          (t.frames ∙ empty)
    ]);
    noted = noted_same rules (contents s) old.noted.entries new.noted.entries t.noted fit.noted;
  }

-- without the trial of the last one they fit its chain still
pub ended_fit : (rules : Rules) (s : Shown) (entries : Entries) (q : Question) (old new : Trials) → HasEndedLast old
    new → Fit rules s entries q old →
    FitAt rules s entries q new.frames.items None
ended_fit rules s entries q old new ended fit = elim ended.frames [
  | inl (none, same) ↦ subst (λ fs. FitAt rules s entries q fs None) (sym same) (subst (λ o. FitAt rules s entries q
      old.frames.items o) none fit.chain)
  | inr (some, dropped) ↦ by old.awaited some fit.chain dropped
]
  where
    by : (o : Option (Instance ℕ)) → IsSome o → FitAt rules s entries q old.frames.items o → HasDropped old new →
        FitAt rules s entries q new.frames.items None
    by None some h d = absurd (true≢false (sym some))
    by (Some j) some h d = dropped_trials rules (class_shown s) (contents s) entries q.found.entries q.waiting.entries
        (q.inst, q.level) j old new d h

none_kept : (entries : Entries) → AreValued entries []
none_kept entries u (n, less, at) = absurd (omega (arith, less))

-- a trial that has begun is under way
pub begun_going : (rules : Rules) (s : Shown) (entries : Entries) (found : List (Instance ℕ × Find)) (i : Instance ℕ) (g : Going) →
    HasBegunTrying rules s i g → IsGoing rules (class_shown s) (contents s) entries found i g
begun_going rules s entries found i (going.Value f t) (own, e) = (
  own,
  record {
    stepped = e.stepped;
    passed = e.passed found;
    takes = takes_none rules (contents s) found i f.value.demanded e.fresh e.unfound;
    typed = e.typed;
    kept = subst (AreValued entries) (sym e.fresh) (none_kept entries);
  },
)
begun_going rules s entries found i (going.Formula b p) (some, e) = (
  some,
  record {
    passed = e.passed found;
    takes = takes_none rules (contents s) found i b.value.demanded e.fresh e.unfound;
    typed = e.typed;
    kept = subst (AreValued entries) (sym e.fresh) (none_kept entries);
  },
)
