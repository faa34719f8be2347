-- The last one has a value since, at a level that is no search: it goes off the chain, and the one that waited for it is the last; or it is the answer.
use Rattle.std.proofs.Common.{◌≡◌, ◌⊎◌, ℕ, List, [], ◌∷◌, ◌++◌, Some, None, Ok, inl, inr, refl, sym, ap, ◌∙◌, subst}
use Rattle.std.specs.Prelude.{IsSome}
use Rattle.std.specs.Map.{keys_of}
use Rattle.std.specs.declared.alloc.AllocError.{AllocError}
use Rattle.at_model.specs.Meaning as plain
use Rattle.at_model.specs.Meaning.{Among, Equations, Finds, Outcomes}
use Rattle.at_model.specs.Rules.{Rules, start_of}
use Rattle.at_model.specs.Run.{Value, Instance, Contents}
use Rattle.at_model.specs.Turning as chain
use Rattle.at_model.specs.Turning.{IsOn as ChainIsOn, IsOneMore, Turned as ChainTurned, UnderWay, asked, keys}
use Rattle.at_model.specs.of_fixpoints.Fixpoints.{EndsSo, HasValue, Made}
use Rattle.at_model.specs.of_fixpoints.Formulas as formula
use Rattle.at_model.specs.of_fixpoints.Resting.{Comes}
use Rattle.at_model.specs.of_fixpoints.Searched.{IsWhole}
use Rattle.at_model.specs.of_fixpoints.Searching.{IsValued, Search, Turned}
use Rattle.at_model.proofs.of_formulas.UniqueOutcomes.{once}
use Rattle.at_model.proofs.of_machines.Bounded.{stays_on as chain_stays}
use Rattle.at_rules.specs.Circular.{HasNoneCircular}
use Rattle.at_store.specs.Shown.{Shown, contents}
use Rattle.at_cache.specs.Kept.{Entries}
use Rattle.at_search.specs.Recorded.{AreFacts, IsRecordedForm}
use Rattle.at_search.specs.declared.ended.Formed.{Formed}
use Rattle.at_demand.proofs.of_levels.Followed.{followed_off}
use Rattle.at_demand.specs.declared.answer.Answer.{Answer as AnswerCode}
use Rattle.at_demand.specs.declared.evaluation.Find.{Find}
use Rattle.at_demand.specs.declared.question.Question.{Question}
use Rattle.at_demand.specs.declared.trying.Trying.{Trying}
use Rattle.at_demand.specs.Answerable.{CanTurn}
use Rattle.at_demand.specs.ChainSteps.{IsUnchanged}
use Rattle.at_demand.specs.Covering.{AreWhole, Extends}
use Rattle.at_demand.specs.Known.{FoundKept, IsFound, answer_view}
use Rattle.at_evaluate.specs.Valued.{IsKept, KeepsEntries, equations, kept_values, meaning}
use Rattle.at_demand.specs.KeptTrials.{AreTrials, FitAt}
use Rattle.at_demand.specs.Levels.{AreFactsOf, IsFormOf, IsUsed, StandsFor, asked_by, known_to, level_of, levels_of, root_in}
use Rattle.at_evaluate.specs.Meant.{AreRightValues}
use Rattle.at_demand.specs.Only.{AreLean}
use Rattle.at_demand.specs.Searches.{TurnsBy}
use Rattle.at_demand.specs.Sound.{AreSound}
use Rattle.at_demand.specs.Worth.{AreSettled}
use Rattle.at_demand.specs.Turns.{HaveMet, IsSparingTurns, IsStanding, found_of, passed_of, under_way}
use Rattle.at_body.specs.Typed.{class_shown}
use Rattle.at_evaluate.proofs.Entered.{is_there, kept_on, there, value_on}
use Rattle.at_demand.proofs.Extending.{get_more}
use Rattle.at_demand.proofs.Standing.{asked_typed, last_led, plain_holds}
use Rattle.at_demand.proofs.Turned.{last_two, with_view}
use Rattle.at_demand.proofs.of_levels.LevelOver.{known_as_found}
use Rattle.at_demand.proofs.of_levels.PlainLevel.{plain_level}
use Rattle.at_demand.proofs.of_searches.Reaching.{asked_at}
use Rattle.at_demand.proofs.of_levels.Resolving.{still_known}
use Rattle.at_demand.proofs.of_searches.Returning.{with_level}
use Rattle.at_demand.proofs.Fitting.{more_trials}
use Rattle.at_demand.proofs.of_levels.Wholes.{fresh_on, stays_on, whole_led}
use Rattle.at_demand.proofs.of_steps.Ascending.{below_pop, ends_found, found_so, risen, rises_found, search_is, stands_risen, start_is, waited}
use Rattle.at_demand.proofs.of_steps.Counted.{StandsSo}
use Rattle.at_demand.proofs.of_steps.Met.{have_more, met_more, met_pop}
use Rattle.at_demand.proofs.of_steps.PlainComes.{comes_on, ends_value}
use Rattle.at_demand.proofs.of_steps.TriedGains.{found_key}
use Rattle.at_demand.proofs.of_steps.TriedOn.{kept_known, search_at, sound_at}
use Rattle.at_demand.proofs.of_steps.Unchanged.{way_stays}

abbrev with_find : Find → Instance ℕ → Instance ℕ × Find
with_find f i = (i, f)

again : (look : Contents ℕ) (equation : Equations ℕ) (q : Instance ℕ) (u : UnderWay ℕ) → ChainIsOn look equation q u → ChainIsOn look equation (asked u) u
again look equation q u on = subst (λ x. ChainIsOn look equation x u) (sym on.starts) on

same_value : (v w : Value ℕ) → Finds v ≡ Finds w → v ≡ w
same_value v w e = cc

no_answer : (a : AnswerCode) → Some a ≡ None → ⊥
no_answer a e = cc

-- What a try for a value has come to, over what was kept: all to which the last one comes is kept, or was found.
pub record HasValued (rules : Rules) (s : Shown) (entries : Entries) (q : Question) (v : Value ℕ) : Type 0 where
  pub turn : CanTurn rules s entries q
  pub none : start_of rules q.inst.attribute ≡ None
  pub has : HasValue (contents s) (meaning rules) q.inst v
  pub ready : (j : Instance ℕ) → Comes (contents s) (meaning rules) q.inst j → IsKept entries j ⊎ IsFound q.found.entries j

module _ (rules : Rules) (s : Shown) (before after : Entries) (old new : Question) (v : Value ℕ) (b : HasValued rules s before old v)
    (keeps : KeepsEntries before after) where
  st : IsStanding rules s before old
  st = let turn = b.turn in turn.standing

  sound : AreSound rules s before
  sound = sound_at rules s before old b.turn

  ends_so : EndsSo (contents s) (meaning rules) old.inst (Made (formula.Known v))
  ends_so = ends_value rules (contents s) old.inst v b.none b.has

  has_plainly : HasNoneCircular rules → plain.HasValue (contents s) (equations rules) old.inst v
  has_plainly none = plain_holds rules none (contents s) old.inst (Finds v) b.has

  pub level : old.level ≡ None
  level = let (u, x) = search_at rules s before old b.turn in plain_level rules s before old u x b.none

  ready_known : (j : Instance ℕ) → IsKept before j ⊎ IsFound old.found.entries j → IsSome (known_to before old j)
  ready_known j (inl k) = kept_known before old.found.entries j k
  ready_known j (inr f) = known_as_found before old.found.entries j f

  -- for the search all of it is known, whatever was kept at first
  ready_for : (first : Entries) (u : Search ℕ) → ((i : Instance ℕ) (w : Value ℕ) → known_to before old i ≡ Some w →
      (kept_values first i ≡ Some w) ⊎ Among (found_so i w) u.told) → (j : Instance ℕ) → Comes (contents s) (meaning rules) old.inst j →
      IsValued (kept_values first) u.told j
  ready_for first u since j c = let (w, e) = there (known_to before old j) (ready_known j (b.ready j c)) in (w, since j w e)

  -- and so it is for the chain
  ready_plainly : HasNoneCircular rules → (j : Instance ℕ) → plain.Comes (contents s) (equations rules) old.inst j →
      ((w : Value ℕ) × (kept_values before j ≡ Some w)) ⊎ Among j (keys (found_of old.found.entries ++ passed_of old.passed.entries))
  ready_plainly none j c = elim (b.ready j (comes_on rules (contents s) none old.inst j c)) [
    | inl k ↦ inl (there (kept_values before j) k)
    | inr f ↦ inr (found_key old j f)
  ]

  -- It is the answer.
  module _ (r : IsUnchanged old new) (alone : old.waiting.entries ≡ []) where
    pub first_is : asked_by old ≡ old.inst
    first_is = ap (λ ws. asked_at ws old.level old.inst) alone ∙ ap (λ d. root_in d old.inst) level

    ends : (first : Entries) (u : Search ℕ) → StandsFor rules s before old u → ((i : Instance ℕ) (w : Value ℕ) → known_to before old i ≡ Some w →
        (kept_values first i ≡ Some w) ⊎ Among (found_so i w) u.told) →
        Turned (contents s) (meaning rules) (kept_values first) u u (Some (Outcomes (Finds v)))
    ends first u x since =
        let is = search_is u old.inst [] (x.is.last ∙ ap (λ d. level_of old.inst d) level) (x.is.below ∙ ap (λ ws. levels_of ws) alone) in
        subst (λ z. Turned (contents s) (meaning rules) (kept_values first) z z (Some (Outcomes (Finds v)))) (sym is)
        (ends_found (contents s) (meaning rules) (kept_values first) old.inst v u.ended u.told b.has ends_so (ready_for first u since))

    chain_ends : HasNoneCircular rules → ChainTurned (contents s) (equations rules) (kept_values before) (under_way old) (under_way new)
        (Some (Outcomes (Finds v)))
    chain_ends none = subst (λ u. ChainTurned (contents s) (equations rules) (kept_values before) (under_way old) u (Some (Outcomes (Finds v))))
        (sym (way_stays rules s before old new r)) (chain.finds v (ap keys_of alone) (has_plainly none) (inr (ready_plainly none)))

    pub turns_answered : (a : AnswerCode) → answer_view a ≡ Outcomes (Finds v) → TurnsBy {E = AllocError} rules s before after old new (Ok (Some a))
    turns_answered a is = record {
      plainly = λ none. subst (λ z. ChainTurned (contents s) (equations rules) (kept_values before) (under_way old) (under_way new) (Some z)) (sym is) (chain_ends none);
      searched = λ first u keep x since. (
        u,
        subst (λ z. Turned (contents s) (meaning rules) (kept_values first) u u (Some z)) (sym is) (ends first u x since),
        λ e. absurd (no_answer a e),
      );
    }

  -- It is off the chain, and was found, or came to be kept.
  module _ (waits : old.waiting.entries ≡ new.waiting.entries ++ with_level new.level new.inst ∷ []) (ended : new.ended.entries ≡ old.ended.entries)
      (counted : new.turns ≡ old.turns) (right : AreRightValues (contents s) (meaning rules) (kept_values after))
      (gained : (i : Instance ℕ) → (kept_values after i ≡ kept_values before i) ⊎ (old.inst ≡ i)) (finds : Extends old.found.entries new.found.entries)
      (known : known_to after new old.inst ≡ Some v)
      (only : (i : Instance ℕ) (w : Value ℕ) → known_to after new i ≡ Some w →
      (kept_values after i ≡ Some w) ⊎ ((known_to before old i ≡ Some w) ⊎ ((i ≡ old.inst) × (w ≡ v))))
      (more : HasNoneCircular rules → IsOneMore (old.inst, v) (found_of old.found.entries ++ passed_of old.passed.entries)
      (found_of new.found.entries ++ passed_of new.passed.entries)) where
    values_now : (u : Search ℕ) → StandsFor rules s before old u → AreRightValues (contents s) (meaning rules) (known_to after new)
    values_now u x i w e = elim (only i w e) [
      | inl k ↦ right i w k
      | inr d ↦ elim d [
        | inl k ↦ (let facts = x.facts in facts.values i w k)
        | inr (same, is) ↦ subst (λ z. HasValue (contents s) (meaning rules) i z) (sym is) (subst (λ j. HasValue (contents s) (meaning rules) j v) (sym same) b.has)
      ]
    ]

    still : (u : Search ℕ) → StandsFor rules s before old u → (i : Instance ℕ) (w : Value ℕ) → known_to before old i ≡ Some w → known_to after new i ≡ Some w
    still u x i w e = by (there (known_to after new i) (known_on i (is_there (known_to before old i) w e)))
      where
        known_on : (j : Instance ℕ) → IsSome (known_to before old j) → IsSome (known_to after new j)
        known_on = let (rest, grown) = finds in still_known before after old new keeps rest grown

        by : ((z : Value ℕ) × (known_to after new i ≡ Some z)) → known_to after new i ≡ Some w
        by (z, g) = let facts = x.facts in
            g ∙ ap (λ k. Some k) (sym (same_value w z (once (contents s) (meaning rules) i (Finds w) (Finds z) (facts.values i w e) (values_now u x i z g))))

    -- what is known is whole
    wholes_now : (u : Search ℕ) → StandsFor rules s before old u → (i : Instance ℕ) → IsSome (known_to after new i) → IsWhole (contents s) (meaning rules) i
    wholes_now u x i some = by (there (known_to after new i) some)
      where
        of_inst : i ≡ old.inst → IsWhole (contents s) (meaning rules) i
        of_inst same = subst (λ j. IsWhole (contents s) (meaning rules) j) (sym same) (
            let turn = b.turn in
            let basis = turn.answerable.basis in
            whole_led rules s basis.idle basis.formed basis.sound (asked_by old) (asked_typed rules s basis before old sound st) old.inst v
            (last_led rules s basis before old sound st) b.has)

        of_kept : (w : Value ℕ) → kept_values after i ≡ Some w → IsWhole (contents s) (meaning rules) i
        of_kept w k = elim (gained i) [
          | inl e ↦ (let facts = x.facts in facts.wholes i (kept_known before old.found.entries i (is_there (kept_values before i) w (sym e ∙ k))))
          | inr e ↦ of_inst (sym e)
        ]

        by : ((w : Value ℕ) × (known_to after new i ≡ Some w)) → IsWhole (contents s) (meaning rules) i
        by (w, e) = elim (only i w e) [
          | inl k ↦ of_kept w k
          | inr d ↦ elim d [
            | inl k ↦ (let facts = x.facts in facts.wholes i (is_there (known_to before old i) w k))
            | inr p ↦ of_inst p.0
          ]
        ]

    used_on : (d : Formed) (j : Instance ℕ) → IsUsed old.found.entries d j → IsUsed new.found.entries d j
    used_on d j (inl a) = inl a
    used_on d j (inr (p, f, a, at)) = inr (p, f, a, get_more old.found.entries new.found.entries p (with_find f j) finds at)

    form_on : (i : Instance ℕ) (d : Formed) → IsFormOf rules (contents s) before old.found.entries i d → IsFormOf rules (contents s) after new.found.entries i d
    form_on i d y = record {
      reads = y.reads;
      demands = λ j z. used_on d j (y.demands j z);
      sees = y.sees;
      kept = λ j a. let (k, l) = y.kept j a in (kept_on before after keeps j k, l);
      finds = λ p a. let (j, f, at, l) = y.finds p a in (j, f, get_more old.found.entries new.found.entries p (with_find f j) finds at, l);
    }

    facts_now : (u : Search ℕ) → StandsFor rules s before old u → AreFactsOf rules (contents s) after new
    facts_now u x = let facts = x.facts in record {
      ends = subst (λ es. AreFacts (contents s) (meaning rules) es) (sym ended) facts.ends;
      forms = λ i d a. form_on i d (facts.forms i d (subst (λ es. IsRecordedForm es i d) ended a));
      circular = λ i d a. facts.circular i d (subst (λ es. IsRecordedForm es i d) ended a);
      values = values_now u x;
      wholes = wholes_now u x;
    }

    abbrev risen_now : (u : Search ℕ) → StandsFor rules s before old u → Search ℕ
    risen_now u x = risen rules s before after old new level waits ended u x v

    -- as a turn of the search, whatever was kept at first
    rises : (first : Entries) (u : Search ℕ) (x : StandsFor rules s before old u) → ((i : Instance ℕ) (w : Value ℕ) → known_to before old i ≡ Some w →
        (kept_values first i ≡ Some w) ⊎ Among (found_so i w) u.told) → Turned (contents s) (meaning rules) (kept_values first) u (risen_now u x) None
    rises first u x since = subst (λ z. Turned (contents s) (meaning rules) (kept_values first) z (risen_now u x) None)
        (sym (start_is rules s before after old new level waits ended u x))
        (rises_found (contents s) (meaning rules) (kept_values first) old.inst v u.ended u.told b.has ends_so (ready_for first u since)
        (level_of new.inst new.level) (levels_of new.waiting.entries))

    stands : (u : Search ℕ) (x : StandsFor rules s before old u) → StandsFor rules s after new (risen_now u x)
    stands u x =
        let turn = b.turn in
        let basis = turn.answerable.basis in
        let typed = asked_typed rules s basis before old sound st in
        let turned = rises before u x x.is.known in
        stands_risen rules s before after old new level waits ended u x v known (still u x) (told_now u x) (spent_now u x) (facts_now u x) counted
        (stays_on rules s basis.idle basis.formed basis.sound (asked_by old) typed (kept_values before) sound.right u (risen_now u x) x.on turned)
        (fresh_on rules s basis.idle basis.formed basis.sound (asked_by old) typed (kept_values before) sound.right u (risen_now u x) x.on x.fresh turned)
      where
        told_now : (u : Search ℕ) (x : StandsFor rules s before old u) → (i : Instance ℕ) (w : Value ℕ) → known_to after new i ≡ Some w →
            (kept_values after i ≡ Some w) ⊎ Among (found_so i w) (found_so old.inst v ∷ u.told)
        told_now u x i w e = elim (only i w e) [
          | inl k ↦ inl k
          | inr d ↦ elim d [
            | inl k ↦ elim (x.is.known i w k) [ inl y ↦ inl (value_on before after keeps i w y) | inr a ↦ inr (inr a) ]
            | inr (same, is) ↦ inr (inl (ap (λ j. found_so j w) same ∙ ap (λ z. found_so old.inst z) is))
          ]
        ]

        spent_now : (u : Search ℕ) (x : StandsFor rules s before old u) → (i : Instance ℕ) → IsSome (known_to after new i) → IsKept after i ⊎ Among i (old.inst ∷ u.ended)
        spent_now u x i some = by (there (known_to after new i) some)
          where
            by : ((w : Value ℕ) × (known_to after new i ≡ Some w)) → IsKept after i ⊎ Among i (old.inst ∷ u.ended)
            by (w, e) = elim (only i w e) [
              | inl k ↦ inl (is_there (kept_values after i) w k)
              | inr d ↦ elim d [
                | inl k ↦ elim (x.is.spent i (is_there (known_to before old i) w k)) [ inl y ↦ inl (kept_on before after keeps i y) | inr a ↦ inr (inr a) ]
                | inr (same, is) ↦ inr (inl same)
              ]
            ]

    -- as one of the chain
    chained : HasNoneCircular rules → ChainTurned (contents s) (equations rules) (kept_values before) (under_way old) (under_way new) None
    chained none = chain.ascends (keys_of new.waiting.entries) new.inst v (found_of new.found.entries ++ passed_of new.passed.entries)
        (last_two old.waiting.entries new.waiting.entries new.inst new.level waits) (has_plainly none) (inr (ready_plainly none)) (more none)

    pub turns_risen : TurnsBy {E = AllocError} rules s before after old new (Ok None)
    turns_risen = record {
      plainly = chained;
      searched = λ first u keep x since. (risen_now u x, rises first u x since, λ e. stands u x);
    }

    pub stands_so : FoundKept after new.found.entries → ((i : Instance ℕ) (w : Value ℕ) → Among (with_view w i) (passed_of new.passed.entries) →
        kept_values after i ≡ Some w) → AreWhole rules (contents s) new.found.entries → StandsSo rules s after new
    stands_so took passed whole = record {
      plainly = λ none. let p = st.plainly none in
          record {
            ended = ended ∙ p.ended;
            level = p.levels new.inst new.level (waited rules s before after old new level waits ended new.inst new.level (inl refl));
            levels = λ i l h. p.levels i l (waited rules s before after old new level waits ended i l (inr h));
            on = again (contents s) (equations rules) (asked (under_way old)) (under_way new)
                (chain_stays (contents s) (equations rules) (asked (under_way old)) (under_way old) p.on (kept_values before) (under_way new) None (chained none));
          };
      kept = took;
      passed = passed;
      whole = whole;
    }

    -- it spares still
    pub spares_risen : AreLean rules (contents s) new.found.entries → AreSettled rules after new.found.entries →
        IsSparingTurns rules (contents s) before old → IsSparingTurns rules (contents s) after new
    spares_risen lean settled z = record {
      lean = lean;
      settled = settled;
      met = have_more rules (contents s) before after old.found.entries new.found.entries (met_more before after keeps old.found.entries new.found.entries finds)
          new.waiting.entries (root_in new.level new.inst)
          (met_pop rules (contents s) before old.found.entries new.waiting.entries (with_level new.level new.inst) (root_in old.level old.inst)
          (subst (λ ws. HaveMet rules (contents s) before old.found.entries ws (root_in old.level old.inst)) waits z.met));
      followed = followed_off rules (contents s) before after old new keeps finds (λ j k. subst (λ es. Among j
          (keys_of es)) (sym ended) k)
          (λ j k. subst (λ es. Among j (keys_of es)) ended k)
          (below_pop rules s before after old new level waits ended) z.followed;
    }

    -- the trials are those of the ones that wait, and the one that is the last now
    pub fit_risen : (frames : List Trying) → FitAt rules s before old frames None → FitAt rules s after new frames (Some old.inst)
    fit_risen frames fit = subst (λ ws. AreTrials rules (class_shown s) (contents s) after new.found.entries ws old.inst frames) waits
        (subst (λ r. AreTrials rules (class_shown s) (contents s) after new.found.entries old.waiting.entries r frames) (ap (λ d. root_in d old.inst) level)
        (more_trials rules (class_shown s) (contents s) before after keeps old.found.entries new.found.entries finds old.waiting.entries
        (root_in old.level old.inst) frames fit))
