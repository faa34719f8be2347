-- What a try of the last one lets come to what is kept: no more than a turn may.
use Rattle.std.proofs.Common.{◌≡◌, ◌⊎◌, ℕ, zero, suc, true, List, [], ◌∷◌, ◌++◌, slice_get, Some, None, Result, inl, inr, sym, ap, subst, append-nil}
use Rattle.std.specs.Prelude.{IsSome}
use Rattle.std.specs.declared.alloc.AllocError.{AllocError}
use Rattle.at_model.specs.Meaning.{Among, Finds, Outcome}
use Rattle.at_model.specs.Rules.{Rules, is_lazy}
use Rattle.at_model.specs.Run.{Value, Instance}
use Rattle.at_model.specs.Turning.{keys}
use Rattle.at_model.specs.of_fixpoints.Fixpoints.{HasValue}
use Rattle.at_model.specs.of_fixpoints.Resting.{Leads}
use Rattle.at_model.specs.of_fixpoints.Searching.{Level, Search, under}
use Rattle.at_model.proofs.Listed.{among_left}
use Rattle.at_model.proofs.Reached.{either_among}
use Rattle.at_model.proofs.of_machines.Bounded.{keys_both}
use Rattle.at_rules.specs.Circular.{HasNoneCircular}
use Rattle.at_store.specs.Shown.{Shown, contents}
use Rattle.at_body.specs.Values.{value_view}
use Rattle.at_body.specs.declared.value.Value.{Value as ValueCode}
use Rattle.at_cache.specs.Kept.{Entries}
use Rattle.at_cache.specs.Traced.{Memories}
use Rattle.at_demand.specs.declared.evaluation.Find.{Find}
use Rattle.at_demand.specs.declared.question.Question.{Question}
use Rattle.at_demand.specs.declared.trials.Trials.{Trials}
use Rattle.at_demand.specs.declared.trying.Going.{Going}
use Rattle.at_demand.specs.declared.trying.Tried.{Tried}
use Rattle.at_demand.specs.InTurns.{PutsInTurns}
use Rattle.at_demand.specs.Answered.{GainsAtMost}
use Rattle.at_demand.specs.Known.{IsFound, found_values, AreThere}
use Rattle.at_evaluate.specs.Valued.{IsKept, kept_values, meaning}
use Rattle.at_demand.specs.Levels.{StandsFor, asked_by, known_to, level_of}
use Rattle.at_evaluate.specs.Right.{AreRight, IsThere}
use Rattle.at_demand.specs.Searches.{GainsBetween, WasSeenBy}
use Rattle.at_evaluate.specs.Sparing.{IsWorthy}
use Rattle.at_demand.specs.Worth.{MayGain}
use Rattle.at_demand.specs.Tries.{HasCarriedOn}
use Rattle.at_demand.specs.Turns.{GainsInChain, IsStanding, MayComeIn, found_of, passed_of, under_way}
use Rattle.at_evaluate.proofs.Entered.{entered, entered_on, is_there, kept_on, there, valued_on}
use Rattle.at_evaluate.proofs.LeadingOn.{leads_on}
use Rattle.at_demand.proofs.Standing.{last_led}
use Rattle.at_evaluate.proofs.There.{led_there}
use Rattle.at_demand.proofs.of_levels.CameBetween.{others_before, value_found}
use Rattle.at_demand.proofs.of_levels.GainedBetween.{gains_then}
use Rattle.at_demand.proofs.of_levels.LevelOver.{known_as_found}
use Rattle.at_demand.proofs.of_levels.Resolving.{either_known}
use Rattle.at_demand.proofs.of_steps.TriedOn.{answerable_at, held_at, kept_known, sound_at, standing_at, stands_at, turn_at}
use Rattle.at_demand.proofs.of_steps.TryUnderWay.{IsTrying}

abbrev with_outcome : Outcome ℕ → Instance ℕ → Instance ℕ × Outcome ℕ
with_outcome o i = (i, o)

abbrev with_value : Value ℕ → Instance ℕ → Instance ℕ × Value ℕ
with_value v i = (i, v)

abbrev with_find : Find → Instance ℕ → Instance ℕ × Find
with_find f i = (i, f)

-- what was found is a key of what a chain has found
keys_found : (fs : List (Instance ℕ × Find)) (p : ℕ) (i : Instance ℕ) (f : Find) → slice_get fs p ≡ Some (with_find f i) → Among i (keys (found_of fs))
keys_found [] p i f at = absurd cc
keys_found (e ∷ es) zero i f at = let same : e ≡ with_find f i = cc in inl (sym (ap (λ (x : Instance ℕ × Find). x.0) same))
keys_found (e ∷ es) (suc p) i f at = inr (keys_found es p i f at)

pub found_key : (q : Question) (i : Instance ℕ) → IsFound q.found.entries i → Among i (keys (found_of q.found.entries ++ passed_of q.passed.entries))
found_key q i (p, f, at) = subst (Among i) (sym (keys_both (found_of q.found.entries) (passed_of q.passed.entries)))
    (among_left i (keys (found_of q.found.entries)) (keys (passed_of q.passed.entries)) (keys_found q.found.entries p i f at))

-- and all that stands there is known
key_found : (fs : List (Instance ℕ × Find)) (i : Instance ℕ) → Among i (keys (found_of fs)) → IsFound fs i
key_found [] i h = absurd h
key_found (e ∷ es) i (inl same) = (zero, e.1, ap (λ k. Some (with_find e.1 k)) (sym same))
key_found (e ∷ es) i (inr h) = let (p, f, at) = key_found es i h in (suc p, f, at)

key_passed : (ps : List (Instance ℕ × ValueCode)) (i : Instance ℕ) → Among i (keys (passed_of ps)) → (v : Value ℕ) × Among (with_value v i) (passed_of ps)
key_passed [] i h = absurd h
key_passed (e ∷ es) i (inl same) = (value_view e.1, inl (ap (λ k. with_value (value_view e.1) k) same))
key_passed (e ∷ es) i (inr h) = let (v, a) = key_passed es i h in (v, inr a)

pub known_key : (rules : Rules) (s : Shown) (entries : Entries) (q : Question) → IsStanding rules s entries q → (i : Instance ℕ) →
    Among i (keys (found_of q.found.entries ++ passed_of q.passed.entries)) → IsSome (known_to entries q i)
known_key rules s entries q st i a = elim (either_among i (keys (found_of q.found.entries)) (keys (passed_of q.passed.entries))
    (subst (Among i) (keys_both (found_of q.found.entries) (passed_of q.passed.entries)) a)) [
      | inl b ↦ known_as_found entries q.found.entries i (key_found q.found.entries i b)
      | inr b ↦ (let (v, p) = key_passed q.passed.entries i b in kept_known entries q.found.entries i (is_there (kept_values entries i) v (st.passed i v p)))
    ]

-- it may come in a turn of the search
may : (rules : Rules) (s : Shown) (entries : Entries) (q : Question) (u : Search ℕ) → StandsFor rules s entries q u → (i : Instance ℕ) → WasSeenBy q i →
    MayComeIn u i
may rules s entries q u st i (inl a) = inl (subst (λ (d : Level ℕ). Among i (under (d ∷ u.below))) (sym st.is.last)
    (subst (λ (ls : List (Level ℕ)). Among i (under (level_of q.inst q.level ∷ ls))) (sym st.is.below) a))
may rules s entries q u st i (inr k) = inr (st.is.recorded i k)

-- what was found is told, where it isn't kept
was_found : (rules : Rules) (s : Shown) (before last : Entries) (old : Question) (u : Search ℕ) → StandsFor rules s before old u → (i : Instance ℕ) →
    ((v : Value ℕ) × (known_to before old i ≡ Some v)) →
    IsSome (before i) ⊎ (IsKept last i ⊎ (((o : Outcome ℕ) × Among (with_outcome o i) u.told) ⊎ MayComeIn u i))
was_found rules s before last old u st i (v, e) = elim (st.is.known i v e) [
  | inl k ↦ inl (entered before i (is_there (kept_values before i) v k))
  | inr a ↦ inr (inr (inl (Finds v, a)))
]

-- what came between two tries is no more than a turn may let come
module _ {Whole : Type 0} (rules : Rules) (s : Shown) (before last : Entries) (f l : Memories) (w y : ℕ) (old any : Question)
    (b : GainsBetween rules s before last f l w y old any Whole) where
  pub at_most : (HasNoneCircular rules → GainsInChain rules before last (under_way old)) → GainsAtMost rules s before last w y old Whole
  at_most chain = record {
    right = b.right;
    stays = b.there;
    plain = b.plain;
    last = record {
      plainly = chain;
      searched = λ u st. record {
        last = λ i. elim (b.last i) [ inl e ↦ inl e | inr d ↦ inr (may rules s before old u st i d.0, d.1, d.2) ];
        others = λ i some. elim (others_before rules s before last f l w y old any b i some) [
          | inl a ↦ inl a
          | inr d ↦ elim d [
            | inl k ↦ inr (inl k)
            | inr e ↦ elim e [
              | inl found ↦ was_found rules s before last old u st i (there (known_to before old i) (known_as_found before old.found.entries i found))
              | inr seen ↦ inr (inr (inr (may rules s before old u st i seen)))
            ]
          ]
        ];
      };
    };
    worthy = b.worthy;
    spare = λ whole spare z. b.spare whole spare z.lean z.settled;
    counts = b.counts;
  }

module _ (rules : Rules) (s : Shown) (before mid last : Entries) (f m l : Memories) (w x y : ℕ) (old q : Question) (t : Trials) (g : Going)
    (c : IsTrying rules s before mid f m w x old q t g) (r : Result Tried AllocError)
    (h : HasCarriedOn {E = AllocError} rules s mid last x y q.found.entries q.inst r) (traced : PutsInTurns m l) where
  grows : MayGain rules q.found.entries mid last q.inst
  grows = h.gains

  led : Leads (contents s) (meaning rules) (asked_by q) q.inst
  led =
      let answerable = answerable_at rules s before mid f m w x old q t g c in
      last_led rules s answerable.basis mid q (sound_at rules s mid q (turn_at rules s before mid f m w x old q t g c))
      (standing_at rules s before mid f m w x old q t g c)

  found_there : IsThere s (asked_by q) → AreRight rules s mid → AreThere rules s q.found.entries
  found_there asked right i found = by (there (known_to mid q i) (known_as_found mid q.found.entries i found))
    where
      place : IsKept mid i ⊎ Leads (contents s) (meaning rules) (asked_by q) i → IsThere s i
      place (inl k) = let (z, at) = there (mid i) (entered mid i k) in right.there i z at
      place (inr d) =
          let answerable = answerable_at rules s before mid f m w x old q t g c in
          led_there rules s answerable.basis.idle (asked_by q) i asked d

      by : ((v : Value ℕ) × (known_to mid q i ≡ Some v)) → IsThere s i × ((v : Value ℕ) × HasValue (contents s) (meaning rules) i v)
      by (v, e) =
          let (u, st) = stands_at rules s before mid f m w x old q t g c in
          let facts = st.facts in
          (place (held_at rules s before mid f m w x old q t g c i (is_there (known_to mid q i) v e)), (v, facts.values i v e))

  seen_last : (i : Instance ℕ) → q.inst ≡ i → WasSeenBy q i
  seen_last i e = inl (inl (sym e))

  came : (i : Instance ℕ) → IsSome (known_to last q i) → IsSome (known_to mid q i) ⊎ WasSeenBy q i
  came i k = elim (either_known (kept_values last i) (found_values q.found.entries i) k) [
    | inl a ↦ elim (grows.lazy i) [
      | inl e ↦ inl (kept_known mid q.found.entries i (subst IsSome e a))
      | inr d ↦ inr (seen_last i d.0)
    ]
    | inr a ↦ inl (known_as_found mid q.found.entries i (value_found q.found.entries i a))
  ]

  worth : (i : Instance ℕ) → kept_values mid i ≡ None → IsKept last i → IsWorthy rules (contents s) (asked_by q) i
  worth i none some =
      let worthy = h.worthy in
      let z = worthy.worthy i none some in
      record { reached = leads_on (contents s) (meaning rules) (asked_by q) q.inst i led z.reached; lazy = z.lazy; value = z.value; has = z.has }

  -- of the try itself
  pub carried : {Whole : Type 0} → GainsBetween rules s mid last m l x y q q Whole
  carried = record {
    stays = grows.stays;
    finds = ([], sym (append-nil q.found.entries));
    right = h.right;
    there = λ asked right.
        let answerable = answerable_at rules s before mid f m w x old q t g c in
        h.stays (led_there rules s answerable.basis.idle (asked_by q) q.inst asked led) (found_there asked right) right;
    plain = h.plain;
    sound = λ z. record { whole = z.whole; took = λ i d e. valued_on mid last grows.stays d.demanded.kept.items (z.took i d e) };
    came = came;
    last = λ i. elim (grows.lazy i) [
      | inl e ↦ inl e
      | inr d ↦ inr (seen_last i d.0, d.1, subst (λ (j : Instance ℕ). is_lazy rules j.attribute ≡ true) d.0 d.2)
    ];
    others = λ i some. elim (grows.comes i some) [
      | inl a ↦ inl a
      | inr d ↦ elim d [ inl e ↦ inr (inl e.1) | inr found ↦ inr (inr found) ]
    ];
    worthy = record { stays = grows.stays; worthy = worth };
    spare = λ whole spare lean settled. h.spare spare lean settled;
    lean = λ z. z;
    settled = λ z p i d e. let y = z p i d e in
        record { lazy = λ a. kept_on mid last grows.stays i (y.lazy a); took = λ j a. entered_on mid last grows.stays j (y.took j a) };
    counts = h.counts;
    traces = traced;
  }

  -- and of all since the turn began
  pub carried_all : {Whole : Type 0} → GainsBetween rules s before last f l w y old q Whole
  carried_all = gains_then rules s before mid last f m l w x y old q q c.gains carried c.asked c.levels c.ended

  in_chain : HasNoneCircular rules → GainsInChain rules before last (under_way old)
  in_chain none = let (same, kept) = c.plainly none in
      subst (λ es. GainsInChain rules es last (under_way old)) kept (subst (λ p. GainsInChain rules mid last (under_way p)) same (record {
        last = grows.lazy;
        others = λ i some. elim (grows.comes i some) [
          | inl a ↦ inl a
          | inr d ↦ elim d [ inl e ↦ inr (inl e.1) | inr found ↦ inr (inr (found_key q i found)) ]
        ];
      }))

  pub carried_most : {Whole : Type 0} → GainsAtMost rules s before last w y old Whole
  carried_most = at_most rules s before last f l w y old q carried_all in_chain

-- nothing came where no attribute is circular
pub chain_idle : (rules : Rules) (before last : Entries) (q : Question) → last ≡ before → GainsInChain rules before last (under_way q)
chain_idle rules before last q same = record {
  last = λ j. inl (ap (λ (es : Entries). kept_values es j) same);
  others = λ j some. inl (subst (λ (es : Entries). IsSome (es j)) same some);
}
