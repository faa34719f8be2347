-- What becomes of what is kept and found as one find's value is kept, or the find comes to those that were found.
use Rattle.std.proofs.Common.{◌≡◌, ◌⊎◌, ℕ, true, List, [], ◌∷◌, ◌++◌, Option, Some, None, inl, inr, refl, sym, ap, ◌∙◌, subst, append-nil}
use Rattle.std.proofs.lemmas.Option.{same_Some}
use Rattle.std.specs.Prelude.{IsSome}
use Rattle.std.specs.Map.{keys_of, lookup}
use Rattle.std.specs.Option.{option_map}
use Rattle.at_model.specs.Run.{Value, Instance, Contents}
use Rattle.at_model.specs.Meaning.{Among}
use Rattle.at_model.specs.Rules.{Rules, is_lazy}
use Rattle.at_model.specs.of_fixpoints.Fixpoints.{HasValue}
use Rattle.at_model.specs.of_fixpoints.Searched.{IsWhole as IsWholeOver}
use Rattle.at_store.specs.Shown.{Shown, contents}
use Rattle.at_body.specs.Same.{same_instance}
use Rattle.at_body.specs.Values.{value_view}
use Rattle.at_cache.specs.Kept.{Entries}
use Rattle.at_cache.specs.Traced.{Memories}
use Rattle.at_search.specs.Recorded.{AreFacts, IsRecordedForm}
use Rattle.at_search.specs.declared.ended.Formed.{Formed}
use Rattle.at_demand.specs.declared.evaluation.Find.{Find}
use Rattle.at_demand.specs.declared.question.Question.{Question}
use Rattle.at_demand.specs.Covering.{AreWhole, Extends, IsWhole}
use Rattle.at_demand.specs.Groups.{IsKeptOrFound, Tells}
use Rattle.at_evaluate.specs.Valued.{AreValued, IsKept, KeepsEntries, kept_values, meaning}
use Rattle.at_demand.specs.Known.{FoundKept, found_values, known_in}
use Rattle.at_demand.specs.Levels.{AreFactsOf, IsFormOf, known_to}
use Rattle.at_evaluate.specs.Meant.{AreRightValues}
use Rattle.at_demand.specs.Only.{AreLean, IsLean}
use Rattle.at_demand.specs.Worth.{AreSettled, IsSettled}
use Rattle.at_demand.proofs.Attempted.{right_stays}
use Rattle.at_evaluate.proofs.Entered.{entered, is_there, kept_on, there, value_on}
use Rattle.at_demand.proofs.Entering.{founds_on}
use Rattle.at_demand.proofs.Extending.{get_more}
use Rattle.at_demand.proofs.Gaining.{is_kept, settled_still}
use Rattle.at_demand.proofs.Keys.{goes_last, lookup_push, no_key}
use Rattle.at_demand.proofs.OnlyLemmas.{lean_push}
use Rattle.at_demand.proofs.Passing.{whole_push}
use Rattle.at_demand.proofs.Recalling.{known_kept}
use Rattle.at_demand.proofs.of_groups.KeptOrFound.{kept_known, none_there}
use Rattle.at_demand.proofs.of_groups.Telling.{known_cases, known_found}
use Rattle.at_index.proofs.Lists.{get_push}

-- what is known is known still, where more is kept and found
pub known_still : (before after : Entries) (old new : Question) → KeepsEntries before after →
    Extends old.found.entries new.found.entries → (i : Instance ℕ) →
    IsSome (known_to before old i) → IsSome (known_to after new i)
known_still before after old new stays grows i some = elim (known_cases before old.found.entries i some) [
  | inl k ↦ kept_known after new.found.entries i (kept_on before after stays i k)
  | inr (p, f, at) ↦ known_found after new.found.entries i (
    p,
    f,
    get_more old.found.entries new.found.entries p (
      i,
      f,
    ) grows at,
  )
]

-- what an equation looked at and took stands still
pub form_still : (rules : Rules) (look : Contents ℕ) (before after : Entries) (found more : List (Instance ℕ × Find)) →
    KeepsEntries before after →
    Extends found more → (i : Instance ℕ) (f : Formed) → IsFormOf rules look before found i f →
    IsFormOf rules look after more i f
form_still rules look before after found more stays grows i f h = record {
  reads = h.reads;
  demands = λ j r. elim (h.demands j r) [
    | inl k ↦ inl k
    | inr (p, g, a, at) ↦ inr (
      p,
      g,
      a,
      get_more found more p (j, g) grows at,
    )
  ];
  sees = h.sees;
  kept = λ j a. let (k, l) = h.kept j a in (kept_on before after stays j k, l);
  finds = λ p a. let (j, g, at, l) = h.finds p a in (j, g, get_more found more p (j, g) grows at, l);
}

-- a value that is known is kept, or none is and it is that of the find that is looked up
known_value : (entries : Entries) (found : List (Instance ℕ × Find)) (i : Instance ℕ) (v : Value ℕ) →
    known_in entries found i ≡ Some v →
    (kept_values entries i ≡ Some v) ⊎
    ((kept_values entries i ≡ None) × ((f : Find) × (lookup (same_instance i) found ≡ Some f) ×
    (value_view f.value ≡ v)))
known_value entries found i v e = by (kept_values entries i) refl e
  where
    one : (x : Option Find) → lookup (same_instance i) found ≡ x → option_map (λ (f : Find). value_view f.value) x ≡
        Some v →
        (f : Find) × (lookup (same_instance i) found ≡ Some f) × (value_view f.value ≡ v)
    one None at q = absurd cc
    one (Some f) at q = (f, at, same_Some (value_view f.value) v q)

    by : (o : Option (Value ℕ)) → kept_values entries i ≡ o →
        ◌≡◌ {A = Option (Value ℕ)} (elim o [ Some w ↦ Some w | None ↦ found_values found i ]) (Some v) →
        (kept_values entries i ≡ Some v) ⊎
        ((kept_values entries i ≡ None) × ((f : Find) × (lookup (same_instance i) found ≡ Some f) ×
        (value_view f.value ≡ v)))
    by (Some w) is q = inl (is ∙ q)
    by None is q = inr (is, one (lookup (same_instance i) found) refl q)

-- and what is looked up, where none is kept, is known
known_here : (entries : Entries) (found : List (Instance ℕ × Find)) (i : Instance ℕ) (f : Find) →
    kept_values entries i ≡ None → lookup (same_instance i) found ≡ Some f →
    known_in entries found i ≡ Some (value_view f.value)
known_here entries found i f none at =
    ap (λ (o : Option (Value ℕ)). elim o as (λ _. Option (Value ℕ)) [ Some w ↦ Some w | None ↦ found_values found i ])
    none
    ∙ ap (option_map (λ (x : Find). value_view x.value)) at

module _ (rules : Rules) (s : Shown) (before after : Entries) (former latter : Memories)
    (earlier later : ℕ) (old new : Question)
    (i : Instance ℕ) (f : Find) (h : IsKeptOrFound rules before after former latter earlier later old new i f)
    (unknown : known_to before old i ≡ None) where
  abbrev pub grown : List (Instance ℕ × Find)
  grown = old.found.entries ++ (i, f) ∷ []

  -- the find comes last, and is kept where it is lazy
  abbrev pub ComesLast : Type 0
  ComesLast = (new.found.entries ≡ grown) × (is_lazy rules i.attribute ≡ true → IsKept after i)

  pub found_same : (new.found.entries ≡ old.found.entries) ⊎ ComesLast
  found_same = elim h.finds [
    | inl e ↦ inl e
    | inr (e, keeps) ↦ inr (
      e ∙
          goes_last old.found.entries i f (no_key old.found.entries i (none_there before old.found.entries i unknown)),
      keeps,
    )
  ]

  pub found_grows : Extends old.found.entries new.found.entries
  found_grows = elim found_same [
    | inl e ↦ ([], e ∙ sym (append-nil old.found.entries))
    | inr (e, keeps) ↦ (
      (i, f) ∷ [],
      e,
    )
  ]

  -- what is known now was known, or is the find's value
  abbrev pub IsNow : Instance ℕ → Value ℕ → Type 0
  IsNow j v = (known_to before old j ≡ Some v) ⊎ ((j ≡ i) × (value_view f.value ≡ v))

  value_now : (j : Instance ℕ) (v : Value ℕ) → known_to after new j ≡ Some v → IsNow j v
  value_now j v e = elim (known_value after new.found.entries j v e) [
    | inl k ↦ elim (h.adds.values j) [
      | inl same ↦ inl (known_kept before old.found.entries j v v (sym (sym same ∙ k)) refl)
      | inr (is, kept) ↦ inr (sym is, same_Some (value_view f.value) v (sym kept ∙ k))
    ]
    | inr (none, (g, at, is)) ↦ by none g at is (kept_values before j) refl
  ]
    where
      by : kept_values after j ≡ None → (g : Find) → lookup (same_instance j) new.found.entries ≡ Some g →
          value_view g.value ≡ v → (o : Option (Value ℕ)) →
          kept_values before j ≡ o → IsNow j v
      by none g at is (Some w) k = let z : Some w ≡ None = sym (value_on before after h.adds.stays j w k) ∙
          none in absurd cc
      by none g at is None k = elim found_same [
        | inl e ↦ inl (known_here before old.found.entries j g k (ap (lookup (same_instance j)) (sym e) ∙ at) ∙
            ap Some is)
        | inr (e, keeps) ↦ elim (lookup_push old.found.entries i j f g (ap (lookup (same_instance j)) (sym e) ∙ at)) [
          | inl was ↦ inl (known_here before old.found.entries j g k was ∙ ap Some is)
          | inr (one, same) ↦ inr (one, ap (λ (x : Find). value_view x.value) same ∙ is)
        ]
      ]

  pub told_now : (j : Instance ℕ) → IsSome (known_to after new j) → IsSome (known_to before old j) ⊎ (j ≡ i)
  told_now j some =
      let (v, e) = there (known_to after new j) some in
      elim (value_now j v e) [ inl was ↦ inl (is_there (known_to before old j) v was) | inr (one, is) ↦ inr one ]

  -- what holds of each find that was there, and of this one, holds of all
  module _ (look : Contents ℕ) where
    pub whole_now : IsWhole rules look old.found.entries i f → AreWhole rules look old.found.entries →
        AreWhole rules look new.found.entries
    whole_now one all = elim found_same [
      | inl e ↦ subst (AreWhole rules look) (sym e) all
      | inr (e, keeps) ↦ subst (AreWhole rules look) (sym e) (whole_push rules look old.found.entries i f all one)
    ]

    pub lean_now : IsLean rules look old.found.entries i f → AreLean rules look old.found.entries →
        AreLean rules look new.found.entries
    lean_now one all = elim found_same [
      | inl e ↦ subst (AreLean rules look) (sym e) all
      | inr (e, keeps) ↦ subst (AreLean rules look) (sym e) (lean_push rules look old.found.entries i f all one)
    ]

  took_now : AreValued before f.demanded.kept.items → FoundKept before old.found.entries →
      FoundKept after new.found.entries
  took_now one all j g e = elim found_same [
    | inl same ↦ founds_on before after h.adds.stays old.found.entries all j g
        (ap (lookup (same_instance j)) (sym same) ∙ e)
    | inr (same, keeps) ↦ elim (lookup_push old.found.entries i j f g (ap (lookup (same_instance j)) (sym same) ∙ e)) [
      | inl was ↦ founds_on before after h.adds.stays old.found.entries all j g was
      | inr (is, also) ↦ subst (λ (x : Find). AreValued after x.demanded.kept.items) also
          (λ u a. kept_on before after h.adds.stays u (one u a))
    ]
  ]

  settled_now : AreValued before f.demanded.kept.items → AreSettled rules before old.found.entries →
      AreSettled rules after new.found.entries
  settled_now one all = elim found_same [
    | inl e ↦ subst (AreSettled rules after) (sym e) still
    | inr (e, keeps) ↦ subst (AreSettled rules after) (sym e)
        (λ p j g is. elim (get_push old.found.entries (i, f) p (j, g) is) [
          | inl was ↦ still p j g was
          | inr (at, same) ↦ subst (λ (x : Instance ℕ × Find). IsSettled rules after x.0 x.1) same (record {
            lazy = keeps;
            took = λ u a. entered after u (kept_on before after h.adds.stays u (is_kept before f.demanded.kept.items u one
                a));
          })
        ])
  ]
    where
      still : AreSettled rules after old.found.entries
      still = settled_still rules (contents s) before after i old.found.entries h.gains old.found.entries all

  -- where the find is one of its instance, that is one of these, and lazy
  module _ (these : List (Instance ℕ)) (a : Among i these) (lazy : is_lazy rules i.attribute ≡ true)
      (has : HasValue (contents s) (meaning rules) i (value_view f.value))
      (whole : IsWholeOver (contents s) (meaning rules) i) (finds : AreWhole rules (contents s) old.found.entries)
      (one : IsWhole rules (contents s) old.found.entries i f)
      (lean : IsLean rules (contents s) old.found.entries i f) (valued : AreValued before f.demanded.kept.items)
      (took : FoundKept before old.found.entries)
      (right : AreRightValues (contents s) (meaning rules) (known_to before old)) where
    values_now : AreRightValues (contents s) (meaning rules) (known_to after new)
    values_now j v e = elim (value_now j v e) [
      | inl was ↦ right j v was
      | inr (same, is) ↦ subst (λ x. HasValue (contents s) (meaning rules) x v) (sym same)
          (subst (HasValue (contents s) (meaning rules) i) is has)
    ]

    facts_now : AreFactsOf rules (contents s) before old → AreFactsOf rules (contents s) after new
    facts_now all =
        let e : old.ended.entries ≡ new.ended.entries = sym (ap (λ (q : Question). q.ended.entries) h.same) in
        record {
          ends = subst (AreFacts (contents s) (meaning rules)) e all.ends;
          forms = λ j g r. form_still rules (contents s) before after old.found.entries new.found.entries h.adds.stays
              found_grows j g
              (all.forms j g (subst (λ es. IsRecordedForm es j g) (sym e) r));
          circular = λ j g r. all.circular j g (subst (λ es. IsRecordedForm es j g) (sym e) r);
          values = values_now;
          wholes = λ j some. elim (told_now j some) [
            | inl was ↦ all.wholes j was
            | inr same ↦ subst
                (IsWholeOver (contents s) (meaning rules)) (sym same) whole
          ];
        }

    -- that tells its value
    pub tells_one : Tells rules s before after former latter earlier later old new these ⊥
    tells_one = record {
      chain = record {
        waiting = ap (λ (q : Question). q.waiting.entries) h.same;
        inst = ap (λ (q : Question). q.inst) h.same;
      };
      level = ap (λ (q : Question). q.level) h.same;
      ended = ap (λ (q : Question). keys_of q.ended.entries) h.same;
      endings = λ j x e. (x, ap (λ (q : Question). lookup (same_instance j) q.ended.entries) h.same ∙ e, refl);
      passed = ap (λ (q : Question). q.passed.entries) h.same;
      turns = ap (λ (q : Question). q.turns) h.same;
      stays = h.adds.stays;
      finds = found_grows;
      told = λ j some. elim (told_now j some) [
        | inl was ↦ inl was
        | inr same ↦
            inr (subst (λ x. Among x these) (sym same) a)
      ];
      kept = λ j some. elim (h.gains.lazy j) [
        | inl e ↦ inl (subst IsSome e some)
        | inr (is, kept, l) ↦ inr (
          subst (λ x. Among x these) is a,
          subst (λ (x : Instance ℕ). is_lazy rules x.attribute ≡ true) is l,
        )
      ];
      entries = λ j some. elim (h.gains.comes j some) [
        | inl was ↦ inl was
        | inr (inl (is, kept)) ↦ inr (inl kept)
        | inr (inr found) ↦ inr (inr found)
      ];
      values = values_now;
      facts = facts_now;
      whole = whole_now (contents s) one;
      took = took_now valued took;
      right = λ found all r. right_stays rules before after i (value_view f.value) h.adds s old.found.entries h.gains
          h.plain has (h.covers (contents s) finds one) (all i a) found r;
      plain = h.plain;
      lean = lean_now (contents s) lean;
      settled = settled_now valued;
      only = λ all. h.only (contents s) all lean;
      spare = λ none. absurd none;
      counts = h.counts;
      traces = h.traces;
    }
