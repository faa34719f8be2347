-- The members of a group, and what the equations of a group that can be kept say of the tree.
use Rattle.std.proofs.Common.{◌≡◌, ◌⊎◌, ◌<◌, ℕ, zero, suc, Bool, true, List, [], ◌∷◌, get_or, length, map, slice_get, Option, Some, None, inl, inr, refl, sym, ap, ◌∙◌, subst, arith}
use Rattle.std.proofs.lemmas.Option.{same_Some}
use Rattle.std.specs.Prelude.{Contains, IsSome}
use Rattle.std.specs.Map.{keys_of, lookup}
use Rattle.at_model.specs.Run.{Instance, Contents, Truth}
use Rattle.at_model.specs.Meaning.{Among}
use Rattle.at_model.specs.Rules.{Rules, start_of}
use Rattle.at_model.specs.of_fixpoints.Fixpoints.{EndsSo, HasForm, HasValue, Made, Spoilt}
use Rattle.at_model.specs.of_fixpoints.Fixpoints as fixpoints
use Rattle.at_model.specs.of_fixpoints.Formulas.{Formula, atoms}
use Rattle.at_model.specs.of_fixpoints.Resting.{Comes, Leads, goes, stays}
use Rattle.at_model.specs.of_fixpoints.Searched.{IsMade, IsWhole as IsWholeOver}
use Rattle.at_model.proofs.Listed.{among_map}
use Rattle.at_model.proofs.of_searching.PassedCircles.{ends_one}
use Rattle.at_model.proofs.of_searching.Turned.{leads_by, leads_over}
use Rattle.at_model.proofs.of_searching.Wholes.{seen_whole}
use Rattle.at_store.specs.Located.{loc_view}
use Rattle.at_store.specs.Shown.{Shown, contents}
use Rattle.at_body.specs.Same.{same_instance}
use Rattle.at_body.specs.Values.{fault_view}
use Rattle.at_cache.specs.Kept.{Entries}
use Rattle.at_search.specs.Recorded.{IsRecordedForm, Recorded, end_of}
use Rattle.at_search.specs.declared.ended.Ended.{Ended}
use Rattle.at_search.specs.declared.ended.Ending.{Ending}
use Rattle.at_search.specs.declared.ended.Ending.TheVariants as ending
use Rattle.at_search.specs.declared.ended.Formed.{Formed}
use Rattle.at_search.specs.declared.solving.Solved.{Solved}
use Rattle.at_search.proofs.Groups.{led_so}
use Rattle.at_demand.specs.declared.evaluation.Find.{Find}
use Rattle.at_demand.specs.declared.question.Question.{Question}
use Rattle.at_demand.specs.Covering.{AreWholeIn, IsDemanded}
use Rattle.at_demand.specs.Groups.{CanKeepGroup, IsFindOf, IsMember}
use Rattle.at_evaluate.specs.Valued.{AreValued, IsKept, meaning}
use Rattle.at_demand.specs.Levels.{known_to}
use Rattle.at_demand.specs.Only.{IsLean}
use Rattle.at_evaluate.proofs.Entered.{is_there}
use Rattle.at_demand.proofs.Extending.{map_among}
use Rattle.at_demand.proofs.Keys.{is_key, no_key}
use Rattle.at_demand.proofs.OnlyLemmas.{get_among}

-- the instance of a member, if it has a place
abbrev with_place : Option (Instance ℕ) → List (Instance ℕ) → List (Instance ℕ)
with_place None is = is
with_place (Some i) is = i ∷ is

-- the instances of the members of a group
abbrev pub members : List (Instance ℕ) → List Solved → List (Instance ℕ)
members insts [] = []
members insts (m ∷ ms) = with_place (slice_get insts m.position) (members insts ms)

module _ (insts : List (Instance ℕ)) where
  placed_among : (o : Option (Instance ℕ)) (is : List (Instance ℕ)) (i : Instance ℕ) → o ≡ Some i →
      Among i (with_place o is)
  placed_among None is i e = absurd cc
  placed_among (Some j) is i e = inl (sym (same_Some j i e))

  behind_among : (o : Option (Instance ℕ)) (is : List (Instance ℕ)) (i : Instance ℕ) → Among i is →
      Among i (with_place o is)
  behind_among None is i a = a
  behind_among (Some j) is i a = inr a

  either_place : (o : Option (Instance ℕ)) (is : List (Instance ℕ)) (i : Instance ℕ) → Among i (with_place o is) →
      (o ≡ Some i) ⊎ Among i is
  either_place None is i a = inr a
  either_place (Some j) is i (inl e) = inl (ap Some (sym e))
  either_place (Some j) is i (inr a) = inr a

  pub member_listed : (group : List Solved) (i : Instance ℕ) (b : Bool) → IsMember insts group i b →
      Among i (members insts group)
  member_listed [] i b (m, a, at, is) = absurd a
  member_listed (x ∷ ms) i b (m, inl e, at, is) =
      placed_among (slice_get insts x.position) (members insts ms) i (ap (λ (z : Solved). slice_get insts z.position)
      (sym e) ∙ at)
  member_listed (x ∷ ms) i b (m, inr a, at, is) =
      behind_among (slice_get insts x.position) (members insts ms) i (member_listed ms i b (m, a, at, is))

  pub listed_member : (group : List Solved) (i : Instance ℕ) → Among i (members insts group) → (b : Bool) ×
      IsMember insts group i b
  listed_member [] i a = absurd a
  listed_member (x ∷ ms) i a = elim (either_place (slice_get insts x.position) (members insts ms) i a) [
    | inl at ↦ (x.value, (x, inl refl, at, refl))
    | inr more ↦ (let (b, (m, c, at, is)) = listed_member ms i more in (b, (m, inr c, at, is)))
  ]

-- what is a key has an entry
pub key_entry : {X : Type 0} (es : List (Instance ℕ × X)) (i : Instance ℕ) → Among i (keys_of es) → (x : X) ×
    (lookup (same_instance i) es ≡ Some x)
key_entry {X} es i a = by (lookup (same_instance i) es) refl
  where
    by : (o : Option X) → lookup (same_instance i) es ≡ o → (x : X) × (lookup (same_instance i) es ≡ Some x)
    by None e = absurd (no_key es i e a)
    by (Some x) e = (x, e)

-- and what has one is a key
pub entry_key : {X : Type 0} (es : List (Instance ℕ × X)) (i : Instance ℕ) (x : X) →
    lookup (same_instance i) es ≡ Some x → Among i (keys_of es)
entry_key es i x at = is_key true es i (sym (is_there (lookup (same_instance i) es) x at))

-- what has a value has a formula
value_form : (rules : Rules) (look : Contents ℕ) (i : Instance ℕ) (b : Bool) →
    HasValue look (meaning rules) i (Truth b) → (f : Formula ℕ) × HasForm look (meaning rules) i f
value_form rules look i b (zero, h) = absurd h
value_form rules look i b (suc n, h) = let (f, x) = h.0 i (fixpoints.stays i) in (f, (n, x))

-- what a list contains is among it
contains_among : {A : Type 0} (xs : List A) (u : A) → Contains xs u → Among u xs
contains_among {A = A} xs u (k, less, e) = by xs k less e
  where
    by : (xs : List A) (k : ℕ) → k < length xs → get_or xs k u ≡ u → Among u xs
    by [] k less e = absurd (omega (arith, less))
    by (x ∷ xs) zero less e = inl (sym e)
    by (x ∷ xs) (suc k) less e = inr (by xs k (omega (arith, less)) e)

module _ (rules : Rules) (s : Shown) (entries : Entries) (q : Question) (insts : List (Instance ℕ))
    (group : List Solved)
    (can : CanKeepGroup rules s entries q insts group) where
  abbrev pub Member : Instance ℕ → Type 0
  Member i = Among i (members insts group)

  pub member_circular : (i : Instance ℕ) → Member i → IsSome (start_of rules i.attribute)
  member_circular i a = let (b, (m, c, at, is)) = listed_member insts group i a in can.can.circular i
      (get_among insts m.position i at)

  -- the formula that a member's equation is recorded to have come to
  pub member_formed : (i : Instance ℕ) → Member i → (d : Formed) × IsRecordedForm q.ended.entries i d
  member_formed i a =
      let (b, (m, c, at, is)) = listed_member insts group i a in
      let (x, there) = key_entry q.ended.entries i (can.can.recorded i (get_among insts m.position i at)) in
      let (f, has) = value_form rules (contents s) i b (can.values i b (m, c, at, is)) in
      by x.ending x there f has refl
    where
      by : (e : Ending) (x : Ended) → lookup (same_instance i) q.ended.entries ≡ Some x → (f : Formula ℕ) →
          HasForm (contents s) (meaning rules) i f → x.ending ≡ e →
          (d : Formed) × IsRecordedForm q.ended.entries i d
      by (ending.Formed d) x there f has is = (d, (x, there, is))
      by (ending.Spoilt k) x there f has is =
          let spoilt : EndsSo (contents s) (meaning rules) i (Spoilt (fault_view k.kind) k.at) =
          can.can.facts.ends i (Spoilt (fault_view k.kind) k.at) (x, there, ap end_of is) in
          let both : Spoilt (fault_view k.kind) k.at ≡ Made f = ends_one (contents s) (meaning rules) i
          (Spoilt (fault_view k.kind) k.at) (Made f) spoilt has in
          absurd cc

  recorded_made : (i : Instance ℕ) (d : Formed) → IsRecordedForm q.ended.entries i d →
      Recorded q.ended.entries i (Made d.formula)
  recorded_made i d (x, there, is) = (x, there, ap end_of is)

  recorded_form : (i : Instance ℕ) (d : Formed) → IsRecordedForm q.ended.entries i d →
      HasForm (contents s) (meaning rules) i d.formula
  recorded_form i d r = can.can.facts.ends i (Made d.formula) (recorded_made i d r)

  -- formulas lead from each member to each
  pub members_lead : (i j : Instance ℕ) → Member i → Member j → Leads (contents s) (meaning rules) i j
  members_lead i j a c =
      let (b, m) = listed_member insts group i a in
      let (d, n) = listed_member insts group j c in
      leads_over (contents s) (meaning rules) i j j
      (led_so (known_to entries q) q.ended.entries insts (contents s) (meaning rules) can.can.facts.ends i j
      (can.together i j b d m n)) (stays j)

  -- what a member's formula asks for is known, or a member
  asked_closed : (i j : Instance ℕ) (d : Formed) → Member i → IsRecordedForm q.ended.entries i d →
      Among j (atoms d.formula) →
      IsSome (known_to entries q j) ⊎ Member j
  asked_closed i j d a r at =
      let (b, m) = listed_member insts group i a in
      elim (can.closed i j b d m r at) [ inl some ↦ inl some | inr (c, n) ↦ inr (member_listed insts group j c n) ]

  -- each member leads to finitely many formulas
  pub member_whole : (i : Instance ℕ) → Member i → IsWholeOver (contents s) (meaning rules) i
  member_whole i a = seen_whole (EndsSo (contents s) (meaning rules)) IsMade (members insts group) (λ j c.
      let (d, r) = member_formed j c in record {
        end = Made d.formula;
        ends = recorded_form j d r;
        good = tt;
        next = λ k at. elim (asked_closed j k d c r at) [
          | inl some ↦ inl (can.can.facts.wholes k some)
          | inr m ↦ inr m
        ];
      }) i a

  module _ (b : Bool) (f : Find) (is : IsFindOf entries q insts group b f) where
    -- all that the members rest on stands with the find
    pub whole_in : AreWholeIn rules (contents s) q.found.entries (members insts group) f
    whole_in = record {
      reads = λ i l a sees.
          let (c, m) = listed_member insts group i a in
          let (d, r) = member_formed i a in
          let form = can.can.facts.forms i d r in
          let (x, n, same) = map_among loc_view l d.reads.items (form.reads l sees) in
          subst (λ z. Among z (map loc_view f.reads.items)) same
          (among_map loc_view x f.reads.items (is.rests.reads i c d x m r n));
      demands = λ i j a comes. let (d, r) = member_formed i a in by i j a d r comes;
    }
      where
        by : (i j : Instance ℕ) → Member i → (d : Formed) → IsRecordedForm q.ended.entries i d →
            Comes (contents s) (meaning rules) i j →
            Member j ⊎ IsDemanded q.found.entries f.demanded j
        by i j a d r (inl reaches) =
            let (c, m) = listed_member insts group i a in
            let form = can.can.facts.forms i d r in inr (is.rests.uses i j c d m r (inl (form.demands j reaches)))
        by i j a d r (inr (g, has, at)) =
            let (c, m) = listed_member insts group i a in
            let both : Made g ≡ Made d.formula = ends_one (contents s) (meaning rules) i (Made g) (Made d.formula) has
            (recorded_form i d r) in
            let same : g ≡ d.formula = cc in
            let asks = subst (λ (z : Formula ℕ). Among j (atoms z)) same at in
            elim (asked_closed i j d a r asks) [
              | inl some ↦ inr (is.rests.uses i j c d m r (inr (asks, some)))
              | inr n ↦ inl n
            ]

    -- to one of whose equation's formula asks a member leads
    asked_led : (i m j : Instance ℕ) (d : Formed) → Member i → Member m → IsRecordedForm q.ended.entries m d →
        Among j (atoms d.formula) →
        Leads (contents s) (meaning rules) i j
    asked_led i m j d a c r at =
        leads_by (contents s) (meaning rules) i m j (members_lead i m a c)
        (goes m j j (inr (d.formula, recorded_form m d r, at)) (stays j))

    -- and nothing else
    pub lean_first : (i : Instance ℕ) → Member i → IsLean rules (contents s) q.found.entries i f
    lean_first i a = record {
      reads = λ l h.
          let (x, n, same) = map_among loc_view l f.reads.items h in
          let (j, c, d, m, r, at) = is.only.reads x n in
          let form = can.can.facts.forms j d r in
          let sees = form.sees l (subst (λ z. Among z (map loc_view d.reads.items)) same
          (among_map loc_view x d.reads.items at)) in
          (j, members_lead i j a (member_listed insts group j c m), sees);
      takes = record {
        kept = λ j h. let (m, c, d, n, r, at) = is.only.kept j h in led_kept m j d (member_listed insts group m c n) r
            at;
        finds = λ p h. let (m, c, d, n, r, at) = is.only.finds p h in led_found m p d (member_listed insts group m c n)
            r at;
      };
    }
      where
        led_kept : (m j : Instance ℕ) (d : Formed) → Member m → IsRecordedForm q.ended.entries m d →
            Among j d.kept.items ⊎ (IsKept entries j × Among j (atoms d.formula)) →
            Leads (contents s) (meaning rules) i j
        led_kept m j d c r (inl k) =
            let form = can.can.facts.forms m d r in
            let (there, led) = form.kept j k in leads_by (contents s) (meaning rules) i m j (members_lead i m a c) led
        led_kept m j d c r (inr (k, at)) = asked_led i m j d a c r at

        led_found : (m : Instance ℕ) (p : ℕ) (d : Formed) → Member m → IsRecordedForm q.ended.entries m d →
            Among p d.finds.items ⊎ ((j : Instance ℕ) × (g : Find) × (slice_get q.found.entries p ≡ Some (j, g)) ×
            Among j (atoms d.formula)) →
            (j : Instance ℕ) × (g : Find) × (slice_get q.found.entries p ≡ Some (j, g)) ×
            Leads (contents s) (meaning rules) i j
        led_found m p d c r (inl k) =
            let form = can.can.facts.forms m d r in
            let (j, g, at, led) = form.finds p k in (
              j,
              g,
              at,
              leads_by (contents s) (meaning rules) i m j (members_lead i m a c) led,
            )
        led_found m p d c r (inr (j, g, at, asks)) = (j, g, at, asked_led i m j d a c r asks)

    -- what it took of what is kept is kept
    pub valued_first : AreValued entries f.demanded.kept.items
    valued_first j h = let (m, c, d, n, r, at) = is.only.kept j (contains_among f.demanded.kept.items j h) in by m d r
        at
      where
        by : (m : Instance ℕ) (d : Formed) → IsRecordedForm q.ended.entries m d → Among j d.kept.items ⊎
            (IsKept entries j × Among j (atoms d.formula)) → IsKept entries j
        by m d r (inl k) = let form = can.can.facts.forms m d r in (form.kept j k).0
        by m d r (inr (k, at)) = k
