-- What lines one after the other do to what is kept.
use Rattle.std.proofs.Common.{◌≡◌, ◌↔◌, ℕ, ◌+◌, ◌-◌, ◌^◌, ◌<◌, min, List, [], ◌∷◌, ◌++◌, inl, inr, refl, sym, ap, ◌∙◌, subst, arith, Option, Some, None}
use Rattle.std.specs.Prelude.{sum}
use Rattle.std.proofs.lemmas.List.Sums.{sum_by-append}
use Rattle.at_model.specs.Paths.{Node}
use Rattle.at_model.specs.Run.{Instance}
use Rattle.at_model.specs.Rules.{Rules}
use Rattle.at_model.specs.Machine.{State, Verdict, Refuses, Tells, Leaves, Edits, Asks, Posts, Waits, after}
use Rattle.at_model.specs.Lines.{Line}
use Rattle.at_model.specs.Sparing.{KeptAfter, IsWork}
use Rattle.at_model.specs.Keeping.{heard, state_after, IsHeard, KeptOver, AreWorks, IsTotalWork, max_work}
use Rattle.at_model.specs.Working.{AreHeard}
use Rattle.at_demand.specs.Called.{Keeps}
use Rattle.at_engine.specs.KeptOver.{HasVerdict, obeys, refuses, KeepsHeard, KeepsLines}

through : {A B C : Type 0} → A ↔ B → B ↔ C → A ↔ C
through f g = (λ a. g.0 (f.0 a), λ c. f.1 (g.1 c))

-- where the same was kept, the same is kept after a verdict, and its work is the same
same_after : (rules : Rules) (s : State) (v : Verdict) (Old New : Instance Node → Type 0) → ((j : Instance Node) → Old j ↔ New j) → (j : Instance Node) → KeptAfter rules s v Old j ↔ KeptAfter rules s v New j
same_after rules s (Refuses refusal) Old New same j = same j
same_after rules s (Tells shown) Old New same j = same j
same_after rules s (Leaves marks) Old New same j = same j
same_after rules s (Posts q) Old New same j = same j
same_after rules s (Waits number) Old New same j = same j
same_after rules s (Edits e t) Old New same j = (
  λ (i, kept, untouched, like). (i, (same i).0 kept, untouched, like),
  λ (i, kept, untouched, like). (i, (same i).1 kept, untouched, like),
)
same_after rules s (Asks q) Old New same j = (
  λ h. elim h [ inl kept ↦ inl ((same j).0 kept) | inr worth ↦ inr worth ],
  λ h. elim h [ inl kept ↦ inl ((same j).1 kept) | inr worth ↦ inr worth ],
)

same_work : (rules : Rules) (s : State) (v : Verdict) (Old New : Instance Node → Type 0) (work : ℕ) → ((j : Instance Node) → Old j ↔ New j) → IsWork rules s v Old work → IsWork rules s v New work
same_work rules s (Refuses refusal) Old New work same w = w
same_work rules s (Tells shown) Old New work same w = w
same_work rules s (Leaves marks) Old New work same w = w
same_work rules s (Posts q) Old New work same w = w
same_work rules s (Waits number) Old New work same w = w
same_work rules s (Edits e t) Old New work same w = w
same_work rules s (Asks q) Old New work same (added, a, size) = (
  added,
  record {
    distinct = a.distinct;
    exactly = λ i. (
      λ h. (let (worth, none) = (a.exactly i).0 h in (worth, λ kept. none ((same i).1 kept))),
      λ h. (a.exactly i).1 (h.0, λ kept. h.1 ((same i).0 kept)),
    );
  },
  size,
)

same_over : (rules : Rules) (ls : List (Option Line)) (s : State) (Old New : Instance Node → Type 0) → ((j : Instance Node) → Old j ↔ New j) → (j : Instance Node) → KeptOver rules s ls Old j ↔ KeptOver rules s ls New j
same_over rules [] s Old New same j = same j
same_over rules (l ∷ ls) s Old New same j =
    let v = heard rules s l in
    same_over rules ls (after s v) (KeptAfter rules s v Old) (KeptAfter rules s v New) (same_after rules s v Old New same) j

same_works : (rules : Rules) (ls : List (Option Line)) (ws : List ℕ) (s : State) (Old New : Instance Node → Type 0) → ((j : Instance Node) → Old j ↔ New j) → AreWorks rules s ls Old ws → AreWorks rules s ls New ws
same_works rules [] [] s Old New same h = h
same_works rules [] (w ∷ ws) s Old New same h = absurd h
same_works rules (l ∷ ls) [] s Old New same h = absurd h
same_works rules (l ∷ ls) (w ∷ ws) s Old New same h =
    let v = heard rules s l in
    (same_work rules s v Old New w same h.0, same_works rules ls ws (after s v) (KeptAfter rules s v Old) (KeptAfter rules s v New) (same_after rules s v Old New same) h.1)

-- lines and then others
over_append : (rules : Rules) (ls ms : List (Option Line)) (s : State) (Kept : Instance Node → Type 0) (j : Instance Node) → KeptOver rules s (ls ++ ms) Kept j ↔ KeptOver rules (state_after rules s ls) ms (KeptOver rules s ls Kept) j
over_append rules [] ms s Kept j = (λ h. h, λ h. h)
over_append rules (l ∷ ls) ms s Kept j = over_append rules ls ms (after s (heard rules s l)) (KeptAfter rules s (heard rules s l) Kept) j

works_append : (rules : Rules) (ls ms : List (Option Line)) (ws us : List ℕ) (s : State) (Kept : Instance Node → Type 0) → AreWorks rules s ls Kept ws → AreWorks rules (state_after rules s ls) ms (KeptOver rules s ls Kept) us → AreWorks rules s (ls ++ ms) Kept (ws ++ us)
works_append rules [] ms [] us s Kept h g = g
works_append rules [] ms (w ∷ ws) us s Kept h g = absurd h
works_append rules (l ∷ ls) ms [] us s Kept h g = absurd h
works_append rules (l ∷ ls) ms (w ∷ ws) us s Kept h g = (h.0, works_append rules ls ms ws us (after s (heard rules s l)) (KeptAfter rules s (heard rules s l) Kept) h.1 g)

heard_append : (bs cs : List (List ℕ)) (ls ms : List (Option Line)) → AreHeard bs ls → AreHeard cs ms → AreHeard (bs ++ cs) (ls ++ ms)
heard_append [] cs [] ms h g = g
heard_append [] cs (l ∷ ls) ms h g = absurd h
heard_append (b ∷ bs) cs [] ms h g = absurd h
heard_append (b ∷ bs) cs (l ∷ ls) ms h g = (h.0, heard_append bs cs ls ms h.1 g)

state_after-append : (rules : Rules) (ls ms : List (Option Line)) (s : State) → state_after rules s (ls ++ ms) ≡ state_after rules (state_after rules s ls) ms
state_after-append rules [] ms s = refl
state_after-append rules (l ∷ ls) ms s = state_after-append rules ls ms (after s (heard rules s l))

-- a total that stays at its greatest value goes on so
both_totals : (greatest a b x y : ℕ) → x ≡ min a greatest → y ≡ min b greatest → min (x + y) greatest ≡ min (a + b) greatest
both_totals greatest a b x y e f = omega (arith, e, f)

total_append : (rules : Rules) (ls ms : List (Option Line)) (s : State) (Kept : Instance Node → Type 0) (a b : ℕ) → IsTotalWork rules s ls Kept a → IsTotalWork rules (state_after rules s ls) ms (KeptOver rules s ls Kept) b → IsTotalWork rules s (ls ++ ms) Kept (min (a + b) max_work)
total_append rules ls ms s Kept a b (ws, works, e) (us, more, f) =
    (ws ++ us, works_append rules ls ms ws us s Kept works more, both_totals max_work (sum ws) (sum us) a b e f ∙ ap (λ n. min n max_work) (sym (sum_by-append (λ (x : ℕ). x) ws us)))

same_total : (rules : Rules) (ls : List (Option Line)) (s : State) (Old New : Instance Node → Type 0) (a : ℕ) → ((j : Instance Node) → Old j ↔ New j) → IsTotalWork rules s ls Old a → IsTotalWork rules s ls New a
same_total rules ls s Old New a same (ws, works, e) = (ws, same_works rules ls ws s Old New same works, e)

sums : (w x y a b : ℕ) → w < 2 ^ 64 → x ≡ min (w + a) max_work → (x < 2 ^ 64 → y ≡ min (x + b) max_work) → y ≡ min (w + min (a + b) max_work) max_work
sums w x y a b small e f = let below : x < 2 ^ 64 = omega (arith, e) in omega (arith, e, f below)

turned : {A B : Type 0} → A ↔ B → B ↔ A
turned f = (f.1, f.0)

module _ (rules : Rules) (old : State) (ls ms : List (Option Line)) (First Then Last : Instance Node → Type 0) (w x y : ℕ) where
  heard_on : KeepsHeard rules old ls First Then w x → KeepsHeard rules (state_after rules old ls) ms Then Last x y
      → KeepsHeard rules old (ls ++ ms) First Last w y
  heard_on p q =
      let between = state_after rules old ls in
      record {
        kept = λ j. through (q.kept j) (through (same_over rules ms between Then (KeptOver rules old ls First) p.kept j)
            (turned (over_append rules ls ms old First j)));
        added = min (p.added + q.added) max_work;
        is_work = total_append rules ls ms old First p.added q.added p.is_work
            (same_total rules ms between Then (KeptOver rules old ls First) q.added p.kept q.is_work);
        grows = λ small. sums w x y p.added q.added small (p.grows small) q.grows;
      }

keeps_on : (rules : Rules) (old mid new : State) (ls ms : List (List ℕ)) (First Then Last : Instance Node → Type 0) (w x y : ℕ) → (p : KeepsLines rules old ls mid First Then w x) → KeepsLines rules (state_after rules old p.spelled) ms new Then Last x y → KeepsLines rules old (ls ++ ms) new First Last w y
keeps_on rules old mid new ls ms First Then Last w x y p q = record {
  spelled = p.spelled ++ q.spelled;
  are_heard = heard_append ls ms p.spelled q.spelled p.are_heard q.are_heard;
  state = q.state ∙ sym (state_after-append rules p.spelled q.spelled old);
  keeps = heard_on rules old p.spelled q.spelled First Then Last w x y p.keeps q.keeps;
}

pub keeps_append : (rules : Rules) (old mid new : State) (ls ms : List (List ℕ)) (First Then Last : Instance Node → Type 0) (w x y : ℕ) → KeepsLines rules old ls mid First Then w x → KeepsLines rules mid ms new Then Last x y → KeepsLines rules old (ls ++ ms) new First Last w y
keeps_append rules old mid new ls ms First Then Last w x y p q = keeps_on rules old mid new ls ms First Then Last w x y p (subst (λ (s : State). KeepsLines rules s ms new Then Last x y) p.state q)

-- no line
pub keeps_nothing : (rules : Rules) (s : State) (Kept : Instance Node → Type 0) (w : ℕ) → KeepsLines rules s [] s Kept Kept w w
keeps_nothing rules s Kept w = record {
  spelled = [];
  are_heard = tt;
  state = refl;
  keeps = record { kept = λ j. (λ h. h, λ h. h); added = 0; is_work = ([], tt, refl); grows = λ small. omega (arith, small) };
}

-- one line
one_heard : (rules : Rules) (old new : State) (line : List ℕ) (l : Option Line) (before later : Instance Node → Type 0) (w x : ℕ)
    → IsHeard line l → new ≡ after old (heard rules old l) → Keeps rules old (heard rules old l) before later w x
    → KeepsLines rules old (line ∷ []) new before later w x
one_heard rules old new line l before later w x is state k = record {
  spelled = l ∷ [];
  are_heard = (is, tt);
  state = state;
  keeps = record {
    kept = k.kept;
    added = min k.more max_work;
    is_work = (k.more ∷ [], (k.is_work, tt), ap (λ n. min n max_work) (alone k.more));
    grows = λ small. omega (arith, k.grows small);
  };
}
  where
    alone : (n : ℕ) → n ≡ 0 + n
    alone n = omega arith

pub keeps_one : (rules : Rules) (old new : State) (line : List ℕ) (v : Verdict) (before later : Instance Node → Type 0) (w x : ℕ)
    → HasVerdict rules old line v → new ≡ after old v → Keeps rules old v before later w x
    → KeepsLines rules old (line ∷ []) new before later w x
keeps_one rules old new line v before later w x has state keeps = by has
  where
    heard_so : (l : Option Line) → IsHeard line l → v ≡ heard rules old l → KeepsLines rules old (line ∷ []) new before later w x
    heard_so l is e =
        one_heard rules old new line l before later w x is (state ∙ ap (after old) e)
        (subst (λ (u : Verdict). Keeps rules old u before later w x) e keeps)

    by : HasVerdict rules old line v → KeepsLines rules old (line ∷ []) new before later w x
    by (obeys l spells e) = heard_so (Some l) spells e
    by (refuses none e) = heard_so None none e
