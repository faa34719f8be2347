-- Evaluations in one go, one part behind the other: what they come to, and what comes to what is held meanwhile.
use Rattle.std.proofs.Common.{◌≡◌, ◌<◌, ◌^◌, ℕ, ◌+◌, List, [], ◌++◌, Option, Some, None, Result, Ok, Err, IfOk, inl, refl, sym, ap, ◌∙◌, subst, append_assoc, append-nil, arith}
use Rattle.at_model.specs.Run.{Value, Instance, Location, Run, Gives, ◌>>=◌}
use Rattle.at_model.specs.Follow.{follow}
use Rattle.at_model.specs.of_fixpoints.Fixpoints.{HasValue}
use Rattle.at_model.specs.Nested.{Tells, Evaluates, gives, told}
use Rattle.at_model.specs.Rules.{Rules}
use Rattle.at_model.proofs.of_nesting.Nesting.{binds, evaluates_more, evaluates_deeper, reaches_behind, reaches_within}
use Rattle.at_store.specs.Shown.{Shown, contents}
use Rattle.at_body.specs.Values.{value_view}
use Rattle.at_body.specs.declared.value.Value.{Value as ValueCode}
use Rattle.at_evaluate.specs.Looking.{HasBegun, HasLooked, MayHaveLooked}
use Rattle.at_evaluate.specs.declared.direct.Level.{Level}
use Rattle.at_evaluate.specs.Valued.{equations, meaning, kept_values, IsKept, KeepsEntries}
use Rattle.at_evaluate.specs.Inner.{Gains, HasTold, StayRemembered, is_inner}
use Rattle.at_evaluate.specs.InParts.{Demanded, EvaluatesTo, HasCome, HasGained, Held, IsHeld, demand, values_in}
use Rattle.at_evaluate.specs.Made.{Makes}
use Rattle.at_evaluate.specs.Sparing.{IsWorthy}
use Rattle.at_evaluate.specs.Traces.{StayJustified}
use Rattle.at_evaluate.specs.Led.{AddsDemanded, DemandsOn}
use Rattle.at_evaluate.proofs.Counting.{counts_more, counts_none}
use Rattle.at_evaluate.proofs.Entered.{entered_on, is_there, not_none}
use Rattle.at_evaluate.proofs.of_nesting.Remembered.{ground_by, known_on}
use Rattle.at_evaluate.proofs.of_traces.Making.{makes_none, makes_then}
use Rattle.at_evaluate.proofs.of_parts.Looked.{looked, passes_behind, reaches_past}

-- What was held stays, and all is right.
pub record Grows (rules : Rules) (s : Shown) (old new : Held) : Type 0 where
  pub keeps : KeepsEntries old.entries new.entries
  pub still : StayRemembered old.found new.found
  pub right : IsHeld rules (contents s) new

module _ (rules : Rules) (s : Shown) where
  pub grows_none : (h : Held) → IsHeld rules (contents s) h → Grows rules s h h
  grows_none h is = record { keeps = λ j some. refl; still = λ j v e. e; right = is }

  pub grows_then : (old mid new : Held) → Grows rules s old mid → Grows rules s mid new → Grows rules s old new
  grows_then old mid new a b = record {
    keeps = λ j some. b.keeps j (entered_on old.entries mid.entries a.keeps j some) ∙ a.keeps j some;
    still = λ j v e. b.still j v (a.still j v e);
    right = b.right;
  }

  known_so : (old new : Held) → IsHeld rules (contents s) old → Grows rules s old new → (j : Instance ℕ) (v : Value ℕ) →
      values_in old j ≡ Some v → values_in new j ≡ Some v
  known_so old new is g j v e = known_on rules (contents s) old.entries old.found is.known new.entries new.found
      g.right.known g.keeps g.still j v e

  -- one part, and then the other one
  pub come_then : {A B : Type 0} (r : Run ℕ A) (k : A → Run ℕ B) (a : A) (q : Run ℕ B) (b : B) (mid last : Held)
      (old between new : Level) → k a ≡ q → IsHeld rules (contents s) mid →
      HasCome rules (contents s) mid old between r a → Grows rules s mid last →
      HasCome rules (contents s) last between new q b → HasCome rules (contents s) last old new (r >>= k) b
  come_then {A} {B} r k a q b mid last old between new is held p g t = record {
    depth = t.depth + p.depth;
    looks = p.looks ++ t.looks;
    takes = p.takes ++ t.takes;
    evaluates = binds (contents s) (Tells (contents s) (equations rules) (values_in last) (is_inner rules) (t.depth +
        p.depth)) r k a b p.looks t.looks p.takes t.takes first second;
    reads = t.reads ∙ ap (λ z. z ++ t.looks) p.reads ∙ append_assoc old.reads p.looks t.looks;
    uses = t.uses ∙ ap (λ z. z ++ t.takes) p.uses ∙ append_assoc old.uses.items p.takes t.takes;
  }
    where
      first : Evaluates (contents s) (equations rules) (values_in last) (is_inner rules) (t.depth + p.depth) r a p.looks
          p.takes
      first = evaluates_deeper (contents s) (equations rules) (values_in last) (is_inner rules) p.depth t.depth r a
          p.looks p.takes (evaluates_more (contents s) (equations rules) (values_in mid) (is_inner
          rules) (values_in last) (known_so mid last held g) p.depth r a p.looks p.takes p.evaluates)

      same : p.depth + t.depth ≡ t.depth + p.depth
      same = omega arith

      second : Evaluates (contents s) (equations rules) (values_in last) (is_inner rules) (t.depth + p.depth) (k a) b
          t.looks t.takes
      second = subst (λ n. Evaluates (contents s) (equations rules) (values_in last) (is_inner rules) n (k a) b t.looks
          t.takes) same (evaluates_deeper (contents s) (equations rules) (values_in last) (is_inner rules) t.depth
          p.depth (k a) b t.looks t.takes (subst (λ z. Evaluates (contents s) (equations rules) (values_in last) (is_inner
          rules) t.depth z b t.looks t.takes) (sym is) t.evaluates))

  -- by looks alone
  pub come_looked : {A : Type 0} (h : Held) (old new : Level) (r : Run ℕ A) (a : A) → new.uses.items ≡ old.uses.items →
      HasLooked (contents s) old.reads new.reads r a → HasCome rules (contents s) h old new r a
  come_looked h old new r a same l =
      let (ls, p, is) = looked (contents s) (Tells (contents s) (equations rules) (values_in h) (is_inner rules) 0)
      old.reads new.reads r a l in
      record {
        depth = 0;
        looks = ls;
        takes = [];
        evaluates = p;
        reads = is;
        uses = same ∙ sym (append-nil old.uses.items);
      }

  -- a value at once
  pub come_gives : {A : Type 0} (h : Held) (level : Level) (r : Run ℕ A) (a : A) → r ≡ Gives a →
      HasCome rules (contents s) h level level r a
  come_gives h level r a e = come_looked h level level r a refl (ap (follow (contents s) level.reads) e)

  -- one part, and then looks alone
  pub come_end : {A B C E : Type 0} (r : Run ℕ A) (k : A → Run ℕ B) (a : A) (f : C → B) (res : Result C E)
      (h : Held) (old between new : Level) → new.uses.items ≡ between.uses.items → IsHeld rules (contents s) h →
      HasCome rules (contents s) h old between r a →
      IfOk res (λ v. HasLooked (contents s) between.reads new.reads (k a) (f v)) →
      IfOk res (λ v. HasCome rules (contents s) h old new (r >>= k) (f v))
  come_end r k a f (Ok v) h old between new same held p l = come_then r k a (k a) (f v) h h old between new refl held p
      (grows_none h held) (come_looked h between new (k a) (f v) same l)
  come_end r k a f (Err e) h old between new same held p l = tt

  -- behind the beginning
  pub come_begun : {A : Type 0} (h : Held) (old between new : Level) (r q : Run ℕ A) (a : A) →
      between.uses.items ≡ old.uses.items → HasBegun (contents s) old.reads between.reads r q →
      HasCome rules (contents s) h between new q a → HasCome rules (contents s) h old new r a
  come_begun h old between new r q a same b p = record {
    depth = p.depth;
    looks = b.looks ++ p.looks;
    takes = p.takes;
    evaluates = passes_behind (contents s) (Tells (contents s) (equations rules) (values_in h) (is_inner rules) p.depth)
        r b.looks q a p.looks p.takes b.goes p.evaluates;
    reads = p.reads ∙ ap (λ z. z ++ p.looks) b.reads ∙ append_assoc old.reads b.looks p.looks;
    uses = p.uses ∙ ap (λ z. z ++ p.takes) same;
  }

  -- the demand of what is told
  pub told_come : (h : Held) (old new : Level) (i : Instance ℕ) (v : Value ℕ) →
      HasTold rules (contents s) (values_in h) old new i v → HasCome rules (contents s) h old new (demand i) v
  told_come h old new i v t = record {
    depth = t.given.0;
    looks = t.looks ++ [];
    takes = t.takes ++ [];
    evaluates = told i (λ x. Gives x) v v t.looks [] t.takes [] t.given.1 (gives v);
    reads = t.reads ∙ ap (λ z. old.reads ++ z) (sym (append-nil t.looks));
    uses = t.uses ∙ ap (λ z. old.uses.items ++ z) (sym (append-nil t.takes));
  }

module _ (rules : Rules) (s : Shown) where
  pub grows : {A : Type 0} (r : Run ℕ A) (old new : Held) → HasGained rules s r old new → Grows rules s old new
  grows r old new g = record { keeps = g.keeps; still = g.still; right = g.right }

  -- nothing came
  pub nothing_gained : {A : Type 0} (r : Run ℕ A) (h : Held) → h.work < 2 ^ 64 → IsHeld rules (contents s) h →
      HasGained rules s r h h
  nothing_gained r h few is = record {
    keeps = λ j some. refl;
    still = λ j v e. e;
    worthy = λ j none some. absurd (not_none (kept_values h.entries j) some none);
    demanded = λ j none some. absurd (not_none (kept_values h.entries j) some none);
    right = is;
    stays = λ all a. a;
    there = λ all a. a;
    spare = λ a. a;
    counts = counts_none h.entries h.work few;
    makes = makes_none h.entries h.memories h.made;
  }

  -- what an evaluation demands another one demands, too
  gains_wider : {A B : Type 0} (r : Run ℕ A) (q : Run ℕ B) (old new : Held) →
      ((m : Instance ℕ) → Demanded rules (contents s) r m → Demanded rules (contents s) q m) →
      HasGained rules s r old new → HasGained rules s q old new
  gains_wider r q old new wider g = record {
    keeps = g.keeps;
    still = g.still;
    worthy = λ j none some. let (m, d, is) = g.worthy j none some in (m, wider m d, is);
    demanded = λ j none some. let (m, d, on) = g.demanded j none some in (m, wider m d, on);
    right = g.right;
    stays = λ all. g.stays (λ m d. all m (wider m d));
    there = λ all. g.there (λ m d. all m (wider m d));
    spare = g.spare;
    counts = g.counts;
    makes = g.makes;
  }

  -- of the first part alone
  pub gains_within : {A B : Type 0} (r : Run ℕ A) (k : A → Run ℕ B) (old new : Held) → HasGained rules s r old new
      → HasGained rules s (r >>= k) old new
  gains_within r k old new g = gains_wider r (r >>= k) old new (λ m d. reaches_within (contents s) (meaning rules) r k m
      d) g

  -- behind the beginning
  pub gains_begun : {A : Type 0} (h k : Held) (old new : List (Location ℕ)) (r q : Run ℕ A) →
      HasBegun (contents s) old new r q → HasGained rules s q h k → HasGained rules s r h k
  gains_begun h k old new r q b g = gains_wider q r h k (λ m d. reaches_past (contents s) (HasValue (contents s)
      (meaning rules)) r b.looks q m b.goes d) g

  -- of both parts
  pub gains_then : {A B : Type 0} (r : Run ℕ A) (k : A → Run ℕ B) (a : A) (q : Run ℕ B) (first mid last : Held)
      (old between : Level) → k a ≡ q → HasGained rules s r first mid →
      HasCome rules (contents s) mid old between r a → HasGained rules s q mid last →
      HasGained rules s (r >>= k) first last
  gains_then {A} {B} r k a q first mid last old between is g p h = record {
    keeps = λ j some. h.keeps j (entered_on first.entries mid.entries g.keeps j some) ∙ g.keeps j some;
    still = λ j v e. h.still j v (g.still j v e);
    worthy = λ j none some. by j none some (kept_values mid.entries j) refl;
    demanded = λ j none some. demanded_by j none some (kept_values mid.entries j) refl;
    right = h.right;
    stays = λ all a. h.stays (λ m d. all m (behind m d)) (g.stays (λ m d. all m (within m d)) a);
    there = λ all a. h.there (λ m d. all m (behind m d)) (g.there (λ m d. all m (within m d)) a);
    spare = λ a. h.spare (g.spare a);
    counts = counts_more first.entries mid.entries last.entries first.work mid.work last.work g.counts h.counts;
    makes = makes_then first.entries mid.entries last.entries first.memories mid.memories last.memories first.made mid.made
        last.made g.keeps h.keeps g.makes h.makes;
  }
    where
      within : (m : Instance ℕ) → Demanded rules (contents s) r m → Demanded rules (contents s) (r >>= k) m
      within m d = reaches_within (contents s) (meaning rules) r k m d

      behind : (m : Instance ℕ) → Demanded rules (contents s) q m → Demanded rules (contents s) (r >>= k) m
      behind m d = reaches_behind (contents s) (equations rules) (meaning rules) (values_in mid) (is_inner rules)
          (ground_by rules (contents s) mid.entries mid.found g.right.known) p.depth r k a p.looks p.takes m p.evaluates
          (subst (λ z. Demanded rules (contents s) z m) (sym is) d)

      by : (j : Instance ℕ) → kept_values first.entries j ≡ None → IsKept last.entries j → (o : Option (Value ℕ)) →
          kept_values mid.entries j ≡ o →
          (m : Instance ℕ) × Demanded rules (contents s) (r >>= k) m × IsWorthy rules (contents s) m j
      by j none some None e = let (m, d, worth) = h.worthy j e some in (m, behind m d, worth)
      by j none some (Some v) e =
          let (m, d, worth) = g.worthy j none (is_there (kept_values mid.entries j) v e) in (m, within m d, worth)

      demanded_by : (j : Instance ℕ) → kept_values first.entries j ≡ None → IsKept last.entries j →
          (o : Option (Value ℕ)) → kept_values mid.entries j ≡ o →
          (m : Instance ℕ) × Demanded rules (contents s) (r >>= k) m × DemandsOn (contents s) (meaning rules) m j
      demanded_by j none some None e = let (m, d, on) = h.demanded j e some in (m, behind m d, on)
      demanded_by j none some (Some v) e =
          let (m, d, on) = g.demanded j none (is_there (kept_values mid.entries j) v e) in (m, within m d, on)

  -- what came for an instance came for its demand
  pub gains_demand : (i : Instance ℕ) (old new : Held) →
      Gains rules s i old.entries new.entries old.found new.found old.work new.work →
      AddsDemanded (contents s) (meaning rules) i (kept_values old.entries) (kept_values new.entries) →
      StayJustified rules s i old.memories new.memories →
      Makes old.entries new.entries old.memories new.memories old.made new.made → HasGained rules s (demand i) old new
  gains_demand i old new g a t m = record {
    keeps = g.worthy.stays;
    still = g.still;
    worthy = λ j none some. (i, inl refl, g.worthy.worthy j none some);
    demanded = λ j none some. (i, inl refl, a j none some);
    right = record { known = g.known; justified = t.justified };
    stays = λ all. g.stays (all i (inl refl));
    there = λ all. t.there (all i (inl refl));
    spare = g.spare;
    counts = g.counts;
    makes = m;
  }

  -- it came to a value at once, by looks alone, or was gone on with where nothing was looked at
  pub at_once_some : {E : Type 0} (r : Run ℕ (Value ℕ)) (h : Held) (old : Level) (reads : List (Location ℕ))
      (o : Option ValueCode) (v : ValueCode) → h.work < 2 ^ 64 → IsHeld rules (contents s) h →
      MayHaveLooked (contents s) old.reads reads r o → o ≡ Some v →
      EvaluatesTo {E = E} rules s r value_view h h old (record { reads = reads; uses = old.uses }) (Ok v)
  at_once_some r h old reads o v few is looked some = record {
    come = come_looked rules s h old (record { reads = reads; uses = old.uses }) r (value_view v) refl
        (subst (λ o. MayHaveLooked (contents s) old.reads reads r o) some looked);
    gains = nothing_gained r h few is;
  }

  pub at_once_none : {E : Type 0} (r : Run ℕ (Value ℕ)) (first last : Held) (old : Level) (reads : List (Location ℕ))
      (o : Option ValueCode) → MayHaveLooked (contents s) old.reads reads r o → o ≡ None → (new : Level)
      (x : Result ValueCode E) →
      EvaluatesTo rules s r value_view first last (record { reads = reads; uses = old.uses }) new x →
      EvaluatesTo rules s r value_view first last old new x
  at_once_none r first last old reads o looked none new x ends =
      subst (λ (ls : List (Location ℕ)). EvaluatesTo rules s r value_view first last
      (record { reads = ls; uses = old.uses }) new x) (subst (λ o. MayHaveLooked (contents s) old.reads reads r o) none
      looked) ends
