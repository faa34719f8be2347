-- A trace stays justified over other last values of what it didn't use, and over a tree that shows the same where it
-- looked.
use Rattle.std.proofs.Common.{◌≡◌, ℕ, Bool, true, false, List, [], ◌∷◌, Option, None, Some, inl, inr, refl, sym, ◌∙◌, subst, true≢false}
use Rattle.std.specs.Prelude.{Contains}
use Rattle.std.proofs.lemmas.List.Elements.{Contains-append_left, Contains-append_right, Contains-push}
use Rattle.at_model.specs.Run.{Value, Instance, Location, Contents, Known}
use Rattle.at_model.specs.Meaning.{Among, Equations}
use Rattle.at_model.specs.Rules.{Rules, is_lazy}
use Rattle.at_store.specs.Shown.{Shown}
use Rattle.at_cache.specs.declared.keeper.Order.TheVariants as order
use Rattle.at_cache.specs.Traced.{IsStill, Memories, PutsTrace, StayTraced, Trace}
use Rattle.at_evaluate.specs.Valued.{equations}
use Rattle.at_evaluate.specs.Inner.{is_inner}
use Rattle.at_evaluate.specs.Traces.{AreJustified, AreOfTree, IsJustified}
use Rattle.at_evaluate.proofs.of_traces.SameWay.{evaluates_same}

-- each of them is there
pub contains_of : {A : Type 0} (xs : List A) (x : A) → Among x xs → Contains xs x
contains_of [] x h = absurd h
contains_of (y ∷ ys) x (inl e) =
    subst (λ z. Contains (y ∷ ys) z) (sym e) (Contains-append_left (y ∷ []) ys y (Contains-push [] y))
contains_of (y ∷ ys) x (inr h) = Contains-append_right (y ∷ []) ys x (contains_of ys x h)

pub stays_justified : (look later : Contents ℕ) (equation : Equations ℕ) (last next : Known ℕ)
    (inner : Instance ℕ → Bool) (i : Instance ℕ) (t : Trace) → IsJustified look equation last inner i t →
    ((l : Location ℕ) → t.reads l ≡ true → later l ≡ look l) →
    ((u : Instance ℕ) → Contains t.uses u → next u ≡ last u) → IsJustified later equation next inner i t
stays_justified look later equation last next inner i t j same alike = record {
  depth = j.depth;
  looks = j.looks;
  evaluates = evaluates_same look later last next equation inner j.depth (equation i) t.value j.looks t.uses j.evaluates
      (λ l h. same l (j.reads l h)) (λ u h. alike u (contains_of t.uses u h));
  reads = j.reads;
  looked = j.looked;
}

-- what is traced stays so
pub stay_same : (m : Memories) → StayTraced m m
stay_same m i t is = record { traced = is; value = refl; uses = λ u h. refl }

pub stay_then : (first next last : Memories) → StayTraced first next → StayTraced next last → StayTraced first last
stay_then first next last f g i t is =
    let q = g i t is in
    let p = f i t q.traced in
    record { traced = p.traced; value = q.value ∙ p.value; uses = λ u h. q.uses u h ∙ p.uses u h }

-- also where something is put that can't be kept again
pub stay_any : (i : Instance ℕ) (v : Option (Value ℕ)) (reads : List (Location ℕ)) (uses : List (Instance ℕ))
    (old new : Memories) → PutsTrace i v reads uses order.Any old new → StayTraced old new
stay_any i v reads uses old new puts j t is = elim (puts j t is) [
  | inl still ↦ still
  | inr mine ↦ let never = mine.1.ordered in absurd cc
]

-- what isn't lazy has no trace
pub untraced_inner : (rules : Rules) (look : Contents ℕ) (m : Memories) → AreJustified rules look m → (i : Instance ℕ)
    → is_lazy rules i.attribute ≡ false → m.traced i ≡ None
untraced_inner rules look m r i inner = by (m.traced i) refl
  where
    by : (o : Option Trace) → m.traced i ≡ o → m.traced i ≡ None
    by None is = is
    by (Some t) is = absurd (true≢false (sym (r.lazily i t is) ∙ inner))

-- what is traced still is right still
pub justified_still : (rules : Rules) (look : Contents ℕ) (before later : Memories) → AreJustified rules look before →
    (i : Instance ℕ) (t : Trace) → IsStill before later i t →
    IsJustified look (equations rules) later.last (is_inner rules) i t
justified_still rules look before later r i t still = stays_justified look look (equations rules) before.last later.last
    (is_inner rules) i t (r.justified i t still.traced) (λ l h. refl) still.uses

pub stay_justified : (rules : Rules) (look : Contents ℕ) (before later : Memories) → StayTraced before later →
    AreJustified rules look before → AreJustified rules look later
stay_justified rules look before later stay r = record {
  lazily = λ i t is. r.lazily i t (stay i t is).traced;
  own = λ i t is. r.own i t (stay i t is).traced;
  value = λ i t is. (stay i t is).value ∙ r.value i t (stay i t is).traced;
  justified = λ i t is. justified_still rules look before later r i t (stay i t is);
}

pub stay_there : (s : Shown) (before later : Memories) → StayTraced before later → AreOfTree s before →
    AreOfTree s later
stay_there s before later stay there i t l is reads = there i t l (stay i t is).traced reads
