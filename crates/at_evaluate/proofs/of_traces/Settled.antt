-- What is settled for an instance is worthy of it, and stays right, spare and counted.
use Rattle.std.proofs.Common.{◌≡◌, ℕ, suc, ◌+◌, ◌-◌, ◌^◌, ◌<◌, min, Bool, true, false, List, [], ◌∷◌, Some, None, inl, refl, sym, ap, ◌∙◌, subst, arith, if◌then◌else◌, true≢false}
use Rattle.std.specs.List.{list_any}
use Rattle.at_model.specs.Run.{Value, Instance, Location}
use Rattle.at_model.specs.Rules.{Rules}
use Rattle.at_model.specs.Meaning.{Among}
use Rattle.at_model.specs.of_fixpoints.Resting.{Leads}
use Rattle.at_store.specs.Shown.{Shown, IsIdle, contents}
use Rattle.at_body.specs.Same.{same_instance}
use Rattle.at_cache.specs.Kept.{Entries, Puts, PutsBy, value_at}
use Rattle.at_index.specs.Sameness.{same_location}
use Rattle.at_cache.specs.Traced.{AreAllKept, IsNext, Memories, Settled, Trace, below, itself, nothing, one_more}
use Rattle.at_index.proofs.Locations.{same_location-is, same_location-itself}
use Rattle.at_evaluate.specs.Valued.{equations, meaning, kept_values}
use Rattle.at_evaluate.specs.Meant.{AreCircularWell, AreRightValues}
use Rattle.at_evaluate.specs.Inner.{AreKnown, Gains, IsEvaluated, is_inner, known_by}
use Rattle.at_evaluate.specs.Led.{AddsDemanded, DemandsOn, stays}
use Rattle.at_evaluate.specs.Traces.{AreJustified}
use Rattle.at_evaluate.specs.Sparing.{Counts}
use Rattle.at_evaluate.proofs.Counting.{counts_more, counts_none, counts_put, gains_one}
use Rattle.at_evaluate.proofs.of_nesting.Demanding.{demanded_none, demanded_then, demands_lead, demands_then}
use Rattle.at_evaluate.proofs.Entered.{not_none, there as is_some}
use Rattle.at_evaluate.proofs.Tests.{any_among, any_one}
use Rattle.at_evaluate.proofs.Sameness.{same_true}
use Rattle.at_evaluate.proofs.of_nesting.Ground.{ground_of}
use Rattle.at_evaluate.proofs.of_nesting.InnerGains.{Found, gains_none, gains_put, gains_then, gains_up}
use Rattle.at_evaluate.proofs.of_nesting.Remembered.{kept_now}
use Rattle.at_evaluate.proofs.of_traces.Justified.{contains_of}
use Rattle.at_evaluate.proofs.of_traces.SameWay.{AreAlike, evaluates_same, takes_next}

no_more : (n : ℕ) → suc n ≡ 0 → ⊥
no_more n e = omega (arith, e)

-- a predicate that says just what stands in a list
same_reads : (reads : Location ℕ → Bool) (ls : List (Location ℕ)) → ((l : Location ℕ) → Among l ls → reads l ≡ true) →
    ((l : Location ℕ) → reads l ≡ true → Among l ls) → (l : Location ℕ) → reads l ≡ list_any (same_location l) ls
same_reads reads ls has had l = by (reads l) (list_any (same_location l) ls) refl refl
  where
    by : (a b : Bool) → reads l ≡ a → list_any (same_location l) ls ≡ b → reads l ≡ list_any (same_location l) ls
    by true true e f = e ∙ sym f
    by false false e f = e ∙ sym f
    by true false e f = absurd (true≢false (sym (any_among (same_location l) l ls (had l e) (same_location-itself l)) ∙
        f))
    by false true e f =
        let (m, among, is) = any_one (same_location l) ls f in
        let here = has l (subst (λ x. Among x ls) (sym (same_location-is l m is)) among) in
        absurd (true≢false (sym here ∙ e))

puts_list : (old new : Entries) (i : Instance ℕ) (v : Value ℕ) (reads : Location ℕ → Bool)
    (ls : List (Location ℕ)) (us : List (Instance ℕ)) → ((l : Location ℕ) → reads l ≡ list_any (same_location l) ls) →
    PutsBy old i (Some v) reads us new → Puts old i (Some v) ls us new
puts_list old new i v reads ls us same puts =
    let is : reads ≡ (λ l. list_any (same_location l) ls) = λ k l. same l k in
    subst (λ (r : Location ℕ → Bool). PutsBy old i (Some v) r us new) is puts

-- where none came all is as it was
pub settled_none : (m : Memories) (q : Instance ℕ) (n : ℕ) (old new : Entries) →
    Settled m q n old new → n ≡ 0 → new ≡ old
settled_none m q _ old _ (nothing _) none = refl
settled_none m q _ old new (one_more n _ mid _ i t before next is absent all p) none = absurd (no_more n none)

-- the work counts what was settled
pub settled_counts : (m : Memories) (q : Instance ℕ) (n : ℕ) (old new : Entries) (w x : ℕ) → Settled m q n old new → w < 2 ^ 64 →
    x ≡ min (w + n) (2 ^ 64 - 1) → Counts old new w x
settled_counts m q _ old _ w x (nothing _) few counted = subst (λ k. Counts old old w k) (sym same) (counts_none old w few)
  where
    same : x ≡ w
    same = omega (arith, counted, few)
settled_counts m q _ old new w x (one_more n _ mid _ i t before next is absent all p) few counted =
    counts_more old mid new w (min (w + n) (2 ^ 64 - 1)) x (settled_counts m q n old mid w (min (w + n) (2 ^ 64 - 1)) before few refl)
    (i ∷ [], gains_one mid new i p.entry t.value p.value absent p.adds, omega (arith, counted))

-- of what is kept the value is the last one
abbrev pub LastKept : Memories → Entries → Type 0
LastKept m entries = (j : Instance ℕ) (v : Value ℕ) → kept_values entries j ≡ Some v → m.last j ≡ Some v

module _ (m : Memories) where
  alike_kept : (entries : Entries) (us : List (Instance ℕ)) → LastKept m entries → AreAllKept entries us →
      AreAlike m.last (kept_values entries) us
  alike_kept entries us last all u h =
      let (w, e) = is_some (kept_values entries u) (all u (contains_of us u h)) in e ∙ sym (last u w e)

  -- so it is of one entry more, with the value of its trace
  last_more : (old new : Entries) (i : Instance ℕ) (v : Value ℕ) (reads : Location ℕ → Bool)
      (us : List (Instance ℕ)) → LastKept m old → m.last i ≡ Some v → PutsBy old i (Some v) reads us new →
      LastKept m new
  last_more old new i v reads us last mine puts j w e = by (same_instance i j) refl
    where
      by : (b : Bool) → same_instance i j ≡ b → m.last j ≡ Some w
      by true at =
          let here = puts.adds j ∙ ap (λ (b : Bool). if b then Some puts.entry else old j) at in
          let is : Some v ≡ Some w = sym puts.value ∙ sym (ap value_at here) ∙ e in
          subst (λ (x : Instance ℕ). m.last x ≡ Some w) (same_true i j at) (mine ∙ is)
      by false at =
          let there = puts.adds j ∙ ap (λ (b : Bool). if b then Some puts.entry else old j) at in
          last j w (sym (ap value_at there) ∙ e)

module _ (rules : Rules) (s : Shown) (idle : IsIdle s) (m : Memories)
    (r : AreJustified rules (contents s) m) where
  -- demands lead from the instance to all that comes next
  pub next_demanded : (entries : Entries) → LastKept m entries → AreCircularWell rules →
      AreRightValues (contents s) (meaning rules) (kept_values entries) → (q i : Instance ℕ) → IsNext m entries q i →
      DemandsOn (contents s) (meaning rules) q i
  next_demanded entries last circular right q i itself = stays q
  next_demanded entries last circular right q i (below j _ t front back n is e all) =
      let way = r.justified j t is in
      demands_then (contents s) (meaning rules) q j i (next_demanded entries last circular right q j n)
      (takes_next (contents s) (equations rules) (meaning rules) m.last (kept_values entries) (is_inner rules)
      (ground_of rules (contents s) (kept_values entries) circular right) way.depth j t.value
      way.looks t.uses front i back (r.own j t is) way.evaluates e (alike_kept m entries front last all))

  -- so it leads to that
  pub next_led : (entries : Entries) → LastKept m entries → AreCircularWell rules →
      AreRightValues (contents s) (meaning rules) (kept_values entries) → (q i : Instance ℕ) → IsNext m entries q i →
      Leads (contents s) (meaning rules) q i
  next_led entries last circular right q i n =
      demands_lead (contents s) (meaning rules) q i (next_demanded entries last circular right q i n)

  -- a trace whose uses are kept is an evaluation over what is known
  comes : (entries : Entries) (f : Found) (i : Instance ℕ) (t : Trace) → LastKept m entries →
      (is : m.traced i ≡ Some t) → AreAllKept entries t.uses →
      IsEvaluated rules (contents s) (known_by entries f) i t.value (r.justified i t is).looks t.uses
  comes entries f i t last is all =
      let way = r.justified i t is in (
        way.depth,
        evaluates_same (contents s) (contents s) m.last (known_by entries f) (equations rules) (is_inner rules)
            way.depth (equations rules i) t.value way.looks t.uses way.evaluates (λ l h. refl) alike,
      )
    where
      alike : AreAlike m.last (known_by entries f) t.uses
      alike u h =
          let (w, e) = is_some (kept_values entries u) (all u (contains_of t.uses u h)) in
          kept_now entries f u w e ∙ sym (last u w e)

  -- one entry is settled
  one_gains : (old new : Entries) (f : Found) (i : Instance ℕ) (t : Trace) (w x : ℕ) →
      AreKnown rules (contents s) old f → LastKept m old → m.traced i ≡ Some t → old i ≡ None → AreAllKept old t.uses →
      PutsBy old i (Some t.value) t.reads t.uses new → x ≡ min (w + 1) (2 ^ 64 - 1) →
      Gains rules s i old new f f w x
  one_gains old new f i t w x known last is absent all p counted =
      let way = r.justified i t is in
      let puts = puts_list old new i t.value t.reads way.looks t.uses
      (same_reads t.reads way.looks way.reads way.looked) p in
      gains_put rules s i old new f t.value way.looks t.uses known (r.own i t is) (comes old f i t last is all) (Some t.value)
      (inl (refl, r.lazily i t is)) absent w x
      (counts_put old new i t.value way.looks t.uses w x absent puts counted) puts

  -- what comes so is demanded
  demanded_one : (old new : Entries) (i : Instance ℕ) (t : Trace) (q : Instance ℕ) →
      PutsBy old i (Some t.value) t.reads t.uses new → DemandsOn (contents s) (meaning rules) q i →
      AddsDemanded (contents s) (meaning rules) q (kept_values old) (kept_values new)
  demanded_one old new i t q puts d j absent some = by (same_instance i j) refl
    where
      by : (b : Bool) → same_instance i j ≡ b → DemandsOn (contents s) (meaning rules) q j
      by true at = subst (λ (x : Instance ℕ). DemandsOn (contents s) (meaning rules) q x) (same_true i j at) d
      by false at =
          let there = puts.adds j ∙ ap (λ (b : Bool). if b then Some puts.entry else old j) at in
          absurd (not_none (kept_values new j) some (ap value_at there ∙ absent))

  -- and one behind the other
  pub record HasSettled (q : Instance ℕ) (old new : Entries) (f : Found) (w x : ℕ) : Type 0 where
    pub gains : Gains rules s q old new f f w x
    pub last : LastKept m new
    pub demanded : AddsDemanded (contents s) (meaning rules) q (kept_values old) (kept_values new)

  settled : (q : Instance ℕ) (n : ℕ) (old new : Entries) (f : Found) (w : ℕ) → Settled m q n old new → w < 2 ^ 64
      →
      AreKnown rules (contents s) old f → LastKept m old → HasSettled q old new f w (min (w + n) (2 ^ 64 - 1))
  settled q _ old _ f w (nothing _) few known last =
      let is : w ≡ min (w + 0) (2 ^ 64 - 1) = omega (arith, few) in
      record {
        gains = subst (λ (z : ℕ). Gains rules s q old old f f w z) is (gains_none rules s q old f w few
            known);
        last = last;
        demanded = demanded_none (contents s) (meaning rules) q (kept_values old);
      }
  settled q _ old new f w (one_more n _ mid _ i t before next is absent all p) few known last =
      let h = settled q n old mid f w before few known last in
      let x = min (w + n) (2 ^ 64 - 1) in
      let y = min (x + 1) (2 ^ 64 - 1) in
      let sum : y ≡ min (w + suc n) (2 ^ 64 - 1) = omega (arith, few) in
      let led = next_led mid h.last h.gains.known.circular h.gains.known.right q i next in
      let one = one_gains mid new f i t x y h.gains.known h.last is absent all p refl in
      let both = gains_then rules s q old mid new f f f w x y h.gains
      (gains_up rules s idle q i mid new f f x y led one) in
      record {
        gains = subst (λ (z : ℕ). Gains rules s q old new f f w z) sum both;
        last = last_more m mid new i t.value t.reads t.uses h.last (r.value i t is) p;
        demanded = demanded_then (contents s) (meaning rules) q (kept_values old) (kept_values mid) (kept_values new)
            h.demanded (demanded_one mid new i t q p
            (next_demanded mid h.last h.gains.known.circular h.gains.known.right q i next));
      }

  -- all that is settled is demanded
  pub settled_demanded : (q : Instance ℕ) (n : ℕ) (old new : Entries) (f : Found) → Settled m q n old new →
      AreKnown rules (contents s) old f → LastKept m old →
      AddsDemanded (contents s) (meaning rules) q (kept_values old) (kept_values new)
  settled_demanded q n old new f steps known last =
      let few : 0 < 2 ^ 64 = omega arith in let h = settled q n old new f 0 steps few known last in h.demanded

  pub settled_gains : (q : Instance ℕ) (n : ℕ) (old new : Entries) (f : Found) (w x : ℕ) → Settled m q n old new →
      w < 2 ^ 64 → x ≡ min (w + n) (2 ^ 64 - 1) → AreKnown rules (contents s) old f → LastKept m old →
      Gains rules s q old new f f w x
  settled_gains q n old new f w x steps few counted known last =
      let h = settled q n old new f w steps few known last in
      subst (λ (z : ℕ). Gains rules s q old new f f w z) (sym counted) h.gains
