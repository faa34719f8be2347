-- What stands with a find is only what its evaluation sees and comes to; so the sources stand for nothing but what supports the
-- instance.
use Rattle.std.proofs.Common.{◌≡◌, ◌⊎◌, ℕ, zero, suc, Bool, true, false, List, [], ◌∷◌, ◌++◌, map, slice_get, Option, Some, None, OnOk, Ok, Err, inl, inr, refl, sym, ap, ◌∙◌, subst, if◌then◌else◌, true≢false}
use Rattle.std.specs.Prelude.{Result}
use Rattle.std.specs.List.{list_any}
use Rattle.std.proofs.lemmas.Option.{none-some, same_Some}
use Rattle.indexmap.specs.IndexSet.{insert_key}
use Rattle.std.proofs.Common.{nat_eq}
use Rattle.at_model.specs.Run.{Value, Instance, Location, Contents, Gives, Demands}
use Rattle.at_model.specs.Rules.{Rules, start_of}
use Rattle.at_model.specs.Meaning.{Among, Reaches}
use Rattle.at_model.specs.of_fixpoints.Fixpoints.{HasValue}
use Rattle.at_model.specs.of_fixpoints.Resting.{Leads, Supports, goes, stays}
use Rattle.at_model.proofs.of_searching.Turned.{leads_by}
use Rattle.at_model.proofs.Listed.{among_map}
use Rattle.at_store.specs.Located.{loc_view}
use Rattle.at_body.specs.Same.{same_instance}
use Rattle.at_body.specs.Values.{value_view}
use Rattle.at_body.specs.Rest.{resumed}
use Rattle.at_body.specs.declared.value.Value.{Value as ValueCode}
use Rattle.at_body.specs.declared.trial.Step.TheVariants as step
use Rattle.at_body.specs.declared.trial.Trial.{Trial}
use Rattle.at_cache.specs.Kept.{Kept, Entries, Puts, covered, covers_at}
use Rattle.at_index.specs.Sameness.{same_location}
use Rattle.at_index.proofs.Locations.{same_location-is}
use Rattle.at_index.proofs.Lists.{get_push}
use Rattle.at_demand.specs.declared.evaluation.Demanded.{Demanded}
use Rattle.at_demand.specs.declared.evaluation.Find.{Find}
use Rattle.at_demand.specs.declared.evaluation.Frame.{Frame}
use Rattle.at_demand.specs.declared.gathering.Sources.{Sources}
use Rattle.at_evaluate.specs.Valued.{meaning}
use Rattle.at_demand.specs.UnderWay.{HasStepped}
use Rattle.at_demand.specs.Covering.{Extends, IsDemanded}
use Rattle.at_demand.specs.Only.{TakesOnly, IsLean, AreLean, LeadsTo, itself, further, IsFrom, AreFrom, VisitsOnly, AddsOnly, AddsOnlyAt}
use Rattle.at_evaluate.proofs.Sameness.{same_true}
use Rattle.at_demand.proofs.Coming.{comes}
use Rattle.at_demand.proofs.Seeing.{read_seen}
use Rattle.at_demand.proofs.Extending.{get_more, map_among}
use Rattle.at_model.proofs.of_formulas.PlainRules.{plain}
use Rattle.at_demand.proofs.of_levels.Plain.{past_formula}
use Rattle.at_evaluate.proofs.Tests.{either, any_one}

pub get_among : {A : Type 0} (xs : List A) (n : ℕ) (a : A) → slice_get xs n ≡ Some a → Among a xs
get_among [] n a e = absurd (none-some a e)
get_among (x ∷ xs) zero a e = inl (sym (same_Some x a e))
get_among (x ∷ xs) (suc n) a e = inr (get_among xs n a e)

parts : {A : Type 0} (xs ys : List A) (a : A) → Among a (xs ++ ys) → Among a xs ⊎ Among a ys
parts [] ys a h = inr h
parts (x ∷ xs) ys a (inl e) = inl (inl e)
parts (x ∷ xs) ys a (inr h) = elim (parts xs ys a h) [ inl g ↦ inl (inr g) | inr g ↦ inr g ]

-- one position more
pub visits_one : (done old new next : List ℕ) (k : ℕ) → VisitsOnly done old new → next ≡ insert_key nat_eq new k → VisitsOnly (done ++ k ∷ []) old next
visits_one done old new next k v e p h = elim (inserted_only new p (subst (Among p) e h)) [
  | inl g ↦ elim (v p g) [ inl a ↦ inl a | inr b ↦ inr (front done p b) ]
  | inr same ↦ inr (back done p same)
]
  where
    front : (ds : List ℕ) (p : ℕ) → Among p ds → Among p (ds ++ k ∷ [])
    front [] p a = absurd a
    front (d ∷ ds) p (inl s) = inl s
    front (d ∷ ds) p (inr a) = inr (front ds p a)

    back : (ds : List ℕ) (p : ℕ) → p ≡ k → Among p (ds ++ k ∷ [])
    back [] p s = inl s
    back (d ∷ ds) p s = inr (back ds p s)

    inserted_only : (ks : List ℕ) (p : ℕ) → Among p (insert_key nat_eq ks k) → Among p ks ⊎ (p ≡ k)
    inserted_only ks p a = by (list_any (nat_eq k) ks) a
      where
        by : (b : Bool) → Among p (if b then ks else ks ++ k ∷ []) → Among p ks ⊎ (p ≡ k)
        by true a = inl a
        by false a = elim (parts ks (k ∷ []) p a) [ inl g ↦ inl g | inr g ↦ elim g [ inl s ↦ inr s | inr z ↦ absurd z ] ]

-- a find is added
pub adds_only : (f : Find) (s t : Sources) (ps qs : List ℕ) → t.reads.items ≡ s.reads.items ++ f.reads.items → t.kept.items ≡ s.kept.items ++ f.demanded.kept.items → VisitsOnly f.demanded.finds.items ps qs → AddsOnly f s t ps qs
adds_only f s t ps qs reads kept finds = record {
  reads = λ x h. parts s.reads.items f.reads.items x (subst (Among x) reads h);
  kept = λ u h. parts s.kept.items f.demanded.kept.items u (subst (Among u) kept h);
  finds = finds;
}

pub adds_only_after : {E : Type 0} (r : Result (Unit {0}) E) (f : Find) (s t : Sources) (ps qs : List ℕ) → t.reads.items ≡ s.reads.items ++ f.reads.items → t.kept.items ≡ s.kept.items ++ f.demanded.kept.items → OnOk r (VisitsOnly f.demanded.finds.items ps qs) → OnOk r (AddsOnly f s t ps qs)
adds_only_after (Ok u) f s t ps qs reads kept finds = adds_only f s t ps qs reads kept finds
adds_only_after (Err e) f s t ps qs reads kept finds = tt

-- the find there is added
pub adds_only_one : {E : Type 0} (found : List (Instance ℕ × Find)) (r : Result (Unit {0}) E) (next p : ℕ) (i : Instance ℕ) (g : Find) (s t : Sources) (ps qs : List ℕ) → Some p ≡ slice_get ps next → Some (i, g) ≡ slice_get found p → OnOk r (AddsOnly g s t ps qs) → OnOk r (AddsOnlyAt found next s t ps qs)
adds_only_one found (Ok u) next p i g s t ps qs at is adds = inr (inl (g, (p, i, sym at, sym is), adds))
adds_only_one found (Err e) next p i g s t ps qs at is adds = tt

module _ (found : List (Instance ℕ × Find)) (f : Find) where
  -- nothing is gathered yet
  pub from_none : (s : Sources) → s.reads.items ≡ [] → s.kept.items ≡ [] → IsFrom found f s []
  from_none s reads kept = record {
    reads = λ x h. absurd (subst (Among x) reads h);
    kept = λ u h. absurd (subst (Among u) kept h);
    finds = λ p h. absurd h;
  }

  -- what stands with a find to which the first one leads is added
  pub from_more : (g : Find) (s t : Sources) (ps qs : List ℕ) → LeadsTo found f g → IsFrom found f s ps → AddsOnly g s t ps qs → IsFrom found f t qs
  from_more g s t ps qs leads from adds = record {
    reads = λ x h. elim (adds.reads x h) [ inl a ↦ from.reads x a | inr b ↦ (g, leads, b) ];
    kept = λ u h. elim (adds.kept u h) [ inl a ↦ from.kept u a | inr b ↦ (g, leads, inl b) ];
    finds = λ p h. elim (adds.finds p h) [ inl a ↦ from.finds p a | inr b ↦ (g, leads, b) ];
  }

  -- the first find alone
  pub from_first : (s t : Sources) (ps qs : List ℕ) → s.reads.items ≡ [] → s.kept.items ≡ [] → ps ≡ [] → AddsOnly f s t ps qs → IsFrom found f t qs
  from_first s t ps qs reads kept none adds = from_more f s t ps qs itself (subst (IsFrom found f s) (sym none) (from_none s reads kept)) adds

  -- as the loop goes on
  pub from_next : (s t : Sources) (ps qs : List ℕ) (next : ℕ) → IsFrom found f s ps → AddsOnlyAt found next s t ps qs → IsFrom found f t qs
  from_next s t ps qs next from (inl (same, also)) = subst (λ x. IsFrom found f x qs) (sym same) (subst (IsFrom found f s) (sym also) from)
  from_next s t ps qs next from (inr (inl (g, (p, i, at, is), adds))) =
      let (h, leads, among) = from.finds p (get_among ps next p at) in
      from_more g s t ps qs (further h g p i leads among is) from adds
  from_next s t ps qs next from (inr (inr u)) =
      let (h, leads, among) = from.finds u.position (get_among ps next u.position u.at) in
      let taken : IsDemanded found h.demanded u.inst = inr (u.position, u.find, among, u.is) in
      let there : IsFrom found f t ps = record {
        reads = λ x a. from.reads x (subst (Among x) u.reads a);
        kept = λ w a. elim (parts s.kept.items (u.inst ∷ []) w (subst (Among w) u.kept a)) [
          | inl b ↦ from.kept w b
          | inr b ↦ elim b [ inl e ↦ (h, leads, subst (IsDemanded found h.demanded) (sym e) taken) | inr z ↦ absurd z ]
        ];
        finds = from.finds;
      } in
      subst (IsFrom found f t) (sym u.same) there

-- the instance of the find there is used
pub adds_only_used : (found : List (Instance ℕ × Find)) (next p : ℕ) (i : Instance ℕ) (g : Find) (s t : Sources) (ps : List ℕ) → Some p ≡ slice_get ps next → Some (i, g) ≡ slice_get found p → t.reads.items ≡ s.reads.items → t.kept.items ≡ s.kept.items ++ i ∷ [] → AddsOnlyAt found next s t ps ps
adds_only_used found next p i g s t ps at is reads kept = inr (inr (record { position = p; inst = i; find = g; at = sym at; is = sym is; reads = reads; kept = kept; same = refl }))

pub adds_only_used_after : {E : Type 0} (found : List (Instance ℕ × Find)) (r : Result (Unit {0}) E) (next p : ℕ) (i : Instance ℕ) (g : Find) (s t : Sources) (ps : List ℕ) → Some p ≡ slice_get ps next → Some (i, g) ≡ slice_get found p → t.reads.items ≡ s.reads.items → OnOk r (t.kept.items ≡ s.kept.items ++ i ∷ []) → OnOk r (AddsOnlyAt found next s t ps ps)
adds_only_used_after found (Ok u) next p i g s t ps at is reads kept = adds_only_used found next p i g s t ps at is reads kept
adds_only_used_after found (Err e) next p i g s t ps at is reads kept = tt

module _ (rules : Rules) (look : Contents ℕ) where
  -- evaluations that take only what they come to
  pub takes_none : (found : List (Instance ℕ × Find)) (i : Instance ℕ) (d : Demanded) → d.kept.items ≡ [] → d.finds.items ≡ [] → TakesOnly rules look found i d
  takes_none found i d kept finds = record { kept = λ j h. absurd (subst (Among j) kept h); finds = λ p h. absurd (subst (Among p) finds h) }

  pub takes_more : (found more : List (Instance ℕ × Find)) (i : Instance ℕ) (d : Demanded) → Extends found more → TakesOnly rules look found i d → TakesOnly rules look more i d
  takes_more found more i d grows t = record {
    kept = t.kept;
    finds = λ p h. let (j, g, is, c) = t.finds p h in (j, g, get_more found more p (j, g) grows is, c);
  }

  pub takes_one : (found : List (Instance ℕ × Find)) (i j : Instance ℕ) (old new : Demanded) → Leads look (meaning rules) i j →
      ((new.kept.items ≡ old.kept.items ++ j ∷ []) × (new.finds.items ≡ old.finds.items)) ⊎ ((p : ℕ) × (f : Find) × (slice_get found p ≡ Some (j, f)) × (new.kept.items ≡ old.kept.items) × (new.finds.items ≡ old.finds.items ++ p ∷ [])) →
      TakesOnly rules look found i old → TakesOnly rules look found i new
  takes_one found i j old new c (inl (kept, finds)) t = record {
    kept = λ k h. elim (parts old.kept.items (j ∷ []) k (subst (Among k) kept h)) [
      | inl a ↦ t.kept k a
      | inr b ↦ elim b [ inl s ↦ subst (Leads look (meaning rules) i) (sym s) c | inr z ↦ absurd z ]
    ];
    finds = λ p h. t.finds p (subst (Among p) finds h);
  }
  takes_one found i j old new c (inr (p, f, is, kept, finds)) t = record {
    kept = λ k h. t.kept k (subst (Among k) kept h);
    finds = λ q h. elim (parts old.finds.items (p ∷ []) q (subst (Among q) finds h)) [
      | inl a ↦ t.finds q a
      | inr b ↦ elim b [ inl s ↦ (j, f, subst (λ n. slice_get found n ≡ Some (j, f)) (sym s) is, c) | inr z ↦ absurd z ]
    ];
  }

  -- an evaluation that needs j demands it, where the attribute isn't circular
  pub needs_reaches : (i j : Instance ℕ) (t : Trial) → start_of rules i.attribute ≡ None → HasStepped rules look i t (step.Need j) → Reaches look (HasValue look (meaning rules)) ((meaning rules).formula i) j
  needs_reaches i j t none (js, past) = comes look (HasValue look (meaning rules)) ((meaning rules).formula i) j (λ v. plain (resumed rules.classes t v)) js t.reads _ refl
      (past_formula rules look i none (HasValue look (meaning rules)) (Demands j (resumed rules.classes t)) js t.reads past)

  pub needs_leads : (i j : Instance ℕ) (t : Trial) → start_of rules i.attribute ≡ None → HasStepped rules look i t (step.Need j) → Leads look (meaning rules) i j
  needs_leads i j t none stepped = goes i j j (inl (needs_reaches i j t none stepped)) (stays j)

  -- at its end
  pub lean : (found : List (Instance ℕ × Find)) (i : Instance ℕ) (f : Frame) (v : ValueCode) (d : Find) → start_of rules i.attribute ≡ None → HasStepped rules look i f.trial (step.Value v) → TakesOnly rules look found i f.demanded → map loc_view d.reads.items ≡ f.trial.reads → d.demanded ≡ f.demanded → IsLean rules look found i d
  lean found i f v d none (js, past) takes reads demanded = record {
    reads = λ l h. (i, stays i, read_seen look (meaning rules) ((meaning rules).formula i) (plain (Gives (value_view v))) js f.trial.reads l (past_formula rules look i none (HasValue look (meaning rules)) (Gives (value_view v)) js f.trial.reads past) (subst (Among l) reads h));
    takes = subst (TakesOnly rules look found i) (sym demanded) takes;
  }

  pub lean_more : (found more : List (Instance ℕ × Find)) (i : Instance ℕ) (d : Find) → Extends found more → IsLean rules look found i d → IsLean rules look more i d
  lean_more found more i d grows l = record { reads = l.reads; takes = takes_more found more i d.demanded grows l.takes }

  pub lean_push : (found : List (Instance ℕ × Find)) (i : Instance ℕ) (d : Find) → AreLean rules look found → IsLean rules look found i d → AreLean rules look (found ++ (i, d) ∷ [])
  lean_push found i d all one p j g is = elim (get_push found (i, d) p (j, g) is) [
    | inl e ↦ lean_more found (found ++ (i, d) ∷ []) j g ((i, d) ∷ [], refl) (all p j g e)
    | inr e ↦ subst (λ (x : Instance ℕ × Find). IsLean rules look (found ++ (i, d) ∷ []) x.0 x.1) e.1 (lean_more found (found ++ (i, d) ∷ []) i d ((i, d) ∷ [], refl) one)
  ]

  -- what supports one to which it leads supports it
  pub supports_on : (i j : Instance ℕ) (l : Location ℕ) → Leads look (meaning rules) i j → Supports look (meaning rules) l j → Supports look (meaning rules) l i
  supports_on i j l led (k, more, sees) = (k, leads_by look (meaning rules) i j k led more, sees)

  -- what stands with a find stands for nothing but what supports its instance
  module _ (found : List (Instance ℕ × Find)) (f : Find) (i : Instance ℕ) (all : AreLean rules look found) (one : IsLean rules look found i f) where
    -- it is that of an instance to which i leads
    abbrev IsLed : Find → Type 0
    IsLed g = (j : Instance ℕ) × Leads look (meaning rules) i j × IsLean rules look found j g

    led : (g : Find) → LeadsTo found f g → IsLed g
    led _ itself = (i, stays i, one)
    led _ (further g h p k way among is) =
        let (j, leads, lean) = led g way in
        let (m, d, at, c) = lean.takes.finds p among in
        let same : (m, d) ≡ (k, h) = same_Some (m, d) (k, h) (sym at ∙ is) in
        let P : Instance ℕ × Find → Type 0 = λ x. IsLed x.1 in
        subst P same (m, leads_by look (meaning rules) i j m leads c, all p m d at)

    module _ (entries : Entries) (s : Sources) (from : AreFrom found f s)
        (only : (u : Instance ℕ) (k : Kept) → entries u ≡ Some k → (l : Location ℕ) → k.covers l ≡ true → Supports look (meaning rules) l u) where
      read_supports : (l : Location ℕ) → Among l (map loc_view s.reads.items) → Supports look (meaning rules) l i
      read_supports l h =
          let (x, among, is) = map_among loc_view l s.reads.items h in
          let (g, way, has) = from.1.reads x among in
          let (j, leads, lean) = led g way in
          supports_on i j l leads (lean.reads l (subst (λ m. Among m (map loc_view g.reads.items)) is (among_map loc_view x g.reads.items has)))

      kept_supports : (u : Instance ℕ) (l : Location ℕ) → Among u s.kept.items → covers_at (entries u) l ≡ true → Supports look (meaning rules) l i
      kept_supports u l h at =
          let (g, way, has) = from.1.kept u h in
          let (j, leads, lean) = led g way in
          supports_on i u l (leads_by look (meaning rules) i j u leads (comes_to j g lean has)) (by (entries u) refl at)
        where
          comes_to : (j : Instance ℕ) (g : Find) → IsLean rules look found j g → IsDemanded found g.demanded u → Leads look (meaning rules) j u
          comes_to j g lean (inl a) = lean.takes.kept u a
          comes_to j g lean (inr (p, h, among, is)) =
              let (m, d, at, c) = lean.takes.finds p among in
              subst (Leads look (meaning rules) j) (ap (λ (x : Instance ℕ × Find). x.0) (same_Some (m, d) (u, h) (sym at ∙ is))) c

          by : (o : Option Kept) → entries u ≡ o → covers_at o l ≡ true → Supports look (meaning rules) l u
          by None is c = absurd (true≢false (sym c))
          by (Some k) is c = only u k is l c

      pub covered_supports : (l : Location ℕ) → covered entries (map loc_view s.reads.items) s.kept.items l ≡ true → Supports look (meaning rules) l i
      covered_supports l h = elim (either _ _ h) [
        | inl a ↦ (let (m, among, is) = any_one (same_location l) (map loc_view s.reads.items) a in read_supports l (subst (λ x. Among x (map loc_view s.reads.items)) (sym (same_location-is l m is)) among))
        | inr b ↦ (let (u, among, is) = any_one (λ u. covers_at (entries u) l) s.kept.items b in kept_supports u l among is)
      ]

      -- and so what is put
      pub put_only : (new : Entries) (v : Option (Value ℕ)) → Puts entries i v (map loc_view s.reads.items) s.kept.items new → (m : Instance ℕ) (k : Kept) → new m ≡ Some k → (l : Location ℕ) → k.covers l ≡ true → Supports look (meaning rules) l m
      put_only new v p m k is l h = by (same_instance i m) refl (sym (p.adds m) ∙ is)
        where
          by : (t : Bool) → same_instance i m ≡ t → (if t then Some p.entry else entries m) ≡ Some k → Supports look (meaning rules) l m
          by true at e =
              let same : p.entry ≡ k = same_Some p.entry k e in
              subst (Supports look (meaning rules) l) (same_true i m at) (covered_supports l (p.only l (ap (λ (x : Kept). x.covers l) same ∙ h)))
          by false at e = only m k e l h

-- where no other find stands below, nothing else is gathered
pub from_alone : (found : List (Instance ℕ × Find)) (f : Find) → AreFrom found f (record { reads = f.reads; kept = f.demanded.kept })
from_alone found f = ([], record { reads = λ x h. (f, itself, h); kept = λ u h. (f, itself, inl h); finds = λ p h. absurd h })
