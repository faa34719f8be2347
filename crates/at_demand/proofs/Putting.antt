-- What a find that is to be kept leaves in what is kept.
use Rattle.std.proofs.Common.{◌≡◌, ◌<◌, ◌^◌, ◌⊎◌, ℕ, Bool, true, false, List, [], map, Some, None, Ok, Err, inl, inr, refl, sym, ap, ◌∙◌, subst, if◌then◌else◌, true≢false, arith, length, nat_eq, vec_len, ◌∷◌}
use Rattle.std.specs.Prelude.{IsSome, Vec}
use Rattle.std.specs.Global.{Global}
use Rattle.std.proofs.lemmas.Bool.{eqb-true}
use Rattle.std.proofs.lemmas.Option.{none-some, same_Some}
use Rattle.at_model.specs.Run.{Value, Instance, Location, Contents}
use Rattle.at_model.specs.Rules.{Rules, is_lazy}
use Rattle.at_store.specs.Located.{loc_view}
use Rattle.at_body.specs.Same.{same_instance}
use Rattle.at_body.specs.Values.{value_view}
use Rattle.at_cache.specs.Kept.{Kept, Entries, AreKept, KeepsAll, Puts, value_at}
use Rattle.at_demand.specs.declared.evaluation.Find.{Find}
use Rattle.at_demand.specs.declared.gathering.Sources.{Sources}
use Rattle.at_evaluate.specs.Valued.{kept_values, ArePlain, IsKept}
use Rattle.at_demand.specs.Known.{IsFound, MayAdd}
use Rattle.at_demand.specs.Keeping.{HasGathered, HasPlaced, KeepsWhereLazy, Shares}
use Rattle.at_evaluate.specs.Right.{AreCovered}
use Rattle.at_demand.specs.Covering.{AreWhole, IsWhole}
use Rattle.at_demand.specs.Only.{AreLean, IsLean}
use Rattle.at_evaluate.specs.Sparing.{AreOnly, Counts}
use Rattle.at_demand.specs.Worth.{MayGain}
use Rattle.at_evaluate.proofs.Counting.{counts_none}
use Rattle.at_evaluate.proofs.Entered.{entered_on, is_there, put_stays}
use Rattle.at_demand.proofs.Gathered.{gathered_alone, put_covers}
use Rattle.at_demand.proofs.OnlyLemmas.{from_alone, put_only}
use Rattle.at_evaluate.proofs.Sameness.{same_true, same_refl}
use Rattle.at_demand.proofs.Entering.{shares_none}

pub none_below : (positions : Vec ℕ Global) → nat_eq (vec_len positions) 0 ≡ true → positions.items ≡ []
none_below positions is = empty positions.items (let e = eqb-true (vec_len positions) 0 is in omega (arith, e, positions.ok.0))
  where
    empty : (xs : List ℕ) → length xs ≡ 0 → xs ≡ []
    empty [] e = refl
    empty (x ∷ xs) e = absurd (omega (arith, e))

pub put_as : (old : Entries) (i : Instance ℕ) (v : Value ℕ) (rs ss : List (Location ℕ)) (us ws : List (Instance ℕ)) (new : Entries) → Puts old i (Some v) rs us new → rs ≡ ss → us ≡ ws → Puts old i (Some v) ss ws new
put_as old i v rs ss us ws new puts a b = subst (λ x. Puts old i (Some v) ss x new) b (subst (λ x. Puts old i (Some v) x us new) a puts)

module _ (rules : Rules) (old : Entries) (found : List (Instance ℕ × Find)) (i : Instance ℕ) (f : Find) (new : Entries) where
  abbrev V : Value ℕ
  V = value_view f.value

  -- at most what is shared came, or the find's value came, too, for all that it rests on
  pub data IsPut : Type 0 where
    nothing : Shares rules found old new → IsPut
    kept : (mid : Entries) → Shares rules found old mid → mid i ≡ None → (s : Sources) → HasGathered mid found f s → Puts mid i (Some V) (map loc_view s.reads.items) s.kept.items new → IsPut

  pub placed_with : ((mid : Entries) → Shares rules found old mid → mid i ≡ None) → HasPlaced rules old found i f new → IsPut
  placed_with absent (mid, sh, s, g, p) = kept mid sh (absent mid sh) s g p

  pub placed_alone : old i ≡ None → f.demanded.finds.items ≡ [] → AreKept old f.demanded.kept.items → Puts old i (Some V) (map loc_view f.reads.items) f.demanded.kept.items new → IsPut
  placed_alone absent alone k p = kept old (shares_none rules found old old (λ j. refl)) absent (record { reads = f.reads; kept = f.demanded.kept }) (record { gathered = gathered_alone found f alone; from = from_alone found f; kept = k }) p

  pub unplaced : KeepsAll old new → IsPut
  unplaced all = nothing (shares_none rules found old new all)

  pub unplaced_with : Shares rules found old new → IsPut
  unplaced_with sh = nothing sh

  pub adds : IsPut → MayAdd old new i V
  adds (nothing sh) = record { stays = sh.stays; values = λ j. inl (sh.same j) }
  adds (kept mid sh absent s g p) = record {
    stays = λ j some. put_stays mid new i p.entry absent p.adds j (entered_on old mid sh.stays j some) ∙ sh.stays j some;
    values = λ j. by j (same_instance i j) refl (p.adds j);
  }
    where
      by : (j : Instance ℕ) (b : Bool) → same_instance i j ≡ b → new j ≡ (if b then Some p.entry else mid j) → (kept_values new j ≡ kept_values old j) ⊎ ((i ≡ j) × (kept_values new j ≡ Some V))
      by j true s e = inr (same_true i j s, ap value_at e ∙ p.value)
      by j false s e = inl (ap value_at e ∙ sh.same j)

  pub gains : is_lazy rules i.attribute ≡ true → IsPut → MayGain rules found old new i
  gains lazy put = let more = adds put in record {
    stays = more.stays;
    lazy = λ j. elim (more.values j) [ inl e ↦ inl e | inr p ↦ (let (same, v) = p in inr (same, is_there (kept_values new j) V v, lazy)) ];
    comes = λ j some. came put j some;
  }
    where
      came : IsPut → (j : Instance ℕ) → IsSome (new j) → IsSome (old j) ⊎ (((i ≡ j) × IsKept new j) ⊎ IsFound found j)
      came (nothing sh) j some = elim (sh.comes j some) [ inl was ↦ inl was | inr is ↦ inr (inr is) ]
      came (kept mid sh absent s g p) j some = by (same_instance i j) refl (p.adds j)
        where
          by : (b : Bool) → same_instance i j ≡ b → new j ≡ (if b then Some p.entry else mid j) → IsSome (old j) ⊎ (((i ≡ j) × IsKept new j) ⊎ IsFound found j)
          by true s e = inr (inl (same_true i j s, is_there (kept_values new j) V (ap value_at e ∙ p.value)))
          by false s e = elim (sh.comes j (subst IsSome e some)) [ inl was ↦ inl was | inr is ↦ inr (inr is) ]

  pub plain_after : ArePlain rules old → IsPut → ArePlain rules new
  plain_after plain (nothing sh) m e is none = sh.plain plain m e is none
  plain_after plain (kept mid sh absent s g p) m e is none = by (same_instance i m) refl (sym (p.adds m) ∙ is)
    where
      by : (b : Bool) → same_instance i m ≡ b → (if b then Some p.entry else mid m) ≡ Some e → is_lazy rules m.attribute ≡ false
      by true s at = absurd (none-some V (sym none ∙ sym (ap (λ (x : Kept). x.value) (same_Some p.entry e at)) ∙ p.value))
      by false s at = sh.plain plain m e at none

  module _ (look : Contents ℕ) where
    pub covers_all : IsPut → AreWhole rules look found → IsWhole rules look found i f → AreCovered rules look old → AreCovered rules look new
    covers_all (nothing sh) whole one covers = sh.covers look whole covers
    covers_all (kept mid sh absent s g p) whole one covers = put_covers rules look mid found f s g.gathered whole g.kept (sh.covers look whole covers) new i (Some V) one p

    pub covers_only : IsPut → AreLean rules look found → IsLean rules look found i f → AreOnly rules look old → AreOnly rules look new
    covers_only (nothing sh) lean one only = sh.only look lean only
    covers_only (kept mid sh absent s g p) lean one only = put_only rules look found f i lean one mid s g.from (sh.only look lean only) new (Some V) p

  -- the value is kept
  pub valued : (mid : Entries) (reads : List (Location ℕ)) (uses : List (Instance ℕ)) → Puts mid i (Some V) reads uses new → kept_values new i ≡ Some V
  valued mid reads uses p = ap value_at (p.adds i ∙ ap (λ (b : Bool). if b then Some p.entry else mid i) (same_refl i)) ∙ p.value

  pub valued_with : HasPlaced rules old found i f new → kept_values new i ≡ Some V
  valued_with (mid, sh, s, g, p) = valued mid (map loc_view s.reads.items) s.kept.items p

  module _ {E : Type 0} (w x : ℕ) (lazy : is_lazy rules i.attribute ≡ true) (plain : ArePlain rules old) (put : IsPut) (counts : Counts old new w x) where
    -- and so it is said
    pub keeps_found : kept_values new i ≡ Some V → KeepsWhereLazy {E = E} rules old new w x found i f (Ok true)
    keeps_found is = record {
      adds = adds put;
      covers = λ look. covers_all look put;
      gains = gains lazy put;
      keeps = λ l. is_there (kept_values new i) V is;
      only = λ look. covers_only look put;
      plain = plain_after plain put;
      counts = counts;
      says = is;
    }

    -- or memory is wanting
    pub keeps_failed : (e : E) → KeepsWhereLazy rules old new w x found i f (Err e)
    keeps_failed e = record {
      adds = adds put;
      covers = λ look. covers_all look put;
      gains = gains lazy put;
      keeps = λ l. tt;
      only = λ look. covers_only look put;
      plain = plain_after plain put;
      counts = counts;
      says = tt;
    }

-- a find that isn't to be kept leaves what is kept as it is
pub left_out : {E : Type 0} (rules : Rules) (entries : Entries) (w : ℕ) (found : List (Instance ℕ × Find)) (i : Instance ℕ) (f : Find) → is_lazy rules i.attribute ≡ false → ArePlain rules entries → w < 2 ^ 64 → KeepsWhereLazy {E = E} rules entries entries w w found i f (Ok false)
left_out rules entries w found i f other plain few = record {
  adds = record { stays = λ j some. refl; values = λ j. inl refl };
  covers = λ look whole one covers. covers;
  gains = record { stays = λ j some. refl; lazy = λ j. inl refl; comes = λ j some. inl some };
  keeps = λ lazy. absurd (true≢false (sym lazy ∙ other));
  only = λ look all one only. only;
  plain = plain;
  counts = counts_none entries w few;
  says = tt;
}
