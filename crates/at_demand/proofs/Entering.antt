-- Entries without a value, one after the other.
use Rattle.std.proofs.Common.{◌≡◌, ◌⊎◌, ℕ, Bool, true, false, List, map, Some, None, inl, inr, refl, sym, ap, ◌∙◌, subst, if◌then◌else◌}
use Rattle.std.specs.Prelude.{IsSome}
use Rattle.at_model.specs.Run.{Instance, Location}
use Rattle.at_model.specs.Rules.{Rules, is_lazy}
use Rattle.at_store.specs.Located.{loc_view}
use Rattle.at_body.specs.Same.{same_instance}
use Rattle.at_cache.specs.Kept.{Kept, Entries, KeepsAll, Puts, value_at}
use Rattle.at_demand.specs.declared.gathering.Sources.{Sources}
use Rattle.at_evaluate.specs.Valued.{kept_values, ArePlain, KeepsEntries}
use Rattle.at_demand.specs.Known.{FoundAs, FoundKept, IsFound}
use Rattle.at_demand.specs.declared.evaluation.Find.{Find}
use Rattle.at_demand.specs.Keeping.{HasGathered, Shares}
use Rattle.at_evaluate.proofs.Entered.{entered_on, put_stays, valued_on}
use Rattle.at_demand.proofs.Gathered.{put_covers}
use Rattle.at_demand.proofs.OnlyLemmas.{put_only}
use Rattle.at_evaluate.proofs.Sameness.{same_true}

-- what was found took what is kept still
pub founds_on : (old new : Entries) → KeepsEntries old new → (found : List (Instance ℕ × Find)) → FoundKept old found → FoundKept new found
founds_on old new stays found all i f e = valued_on old new stays f.demanded.kept.items (all i f e)

module _ (rules : Rules) (found : List (Instance ℕ × Find)) where
  -- none came
  pub shares_none : (old new : Entries) → KeepsAll old new → Shares rules found old new
  shares_none old new all = record {
    stays = λ i some. all i;
    same = λ i. ap value_at (all i);
    comes = λ i some. inl (subst IsSome (all i) some);
    plain = λ plain i k is none. plain i k (sym (all i) ∙ is) none;
    covers = λ look whole covers i k is l h. covers i k (sym (all i) ∙ is) l h;
    only = λ look lean only i k is l h. only i k (sym (all i) ∙ is) l h;
  }

  -- and then more came
  pub shares_on : (old mid new : Entries) → Shares rules found old mid → Shares rules found mid new → Shares rules found old new
  shares_on old mid new a b = record {
    stays = λ i some. b.stays i (entered_on old mid a.stays i some) ∙ a.stays i some;
    same = λ i. b.same i ∙ a.same i;
    comes = λ i some. elim (b.comes i some) [ inl was ↦ a.comes i was | inr is ↦ inr is ];
    plain = λ plain. b.plain (a.plain plain);
    covers = λ look whole covers. b.covers look whole (a.covers look whole covers);
    only = λ look lean only. b.only look lean (a.only look lean only);
  }

  -- one comes, for what was found
  module _ (old new : Entries) (i : Instance ℕ) (f : Find) (s : Sources) (at : FoundAs found i f) (absent : old i ≡ None) (plain : is_lazy rules i.attribute ≡ false) (g : HasGathered old found f s) where
    shares_one : Puts old i None (map loc_view s.reads.items) s.kept.items new → Shares rules found old new
    shares_one p = record {
      stays = put_stays old new i p.entry absent p.adds;
      same = λ j. same j (same_instance i j) refl (p.adds j);
      comes = λ j some. comes j some (same_instance i j) refl (p.adds j);
      plain = λ all j k is none. still all j k none (same_instance i j) refl (sym (p.adds j) ∙ is);
      covers = λ look whole covers. put_covers rules look old found f s g.gathered whole g.kept covers new i None (whole at.0 i f at.1) p;
      only = λ look lean only. put_only rules look found f i lean (lean at.0 i f at.1) old s g.from only new None p;
    }
      where
        same : (j : Instance ℕ) (b : Bool) → same_instance i j ≡ b → new j ≡ (if b then Some p.entry else old j) → kept_values new j ≡ kept_values old j
        same j true s e = ap value_at e ∙ p.value ∙ sym (ap value_at (subst (λ x. old x ≡ None) (same_true i j s) absent))
        same j false s e = ap value_at e

        comes : (j : Instance ℕ) → IsSome (new j) → (b : Bool) → same_instance i j ≡ b → new j ≡ (if b then Some p.entry else old j) → IsSome (old j) ⊎ IsFound found j
        comes j some true s e = inr (subst (IsFound found) (same_true i j s) (at.0, f, at.1))
        comes j some false s e = inl (subst IsSome e some)

        still : ArePlain rules old → (j : Instance ℕ) (k : Kept) → k.value ≡ None → (b : Bool) → same_instance i j ≡ b → (if b then Some p.entry else old j) ≡ Some k → is_lazy rules j.attribute ≡ false
        still all j k none true s e = subst (λ (x : Instance ℕ). is_lazy rules x.attribute ≡ false) (same_true i j s) plain
        still all j k none false s e = all j k e none

    pub shares_put : (rs : List (Location ℕ)) (us : List (Instance ℕ)) → rs ≡ map loc_view s.reads.items → us ≡ s.kept.items → Puts old i None rs us new → Shares rules found old new
    shares_put rs us a b p = shares_one (subst (λ x. Puts old i None (map loc_view s.reads.items) x new) b (subst (λ x. Puts old i None x us new) a p))
