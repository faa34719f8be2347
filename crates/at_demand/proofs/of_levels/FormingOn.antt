-- The evaluation of an instance of a circular attribute goes on, past what it demands.
use Rattle.std.proofs.Common.{◌≡◌, ℕ, nat_eq, List, [], inl, inr, refl, sym, ap, subst}
use Rattle.std.specs.Global.{Box}
use Rattle.std.specs.Prelude.{IsSome, Vec}
use Rattle.at_model.specs.Follow.{follow}
use Rattle.at_model.specs.Meaning.{Among, Reaches}
use Rattle.at_model.specs.Rules.{Rules, start_of}
use Rattle.at_model.specs.Run.{Value, Instance, Contents, Run, Gives, Fails, Demands}
use Rattle.at_model.specs.TypedRuns.{ClassAt}
use Rattle.at_model.specs.of_fixpoints.Evaluations.{evaluation}
use Rattle.at_model.specs.of_fixpoints.Fixpoints.{EndsSo, HasValue, Made, Spoilt}
use Rattle.at_model.specs.of_fixpoints.Formulas.{Formula}
use Rattle.at_body.specs.Forms.{reached, told}
use Rattle.at_body.specs.TypedForms.{IsForm}
use Rattle.at_body.specs.Values.{fault_view}
use Rattle.at_body.specs.declared.forming.Progress.{Progress}
use Rattle.at_body.specs.declared.forming.Progress.TheVariants as progress
use Rattle.at_index.proofs.Lists.{get_contains}
use Rattle.at_cache.specs.Kept.{Entries}
use Rattle.at_search.specs.declared.ended.Formed.{Formed}
use Rattle.at_demand.specs.declared.evaluation.Demanded.{Demanded}
use Rattle.at_demand.specs.declared.evaluation.Find.{Find}
use Rattle.at_demand.specs.declared.formation.Formation.{Formation}
use Rattle.at_demand.specs.declared.trying.Going.TheVariants as going
use Rattle.at_demand.specs.declared.trying.Tried.{Tried}
use Rattle.at_demand.specs.Attempts.{HasFormedTo}
use Rattle.at_demand.specs.Covering.{IsDemanded, IsTold}
use Rattle.at_demand.specs.Forming.{HasPassedToForm, IsFormedBy, IsFormedFrom, IsOpenAt}
use Rattle.at_evaluate.specs.Valued.{AreValued, IsKept, meaning}
use Rattle.at_demand.specs.Levels.{IsFormOf, IsUsed}
use Rattle.at_demand.specs.Tries.{HasTriedTo, NeedsOther}
use Rattle.at_demand.proofs.Coming.{begins, comes, ends_past, goes_on}
use Rattle.at_demand.proofs.Extending.{among_at}
use Rattle.at_demand.proofs.of_levels.FailedMet.{failed_met}
use Rattle.at_demand.proofs.Passing.{past_has, past_more}
use Rattle.at_demand.proofs.Seeing.{comes_told, read_seen, sees_read}

same_items : {A Z : Type 0} (v w : Vec A Z) → v ≡ w → v.items ≡ w.items
same_items {A} {Z} v w e = ap (λ (x : Vec A Z). x.items) e

-- an evaluation at its end needs nothing
pub form_at_end : (entries : Entries) (found : List (Instance ℕ × Find)) (p : Progress) → ((j : Instance ℕ) → p ≡ progress.Need j → ⊥) → IsOpenAt entries found p
form_at_end entries found (progress.Formula f) h = tt
form_at_end entries found (progress.Fault k) h = tt
form_at_end entries found (progress.Need j) h = absurd (h j refl)

module _ (rules : Rules) (look : Contents ℕ) where
  pub formed_start : (found : List (Instance ℕ × Find)) (i : Instance ℕ) (f : Formation) (p : Progress) → follow look [] ((evaluation rules nat_eq).formula i) ≡ (reached rules p f.forming, f.forming.trial.reads) → HasPassedToForm rules look found i f p
  formed_start found i f p e = begins look (IsTold rules look found f.demanded) ((meaning rules).formula i) (reached rules p f.forming) f.forming.trial.reads e

  pub formed_on : (found : List (Instance ℕ × Find)) (i j : Instance ℕ) (f g : Formation) (v : Value ℕ) (p : Progress) → HasPassedToForm rules look found i f (progress.Need j) → ((k : Instance ℕ) → IsDemanded found f.demanded k → IsDemanded found g.demanded k) → IsDemanded found g.demanded j → HasValue look (meaning rules) j v →
      follow look f.forming.trial.reads (told rules f.forming v) ≡ (reached rules p g.forming, g.forming.trial.reads) → HasPassedToForm rules look found i g p
  formed_on found i j f g v p (js, past) wide taken h e =
      let run = (meaning rules).formula i in
      let more = past_more look (IsTold rules look found f.demanded) (IsTold rules look found g.demanded) (λ k w t. (t.0, wide k t.1)) run (Demands j (told rules f.forming)) js f.forming.trial.reads past in
      goes_on look (IsTold rules look found g.demanded) run j (told rules f.forming) v js f.forming.trial.reads g.forming.trial.reads (reached rules p g.forming) more (h, taken) e

  -- what it waits for is demanded
  pub form_comes : (found : List (Instance ℕ × Find)) (i j : Instance ℕ) (f : Formation) → HasPassedToForm rules look found i f (progress.Need j) → Reaches look (HasValue look (meaning rules)) ((meaning rules).formula i) j
  form_comes found i j f (js, past) =
      let run = (meaning rules).formula i in
      let plain = past_more look (IsTold rules look found f.demanded) (HasValue look (meaning rules)) (λ k w t. t.0) run (Demands j (told rules f.forming)) js f.forming.trial.reads past in
      comes look (HasValue look (meaning rules)) run j (told rules f.forming) js f.forming.trial.reads _ refl plain

  -- its formula, with all that it looked at and took
  module _ (at : ClassAt ℕ) (entries : Entries) (found : List (Instance ℕ × Find)) (i : Instance ℕ) where
    used : (d : Demanded) (f : Formed) (j : Instance ℕ) → f.kept ≡ d.kept → f.finds ≡ d.finds → IsDemanded found d j → IsUsed found f j
    used d f j kept finds (inl a) = inl (subst (Among j) (sym (same_items f.kept d.kept kept)) a)
    used d f j kept finds (inr (p, g, a, is)) = inr (p, g, subst (Among p) (sym (same_items f.finds d.finds finds)) a, is)

    is_kept : (us : List (Instance ℕ)) (u : Instance ℕ) → AreValued entries us → Among u us → IsKept entries u
    is_kept us u all h = let (n, less, is) = among_at u us h in all u (get_contains us n u is)

    is_form_of : (b : Formation) (f : Formula ℕ) (d : Formed) → HasFormedTo rules at look entries found i b (progress.Formula f) → IsFormedFrom b f d → IsFormOf rules look entries found i d
    is_form_of b f d h from =
        let (js, past) = h.passed in
        let run = (meaning rules).formula i in
        let end : Run ℕ (Formula ℕ) = Gives f in
        let has = IsTold rules look found b.demanded in
        let holds = past_more look has (HasValue look (meaning rules)) (λ k w t. t.0) run end js b.forming.trial.reads past in
        record {
          reads = λ l s. subst (Among l) (sym from.reads) (sees_read look (meaning rules) run end f js b.forming.trial.reads l refl holds s);
          demands = λ j r.
              let (w, t) = past_has look has run end js b.forming.trial.reads j past (comes_told look (meaning rules) run end f js b.forming.trial.reads j refl holds r) in
              used b.demanded d j from.kept from.finds t.1;
          sees = λ l a. read_seen look (meaning rules) run end js b.forming.trial.reads l holds (subst (Among l) from.reads a);
          kept = λ j a.
              let u = subst (Among j) (same_items d.kept b.demanded.kept from.kept) a in
              (is_kept b.demanded.kept.items j h.kept u, h.takes.kept j u);
          finds = λ p a. h.takes.finds p (subst (Among p) (same_items d.finds b.demanded.finds from.finds) a);
        }

    pub formed_tried : IsSome (start_of rules i.attribute) → (b : Box Formation) (p : Progress) (r : Tried) → HasFormedTo rules at look entries found i b.value p → IsOpenAt entries found p → IsFormedBy p b r → HasTriedTo rules at look entries entries found i r
    formed_tried some b (progress.Formula f) r h free (d, is, from) =
        let (js, past) = h.passed in
        let holds = past_more look (IsTold rules look found b.value.demanded) (HasValue look (meaning rules)) (λ k w t. t.0) ((meaning rules).formula i) (Gives f) js b.value.forming.trial.reads past in
        let ends : EndsSo look (meaning rules) i (Made f) = ends_past look (meaning rules) i (Made f) ((meaning rules).formula i) (Gives f) js b.value.forming.trial.reads holds (0, refl) in
        subst (HasTriedTo rules at look entries entries found i) (sym is) (
          subst (λ g. EndsSo look (meaning rules) i (Made g)) (sym from.formula) ends,
          is_form_of b.value f d h from,
          subst (λ g. IsForm rules at g) (sym from.formula) h.typed,
          some,
        )
    formed_tried some b (progress.Fault k) r h free is =
        let (js, past) = h.passed in
        let holds = past_more look (IsTold rules look found b.value.demanded) (HasValue look (meaning rules)) (λ k w t. t.0) ((meaning rules).formula i) (Fails (fault_view k)) js b.value.forming.trial.reads past in
        let ends : EndsSo look (meaning rules) i (Spoilt (fault_view k) i) = ends_past look (meaning rules) i (Spoilt (fault_view k) i) ((meaning rules).formula i) (Fails (fault_view k)) js b.value.forming.trial.reads holds (0, refl) in
        subst (HasTriedTo rules at look entries entries found i) (sym is) (
          ends,
          failed_met rules look entries found i b.value.demanded h.kept (fault_view k) ends js b.value.forming.trial.reads past,
        )
    formed_tried some b (progress.Need j) r h free is =
        let needs : NeedsOther rules at look entries found i j (going.Formula b (progress.Need j)) = record {
          demands = form_comes found i j b.value h.passed;
          unknown = free;
          typed = h.typed.2.waits.instance;
          waits = (some, h);
        } in
        subst (HasTriedTo rules at look entries entries found i) (sym is) needs
