-- What is kept again for the last instance of a question: it came with no evaluation, and is right and worthy.
use Rattle.std.proofs.Common.{◌≡◌, ◌<◌, ◌^◌, ℕ, Bool, true, false, List, [], Option, None, Some, IsSome, refl, sym, ap, ◌∙◌, subst, if◌then◌else◌, arith, true≢false}
use Rattle.std.proofs.lemmas.Option.{none-some}
use Rattle.at_model.specs.Rules.{Rules}
use Rattle.at_model.specs.Meaning.{Answer}
use Rattle.at_model.specs.Run.{Instance, Location, Value}
use Rattle.at_model.specs.Turning.{UnderWay}
use Rattle.at_model.specs.of_fixpoints.Searching.{Search}
use Rattle.at_store.specs.Shown.{IsIdle, Shown, contents}
use Rattle.at_body.specs.Same.{same_instance}
use Rattle.at_cache.specs.Kept.{Entries, PutsBy}
use Rattle.at_cache.specs.Traced.{IsNext, Memories, Settled, StayTraced, TracesNothing, below, itself, nothing, one_more}
use Rattle.at_demand.specs.Again.{HasKeptAgain, KeepsAgain}
use Rattle.at_evaluate.specs.Inner.{AreKnown, Gains}
use Rattle.at_evaluate.specs.Valued.{KeepsEntries}
use Rattle.at_evaluate.specs.Traces.{AreJustified}
use Rattle.at_demand.specs.Turns.{AreTurns, AreTurnsOfChain}
use Rattle.at_demand.specs.Turns as turns
use Rattle.at_evaluate.proofs.Entered.{not_none}
use Rattle.at_evaluate.proofs.Sameness.{same_true}
use Rattle.at_evaluate.proofs.of_traces.Justified.{stay_same}
use Rattle.at_evaluate.proofs.of_traces.Settled.{LastKept, settled_gains}

-- from q on there is a way over memories that were more before, too
next_before : (m n : Memories) (e : Entries) (q i : Instance ℕ) → StayTraced m n → IsNext n e q i → IsNext m e q i
next_before m n e q _ stay itself = itself
next_before m n e q i stay (below j _ t front back way traced uses all) =
    below j i t front back (next_before m n e q j stay way) (stay j t traced).traced uses all

-- what was settled by memories that were more before
settled_before : (m n : Memories) (q : Instance ℕ) (k : ℕ) (e f : Entries) → StayTraced m n → Settled n q k e f → Settled m q k e f
settled_before m n q _ e _ stay (nothing _) = nothing e
settled_before m n q _ e f stay (one_more k _ mid _ i t before next traced absent all puts) =
    one_more k e mid f i t (settled_before m n q k e mid stay before) (next_before m n mid q i stay next) (stay i t traced).traced absent all puts

-- what was kept again by these is kept again by those
pub again_before : (m n : Memories) (q : Instance ℕ) (e f : Entries) → StayTraced m n → KeepsAgain n q e f → KeepsAgain m q e f
again_before m n q e f stay (count, settled) = (count, settled_before m n q count e f stay settled)

-- where nothing is done, too
pub kept_nothing : (m : Memories) (e : Entries) (w : ℕ) (q : Instance ℕ) → w < 2 ^ 64 → HasKeptAgain m m e e w w q
kept_nothing m e w q few = record {
  count = 0;
  settled = nothing e;
  counts = omega (arith, few);
  stay = stay_same m;
  alike = record { traced = λ i. refl; last = λ i. refl };
}

-- and it is right, and worthy of the instance
pub gains_again : (rules : Rules) (s : Shown) → IsIdle s → (m n : Memories) (e f : Entries) (w x : ℕ) (q : Instance ℕ)
    → w < 2 ^ 64 → AreKnown rules (contents s) e [] → AreJustified rules (contents s) m → LastKept m e
    → HasKeptAgain m n e f w x q → Gains rules s q e f [] [] w x
gains_again rules s idle m n e f w x q few known justified last h = settled_gains rules s idle m justified q h.count e f [] w x
    h.settled few h.counts known last

-- one that had no entry came, and each other one has its own
one_stays : (e f : Entries) (i : Instance ℕ) (v : Option (Value ℕ)) (reads : Location ℕ → Bool) (uses : List (Instance ℕ)) → e i ≡ None
    → PutsBy e i v reads uses f → KeepsEntries e f
one_stays e f i v reads uses absent puts j some = by (same_instance i j) refl
  where
    by : (b : Bool) → same_instance i j ≡ b → f j ≡ e j
    by false at = puts.adds j ∙ ap (λ (b : Bool). if b then Some puts.entry else e j) at
    by true at = absurd (not_none (e j) some (subst (λ (x : Instance ℕ). e x ≡ None) (same_true i j at) absent))

settled_stays : (m : Memories) (q : Instance ℕ) (k : ℕ) (e f : Entries) → Settled m q k e f → KeepsEntries e f
settled_stays m q _ e _ (nothing _) i some = refl
settled_stays m q _ e f (one_more k _ mid _ i t before next traced absent all puts) j some =
    let same = settled_stays m q k e mid before j some in
    one_stays mid f i (Some t.value) t.reads t.uses absent puts j (subst IsSome (sym same) some) ∙ same

-- what had an entry has it still
pub again_stays : (m : Memories) (q : Instance ℕ) (e f : Entries) → KeepsAgain m q e f → KeepsEntries e f
again_stays m q e f (count, settled) = settled_stays m q count e f settled

-- where nothing is traced nothing comes
settled_nothing : (m : Memories) (q : Instance ℕ) (k : ℕ) (e f : Entries) → TracesNothing m → Settled m q k e f → (i : Instance ℕ) → f i ≡ e i
settled_nothing m q _ e _ none (nothing _) i = refl
settled_nothing m q _ e f none (one_more k _ mid _ j t before next traced absent all puts) i = absurd (none-some t (sym (none j) ∙ traced))

pub again_nothing : (m : Memories) (q : Instance ℕ) (e f : Entries) → TracesNothing m → KeepsAgain m q e f → (i : Instance ℕ) → f i ≡ e i
again_nothing m q e f none (count, settled) = settled_nothing m q count e f none settled

-- turns over memories by which turns keep nothing again are turns over any
module _ (rules : Rules) (s : Shown) (m l : Memories) (off : m.in_turns ≡ false) where
  not_on : m.in_turns ≡ true → ⊥
  not_on on = true≢false (sym on ∙ off)

  pub search_over : (n : ℕ) (d e : Entries) (u v : Search ℕ) (o : Option (Answer ℕ)) → AreTurns rules s m n d u e v o → AreTurns rules s l n d u e v o
  search_over _ d _ u _ _ (turns.none _ _) = turns.none d u
  search_over n d e u v _ (turns.again _ _ x _ _ _ front on again led right) = absurd (not_on on)
  search_over _ d e u v o (turns.more n _ x _ _ w _ _ front turned gains right) =
      turns.more n d x e u w v o (search_over n d x u w None front) turned gains right

  pub chain_over : (n : ℕ) (d e : Entries) (u v : UnderWay ℕ) (o : Option (Answer ℕ)) → AreTurnsOfChain rules s m n d u e v o
      → AreTurnsOfChain rules s l n d u e v o
  chain_over _ d _ u _ _ (turns.none _ _) = turns.none d u
  chain_over n d e u v _ (turns.again _ _ x _ _ _ front on again) = absurd (not_on on)
  chain_over _ d e u v o (turns.more n _ x _ _ w _ _ front turned gains) =
      turns.more n d x e u w v o (chain_over n d x u w None front) turned gains
