use Rattle.at_evict.proofs.Common.{◌≡◌, subst, Entries, Memories, StayTraced}
use Rattle.at_cache.specs.declared.keep_recorded.KeepRecorded.{KeepRecorded}
use Rattle.at_cache.specs.Keeping.{recorded_by, remembered_by}
use Rattle.at_cache.specs.Kept.{LeavesKept}
use Rattle.at_evict.proofs.bounded.KeepRecordedBounded.fit.Goals as goal

-- what is left of the one in the place is left of it
leaves : (old mid : KeepRecorded) (new : Entries) → mid ≡ old → LeavesKept (recorded_by mid) new → LeavesKept (recorded_by old) new
leaves old mid new same = subst (λ (k : KeepRecorded). LeavesKept (recorded_by k) new) same

stays : (old mid : KeepRecorded) (new : Memories) → mid ≡ old → StayTraced (remembered_by mid) new → StayTraced (remembered_by old) new
stays old mid new same = subst (λ (k : KeepRecorded). StayTraced (remembered_by k) new) same

pub returns-clause-kept : goal.returns-clause-kept
returns-clause-kept c = leaves _ _ _ c.replace-keeper.ensures.value c.in-Ok.ensures.kept

pub returns-clause-stay : goal.returns-clause-stay
returns-clause-stay c = stays _ _ _ c.replace-keeper.ensures.value c.in-Ok.ensures.stay
