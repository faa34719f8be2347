use Rattle.at_evict.proofs.Common.{◌≡◌, Contains, Some, subst, sym, take_all, FoldsAt, into_of, Info, memory_of, none_in}
use Rattle.at_evict.proofs.of_folding.Walking.{all_more}
use Rattle.at_evict.proofs.refolding.Refolding.is_sound.Goals as goal

pub loop-slot-init : goal.loop-slot-init
loop-slot-init c s h = absurd (none_in s h)

pub loop-slot-preserved : goal.loop-slot-preserved
loop-slot-preserved c =
    let m = memory_of c.args.self.now.entries.now in
    all_more (λ s. (e : Info) → m s ≡ Some e → FoldsAt m (into_of c.args.self.now) s e)
    c.args.taken.now c.loop-slot.slot-index 0 c.loop-slot-test.true c.loop-slot.invariant (c.is_sound_at.ensures c.if-not-is_sound_at.false)

pub returns : goal.returns
returns c t s e there =
    c.loop-slot.invariant s (subst (λ xs. Contains xs s) (sym (take_all c.loop-slot.slot-index c.args.taken.now c.loop-slot-test.false)) (c.requires.taken s e there))
    e there
