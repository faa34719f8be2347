use Rattle.at_cache.proofs.Common.{◌<◌, ◌^◌, ℕ, sym, true≢false, ◌∙◌, KeepRecorded, edges_to, IsWhole}
use Rattle.at_cache.proofs.of_cut.Goes.{alike_from, goes_from, settled_from, stay_from, stay_traced}
use Rattle.at_cache.proofs.of_cut.Spared.{alike_itself}
use Rattle.at_cache.proofs.of_cut.Behind.{settles_nothing}
use Rattle.at_cache.proofs.keep_recorded.KeepRecordedKeeper.settle.Goals as goal

whole : (k : KeepRecorded) (work : ℕ) → work < 2 ^ 64
    → IsWhole (edges_to k.readers) k.cut.entries k.cut.standings.items (record { puts = k.puts; work = work })
whole k work few = record { indexed = k.indexed; tied = k.tied; valued = k.valued; few = few }

pub returns-then-not-self : goal.returns-then-not-self
returns-then-not-self c =
    record { settled = settles_nothing _ _ _ c.args.work c.ranges.work.fits; stay = stay_traced _; alike = alike_itself _ }

pub returns-then-not-standing_at : goal.returns-then-not-standing_at
returns-then-not-standing_at c =
    record { settled = settles_nothing _ _ _ c.args.work c.ranges.work.fits; stay = stay_traced _; alike = alike_itself _ }

pub returns-in_default : goal.returns-in_default
returns-in_default c =
    record { settled = settles_nothing _ _ _ c.args.work c.ranges.work.fits; stay = stay_traced _; alike = alike_itself _ }

pub invariant_of-self-2 : goal.invariant_of-self-2
invariant_of-self-2 c =
    let goes = goes_from _ _ c.args.inst.now _ c.in-Some.ensures _ _ _ _ _
    (c.settle_at.ensures _ (whole c.args.self.now c.args.work c.ranges.work.fits)) in
    record {
      indexed = goes.whole.indexed;
      tied = goes.whole.tied;
      valued = goes.whole.valued;
      noted = c.args.self.now.noted;
      sure = λ off. absurd (true≢false (sym c.if-not-self.false ∙ off));
    }

pub returns : goal.returns
returns c =
    let goes = c.settle_at.ensures _ (whole c.args.self.now c.args.work c.ranges.work.fits) in
    record {
      settled = settled_from _ _ c.args.inst.now _ c.in-Some.ensures _ _ _ _ _ goes;
      stay = stay_from _ _ c.args.inst.now _ c.in-Some.ensures _ _ _ _ _ goes;
      alike = alike_from _ _ c.args.inst.now _ c.in-Some.ensures _ _ _ _ _ goes;
    }
