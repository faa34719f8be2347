use Rattle.at_cache.proofs.Common.{◌+◌, ap, refl, sym, ◌∙◌, true≢false, Standing, standing_of}
use Rattle.at_cache.proofs.of_cut.Goes.{goes_itself, goes_none, standing_in, value_kept}
use Rattle.at_cache.proofs.of_cut.Seeing.{set_is}
use Rattle.at_cache.proofs.settling.keep_again.Goals as goal

pub returns-then-standing : goal.returns-then-standing
returns-then-standing c lists whole (traced, all) e there = (
  goes_none lists _ e.instance _ _ whole,
  λ h. value_kept lists c.args._entries.now c.args.standings.now.items c.args.counts.now.puts c.args.slot e there
      (ap (λ (z : Standing). z.holds) (sym (rw c.as_slice.ensures.value at c.standing_at-standing.ensures)) ∙ c.if-standing.true)
      (whole.valued c.args.slot e there traced),
)

pub returns-then-counts-ge-NUMBERS : goal.returns-then-counts-ge-NUMBERS
returns-then-counts-ge-NUMBERS c lists whole can e there = (
  goes_none lists _ e.instance _ _ whole,
  λ h. absurd (true≢false (sym h)),
)

pub returns : goal.returns
returns c lists whole can e there =
    let (goes, kept) = goes_itself lists c.args._entries.now c.args.slot c.args.standings.now.items
    c.set_standing.new.standings.items c.args.counts.now
    (record { puts = c.args.counts.now.puts + 1; work = c.saturating_add-counts.result }) e there whole can
    (ap (λ (z : Standing). z.holds) (sym (rw c.as_slice.ensures.value at c.standing_at-standing.ensures)) ∙ c.if-standing.false)
    (λ k. ap (λ ss. standing_of ss k) c.set_standing.ensures ∙ set_is c.args.standings.now.items c.args.slot _
    (standing_in c.args.standings.now.items c.args.slot can.0) k) refl
    c.saturating_add-counts.ensures in
    (goes, λ h. kept)
