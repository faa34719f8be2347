use Rattle.at_cache.proofs.Common.{◌∙◌, refl, sym, memory_of, aside_cut, held_in, standing_of}
use Rattle.at_cache.proofs.Dooming.{doom_fresh, doom_stale, first_fresh, first_stale, fresh_there}
use Rattle.at_cache.proofs.of_cut.Passing.{over_mark}
use Rattle.at_cache.proofs.of_cut.Seeing.{going_beside, going_seen, seen_there}
use Rattle.at_cache.proofs.forgetting.mark.Goals as goal

pub set_going-requires : goal.set_going-requires
set_going-requires c =
    let x = c.args.edge.now in
    record {
      there = seen_there (standing_of c.args.cut.now.standings.items x.slot) (memory_of c.args.cut.now.entries x.slot)
          (fresh_there x (held_in c.args.cut.now x.slot) (sym c.is_fresh.ensures ∙ c.if-not-is_fresh.false));
    }

pub returns-then-not-is_fresh : goal.returns-then-not-is_fresh
returns-then-not-is_fresh c =
    let x = c.args.edge.now in
    let m = held_in c.args.cut.now in
    let stale = sym c.is_fresh.ensures ∙ c.if-not-is_fresh.true in
    over_mark x c.args.first c.args.first c.args.cut.now c.args.cut.now.entries (doom_stale x c.args.first m m stale) (first_stale x c.args.first m m stale) refl

pub returns : goal.returns
returns c =
    let x = c.args.edge.now in
    let a = c.args.cut.now in
    let ss = a.standings.items in
    let fresh = sym c.is_fresh.ensures ∙ c.if-not-is_fresh.false in
    let t = c.set_going.new.self in
    let same = going_beside ss x.slot c.args.first (memory_of a.entries) (memory_of t) c.set_going.ensures.written (fresh_there x (held_in a x.slot) fresh) in
    over_mark x c.args.first _ a t
    (doom_fresh x c.args.first (held_in a) _ fresh (going_seen ss x.slot c.args.first (memory_of a.entries) (memory_of t) c.set_going.ensures.written))
    (first_fresh x c.args.first (held_in a) (held_in a) fresh)
    (λ i. record { len = c.set_going.ensures.len i; entries = λ k. same k i; standings = (aside_cut a).standings; room = (aside_cut a).room; count = (aside_cut a).count })
