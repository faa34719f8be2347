use Rattle.std.proofs.Common.{length, refl, sym, take}
use Rattle.std.proofs.lemmas.Bool.{ltb-true}
use Rattle.std.proofs.lemmas.List.{take_all}
use Rattle.at_demand.specs.Groups.{IsMember}
use Rattle.at_demand.proofs.Grouped.{get_at}
use Rattle.at_demand.proofs.OnlyLemmas.{get_among}
use Rattle.at_demand.proofs.of_groups.KeptGroup.{all_others, can_first, can_other, group_failed, group_none, kept_first, none_first, not_placed, other_failed, same_first, since_next, since_none, so_far, tells_first}
use Rattle.at_demand.proofs.of_groups.Members.{member_listed, members}
use Rattle.at_demand.proofs.of_groups.Telling.{tells_none}
use Rattle.at_demand.proofs.demand.Demand.keep_group.Goals as goal

pub returns-in_default : goal.returns-in_default
returns-in_default g c =
    let rules = c.args.rules.now in
    let s = c.args.store.now in
    let before = g.K.Keeper.contents c.args.self.now.keeper in
    let m = g.K.Keeper.memories c.args.self.now.keeper in
    let w = c.args.self.now.work in
    let q = c.args.question.now in
    let insts = c.args.insts.now in
    let group = c.args.group.now in
    group_none rules s before m w q insts group c.requires before m w q
    (tells_none rules s before m w q (members insts group) ⊥ c.args.self.now.few c.requires.can.facts.values
    c.requires.can.took c.requires.can.answerable.plain)
    refl tt (λ y a. none_first group y c.in_default.ensures.value a) (λ spare. spare)

pub returns-in_default-get : goal.returns-in_default-get
returns-in_default-get g c =
    let first = c.in-Some.first.now in
    let insts = c.args.insts.now in
    let among = get_among c.args.group.now 0 first (sym c.in-Some.ensures.value) in
    absurd (not_placed insts first.position (c.requires.placed first among) (sym c.in_default-get.ensures.lookup.0))

pub returns-in_err-find : goal.returns-in_err-find
returns-in_err-find g c =
    let rules = c.args.rules.now in
    let s = c.args.store.now in
    let before = g.K.Keeper.contents c.args.self.now.keeper in
    let m = g.K.Keeper.memories c.args.self.now.keeper in
    let w = c.args.self.now.work in
    let q = c.args.question.now in
    let insts = c.args.insts.now in
    let group = c.args.group.now in
    let first = c.in-Some.first.now in
    let inst = c.in-Some-get.inst.now in
    let l = c.in-Some-get.ensures.lookup in
    let at = get_at insts first.position inst (ltb-true first.position (length insts) (sym l.0)) l.1 in
    let member : IsMember insts group inst first.value = (
      first,
      get_among group 0 first (sym c.in-Some.ensures.value),
      at,
      refl,
    ) in
    group_failed rules s before m w q insts group c.requires before m w q
    (tells_none rules s before m w q (members insts group) ⊥ c.args.self.now.few c.requires.can.facts.values
    c.requires.can.took c.requires.can.answerable.plain)
    refl c.from_residual.result _ c.from_residual.ensures.1 inst (member_listed insts group inst first.value member)

pub keep_first-requires : goal.keep_first-requires
keep_first-requires g c =
    let insts = c.args.insts.now in
    let group = c.args.group.now in
    let first = c.in-Some.first.now in
    let inst = c.in-Some-get.inst.now in
    let l = c.in-Some-get.ensures.lookup in
    let at = get_at insts first.position inst (ltb-true first.position (length insts) (sym l.0)) l.1 in
    let member : IsMember insts group inst first.value = (
      first,
      get_among group 0 first (sym c.in-Some.ensures.value),
      at,
      refl,
    ) in
    can_first c.args.rules.now c.args.store.now (g.K.Keeper.contents c.args.self.now.keeper)
    (g.K.Keeper.memories c.args.self.now.keeper)
    c.args.self.now.work c.args.question.now insts group c.requires inst first.value member c.in_ok-find.find
    c.in_ok-find.ensures

pub returns-in_err-place : goal.returns-in_err-place
returns-in_err-place g c =
    let rules = c.args.rules.now in
    let s = c.args.store.now in
    let before = g.K.Keeper.contents c.args.self.now.keeper in
    let m = g.K.Keeper.memories c.args.self.now.keeper in
    let w = c.args.self.now.work in
    let q = c.args.question.now in
    let insts = c.args.insts.now in
    let group = c.args.group.now in
    let first = c.in-Some.first.now in
    let inst = c.in-Some-get.inst.now in
    let l = c.in-Some-get.ensures.lookup in
    let at = get_at insts first.position inst (ltb-true first.position (length insts) (sym l.0)) l.1 in
    let member : IsMember insts group inst first.value = (
      first,
      get_among group 0 first (sym c.in-Some.ensures.value),
      at,
      refl,
    ) in
    let k = c.keep_first.new.self in
    let e = c.keep_first.ensures in
    group_failed rules s before m w q insts group c.requires (g.K.Keeper.contents k.keeper)
    (g.K.Keeper.memories k.keeper) k.work c.keep_first.new.question
    (tells_first rules s before m w q insts group c.requires inst first.value member c.in_ok-find.find
    c.in_ok-find.ensures (g.K.Keeper.contents k.keeper)
    (g.K.Keeper.memories k.keeper) k.work c.keep_first.new.question c.keep_first.result e)
    (same_first rules s before m w q insts group c.requires inst first.value member c.in_ok-find.find
    c.in_ok-find.ensures (g.K.Keeper.contents k.keeper)
    (g.K.Keeper.memories k.keeper) k.work c.keep_first.new.question c.keep_first.result e)
    c.from_residual-in_err-place.result _ c.from_residual-in_err-place.ensures.1 inst
    (member_listed insts group inst first.value member)

pub loop-member-init : goal.loop-member-init
loop-member-init g c =
    let rules = c.args.rules.now in
    let s = c.args.store.now in
    let before = g.K.Keeper.contents c.args.self.now.keeper in
    let m = g.K.Keeper.memories c.args.self.now.keeper in
    let w = c.args.self.now.work in
    let q = c.args.question.now in
    let insts = c.args.insts.now in
    let group = c.args.group.now in
    let first = c.in-Some.first.now in
    let inst = c.in-Some-get.inst.now in
    let l = c.in-Some-get.ensures.lookup in
    let at = get_at insts first.position inst (ltb-true first.position (length insts) (sym l.0)) l.1 in
    let member : IsMember insts group inst first.value = (
      first,
      get_among group 0 first (sym c.in-Some.ensures.value),
      at,
      refl,
    ) in
    let k = c.keep_first.new.self in
    let begun = g.K.Keeper.contents k.keeper in
    let n = g.K.Keeper.memories k.keeper in
    let mid = c.keep_first.new.question in
    let place = c.in_ok-place.place in
    since_none rules s before m w q insts group c.requires inst (member_listed insts group inst first.value member)
    place begun n k.work mid
    (kept_first rules s before m w q insts group c.requires inst first.value member c.in_ok-find.find
    c.in_ok-find.ensures begun n k.work mid c.keep_first.result
    c.keep_first.ensures place c.in_ok-place.was) k.few

pub keep_other-requires : goal.keep_other-requires
keep_other-requires g c =
    let rules = c.args.rules.now in
    let s = c.args.store.now in
    let before = g.K.Keeper.contents c.args.self.now.keeper in
    let m = g.K.Keeper.memories c.args.self.now.keeper in
    let w = c.args.self.now.work in
    let q = c.args.question.now in
    let insts = c.args.insts.now in
    let group = c.args.group.now in
    let first = c.in-Some.first.now in
    let inst = c.in-Some-get.inst.now in
    let l = c.in-Some-get.ensures.lookup in
    let at = get_at insts first.position inst (ltb-true first.position (length insts) (sym l.0)) l.1 in
    let member : IsMember insts group inst first.value = (
      first,
      get_among group 0 first (sym c.in-Some.ensures.value),
      at,
      refl,
    ) in
    let listed = member_listed insts group inst first.value member in
    let k = c.keep_first.new.self in
    let begun = g.K.Keeper.contents k.keeper in
    let n = g.K.Keeper.memories k.keeper in
    let mid = c.keep_first.new.question in
    let place = c.in_ok-place.place in
    let now = c.loop-member.self in
    let ms = take c.loop-member.member-index group in
    can_other rules s before m w q insts group c.requires inst listed place ms (g.K.Keeper.contents now.keeper)
    (g.K.Keeper.memories now.keeper) now.work
    c.loop-member.question
    (so_far rules s before m w q insts group c.requires inst listed place begun n k.work mid
    (kept_first rules s before m w q insts group c.requires inst first.value member c.in_ok-find.find
    c.in_ok-find.ensures begun n k.work mid c.keep_first.result
    c.keep_first.ensures place c.in_ok-place.was) ms (g.K.Keeper.contents now.keeper) (g.K.Keeper.memories now.keeper)
    now.work c.loop-member.question
    c.loop-member.invariant)

pub loop-member-preserved : goal.loop-member-preserved
loop-member-preserved g c =
    let rules = c.args.rules.now in
    let s = c.args.store.now in
    let before = g.K.Keeper.contents c.args.self.now.keeper in
    let m = g.K.Keeper.memories c.args.self.now.keeper in
    let w = c.args.self.now.work in
    let q = c.args.question.now in
    let insts = c.args.insts.now in
    let group = c.args.group.now in
    let first = c.in-Some.first.now in
    let inst = c.in-Some-get.inst.now in
    let l = c.in-Some-get.ensures.lookup in
    let at = get_at insts first.position inst (ltb-true first.position (length insts) (sym l.0)) l.1 in
    let member : IsMember insts group inst first.value = (
      first,
      get_among group 0 first (sym c.in-Some.ensures.value),
      at,
      refl,
    ) in
    let listed = member_listed insts group inst first.value member in
    let k = c.keep_first.new.self in
    let begun = g.K.Keeper.contents k.keeper in
    let n = g.K.Keeper.memories k.keeper in
    let mid = c.keep_first.new.question in
    let place = c.in_ok-place.place in
    let now = c.loop-member.self in
    let after = c.keep_other.new.self in
    since_next rules s before m w q insts group c.requires inst listed place begun n k.work mid
    (kept_first rules s before m w q insts group c.requires inst first.value member c.in_ok-find.find
    c.in_ok-find.ensures begun n k.work mid c.keep_first.result
    c.keep_first.ensures place c.in_ok-place.was) c.loop-member.member-index c.loop-member-test.true
    (g.K.Keeper.contents now.keeper)
    (g.K.Keeper.memories now.keeper) now.work c.loop-member.question c.loop-member.invariant now.few _
    (g.K.Keeper.contents after.keeper)
    (g.K.Keeper.memories after.keeper) after.work c.keep_other.new.question c.keep_other.result c.keep_other.ensures
    c.in_ok-keep_other.field-0
    c.in_ok-keep_other.was

pub returns-in_err-keep_other : goal.returns-in_err-keep_other
returns-in_err-keep_other g c =
    let rules = c.args.rules.now in
    let s = c.args.store.now in
    let before = g.K.Keeper.contents c.args.self.now.keeper in
    let m = g.K.Keeper.memories c.args.self.now.keeper in
    let w = c.args.self.now.work in
    let q = c.args.question.now in
    let insts = c.args.insts.now in
    let group = c.args.group.now in
    let first = c.in-Some.first.now in
    let inst = c.in-Some-get.inst.now in
    let l = c.in-Some-get.ensures.lookup in
    let at = get_at insts first.position inst (ltb-true first.position (length insts) (sym l.0)) l.1 in
    let member : IsMember insts group inst first.value = (
      first,
      get_among group 0 first (sym c.in-Some.ensures.value),
      at,
      refl,
    ) in
    let listed = member_listed insts group inst first.value member in
    let k = c.keep_first.new.self in
    let begun = g.K.Keeper.contents k.keeper in
    let n = g.K.Keeper.memories k.keeper in
    let mid = c.keep_first.new.question in
    let place = c.in_ok-place.place in
    let now = c.loop-member.self in
    let after = c.keep_other.new.self in
    let r = c.from_residual-in_err-keep_other in
    other_failed rules s before m w q insts group c.requires inst listed place begun n k.work mid
    (kept_first rules s before m w q insts group c.requires inst first.value member c.in_ok-find.find
    c.in_ok-find.ensures begun n k.work mid c.keep_first.result
    c.keep_first.ensures place c.in_ok-place.was) c.loop-member.member-index c.loop-member-test.true
    (g.K.Keeper.contents now.keeper)
    (g.K.Keeper.memories now.keeper) now.work c.loop-member.question c.loop-member.invariant now.few _
    (g.K.Keeper.contents after.keeper)
    (g.K.Keeper.memories after.keeper) after.work c.keep_other.new.question c.keep_other.result c.keep_other.ensures
    r.result _ r.ensures.1

pub returns : goal.returns
returns g c =
    let rules = c.args.rules.now in
    let s = c.args.store.now in
    let before = g.K.Keeper.contents c.args.self.now.keeper in
    let m = g.K.Keeper.memories c.args.self.now.keeper in
    let w = c.args.self.now.work in
    let q = c.args.question.now in
    let insts = c.args.insts.now in
    let group = c.args.group.now in
    let first = c.in-Some.first.now in
    let inst = c.in-Some-get.inst.now in
    let l = c.in-Some-get.ensures.lookup in
    let at = get_at insts first.position inst (ltb-true first.position (length insts) (sym l.0)) l.1 in
    let member : IsMember insts group inst first.value = (
      first,
      get_among group 0 first (sym c.in-Some.ensures.value),
      at,
      refl,
    ) in
    let k = c.keep_first.new.self in
    let begun = g.K.Keeper.contents k.keeper in
    let n = g.K.Keeper.memories k.keeper in
    let mid = c.keep_first.new.question in
    let place = c.in_ok-place.place in
    let now = c.loop-member.self in
    all_others rules s before m w q insts group c.requires inst (member_listed insts group inst first.value member)
    place begun n k.work mid
    (kept_first rules s before m w q insts group c.requires inst first.value member c.in_ok-find.find
    c.in_ok-find.ensures begun n k.work mid c.keep_first.result
    c.keep_first.ensures place c.in_ok-place.was) (g.K.Keeper.contents now.keeper) (g.K.Keeper.memories now.keeper)
    now.work c.loop-member.question
    (take c.loop-member.member-index group) (take_all c.loop-member.member-index group c.loop-member-test.false)
    c.loop-member.invariant c.in_ok-find.find first.value
    c.in_ok-find.ensures tt
