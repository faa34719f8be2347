use Rattle.std.proofs.Common.{◌≡◌, ℕ, List, [], Vec, refl, sym, ap, ◌∙◌, subst}
use Rattle.std.specs.Global.{Global}
use Rattle.std.specs.Map.{keys_of}
use Rattle.at_model.specs.Run.{Instance}
use Rattle.at_search.specs.declared.solving.Solved.{Solved}
use Rattle.at_demand.specs.Groups.{CanKeepGroup, start_in}
use Rattle.at_demand.specs.Known.{known_in}
use Rattle.at_demand.specs.Levels.{known_to}
use Rattle.at_demand.proofs.Grouped.{get_at}
use Rattle.at_demand.proofs.of_groups.SolvedGroups.{ArePromised, all_solved, can_keep, kept_of, none_failed, none_solved, promised, solved_next, solving_failed}
use Rattle.at_demand.proofs.of_levels.Starting.{all_spoilt, all_stopped, with_start}
use Rattle.at_demand.proofs.of_groups.Telling.{tells_none}
use Rattle.at_demand.proofs.demand.Demand.solve.Goals as goal

pub returns-in_default : goal.returns-in_default
returns-in_default g c =
    let entries = g.K.Keeper.contents c.args.self.now.keeper in
    let q = c.args.question.now in
    record {
      tells =
          tells_none c.args.rules.now c.args.store.now entries (g.K.Keeper.memories c.args.self.now.keeper) c.args.self.now.work q
          (keys_of c.args.seen.now.entries) _ c.args.self.now.few c.requires.facts.values c.requires.took c.requires.answerable.plain;
      same = refl;
      each = all_stopped c.args.rules.now c.args.store.now entries q (keys_of c.args.seen.now.entries) c.requires
          (sym (c.in_default.ensures ∙ ap (start_in c.args.rules.now)
          (c.as_slice-insts.ensures ∙ c.keys.ensures.rest)));
      rest = λ closed i a. all_spoilt c.args.rules.now c.args.store.now entries q (keys_of c.args.seen.now.entries) c.requires
          (sym (c.in_default.ensures ∙ ap (start_in c.args.rules.now) (c.as_slice-insts.ensures ∙ c.keys.ensures.rest))) i a;
    }

pub returns-in_err-groups : goal.returns-in_err-groups
returns-in_err-groups g c =
    none_failed c.args.rules.now c.args.store.now (g.K.Keeper.contents c.args.self.now.keeper) (g.K.Keeper.memories c.args.self.now.keeper)
    c.args.self.now.work c.args.question.now (keys_of c.args.seen.now.entries) [] (with_start c.args.rules.now c.args.store.now (g.K.Keeper.contents c.args.self.now.keeper) c.args.question.now (keys_of c.args.seen.now.entries) c.requires c.in-Some.start
    (sym (c.in-Some.ensures ∙ ap (start_in c.args.rules.now) (c.as_slice-insts.ensures ∙ c.keys.ensures.rest)))) c.from_residual.result _ c.args.self.now.few c.from_residual.ensures.1

pub loop-group-init : goal.loop-group-init
loop-group-init g c =
    none_solved c.args.rules.now c.args.store.now (g.K.Keeper.contents c.args.self.now.keeper) (g.K.Keeper.memories c.args.self.now.keeper)
    c.args.self.now.work c.args.question.now (keys_of c.args.seen.now.entries) c.deref-group-items.result.now (with_start c.args.rules.now c.args.store.now (g.K.Keeper.contents c.args.self.now.keeper) c.args.question.now (keys_of c.args.seen.now.entries) c.requires c.in-Some.start
    (sym (c.in-Some.ensures ∙ ap (start_in c.args.rules.now) (c.as_slice-insts.ensures ∙ c.keys.ensures.rest)))) c.args.self.now.few

pub keep_group-requires : goal.keep_group-requires
keep_group-requires g c =
    let rules = c.args.rules.now in
    let s = c.args.store.now in
    let before = g.K.Keeper.contents c.args.self.now.keeper in
    let q = c.args.question.now in
    let insts = keys_of c.args.seen.now.entries in
    let lists = c.deref-group-items.result.now in
    let now = c.loop-group.self in
    let e = c.in_ok-groups.ensures in
    let listed = c.as_slice-insts.ensures ∙ c.keys.ensures.rest in
    let one = get_at lists c.loop-group.group-index c.group-item.result c.loop-group-test.true c.group-item.is in
    let known : known_in (g.K.Keeper.contents c.knowing.result.keeper.now) c.knowing.result.found.now.entries ≡ known_to before q =
    rw (c.knowing.ensures.keeper, c.knowing.ensures.found) refl in
    let p = promised rules s before q insts (with_start c.args.rules.now c.args.store.now (g.K.Keeper.contents c.args.self.now.keeper) c.args.question.now (keys_of c.args.seen.now.entries) c.requires c.in-Some.start
    (sym (c.in-Some.ensures ∙ ap (start_in c.args.rules.now) (c.as_slice-insts.ensures ∙ c.keys.ensures.rest)))) c.in-Some.start (sym (c.in-Some.ensures ∙ ap (start_in rules) listed)) _ known c.in_ok-groups.groups.items e.groups
    e.told e.order e.rest e.each in
    subst (λ (is : List (Instance ℕ)). CanKeepGroup rules s (g.K.Keeper.contents now.keeper) c.loop-group.question is c.as_slice.result.now) (sym listed)
    (subst (λ (ms : List Solved). CanKeepGroup rules s (g.K.Keeper.contents now.keeper) c.loop-group.question insts ms) (sym c.as_slice.ensures.value)
    (can_keep rules s before (g.K.Keeper.memories c.args.self.now.keeper) c.args.self.now.work q insts lists (with_start c.args.rules.now c.args.store.now (g.K.Keeper.contents c.args.self.now.keeper) c.args.question.now (keys_of c.args.seen.now.entries) c.requires c.in-Some.start
    (sym (c.in-Some.ensures ∙ ap (start_in c.args.rules.now) (c.as_slice-insts.ensures ∙ c.keys.ensures.rest)))) c.loop-group.group-index
    (g.K.Keeper.contents now.keeper) (g.K.Keeper.memories now.keeper) now.work c.loop-group.question c.loop-group.invariant c.group-item.result one
    (subst (λ (ls : List (Vec Solved Global)). ArePromised rules s (known_to before q) q.ended.entries insts ls) (sym c.deref-group-items.ensures.value) p)))

pub loop-group-preserved : goal.loop-group-preserved
loop-group-preserved g c =
    let rules = c.args.rules.now in
    let s = c.args.store.now in
    let before = g.K.Keeper.contents c.args.self.now.keeper in
    let insts = keys_of c.args.seen.now.entries in
    let lists = c.deref-group-items.result.now in
    let now = c.loop-group.self in
    let after = c.keep_group.new.self in
    let listed = c.as_slice-insts.ensures ∙ c.keys.ensures.rest in
    let one = get_at lists c.loop-group.group-index c.group-item.result c.loop-group-test.true c.group-item.is in
    solved_next rules s before (g.K.Keeper.memories c.args.self.now.keeper) c.args.self.now.work c.args.question.now insts lists (with_start c.args.rules.now c.args.store.now (g.K.Keeper.contents c.args.self.now.keeper) c.args.question.now (keys_of c.args.seen.now.entries) c.requires c.in-Some.start
    (sym (c.in-Some.ensures ∙ ap (start_in c.args.rules.now) (c.as_slice-insts.ensures ∙ c.keys.ensures.rest)))) c.loop-group.group-index
    (g.K.Keeper.contents now.keeper) (g.K.Keeper.memories now.keeper) now.work c.loop-group.question c.loop-group.invariant c.group-item.result one
    (g.K.Keeper.contents after.keeper) (g.K.Keeper.memories after.keeper) after.work c.keep_group.new.question c.keep_group.result
    (kept_of rules s (g.K.Keeper.contents now.keeper) (g.K.Keeper.contents after.keeper) (g.K.Keeper.memories now.keeper) (g.K.Keeper.memories after.keeper) now.work after.work
    c.loop-group.question c.keep_group.new.question c.keep_group.result c.as_slice-insts.result.now insts c.as_slice.result.now c.group-item.result.items listed
    c.as_slice.ensures.value c.keep_group.ensures) c.in_ok-keep_group.field-0 c.in_ok-keep_group.was

pub returns-in_err-keep_group : goal.returns-in_err-keep_group
returns-in_err-keep_group g c =
    let rules = c.args.rules.now in
    let s = c.args.store.now in
    let before = g.K.Keeper.contents c.args.self.now.keeper in
    let insts = keys_of c.args.seen.now.entries in
    let lists = c.deref-group-items.result.now in
    let now = c.loop-group.self in
    let after = c.keep_group.new.self in
    let listed = c.as_slice-insts.ensures ∙ c.keys.ensures.rest in
    let one = get_at lists c.loop-group.group-index c.group-item.result c.loop-group-test.true c.group-item.is in
    solving_failed rules s before (g.K.Keeper.memories c.args.self.now.keeper) c.args.self.now.work c.args.question.now insts lists (with_start c.args.rules.now c.args.store.now (g.K.Keeper.contents c.args.self.now.keeper) c.args.question.now (keys_of c.args.seen.now.entries) c.requires c.in-Some.start
    (sym (c.in-Some.ensures ∙ ap (start_in c.args.rules.now) (c.as_slice-insts.ensures ∙ c.keys.ensures.rest)))) c.loop-group.group-index
    (g.K.Keeper.contents now.keeper) (g.K.Keeper.memories now.keeper) now.work c.loop-group.question c.loop-group.invariant c.group-item.result one
    (g.K.Keeper.contents after.keeper) (g.K.Keeper.memories after.keeper) after.work c.keep_group.new.question c.keep_group.result
    (kept_of rules s (g.K.Keeper.contents now.keeper) (g.K.Keeper.contents after.keeper) (g.K.Keeper.memories now.keeper) (g.K.Keeper.memories after.keeper) now.work after.work
    c.loop-group.question c.keep_group.new.question c.keep_group.result c.as_slice-insts.result.now insts c.as_slice.result.now c.group-item.result.items listed
    c.as_slice.ensures.value c.keep_group.ensures) c.in_err-keep_group.field-0.0 c.from_residual-in_err-keep_group.result _ c.in_err-keep_group.was
    c.from_residual-in_err-keep_group.ensures.1

pub returns : goal.returns
returns g c =
    let rules = c.args.rules.now in
    let s = c.args.store.now in
    let before = g.K.Keeper.contents c.args.self.now.keeper in
    let q = c.args.question.now in
    let insts = keys_of c.args.seen.now.entries in
    let lists = c.deref-group-items.result.now in
    let now = c.loop-group.self in
    let e = c.in_ok-groups.ensures in
    let listed = c.as_slice-insts.ensures ∙ c.keys.ensures.rest in
    let known : known_in (g.K.Keeper.contents c.knowing.result.keeper.now) c.knowing.result.found.now.entries ≡ known_to before q =
    rw (c.knowing.ensures.keeper, c.knowing.ensures.found) refl in
    let p = promised rules s before q insts (with_start c.args.rules.now c.args.store.now (g.K.Keeper.contents c.args.self.now.keeper) c.args.question.now (keys_of c.args.seen.now.entries) c.requires c.in-Some.start
    (sym (c.in-Some.ensures ∙ ap (start_in c.args.rules.now) (c.as_slice-insts.ensures ∙ c.keys.ensures.rest)))) c.in-Some.start (sym (c.in-Some.ensures ∙ ap (start_in rules) listed)) _ known c.in_ok-groups.groups.items e.groups
    e.told e.order e.rest e.each in
    all_solved rules s before (g.K.Keeper.memories c.args.self.now.keeper) c.args.self.now.work q insts lists (with_start c.args.rules.now c.args.store.now (g.K.Keeper.contents c.args.self.now.keeper) c.args.question.now (keys_of c.args.seen.now.entries) c.requires c.in-Some.start
    (sym (c.in-Some.ensures ∙ ap (start_in c.args.rules.now) (c.as_slice-insts.ensures ∙ c.keys.ensures.rest)))) c.loop-group.group-index
    (g.K.Keeper.contents now.keeper) (g.K.Keeper.memories now.keeper) now.work c.loop-group.question c.loop-group.invariant tt c.loop-group-test.false
    (subst (λ (ls : List (Vec Solved Global)). ArePromised rules s (known_to before q) q.ended.entries insts ls) (sym c.deref-group-items.ensures.value) p)
