use Rattle.std.proofs.Common.{[], ◌∷◌, ◌++◌, Ok, inl, refl}
use Rattle.std.specs.Map.{keys_of, lookup}
use Rattle.at_body.specs.Same.{same_instance}
use Rattle.at_demand.specs.declared.demand.searching.Resolved.TheVariants as resolved
use Rattle.at_demand.proofs.of_levels.Resolving.{among_off, among_on, is_marked, key_told, marked_resolved, not_marked, nothing_resolved, unrecorded}
use Rattle.at_demand.proofs.demand.Demand.resolve.Goals as goal

pub returns-then-is_whole : goal.returns-then-is_whole
returns-then-is_whole g c =
    let q = c.args.question.now in
    let i = c.args.inst.now in
    let m = c.args.self.now in
    marked_resolved c.args.rules.now c.args.store.now (g.K.Keeper.contents m.keeper) (g.K.Keeper.memories m.keeper) m.work q c.requires m.few i
    (is_marked (lookup (same_instance i) q.ended.entries) c.in-Some.is_whole c.in-Some.ensures c.if-is_whole.true) c.spoilt_by.result c.spoilt_by.ensures

pub resolve_ended-requires-clause-ended : goal.resolve_ended-requires-clause-ended
resolve_ended-requires-clause-ended g c = key_told c.args.question.now.ended.entries c.args.inst.now c.in-Some.is_whole c.in-Some.ensures

pub resolve_ended-requires-clause-unmarked : goal.resolve_ended-requires-clause-unmarked
resolve_ended-requires-clause-unmarked g c =
    not_marked c.args.question.now.ended.entries c.args.inst.now c.in-Some.is_whole c.in-Some.ensures c.if-is_whole.false

pub returns-then-is_tried : goal.returns-then-is_tried
returns-then-is_tried g c =
    let q = c.args.question.now in
    let i = c.args.inst.now in
    let m = c.args.self.now in
    nothing_resolved c.args.rules.now c.args.store.now (g.K.Keeper.contents m.keeper) (g.K.Keeper.memories m.keeper) m.work q
    c.requires m.few i (Ok resolved.Back) (inl (among_on i (keys_of q.waiting.entries ++ q.inst ∷ []) c.is_tried.result c.is_tried.ensures c.if-is_tried.true), refl) tt

pub returns-in_default : goal.returns-in_default
returns-in_default g c =
    let q = c.args.question.now in
    let i = c.args.inst.now in
    let m = c.args.self.now in
    nothing_resolved c.args.rules.now c.args.store.now (g.K.Keeper.contents m.keeper) (g.K.Keeper.memories m.keeper) m.work q
    c.requires m.few i (Ok resolved.Open) (
      among_off i (keys_of q.waiting.entries ++ q.inst ∷ []) c.is_tried.result c.is_tried.ensures c.if-is_tried.false,
      unrecorded (lookup (same_instance i) q.ended.entries) c.in_default.ensures,
      refl,
    ) tt
