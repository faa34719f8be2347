use Rattle.std.proofs.Common.{◌≡◌, ◌∙◌, ◌-◌, ap₂, sym, refl, length, map, suc}
use Rattle.std.proofs.lemmas.List.{length-map}
use Rattle.at_model.specs.Declarations.{max_parts}
use Rattle.at_class.specs.View.{classes_view, part_view}
use Rattle.at_class.specs.Ways.{all_of, on_way}
use Rattle.at_class.specs.declared.way.Level.{Level}
use Rattle.at_class.proofs.Descents.{entered, found_there, longer, taken_there}
use Rattle.at_class.proofs.way.Way.enter.Goals as goal

pub returns : goal.returns
returns c =
    let classes = classes_view c.args.classes.now in
    let k = c.args.class in
    let levels = c.args.self.now.levels.items in
    let t = c.args.self.now.taken in
    let more = c.push.new.self.items in
    let slice = c.own_parts-own.result.now in
    let own = map part_view slice in
    let is = c.own_parts-own.ensures in
    let led = c.requires.0 in
    let w = c.requires.1 in
    let up = c.requires.2 in
    let took = c.in_ok-twice.ensures.1 (all_of classes (on_way levels)) (taken_there classes levels t w) in
    let level : Level = record { class = k; names = c.counts-names.result.0; accessors = c.counts-names.result.1; room = c.saturating_sub-room.result } in
    let room : c.saturating_sub-room.result ≡ (suc max_parts - length (all_of classes (on_way levels))) - length own =
    c.saturating_sub-room.ensures ∙ ap₂ (λ a b. a - b) (c.room.ensures classes w) (sym (length-map slice part_view)) in (
      found_there classes (on_way levels) (record { twice = c.in_ok-twice.twice; room = c.saturating_sub-room.result }) k own led up is took.1 room,
      entered classes levels more level t c.take_all.new.self k own led w up is c.in_ok-push.ensures.items refl
          c.counts-names.ensures.names c.counts-names.ensures.accessors room c.in_ok-twice.ensures.0 took.0,
      longer levels more level k c.in_ok-push.ensures.items refl,
    )
