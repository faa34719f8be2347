use Rattle.std.proofs.Common.{◌∙◌, ◌&&◌, ◌||◌, nat_eq, ap}
use Rattle.std.specs.Str.{bytes_eq}
use Rattle.at_start.specs.Overloading.{is_declared_by}
use Rattle.at_start.specs.Pairs.{has_pair}
use Rattle.at_start.proofs.Overloads.{pair_added}
use Rattle.at_start.proofs.overloaded.pairs.Pairs.add.Goals as goal

pub returns : goal.returns
returns c = λ name count.
    pair_added c.args.self.now.items.keys c.insert.new.self.keys _ name count c.in_ok-insert.ensures.keys
    ∙ ap (λ b. has_pair c.args.self.now name count || b)
    (ap (λ t. bytes_eq name t && nat_eq count c.counted.inside.count) c.as_str.ensures.value
    ∙ ap (is_declared_by name count) c.counted.view_is)
