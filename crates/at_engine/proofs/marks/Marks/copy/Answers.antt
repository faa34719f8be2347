use Rattle.std.proofs.Common.{◌∙◌, refl, string_bytes, sym}
use Rattle.at_engine.specs.Marks.{listed}
use Rattle.at_engine.proofs.of_marks.Copying.{copied_none, copied_one}
use Rattle.at_engine.proofs.marks.Marks.copy.Goals as goal

pub returns-in_ok-push-in-Some : goal.returns-in_ok-push-in-Some
returns-in_ok-push-in-Some c =
    copied_one c.args.session c.args.name.now (listed c.args.self.now.items.entries) c.args.copies.now.items.items c.push.new.self.items.items c.in-Some.node (record { session = c.args.session; name = string_bytes c.in_ok-name-in-Some.name; node = c.in-Some.node })
    (sym c.get.ensures ∙ c.in-Some.is) refl c.in_ok-name-in-Some.ensures.ok refl c.in_ok-push-in-Some.ensures.more

pub returns-in-None : goal.returns-in-None
returns-in-None c = copied_none c.args.session c.args.name.now (listed c.args.self.now.items.entries) c.args.copies.now.items.items c.args.copies.now.items.items (sym c.get.ensures ∙ c.in-None.is) refl
