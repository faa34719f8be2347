use Rattle.std.proofs.Common.{refl, string_bytes}
use Rattle.at_rules.specs.Bodies.{body_view}
use Rattle.at_seek.specs.Finding.{kinds_in}
use Rattle.at_seek.proofs.Tests.{literal_text}
use Rattle.at_seek.proofs.scope.Scope.sought.Goals as goal

pub returns-in-Text : goal.returns-in-Text
returns-in-Text c = λ h.
    literal_text (kinds_in c.args.self.now h) c.copied.result (body_view c.args.text.now) (string_bytes c.in-Text.text) (rw c.in-Text.is refl) c.copied.ensures
