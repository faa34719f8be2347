use Rattle.std.proofs.Common.{◌≡◌, ◌∙◌, ap, codes}
use Rattle.std.proofs.lemmas.Result.{IfOk-weaker}
use Rattle.clap.specs.Simple.{app_of_fields}
use Rattle.clap.specs.Words.{app_of, new_app}
use Rattle.attrd.specs.CommandLine.{command_line, unnamed, versioned, with_words}
use Rattle.attrd.proofs.options.words.command.Goals as goal

pub returns : goal.returns
returns c =
    let start : app_of c.no_binary_name-command.result ≡ unnamed (versioned (new_app (codes "attrd"))) =
    ap app_of_fields c.no_binary_name-command.ensures
    ∙ (ap (λ f. unnamed (app_of_fields f)) c.version.ensures
    ∙ (ap (λ f. unnamed (versioned (app_of_fields f))) c.after_help.ensures
    ∙ (ap (λ f. unnamed (versioned (app_of_fields f))) c.about.ensures
    ∙ ap (λ a. unnamed (versioned a)) c.new.ensures.app))) in
    IfOk-weaker c.with_words.result _ _ (λ made h. h ∙ ap (λ a. with_words a command_line.top.rules) start) c.with_words.ensures
