use Rattle.std.proofs.Common.{◌≡◌, refl}
use Rattle.clap.specs.Walk.{texts}
use Rattle.clap.specs.Words.{app_of}
use Rattle.attrd.specs.CommandLine.{command_line}
use Rattle.attrd.proofs.Parses.{refused_by_line, rows_of_line, taken_by_line}
use Rattle.attrd.proofs.WholeRows.{rows_after_parse}
use Rattle.attrd.proofs.options.words.matched.Goals as goal

pub returns : goal.returns
returns c =
    let parse = c.try_get_matches_from_mut in
    let words = texts c.args.words.now in
    let old = c.in_ok-command.command in
    let same : app_of old ≡ command_line = c.in_ok-command.ensures in
    record {
      taken = taken_by_line old command_line words parse.result same refl refl refl refl refl parse.ensures.kinds;
      rows = rows_of_line old parse.new.self command_line words parse.result same refl parse.ensures.ok;
      whole = rows_after_parse old parse.new.self words parse.result same parse.ensures.after parse.ensures.fails parse.ensures.ok;
      refused = refused_by_line old command_line words parse.result same parse.ensures.passes;
    }
