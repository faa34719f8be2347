-- What a parse says of a command, said of the shape that the command has.
use Rattle.std.proofs.Common.{◌≡◌, ◌∙◌, ap, subst, true, false, List, []}
use Rattle.std.specs.Prelude.{Err, IfErr, IfOk, Ok, Result}
use Rattle.std.specs.List.{list_all}
use Rattle.clap.specs.Takes.{default_passes}
use Rattle.clap.specs.Words.{App, BuildsTo, FailsBy, HasMatchesOf, IsParsed, Text, app_of, built, fault_of, found_of, has_subcommand, is_simple, is_simple_and_free, kind_of, matches_of, rows_of, takes}
use Rattle.clap.specs.declared.builder.command.Command.{Command}
use Rattle.clap.specs.declared.builder.command.Command.TheViews.{out-Command}
use Rattle.clap.specs.declared.error.Error.{Error}
use Rattle.clap.specs.declared.error.ErrorKind.TheVariants.{OutOfMemory}
use Rattle.clap.specs.declared.parser.matches.ArgMatches.{ArgMatches}
use Rattle.attrd.proofs.Taken.{faultless_taken}

pub rows_of_line : (old new : Command) (line : App) (words : List Text) (r : Result ArgMatches Error) → app_of old ≡ line → is_simple line ≡ true
    → IfOk r (λ m. BuildsTo old new × ((out-Command new).has_globals ≡ false → IsParsed new (found_of m) (has_subcommand m)) × HasMatchesOf (app_of old) words m)
    → IfOk r (λ m. rows_of (found_of m) ≡ matches_of line words)
rows_of_line old new line words (Err e) same simple parsed = tt
rows_of_line old new line words (Ok m) same simple parsed =
    (parsed.2 (ap is_simple same ∙ simple)).0 ∙ ap (λ (a : App). matches_of a words) same

pub refused_by_line : (old : Command) (line : App) (words : List Text) (r : Result ArgMatches Error) → app_of old ≡ line
    → IfErr r (λ e. takes (app_of old) words ≡ true → kind_of e ≡ OutOfMemory) → IfErr r (λ e. takes line words ≡ true → kind_of e ≡ OutOfMemory)
refused_by_line old line words (Ok m) same passes = tt
refused_by_line old line words (Err e) same passes = λ is. passes (ap (λ (a : App). takes a words) same ∙ is)

pub taken_by_line : (old : Command) (line : App) (words : List Text) (r : Result ArgMatches Error) → app_of old ≡ line → is_simple line ≡ true
    → is_simple_and_free line ≡ true → (built line).subs ≡ [] → list_all default_passes (built line).top.rules ≡ true
    → list_all (λ r. r.is_free) (built line).top.rules ≡ true
    → (is_simple_and_free (app_of old) ≡ true → FailsBy (fault_of (app_of old) words) r) → IfOk r (λ _. takes line words ≡ true)
taken_by_line old line words (Err e) same simple simple_and_free leaf defaults free kinds = tt
taken_by_line old line words (Ok m) same simple simple_and_free leaf defaults free kinds =
    faultless_taken line words simple leaf defaults free
    (subst (λ (a : App). fault_of a words ≡ []) same (kinds (ap is_simple_and_free same ∙ simple_and_free)))
