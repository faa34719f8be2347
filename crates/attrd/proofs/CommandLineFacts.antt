-- The command line at words that are written out.
use Rattle.std.proofs.Common.{◌≡◌, true, false, refl, List, [], ◌∷◌, codes}
use Rattle.clap.specs.Words.{Text, takes}
use Rattle.clap.proofs.OnLiterals.{clap_on_literals}
use Rattle.attrd.specs.CommandLine.{command_line}
use Rattle.attrd.specs.Options.{are_taken}

abbrev files : List Text
files = codes "calc.ast" ∷ codes "tree.txt" ∷ codes "calc.jrag" ∷ []

three_files : takes command_line files ≡ true
unfolding clap_on_literals
three_files = refl

no_aspect : takes command_line (codes "calc.ast" ∷ codes "tree.txt" ∷ []) ≡ false
unfolding clap_on_literals
no_aspect = refl

no_connection : takes command_line (codes "--connections" ∷ codes "0" ∷ files) ≡ false
unfolding clap_on_literals
no_connection = refl

too_many_turns : takes command_line (codes "--slice" ∷ codes "1000001" ∷ files) ≡ false
unfolding clap_on_literals
too_many_turns = refl

no_value_kept : takes command_line (codes "--keep=0" ∷ files) ≡ false
unfolding clap_on_literals
no_value_kept = refl

only_the_version : takes command_line (codes "--version" ∷ files) ≡ false
unfolding clap_on_literals
only_the_version = refl

cut_off : takes command_line (codes "--cut-off" ∷ codes "--index" ∷ codes "--gather" ∷ files) ≡ true
unfolding clap_on_literals
cut_off = refl

forms_named : are_taken (codes "--forms" ∷ codes "circular" ∷ files) ≡ true
unfolding clap_on_literals
forms_named = refl

language_named : are_taken (codes "--forms" ∷ codes "jastadd,circular" ∷ files) ≡ true
unfolding clap_on_literals
language_named = refl

no_such_form : are_taken (codes "--forms=circular,nta" ∷ files) ≡ false
unfolding clap_on_literals
no_such_form = refl

all_of_it : takes command_line (codes "--socket=a" ∷ codes "--connections" ∷ codes "1000" ∷ codes "--slice=1000000" ∷ codes "--keep"
    ∷ codes "1000000000" ∷ codes "--work" ∷ files) ≡ true
unfolding clap_on_literals
all_of_it = refl
