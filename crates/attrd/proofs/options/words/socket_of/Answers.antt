use Rattle.std.proofs.Common.{◌∙◌, ap, sym, codes, Some, option_map}
use Rattle.clap.specs.Words.{found_of}
use Rattle.clap.proofs.WalkLemmas.{first_value-rows}
use Rattle.attrd.proofs.options.words.socket_of.Goals as goal

pub returns-in_ok-from_str-in-Some : goal.returns-in_ok-from_str-in-Some
returns-in_ok-from_str-in-Some c =
    ap Some c.in_ok-from_str-in-Some.ensures.ok
    ∙ (ap (option_map (λ s. s.now)) (sym c.in-Some.is)
    ∙ (c.get_str.ensures ∙ first_value-rows (found_of c.args.matches.now) (codes "socket")))

pub returns-in-None : goal.returns-in-None
returns-in-None c =
    ap (option_map (λ s. s.now)) (sym c.in-None.is)
    ∙ (c.get_str.ensures ∙ first_value-rows (found_of c.args.matches.now) (codes "socket"))
