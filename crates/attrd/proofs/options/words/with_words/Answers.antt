use Rattle.std.proofs.Common.{◌∙◌, ◌+◌, ap, sym, refl, drop, map}
use Rattle.std.proofs.lemmas.List.{at_drop_all, at_drop_more}
use Rattle.clap.specs.Words.{app_of, with_rule}
use Rattle.attrd.specs.CommandLine.{rule, with_words}
use Rattle.attrd.proofs.CommandLineLemmas.{one_more, none_more}
use Rattle.attrd.proofs.options.words.with_words.Goals as goal

pub loop-word-init : goal.loop-word-init
loop-word-init c = refl

pub loop-word-preserved : goal.loop-word-preserved
loop-word-preserved c =
    let all = c.args.words.now in
    let i = c.loop-word.word-index in
    let old = app_of c.loop-word.command in
    ap (λ a. with_words a (map rule (drop (i + 1) all))) (c.in_ok-command.ensures.shape c.argument.ensures.1 ∙ ap (with_rule old) c.argument.ensures.0)
    ∙ (one_more old _ (map rule (drop (i + 1) all))
    ∙ (sym (at_drop_more (λ ws. with_words old (map rule ws)) all i _ c.loop-word-test.true) ∙ c.loop-word.invariant))

pub returns : goal.returns
returns c =
    let now = app_of c.loop-word.command in
    sym (none_more now) ∙ (sym (at_drop_all (λ ws. with_words now (map rule ws)) c.args.words.now _ c.loop-word-test.false) ∙ c.loop-word.invariant)
