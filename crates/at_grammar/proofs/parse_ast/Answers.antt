use Rattle.std.proofs.Common.{ap, ◌∙◌, sym, map, length, arith}
use Rattle.at_text.specs.Pieces.{spelled}
use Rattle.at_text.specs.Symbols.{placed, placed_in}
use Rattle.at_grammar.specs.Forms.{reason}
use Rattle.at_text.proofs.TextTokens.{has_tokens, one_row}
use Rattle.at_grammar.proofs.Files.{read_whole, same_classes, is_met, left_within, place_behind}
use Rattle.at_grammar.proofs.OneFault.{fault_only, fault_same}
use Rattle.at_grammar.proofs.parse_ast.Goals as goal

-- ---- what is read

pub returns-in-Ok-file-clause-found : goal.returns-in-Ok-file-clause-found
returns-in-Ok-file-clause-found c =
    let l = c.in-Ok.ensures.tokens in
    let same = c.new-reader.ensures ∙ c.deref-2.ensures.value in
    let placing = ap (map placed) same ∙ c.in_ok-tokens.ensures ∙ ap (λ x. map (placed_in c.args.text.now) (map spelled x)) c.deref.ensures.value in
    let r = c.in-Ok-file.ensures.read in
    (_, has_tokens c.args.text.now l.0 _ _ l.1 l.2 placing, (r.0, read_whole _ _ r.0 r.2 c.in-Ok-file.ensures.end, r.1))

pub returns-in-Ok-file-clause-only : goal.returns-in-Ok-file-clause-only
returns-in-Ok-file-clause-only c = λ ts f has spells.
    let r = returns-in-Ok-file-clause-found c in
    r.2.2 ∙ same_classes r.0 ts r.2.0 f (one_row c.args.text.now r.0 ts r.1 has) r.2.1 spells

pub returns-in-Ok-file-clause-refused : goal.returns-in-Ok-file-clause-refused
returns-in-Ok-file-clause-refused c = λ e none h.
    let r = returns-in-Ok-file-clause-found c in
    none (fault_only c.args.text.now e h r.0 r.2.0 r.1 r.2.1)

-- ---- what can't be cut into tokens

pub returns-in-Err-clause-only : goal.returns-in-Err-clause-only
returns-in-Err-clause-only c = λ ts f has spells. fault_only c.args.text.now _ c.scan_fault.ensures ts f has spells

pub returns-in-Err-clause-refused : goal.returns-in-Err-clause-refused
returns-in-Err-clause-refused c = λ e none h. fault_same c.args.text.now _ c.scan_fault.ensures e none h

-- ---- where reading stops

pub place_left-at-requires : goal.place_left-at-requires
place_left-at-requires c =
    let same = c.new-reader.ensures ∙ c.deref-2.ensures.value in
    let s = rw c.in-Err-For.field-0-is at c.in-Err-For.ensures.read in
    let w = left_within (reason c.in-Err-For.code) _ _ s in
    omega (arith, w, c.count_left.ensures, ap length same, ap length c.deref-in-Err-For.ensures.value)

pub returns-in-Err-For-clause-fault : goal.returns-in-Err-For-clause-fault
returns-in-Err-For-clause-fault c =
    let same = c.new-reader.ensures ∙ c.deref-2.ensures.value in
    let placing = ap (map placed) same ∙ c.in_ok-tokens.ensures ∙ ap (λ x. map (placed_in c.args.text.now) (map spelled x)) c.deref.ensures.value in
    let l = c.in-Ok.ensures.tokens in
    let s = rw c.in-Err-For.field-0-is at c.in-Err-For.ensures.read in
    let at = place_behind c.args.text.now _ _ _ _ _ (c.deref-in-Err-For.ensures.value ∙ sym same) c.count_left.ensures c.place_left-at.ensures in
    is_met c.args.text.now c.in-Err-For.code _ _ _ s (has_tokens c.args.text.now l.0 _ _ l.1 l.2 placing) at

pub returns-in-Err-For-clause-only : goal.returns-in-Err-For-clause-only
returns-in-Err-For-clause-only c = λ ts f has spells. fault_only c.args.text.now _ (returns-in-Err-For-clause-fault c) ts f has spells

pub returns-in-Err-For-clause-refused : goal.returns-in-Err-For-clause-refused
returns-in-Err-For-clause-refused c = λ e none h. fault_same c.args.text.now _ (returns-in-Err-For-clause-fault c) e none h
