use Rattle.std.proofs.Common.{ap, sym, ◌∙◌, length, map}
use Rattle.std.proofs.lemmas.List.{with_items_is}
use Rattle.at_text.specs.Pieces.{spelled}
use Rattle.at_text.specs.Symbols.{placed_in}
use Rattle.at_text.specs.Rows.{left}
use Rattle.at_java.specs.Files.{contents_in, contents_of}
use Rattle.at_text.proofs.TextTokens.{has_tokens}
use Rattle.at_java.proofs.Texts.{read_as_meant, held, held_only, fault_only, fault_read, fault_uncut, uncut_only}
use Rattle.at_java.proofs.parse_java.Goals as goal

-- ---- what is read

pub returns-in-Ok-file-clause-found : goal.returns-in-Ok-file-clause-found
returns-in-Ok-file-clause-found c =
    let placing = c.in_ok-tokens.ensures ∙ ap (λ x. map (placed_in c.args.text.now) (map spelled x)) c.deref.ensures.value in
    let l = c.in-Ok.ensures.tokens in
    let has = has_tokens c.args.text.now l.0 _ _ l.1 l.2 placing in
    let all = c.in_ok-tokens.tokens in
    let whole = with_items_is all c.resolve.new.tokens (c.resolve.ensures.len ∙ ap length c.deref_mut.ensures.value ∙ sym all.ok.0) in
    let read = read_as_meant c.args.aliases.now (c.new-reader.ensures ∙ c.deref-2.ensures.value ∙ whole) c.in_ok-resolve.ensures.meant c.deref_mut.ensures.value in
    held c.args.aliases.now c.args.text.now _ _ has read _ _ c.in-Ok-file.ensures.found c.in-Ok-file.ensures.end

pub returns-in-Ok-file-clause-only : goal.returns-in-Ok-file-clause-only
returns-in-Ok-file-clause-only c = λ ts given.
    let placing = c.in_ok-tokens.ensures ∙ ap (λ x. map (placed_in c.args.text.now) (map spelled x)) c.deref.ensures.value in
    let l = c.in-Ok.ensures.tokens in
    let has = has_tokens c.args.text.now l.0 _ _ l.1 l.2 placing in
    let all = c.in_ok-tokens.tokens in
    let whole = with_items_is all c.resolve.new.tokens (c.resolve.ensures.len ∙ ap length c.deref_mut.ensures.value ∙ sym all.ok.0) in
    let read = read_as_meant c.args.aliases.now (c.new-reader.ensures ∙ c.deref-2.ensures.value ∙ whole) c.in_ok-resolve.ensures.meant c.deref_mut.ensures.value in
    held_only c.args.aliases.now c.args.text.now _ _ has read ts _ _ given c.in-Ok-file.ensures.found c.in-Ok-file.ensures.end

-- ---- what is refused

pub returns-in-Err-For-clause-fault : goal.returns-in-Err-For-clause-fault
returns-in-Err-For-clause-fault c =
    let placing = c.in_ok-tokens.ensures ∙ ap (λ x. map (placed_in c.args.text.now) (map spelled x)) c.deref.ensures.value in
    let l = c.in-Ok.ensures.tokens in
    let has = has_tokens c.args.text.now l.0 _ _ l.1 l.2 placing in
    let all = c.in_ok-tokens.tokens in
    let whole = with_items_is all c.resolve.new.tokens (c.resolve.ensures.len ∙ ap length c.deref_mut.ensures.value ∙ sym all.ok.0) in
    let read = read_as_meant c.args.aliases.now (c.new-reader.ensures ∙ c.deref-2.ensures.value ∙ whole) c.in_ok-resolve.ensures.meant c.deref_mut.ensures.value in
    let f = rw c.in-Err-For.field-0-is at c.in-Err-For.ensures.fault in
    fault_read c.args.aliases.now c.args.text.now _ _ has read c.breached.result (c.breached.ensures (contents_in (left c.new-reader.result.cursor.rest.now)) f)

pub returns-in-Err-For-clause-only : goal.returns-in-Err-For-clause-only
returns-in-Err-For-clause-only c = λ ts given.
    let placing = c.in_ok-tokens.ensures ∙ ap (λ x. map (placed_in c.args.text.now) (map spelled x)) c.deref.ensures.value in
    let l = c.in-Ok.ensures.tokens in
    let has = has_tokens c.args.text.now l.0 _ _ l.1 l.2 placing in
    let all = c.in_ok-tokens.tokens in
    let whole = with_items_is all c.resolve.new.tokens (c.resolve.ensures.len ∙ ap length c.deref_mut.ensures.value ∙ sym all.ok.0) in
    let read = read_as_meant c.args.aliases.now (c.new-reader.ensures ∙ c.deref-2.ensures.value ∙ whole) c.in_ok-resolve.ensures.meant c.deref_mut.ensures.value in
    let f = rw c.in-Err-For.field-0-is at c.in-Err-For.ensures.fault in
    fault_only c.args.aliases.now c.args.text.now _ _ has read ts c.breached.result given (c.breached.ensures (contents_in (left c.new-reader.result.cursor.rest.now)) f)

-- ---- texts that can't be cut

pub returns-in-Err-clause-fault : goal.returns-in-Err-clause-fault
returns-in-Err-clause-fault c = fault_uncut c.args.aliases.now c.args.text.now c.in-Err.fault c.scan_fault.result c.in-Err.ensures.fault c.scan_fault.ensures

pub returns-in-Err-clause-only : goal.returns-in-Err-clause-only
returns-in-Err-clause-only c = λ ts given.
    uncut_only c.args.text.now c.in-Err.fault c.scan_fault.result (contents_of c.args.aliases.now ts) (c.in-Err.ensures.only given.0 given.1) c.scan_fault.ensures
