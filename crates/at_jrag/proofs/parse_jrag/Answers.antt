use Rattle.std.proofs.Common.{[], ap, ◌∙◌, sym, map, length, arith}
use Rattle.at_text.specs.Pieces.{spelled}
use Rattle.at_text.specs.Symbols.{placed, placed_in}
use Rattle.at_text.specs.Rows.{left}
use Rattle.at_jrag.specs.Runs.{reason}
use Rattle.at_jrag.specs.View.{aspect_view}
use Rattle.at_text.proofs.TextTokens.{has_tokens}
use Rattle.at_jrag.proofs.Files.{met, is_met, file_only, file_same, place_met}
use Rattle.at_jrag.proofs.parse_jrag.Goals as goal

-- ---- what is read

pub returns-in-Ok-file-clause-only : goal.returns-in-Ok-file-clause-only
returns-in-Ok-file-clause-only c = λ ts aspects given file within.
    let same = c.new-reader.ensures ∙ c.deref-2.ensures.value in
    let placing = ap (map placed) same ∙ c.in_ok-tokens.ensures ∙ ap (λ x. map (placed_in c.args.text.now) (map spelled x)) c.deref.ensures.value in
    let l = c.in-Ok.ensures.tokens in
    let has = has_tokens c.args.text.now l.0 _ _ l.1 l.2 placing in
    let read = map aspect_view c.in-Ok-file.aspects.items in
    file_same c.args.forms c.args.text.now (left c.new-reader.result.cursor.rest.now) ts (left
    c.file.new.self.cursor.rest.now) read aspects has given c.in-Ok-file.ensures.found c.in-Ok-file.ensures.end file

-- ---- what is refused

pub fault_place-at-requires : goal.fault_place-at-requires
fault_place-at-requires c =
    let same = c.new-reader.ensures ∙ c.deref-2.ensures.value in
    let placing = ap (map placed) same ∙ c.in_ok-tokens.ensures ∙ ap (λ x. map (placed_in c.args.text.now) (map spelled x)) c.deref.ensures.value in
    let l = c.in-Ok.ensures.tokens in
    let has = has_tokens c.args.text.now l.0 _ _ l.1 l.2 placing in
    let s = rw c.in-Err-For.field-0-is at c.in-Err-For.ensures.stays in
    let m = met c.args.forms c.args.text.now (reason c.in-Err-For.code) c.new-reader.result.cursor.rest.now c.file.new.self.cursor.rest.now has (s 0 []) in
    omega (arith, m.fits, c.count_left.ensures, ap length same, ap length c.deref-in-Err-For.ensures.value)

pub returns-in-Err-For-clause-only : goal.returns-in-Err-For-clause-only
returns-in-Err-For-clause-only c = λ ts aspects given file within.
    let same = c.new-reader.ensures ∙ c.deref-2.ensures.value in
    let placing = ap (map placed) same ∙ c.in_ok-tokens.ensures ∙ ap (λ x. map (placed_in c.args.text.now) (map spelled x)) c.deref.ensures.value in
    let l = c.in-Ok.ensures.tokens in
    let has = has_tokens c.args.text.now l.0 _ _ l.1 l.2 placing in
    let s = rw c.in-Err-For.field-0-is at c.in-Err-For.ensures.stays in
    absurd (file_only c.args.forms c.args.text.now (reason c.in-Err-For.code) (left c.new-reader.result.cursor.rest.now)
    ts (left c.file.new.self.cursor.rest.now) aspects has given (s 0 []) file within)

pub returns-in-Err-For-clause-fault : goal.returns-in-Err-For-clause-fault
returns-in-Err-For-clause-fault c =
    let same = c.new-reader.ensures ∙ c.deref-2.ensures.value in
    let placing = ap (map placed) same ∙ c.in_ok-tokens.ensures ∙ ap (λ x. map (placed_in c.args.text.now) (map spelled x)) c.deref.ensures.value in
    let l = c.in-Ok.ensures.tokens in
    let has = has_tokens c.args.text.now l.0 _ _ l.1 l.2 placing in
    let s = rw c.in-Err-For.field-0-is at c.in-Err-For.ensures.stays in
    let m = met c.args.forms c.args.text.now (reason c.in-Err-For.code) c.new-reader.result.cursor.rest.now c.file.new.self.cursor.rest.now has (s 0 []) in
    let at = place_met c.args.text.now c.in-Err-For.code c.new-reader.result.cursor.rest.now
    _ _ _ _ _ _ (c.deref-in-Err-For.ensures.value ∙ sym same) c.count_left.ensures c.fault_place-at.ensures
    m.front_is m.rest_is in
    is_met c.args.forms c.args.text.now c.in-Err-For.code _ _ _ m at
