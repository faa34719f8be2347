use Rattle.std.proofs.Common.{◌≡◌, [], map, subst, sym}
use Rattle.at_text.specs.Pieces.{Cut, spelled, spelled_at}
use Rattle.at_text.specs.declared.scan.ScanFault.TheVariants as fault
use Rattle.at_start.proofs.Slashing.{cut_so, other_fault, uncut_so}
use Rattle.at_start.proofs.slashes.unslashed.Goals as goal

pub returns-in-Ok-clause-read : goal.returns-in-Ok-clause-read
returns-in-Ok-clause-read c =
    let same = c.deref.ensures.value in
    cut_so c.args.text.now c.deref.result.now
    (subst (λ ts. (ps : _) × Cut c.args.text.now ps [] × (map spelled ts ≡ spelled_at 0 ps)) (sym same) c.in-Ok.ensures.tokens)
    c.without_slashes.result c.without_slashes.ensures.bytes c.without_slashes.ensures.marks

pub returns-in-Err-Bad-clause-read : goal.returns-in-Err-Bad-clause-read
returns-in-Err-Bad-clause-read c =
    let e = c.in-Err-Bad in
    uncut_so c.args.text.now e.field-0 (λ same. other_fault (fault.Bad e.field-0-0) e.field-0 e.field-0-is same (λ is. cc)) e.ensures.fault
    c.as_it_stands.result c.as_it_stands.ensures.bytes c.as_it_stands.ensures.marks

pub returns-in-Err-OpenText-clause-read : goal.returns-in-Err-OpenText-clause-read
returns-in-Err-OpenText-clause-read c =
    let e = c.in-Err-OpenText in
    uncut_so c.args.text.now e.field-0 (λ same. other_fault (fault.OpenText e.field-0-0) e.field-0 e.field-0-is same (λ is. cc)) e.ensures.fault
    c.as_it_stands-in-Err-OpenText.result c.as_it_stands-in-Err-OpenText.ensures.bytes c.as_it_stands-in-Err-OpenText.ensures.marks

pub returns-in-Err-OpenComment-clause-read : goal.returns-in-Err-OpenComment-clause-read
returns-in-Err-OpenComment-clause-read c =
    let e = c.in-Err-OpenComment in
    uncut_so c.args.text.now e.field-0 (λ same. other_fault (fault.OpenComment e.field-0-0) e.field-0 e.field-0-is same (λ is. cc)) e.ensures.fault
    c.as_it_stands-in-Err-OpenComment.result c.as_it_stands-in-Err-OpenComment.ensures.bytes c.as_it_stands-in-Err-OpenComment.ensures.marks
