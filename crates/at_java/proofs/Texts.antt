-- A text's tokens, and what is told of them.
use Rattle.std.proofs.Common.{◌≡◌, ℕ, List, [], sym, ap, subst, ◌∙◌, inl, inr}
use Rattle.at_text.specs.Symbols.{HasTokens}
use Rattle.at_text.specs.Rows.{Row, left}
use Rattle.at_text.specs.declared.placed.Placed.{Placed}
use Rattle.at_text.specs.Faults.{FaultsAt}
use Rattle.at_text.specs.declared.scan.ScanFault.{ScanFault}
use Rattle.at_text.specs.declared.scan.ScanFault.TheVariants as scan
use Rattle.at_text.specs.declared.fault.Fault.{Fault}
use Rattle.at_text.specs.declared.fault.Fault.TheVariants.{Refused, Memory}
use Rattle.at_java.specs.declared.JavaCode.{JavaCode}
use Rattle.at_java.specs.Read.{Read, got}
use Rattle.at_java.specs.Aliases.{Alias, resolved_row}
use Rattle.at_java.specs.Files.{Contents, contents_in, contents_of, uncut, IsFaultOf, Holds, IsFault}
use Rattle.at_text.proofs.TextTokens.{one_row}

-- what is read of tokens that were written over is their row as it is meant
pub read_as_meant : (names : List Alias) {read meant lent tokens : List Placed} → read ≡ meant → left meant ≡ resolved_row names (left lent)
    → lent ≡ tokens → left read ≡ resolved_row names (left tokens)
read_as_meant names is means same = ap left is ∙ means ∙ ap (λ ts. resolved_row names (left ts)) same

-- the row that was read is that of the text, with the names as they are read
module _ (names : List Alias) (text : List ℕ) (ts row : Row) (has : HasTokens text ts) (is : row ≡ resolved_row names ts) where
  pub held : (rest : Row) (contents : Contents) → contents_in row ≡ got contents rest → rest ≡ [] → Holds names text contents
  held rest contents found end = record { tokens = ts; cut = has; is = ap contents_in (sym is) ∙ found ∙ ap (got contents) end }

  pub held_only : (us rest : Row) (contents : Contents) → HasTokens text us → contents_in row ≡ got contents rest → rest ≡ []
      → contents_of names us ≡ got contents []
  held_only us rest contents k found end =
      ap (contents_of names) (one_row text us ts k has) ∙ ap contents_in (sym is) ∙ found ∙ ap (got contents) end

  pub fault_only : (us : Row) (e : Fault JavaCode) → HasTokens text us → IsFaultOf text (contents_in row) e → IsFaultOf text (contents_of names us) e
  fault_only us e k f =
      subst (λ (x : Row). IsFaultOf text (contents_in x) e) (is ∙ ap (resolved_row names) (one_row text ts us has k)) f

  pub fault_read : (e : Fault JavaCode) → IsFaultOf text (contents_in row) e → IsFault names text e
  fault_read (Refused code at) f = inr (ts, has, subst (λ (x : Row). IsFaultOf text (contents_in x) (Refused code at)) is f)
  fault_read Memory f = f

pub fault_uncut : (names : List Alias) (text : List ℕ) (f : ScanFault) (e : Fault JavaCode) → FaultsAt text f → e ≡ uncut text f
    → IsFault names text e
fault_uncut names text f (Refused code at) h s = inl (f, h, sym s)
fault_uncut names text f Memory h s = tt

-- a text that is cut into tokens has no fault but want of memory
pub uncut_only : {A : Type 0} (text : List ℕ) (f : ScanFault) (e : Fault JavaCode) (read : Read A) → f ≡ scan.Memory → e ≡ uncut text f → IsFaultOf text read e
uncut_only text f e read m s = subst (λ (x : Fault JavaCode). IsFaultOf text read x) (sym (s ∙ ap (uncut text) m)) tt
