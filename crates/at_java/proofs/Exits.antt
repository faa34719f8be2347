-- What a function returns: the result of its last call, or what a `?` hands on.
use Rattle.std.proofs.Common.{◌≡◌, Ok, Err, sym, subst, ◌∙◌}
use Rattle.std.specs.Prelude.{Result, IfOk, IfErr, IsErrAnd}
use Rattle.at_text.specs.Rows.{Row}
use Rattle.at_text.specs.declared.fault.Failure.{Failure}
use Rattle.at_java.specs.declared.reader.Breach.{Breach}
use Rattle.at_java.specs.Read.{Read, got, Fails}
use Rattle.at_java.proofs.Then.{fails_as}

-- a last call that reads the same
pub found_as : {A B E : Type 0} (result : Result A E) (view : A → B) (read other : Read B) (rest : Row) → read ≡ other
    → IfOk result (λ a. other ≡ got (view a) rest) → IfOk result (λ a. read ≡ got (view a) rest)
found_as (Ok a) view read other rest same h = same ∙ h
found_as (Err e) view read other rest same h = tt

pub fault_as : {A B : Type 0} (result : Result A (Failure Breach)) (read other : Read B) (rest : Row) → read ≡ other
    → IfErr result (λ e. Fails e rest other) → IfErr result (λ e. Fails e rest read)
fault_as (Ok a) read other rest same h = tt
fault_as (Err e) read other rest same h = fails_as e rest read other same h

-- the exit of a `?`
pub at_fault : {A B : Type 0} (result : Result A (Failure Breach)) (e : Failure Breach) (rest : Row) (read : Read B) → IsErrAnd result (λ y. y ≡ e)
    → Fails e rest read → IfErr result (λ y. Fails y rest read)
at_fault (Ok a) e rest read is f = tt
at_fault (Err y) e rest read is f = subst (λ (x : Failure Breach). Fails x rest read) (sym is) f
