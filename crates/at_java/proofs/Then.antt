-- What is behind a part that was read, or that wasn't.
use Rattle.std.proofs.Common.{◌≡◌, refl, ap, ◌∙◌}
use Rattle.at_text.specs.Rows.{Row}
use Rattle.at_text.specs.declared.fault.Failure.{Failure}
use Rattle.at_text.specs.declared.fault.Failure.TheVariants.{For, Memory}
use Rattle.at_java.specs.declared.reader.Breach.{Breach}
use Rattle.at_java.specs.declared.reader.Breach.TheVariants.{Here, At}
use Rattle.at_java.specs.Read.{Read, got, fails, then_read, Fails}

pub then_got : {A B : Type 0} (read : Read A) (a : A) (rest : Row) (next : A → Row → Read B) (x : Read B)
    → read ≡ got a rest → next a rest ≡ x → then_read read next ≡ x
then_got read a rest next x r n = ap (λ q. then_read q next) r ∙ n

pub then_fails : {A B : Type 0} (e : Failure Breach) (rest : Row) (read : Read A) (next : A → Row → Read B)
    → Fails e rest read → Fails e rest (then_read read next)
then_fails (For (Here code)) rest read next f = ap (λ q. then_read q next) f
then_fails (For (At code at)) rest read next f = ap (λ q. then_read q next) f
then_fails Memory rest read next f = f

pub fails_as : {A : Type 0} (e : Failure Breach) (rest : Row) (read other : Read A)
    → read ≡ other → Fails e rest other → Fails e rest read
fails_as (For (Here code)) rest read other r f = r ∙ f
fails_as (For (At code at)) rest read other r f = r ∙ f
fails_as Memory rest read other r f = f
