use Rattle.std.proofs.Common.{◌∙◌, Some, None, option_map, string_bytes, ap, refl}
use Rattle.at_model.specs.Run.{Int, Text, Truth, Ref}
use Rattle.at_model.specs.Alike.{neither, both, ref, truth}
use Rattle.at_body.specs.Values.{value_view}
use Rattle.at_store.specs.Shown.{path}
use Rattle.at_engine.proofs.Valued.{int_like, text_like}
use Rattle.at_engine.proofs.engine.view.View.value_named.Goals as goal

pub returns-in_ok-value-in-Text : goal.returns-in_ok-value-in-Text
returns-in_ok-value-in-Text g c =
    rw (c.in-Text.is, c.in_ok-value-in-Text.ensures) (Text (string_bytes c.in-Text.text), refl, text_like (path c.args.self.now.store.now) _ _ (c.in_ok-text-in-Text.ensures.ok ∙ c.as_str.ensures.value))

pub returns-in-Int : goal.returns-in-Int
returns-in-Int g c =
    rw c.in-Int.is (Int c.in-Int.number, refl, int_like (path c.args.self.now.store.now) c.in-Int.number (value_view c.int_value.result) c.int_value.ensures)

pub returns-in-Bool : goal.returns-in-Bool
returns-in-Bool g c = rw c.in-Bool.is (Truth c.in-Bool.truth, refl, truth c.in-Bool.truth)

pub returns-in-Some : goal.returns-in-Some
returns-in-Some g c =
    let (n, named, p) = c.in-Some.ensures in
    rw c.in-Node.is (Ref (Some n), ap (option_map (λ m. Ref (Some m))) named, ref (both p))

pub returns-in-Null : goal.returns-in-Null
returns-in-Null g c = rw c.in-Null.is (Ref None, refl, ref neither)
