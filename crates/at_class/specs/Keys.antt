-- What keys stand for.
use Rattle.std.specs.Prelude.{◌*◌}
use Rattle.at_model.specs.Drawers as model
use Rattle.at_class.specs.declared.key.Key.{Key}

abbrev pub key_view : Key → model.Key
key_view k = record {
  first = 4 * k.first;
  classes = k.classes;
  token = k.token;
}
