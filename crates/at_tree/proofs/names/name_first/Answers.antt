use Rattle.std.proofs.Common.{◌≡◌, ◌++◌, true, false, sym, ap, ◌∙◌, subst, take, drop, rules}
use Rattle.std.specs.Str.{IsCharBoundary}
use Rattle.std.proofs.lemmas.List.{take-append-drop}
use Rattle.at_model.specs.Names.{IsName, is_reserved}
use Rattle.at_tree.specs.PlainNames.{name_len, begins_name}
use Rattle.at_tree.proofs.PlainNamesLemmas.{cut_behind_name, name_bytes, named}
use Rattle.at_tree.proofs.names.name_first.Goals as goal

pub split_at-requires : goal.split_at-requires
split_at-requires c = subst (IsCharBoundary c.args.text.now) (sym c.name_len.ensures) (cut_behind_name c.args.text.now c.utf8.text)

pub returns : goal.returns
returns c =
    let text = c.args.text.now in
    let is : c.split_at.result.0.now ≡ take (name_len text) text = c.split_at.ensures.front ∙ ap (λ n. take n text) c.name_len.ensures in
    let begins : begins_name (take (name_len text) text) ≡ true = ap begins_name (sym is) ∙ search rules in
    let free : is_reserved (take (name_len text) text) ≡ false = ap is_reserved (sym is) ∙ search rules in
    let back : c.split_at.result.1.now ≡ drop (name_len text) text = c.split_at.ensures.back ∙ ap (λ n. drop n text) c.name_len.ensures in
    (subst IsName (sym is) (named (take (name_len text) text) (name_bytes text) begins free), sym (ap (λ ys. ys ++ c.split_at.result.1.now) is ∙ ap (λ ys. take (name_len text) text ++ ys) back ∙ take-append-drop (name_len text) text))
