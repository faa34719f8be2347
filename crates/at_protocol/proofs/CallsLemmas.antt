-- Questions: an attribute and its arguments, taken apart and put together.
use Rattle.std.proofs.Common.{◌≡◌, ◌≢◌, ℕ, ◌+◌, ◌<◌, List, [], ◌∷◌, ◌++◌, map, length, Option, Some, None, option_map, refl, ap, sym, ◌∙◌, subst, arith, append-nil, append_assoc, length-append}
use Rattle.std.specs.Prelude.{codes, slice_index}
use Rattle.std.specs.List.{AllByRecursion}
use denote.Ref.{Bor}
use Rattle.std.proofs.lemmas.List.{append_cancel_right, map-append}
use Rattle.at_model.specs.Terms.{with_commas}
use Rattle.at_model.specs.Lines.{Argument, Text, Int, Truth, Ref, Null, Place, IsArgument, argument_text, place_text}
use Rattle.at_model.proofs.of_texts.OneLine.{same_argument, place_head}
use Rattle.at_model.proofs.of_texts.QuotedTexts.{same_quoted}
use Rattle.at_protocol.specs.Words.{HasNo, FailsOn, IsNameText}
use Rattle.at_protocol.specs.Calls.{IsCallText, AreArguments, IsNextArgument, IsBareArgument, IsQuotedFirst, behind_argument}
use Rattle.at_protocol.specs.LineView.{argument_view, arguments_view}
use Rattle.at_protocol.specs.declared.line.Argument.{Argument as ArgumentValue}
use Rattle.at_text.specs.declared.fault.Failure.{Failure}
use Rattle.at_protocol.specs.declared.line.words.Misfit.{Misfit}
use Rattle.at_protocol.proofs.Answering.{fails_with}
use Rattle.at_protocol.proofs.Arguments.{no_comma_int, no_comma_truth, unquoted_int, unquoted_truth}
use Rattle.at_protocol.proofs.Spaces.{two_parts, one_cut, has_no_name, has_no_place, has_no_test, comma_outside, tail_of, first, IsNext}

-- the name, and what stands between the parentheses
pub inside_call : (text name inside b : List ℕ) (arguments : List Argument) → text ≡ name ++ 40 ∷ (inside ++ 41 ∷ []) → HasNo 40 name → IsCallText text (b, arguments) → (b ≡ name) × (with_commas (map argument_text arguments) ≡ inside)
inside_call text name inside b arguments split one h =
    let parts = two_parts 40 b name _ _ (h.2 ∙ split) (has_no_name 40 refl b h.0) one in
    (parts.0, append_cancel_right _ inside (41 ∷ []) parts.1)

pub no_call : (text : List ℕ) → ((name inside : List ℕ) → HasNo 40 name → text ≢ name ++ 40 ∷ (inside ++ 41 ∷ [])) → (call : List ℕ × List Argument) → IsCallText text call → ⊥
no_call text none call h = none call.0 _ (has_no_name 40 refl call.0 h.0) (sym h.2)

pub name_fails : (text name inside : List ℕ) (fault : Failure Misfit) → text ≡ name ++ 40 ∷ (inside ++ 41 ∷ []) → HasNo 40 name → FailsOn (IsNameText name) fault → FailsOn (IsCallText text) fault
name_fails text name inside fault split one = fails_with (IsNameText name) (IsCallText text) fault (λ call h. (call.0, (h.0, (inside_call text name inside call.0 call.1 split one h).0)))

-- with something inside there are arguments
are_inside : (inside : List ℕ) (arguments : List Argument) → (inside ≡ [] → ⊥) → AllByRecursion IsArgument arguments → with_commas (map argument_text arguments) ≡ inside → AreArguments inside arguments
are_inside inside [] some h e = absurd (some (sym e))
are_inside inside (a ∷ as') some h e = (h, e)

pub arguments_fail : (text name inside : List ℕ) (fault : Failure Misfit) → text ≡ name ++ 40 ∷ (inside ++ 41 ∷ []) → HasNo 40 name → (inside ≡ [] → ⊥) → FailsOn (AreArguments inside) fault → FailsOn (IsCallText text) fault
arguments_fail text name inside fault split one some = fails_with (AreArguments inside) (IsCallText text) fault (λ call h. (call.1, are_inside inside call.1 some h.1 (inside_call text name inside call.0 call.1 split one h).1))

-- one argument more at the front
pub one_more : (text rest : List ℕ) (a : Argument) (more : List Argument) → IsNextArgument text (a, Some rest) → AreArguments rest more → AreArguments text (a ∷ more)
one_more text rest a [] h k = absurd k
one_more text rest a (b ∷ bs) h k = ((h.0, k.0), ap (λ y. argument_text a ++ 44 ∷ y) k.1 ∙ h.1)

pub alone : (text : List ℕ) (a : Argument) → IsNextArgument text (a, None) → AreArguments text (a ∷ [])
alone text a h = ((h.0, tt), sym (append-nil (argument_text a)) ∙ h.1)

next_of : (text : List ℕ) (arguments : List Argument) → AreArguments text arguments → (next : Argument × Option (List ℕ)) × IsNextArgument text next
next_of text [] h = absurd h
next_of text (a ∷ []) h = ((a, None), (h.0.0, append-nil (argument_text a) ∙ h.1))
next_of text (a ∷ b ∷ bs) h = ((a, Some (with_commas (map argument_text (b ∷ bs)))), (h.0.0, h.1))

-- what stands behind the comma are arguments
behind_comma : (text rest : List ℕ) (a : Argument) (arguments : List Argument) → IsNextArgument text (a, Some rest) → AreArguments text arguments → (more : List Argument) × AreArguments rest more
behind_comma text rest a [] h k = absurd k
behind_comma text rest a (b ∷ []) h k =
    let same = same_argument b a [] (44 ∷ rest) k.0.0 h.0 tt refl (append-nil (argument_text b) ∙ k.1 ∙ sym h.1) in
    let none : [] ≡ 44 ∷ rest = same.1 in absurd (cc)
behind_comma text rest a (b ∷ c ∷ cs) h k =
    let same = same_argument b a (44 ∷ with_commas (map argument_text (c ∷ cs))) (44 ∷ rest) k.0.0 h.0 refl refl (k.1 ∙ sym h.1) in
    (c ∷ cs, (k.0.1, ap tail_of same.1))

-- what is still wanted: nothing, or arguments that make the whole with those that were read
abbrev pub Wanted : List ℕ → List Argument → Option (List ℕ) → Type 0
Wanted text read None = AreArguments text read
Wanted text read (Some rest) =
    ((more : List Argument) → AreArguments rest more → AreArguments text (read ++ more))
    × ((arguments : List Argument) → AreArguments text arguments → (more : List Argument) × AreArguments rest more)

pub wanted_first : (text : List ℕ) (a : Argument) (behind : Option (List ℕ)) → IsNextArgument text (a, behind) → Wanted text (a ∷ []) behind
wanted_first text a None h = alone text a h
wanted_first text a (Some rest) h = (λ more k. one_more text rest a more h k, λ arguments k. behind_comma text rest a arguments h k)

pub wanted_next : (text rest : List ℕ) (read : List Argument) (a : Argument) (behind : Option (List ℕ)) → Wanted text read (Some rest) → IsNextArgument rest (a, behind) → Wanted text (read ++ a ∷ []) behind
wanted_next text rest read a None w h = w.0 (a ∷ []) (alone rest a h)
wanted_next text rest read a (Some more) w h = (
  λ others k. subst (AreArguments text) (sym (append_assoc read (a ∷ []) others)) (w.0 (a ∷ others) (one_more rest more a others h k)),
  λ arguments k. let inner = w.1 arguments k in behind_comma rest more a inner.0 h inner.1,
)

pub first_fails : (text : List ℕ) (fault : Failure Misfit) → FailsOn (IsNextArgument text) fault → FailsOn (AreArguments text) fault
first_fails text fault = fails_with (IsNextArgument text) (AreArguments text) fault (next_of text)

pub next_fails : (text rest : List ℕ) (read : List Argument) (fault : Failure Misfit) → Wanted text read (Some rest) → FailsOn (IsNextArgument rest) fault → FailsOn (AreArguments text) fault
next_fails text rest read fault w = fails_with (IsNextArgument rest) (AreArguments text) fault (λ arguments k. let inner = w.1 arguments k in next_of rest inner.0 inner.1)

-- how much is left
pub left : Option (List ℕ) → ℕ
left None = 0
left (Some rest) = 1 + length rest

pub less_left : (text : List ℕ) (a : Argument) (behind : Option (List ℕ)) → IsNextArgument text (a, behind) → left behind < left (Some text)
unfolding left
less_left text a None h = omega arith
less_left text a (Some rest) h = omega (arith, ap length h.1, length-append (argument_text a) (44 ∷ rest), length-append (44 ∷ []) rest)

pub smaller : (rest : Option (Bor (List ℕ))) (text : Bor (List ℕ)) (a : Argument) (behind : Option (Bor (List ℕ))) → rest ≡ Some text → IsNextArgument text.now (a, option_map (λ r. r.now) behind) → left (option_map (λ r. r.now) behind) < left (option_map (λ r. r.now) rest)
smaller rest text a behind is h = subst (λ (o : Option (Bor (List ℕ))). left (option_map (λ r. r.now) behind) < left (option_map (λ r. r.now) o)) (sym is) (less_left text.now a (option_map (λ r. r.now) behind) h)

pub wanted_some : (text : List ℕ) (read : List Argument) (rest : Option (Bor (List ℕ))) (front : Bor (List ℕ)) → rest ≡ Some front → Wanted text read (option_map (λ r. r.now) rest) → Wanted text read (Some front.now)
wanted_some text read rest front is w = subst (λ (o : Option (Bor (List ℕ))). Wanted text read (option_map (λ r. r.now) o)) is w

-- what was read, with one argument more
pub wanted_pushed : (text : List ℕ) (old new : List ArgumentValue) (a : ArgumentValue) (behind : Option (List ℕ)) → new ≡ old ++ a ∷ [] → Wanted text (arguments_view old ++ argument_view a ∷ []) behind → Wanted text (arguments_view new) behind
wanted_pushed text old new a behind is w = subst (λ r. Wanted text r behind) (sym (ap arguments_view is ∙ map-append argument_view old (a ∷ []))) w

-- an argument at the front is no text where no quote stands there
record IsBare (text : List ℕ) (a : Argument) : Type 0 where
  is_bare : IsBareArgument (argument_text a) a
  one : HasNo 44 (argument_text a)

no_comma_null : HasNo 44 (codes "null")
no_comma_null = has_no_test 44 (codes "null") refl

bare : (text : List ℕ) (a : Argument) (behind : Option (List ℕ)) → (slice_index text 0 ≡ 34 → ⊥) → IsNextArgument text (a, behind) → IsBare text a
bare text (Text value) behind none h = absurd (none (sym (first _ _ h.1)))
bare text (Int n) behind none h = record { is_bare = (h.0, refl); one = no_comma_int n h.0 }
bare text (Truth b) behind none h = record { is_bare = (tt, refl); one = no_comma_truth b }
bare text (Ref place) behind none h = record { is_bare = (h.0, refl); one = has_no_place 44 comma_outside place h.0 }
bare text Null behind none h = record { is_bare = (tt, refl); one = no_comma_null }

behind_next : (behind : Option (List ℕ)) → IsNext 44 (behind_argument behind)
behind_next None = tt
behind_next (Some rest) = refl

pub comma_fails : (text word rest : List ℕ) (fault : Failure Misfit) → (slice_index text 0 ≡ 34 → ⊥) → text ≡ word ++ 44 ∷ rest → HasNo 44 word → FailsOn (IsBareArgument word) fault → FailsOn (IsNextArgument text) fault
comma_fails text word rest fault none split one = fails_with (IsBareArgument word) (IsNextArgument text) fault part
  where
    part : (next : Argument × Option (List ℕ)) → IsNextArgument text next → (a : Argument) × IsBareArgument word a
    part next h =
        let b = bare text next.0 next.1 none h in
        let same = one_cut 44 (argument_text next.0) word (behind_argument next.1) (44 ∷ rest) (h.1 ∙ split) b.one one (behind_next next.1) refl in
        (next.0, subst (λ y. IsBareArgument y next.0) same.0 b.is_bare)

pub end_fails : (text : List ℕ) (fault : Failure Misfit) → (slice_index text 0 ≡ 34 → ⊥) → HasNo 44 text → FailsOn (IsBareArgument text) fault → FailsOn (IsNextArgument text) fault
end_fails text fault none one = fails_with (IsBareArgument text) (IsNextArgument text) fault part
  where
    part : (next : Argument × Option (List ℕ)) → IsNextArgument text next → (a : Argument) × IsBareArgument text a
    part next h =
        let b = bare text next.0 next.1 none h in
        let same = one_cut 44 (argument_text next.0) text (behind_argument next.1) [] (h.1 ∙ sym (append-nil text)) b.one one (behind_next next.1) tt in
        (next.0, subst (λ y. IsBareArgument y next.0) same.0 b.is_bare)

-- texts
no_place_quote : (text : List ℕ) (place : Place) (behind : List ℕ) → slice_index text 0 ≡ 34 → place_text place ++ behind ≡ text → ⊥
no_place_quote [] place behind q e = absurd (cc)
no_place_quote (b ∷ bs) place behind q e = place_head place behind bs 34 refl refl (e ∙ ap (λ (d : ℕ). d ∷ bs) q)

unquoted : (behind : Option (List ℕ)) → slice_index (behind_argument behind) 0 ≡ 34 → ⊥
unquoted None e = omega (arith, e)
unquoted (Some rest) e = omega (arith, e)

is_quoted : (text : List ℕ) (a : Argument) (behind : Option (List ℕ)) → slice_index text 0 ≡ 34 → IsNextArgument text (a, behind) → (value : List ℕ) × IsQuotedFirst text (value, behind_argument behind)
is_quoted text (Text value) behind q h = (value, h)
is_quoted text (Int n) behind q h = absurd (unquoted_int n (behind_argument behind) text (unquoted behind) h.0 h.1 q)
is_quoted text (Truth b) behind q h = absurd (unquoted_truth b (behind_argument behind) text h.1 q)
is_quoted text (Ref place) behind q h = absurd (no_place_quote text place (behind_argument behind) q h.1)
is_quoted text Null behind q h = let f : 110 ≡ slice_index text 0 = first _ _ h.1 in absurd (omega (arith, f, q))

pub quote_fails : (text : List ℕ) (fault : Failure Misfit) → slice_index text 0 ≡ 34 → FailsOn (IsQuotedFirst text) fault → FailsOn (IsNextArgument text) fault
quote_fails text fault q = fails_with (IsQuotedFirst text) (IsNextArgument text) fault (λ next h. let f = is_quoted text next.0 next.1 q h in ((f.0, behind_argument next.1), f.1))

neither : (behind : Option (List ℕ)) (rest : List ℕ) → (rest ≡ [] → ⊥) → ((more : List ℕ) → rest ≢ 44 ∷ more) → behind_argument behind ≡ rest → ⊥
neither None rest some none e = some (sym e)
neither (Some more) rest some none e = none more (sym e)

pub no_comma : (text value rest : List ℕ) → slice_index text 0 ≡ 34 → IsQuotedFirst text (value, rest) → (rest ≡ [] → ⊥) → ((more : List ℕ) → rest ≢ 44 ∷ more) → (next : Argument × Option (List ℕ)) → IsNextArgument text next → ⊥
no_comma text value rest q h some none next k =
    let f = is_quoted text next.0 next.1 q k in
    let same = same_quoted f.0 value (behind_argument next.1) rest (f.1.1 ∙ sym h.1) in
    neither next.1 rest some none same.1
