-- What the machine makes of a question whose words were copied.
use Rattle.std.proofs.Common.{◌≡◌, ◌∙◌, ◌++◌, ◌+◌, ℕ, List, [], ◌∷◌, Option, None, refl, ap, sym, subst, string_bytes}
use Rattle.at_model.specs.Lines.{Argument, Place, Post}
use Rattle.at_model.specs.Machine.{Posts as PostsOf, after, marks_used}
use Rattle.at_model.specs.Names.{IsName}
use Rattle.at_model.specs.Rules.{Rules}
use Rattle.at_model.specs.Run.{Contents}
use Rattle.at_protocol.specs.LineView.{arguments_view, place_view}
use Rattle.at_store.specs.Shown.{Shown, path}
use Rattle.at_cache.specs.Kept.{Entries}
use Rattle.at_demand.specs.declared.question.Question.{Question}
use Rattle.at_engine.specs.Holding.{HasBegun, IsPostedOn, state_in}
use Rattle.at_engine.specs.Keeping.{IsSparingOn}
use Rattle.at_engine.specs.Marks.{Mark, AreThere, Copies}
use Rattle.at_engine.specs.PostedFor.{IsPostedFor}
use Rattle.at_engine.specs.declared.posts.Posted.{Posted}
use Rattle.at_engine.specs.declared.posts.Posts.{Posts}
use Rattle.at_engine.proofs.Commands.{posted_next}
use Rattle.at_engine.proofs.of_turns.Opened.{state_pushed}

-- its own words use the same marks
copies_of : (number session : ℕ) (place : Place) (attribute : List ℕ) (arguments : List Argument) (ms : List Mark) (p : Posted) → IsPostedFor number session place attribute arguments ms p
    → Copies p.session (marks_used (Post (place_view p.place) (string_bytes p.attribute) (arguments_view p.arguments.items))) ms [] p.marks.items.items
copies_of number session place attribute arguments ms p h = rw (h.is_session, h.is_place, h.are_arguments) h.copies

pub pushed_for : (rules : Rules) (s : Shown) (version : ℕ) (ms : List Mark) (old new : Posts) (number session : ℕ) (place : Place) (attribute : List ℕ) (arguments : List Argument) (p : Posted) → IsPostedFor number session place attribute arguments ms p
    → AreThere (path s) ms → new.items.items ≡ old.items.items ++ p ∷ [] → new.count ≡ p.number → number ≡ old.count + 1
    → state_in s version ms new ≡ after (state_in s version ms old) (PostsOf (posted_next rules (state_in s version ms old) session place attribute arguments))
pushed_for rules s version ms old new number session place attribute arguments p h there items count next =
    let was = state_in s version ms old in
    let words : posted_next rules was p.session (place_view p.place) (string_bytes p.attribute) (arguments_view p.arguments.items) ≡ posted_next rules was session place attribute arguments = rw (h.is_session, h.is_place, h.is_attribute, h.are_arguments) refl in
    state_pushed rules s version ms old new p there items count (h.is_number ∙ next) (copies_of number session place attribute arguments ms p h) h.is_new ∙ ap (λ x. after was (PostsOf x)) words

pub posted_on : (rules : Rules) (s : Shown) (entries : Entries) (number session : ℕ) (place : Place) (attribute : List ℕ) (arguments : List Argument) (ms : List Mark) (p : Posted) → IsPostedFor number session place attribute arguments ms p
    → IsName attribute → AreThere (path s) ms → IsPostedOn rules s entries p
posted_on rules s entries number session place attribute arguments ms p h named there = record {
  named = subst IsName (sym h.is_attribute) named;
  marked = h.copies.there (path s) there tt;
  begun = subst (HasBegun rules s entries p) (sym h.is_new) tt;
}

pub sparing_on : (rules : Rules) (look : Contents ℕ) (entries : Entries) (o : Option Question) → o ≡ None → IsSparingOn rules look entries o
sparing_on rules look entries o none = subst (IsSparingOn rules look entries) (sym none) tt
