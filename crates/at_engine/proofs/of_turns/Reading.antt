-- A question for the words of an open one.
use Rattle.std.proofs.Common.{◌≡◌, ◌∙◌, ℕ, true, false, List, None, ap, sym, subst, string_bytes}
use Rattle.std.specs.List.{list_all}
use Rattle.at_model.specs.Alike.{InstanceLike, Names}
use Rattle.at_model.specs.Lines.{Ask, Command}
use Rattle.at_model.specs.Replies as code
use Rattle.at_model.specs.Rules.{Rules}
use Rattle.at_model.specs.Run.{Instance}
use Rattle.at_model.specs.Turning.{UnderWay, posted}
use Rattle.at_model.specs.of_fixpoints.Searching.{posted as search_posted}
use Rattle.at_model.specs.Machine.{Verdict, Asks, Refuses, is_read, marks_used, obeyed}
use Rattle.at_protocol.specs.LineView.{arguments_view, place_view}
use Rattle.at_protocol.specs.ReplyView.{code_view}
use Rattle.at_protocol.specs.declared.reply.Refusal.{Refusal}
use Rattle.at_store.specs.Shown.{Shown, path, tree}
use Rattle.at_cache.specs.Kept.{Entries}
use Rattle.at_demand.specs.Levels.{StandsFor, asked_by}
use Rattle.at_demand.specs.Turns.{IsStanding, under_way}
use Rattle.at_demand.specs.declared.question.Question.{Question}
use Rattle.at_engine.specs.Asking.{IsInstanceOf}
use Rattle.at_engine.specs.Holding.{state_in, words_verdict}
use Rattle.at_engine.specs.Marks.{AreThere, has_mark}
use Rattle.at_engine.specs.Posted.{posted_view}
use Rattle.at_engine.specs.Turning.{IsBegun}
use Rattle.at_engine.specs.declared.posts.Posted.{Posted}
use Rattle.at_engine.specs.declared.posts.Posts.{Posts}
use Rattle.at_engine.proofs.NamingLemmas.{all_marked}
use Rattle.at_engine.proofs.of_turns.Wordings.{words_obeyed, words_unmarked, words_unread}

module _ (rules : Rules) (s : Shown) (version : ℕ) (ps : Posts) (p : Posted) (there : AreThere (path s) p.marks.items.items) where
  abbrev words : Command
  words = Ask (place_view p.place) (string_bytes p.attribute) (arguments_view p.arguments.items)

  abbrev names : List (List ℕ)
  names = marks_used words

  abbrev pub verdict_by : Verdict
  verdict_by = obeyed rules (state_in s version p.marks.items.items ps) p.session (Ask (place_view p.place) (string_bytes p.attribute) (arguments_view p.arguments.items))

  pub read_unread : is_read rules words ≡ false → words_verdict rules (tree s) (posted_view (path s) p) ≡ Refuses code.Syntax
  read_unread e = words_unread rules (state_in s version p.marks.items.items ps) (posted_view (path s) p) e

  pub read_unmarked : is_read rules words ≡ true → list_all (has_mark p.marks.items.items p.session) names ≡ false
      → words_verdict rules (tree s) (posted_view (path s) p) ≡ Refuses code.Mark
  read_unmarked read e =
      words_unmarked rules (state_in s version p.marks.items.items ps) (posted_view (path s) p) read (sym (all_marked s p.session p.marks.items.items there names) ∙ e)

  module _ (read : is_read rules words ≡ true) (all : list_all (has_mark p.marks.items.items p.session) names ≡ true) where
    read_so : (v : Verdict) → verdict_by ≡ v → words_verdict rules (tree s) (posted_view (path s) p) ≡ v
    read_so v is =
        words_obeyed rules (state_in s version p.marks.items.items ps) (posted_view (path s) p) read (sym (all_marked s p.session p.marks.items.items there names) ∙ all) v is

    pub read_refused : (r : Refusal) → verdict_by ≡ Refuses (code_view r) → words_verdict rules (tree s) (posted_view (path s) p) ≡ Refuses (code_view r)
    read_refused r is = read_so (Refuses (code_view r)) is

    pub read_asked : (entries : Entries) (i : Instance ℕ) → IsInstanceOf rules s verdict_by i → (q : Question) → under_way q ≡ posted i
        → StandsFor rules s entries q (search_posted i) → IsStanding rules s entries q → IsBegun rules s entries p None q
    read_asked entries i is q e stands standing =
        let same : i ≡ asked_by q = stands.on.starts in
        record {
          begun = record {
            standing = standing;
            named = is.named;
            asks = read_so (Asks is.named) is.asks;
            like = subst (λ (j : Instance ℕ). InstanceLike (Names (path s)) j is.named) same is.like;
          };
          came = (
            e ∙ ap {B = UnderWay ℕ} (λ (j : Instance ℕ). posted j) same,
            subst (λ (j : Instance ℕ). StandsFor rules s entries q (search_posted j)) same stands,
          );
        }
