use Rattle.std.proofs.Common.{◌≡◌, ◌≢◌, ◌<◌, ◌≤◌, ◌-◌, ℕ, List, ◌∙◌, ap, inl, inr, length, take, drop, get_or, sym, arith}
use Rattle.std.proofs.lemmas.Bool.{cases_lt}
use Rattle.rule_script.specs.Reading.{longest}
use Rattle.line_feed.specs.Feed.{given}
use Rattle.line_feed.proofs.FeedLaws.{split_at_feed, no_feed_between}
use Rattle.line_feed.proofs.feed.Feed.next_line.Goals as goal

pub returns-in_ok-line-in-Some-clause-line : goal.returns-in_ok-line-in-Some-clause-line
returns-in_ok-line-in-Some-clause-line c =
    let items = c.self.inside.bytes.items in
    let start = c.self.inside.start in
    let end = c.in-Some.end in
    let found = c.in-Some.ensures.found in
    let whole : List ℕ = take (end - start) (drop start items) in
    let is : get_or items end 0 ≡ 10 = ap (λ l. get_or l end 0) (sym c.deref.ensures.value) ∙ found.2 in
    let lt : end < length items = omega (arith, ap length c.deref.ensures.value, found.1) in
    let le : start ≤ end = omega (arith, c.self.invariant.0, found.0) in
    let clean : (k : ℕ) → start ≤ k → k < end → get_or items k 0 ≢ 10 = λ k low high. λ feed.
    elim (cases_lt k c.self.inside.searched) [
      | inl before ↦ c.self.invariant.2 k low before feed
      | inr later ↦ c.in-Some.ensures.before k later high (ap (λ l. get_or l k 0) c.deref.ensures.value ∙ feed)
    ] in
    let cut : c.front.result.now ≡ given longest whole =
    c.front.ensures ∙ ap (λ l. given longest (take (end - start) (drop start l))) c.deref-in-Some.ensures.value in
    record {
      whole = whole;
      clean = no_feed_between items start end le lt clean;
      split = sym c.self.view_is ∙ split_at_feed items start end le lt is;
      cut = c.of.ensures ∙ (c.in_ok-line-in-Some.ensures.items_if_clones_equal (λ x y e. e) ∙ cut);
    }
