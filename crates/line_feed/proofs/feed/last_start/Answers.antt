use Rattle.std.proofs.Common.{◌+◌, ◌-◌, sym, ap, ◌∙◌, drop, take, arith}
use Rattle.ce_algorithms.specs.Lines.{last_part}
use Rattle.line_feed.proofs.FeedLaws.{split_at_feed, no_feed_between, no_feed_behind}
use Rattle.line_feed.proofs.LineLaws.{last_part-line, last_part-no_feed}
use Rattle.line_feed.proofs.feed.last_start.Goals as goal

pub loop-end-preserved : goal.loop-end-preserved
loop-end-preserved c =
    let bytes = c.args.bytes.now in
    let start = c.loop-end.start in
    let end = c.in-Some.end in
    let found = c.in-Some.ensures.found in
    let split = split_at_feed bytes start end found.0 found.1 found.2 in
    let clean = no_feed_between bytes start end found.0 found.1 c.in-Some.ensures.before in
    record {
      within = omega (arith, found.1);
      part = sym (ap last_part split ∙ last_part-line (take (end - start) (drop start bytes)) (drop (end + 1) bytes) clean) ∙ c.loop-end.invariant.part;
    }

pub returns-clause-part : goal.returns-clause-part
returns-clause-part c =
    let clean = no_feed_behind c.args.bytes.now c.loop-end.start c.in_default.ensures.none in
    sym (last_part-no_feed (drop c.loop-end.start c.args.bytes.now) clean) ∙ c.loop-end.invariant.part
