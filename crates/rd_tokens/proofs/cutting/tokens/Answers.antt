use Rattle.std.proofs.Common.{◌≡◌, ◌≢◌, ◌<◌, ◌≤◌, length, get_or, rules}
use Rattle.rd_tokens.proofs.CutLemmas.{so_far_space, so_far_push, so_far_all, each_lies, each_is}
use Rattle.rd_tokens.proofs.cutting.tokens.Goals as goal

pub loop-start-preserved-then-is_space : goal.loop-start-preserved-then-is_space
loop-start-preserved-then-is_space c =
    let within : c.loop-start.start < length c.args.line.now = search rules in
    let blank : get_or c.args.line.now c.loop-start.start 0 ≡ 32 = search rules in
    record {
      within = search rules;
      so_far = so_far_space c.args.line.now c.loop-start.start c.loop-start.found within blank c.loop-start.invariant.so_far;
    }

pub loop-start-preserved : goal.loop-start-preserved
loop-start-preserved c =
    let within : c.loop-start.start < length c.args.line.now = search rules in
    let other : get_or c.args.line.now c.loop-start.start 0 ≢ 32 = search rules in
    record {
      within = search rules;
      so_far =
          so_far_push c.args.line.now c.loop-start.start c.loop-start.found c.push.new.self c.token_behind-token.result within other
          c.token_behind-token.ensures.value c.in_ok-push.ensures.ok c.loop-start.invariant.so_far;
    }

pub returns-clause-value : goal.returns-clause-value
returns-clause-value c =
    let all : length c.args.line.now ≤ c.loop-start.start = search rules in
    so_far_all c.args.line.now c.loop-start.start c.loop-start.found all c.loop-start.invariant.so_far

pub returns-clause-within : goal.returns-clause-within
returns-clause-within c =
    let all : length c.args.line.now ≤ c.loop-start.start = search rules in
    each_lies c.args.line.now c.loop-start.found
    (so_far_all c.args.line.now c.loop-start.start c.loop-start.found all c.loop-start.invariant.so_far)

pub returns-clause-sorts : goal.returns-clause-sorts
returns-clause-sorts c =
    let all : length c.args.line.now ≤ c.loop-start.start = search rules in
    each_is c.args.line.now c.loop-start.found
    (so_far_all c.args.line.now c.loop-start.start c.loop-start.found all c.loop-start.invariant.so_far)
