use Rattle.std.proofs.Common.{◌≡◌, ◌<◌, ◌+◌, ◌==◌, ◌&&◌, if◌then◌else◌, length, subst, refl, ◌∙◌}
use Rattle.rd_event.specs.declared.items.LineEvent.TheVariants as spelled
use Rattle.rd_rules.specs.MayFollow.{place, threads_of, locks_of, accepted_of}
use Rattle.rd_tables.specs.Shares.{share_depth}
use Rattle.rd_rules.proofs.FollowLemmas.{known_thread}
use Rattle.rd_tables.proofs.NameLemmas.{place_below}
use Rattle.rd_wf.proofs.NextLemmas.{after_unshare}
use Rattle.rd_wf.proofs.roster.Roster.unshare.Goals as goal

pub returns : goal.returns
unfolding accepted_of
returns g c = (
  (c.in-Some.ensures.named refl, c.in-Some-lock.ensures.named refl),
  λ kinds lines stands.
      let self = c.args.self.now in
      let lock = c.args.lock.now in
      let permitted = c.in_default-judge_unshare.ensures.ok c.args.thread.now lock c.in-Some.ensures.found c.in-Some-lock.ensures.found kinds lines stands in
      let known = known_thread kinds c.args.limits.now lines (spelled.Unshare c.args.thread.now lock) permitted.0 in
      let thread : c.in-Some.actor.number ≡ place (threads_of lines) c.args.thread.now = cc permitted.1 in
      let number : c.in-Some-lock.found.number ≡ place (locks_of lines) lock = cc permitted.1 in
      let begun = stands.sharers_begun c.in-Some-lock.found.number c.in-Some.actor.number c.in_default-judge_unshare.ensures.held in
      let there = place_below (locks_of lines) lock (subst (λ n. n < length (locks_of lines)) number begun.0) in (
        permitted.0,
        permitted.1,
        after_unshare kinds self _ lines stands refl c.args.thread.now lock refl refl refl refl known refl there
            (λ l t. c.remove.ensures l t ∙ (λ i. share_depth c.remove.new.self l t + (if (t == thread i) && (l == number i) then 1 else 0))),
      ),
)
