use Rattle.std.proofs.Common.{◌≡◌, ℕ, ◌+◌, ◌==◌, ◌&&◌, Bool, true, false, not, if◌then◌else◌, List, unwrap_or, refl, sym, ap, subst, ◌∙◌}
use Rattle.std.proofs.Math.Bool.{not-not}
use Rattle.std.specs.Map.{lookup, keys_of}
use Rattle.std.specs.Prelude.{Some}
use Rattle.rd_event.specs.declared.items.LineEvent.TheVariants as spelled
use Rattle.rd_tables.specs.declared.locks.Lock.{Lock}
use Rattle.rd_rules.specs.MayFollow.{is_among, place, same_name, threads_of, locks_of, with_lock, accepted_of}
use Rattle.rd_tables.specs.Tables.{free_lock}
use Rattle.rd_wf.specs.Roster.{lock_in}
use Rattle.rd_tables.specs.Shares.{share_depth}
use Rattle.rd_rules.proofs.FollowLemmas.{known_thread}
use Rattle.rd_wf.proofs.NextLemmas.{after_share, free_as_before, same_locks, written_new}
use Rattle.rd_wf.proofs.roster.Roster.share.Goals as goal
use Rattle.rd_wf.proofs.roster.Roster.share.Goals.{else-found, then-found+in-Ok}

pub returns : goal.returns
unfolding accepted_of
returns g c = (
  (c.in-Some.ensures.named refl, c.in-Some-lock.ensures.named refl),
  λ kinds lines stands.
      let self = c.args.self.now in
      let lock = c.args.lock.now in
      let found = c.in-Some-lock.ensures.found in
      let permitted = c.in_default-judge_share.ensures.ok c.args.thread.now lock c.in-Some.ensures.found found kinds lines stands in
      let known = known_thread kinds c.args.limits.now lines (spelled.Share c.args.thread.now lock) permitted.0 in
      let thread : c.in-Some.actor.number ≡ place (threads_of lines) c.args.thread.now = cc permitted.1 in
      let number : c.in-Some-lock.found.number ≡ place (locks_of lines) lock = cc permitted.1 in
      let among : (b : Bool) → c.in-Some-lock.found.unknown ≡ b → is_among (locks_of lines) lock ≡ not b =
      λ b e. sym (not-not _) ∙ ap not (sym (found.numbers kinds lines stands).1 ∙ e) in
      let kept : List (List ℕ × Lock) → Type 0 =
      λ entries. ((other : List ℕ) → unwrap_or (lookup (same_name other) entries) free_lock ≡ lock_in self other) × (keys_of entries ≡ with_lock (locks_of lines) (Some lock)) in
      let locks : kept c.if-found.self.1.1.1.1.1.1.0.entries = elim c.if-found.branch [
        | else-found w ↦
            let there : is_among (locks_of lines) lock ≡ true = among false w.if-found.false in
            subst kept (sym (ap (λ self. self.1.1.1.1.1.1.0.entries) w.self-is))
            (λ other. refl, stands.lock_names ∙ sym (same_locks kinds self lines stands lock free_lock there))
        | then-found+in-Ok w ↦
            let fresh : is_among (locks_of lines) lock ≡ false = among true w.if-found.true in
            let written = written_new kinds self lines stands lock free_lock fresh in
            subst kept (sym (ap (λ self. self.1.1.1.1.1.1.0.entries) w.self-is ∙ w.in-Ok.ensures.entries))
            (free_as_before kinds self lines stands lock free_lock refl fresh _ written, written.1)
      ] in (
        permitted.0,
        permitted.1,
        after_share kinds self _ lines stands refl c.args.thread.now lock refl refl refl refl known locks.0 locks.1
            (λ l t. c.in_ok-add.ensures.ok l t ∙ (λ i. share_depth self.shares l t + (if (t == thread i) && (l == number i) then 1 else 0))),
      ),
)
