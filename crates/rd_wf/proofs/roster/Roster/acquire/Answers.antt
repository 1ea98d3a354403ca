use Rattle.std.proofs.Common.{rules, Contains, List, ◌≡◌, ℕ, ◌<◌, ◌≤◌, ◌+◌, Bool, true, false, not, Err, length, unwrap_or, subst, sym, refl, ap, ◌∙◌, arith}
use Rattle.std.proofs.Math.Bool.{not-not}
use Rattle.std.specs.Map.{keys_of, lookup}
use Rattle.indexmap.specs.IndexMap.{index_map_len}
use Rattle.indexmap.specs.Layout.{set_value_at}
use Rattle.indexmap.proofs.CallerLemmas.{index_map_len-with_value_at}
use Rattle.rd_base.specs.Names.{IsName}
use Rattle.rd_ecl.specs.Kinds.{Kind}
use Rattle.rd_event.specs.declared.items.Line.{Line}
use Rattle.rd_event.specs.declared.items.LineEvent.TheVariants as spelled
use Rattle.rd_tables.specs.declared.locks.Lock.{Lock}
use Rattle.rd_rules.specs.MayFollow.{is_among, place, threads_of, locks_of, releases, same_name, accepted_of}
use Rattle.rd_tables.specs.Tables.{depth_of, free_lock}
use Rattle.rd_rules.specs.declared.causes.BytesRefused.TheVariants as refused
use Rattle.rd_wf.specs.Roster.{RosterStandsFor, lock_in}
use Rattle.rd_rules.proofs.FollowLemmas.{known_thread}
use Rattle.rd_rules.proofs.PlaceLemmas.{not_known}
use Rattle.rd_wf.proofs.NextLemmas.{IsWritten, written_new, written_known, after_acquire}
use Rattle.rd_wf.proofs.roster.Roster.acquire.Goals as goal
use Rattle.rd_wf.proofs.roster.Roster.acquire.Goals.{then-found+in_ok-put_last, else-found}

pub invariant_of-self-2 : goal.invariant_of-self-2
invariant_of-self-2 g c = record {
  few_kinds = c.args.self.now.few_kinds;
  few_threads = c.args.self.now.few_threads;
  few_locks = elim c.if-found.branch [
    | then-found+in_ok-put_last w ↦
        let is = ap (λ self. index_map_len self.1.1.1.1.1.1.0) w.self-is in
        one_more _ _ _ _ is w.in_ok-put_last.ensures.len (c.in-Some-lock.ensures.new w.if-found.true).0 (c.in-Ok.ensures.new w.if-found.true)
    | else-found w ↦
        let held : Lock = record { holder = c.in-Some.actor.number; depth = c.in-Ok.depth + 1 } in
        let is = ap (λ self. index_map_len self.1.1.1.1.1.1.0) w.self-is in
        let same = index_map_len-with_value_at c.args.self.now.locks c.in-Some-lock.found.number held in
        subst (λ n. n < 4294967296) (sym (is ∙ same)) c.args.self.now.few_locks
  ];
  few_objects = c.args.self.now.few_objects;
}
  where
    one_more : (new put old number : ℕ) → new ≡ put → put ≤ old + 1 → number ≡ old → number + 1 < 4294967296 → new < 4294967296
    one_more new put old number e most last room = omega arith

pub returns : goal.returns
unfolding accepted_of
returns g c = (
  (c.in-Some.ensures.named refl, c.in-Some-lock.ensures.named refl),
  λ kinds lines stands.
      let self = c.args.self.now in
      let lock = c.args.lock.now in
      let found = c.in-Some-lock.ensures.found in
      let held : Lock = record { holder = c.in-Some.actor.number; depth = c.in-Ok.depth + 1 } in
      let permitted = c.in-Ok.ensures.ok c.args.thread.now lock c.in-Some.ensures.found found kinds lines stands in
      let known = known_thread kinds c.args.limits.now lines (spelled.Acquire c.args.thread.now lock) permitted.0 in
      let thread : c.in-Some.actor.number ≡ place (threads_of lines) c.args.thread.now = cc permitted.1 in
      let number : c.in-Some-lock.found.number ≡ place (locks_of lines) lock = cc permitted.1 in
      let among : (b : Bool) → c.in-Some-lock.found.unknown ≡ b → is_among (locks_of lines) lock ≡ not b =
      λ b e. sym (not-not _) ∙ ap not (sym (found.numbers kinds lines stands).1 ∙ e) in
      let written : IsWritten kinds self lines stands lock held c.if-found.self.1.1.1.1.1.1.0.entries = elim c.if-found.branch [
        | then-found+in_ok-put_last w ↦
            subst (IsWritten kinds self lines stands lock held)
            (sym (ap (λ self. self.1.1.1.1.1.1.0.entries) w.self-is ∙ w.in_ok-put_last.ensures.entries))
            (written_new kinds self lines stands lock held (among true w.if-found.true))
        | else-found w ↦
            subst (IsWritten kinds self lines stands lock held)
            (sym (ap (λ self. self.1.1.1.1.1.1.0.entries) w.self-is ∙ ap (λ i. set_value_at self.locks.entries i held) number))
            (written_known kinds self lines stands lock held (among false w.if-found.false))
      ] in
      let own : depth_of (lock_in self lock) (place (threads_of lines) c.args.thread.now) ≡ (lock_in self lock).depth =
      (λ i. depth_of (sym found.lock i) (sym thread i)) ∙ c.in-Ok.ensures.own ∙ c.in-Ok.ensures.depth ∙ ap (λ held. held.depth) found.lock in (
        permitted.0,
        permitted.1,
        after_acquire kinds self _ lines stands refl refl c.args.thread.now lock held refl refl refl refl known thread own written.0 written.1
            (ap (λ n. n + 1) (c.in-Ok.ensures.depth ∙ ap (λ held. held.depth) found.lock)),
      ),
)

pub returns-in_err-put_last : goal.returns-in_err-put_last
returns-in_err-put_last g c =
    let found = c.in-Some-lock.ensures.found in
    let permitted = c.in-Ok.ensures.ok c.args.thread.now c.args.lock.now c.in-Some.ensures.found found in
    let new_lock : (kinds : List Kind) (lines : List Line) → RosterStandsFor kinds c.args.self.now lines → ¬ (Contains (locks_of lines) c.args.lock.now) =
    λ kinds lines stands. not_known (locks_of lines) c.args.lock.now
    (sym (not-not _) ∙ ap not (sym (found.numbers kinds lines stands).1 ∙ c.if-found.true)) in
    let named : IsName c.args.thread.now × IsName c.args.lock.now = (c.in-Some.ensures.named refl, c.in-Some-lock.ensures.named refl) in
    let is : c.from_residual.result ≡ Err refused.NoMemory = search rules in
    let same : c.put_last.new.locks.entries ≡ c.args.self.now.locks.entries = c.in_err-put_last.ensures.err in
    let held : List (List ℕ × Lock) → List ℕ → Lock = λ entries lock. unwrap_or (lookup (same_name lock) entries) free_lock in
    rw is (
      named,
      λ kinds lines stands. (
        (permitted kinds lines stands).0,
        new_lock kinds lines stands,
        record {
          kind_entries = stands.kind_entries;
          header_version = stands.header_version;
          event_count = stands.event_count;
          thread_entries = stands.thread_entries;
          object_entries = stands.object_entries;
          lock_names = ap keys_of same ∙ stands.lock_names;
          lock_depths = λ lock thread. stands.lock_depths lock thread
              ∙ ap (λ entries. releases lines thread lock + depth_of (held entries lock) (place (threads_of lines) thread)) (sym same);
          holders_begun = λ lock. subst (λ entries. 0 < (held entries lock).depth → (held entries lock).holder < length (threads_of lines)) (sym same) (stands.holders_begun lock);
          share_depths = stands.share_depths;
          sharers_begun = stands.sharers_begun;
          threads_differ = stands.threads_differ;
          joined_begun = stands.joined_begun;
          thread_total = stands.thread_total;
          lock_total = ap length same ∙ stands.lock_total;
          object_total = stands.object_total;
        },
      ),
    )
