-- The walk goes on as the reader gives lines.
use Rattle.std.proofs.Common.{◌≡◌, ℕ, ◌+◌, Bool, true, false, cond, List, [], ◌++◌, Err, sym, ap, ◌∙◌, refl, eqb}
use Rattle.std.proofs.lemmas.List.{append_assoc, append-nil}
use Rattle.rd_io.specs.Lines.{Stop, LinesEnding}
use Rattle.rd_io.specs.Lines.Stop.{end, fault}
use Rattle.rd_io.specs.Lines.LinesEnding.{at_end, no_final_newline, line_too_long, bytes_limit, faulted}
use Rattle.rd_io.specs.Lines.Reading.{stops, line}
use Rattle.rd_io.specs.LineReader.{Reader, lines_left, fresh, TellsNext, Moves, IsAtEnd}
use Rattle.rd_base.specs.declared.limits.Limits.{Limits}
use Rattle.rd_io.specs.declared.lines.ReadEnd.{ReadEnd}
use Rattle.rd_io.specs.declared.lines.ReadEnd.TheVariants.{ReadFault, LineTooLong, BytesLimit, NoFinalNewline}
use Rattle.rd_event.specs.declared.items.Line.{Line}
use Rattle.rd_rules.specs.MayFollow.{headers}
use Rattle.rd_ecl.specs.Kinds.{Kind}
use Rattle.rd_walk.specs.Taking.{BeginsAs, EndsAs, GoesAs}
use Rattle.rd_walk.specs.Walk.{Entry, Saying, Walked, after, entries_at, trace_end_of, ends, items, line_goes, trace_by, walk_by}
use Rattle.rd_walk.specs.Progress.{Continues, WalksOn, WalksTo, ending_for}
use Rattle.rd_rules.specs.declared.causes.TraceCause.{TraceCause}
use Rattle.rd_rules.specs.declared.causes.TraceCause.TheVariants.{Wf}
use Rattle.rd_rules.specs.declared.causes.WfCause.TheVariants.{HeaderFirst}
use Rattle.rd_walk.specs.declared.walk.WalkEnd.TheVariants.{End, Refused}
use Rattle.rd_walk.proofs.WalkLemmas.{after_append, items_said, walk_goes, walk_stops}

module _ (says : Saying) (kinds : List Kind) where
  pub continues_fresh : (limits : Limits) → Continues says kinds limits [] (fresh limits) []
  unfolding trace_by after
  continues_fresh limits stop more = refl

  to_ended : (limits : Limits) (taken held : List ℕ) (entries : List Entry) (number : ℕ) (cause : TraceCause) (none : Bool) → held ≡ []
      → trace_by says kinds limits end (taken ++ held) ≡ after entries (ends (cond none (Refused number cause) End))
      → WalksTo says kinds limits taken held entries (cond none (Refused number cause) End)
  to_ended limits taken held entries number cause true all is = is
  to_ended limits taken held entries number cause false all is = (all, is)

  module _ (limits : Limits) (taken bytes : List ℕ) (old new : Reader) (entries : List Entry) (so_far : Continues says kinds limits taken old entries) where
    -- further bytes of the same input
    further : (stop : Stop) (more : List ℕ) → trace_by says kinds limits stop (taken ++ bytes ++ more)
        ≡ after entries (walk_by says kinds limits (items entries) (old.number + 1) (lines_left old stop (bytes ++ more)))
    further stop more = ap (trace_by says kinds limits stop) (append_assoc taken bytes more) ∙ so_far stop (bytes ++ more)

    -- where the lines end behind those that were given
    stopped : (stop : Stop) (ending : LinesEnding) → lines_left old stop bytes ≡ stops ending
        → trace_by says kinds limits stop (taken ++ bytes) ≡ after entries (ends (trace_end_of limits (items entries) (old.number + 1) ending))
    stopped stop ending is =
        so_far stop bytes
        ∙ ap (λ r. after entries (walk_by says kinds limits (items entries) (old.number + 1) r)) is
        ∙ ap (after entries) (walk_stops says kinds limits (items entries) (old.number + 1) ending)

    -- the same, whatever comes behind them
    cut : (ending : LinesEnding) → ((stop : Stop) (more : List ℕ) → lines_left old stop (bytes ++ more) ≡ stops ending) → (more : List ℕ)
        → trace_by says kinds limits end (taken ++ bytes ++ more) ≡ after entries (ends (trace_end_of limits (items entries) (old.number + 1) ending))
    cut ending is more =
        further end more
        ∙ ap (λ r. after entries (walk_by says kinds limits (items entries) (old.number + 1) r)) (is end more)
        ∙ ap (after entries) (walk_stops says kinds limits (items entries) (old.number + 1) ending)

    at_held : (held : List ℕ) → held ≡ [] → taken ++ bytes ++ held ≡ taken ++ bytes
    at_held held none = ap (λ h. taken ++ bytes ++ h) none ∙ append-nil (taken ++ bytes)

    pub walks_end : (held : List ℕ) → lines_left old end bytes ≡ stops at_end → new.number ≡ old.number → held ≡ []
        → WalksTo says kinds limits (taken ++ bytes) held entries (trace_end_of limits (items entries) (new.number + 1) at_end)
    walks_end held is same none =
        rw same
        (to_ended limits (taken ++ bytes) held entries (old.number + 1) (Wf HeaderFirst) (eqb (headers (items entries)) 0) none
        (ap (trace_by says kinds limits end) (at_held held none) ∙ stopped end at_end is))

    pub walks_refused : (held : List ℕ) (refused : ReadEnd) → TellsNext old bytes new (Err refused) → Moves old new (Err refused)
        → (IsAtEnd (Err refused) → held ≡ []) → WalksTo says kinds limits (taken ++ bytes) held entries (ending_for limits new.number refused)
    walks_refused held ReadFault tells moves none = stopped fault faulted tells.1
    walks_refused held LineTooLong tells moves none = rw moves.number (cut line_too_long tells held)
    walks_refused held BytesLimit tells moves none = rw moves.number (cut bytes_limit tells held)
    walks_refused held NoFinalNewline tells moves none =
        rw moves.number (ap (trace_by says kinds limits end) (at_held held (none tt)) ∙ stopped end no_final_newline tells.0)

    module _ (gives : (stop : Stop) (more : List ℕ) → lines_left old stop (bytes ++ more) ≡ line new.line (lines_left new stop more))
        (next : new.number ≡ old.number + 1) where
      -- what the line goes on to, by what it says
      goes_on : (said : List Line) (stop : Stop) (more : List ℕ) (walked : Walked)
          → line_goes kinds limits new.number (items entries) (says (items entries) new.line) (λ behind. walk_by says kinds limits behind (new.number + 1) (lines_left new stop more))
          ≡ after (entries_at new.number said) walked
          → trace_by says kinds limits stop (taken ++ bytes ++ more) ≡ after (entries ++ entries_at new.number said) walked
      goes_on said stop more walked goes =
          further stop more
          ∙ ap (λ r. after entries (walk_by says kinds limits (items entries) (old.number + 1) r)) (gives stop more)
          ∙ ap (λ n. after entries (walk_by says kinds limits (items entries) n (line new.line (lines_left new stop more)))) (sym next)
          ∙ ap (after entries) (walk_goes says kinds limits (items entries) new.number new.line (lines_left new stop more) ∙ goes)
          ∙ after_append entries (entries_at new.number said) walked

      pub continues_line : (said : List Line) → GoesAs says kinds limits new.number (items entries) new.line said
          → Continues says kinds limits (taken ++ bytes) new (entries ++ entries_at new.number said)
      continues_line said goes stop more =
          goes_on said stop more (walk_by says kinds limits (items entries ++ said) (new.number + 1) (lines_left new stop more))
          (goes (λ behind. walk_by says kinds limits behind (new.number + 1) (lines_left new stop more)))
          ∙ ap (λ before. after (entries ++ entries_at new.number said) (walk_by says kinds limits before (new.number + 1) (lines_left new stop more))) (sym (items_said entries new.number said))

      pub walks_to_refusal : (held : List ℕ) (cause : TraceCause) (said : List Line) → EndsAs says kinds limits new.number (items entries) new.line said (Refused new.number cause)
          → WalksTo says kinds limits (taken ++ bytes) held (entries ++ entries_at new.number said) (Refused new.number cause)
      walks_to_refusal held cause said goes =
          goes_on said end held (ends (Refused new.number cause)) (goes (λ behind. walk_by says kinds limits behind (new.number + 1) (lines_left new end held)))

      pub walks_begun : (said : List Line) → BeginsAs says kinds limits new.number (items entries) new.line said
          → WalksOn says kinds limits (taken ++ bytes) (entries ++ entries_at new.number said)
      walks_begun said begins stop more =
          let (walked, goes) = begins (λ behind. walk_by says kinds limits behind (new.number + 1) (lines_left new stop more)) in
          (walked, goes_on said stop more walked goes)

  -- further bytes, of which nothing was given yet
  pub walks_further : (limits : Limits) (taken bytes : List ℕ) (reader : Reader) (entries : List Entry) → Continues says kinds limits taken reader entries
      → WalksOn says kinds limits (taken ++ bytes) entries
  walks_further limits taken bytes reader entries so_far stop more = (
    walk_by says kinds limits (items entries) (reader.number + 1) (lines_left reader stop (bytes ++ more)),
    ap (trace_by says kinds limits stop) (append_assoc taken bytes more) ∙ so_far stop (bytes ++ more),
  )
