use Rattle.std.proofs.Common.{◌≡◌, ◌+◌, ◌<◌, [], ◌∷◌, ◌++◌, true, Ok, Err, is_ok, true≢false, refl, sym, ap, ◌∙◌, subst, arith}
use Rattle.std.proofs.lemmas.List.{append_assoc, length-append, map-append}
use Rattle.std.proofs.lemmas.List.Elements.{All-nil}
use Rattle.rd_event.specs.Items.{is_skipped}
use Rattle.rd_rules.specs.MayFollow.{is_event}
use Rattle.rd_event.specs.declared.items.Line.TheVariants.{Skip}
use Rattle.rd_io.specs.Sinks.{Appends}
use Rattle.rd_io.specs.Inputs.{Source}
use Rattle.rd_io.specs.LineReader.{Reader, IsAnswered, IsAtEnd, Moves}
use Rattle.rd_io.specs.Lines.LinesEnding.{at_end}
use Rattle.rd_io.proofs.SinkLemmas.{appends_none, appends_on}
use Rattle.rd_io.proofs.AdvanceLemmas.{takes_none, takes_on, takes_then}
use Rattle.rd_wf.specs.Roster.{RosterStandsFor, kinds_in}
use Rattle.rd_walk.specs.Analysis.{AreBefore}
use Rattle.rd_walk.specs.Walk.{Entry, bound_from, entries_at, lines_begun, trace_end_of, items}
use Rattle.rd_walk.specs.Progress.{WalksOn, WalksTo, ending_for}
use Rattle.rd_walk.specs.declared.walk.WalkEnd.TheVariants.{Refused}
use Rattle.rd_walk.proofs.WalkLemmas.{before_next, begun_at, begun_at_most, bound_append, bound_more, goes_as_one, items_more, next_skipped}
use Rattle.rd_walk.proofs.ContinueLemmas.{continues_fresh, continues_line, walks_begun, walks_end, walks_refused, walks_to_refusal}
use Rattle.rd_walk.proofs.ProgressLemmas.{cut_line, cut_none, read_so_far}
use Rattle.rd_walk.proofs.walk.walk_lines.Goals as goal

pub lines-init : goal.lines-init
unfolding bound_from
lines-init g c =
    let written = g.S.Sink.written c.args.out.now in
    let limits = c.args.walker.now.limits in
    let kinds = kinds_in c.args.walker.now.roster in (
      [],
      [],
      [],
      ap (λ (r : Reader). r.ended) c.requires.fresh,
      rw c.requires.fresh (continues_fresh g.G.Grammar.says kinds limits),
      c.requires.none,
      g.met.A.Analysis.starts kinds c.args.walker.now.analysis c.requires.begins,
      subst (Appends written written) (sym (g.met.A.Analysis.silent kinds c.args.walker.now.analysis)) (appends_none written written refl),
      omega arith,
      takes_none (g.I.Inputs.told c.args.inputs.now),
      refl,
      refl,
      refl,
      rw c.requires.fresh (cut_none limits),
      refl,
      ap (λ (r : Reader). r.number) c.requires.fresh,
      All-nil (λ (entry : Entry). is_event entry.item ≡ true → entry.number < c.args.reader.now.number + 1),
    )

pub returns-in-Ok-End-clause-walked : goal.returns-in-Ok-End-clause-walked
returns-in-Ok-End-clause-walked g c =
    let (entries, taken, lines, going, so_far, stands, leads, text, cost, told, calm, faults, same, cut, counted, numbered, before) = c.lines.invariant in
    let (bytes, answered, goes) = (rw c.in-Ok-End.field-0-is at c.in-Ok-End.ensures.tells) going in
    let moves = (rw c.in-Ok-End.field-0-is at c.in-Ok-End.ensures.moves) going in
    let limits = c.args.walker.now.limits in
    let kinds = kinds_in c.args.walker.now.roster in
    let ending = c.at_end.ensures.ending kinds (items entries) stands limits
    ∙ ap (λ n. trace_end_of limits (items entries) (n + 1) at_end) c.number.ensures.value in (
      entries,
      taken ++ bytes,
      leads,
      stands,
      text,
      cost,
      read_so_far limits taken bytes c.lines.reader lines cut (lines_begun entries) (omega (arith, counted)) (omega (arith, counted)) answered.past answered.fits,
      takes_then _ _ _ taken bytes (λ (source : Source). Unit {0} → source.held ≡ [])
          (λ (source : Source). WalksTo g.G.Grammar.says kinds limits (taken ++ bytes) source.held entries c.at_end.result)
          (λ source none. subst (WalksTo g.G.Grammar.says kinds limits (taken ++ bytes) source.held entries) (sym ending)
          (walks_end g.G.Grammar.says kinds limits taken bytes c.lines.reader c.next.new.self entries so_far source.held answered.tells moves.number (none tt)))
          told goes,
    )

pub returns-in-Err-clause-walked : goal.returns-in-Err-clause-walked
returns-in-Err-clause-walked g c =
    let (entries, taken, lines, going, so_far, stands, leads, text, cost, told, calm, faults, same, cut, counted, numbered, before) = c.lines.invariant in
    let (bytes, answered, goes) = c.in-Err.ensures.tells going in
    let limits = c.args.walker.now.limits in
    let kinds = kinds_in c.args.walker.now.roster in
    let refused = c.in-Err.refused in
    let ending = c.at_refusal.ensures ∙ ap (λ l. ending_for l c.number-in-Err.result refused) same ∙ ap (λ n. ending_for limits n refused) c.number-in-Err.ensures.value in (
      entries,
      taken ++ bytes,
      leads,
      stands,
      text,
      cost,
      read_so_far limits taken bytes c.lines.reader lines cut (lines_begun entries) (omega (arith, counted)) (omega (arith, counted)) answered.past answered.fits,
      takes_then _ _ _ taken bytes (λ (source : Source). IsAtEnd (Err refused) → source.held ≡ [])
          (λ (source : Source). WalksTo g.G.Grammar.says kinds limits (taken ++ bytes) source.held entries c.at_refusal.result)
          (λ source none. subst (WalksTo g.G.Grammar.says kinds limits (taken ++ bytes) source.held entries) (sym ending)
          (walks_refused g.G.Grammar.says kinds limits taken bytes c.lines.reader c.next.new.self entries so_far source.held refused answered.tells (c.in-Err.ensures.moves going) none))
          told goes,
    )

pub lines-preserved : goal.lines-preserved
lines-preserved g c =
    let (entries, taken, lines, going, so_far, stands, leads, text, cost, told, calm, faults, same, cut, counted, numbered, before) = c.lines.invariant in
    let (bytes, answered_so, goes) = c.in-Ok-Line.ensures.tells going in
    let answered = subst (λ next. IsAnswered c.lines.reader bytes c.next.new.self (Ok next)) c.in-Ok-Line.field-0-is answered_so in
    let moves = subst (λ next. Moves c.lines.reader c.next.new.self (Ok next)) c.in-Ok-Line.field-0-is (c.in-Ok-Line.ensures.moves going) in
    let limits = c.args.walker.now.limits in
    let kinds = kinds_in c.args.walker.now.roster in
    let start = c.args.walker.now.analysis in
    let behind : AreBefore c.number-number.result entries = subst (λ n. AreBefore n entries) (sym (c.number-number.ensures.value ∙ moves.number)) before in
    let taking = c.in-Ok-Accepted.ensures.line.taken (ap Ok c.in-Ok-Accepted.field-0-is) kinds start entries stands leads behind in
    let (said, some, says, handed) = rw (c.number-number.ensures.value, c.line-in-lines.ensures, same) at taking in
    let writes = handed.written in
    let number = c.next.new.self.number in
    let next = moves.number in (
      entries ++ entries_at number said,
      taken ++ bytes,
      lines ++ c.next.new.self.line ∷ [],
      moves.ended,
      continues_line g.G.Grammar.says kinds limits taken bytes c.lines.reader c.next.new.self entries so_far answered.tells next said says,
      handed.stands,
      handed.leads,
      subst (Appends (g.S.Sink.written c.args.out.now) (g.S.Sink.written c.take_line.new.out)) (sym writes.1)
          (appends_on _ _ _ (g.A.Analysis.text kinds start entries) writes.0 text writes.2),
      omega (arith, cost, handed.cost, bound_append (g.A.Analysis.bound kinds start) [] entries (entries_at number said)),
      takes_on _ _ _ taken bytes told (λ old is. let r = goes old is in (r.0, r.1, r.2.0)),
      c.in-Ok-Line.ensures.calm (λ e. true≢false (ap is_ok (sym (ap Ok c.in-Ok-Line.field-0-is) ∙ e))) ∙ calm,
      c.in-Ok-Accepted.ensures.fault ∙ faults,
      c.in-Ok-Accepted.ensures.limits ∙ same,
      cut_line limits taken bytes c.lines.reader lines cut c.next.new.self answered.leaves,
      omega (arith, length-append lines (c.next.new.self.line ∷ []), begun_at entries number said some, next, numbered),
      omega (arith, length-append lines (c.next.new.self.line ∷ []), next, numbered),
      before_next number entries said (subst (λ n. AreBefore n entries) (sym next) before),
    )

pub returns-in-Ok-Refused-clause-walked : goal.returns-in-Ok-Refused-clause-walked
returns-in-Ok-Refused-clause-walked g c =
    let (entries, taken, lines, going, so_far, stands, leads, text, cost, told, calm, faults, same, cut, counted, numbered, before) = c.lines.invariant in
    let (bytes, answered, goes) = (rw c.in-Ok-Line.field-0-is at c.in-Ok-Line.ensures.tells) going in
    let moves = (rw c.in-Ok-Line.field-0-is at c.in-Ok-Line.ensures.moves) going in
    let limits = c.args.walker.now.limits in
    let kinds = kinds_in c.args.walker.now.roster in
    let cause = c.unwrap.result in
    let start = c.args.walker.now.analysis in
    let behind : AreBefore c.number-number.result entries = subst (λ n. AreBefore n entries) (sym (c.number-number.ensures.value ∙ moves.number)) before in
    let refusal = c.in-Ok-Refused.ensures.line.refused (ap Ok c.in-Ok-Refused.field-0-is) cause c.unwrap.ensures kinds start entries stands leads behind in
    let (said, says, handed) = rw (c.number-number.ensures.value, c.line-in-lines.ensures, same) at refusal in
    let writes = handed.written in
    let number = c.next.new.self.number in
    let most = begun_at_most entries number said (omega (arith, counted, moves.number, numbered)) in (
      entries ++ entries_at number said,
      taken ++ bytes,
      handed.leads,
      handed.stands,
      subst (Appends (g.S.Sink.written c.args.out.now) (g.S.Sink.written c.take_line.new.out)) (sym writes.1)
          (appends_on _ _ _ (g.A.Analysis.text kinds start entries) writes.0 text writes.2),
      omega (arith, cost, handed.cost, bound_append (g.A.Analysis.bound kinds start) [] entries (entries_at number said)),
      read_so_far limits taken bytes c.lines.reader lines cut (lines_begun (entries ++ entries_at number said)) (omega (arith, counted, most.0))
          (omega (arith, most.1, moves.number, numbered)) answered.past answered.fits,
      takes_then _ _ _ taken bytes (λ (source : Source). ⊥ → source.held ≡ [])
          (λ (source : Source). WalksTo g.G.Grammar.says kinds limits (taken ++ bytes) source.held (entries ++ entries_at number said) (Refused c.number-number.result cause))
          (λ source none. subst (λ n. WalksTo g.G.Grammar.says kinds limits (taken ++ bytes) source.held (entries ++ entries_at number said) (Refused n cause)) (sym c.number-number.ensures.value)
          (walks_to_refusal g.G.Grammar.says kinds limits taken bytes c.lines.reader c.next.new.self entries so_far answered.tells moves.number source.held cause said says))
          told goes,
    )

pub returns-in-Err-take_line-clause-halted : goal.returns-in-Err-take_line-clause-halted
returns-in-Err-take_line-clause-halted g c =
    let (entries, taken, lines, going, so_far, stands, leads, text, cost, told, calm, faults, same, cut, counted, numbered, before) = c.lines.invariant in
    let (bytes, answered_so, goes) = c.in-Ok-Line.ensures.tells going in
    let answered = subst (λ next. IsAnswered c.lines.reader bytes c.next.new.self (Ok next)) c.in-Ok-Line.field-0-is answered_so in
    let moves = subst (λ next. Moves c.lines.reader c.next.new.self (Ok next)) c.in-Ok-Line.field-0-is (c.in-Ok-Line.ensures.moves going) in
    let limits = c.args.walker.now.limits in
    let kinds = kinds_in c.args.walker.now.roster in
    let start = c.args.walker.now.analysis in
    let wrote = g.S.Sink.written c.args.out.now in
    let goes_now = takes_on _ _ _ taken bytes told (λ old is. let r = goes old is in (r.0, r.1, r.2.0)) in
    let number = c.next.new.self.number in
    let behind : AreBefore c.number-number.result entries = subst (λ n. AreBefore n entries) (sym (c.number-number.ensures.value ∙ moves.number)) before in
    let (said, last, begins, cut_in) = rw (c.number-number.ensures.value, c.line-in-lines.ensures, same) at (c.in-Err-take_line.ensures.line.halted kinds start entries stands leads behind) in
    let (part, rest, is, writes) = cut_in.written in
    let both : entries_at number (said ++ last) ≡ entries_at number said ++ entries_at number last = map-append (λ item. record { number = number; item = item }) said last in
    let most = begun_at_most entries number (said ++ last) (omega (arith, counted, moves.number, numbered)) in (
      entries ++ (entries_at number said ++ entries_at number last),
      taken ++ bytes,
      g.A.Analysis.text kinds start entries ++ part,
      appends_on _ _ _ (g.A.Analysis.text kinds start entries) part text writes,
      (rest, is ∙ sym (append_assoc (g.A.Analysis.text kinds start entries) part rest)),
      record {
        told = entries ++ entries_at number said;
        last = entries_at number last;
        is = sym (append_assoc entries (entries_at number said) (entries_at number last));
        one = cut_in.one;
        written = cut_in.told;
      },
      omega (arith, cost, cut_in.cost, bound_append (g.A.Analysis.bound kinds start) [] entries (entries_at number said ++ entries_at number last)),
      read_so_far limits taken bytes c.lines.reader lines cut (lines_begun (entries ++ (entries_at number said ++ entries_at number last)))
          (omega (arith, counted, ap (λ more. lines_begun (entries ++ more)) both, most.0))
          (omega (arith, ap (λ more. lines_begun (entries ++ more)) both, most.1, moves.number, numbered)) answered.past answered.fits,
      subst (λ more. WalksOn g.G.Grammar.says kinds limits (taken ++ bytes) (entries ++ more)) both
          (walks_begun g.G.Grammar.says kinds limits taken bytes c.lines.reader c.next.new.self entries so_far answered.tells moves.number (said ++ last) begins),
      goes_now,
    )

pub lines-preserved-then-is_skipped : goal.lines-preserved-then-is_skipped
lines-preserved-then-is_skipped g c =
    let (entries, taken, lines, going, so_far, stands, leads, text, cost, told, calm, faults, same, cut, counted, numbered, before) = c.lines.invariant in
    let (bytes, answered_so, goes) = c.in-Ok-Line.ensures.tells going in
    let answered = subst (λ next. IsAnswered c.lines.reader bytes c.next.new.self (Ok next)) c.in-Ok-Line.field-0-is answered_so in
    let moves = subst (λ next. Moves c.lines.reader c.next.new.self (Ok next)) c.in-Ok-Line.field-0-is (c.in-Ok-Line.ensures.moves going) in
    let limits = c.args.walker.now.limits in
    let kinds = kinds_in c.args.walker.now.roster in
    let start = c.args.walker.now.analysis in
    let wrote = g.S.Sink.written c.args.out.now in
    let says = goes_as_one g.G.Grammar.says kinds limits c.next.new.self.number (items entries) c.next.new.self.line Skip
    (c.law_of_skipped_bytes.ensures (items entries) c.next.new.self.line (ap is_skipped (sym c.line.ensures) ∙ sym c.is_skipped.ensures ∙ c.if-is_skipped.true))
    (c.law_of_skipped_lines.ensures.follows kinds limits (items entries)) in
    let entry : Entry = record { number = c.next.new.self.number; item = Skip } in
    let next = next_skipped kinds c.lines.walker.roster entries c.number-number.result limits c.requires.usable
    (subst (λ n. AreBefore n entries) (sym (c.number-number.ensures.value ∙ moves.number)) before)
    (c.law_of_skipped_lines.ensures.stands kinds (items entries) stands) (c.law_of_skipped_lines.ensures.few kinds (items entries) stands) in
    let numbered : record { number = c.number-number.result; item = Skip } ≡ entry = ap (λ n. record { number = n; item = Skip }) c.number-number.ensures.value in (
      entries ++ entry ∷ [],
      taken ++ bytes,
      lines ++ c.next.new.self.line ∷ [],
      moves.ended,
      continues_line g.G.Grammar.says kinds limits taken bytes c.lines.reader c.next.new.self entries so_far answered.tells moves.number (Skip ∷ []) says,
      subst (RosterStandsFor kinds c.lines.walker.roster) (sym (items_more entries entry)) (c.law_of_skipped_lines.ensures.stands kinds (items entries) stands),
      subst (λ e. g.A.Analysis.leads kinds start (entries ++ e ∷ []) c.lines.walker.analysis) numbered
          (c.law_of_skipped_lines-then-is_skipped.ensures.leads kinds start entries leads next),
      subst (Appends wrote (g.S.Sink.written c.lines.out))
          (sym (c.law_of_skipped_lines-then-is_skipped.ensures.silent kinds start entries leads next) ∙ ap (λ e. g.A.Analysis.text kinds start (entries ++ e ∷ [])) numbered) text,
      omega (arith, cost, bound_more (g.A.Analysis.bound kinds start) [] entries entry),
      takes_on _ _ _ taken bytes told (λ old is. let r = goes old is in (r.0, r.1, r.2.0)),
      c.in-Ok-Line.ensures.calm (λ e. true≢false (ap is_ok (sym (ap Ok c.in-Ok-Line.field-0-is) ∙ e))) ∙ calm,
      faults,
      same,
      cut_line limits taken bytes c.lines.reader lines cut c.next.new.self answered.leaves,
      omega (arith, length-append lines (c.next.new.self.line ∷ []), begun_at entries c.next.new.self.number (Skip ∷ []) (λ none. cc), moves.number, numbered),
      omega (arith, length-append lines (c.next.new.self.line ∷ []), moves.number, numbered),
      before_next c.next.new.self.number entries (Skip ∷ []) (subst (λ n. AreBefore n entries) (sym moves.number) before),
    )
