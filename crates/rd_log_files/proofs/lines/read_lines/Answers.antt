use Rattle.std.proofs.Common.{◌≡◌, ◌∷◌, ◌++◌, [], Ok, Err, is_ok, true≢false, refl, sym, ap, ◌∙◌, subst, arith}
use Rattle.std.proofs.lemmas.List.{length-append}
use Rattle.rd_io.specs.Inputs.{Goes, Source, Takes}
use Rattle.rd_io.specs.LineReader.{IsAnswered, IsAtEnd, Moves, Reader, TellsNext}
use Rattle.rd_io.proofs.AdvanceLemmas.{takes_both, takes_none, takes_on, takes_then}
use Rattle.rd_walk.proofs.ProgressLemmas.{cut_line, cut_none}
use Rattle.rd_log_files.specs.Gathered.{counted_log}
use Rattle.rd_log_files.proofs.LineLemmas.{counts_line, counts_none, counts_past, err_so, kept_more, kept_rest, kept_well, ok_so, refused_limit, same_limit, takes_lines}
use Rattle.rd_log_files.proofs.lines.read_lines.Goals as goal

pub lines-init : goal.lines-init
lines-init g c = (
  [],
  [],
  ap (λ (r : Reader). r.ended) c.requires.fresh,
  rw c.requires.fresh (counts_none c.args.limits.now c.args.log c.args.events.now),
  rw c.requires.fresh (cut_none c.args.limits.now),
  ap (λ (r : Reader). r.number) c.requires.fresh,
  c.requires.none,
  takes_none (g.I.Inputs.told c.args.inputs.now),
  refl,
)

pub returns-in-Ok-End-clause-read : goal.returns-in-Ok-End-clause-read
returns-in-Ok-End-clause-read g c =
    let (taken, lines, going, so_far, cut, numbered, text, told, calm) = c.lines.invariant in
    let (bytes, answered, goes) = (rw c.in-Ok-End.field-0-is at c.in-Ok-End.ensures.tells) going in
    let (all, counted) = kept_well c.args.limits.now c.args.log c.args.events.now taken bytes c.lines.reader c.lines.events lines so_far cut numbered answered.tells c.lines.text text in (
      counted,
      subst (λ t. Goes (g.I.Inputs.told c.args.inputs.now) (g.I.Inputs.told c.next.new.inputs) (λ old new. Takes old new t × (new.held ≡ []))) {x = taken ++ bytes} (sym all)
          (takes_then _ _ _ taken bytes (λ (source : Source). Unit {0} → source.held ≡ []) (λ (source : Source). source.held ≡ []) (λ source none. none tt) told goes),
    )

pub returns-in-Ok-End-clause-taken : goal.returns-in-Ok-End-clause-taken
returns-in-Ok-End-clause-taken g c =
    let (taken, lines, going, so_far, cut, numbered, text, told, calm) = c.lines.invariant in
    let (bytes, answered, goes) = (rw c.in-Ok-End.field-0-is at c.in-Ok-End.ensures.tells) going in (
      taken ++ bytes,
      takes_lines c.args.limits.now c.args.log c.args.events.now taken bytes c.lines.reader c.lines.events lines so_far cut numbered answered.past answered.fits,
      takes_on _ _ _ taken bytes told (λ old is. let r = goes old is in (r.0, r.1, r.2.0)),
    )

pub returns-in-Err-clause-read : goal.returns-in-Err-clause-read
returns-in-Err-clause-read g c =
    let (taken, lines, going, so_far, cut, numbered, text, told, calm) = c.lines.invariant in
    let (bytes, answered, goes) = c.in-Err.ensures.tells going in
    ok_so c.end_log.result _ _
    (λ (ended, kept).
    let (rest, line_is) = subst (λ e. TellsNext c.lines.reader bytes c.next.new.self (Err e)) ended answered.tells in
    let (all, counted) =
    kept_rest c.args.limits.now c.args.log c.args.events.now taken bytes c.lines.reader c.lines.events lines so_far cut numbered rest c.lines.text c.line.result.now c.end_log.new.text text
    (c.line.ensures ∙ line_is) kept in (
      counted,
      subst (λ t. Goes (g.I.Inputs.told c.args.inputs.now) (g.I.Inputs.told c.next.new.inputs) (λ old new. Takes old new t × (new.held ≡ []))) {x = taken ++ bytes} (sym all)
          (takes_then _ _ _ taken bytes (λ (source : Source). IsAtEnd (Err c.in-Err.refused) → source.held ≡ []) (λ (source : Source). source.held ≡ [])
          (λ source none. none (subst (λ e. IsAtEnd (Err e)) (sym ended) tt)) told goes),
    ))
    c.end_log.ensures.kept

pub returns-in-Err-clause-limit : goal.returns-in-Err-clause-limit
returns-in-Err-clause-limit g c =
    let (taken, lines, going, so_far, cut, numbered, text, told, calm) = c.lines.invariant in
    let (bytes, answered, goes) = c.in-Err.ensures.tells going in
    let moves = c.in-Err.ensures.moves going in
    let limits = c.args.limits.now in
    err_so c.end_log.result _ _
    (λ unread said passed is old at.
    let (some, ends) = said passed is in
    let (mid, between, first) = told old at in
    let (new, now, (second, none)) = goes mid between in (
      new,
      now,
      ap (counted_log limits c.args.log c.args.events.now) (takes_both old mid new taken bytes first second).held
          ∙ refused_limit limits c.args.log c.args.events.now taken bytes c.lines.reader c.lines.events lines so_far cut numbered c.in-Err.refused c.next.new.self some answered.tells moves.number passed
          (rw c.number.ensures.value at ends) new.held,
    ))
    c.end_log.ensures.limit

pub returns-in-Err-clause-taken : goal.returns-in-Err-clause-taken
returns-in-Err-clause-taken g c =
    let (taken, lines, going, so_far, cut, numbered, text, told, calm) = c.lines.invariant in
    let (bytes, answered, goes) = c.in-Err.ensures.tells going in (
      taken ++ bytes,
      takes_lines c.args.limits.now c.args.log c.args.events.now taken bytes c.lines.reader c.lines.events lines so_far cut numbered answered.past answered.fits,
      takes_on _ _ _ taken bytes told (λ old is. let r = goes old is in (r.0, r.1, r.2.0)),
    )

pub returns-in-Err-count_line-clause-taken : goal.returns-in-Err-count_line-clause-taken
returns-in-Err-count_line-clause-taken g c =
    let (taken, lines, going, so_far, cut, numbered, text, told, calm) = c.lines.invariant in
    let (bytes, answered, goes) = c.in-Ok-Line.ensures.tells going in (
      taken ++ bytes,
      takes_lines c.args.limits.now c.args.log c.args.events.now taken bytes c.lines.reader c.lines.events lines so_far cut numbered answered.past answered.fits,
      takes_on _ _ _ taken bytes told (λ old is. let r = goes old is in (r.0, r.1, r.2.0)),
    )

pub returns-in-Err-count_line-clause-limit : goal.returns-in-Err-count_line-clause-limit
returns-in-Err-count_line-clause-limit g c passed is old at =
    let (taken, lines, going, so_far, cut, numbered, text, told, calm) = c.lines.invariant in
    let (bytes, answered_so, goes) = c.in-Ok-Line.ensures.tells going in
    let answered = subst (λ next. IsAnswered c.lines.reader bytes c.next.new.self (Ok next)) c.in-Ok-Line.field-0-is answered_so in
    let moves = subst (λ next. Moves c.lines.reader c.next.new.self (Ok next)) c.in-Ok-Line.field-0-is (c.in-Ok-Line.ensures.moves going) in
    let (mid, between, first) = told old at in
    let (new, now, (second, none)) = goes mid between in (
      new,
      now,
      ap (counted_log c.args.limits.now c.args.log c.args.events.now) (takes_both old mid new taken bytes first second).held
          ∙ counts_past c.args.limits.now c.args.log c.args.events.now taken bytes c.lines.reader c.lines.events lines so_far cut numbered c.next.new.self answered.tells moves.number
          c.in-Err-count_line.passed (rw (c.number-number.ensures.value, c.line-in-lines.ensures) at c.in-Err-count_line.ensures.limit) new.held
          ∙ ap Err (same_limit c.in-Err-count_line.passed passed is),
    )

pub lines-preserved : goal.lines-preserved
lines-preserved g c =
    let (taken, lines, going, so_far, cut, numbered, text, told, calm) = c.lines.invariant in
    let (bytes, answered_so, goes) = c.in-Ok-Line.ensures.tells going in
    let answered = subst (λ next. IsAnswered c.lines.reader bytes c.next.new.self (Ok next)) c.in-Ok-Line.field-0-is answered_so in
    let moves = subst (λ next. Moves c.lines.reader c.next.new.self (Ok next)) c.in-Ok-Line.field-0-is (c.in-Ok-Line.ensures.moves going) in
    let limits = c.args.limits.now in
    let line = c.next.new.self.line in (
      taken ++ bytes,
      lines ++ line ∷ [],
      moves.ended,
      counts_line limits c.args.log c.args.events.now taken bytes c.lines.reader c.lines.events lines so_far cut numbered c.next.new.self answered.tells moves.number c.count_line.new.events
          (rw (c.number-number.ensures.value, c.line-in-lines.ensures) at c.in_default.ensures.counted),
      cut_line limits taken bytes c.lines.reader lines cut c.next.new.self answered.leaves,
      omega (arith, length-append lines (line ∷ []), moves.number, numbered),
      kept_more lines line c.lines.text c.keep_line.new.text text (rw c.line-in-lines-2.ensures at c.in_ok-keep_line.ensures),
      takes_on _ _ _ taken bytes told (λ old is. let r = goes old is in (r.0, r.1, r.2.0)),
      c.in-Ok-Line.ensures.calm (λ e. true≢false (ap is_ok (sym (ap Ok c.in-Ok-Line.field-0-is) ∙ e))) ∙ calm,
    )

pub returns-in_err-keep_line-clause-taken : goal.returns-in_err-keep_line-clause-taken
returns-in_err-keep_line-clause-taken g c =
    let (taken, lines, going, so_far, cut, numbered, text, told, calm) = c.lines.invariant in
    let (bytes, answered, goes) = c.in-Ok-Line.ensures.tells going in (
      taken ++ bytes,
      takes_lines c.args.limits.now c.args.log c.args.events.now taken bytes c.lines.reader c.lines.events lines so_far cut numbered answered.past answered.fits,
      takes_on _ _ _ taken bytes told (λ old is. let r = goes old is in (r.0, r.1, r.2.0)),
    )
