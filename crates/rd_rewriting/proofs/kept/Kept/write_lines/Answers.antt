use Rattle.std.proofs.Common.{◌≡◌, ◌+◌, ◌++◌, [], Some, drop, get_or, slice_get, take, refl, sym, ◌∙◌, subst, arith}
use Rattle.std.proofs.lemmas.Option.{slice_get-get_or}
use Rattle.rd_event.specs.Items.{line_text, lines_text}
use Rattle.rd_event.specs.declared.items.Line.TheVariants.{Skip}
use Rattle.rd_io.proofs.SinkLemmas.{appends_none, appends_on}
use Rattle.rd_io.specs.Sinks.{Appends}
use Rattle.rd_rewriting.proofs.TextLemmas.{text_all, text_front, text_more}
use Rattle.rd_rewriting.specs.Reordered.{reordered}
use Rattle.rd_walk.proofs.OutputLemmas.{always_err}
use Rattle.rd_walk.specs.Analysis.{WritesFront}
use Rattle.rd_rewriting.proofs.kept.Kept.write_lines.Goals as goal

pub loop-index-init : goal.loop-index-init
loop-index-init g c =
    let written = g.S.Sink.written c.args.out.now in
    record { within = omega arith; written = λ kinds lines kept. appends_none written written refl; calm = refl }

pub line-requires-clause-kept : goal.line-requires-clause-kept
line-requires-clause-kept g c =
    let (kinds, lines, kept) = c.requires.kept in
    let count = c.line_count-index-end.ensures kinds lines kept c.args.places.now c.requires.places c.requires.all in
    (kinds, lines, kept.keeps, omega (arith, c.loop-index-test.true, count))

pub loop-index-preserved : goal.loop-index-preserved
loop-index-preserved g c =
    let index = c.loop-index.index in
    let was = g.S.Sink.written c.args.out.now in
    let before = g.S.Sink.written c.loop-index.out in
    let now = g.S.Sink.written c.write_line.new.out in
    record {
      within = omega (arith, c.loop-index-test.true);
      written = λ kinds lines kept.
          let all = reordered lines c.args.places.now in
          let count = c.line_count-index-end.ensures kinds lines kept c.args.places.now c.requires.places c.requires.all in
          let line = get_or all index Skip in
          let at : slice_get all index ≡ Some line = slice_get-get_or all index Skip (omega (arith, c.loop-index-test.true, count)) in
          let is = c.line.ensures kinds lines line kept.keeps (c.items.ensures ∙ c.in_ok-header.ensures kinds lines kept.stands) at in
          subst (Appends was now) (sym (text_more all index line at))
          (appends_on _ _ _ (lines_text (take index all)) (line_text line) (c.loop-index.invariant.written kinds lines kept) (subst (Appends before now) is c.in_ok-write_line.ensures.ok));
      calm = c.in_ok-write_line.ensures.fault ∙ c.loop-index.invariant.calm;
    }

pub returns-in_err-write_line-clause-front : goal.returns-in_err-write_line-clause-front
returns-in_err-write_line-clause-front g c = always_err _ c.from_residual-in_err-write_line.result (λ kinds lines kept.
    let index = c.loop-index.index in
    let all = reordered lines c.args.places.now in
    let count = c.line_count-index-end.ensures kinds lines kept c.args.places.now c.requires.places c.requires.all in
    let line = get_or all index Skip in
    let at : slice_get all index ≡ Some line = slice_get-get_or all index Skip (omega (arith, c.loop-index-test.true, count)) in
    let said = c.line.ensures kinds lines line kept.keeps (c.items.ensures ∙ c.in_ok-header.ensures kinds lines kept.stands) at in
    let (part, rest, is, writes) = subst (WritesFront (g.S.Sink.written c.loop-index.out) (g.S.Sink.written c.write_line.new.out) []) said c.in_err-write_line.ensures.front in
    let before = lines_text (take index all) in (
      before ++ part,
      rest ++ lines_text (drop (index + 1) all),
      text_front all index line part rest at is,
      appends_on _ _ _ before part (c.loop-index.invariant.written kinds lines kept) writes,
    ))

pub returns-clause-ok : goal.returns-clause-ok
returns-clause-ok g c = λ kinds lines kept.
    let all = reordered lines c.args.places.now in
    let count = c.line_count-index-end.ensures kinds lines kept c.args.places.now c.requires.places c.requires.all in
    subst (Appends (g.S.Sink.written c.args.out.now) (g.S.Sink.written c.loop-index.out)) (text_all all c.loop-index.index (omega (arith, c.loop-index-test.false, count)))
    (c.loop-index.invariant.written kinds lines kept)
