use Rattle.std.proofs.Common.{◌≡◌, ◌+◌, ◌^◌, ◌<◌, ◌++◌, ◌∷◌, ℕ, Bool, false, [], List, Some, length, map, take, slice_get, get_or, sym, ap, subst, ◌∙◌}
use Rattle.std.proofs.lemmas.List.{length-map}
use Rattle.std.specs.List.{range_with_len}
use Rattle.std.proofs.lemmas.List.FromFn.{length-map-range_with_len}
use Rattle.rd_event.specs.declared.items.Line.TheVariants.{Header}
use Rattle.rd_logs.specs.WholeLogs.{LogRecord, record_of}
use Rattle.rd_numbered_logs.specs.LogsUnder.{logs_under}
use Rattle.rd_turns.specs.NumberedLogs.{logs_by_numbers}
use Rattle.rd_weave.specs.Answers.{placed_lines, events_of_log, object_lines, root_lines}
use Rattle.rd_weave.specs.Answers.WeaveAnswer.{Stuck, Woven}
use Rattle.rd_weavings.specs.declared.spots.Spot.{Spot}
use Rattle.rd_weavings.specs.Logs.{given}
use Rattle.rd_weave.proofs.EndLemmas.{answers_stuck, answers_woven, counts_need, lines_alike, lines_need, none_left, some_left}
use Rattle.rd_weave.proofs.woven.weave_read.Goals as goal

pub counts_of-requires : goal.counts_of-requires
counts_of-requires c =
    let logs : List LogRecord = map record_of c.args.read.items in
    let count : c.len.result ≡ length logs = c.len.ensures ∙ c.args.read.ok.0 ∙ sym (length-map c.args.read.items record_of) in
    subst (λ (spots : List Spot). (j : ℕ) (s : Spot) → slice_get spots j ≡ Some s → (s.log < c.len.result) × (s.place ≡ given (take j spots) s.log) × (s.place + 1 < 2 ^ 32)) (sym c.as_slice.ensures.value)
    (counts_need c.args.numbered.now logs c.in_ok-spots.spots.items c.in_ok-spots.ensures (c.law_of_alike_logs.ensures.turns _ _ c.requires.alike)
    (λ s j at. c.law_of_ends.ensures.next (logs_under [] logs) s j at) (λ s j at. c.law_of_ends.ensures.next (logs_by_numbers c.args.numbered.now) s j at) c.requires.range c.len.result count)

pub is_left-requires : goal.is_left-requires
is_left-requires c =
    ap length (c.as_slice-3.ensures.value ∙ c.in_ok-counts.ensures) ∙ length-map-range_with_len (given c.as_slice.result.now) 0 c.len.result ∙ c.len.ensures ∙ c.args.read.ok.0
    ∙ ap length (sym c.as_slice-2.ensures.value)

pub returns-then-is_left-clause-stuck : goal.returns-then-is_left-clause-stuck
returns-then-is_left-clause-stuck c = λ counts told.
    let same : c.in_ok-places.places ≡ counts = cc in
    let logs : List LogRecord = map record_of c.args.read.items in
    let count : c.len.result ≡ length logs = c.len.ensures ∙ c.args.read.ok.0 ∙ sym (length-map c.args.read.items record_of) in
    let counted : c.in_ok-counts.counts.items ≡ map (given c.in_ok-spots.spots.items) (range_with_len 0 c.len.result) = c.in_ok-counts.ensures ∙ ap (λ spots. map (given spots) (range_with_len 0 c.len.result)) c.as_slice.ensures.value in
    answers_stuck c.args.numbered.now logs c.in_ok-spots.spots.items c.in_ok-spots.ensures (c.law_of_alike_logs.ensures.turns _ _ c.requires.alike) c.requires.own c.in_ok-counts.counts.items c.len.result counted count
    (some_left c.as_slice-2.result.now c.args.read.items c.as_slice-3.result.now c.in_ok-counts.counts.items c.as_slice-2.ensures.value c.as_slice-3.ensures.value (c.is_left.ensures.some c.if-is_left.true))
    ∙ ap Stuck (sym (c.in_ok-places.ensures ∙ c.as_slice-then-is_left.ensures.value) ∙ same)

pub woven_lines-requires : goal.woven_lines-requires
woven_lines-requires c =
    let logs : List LogRecord = map record_of c.args.read.items in
    subst (λ (spots : List Spot). (j : ℕ) (s : Spot) → slice_get spots j ≡ Some s → (s.place ≡ given (take j spots) s.log) × (s.place < length (events_of_log logs s.log))) (sym c.as_slice-5.ensures.value)
    (lines_need c.args.numbered.now logs c.in_ok-spots.spots.items c.in_ok-spots.ensures (c.law_of_alike_logs.ensures.turns _ _ c.requires.alike) (λ s j at. c.law_of_ends.ensures.next (logs_under [] logs) s j at))

pub returns-clause-woven : goal.returns-clause-woven
returns-clause-woven c =
    let logs : List LogRecord = map record_of c.args.read.items in
    let count : c.len.result ≡ length logs = c.len.ensures ∙ c.args.read.ok.0 ∙ sym (length-map c.args.read.items record_of) in
    let counted : c.in_ok-counts.counts.items ≡ map (given c.in_ok-spots.spots.items) (range_with_len 0 c.len.result) = c.in_ok-counts.ensures ∙ ap (λ spots. map (given spots) (range_with_len 0 c.len.result)) c.as_slice.ensures.value in
    answers_woven c.args.numbered.now logs c.in_ok-spots.spots.items c.in_ok-spots.ensures (c.law_of_alike_logs.ensures.turns _ _ c.requires.alike) c.requires.own c.in_ok-counts.counts.items c.len.result counted count
    (none_left c.as_slice-2.result.now c.args.read.items c.as_slice-3.result.now c.in_ok-counts.counts.items c.as_slice-2.ensures.value c.as_slice-3.ensures.value (c.is_left.ensures.none c.if-is_left.false))
    ∙ ap Woven (sym (c.in_ok-lines.ensures
    ∙ ap (λ (roots : List Bool). Header 1 ∷ root_lines (λ thread. get_or roots thread false) 0 logs ++ object_lines logs ++ placed_lines logs c.as_slice-5.result.now) c.as_slice-4.ensures.value
    ∙ ap (λ (spots : List Spot). Header 1 ∷ root_lines (λ thread. get_or c.args.numbered.now.roots.items thread false) 0 logs ++ object_lines logs ++ placed_lines logs spots) c.as_slice-5.ensures.value
    ∙ lines_alike c.args.numbered.now logs c.in_ok-spots.spots.items c.requires.alike))
