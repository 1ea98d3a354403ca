use Rattle.std.proofs.Common.{◌≡◌, ◌<◌, ◌++◌, ◌∷◌, [], List, ℕ, Bool, false, Some, get_or, length, map, slice_get, sym, ap, subst, take, ◌∙◌}
use Rattle.rd_event.specs.declared.items.Line.TheVariants.{Header}
use Rattle.rd_logs.specs.declared.whole.ReadLog.{ReadLog}
use Rattle.rd_logs.specs.WholeLogs.{record_of}
use Rattle.rd_weave.specs.Answers.{placed_lines, events_of_log, object_lines, root_lines}
use Rattle.rd_weavings.specs.declared.spots.Spot.{Spot}
use Rattle.rd_weavings.specs.Logs.{given}
use Rattle.rd_weave.proofs.lines.woven_lines.Goals as goal

pub append_all-requires : goal.append_all-requires
append_all-requires c =
    subst (λ (logs : List ReadLog). (j : ℕ) (s : Spot) → slice_get c.args.spots.now j ≡ Some s → (s.place ≡ given (take j c.args.spots.now) s.log) × (s.place < length (events_of_log (map record_of logs) s.log)))
    (sym c.deref_mut.ensures.value) c.requires

pub returns : goal.returns
returns c =
    let is_root : ℕ → Bool = λ thread. get_or c.args.roots.now thread false in
    let spots : List Spot = c.args.spots.now in
    c.in_ok-append_all.ensures
    ∙ ap (λ (logs : List ReadLog). c.append_objects.new.lines.items ++ placed_lines (map record_of logs) spots) c.deref_mut.ensures.value
    ∙ ap (λ lines. lines ++ placed_lines (map record_of c.args.logs.items) spots)
    (c.in_ok-append_objects.ensures ∙ ap (λ (logs : List ReadLog). c.append_roots.new.lines.items ++ object_lines (map record_of logs)) c.deref-2.ensures.value
    ∙ ap (λ lines. lines ++ object_lines (map record_of c.args.logs.items))
    (c.in_ok-append_roots.ensures ∙ ap (λ (logs : List ReadLog). c.push.new.self.items ++ root_lines is_root 0 (map record_of logs)) c.deref.ensures.value
    ∙ ap (λ lines. lines ++ root_lines is_root 0 (map record_of c.args.logs.items)) (c.in_ok-push.ensures.items ∙ ap (λ lines. lines ++ Header 1 ∷ []) c.in_ok-lines.ensures.items)))
