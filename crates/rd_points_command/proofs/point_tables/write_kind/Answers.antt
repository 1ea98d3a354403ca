use Rattle.std.proofs.Common.{◌++◌, [], length, subst}
use Rattle.std.proofs.lemmas.Result.{on_err_weaker}
use Rattle.rd_io.proofs.SinkLemmas.{appends_on}
use Rattle.rd_io.specs.Sinks.{Appends}
use Rattle.rd_points.specs.Classes.{joined}
use Rattle.rd_points.specs.Tables.{class_count}
use Rattle.rd_points_command.specs.PointTexts.{class_line, kind_line, predicate_lines, touch_lines}
use Rattle.rd_points_command.proofs.JoinedLemmas.{front_first, front_second}
use Rattle.rd_print.proofs.JoinLemmas.{ok_then}
use Rattle.rd_walk.proofs.OutputLemmas.{always_err}
use Rattle.rd_walk.specs.Analysis.{WritesFront}
use Rattle.rd_points_command.proofs.point_tables.write_kind.Goals as goal

pub returns-in_err-write_head-clause-front : goal.returns-in_err-write_head-clause-front
returns-in_err-write_head-clause-front g c =
    let line = kind_line c.args.kind.now c.args.table.now in
    let ps = joined (predicate_lines c.args.kind.now c.args.table.now) (length c.args.kind.now.methods) in
    let cs = joined (class_line c.args.table.now) (class_count c.args.table.now) in
    let ts = joined (touch_lines c.args.kind.now c.args.table.now) (length c.args.kind.now.methods) in
    always_err _ c.from_residual.result
    (front_first _ _ (line ++ ps ++ cs) ts (front_first _ _ (line ++ ps) cs (front_first _ _ line ps c.in_err-write_head.ensures.front)))

pub returns-in_err-write_numbered-clause-front : goal.returns-in_err-write_numbered-clause-front
returns-in_err-write_numbered-clause-front g c =
    let line = kind_line c.args.kind.now c.args.table.now in
    let ps = joined (predicate_lines c.args.kind.now c.args.table.now) (length c.args.kind.now.methods) in
    let cs = joined (class_line c.args.table.now) (class_count c.args.table.now) in
    let ts = joined (touch_lines c.args.kind.now c.args.table.now) (length c.args.kind.now.methods) in
    let cut = subst (λ ms. WritesFront (g.S.Sink.written c.write_head.new.out) (g.S.Sink.written c.write_numbered.new.out) []
    (joined (predicate_lines c.args.kind.now c.args.table.now) (length ms))) c.methods.ensures.value c.in_err-write_numbered.ensures.front in
    always_err _ c.from_residual-in_err-write_numbered.result
    (front_first _ _ (line ++ ps ++ cs) ts (front_first _ _ (line ++ ps) cs (front_second _ _ _ line ps c.in_ok-write_head.ensures.ok cut)))

pub returns-in_err-write_numbered-2-clause-front : goal.returns-in_err-write_numbered-2-clause-front
returns-in_err-write_numbered-2-clause-front g c =
    let line = kind_line c.args.kind.now c.args.table.now in
    let ps = joined (predicate_lines c.args.kind.now c.args.table.now) (length c.args.kind.now.methods) in
    let cs = joined (class_line c.args.table.now) (class_count c.args.table.now) in
    let ts = joined (touch_lines c.args.kind.now c.args.table.now) (length c.args.kind.now.methods) in
    let said = subst (λ ms. Appends (g.S.Sink.written c.write_head.new.out) (g.S.Sink.written c.write_numbered.new.out)
    (joined (predicate_lines c.args.kind.now c.args.table.now) (length ms))) c.methods.ensures.value c.in_ok-write_numbered.ensures.ok in
    let cut = subst (λ n. WritesFront (g.S.Sink.written c.write_numbered.new.out) (g.S.Sink.written c.write_numbered-2.new.out) [] (joined (class_line c.args.table.now) n))
    c.classes.ensures c.in_err-write_numbered-2.ensures.front in
    always_err _ c.from_residual-in_err-write_numbered-2.result
    (front_first _ _ (line ++ ps ++ cs) ts
    (front_second _ _ _ (line ++ ps) cs (appends_on _ _ _ line ps c.in_ok-write_head.ensures.ok said) cut))

pub returns-clause-ok : goal.returns-clause-ok
returns-clause-ok g c =
    let line = kind_line c.args.kind.now c.args.table.now in
    let ps = joined (predicate_lines c.args.kind.now c.args.table.now) (length c.args.kind.now.methods) in
    let cs = joined (class_line c.args.table.now) (class_count c.args.table.now) in
    let ts = joined (touch_lines c.args.kind.now c.args.table.now) (length c.args.kind.now.methods) in
    let said = subst (λ ms. Appends (g.S.Sink.written c.write_head.new.out) (g.S.Sink.written c.write_numbered.new.out)
    (joined (predicate_lines c.args.kind.now c.args.table.now) (length ms))) c.methods.ensures.value c.in_ok-write_numbered.ensures.ok in
    let listed = subst (λ n. Appends (g.S.Sink.written c.write_numbered.new.out) (g.S.Sink.written c.write_numbered-2.new.out) (joined (class_line c.args.table.now) n))
    c.classes.ensures c.in_ok-write_numbered-2.ensures.ok in
    ok_then c.write_numbered-3.result _ _
    (λ here. appends_on _ _ _ (line ++ ps ++ cs) ts
    (appends_on _ _ _ (line ++ ps) cs (appends_on _ _ _ line ps c.in_ok-write_head.ensures.ok said) listed)
    (subst (λ ms. Appends (g.S.Sink.written c.write_numbered-2.new.out) (g.S.Sink.written c.write_numbered-3.new.out)
    (joined (touch_lines c.args.kind.now c.args.table.now) (length ms))) c.methods.ensures.value here))
    c.write_numbered-3.ensures.ok

pub returns-clause-front : goal.returns-clause-front
returns-clause-front g c =
    let line = kind_line c.args.kind.now c.args.table.now in
    let ps = joined (predicate_lines c.args.kind.now c.args.table.now) (length c.args.kind.now.methods) in
    let cs = joined (class_line c.args.table.now) (class_count c.args.table.now) in
    let ts = joined (touch_lines c.args.kind.now c.args.table.now) (length c.args.kind.now.methods) in
    let said = subst (λ ms. Appends (g.S.Sink.written c.write_head.new.out) (g.S.Sink.written c.write_numbered.new.out)
    (joined (predicate_lines c.args.kind.now c.args.table.now) (length ms))) c.methods.ensures.value c.in_ok-write_numbered.ensures.ok in
    let listed = subst (λ n. Appends (g.S.Sink.written c.write_numbered.new.out) (g.S.Sink.written c.write_numbered-2.new.out) (joined (class_line c.args.table.now) n))
    c.classes.ensures c.in_ok-write_numbered-2.ensures.ok in
    on_err_weaker c.write_numbered-3.result
    (λ (here : WritesFront (g.S.Sink.written c.write_numbered-2.new.out) (g.S.Sink.written c.write_numbered-3.new.out) []
    (joined (touch_lines c.args.kind.now c.args.table.now) (length c.methods.result.now))). front_second _ _ _ (line ++ ps ++ cs) ts
    (appends_on _ _ _ (line ++ ps) cs (appends_on _ _ _ line ps c.in_ok-write_head.ensures.ok said) listed)
    (subst (λ ms. WritesFront (g.S.Sink.written c.write_numbered-2.new.out) (g.S.Sink.written c.write_numbered-3.new.out) []
    (joined (touch_lines c.args.kind.now c.args.table.now) (length ms))) c.methods.ensures.value here))
    c.write_numbered-3.ensures.front
