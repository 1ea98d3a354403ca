use Rattle.std.proofs.Common.{◌≡◌, ◌+◌, ◌-◌, ◌<◌, ◌^◌, ◌∷◌, [], Ok, length, sym, ap, ◌∙◌, subst, arith}
use Rattle.std.proofs.lemmas.List.{length-append, length-map}
use Rattle.rd_io.specs.Inputs.{Source}
use Rattle.rd_log_files.specs.Gathered.{counted_log}
use Rattle.rd_log_files.specs.LogFiles.{LeavesFile, PassesIn, ReadsFile}
use Rattle.rd_logs.specs.WholeLogs.{log_texts}
use Rattle.rd_logs.specs.declared.whole.Log.{Log}
use Rattle.rd_log_files.proofs.FileLemmas.{CountsLogs, ReadSoFar, counts_log, failed_so, leaves_next, passes_so, read_next, same_told, texts_more, within_all}
use Rattle.rd_log_files.proofs.files.read_logs.Goals as goal

pub returns-in_err-log-clause-leaves : goal.returns-in_err-log-clause-leaves
returns-in_err-log-clause-leaves g c old told =
    let (goes, counts, many, calm) = c.loop-file.invariant in
    let (mid, at, so_far) = goes old told in
    let (new, now, left) = c.read_file.ensures.leaves mid at in
    let limits = c.args.limits.now in
    let name = c.file-item.result in
    let logs = log_texts c.loop-file.logs.items in
    let number : c.len.result ≡ length (log_texts c.loop-file.logs.items) =
    omega (arith, c.len.ensures, c.loop-file.logs.ok.0, length-map c.loop-file.logs.items (λ (l : Log). l.bytes)) in (
      new,
      now,
      λ few.
          let here = so_far few in
          leaves_next limits c.args.files.now logs c.loop-file.file-index name c.loop-file.events old mid new c.loop-file-test.true c.file-item.is many here counts
          (subst (λ n. LeavesFile limits (n + 1) c.loop-file.events name mid new) number
          (left (omega (arith, here.opens, many, few, c.loop-file.logs.small, c.loop-file.logs.ok.0, c.loop-file.logs.ok.1, length-map c.loop-file.logs.items (λ (l : Log). l.bytes))))),
    )

pub returns-in_err-log-clause-limit : goal.returns-in_err-log-clause-limit
returns-in_err-log-clause-limit g c =
    failed_so c.from_residual.result _ _
    (λ unread same passed is old told.
    let (goes, counts, many, calm) = c.loop-file.invariant in
    let (mid, at, so_far) = goes old told in
    let (new, now, passes) = c.in_err-log.ensures.limit passed (sym same ∙ is) mid at in
    let limits = c.args.limits.now in
    let name = c.file-item.result in
    let logs = log_texts c.loop-file.logs.items in
    let number : c.len.result ≡ length (log_texts c.loop-file.logs.items) =
    omega (arith, c.len.ensures, c.loop-file.logs.ok.0, length-map c.loop-file.logs.items (λ (l : Log). l.bytes)) in (
      new,
      now,
      λ few.
          let here = so_far few in
          passes_so limits c.args.files.now logs c.loop-file.file-index name c.loop-file.events old mid new c.loop-file-test.true c.file-item.is many here counts passed
          (subst (λ n. PassesIn limits (n + 1) c.loop-file.events name mid new passed) number
          (passes (omega (arith, here.opens, many, few, c.loop-file.logs.small, c.loop-file.logs.ok.0, c.loop-file.logs.ok.1, length-map c.loop-file.logs.items (λ (l : Log). l.bytes))))),
    ))
    c.from_residual.ensures

pub returns-in_err-keep_log-clause-leaves : goal.returns-in_err-keep_log-clause-leaves
returns-in_err-keep_log-clause-leaves g c old told =
    let (goes, counts, many, calm) = c.loop-file.invariant in
    let (mid, at, so_far) = goes old told in
    let (new, now, left) = c.read_file.ensures.leaves mid at in
    let limits = c.args.limits.now in
    let name = c.file-item.result in
    let logs = log_texts c.loop-file.logs.items in
    let number : c.len.result ≡ length (log_texts c.loop-file.logs.items) =
    omega (arith, c.len.ensures, c.loop-file.logs.ok.0, length-map c.loop-file.logs.items (λ (l : Log). l.bytes)) in (
      new,
      now,
      λ few.
          let here = so_far few in
          leaves_next limits c.args.files.now logs c.loop-file.file-index name c.loop-file.events old mid new c.loop-file-test.true c.file-item.is many here counts
          (subst (λ n. LeavesFile limits (n + 1) c.loop-file.events name mid new) number
          (left (omega (arith, here.opens, many, few, c.loop-file.logs.small, c.loop-file.logs.ok.0, c.loop-file.logs.ok.1, length-map c.loop-file.logs.items (λ (l : Log). l.bytes))))),
    )

pub loop-file-preserved : goal.loop-file-preserved
loop-file-preserved g c =
    let (goes, counts, many, calm) = c.loop-file.invariant in
    let limits = c.args.limits.now in
    let name = c.file-item.result in
    let logs = log_texts c.loop-file.logs.items in
    let log = c.in_ok-log.log in
    let number : c.len.result ≡ length (log_texts c.loop-file.logs.items) =
    omega (arith, c.len.ensures, c.loop-file.logs.ok.0, length-map c.loop-file.logs.items (λ (l : Log). l.bytes)) in
    let more = texts_more c.loop-file.logs.items log c.keep_log.new.logs.items c.in_ok-keep_log.ensures in (
      λ old told.
          let (mid, at, so_far) = goes old told in
          let (new, now, left) = c.read_file.ensures.leaves mid at in
          let (other, then, reads) = c.in_ok-log.ensures.read mid at in (
            new,
            now,
            λ few.
                let here = so_far few in
                let range : mid.opens < 2 ^ 64 - 1 =
                omega (arith, here.opens, many, few, c.loop-file.logs.small, c.loop-file.logs.ok.0, c.loop-file.logs.ok.1, length-map c.loop-file.logs.items (λ (l : Log). l.bytes)) in
                subst (λ ls. ReadSoFar limits c.args.files.now (c.loop-file.file-index + 1) ls old new) (sym more)
                (read_next limits c.args.files.now logs c.loop-file.file-index name c.loop-file.events old mid new c.loop-file-test.true c.file-item.is many here counts
                (subst (λ n. LeavesFile limits (n + 1) c.loop-file.events name mid new) number (left range)) log.bytes
                (subst (λ (source : Source). ReadsFile name mid source log.bytes) (same_told (g.I.Inputs.told c.read_file.new.inputs) other new then now) (reads range))),
          ),
      subst (λ ls. CountsLogs limits ls c.read_file.new.events) (sym more)
          (counts_log limits logs c.loop-file.events c.read_file.new.events log.bytes counts
          (subst (λ n. counted_log limits (n + 1) c.loop-file.events log.bytes ≡ Ok c.read_file.new.events) number c.in_ok-log.ensures.counted)),
      ap length more ∙ length-append logs (log.bytes ∷ []) ∙ ap (λ n. n + 1) many,
      c.in_ok-log.ensures.calm (λ e. cc) ∙ calm,
    )

pub returns-clause-leaves : goal.returns-clause-leaves
returns-clause-leaves g c old told =
    let (goes, counts, many, calm) = c.loop-file.invariant in
    let (new, now, so_far) = goes old told in
    (new, now, λ few. (so_far few).leaves)

pub returns-clause-within : goal.returns-clause-within
returns-clause-within g c =
    let (goes, counts, many, calm) = c.loop-file.invariant in
    within_all c.args.limits.now (log_texts c.loop-file.logs.items) c.loop-file.events counts
