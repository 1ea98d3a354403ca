use Rattle.std.proofs.Common.{sym, ◌∙◌}
use Rattle.rd_log_files.proofs.FileLemmas.{failed_so, left_alone, left_taken, left_unopened, opened_once, read_whole}
use Rattle.rd_log_files.proofs.files.read_file.Goals as goal

pub returns-in_err-reader-clause-leaves : goal.returns-in_err-reader-clause-leaves
returns-in_err-reader-clause-leaves g c old told = (old, told, λ few. left_alone c.args.limits.now c.args.log c.args.events.now c.args.file.now old)

pub returns-in_default-clause-leaves : goal.returns-in_default-clause-leaves
returns-in_default-clause-leaves g c old told =
    let (new, now, opened) = c.in_default.ensures.told old told in
    (new, now, λ few. left_unopened c.args.limits.now c.args.log c.args.events.now c.args.file.now old new opened)

pub returns-in_err-read_lines-clause-leaves : goal.returns-in_err-read_lines-clause-leaves
returns-in_err-read_lines-clause-leaves g c old told =
    let (mid, at, opened) = c.in-Ok.ensures.told old told in
    let (taken, lines, goes) = c.read_lines.ensures.taken in
    let (new, now, takes) = goes mid at in
    (new, now, λ few. left_taken c.args.file.now old mid new taken few opened takes c.args.limits.now c.args.log c.args.events.now lines)

pub returns-clause-leaves : goal.returns-clause-leaves
returns-clause-leaves g c old told =
    let (mid, at, opened) = c.in-Ok.ensures.told old told in
    let (taken, lines, goes) = c.read_lines.ensures.taken in
    let (new, now, takes) = goes mid at in
    (new, now, λ few. left_taken c.args.file.now old mid new taken few opened takes c.args.limits.now c.args.log c.args.events.now lines)

pub returns-clause-read : goal.returns-clause-read
returns-clause-read g c old told =
    let (mid, at, opened) = c.in-Ok.ensures.told old told in
    let (counted, goes) = c.in_ok-read_lines.ensures.read in
    let (new, now, (takes, none)) = goes mid at in
    (new, now, λ few. read_whole c.args.file.now old mid new c.read_lines.new.text few opened takes none)

pub returns-in_err-read_lines-clause-limit : goal.returns-in_err-read_lines-clause-limit
returns-in_err-read_lines-clause-limit g c =
    failed_so c.from_residual-in_err-read_lines.result _ _
    (λ unread same passed is old told.
    let (mid, at, opened) = c.in-Ok.ensures.told old told in
    let (taken, lines, goes) = c.read_lines.ensures.taken in
    let (new, now, takes) = goes mid at in
    let (other, then, counted) = c.in_err-read_lines.ensures.limit passed (sym same ∙ is) mid at in (
      new,
      now,
      λ few. record {
        opens = opened_once c.args.file.now old mid new taken few opened takes;
        misses = takes.misses ∙ opened.misses;
        bytes = mid.held;
        text = opened.held;
        passes = counted;
      },
    ))
    c.from_residual-in_err-read_lines.ensures
