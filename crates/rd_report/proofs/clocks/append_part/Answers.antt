use Rattle.std.proofs.Common.{◌≡◌, [], ◌∷◌, ◌++◌, codes, decimal, subst, sym, arith}
use Rattle.std.proofs.lemmas.Option.{get_or_from_slice_get}
use Rattle.rd_wf.specs.Roster.{names_in}
use Rattle.rd_report.specs.Texts.{name_of}
use Rattle.rd_report.specs.Writing.{ArePlain, comma}
use Rattle.rd_report.proofs.ClockLemmas.{part_written}
use Rattle.rd_report.proofs.PlainLemmas.{colon_plain, comma_plain, decimal_plain, name_plain, plain_with}
use Rattle.rd_report.proofs.clocks.append_part.Goals as goal

pub returns-clause-text : goal.returns-clause-text
returns-clause-text c =
    let name = name_of (names_in c.args.names.now) c.args.thread in
    let named = get_or_from_slice_get (names_in c.args.names.now) c.args.thread c.thread_name.result.now [] c.thread_name.ensures.name in
    let is : c.append_number.new.text ≡ (((c.args.text.now ++ comma c.args.some) ++ name) ++ codes ":") ++ decimal c.args.count =
    cc (named, c.in_ok-append_comma.ensures, c.items.ensures.value, c.in_ok-append.ensures.ok, c.in_ok-push.ensures.ok, c.from.ensures, c.in_ok-append_number.ensures) in
    part_written c.args.text.now c.append_number.new.text name c.args.some c.args.count c.if-count-eq0.false is

pub returns-clause-plain : goal.returns-clause-plain
returns-clause-plain c plain =
    let first = plain_with c.args.text.now (comma c.args.some) c.append_comma.new.text c.in_ok-append_comma.ensures plain (comma_plain c.args.some) in
    let second = plain_with c.append_comma.new.text c.items.result.now c.append.new.self c.in_ok-append.ensures.ok first
    (subst ArePlain (sym c.items.ensures.value) (name_plain c.thread_name.result.now c.items.ensures.name)) in
    let third = plain_with c.append.new.self (58 ∷ []) c.push.new.self c.in_ok-push.ensures.ok second colon_plain in
    plain_with c.push.new.self (decimal c.from.result) c.append_number.new.text c.in_ok-append_number.ensures third (decimal_plain c.from.result (omega (arith, c.from.type_inv)))
