use Rattle.std.proofs.Common.{◌≡◌, ◌≢◌, sym, ◌∙◌}
use Rattle.std.specs.Cmp.Lexicographic.{bytes_decides}
use Rattle.rd_ecl.specs.Specified.{names_of}
use Rattle.rd_ecl.specs.Variables.{is_one_of}
use Rattle.rd_lines.specs.Reading.{names_behind}
use Rattle.rd_lines.proofs.OrderLemmas.{found_out, finds_out}
use Rattle.rd_lines.proofs.order.is_out_of_order.Goals as goal

pub returns : goal.returns
returns c =
    let test : c.is_among.result ≡ is_one_of c.args.first.now (names_behind c.args.second.now (names_of c.args.methods.now)) = cc in
    let differ : c.args.first.now ≢ c.args.second.now = λ same. let yes = (bytes_decides c.args.first.now c.args.second.now).1 same in cc in (
      λ found. found_out c.args.first.now c.args.second.now differ (names_of c.args.methods.now) (sym test ∙ found),
      λ out. test ∙ finds_out c.args.first.now c.args.second.now differ (names_of c.args.methods.now) out,
    )
