use Rattle.std.proofs.Common.{arith}
use Rattle.rd_rewriting.proofs.LineLemmas.{counted, lines_many, objects_many}
use Rattle.rd_rewriting.proofs.kept.Kept.line_count.Goals as goal

pub returns : goal.returns
returns c = λ kinds lines kept places inside many.
    let now = c.args.self.now in
    omega (
      arith,
      counted kinds now lines kept.keeps places inside,
      many,
      objects_many kinds now lines kept.keeps,
      lines_many kinds now lines kept.keeps,
      kept.stands.object_total,
      c.len.ensures.count,
      c.objects.ensures.count,
      c.events.ensures kinds lines kept.stands,
    )
