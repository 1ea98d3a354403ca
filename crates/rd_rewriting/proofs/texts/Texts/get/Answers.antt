use Rattle.std.proofs.Common.{length, ap, arith}
use Rattle.rd_rewriting.proofs.TextsLemmas.{texts_counted}
use Rattle.rd_rewriting.proofs.texts.Texts.get.Goals as goal

pub bounds-start-requires-clause-inside : goal.bounds-start-requires-clause-inside
bounds-start-requires-clause-inside c =
    omega (arith, c.requires, ap length c.self.view_is, texts_counted c.self.inside.bytes c.self.inside.starts.items, ap length c.as_slice.ensures.value)
