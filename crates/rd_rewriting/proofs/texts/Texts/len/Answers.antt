use Rattle.std.proofs.Common.{length, ap, arith}
use Rattle.rd_rewriting.proofs.TextsLemmas.{texts_counted}
use Rattle.rd_rewriting.proofs.texts.Texts.len.Goals as goal

pub returns-clause-count : goal.returns-clause-count
returns-clause-count c = omega (arith, c.len.ensures, c.self.inside.starts.ok.0, texts_counted c.self.inside.bytes c.self.inside.starts.items, ap length c.self.view_is)
