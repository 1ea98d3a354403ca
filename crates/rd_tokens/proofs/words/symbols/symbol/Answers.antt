use Rattle.rd_tokens.specs.declared.sorts.Sort.TheVariants.{Word}
use Rattle.rd_tokens.specs.declared.words.dialects.Dialect.TheVariants.{Sided, Named, Unsided}
use Rattle.rd_tokens.proofs.DialectLemmas.{found_is}
use Rattle.rd_tokens.proofs.words.symbols.symbol.Goals as goal

pub returns-in-Sided : goal.returns-in-Sided
returns-in-Sided c = found_is c.args.dialect Sided c.args.sort Word c.args.bytes.now c.word.result c.in-Sided.is c.in-Word.is c.word.ensures

pub returns-in-Named : goal.returns-in-Named
returns-in-Named c = found_is c.args.dialect Named c.args.sort Word c.args.bytes.now c.named_word.result c.in-Named.is c.in-Word.is c.named_word.ensures

pub returns-in-Unsided : goal.returns-in-Unsided
returns-in-Unsided c =
    found_is c.args.dialect Unsided c.args.sort Word c.args.bytes.now c.unsided_word.result c.in-Unsided.is c.in-Word.is c.unsided_word.ensures
