use Rattle.std.proofs.Common.{refl, subst, sym}
use Rattle.rd_epochs_command.proofs.ItemLemmas.{item_refused, line_of_one}
use Rattle.rd_epochs_command.proofs.JudgeLemmas.{refused_as}
use Rattle.rd_epochs_command.proofs.SayingLemmas.{says_call}
use Rattle.rd_epochs_command.specs.Firsts.{epochs_bound, first_texts}
use Rattle.rd_epochs_command.specs.Watching.{WatchLeads}
use Rattle.rd_memory.specs.MemoryTraces.{access_call, memory_says}
use Rattle.rd_walk.specs.Taking.{TakesGrammarLine}
use Rattle.rd_epochs_command.proofs.lines.refuse_access.Goals as goal

-- ---- a word is no name

pub refuse_unnamed-requires : goal.refuse_unnamed-requires
refuse_unnamed-requires c = record { unnamed = (refused_as _ _ _ _ _ _ _ _ c.in-BadLine.is c.requires.judged).0 refl }

-- ---- it breaks a rule

pub returns-in-Cause-clause-line : goal.returns-in-Cause-clause-line
returns-in-Cause-clause-line c = λ bytes number written steps say.
    let judged = refused_as _ _ _ _ _ _ _ _ c.in-Cause.is c.requires.judged in
    let same = c.refuse.ensures.same in
    let new = c.refuse.new.walker in
    let item = access_call c.args.words.thread.now c.args.words.variable.now c.args.words.write in
    subst (TakesGrammarLine memory_says WatchLeads (λ _ _. first_texts) (λ _ _. epochs_bound) number bytes c.args.walker.now new written written steps steps) (sym c.refuse.ensures.refused)
    (line_of_one memory_says WatchLeads (λ _ _. first_texts) (λ _ _. epochs_bound) number bytes item c.args.walker.now new written written steps steps _
    (λ kinds before stands either. says_call bytes c.args.words say judged.0 before (c.requires.declared kinds before stands))
    (item_refused WatchLeads (λ _ _. first_texts) (λ _ _. epochs_bound) number item c.args.walker.now new written steps c.in-Cause.cause c.refuse.ensures.cause judged.1.0 same.0 same.1))
