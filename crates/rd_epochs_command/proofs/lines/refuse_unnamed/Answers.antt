use Rattle.std.proofs.Common.{subst, sym}
use Rattle.rd_epochs_command.proofs.ItemLemmas.{line_bad}
use Rattle.rd_epochs_command.proofs.SayingLemmas.{says_nothing}
use Rattle.rd_epochs_command.specs.Firsts.{epochs_bound, first_texts}
use Rattle.rd_epochs_command.specs.Watching.{WatchLeads}
use Rattle.rd_memory.specs.MemoryTraces.{memory_says}
use Rattle.rd_walk.specs.Taking.{TakesGrammarLine}
use Rattle.rd_wf.specs.Roster.{RosterStandsFor}
use Rattle.rd_epochs_command.proofs.lines.refuse_unnamed.Goals as goal

pub returns-clause-line : goal.returns-clause-line
returns-clause-line c = λ bytes number written steps say.
    let same = c.refuse.ensures.same in
    subst (TakesGrammarLine memory_says WatchLeads (λ _ _. first_texts) (λ _ _. epochs_bound) number bytes c.args.walker.now c.refuse.new.walker written written steps steps)
    (sym c.refuse.ensures.refused)
    (line_bad memory_says WatchLeads (λ _ _. first_texts) (λ _ _. epochs_bound) number bytes c.args.walker.now c.refuse.new.walker written steps
    (says_nothing bytes c.args.words say c.requires.unnamed) c.refuse.ensures.cause
    (λ kinds before stands. subst (λ roster. RosterStandsFor kinds roster before) (sym same.0) stands) same.1)
