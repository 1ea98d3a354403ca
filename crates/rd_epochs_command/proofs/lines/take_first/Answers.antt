use Rattle.std.proofs.Common.{◌≡◌, ℕ, List, true, false, Result, [], ◌∷◌, ◌++◌, Ok, ap, refl, subst, sym, ◌∙◌}
use Rattle.std.specs.Prelude.{⊤, codes}
use Rattle.rd_base.specs.Names.{IsName}
use Rattle.rd_base.specs.declared.limits.Limits.{Limits}
use Rattle.rd_epochs_command.proofs.ItemLemmas.{behind_first, line_of_first, line_of_two}
use Rattle.rd_epochs_command.proofs.SayingLemmas.{says_first}
use Rattle.rd_event.specs.declared.items.Line.TheVariants.{Object}
use Rattle.rd_memory.specs.MemoryTraces.{access_call, memory_says}
use Rattle.rd_epochs_command.specs.Lines.{TakesItem}
use Rattle.rd_walk.specs.Walk.{entries_at, items}
use Rattle.rd_rules.specs.MayFollow.{is_among, objects_of}
use Rattle.rd_rules.specs.declared.causes.Accepted.{Accepted}
use Rattle.rd_rules.specs.declared.causes.BytesRefused.{BytesRefused}
use Rattle.rd_wf.proofs.BytesLemmas.{taken_named}
use Rattle.rd_wf.specs.Roster.{TakesNames}
use Rattle.rd_wf.specs.declared.roster.Roster.{Roster}
use Rattle.rd_epochs_command.specs.Firsts.{epochs_bound, first_texts}
use Rattle.rd_epochs_command.specs.Watching.{WatchLeads}
use Rattle.rd_epochs_command.proofs.lines.take_first.Goals as goal

-- the declaration of a variable was judged, by its name and that of its kind
declared_as : (name variable kind : List ℕ) → name ≡ variable → kind ≡ codes "variable" → (old new : Roster) (limits : Limits) (judged : Result Accepted BytesRefused)
    → TakesNames true ⊤ old new limits (Object name kind) judged → TakesNames true ⊤ old new limits (Object variable (codes "variable")) judged
declared_as name variable kind same is old new limits judged takes =
    subst (λ k. TakesNames true ⊤ old new limits (Object variable k) judged) is (subst (λ n. TakesNames true ⊤ old new limits (Object n kind) judged) same takes)

pub declare_new-declared-requires : goal.declare_new-declared-requires
declare_new-declared-requires g c =
    let (kinds, start, before, stands, leads, behind) = c.requires.stands in
    (kinds, items before, stands, subst (λ name. is_among (objects_of (items before)) name ≡ false) (sym c.requires.name) (c.requires.undeclared kinds (items before) stands))

pub finish-requires-clause-next : goal.finish-requires-clause-next
finish-requires-clause-next g c =
    let (kinds, start, before, stands, leads, behind) = c.requires.stands in (
      c.args.walker.now,
      Object c.args.words.variable.now (codes "variable"),
      record {
        judged = declared_as c.args.name c.args.words.variable.now c.args.kind.now c.requires.name c.requires.kind _ _ _ _ c.declare_new-declared.ensures;
        limits = refl;
        analysis = refl;
      },
      kinds,
      start,
      before,
      stands,
      leads,
      behind,
    )

-- ---- the declaration isn't accepted

pub returns-in-Ok-Refused-clause-line : goal.returns-in-Ok-Refused-clause-line
returns-in-Ok-Refused-clause-line g c = λ bytes say.
    let first = Object c.args.words.variable.now (codes "variable") in
    let second = access_call c.args.words.thread.now c.args.words.variable.now c.args.words.write in
    let old = c.args.walker.now in
    let wrote = g.S.Sink.written c.args.out.now in
    let now = g.S.Sink.written c.finish.new.out in
    let judged = declared_as c.args.name c.args.words.variable.now c.args.kind.now c.requires.name c.requires.kind _ _ _ _ c.declare_new-declared.ensures in
    line_of_first memory_says WatchLeads (λ _ _. first_texts) (λ _ _. epochs_bound) c.args.number bytes first second old c.finish.new.walker wrote now c.args.steps.now c.finish.new.steps _
    (λ kinds before stands. says_first bytes c.args.words say c.requires.named before (c.requires.undeclared kinds before stands)) (λ e. cc)
    (subst (λ t. TakesItem WatchLeads (λ _ _. first_texts) (λ _ _. epochs_bound) c.args.number first old c.finish.new.walker wrote now c.args.steps.now c.finish.new.steps (Ok t)) c.in-Ok-Refused.field-0-is
    (c.in-Ok-Refused.ensures.item old first (record { judged = judged; limits = refl; analysis = refl })))

pub returns-in-Err-clause-line : goal.returns-in-Err-clause-line
returns-in-Err-clause-line g c = λ bytes say.
    let first = Object c.args.words.variable.now (codes "variable") in
    let second = access_call c.args.words.thread.now c.args.words.variable.now c.args.words.write in
    let old = c.args.walker.now in
    let judged = declared_as c.args.name c.args.words.variable.now c.args.kind.now c.requires.name c.requires.kind _ _ _ _ c.declare_new-declared.ensures in
    line_of_first memory_says WatchLeads (λ _ _. first_texts) (λ _ _. epochs_bound) c.args.number bytes first second old c.finish.new.walker _ _ _ _ _
    (λ kinds before stands. says_first bytes c.args.words say c.requires.named before (c.requires.undeclared kinds before stands)) (λ e. cc)
    (c.in-Err.ensures.item old first (record { judged = judged; limits = refl; analysis = refl }))

-- ---- it is accepted

pub judge-judged-requires : goal.judge-judged-requires
judge-judged-requires g c =
    let first = Object c.args.words.variable.now (codes "variable") in
    let old = c.args.walker.now in
    let judged = declared_as c.args.name c.args.words.variable.now c.args.kind.now c.requires.name c.requires.kind _ _ _ _ c.declare_new-declared.ensures in
    let (kinds, start, before, stands, leads, behind) = c.requires.stands in
    let (stands_now, leads_now, behind_now) = behind_first WatchLeads (λ _ _. first_texts) (λ _ _. epochs_bound) c.args.number first old c.finish.new.walker _ _ _ _ (Ok c.in-Ok-Accepted.field-0) refl
    (ap Ok c.in-Ok-Accepted.field-0-is) (c.in-Ok-Accepted.ensures.item old first (record { judged = judged; limits = refl; analysis = refl })) kinds start before stands leads behind in
    stands_now.kind_entries ∙ leads_now.kinds_are

pub finish_access-requires-clause-next : goal.finish_access-requires-clause-next
finish_access-requires-clause-next g c =
    let first = Object c.args.words.variable.now (codes "variable") in
    let second = access_call c.args.words.thread.now c.args.words.variable.now c.args.words.write in
    let old = c.args.walker.now in
    let judged = declared_as c.args.name c.args.words.variable.now c.args.kind.now c.requires.name c.requires.kind _ _ _ _ c.declare_new-declared.ensures in
    let later = taken_named (IsName c.args.words.thread.now × IsName c.args.words.variable.now) c.requires.named _ _ _ _ _ c.judge-judged.ensures.takes in
    let (kinds, start, before, stands, leads, behind) = c.requires.stands in
    let (stands_now, leads_now, behind_now) = behind_first WatchLeads (λ _ _. first_texts) (λ _ _. epochs_bound) c.args.number first old c.finish.new.walker _ _ _ _ (Ok c.in-Ok-Accepted.field-0) refl
    (ap Ok c.in-Ok-Accepted.field-0-is) (c.in-Ok-Accepted.ensures.item old first (record { judged = judged; limits = refl; analysis = refl })) kinds start before stands leads behind in (
      c.finish.new.walker,
      second,
      record { judged = later; limits = refl; analysis = refl },
      kinds,
      start,
      before ++ entries_at c.args.number (first ∷ []),
      stands_now,
      leads_now,
      behind_now,
    )

pub returns-clause-line : goal.returns-clause-line
returns-clause-line g c = λ bytes say.
    let first = Object c.args.words.variable.now (codes "variable") in
    let second = access_call c.args.words.thread.now c.args.words.variable.now c.args.words.write in
    let old = c.args.walker.now in
    let mid = c.finish.new.walker in
    let judged = declared_as c.args.name c.args.words.variable.now c.args.kind.now c.requires.name c.requires.kind _ _ _ _ c.declare_new-declared.ensures in
    let later = taken_named (IsName c.args.words.thread.now × IsName c.args.words.variable.now) c.requires.named _ _ _ _ _ c.judge-judged.ensures.takes in
    line_of_two memory_says WatchLeads (λ _ _. first_texts) (λ _ _. epochs_bound) c.args.number bytes first second refl old mid c.finish_access.new.walker
    (g.S.Sink.written c.args.out.now) (g.S.Sink.written c.finish.new.out) (g.S.Sink.written c.finish_access.new.out) c.args.steps.now c.finish.new.steps c.finish_access.new.steps
    (Ok c.in-Ok-Accepted.field-0) c.finish_access.result
    (λ kinds before stands. says_first bytes c.args.words say c.requires.named before (c.requires.undeclared kinds before stands))
    c.finish.ensures.limits (ap Ok c.in-Ok-Accepted.field-0-is)
    (c.in-Ok-Accepted.ensures.item old first (record { judged = judged; limits = refl; analysis = refl }))
    (c.finish_access.ensures.item mid second (record { judged = later; limits = refl; analysis = refl }))
