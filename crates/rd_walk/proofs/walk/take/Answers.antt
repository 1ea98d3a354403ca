use Rattle.std.proofs.Common.{◌≡◌, sym, inr}
use Rattle.rd_walk.specs.Analysis.{IsNextEntry}
use Rattle.rd_walk.specs.Walk.{items}
use Rattle.rd_walk.proofs.walk.take.Goals as goal

pub accept-requires-in-Ok : goal.accept-requires-in-Ok
accept-requires-in-Ok g c =
    let (kinds, start, before, stands, leads, behind) = c.requires.stands in
    let okay = c.in-Ok.ensures.ok kinds (items before) stands in
    let next : IsNextEntry kinds c.accept.new.self before c.args.number c.args.walker.now.line c.in-Ok.accepted = record {
      limits = c.args.walker.now.limits;
      usable = c.requires.usable;
      follows = c.in-Ok.ensures.follows kinds (items before) stands;
      numbers = okay.1;
      stands = okay.2;
      few = c.in-Ok.ensures.few kinds (items before) stands;
      rising = behind;
    } in
    (kinds, start, before, c.args.walker.now.line, leads, next)

pub returns-in_default-clause-taken : goal.returns-in_default-clause-taken
returns-in_default-clause-taken g c = λ taken kinds start before stands leads behind.
    let okay = c.in-Ok.ensures.ok kinds (items before) stands in
    let next : IsNextEntry kinds c.accept.new.self before c.args.number c.args.walker.now.line c.in-Ok.accepted = record {
      limits = c.args.walker.now.limits;
      usable = c.requires.usable;
      follows = c.in-Ok.ensures.follows kinds (items before) stands;
      numbers = okay.1;
      stands = okay.2;
      few = c.in-Ok.ensures.few kinds (items before) stands;
      rising = behind;
    } in (
      okay.0,
      record {
        stands = okay.2;
        leads = c.in_default.ensures.leads kinds start before c.args.walker.now.line leads next c.requires.asks;
        written = c.in_default.ensures.written kinds start before c.args.walker.now.line leads next;
        cost = c.in_default.ensures.cost kinds start before c.args.walker.now.line leads next;
      },
    )

pub returns-in-Err-clause-halted : goal.returns-in-Err-clause-halted
returns-in-Err-clause-halted g c = λ kinds start before stands leads behind.
    let okay = c.in-Ok.ensures.ok kinds (items before) stands in
    let next : IsNextEntry kinds c.accept.new.self before c.args.number c.args.walker.now.line c.in-Ok.accepted = record {
      limits = c.args.walker.now.limits;
      usable = c.requires.usable;
      follows = c.in-Ok.ensures.follows kinds (items before) stands;
      numbers = okay.1;
      stands = okay.2;
      few = c.in-Ok.ensures.few kinds (items before) stands;
      rising = behind;
    } in
    inr (
      okay.0,
      record {
        written = c.in-Err.ensures.halted kinds start before c.args.walker.now.line leads next;
        cost = c.in-Err.ensures.cost kinds start before c.args.walker.now.line leads next;
      },
    )

pub returns-in-Err-clause-memory : goal.returns-in-Err-clause-memory
returns-in-Err-clause-memory g c = λ e kinds before stands. c.in-Ok.ensures.follows kinds before stands

pub returns-in-Err-Cause-clause-refused : goal.returns-in-Err-Cause-clause-refused
returns-in-Err-Cause-clause-refused g c = λ refused cause told kinds before stands.
    let same : _ ≡ cause = cc in
    let refusal = c.in-Err-Cause.ensures.refused kinds (items before) stands c.in-Err-Cause.cause c.in-Err-Cause.field-0-is in (
      c.in-Err-Cause.cause,
      sym same,
      refusal.0,
      c.in-Err-Cause.ensures.err kinds (items before) stands,
    )

pub returns-in-Err-NoMemory-clause-memory : goal.returns-in-Err-NoMemory-clause-memory
returns-in-Err-NoMemory-clause-memory g c = λ e kinds before stands. (c.in-Err-NoMemory.ensures.memory c.in-Err-NoMemory.field-0-is kinds before stands).0
