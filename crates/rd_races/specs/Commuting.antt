-- Which calls commute, by the formulas of a specification (after Dimitrov, Raychev, Vechev and Koskinen 2014; the formulas are this
-- project's profile).
use Rattle.std.specs.Prelude.{Bool, List}
use Rattle.rd_ecl.specs.Specified.{SpecifiedKind, commutes, kind_at}
use Rattle.rd_event.specs.declared.events.Call.{Call}
use Rattle.rd_races.specs.RaceTests.{Passing}

-- two calls of one of these kinds commute: the formula of their methods holds with the call of the method declared first on side 1,
-- and for one method with either call there
unfoldable pub calls_commute : List SpecifiedKind → Call → Call → Bool
calls_commute kinds a b = commutes (kind_at kinds a.kind) a.method a.slots b.method b.slots

abbrev pub Commute : List SpecifiedKind → Call → Call → Type 0
Commute kinds = Passing (calls_commute kinds)
