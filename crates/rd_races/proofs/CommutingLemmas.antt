-- Which calls commute.
use Rattle.std.proofs.Common.{◌≡◌, List, sym, ap, ◌∙◌}
use Rattle.rd_ecl.proofs.CommuteLemmas.{symmetric}
use Rattle.rd_ecl.specs.Specified.{SpecifiedKind, commutes, kind_at}
use Rattle.rd_event.specs.declared.events.Call.{Call as CallOf}
use Rattle.rd_races.specs.Commuting.{Commute, calls_commute}

-- calls of one kind commute both ways
pub commute_back : (kinds : List SpecifiedKind) (a b : CallOf) → a.kind ≡ b.kind → Commute kinds a b → Commute kinds b a
unfolding calls_commute
commute_back kinds a b alike holds =
    symmetric (kind_at kinds b.kind) b.method a.method b.slots a.slots ∙ ap (λ number. commutes (kind_at kinds number) a.method a.slots b.method b.slots) (sym alike) ∙ holds
