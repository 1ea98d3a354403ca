-- What a check of no lines keeps and writes: the laws that it has as an analysis.
use Rattle.std.specs.Prelude.{◌≡◌, ℕ, List, [], length}
use Rattle.std.proofs.Common.{refl, sym, ap, subst, arith, true≢false}
use Rattle.std.proofs.lemmas.Option.{none-some}
use Rattle.rd_order.specs.EventLists.{WellFormedWith, forks, joins}
use Rattle.rd_hb.specs.Knows.{KnownCount}
use Rattle.rd_hb.specs.Tracker.{TrackerStandsFor, Tracking, handed_by}
use Rattle.rd_order.specs.Order.{GivesBack, Hold, exclusive, shared}
use Rattle.rd_rules.specs.Events.{events_of, roots_of}
use Rattle.rd_ecl.specs.Kinds.{Kind, kinds_of}
use Rattle.rd_rules.specs.laws.NoLines.{told_none}
use Rattle.rd_report.specs.Texts.{naming}
use Rattle.rd_check_command.specs.Checking.{CheckBegins, CheckLeads, IsToldAmong, Tracks}
use Rattle.rd_check_command.specs.Checked.{race_texts, races_before, races_of, texts_before}
use Rattle.rd_check_command.specs.declared.checking.Check.{Check}

-- a tracker of no event
abbrev pub none_tracked : Tracking
none_tracked = record { threads = []; locks = record { releases = []; unshares = [] } }

-- no lock hands anything on
none_handed : (kinds : List Kind) (hold : Hold) (u : ℕ)
    → KnownCount (events_of kinds []) (GivesBack (events_of kinds []) hold) u (handed_by none_tracked.locks hold u)
none_handed kinds (exclusive lock) u = refl
none_handed kinds (shared lock) u = refl

stands_none : (kinds : List Kind) → TrackerStandsFor none_tracked (roots_of []) (events_of kinds [])
unfolding forks joins
stands_none kinds = record {
  known = λ t. (λ below. absurd (omega arith), λ known. ((told_none kinds).told.known t).0 known);
  clocks = λ t u. refl;
  joined = λ t. (λ h. absurd (true≢false (sym h)), λ some. absurd (omega arith));
  locks = none_handed kinds;
  releases = λ lock m gives. none-some gives.0 gives.1;
}

pub formed_none : (kinds : List Kind) → WellFormedWith kinds (roots_of []) []
formed_none kinds = record { formed = (told_none kinds).told.formed; fit = λ k d inside. absurd (omega (arith, inside)) }

pub tracks_none : (kinds : List Kind) (tracker : Tracking) → tracker ≡ none_tracked → Tracks kinds tracker []
tracks_none kinds tracker none = record {
  told = told_none kinds;
  stands = subst (λ t. TrackerStandsFor t (roots_of []) (events_of kinds [])) (sym none) (stands_none kinds);
  count = ap (λ t. length t.threads) none;
}

pub checks_none : (kinds : List Kind) (start : Check) → CheckBegins kinds start → CheckLeads kinds start [] start
unfolding races_of races_before
checks_none kinds start begins = record {
  kinds_are = begins.kinds_are;
  checks = record {
    starts = begins.new;
    form = refl;
    spec = refl;
    formulas = begins.new.formulas;
    tracks = tracks_none (kinds_of start.spec.now) start.tracker begins.new.no_event;
    detects = begins.new.no_call (roots_of []) (formed_none (kinds_of start.spec.now));
    covers = begins.new.no_cover;
    races = begins.new.no_race;
    told = subst (IsToldAmong start.form start.spec.now (naming []) [] [] start.told) (sym begins.new.none_told) tt;
  };
}

pub no_text : (start : Check) → race_texts start.form start.spec.now [] ≡ []
unfolding race_texts texts_before
no_text start = refl
