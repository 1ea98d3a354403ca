-- What is kept and written of no lines.
use Rattle.std.specs.Prelude.{◌≡◌, List, []}
use Rattle.std.proofs.Common.{length, refl, ap, sym, ◌∙◌, arith}
use Rattle.std.proofs.lemmas.Option.{none-some}
use Rattle.rd_check_command.specs.laws.CheckLaws.{formed_none, tracks_none}
use Rattle.rd_ecl.specs.Kinds.{Kind}
use Rattle.rd_epochs_command.specs.Firsts.{first_texts, firsts_before, firsts_of, first_texts_before}
use Rattle.rd_epochs_command.specs.Watching.{WatchBegins, WatchLeads, memory_kinds}
use Rattle.rd_hb.specs.Tracker.{Tracking}
use Rattle.rd_rules.specs.Events.{roots_of}
use Rattle.rd_epochs_command.specs.declared.watching.FirstRaces.{FirstRaces}

pub nothing_told : first_texts [] ≡ []
unfolding first_texts first_texts_before
nothing_told = refl

pub watches_none : (kinds : List Kind) (start : FirstRaces) → WatchBegins kinds start → WatchLeads kinds start [] start
unfolding firsts_of firsts_before
watches_none kinds start begins =
    let tracks = tracks_none memory_kinds start.tracker begins.new.no_event in record {
      kinds_are = begins.kinds_are;
      starts = begins.new;
      watches = record {
        tracks = tracks;
        holds = begins.new.stands (roots_of []) (formed_none memory_kinds);
        declared = omega arith;
        firsts = begins.new.no_race;
        lessons = λ thread line at k e l at_k taught is. absurd (none-some e at_k);
        each = ap length begins.new.no_lesson ∙ sym (ap (λ (t : Tracking). length t.threads) begins.new.no_event);
      };
    }
