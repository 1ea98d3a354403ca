-- What a course holds of one line more.
use Rattle.std.proofs.Common.{◌≡◌, ◌≤◌, List, [], ◌∷◌, ◌++◌, length, Option, Some, None, Result, Ok, refl, sym, ◌∙◌, ap, subst}
use Rattle.std.specs.Prelude.{IfOk, OnOk, option_to_list}
use Rattle.std.specs.List.{cons_option}
use Rattle.rd_base.specs.Limits.{AreUsable}
use Rattle.rd_base.specs.declared.limits.Limits.{Limits}
use Rattle.rd_ecl.specs.Kinds.{Kind}
use Rattle.rd_event.specs.declared.events.Event.{Event as Numbered}
use Rattle.rd_event.specs.declared.items.Line.{Line}
use Rattle.rd_event.specs.declared.items.Line.TheVariants.{Skip, Header, Thread, Object, Event}
use Rattle.rd_rules.specs.Events.{event_of}
use Rattle.rd_rules.specs.MayFollow.{MayFollow, accepted_of, threads_of}
use Rattle.rd_wf.specs.Roster.{RosterStandsFor}
use Rattle.rd_rules.specs.declared.causes.Accepted.{Accepted}
use Rattle.rd_wf.specs.declared.roster.Roster.{Roster}
use Rattle.rd_rules.proofs.EventsLemmas.{events_more, told_more}
use Rattle.rd_linear_trials.specs.Courses.{HasEvents, event_in}

-- what is told of a success, where there is one
pub on_ok : {A E : Type 0} {P : Type 0} (result : Result A E) (x : A) → result ≡ Ok x → OnOk result P → P
on_ok {P = P} result x is holds = subst (λ r. OnOk r P) is holds

pub if_ok : {A E : Type 0} (P : A → Type 0) (result : Result A E) (x : A) → result ≡ Ok x → IfOk result P → P x
if_ok P result x is holds = subst (λ r. IfOk r P) is holds

-- an accepted line is its event in numbers, where it has one
event_told : (kinds : List Kind) (before : List Line) (line : Line) → event_in (accepted_of kinds before line) ≡ event_of kinds before line
unfolding accepted_of
event_told kinds before Skip = refl
event_told kinds before (Header version) = refl
event_told kinds before (Thread name) = refl
event_told kinds before (Object name kind) = refl
event_told kinds before (Event event) = refl

one_more : (events : List Numbered) (o : Option Numbered) → events ++ cons_option o [] ≡ events ++ option_to_list o
one_more events None = refl
one_more events (Some event) = refl

pub course_more : (old new : Roster) (events : List Numbered) (course : HasEvents old events) (limits : Limits) (line : Line) (accepted : Accepted) → AreUsable limits
    → MayFollow course.kinds limits course.lines line → length (threads_of (course.lines ++ line ∷ [])) ≤ 4294967295 → accepted ≡ accepted_of course.kinds course.lines line
    → RosterStandsFor course.kinds new (course.lines ++ line ∷ []) → HasEvents new (events ++ option_to_list (event_in accepted))
course_more old new events course limits line accepted usable follows few is stands = record {
  kinds = course.kinds;
  lines = course.lines ++ line ∷ [];
  stands = stands;
  told = told_more course.kinds limits course.lines line usable follows few course.told;
  events_are =
      sym (one_more events (event_in accepted))
      ∙ (ap (λ o. events ++ cons_option o []) (ap event_in is ∙ event_told course.kinds course.lines line)
      ∙ (ap (λ es. es ++ cons_option (event_of course.kinds course.lines line) []) course.events_are ∙ sym (events_more course.kinds course.lines line)));
}
