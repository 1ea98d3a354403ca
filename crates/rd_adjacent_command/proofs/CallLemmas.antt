-- The places of calls on lines.
use Rattle.std.proofs.Common.{◌≡◌, ◌≢◌, ℕ, ◌<◌, ◌==◌, Bool, true, false, cond, List, get_or, Option, Some, None, refl, sym, ap, subst, ◌∙◌, arith, position, true≢false}
use Rattle.std.specs.Option.{option_and_then, option_map_or}
use Rattle.std.specs.Prelude.{max, min, slice_get}
use Rattle.std.proofs.lemmas.Bool.Decides.{Decides-eqb}
use Rattle.std.proofs.lemmas.List.Quantifiers.{position-Some}
use Rattle.std.proofs.lemmas.Option.{none-some, same_Some}
use Rattle.rd_adjacent.specs.Adjacent.{IsCallAt}
use Rattle.rd_adjacent_command.specs.Outcomes.{adjacent_end, call_on, event_lines, is_call_event, is_call_at, told_of, two_text}
use Rattle.rd_ecl.specs.Kinds.{Kind}
use Rattle.rd_event.specs.declared.events.Event.{Event}
use Rattle.rd_event.specs.declared.events.Event.TheVariants.{Fork, Join, Acquire, Release, Share, Unshare, Call}
use Rattle.rd_rules.specs.Events.{events_of}
use Rattle.rd_walk.specs.Output.{Outcome}
use Rattle.rd_walk.specs.Walk.{Entry, items}
use Rattle.rd_walk.specs.declared.status.Status.TheVariants.{Clean}

-- the call that was found on a line is one, and its line is that
pub record IsFoundOn (es : List Event) (lines : List ℕ) (line place : ℕ) : Type 0 where
  pub call : is_call_at es place ≡ true
  pub line_is : get_or lines place 0 ≡ line

pub found_on : (es : List Event) (lines : List ℕ) (line place : ℕ) → call_on es lines line ≡ Some place → IsFoundOn es lines line place
found_on es lines line place found = go (position (λ number. number == line) lines) refl found
  where
    by : (b : Bool) (q : ℕ) → position (λ number. number == line) lines ≡ Some q → is_call_at es q ≡ b → cond b (Some q) None ≡ Some place → IsFoundOn es lines line place
    by false q at call e = absurd (none-some place e)
    by true q at call e =
        let same : q ≡ place = same_Some q place e in
        let passes = (position-Some (λ number. number == line) lines q 0 at).1 in
        subst (IsFoundOn es lines line) same (record { call = call; line_is = (Decides-eqb (get_or lines q 0) line).0 passes })

    go : (o : Option ℕ) → position (λ number. number == line) lines ≡ o
        → option_and_then (λ p. cond (is_call_at es p) (Some p) None) o ≡ Some place → IsFoundOn es lines line place
    go None at e = absurd (none-some place e)
    go (Some q) at e = by (is_call_at es q) q at refl e

-- calls on two lines have two places
pub places_apart : (es : List Event) (lines : List ℕ) (first second i j : ℕ) → first < second → call_on es lines first ≡ Some i → call_on es lines second ≡ Some j → i ≢ j
places_apart es lines first second i j order one other same =
    let here = (found_on es lines first i one).line_is in
    let there = (found_on es lines second j other).line_is in
    omega (arith, order, sym here ∙ (ap (λ p. get_or lines p 0) same ∙ there))

-- what is told of both
pub end_two : (kinds : List Kind) (entries : List Entry) (es : List Event) (lines : List ℕ) (first second i j : ℕ) → es ≡ events_of kinds (items entries)
    → lines ≡ event_lines entries → call_on es lines first ≡ Some i → call_on es lines second ≡ Some j
    → ◌≡◌ {A = Outcome} (adjacent_end kinds entries first second) (record { text = two_text es (items entries) lines (min i j) (max i j); status = Clean })
end_two kinds entries es lines first second i j is_es is_lines one other =
    (λ k. told_of (sym is_es k) (items entries) (sym is_lines k) first second (call_on (sym is_es k) (sym is_lines k) first) (call_on (sym is_es k) (sym is_lines k) second))
    ∙ (λ k. told_of es (items entries) lines first second (one k) (other k))

-- what is told to be a call is one
pub call_there : (es : List Event) (place : ℕ) → is_call_at es place ≡ true → IsCallAt es place
call_there es place is = go (slice_get es place) refl is
  where
    go : (o : Option Event) → slice_get es place ≡ o → option_map_or is_call_event o false ≡ true → IsCallAt es place
    go None at e = absurd (true≢false (sym e))
    go (Some (Fork thread child)) at e = absurd (true≢false (sym e))
    go (Some (Join thread child)) at e = absurd (true≢false (sym e))
    go (Some (Acquire thread lock)) at e = absurd (true≢false (sym e))
    go (Some (Release thread lock)) at e = absurd (true≢false (sym e))
    go (Some (Share thread lock)) at e = absurd (true≢false (sym e))
    go (Some (Unshare thread lock)) at e = absurd (true≢false (sym e))
    go (Some (Call call)) at e = (call, at)
