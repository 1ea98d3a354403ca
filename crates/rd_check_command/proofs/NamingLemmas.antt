-- The text of a race stays as it is when lines come behind, since its calls have names then.
use Rattle.std.proofs.Common.{◌≡◌, ℕ, suc, ◌+◌, ◌<◌, ◌≤◌, ◌==◌, Bool, cond, List, [], ◌∷◌, ◌++◌, length, Option, Some, None, refl, sym, ap, subst, ◌∙◌, arith}
use Rattle.std.specs.Prelude.{codes, decimal, slice_get, unwrap_or}
use Rattle.std.specs.List.{cons_option}
use Rattle.std.proofs.lemmas.Bool.Decides.{Decides-and, Decides-eqb}
use Rattle.std.proofs.lemmas.List.Elements.{filter_map-append}
use Rattle.std.proofs.lemmas.Option.{none-some, same_Some, slice_get_within, unwrap_or-slice_get}
use Rattle.rd_clock.specs.Clock.{component}
use Rattle.rd_detect.specs.Detect.{IsWitness}
use Rattle.rd_detect.proofs.AskLemmas.{IsOfKind, call_fits, of_kind}
use Rattle.rd_ecl.specs.Kinds.{kinds_of}
use Rattle.rd_ecl.specs.Specified.{SpecifiedKind, kind_at}
use Rattle.rd_print.specs.Printed.{name_at}
use Rattle.rd_event.specs.Items.{call_text}
use Rattle.rd_event.specs.declared.events.Call.{Call as CallOf}
use Rattle.rd_event.specs.declared.events.Event.{Event}
use Rattle.rd_event.specs.declared.events.Event.TheVariants.{Fork, Join, Acquire, Release, Share, Unshare, Call}
use Rattle.rd_event.specs.declared.items.Line.{Line}
use Rattle.rd_hb.specs.ClockTests.{clock_at}
use Rattle.rd_hb.proofs.ClockLemmas.{clock_longer, clock_same}
use Rattle.rd_hb.proofs.ClockTestLemmas.{clock_at_is}
use Rattle.rd_order.specs.EventLists.{calls, is_call_on}
use Rattle.rd_order.specs.Order.{call_in, thread_of}
use Rattle.rd_order.proofs.CountsLemmas.{counts_none}
use Rattle.rd_order.proofs.EventListLemmas.{counted_once, known_later, may_follow_at}
use Rattle.rd_order.proofs.OrderLemmas.{at_front}
use Rattle.rd_json.specs.Forms.{race_in, told_in}
use Rattle.rd_json.specs.Json.{failed_words, race_json, string_json, told_json}
use Rattle.rd_json.specs.declared.forms.Form.{Form}
use Rattle.rd_json.specs.declared.forms.Form.TheVariants.{Text, Json, EndingOnly}
use Rattle.rd_report.specs.Races.{Told, clock_text, counts_from, failed_line, race_text, told_by, told_text, with_commas}
use Rattle.rd_report.specs.Texts.{Naming, name_of, naming}
use Rattle.rd_store.specs.declared.Witness.{Witness}
use Rattle.rd_rules.specs.Events.{AreTold, events_of, roots_of}
use Rattle.rd_rules.specs.MayFollow.{begun_name, declared_name, object_kinds, objects_of, threads_of}
use Rattle.rd_rules.proofs.EventsLemmas.{kinds_placed}
use Rattle.rd_check_command.specs.Checking.{AreNamed, IsKnownOf, IsToldAmong, IsToldAt, IsToldOf}
use Rattle.rd_check_command.specs.Checked.{calls_text, number_at, race_at, told_at}

-- ---- names

name_kept : (xs ys : List (List ℕ)) (t : ℕ) → t < length xs → name_of (xs ++ ys) t ≡ name_of xs t
name_kept xs ys t inside =
    sym (unwrap_or-slice_get (xs ++ ys) t []) ∙ ap (λ o. unwrap_or o []) (at_front xs ys t inside) ∙ unwrap_or-slice_get xs t []

-- ---- clocks

nothing_counted : (n : ℕ) (names : List (List ℕ)) (count : ℕ → ℕ) → ((t : ℕ) → n ≤ t → count t ≡ 0) → counts_from n names count ≡ []
nothing_counted n [] count none = refl
nothing_counted n (name ∷ names) count none =
    let here : (count n == 0) ≡ Bool.true = ap (λ c. c == 0) (none n (omega arith)) in
    ap (λ b. cond b (counts_from (suc n) names count) ((name ++ codes ":" ++ decimal (count n)) ∷ counts_from (suc n) names count)) here ∙ nothing_counted (suc n) names count (λ t past. none t (omega arith))

counts_kept : (n : ℕ) (xs ys : List (List ℕ)) (count : ℕ → ℕ) → ((t : ℕ) → n + length xs ≤ t → count t ≡ 0) → counts_from n (xs ++ ys) count ≡ counts_from n xs count
counts_kept n [] ys count none = nothing_counted n ys count (λ t past. none t (omega arith))
counts_kept n (x ∷ xs) ys count none =
    let rest = counts_kept (suc n) xs ys count (λ t past. none t (omega arith)) in
    λ i. cond (count n == 0) (rest i) ((x ++ codes ":" ++ decimal (count n)) ∷ rest i)

clock_kept : (xs ys : List (List ℕ)) (count : ℕ → ℕ) → ((t : ℕ) → length xs ≤ t → count t ≡ 0) → clock_text (xs ++ ys) count ≡ clock_text xs count
clock_kept xs ys count none = ap with_commas (counts_kept 0 xs ys count (λ t past. none t (omega arith)))

-- events that come behind leave a clock
clock_front : (es fs : List Event) (j : ℕ) → j < length es → clock_at (es ++ fs) j ≡ clock_at es j
clock_front es fs j inside = λ i t. (clock_same (es ++ fs) j t (clock_at (es ++ fs) j t) (clock_at es j t) (clock_at_is (es ++ fs) j t) ((clock_longer es fs j t (clock_at es j t) inside).0 (clock_at_is es j t))) i

-- ---- the calls of accepted lines have names

module _ (kinds : List SpecifiedKind) (lines : List Line) (told : AreTold (kinds_of kinds) lines) where
  abbrev es : List Event
  es = events_of (kinds_of kinds) lines

  -- the thread of an event has a name
  thread_named : (k : ℕ) (e : Event) → slice_get es k ≡ Some e → thread_of e < length (threads_of lines)
  thread_named k e at =
      (told.told.known (thread_of e)).0 (known_later (roots_of lines) es k (thread_of e) (may_follow_at (roots_of lines) es k e told.told.formed at).known_actor)

  -- a clock counts no thread without a name
  clock_named : (j t : ℕ) → length (threads_of lines) ≤ t → clock_at es j t ≡ 0
  clock_named j t past =
      clock_same es j t (clock_at es j t) 0 (clock_at_is es j t)
      (counts_none _ (length es) (λ k below is. let named = thread_named k is.0.0 is.0.1 in omega (arith, past, named, is.0.2)))

  pub all_named : AreNamed kinds (naming lines) es
  unfolding calls
  all_named i call at = record {
    thread = thread_named i (Call call) at;
    object = omega (arith, kinds_placed (kinds_of kinds) lines, slice_get_within (object_kinds (kinds_of kinds) lines) call.object call.kind (told.told.one_kind call.object call.kind counted));
    kind = fits.0;
    method = fits.1.method;
  }
    where
      fits : (call.kind < length kinds) × IsOfKind (kind_at kinds call.kind) call
      fits = of_kind kinds call (call_fits (kinds_of kinds) es i call told.fit at)

      counted : 0 < calls es call.object call.kind
      counted = counted_once (λ e. is_call_on (call_in e) call.object call.kind) es i (Call call) at
          ((Decides-and _ _ (Decides-eqb call.object call.object) (Decides-eqb call.kind call.kind)).1 (refl, refl))

-- ---- what is told of a call

-- what is kept of a call tells what the list has at its place
pub witness_told : (numbers : List ℕ) (es : List Event) (witness : Witness) → IsWitness numbers es witness
    → told_by witness ≡ told_at numbers es witness.place witness.call
witness_told numbers es witness is =
    let line : witness.line ≡ number_at numbers witness.place = sym (ap (λ o. unwrap_or o 0) is.line) in
    λ i. record {
      line = line i;
      call = witness.call;
      clock = λ t. clock_same es witness.place t (component witness.stamp.clock t) (clock_at es witness.place t) (is.stamp.clock t) (clock_at_is es witness.place t) i;
    }

module _ (form : Form) (kinds : List SpecifiedKind) (names : Naming) (numbers : List ℕ) (es : List Event) (witness : Witness)
    (is : IsWitness numbers es witness) (told : List ℕ) where
  -- what was told of a witness was told of a call among the events
  pub of_witness : (place : Option ℕ) → IsToldOf form kinds names witness told place → IsToldAmong form kinds names numbers es told place
  of_witness None of = tt
  of_witness (Some place) of =
      let at = sym of.0 in
      subst (IsToldAt form kinds names numbers es told) at (record {
        call = witness.call;
        at = is.call;
        told_is = of.1 ∙ ap (told_in form kinds names) (witness_told numbers es witness is);
      })

  -- where it was told of the call at the place of a witness, it is what a race tells of the witness
  pub known_witness : (place : Option ℕ) → IsToldAmong form kinds names numbers es told place → IsKnownOf form kinds names witness told place
  known_witness None among same = absurd (none-some witness.place same)
  known_witness (Some place) among same =
      let there : IsToldAt form kinds names numbers es told witness.place = subst (IsToldAt form kinds names numbers es told) (same_Some place witness.place same) among in
      let one : Some (Call there.call) ≡ Some (Call witness.call) = sym there.at ∙ is.call in
      let call : there.call ≡ witness.call = cc in
      there.told_is ∙ ap (λ call. told_in form kinds names (told_at numbers es witness.place call)) call
      ∙ ap (told_in form kinds names) (sym (witness_told numbers es witness is))

-- ---- lines behind

-- further names leave what is told of a call
told_longer : (kinds : List SpecifiedKind) (threads ts objects os : List (List ℕ)) (told : Told) → told.call.thread < length threads
    → told.call.object < length objects → ((t : ℕ) → length threads ≤ t → told.clock t ≡ 0)
    → told_text kinds (record { threads = threads ++ ts; objects = objects ++ os }) told ≡ told_text kinds (record { threads = threads; objects = objects }) told
unfolding told_text
told_longer kinds threads ts objects os told thread object none =
    let of_thread = name_kept threads ts told.call.thread thread in
    let of_object = name_kept objects os told.call.object object in
    let of_clock = clock_kept threads ts told.clock none in
    λ i. decimal told.line ++ codes " "
    ++ call_text (of_thread i) (of_object i) (name_at (kind_at kinds told.call.kind).methods told.call.method) told.call.slots
    ++ codes " clock " ++ of_clock i ++ codes "\n"

-- so it is with JSON
json_longer : (kinds : List SpecifiedKind) (threads ts objects os : List (List ℕ)) (told : Told) → told.call.thread < length threads
    → told.call.object < length objects → ((t : ℕ) → length threads ≤ t → told.clock t ≡ 0)
    → told_json kinds (record { threads = threads ++ ts; objects = objects ++ os }) told ≡ told_json kinds (record { threads = threads; objects = objects }) told
unfolding told_json
json_longer kinds threads ts objects os told thread object none =
    let of_thread = name_kept threads ts told.call.thread thread in
    let of_object = name_kept objects os told.call.object object in
    let of_clock = clock_kept threads ts told.clock none in
    λ i. codes "{\"call\":"
    ++ string_json (call_text (of_thread i) (of_object i) (name_at (kind_at kinds told.call.kind).methods told.call.method) told.call.slots)
    ++ codes ",\"clock\":" ++ string_json (of_clock i) ++ codes ",\"line\":" ++ decimal told.line ++ codes "}"

-- two texts of calls are the same where they are for the calls at these places
same_calls : (F G : CallOf → CallOf → List ℕ) (later earlier : Option Event)
    → ((b a : CallOf) → later ≡ Some (Call b) → earlier ≡ Some (Call a) → F b a ≡ G b a) → calls_text F later earlier ≡ calls_text G later earlier
same_calls F G None earlier same = refl
same_calls F G (Some (Fork thread child)) earlier same = refl
same_calls F G (Some (Join thread child)) earlier same = refl
same_calls F G (Some (Acquire thread lock)) earlier same = refl
same_calls F G (Some (Release thread lock)) earlier same = refl
same_calls F G (Some (Share thread lock)) earlier same = refl
same_calls F G (Some (Unshare thread lock)) earlier same = refl
same_calls F G (Some (Call b)) None same = refl
same_calls F G (Some (Call b)) (Some (Fork thread child)) same = refl
same_calls F G (Some (Call b)) (Some (Join thread child)) same = refl
same_calls F G (Some (Call b)) (Some (Acquire thread lock)) same = refl
same_calls F G (Some (Call b)) (Some (Release thread lock)) same = refl
same_calls F G (Some (Call b)) (Some (Share thread lock)) same = refl
same_calls F G (Some (Call b)) (Some (Unshare thread lock)) same = refl
same_calls F G (Some (Call b)) (Some (Call a)) same = same b a refl refl

module _ (kinds : List SpecifiedKind) (lines : List Line) (told : AreTold (kinds_of kinds) lines) (line : Line) (numbers more : List ℕ) (fs : List Event)
    (counted : length numbers ≡ length (events_of (kinds_of kinds) lines)) where
  abbrev old : List Event
  old = events_of (kinds_of kinds) lines

  more_names : naming (lines ++ line ∷ []) ≡ record { threads = threads_of lines ++ cons_option (begun_name line) []; objects = objects_of lines ++ cons_option (declared_name line) [] }
  more_names = λ i. record { threads = filter_map-append begun_name lines (line ∷ []) i; objects = filter_map-append declared_name lines (line ∷ []) i }

  told_same : (j : ℕ) (call : CallOf) → j < length old → told_at (numbers ++ more) (old ++ fs) j call ≡ told_at numbers old j call
  told_same j call inside =
      let line_same : number_at (numbers ++ more) j ≡ number_at numbers j = ap (λ o. unwrap_or o 0) (at_front numbers more j (omega (arith, inside, counted))) in
      let clock_same = clock_front old fs j inside in
      λ i. record { line = line_same i; call = call; clock = clock_same i }

  text_same : (j : ℕ) (call : CallOf) → slice_get old j ≡ Some (Call call)
      → told_text kinds (naming (lines ++ line ∷ [])) (told_at (numbers ++ more) (old ++ fs) j call) ≡ told_text kinds (naming lines) (told_at numbers old j call)
  text_same j call at =
      let named = all_named kinds lines told j call at in
      let same = told_same j call (slice_get_within old j (Call call) at) in
      (λ i. told_text kinds (more_names i) (same i))
      ∙ told_longer kinds (threads_of lines) (cons_option (begun_name line) []) (objects_of lines) (cons_option (declared_name line) []) (told_at numbers old j call)
      named.thread named.object (clock_named kinds lines told j)

  json_same : (j : ℕ) (call : CallOf) → slice_get old j ≡ Some (Call call)
      → told_json kinds (naming (lines ++ line ∷ [])) (told_at (numbers ++ more) (old ++ fs) j call) ≡ told_json kinds (naming lines) (told_at numbers old j call)
  json_same j call at =
      let named = all_named kinds lines told j call at in
      let same = told_same j call (slice_get_within old j (Call call) at) in
      (λ i. told_json kinds (more_names i) (same i))
      ∙ json_longer kinds (threads_of lines) (cons_option (begun_name line) []) (objects_of lines) (cons_option (declared_name line) []) (told_at numbers old j call)
      named.thread named.object (clock_named kinds lines told j)

  in_same : (form : Form) (j : ℕ) (call : CallOf) → slice_get old j ≡ Some (Call call)
      → told_in form kinds (naming (lines ++ line ∷ [])) (told_at (numbers ++ more) (old ++ fs) j call) ≡ told_in form kinds (naming lines) (told_at numbers old j call)
  in_same Text j call at = ap (λ text. codes "race line " ++ text) (text_same j call at)
  in_same Json j call at = json_same j call at
  in_same EndingOnly j call at = refl

  -- what was told of a call stays what a race tells of it
  pub told_among : (form : Form) (told : List ℕ) (place : Option ℕ) → IsToldAmong form kinds (naming lines) numbers old told place
      → IsToldAmong form kinds (naming (lines ++ line ∷ [])) (numbers ++ more) (old ++ fs) told place
  told_among form told None is = tt
  told_among form told (Some place) is = record {
    call = is.call;
    at = at_front old fs place (slice_get_within old place (Call is.call) is.at) ∙ is.at;
    told_is = is.told_is ∙ sym (in_same form place is.call is.at);
  }

  race_same : (form : Form) (j i : ℕ) (b a : CallOf) → slice_get old j ≡ Some (Call b) → slice_get old i ≡ Some (Call a)
      → race_in form kinds (naming (lines ++ line ∷ [])) (told_at (numbers ++ more) (old ++ fs) j b) (told_at (numbers ++ more) (old ++ fs) i a)
      ≡ race_in form kinds (naming lines) (told_at numbers old j b) (told_at numbers old i a)
  unfolding race_text race_json
  race_same Text j i b a at_j at_i =
      let later = text_same j b at_j in
      let earlier = text_same i a at_i in
      λ k. (codes "race line " ++ later k) ++ (codes "with line " ++ earlier k) ++ failed_line kinds b a
  race_same Json j i b a at_j at_i =
      let later = json_same j b at_j in
      let earlier = json_same i a at_i in
      λ k. codes "{\"earlier\":" ++ earlier k ++ codes ",\"formula\":" ++ string_json (failed_words kinds b a) ++ codes ",\"later\":" ++ later k ++ codes "}\n"
  race_same EndingOnly j i b a at_j at_i = refl

  -- what is written for two calls doesn't change
  pub race_longer : (form : Form) (j i : ℕ) → j < length old → i < length old
      → race_at form kinds (naming (lines ++ line ∷ [])) (numbers ++ more) (old ++ fs) j i ≡ race_at form kinds (naming lines) numbers old j i
  unfolding race_at
  race_longer form j i inside before =
      (λ k. calls_text (λ later earlier. race_in form kinds (naming (lines ++ line ∷ [])) (told_at (numbers ++ more) (old ++ fs) j later) (told_at (numbers ++ more) (old ++ fs) i earlier))
      (at_front old fs j inside k) (at_front old fs i before k))
      ∙ same_calls _ _ (slice_get old j) (slice_get old i) (race_same form j i)
