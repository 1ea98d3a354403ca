-- What is written of one accepted line more.
use Rattle.std.proofs.Common.{◌≡◌, ℕ, ◌+◌, ◌<◌, false, cond, List, [], ◌∷◌, ◌++◌, length, Option, Some, None, is_some, refl, sym, ap, subst, ◌∙◌, arith}
use Rattle.std.specs.Prelude.{slice_get, unwrap_or}
use Rattle.std.specs.List.{cons_option}
use Rattle.std.proofs.lemmas.List.{append_assoc, append-nil}
use Rattle.std.proofs.lemmas.List.Elements.{filter_map-append}
use Rattle.std.proofs.lemmas.Option.{unwrap_or-slice_get}
use Rattle.rd_base.specs.Bytes.{IsFront}
use Rattle.rd_check_command.proofs.NamingLemmas.{all_named}
use Rattle.rd_check_command.proofs.ReportLemmas.{event_numbers_more, events_all, numbers_counted, quiet_events, quiet_numbers}
use Rattle.rd_check_command.specs.Checked.{event_numbers, number_at, text_with}
use Rattle.rd_epoch.specs.Accesses.{variable_kinds}
use Rattle.rd_epochs_command.proofs.FirstLemmas.{firsts_kept, texts_kept}
use Rattle.rd_epochs_command.specs.Firsts.{access_line, accesses, first_at, first_line, first_text, first_texts, firsts_before, firsts_of, first_texts_before}
use Rattle.rd_epochs_command.specs.Watching.{memory_kinds}
use Rattle.rd_event.specs.declared.events.Event.TheVariants.{Fork, Join, Acquire, Release, Share, Unshare, Call}
use Rattle.rd_event.specs.declared.events.Event.{Event}
use Rattle.rd_event.specs.declared.items.Line.TheVariants as item
use Rattle.rd_event.specs.declared.items.Line.{Line}
use Rattle.rd_event.specs.declared.items.LineEvent.{LineEvent}
use Rattle.rd_order.proofs.OrderLemmas.{at_front, length_more}
use Rattle.rd_report.specs.Texts.{name_of}
use Rattle.rd_rules.proofs.EventsLemmas.{told_from}
use Rattle.rd_rules.specs.Events.{AreAcceptedFrom, AreTold, IsAccepted, events_of}
use Rattle.rd_rules.specs.MayFollow.{declared_name, is_event, numbered_event, objects_of}
use Rattle.rd_walk.proofs.WalkLemmas.{items_more}
use Rattle.rd_walk.specs.Walk.{Entry, items}

name_kept : (xs ys : List (List ℕ)) (v : ℕ) → v < length xs → name_of (xs ++ ys) v ≡ name_of xs v
name_kept xs ys v inside =
    sym (unwrap_or-slice_get (xs ++ ys) v []) ∙ ap (λ o. unwrap_or o []) (at_front xs ys v inside) ∙ unwrap_or-slice_get xs v []

number_kept : (xs ys : List ℕ) (k : ℕ) → k < length xs → number_at (xs ++ ys) k ≡ number_at xs k
number_kept xs ys k inside = ap (λ o. unwrap_or o 0) (at_front xs ys k inside)

pub objects_more : (lines : List Line) (line : Line) → objects_of (lines ++ line ∷ []) ≡ objects_of lines ++ cons_option (declared_name line) []
objects_more lines line = filter_map-append declared_name lines (line ∷ [])

-- further lines leave the text of a first race
module _ (lines : List Line) (told : AreTold memory_kinds lines) (numbers : List ℕ) (counted : length numbers ≡ length (events_of memory_kinds lines))
    (names : List (List ℕ)) (ns : List ℕ) (fs : List Event) where
  abbrev es : List Event
  es = events_of memory_kinds lines

  line_kept : (later earlier : ℕ) (n : ℕ) (e : Option Event) → slice_get es n ≡ e → access_line (objects_of lines ++ names) later earlier e ≡ access_line (objects_of lines) later earlier e
  line_kept later earlier n (Some (Call call)) at =
      ap (λ name. first_line name later earlier) (name_kept (objects_of lines) names call.object (all_named variable_kinds lines told n call at).object)
  line_kept later earlier n (Some (Fork t c)) at = refl
  line_kept later earlier n (Some (Join t c)) at = refl
  line_kept later earlier n (Some (Acquire t l)) at = refl
  line_kept later earlier n (Some (Release t l)) at = refl
  line_kept later earlier n (Some (Share t l)) at = refl
  line_kept later earlier n (Some (Unshare t l)) at = refl
  line_kept later earlier n None at = refl

  pub text_longer : (n i : ℕ) → n < length es → i < length es
      → first_text (objects_of lines ++ names) (numbers ++ ns) (es ++ fs) n i ≡ first_text (objects_of lines) numbers es n i
  text_longer n i inside before =
      (λ k. access_line (objects_of lines ++ names) (number_kept numbers ns n (omega (arith, counted, inside)) k) (number_kept numbers ns i (omega (arith, counted, before)) k) (at_front es fs n inside k))
      ∙ line_kept (number_at numbers n) (number_at numbers i) n (slice_get es n) refl

module _ (entries : List Entry) (entry : Entry) where
  abbrev before : List Event
  before = accesses entries

  -- it is no event
  module _ (event : is_event entry.item ≡ false) where
    pub firsts_quiet : firsts_of (entries ++ entry ∷ []) ≡ firsts_of entries
    unfolding firsts_of
    firsts_quiet = λ i. let es = quiet_events variable_kinds entries entry event i in firsts_before es (length es)

    pub texts_quiet : AreTold memory_kinds (items entries) → first_texts (entries ++ entry ∷ []) ≡ first_texts entries
    unfolding first_texts
    texts_quiet told =
        let names = objects_of (items entries) in
        let more = cons_option (declared_name entry.item) [] in
        let named : objects_of (items (entries ++ entry ∷ [])) ≡ names ++ more = ap objects_of (items_more entries entry) ∙ objects_more (items entries) entry.item in
        let numbers = event_numbers entries in
        (λ k. let es = (quiet_events variable_kinds entries entry event ∙ sym (append-nil before)) k in
        first_texts_before (first_text (named k) ((quiet_numbers variable_kinds entries entry event ∙ sym (append-nil numbers)) k) es) es (length (quiet_events variable_kinds entries entry event k)))
        ∙ texts_kept (first_text names numbers before) (first_text (names ++ more) (numbers ++ []) (before ++ [])) before []
        (text_longer (items entries) told numbers (numbers_counted variable_kinds entries) more [] []) (length before) (omega arith)

  -- it is an event
  module _ (event : LineEvent) (is : entry.item ≡ item.Event event) where
    abbrev e : Event
    e = numbered_event memory_kinds (items entries) event

    pub firsts_more : firsts_of (entries ++ entry ∷ []) ≡ firsts_of entries + cond (is_some (first_at (before ++ e ∷ []) (length before))) 1 0
    unfolding firsts_of firsts_before
    firsts_more =
        (λ i. let es = events_all variable_kinds entries entry event is i in firsts_before es (length es))
        ∙ ap (firsts_before (before ++ e ∷ [])) (length_more before e)
        ∙ ap (λ n. n + cond (is_some (first_at (before ++ e ∷ []) (length before))) 1 0) (firsts_kept before (e ∷ []) (length before) (omega arith))

    pub texts_more : AreTold memory_kinds (items entries) → first_texts (entries ++ entry ∷ [])
        ≡ first_texts entries ++ text_with (first_text (objects_of (items entries ++ entry.item ∷ [])) (event_numbers entries ++ entry.number ∷ []) (before ++ e ∷ [])) (length before)
        (first_at (before ++ e ∷ []) (length before))
    unfolding first_texts first_texts_before
    texts_more told =
        let names = objects_of (items entries) in
        let more = cons_option (declared_name entry.item) [] in
        let numbers = event_numbers entries in
        let text = first_text (objects_of (items entries ++ entry.item ∷ [])) (numbers ++ entry.number ∷ []) (before ++ e ∷ []) in
        let longer = text_longer (items entries) told numbers (numbers_counted variable_kinds entries) more (entry.number ∷ []) (e ∷ []) in
        let same : (n i : ℕ) → n < length before → i < length before → text n i ≡ first_text names numbers before n i
        = λ n i inside below. (λ k. first_text (objects_more (items entries) entry.item k) (numbers ++ entry.number ∷ []) (before ++ e ∷ []) n i) ∙ longer n i inside below in
        (λ k. let es = events_all variable_kinds entries entry event is k in
        first_texts_before (first_text (objects_of (items_more entries entry k)) (event_numbers_more variable_kinds entries entry event is k) es) es (length es))
        ∙ ap (first_texts_before text (before ++ e ∷ [])) (length_more before e)
        ∙ ap (λ t. t ++ text_with text (length before) (first_at (before ++ e ∷ []) (length before)))
        (texts_kept (first_text names numbers before) text before (e ∷ []) same (length before) (omega arith))

-- ---- further lines leave what was written

told_next : (lines : List Line) (line : Line) → IsAccepted memory_kinds lines line → AreTold memory_kinds lines → AreTold memory_kinds (lines ++ line ∷ [])
told_next lines line accepted told = told_from memory_kinds lines (line ∷ []) told (accepted, tt)

pub texts_grow : (before : List Entry) (entry : Entry) → AreTold memory_kinds (items before) → IsFront (first_texts before) (first_texts (before ++ entry ∷ []))
texts_grow before entry told = by entry.item refl
  where
    quiet : is_event entry.item ≡ false → IsFront (first_texts before) (first_texts (before ++ entry ∷ []))
    quiet event = ([], texts_quiet before entry event told ∙ sym (append-nil (first_texts before)))

    by : (line : Line) → entry.item ≡ line → IsFront (first_texts before) (first_texts (before ++ entry ∷ []))
    by item.Skip is = quiet (ap is_event is)
    by (item.Header version) is = quiet (ap is_event is)
    by (item.Thread name) is = quiet (ap is_event is)
    by (item.Object name kind) is = quiet (ap is_event is)
    by (item.Event event) is = (_, texts_more before entry event is told)

pub texts_front : (entries more : List Entry) → AreAcceptedFrom memory_kinds (items entries) (items more) → AreTold memory_kinds (items entries)
    → IsFront (first_texts entries) (first_texts (entries ++ more))
texts_front entries [] accepted told = ([], ap first_texts (append-nil entries) ∙ sym (append-nil (first_texts entries)))
texts_front entries (x ∷ xs) accepted told =
    let now : AreTold memory_kinds (items (entries ++ x ∷ []))
    = subst (AreTold memory_kinds) (sym (items_more entries x)) (told_next (items entries) x.item accepted.0 told) in
    let later : AreAcceptedFrom memory_kinds (items (entries ++ x ∷ [])) (items xs)
    = subst (λ lines. AreAcceptedFrom memory_kinds lines (items xs)) (sym (items_more entries x)) accepted.1 in
    let (first, is_first) = texts_grow entries x told in
    let (rest, is_rest) = texts_front (entries ++ x ∷ []) xs later now in (
      first ++ rest,
      ap first_texts (sym (append_assoc entries (x ∷ []) xs)) ∙ is_rest ∙ ap (λ t. t ++ rest) is_first ∙ append_assoc (first_texts entries) first rest,
    )
