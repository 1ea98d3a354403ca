-- What is written are the lines of a trace in another order.
use Rattle.std.proofs.Common.{◌≡◌, ◌≢◌, ◌⊎◌, inl, inr, ℕ, ◌+◌, ◌<◌, false, cond, List, [], ◌∷◌, ◌++◌, length, map, get_or, slice_get, refl, sym, ap, subst, ◌∙◌, arith}
use Rattle.std.specs.Prelude.{All, IsPermutation, filter, filter_map}
use Rattle.std.specs.List.{cons_option, range_with_len}
use Rattle.std.proofs.lemmas.Bool.{cases_eq, eq-eqb}
use Rattle.std.proofs.lemmas.List.{append-nil, append_assoc}
use Rattle.std.proofs.lemmas.List.Elements.{All-head, All-tail}
use Rattle.std.proofs.lemmas.List.FromFn.{fill_by_all}
use Rattle.std.proofs.lemmas.List.Sorted.{IsPermutation-append_right, IsPermutation-cons, IsPermutation-map, IsPermutation-middle, IsPermutation-refl, IsPermutation-sym, IsPermutation-trans}
use Rattle.std.proofs.lemmas.List.Sums.{sum_by-cons, sum_by_push}
use Rattle.std.proofs.lemmas.Option.{slice_get-get_or}
use Rattle.rd_ecl.specs.Kinds.{Kind}
use Rattle.rd_event.specs.declared.items.Line.{Line}
use Rattle.rd_event.specs.declared.items.Line.TheVariants.{Skip, Header, Thread, Object, Event}
use Rattle.rd_rewriting.specs.Keeping.{FollowFrom, IsFollower}
use Rattle.rd_rewriting.specs.Reordered.{is_declaration, reordered}
use Rattle.rd_rewriting.specs.Reordered.{is_counted}
use Rattle.rd_rules.proofs.EventsLemmas.{told_from}
use Rattle.rd_rules.proofs.FollowLemmas.{meets}
use Rattle.rd_rules.specs.Events.{AreAcceptedFrom, AreTold}
use Rattle.rd_rules.specs.declared.causes.WfCause.TheVariants.{HeaderFirst}
use Rattle.rd_rules.specs.declared.causes.TraceCause.TheVariants.{Wf}
use Rattle.rd_walk.specs.AcceptedLines.{IsWalk}
use Rattle.rd_walk.specs.Walk.{Entry, items, trace_end_of}
use Rattle.rd_walk.specs.declared.walk.WalkEnd.{WalkEnd}
use Rattle.rd_walk.specs.declared.walk.WalkEnd.TheVariants.{End, Refused}
use Rattle.rd_io.specs.Lines.{LinesEnding, Reading}
use Rattle.rd_io.specs.Lines.LinesEnding.{at_end, bytes_limit, faulted, line_too_long, no_final_newline}
use Rattle.rd_io.specs.Lines.Reading.{stops, line}
use Rattle.rd_base.specs.declared.limits.Limits.{Limits}
use Rattle.rd_rules.specs.MayFollow.{Rule, headers, is_event, is_header, is_root, is_skip, version_of}

-- ---- the lines by what they say

-- one that stands behind others, put first
put_behind : {X : Type 0} (xs ys zs : List X) (x : X) → IsPermutation zs (xs ++ ys) → IsPermutation (x ∷ zs) (xs ++ x ∷ ys)
put_behind xs ys zs x is =
    IsPermutation-trans (x ∷ zs) (x ∷ (xs ++ ys)) (xs ++ x ∷ ys) (IsPermutation-cons x zs (xs ++ ys) is) (IsPermutation-sym (xs ++ x ∷ ys) (x ∷ (xs ++ ys)) (IsPermutation-middle xs x ys))

abbrev headings : List Line → List Line
headings lines = filter is_header lines

abbrev roots : List Line → List Line
roots lines = filter is_root lines

abbrev declarations : List Line → List Line
declarations lines = filter is_declaration lines

abbrev happenings : List Line → List Line
happenings lines = filter is_event lines

abbrev parts : List Line → List Line
parts lines = headings lines ++ (roots lines ++ (declarations lines ++ happenings lines))

in_parts : (lines : List Line) → IsPermutation (filter is_counted lines) (parts lines)
in_parts [] = IsPermutation-refl []
in_parts (Skip ∷ lines) = in_parts lines
in_parts (Header version ∷ lines) = IsPermutation-cons (Header version) (filter is_counted lines) (parts lines) (in_parts lines)
in_parts (Thread name ∷ lines) =
    put_behind (headings lines) (roots lines ++ (declarations lines ++ happenings lines)) (filter is_counted lines) (Thread name) (in_parts lines)
in_parts (Object name kind ∷ lines) =
    subst (IsPermutation (Object name kind ∷ filter is_counted lines))
    (append_assoc (headings lines) (roots lines) (Object name kind ∷ (declarations lines ++ happenings lines)))
    (put_behind (headings lines ++ roots lines) (declarations lines ++ happenings lines) (filter is_counted lines) (Object name kind)
    (subst (IsPermutation (filter is_counted lines)) (sym (append_assoc (headings lines) (roots lines) (declarations lines ++ happenings lines))) (in_parts lines)))
in_parts (Event event ∷ lines) =
    subst (IsPermutation (Event event ∷ filter is_counted lines))
    (append_assoc (headings lines ++ roots lines) (declarations lines) (Event event ∷ happenings lines)
    ∙ append_assoc (headings lines) (roots lines) (declarations lines ++ Event event ∷ happenings lines))
    (put_behind ((headings lines ++ roots lines) ++ declarations lines) (happenings lines) (filter is_counted lines) (Event event)
    (subst (IsPermutation (filter is_counted lines))
    (sym (append_assoc (headings lines ++ roots lines) (declarations lines) (happenings lines) ∙ append_assoc (headings lines) (roots lines) (declarations lines ++ happenings lines)))
    (in_parts lines)))

-- ---- the events in another order

module _ (xs : List Line) where
  at : ℕ → Line
  at p = get_or xs p Skip

  taken_are : (places : List ℕ) → All (λ p. p < length xs) places → filter_map (slice_get xs) places ≡ map at places
  unfolding at
  taken_are [] inside = refl
  taken_are (p ∷ places) inside =
      (λ i. cons_option (slice_get-get_or xs p Skip (All-head (λ q. q < length xs) p places inside) i)
      (taken_are places (All-tail (λ q. q < length xs) p places inside) i))

  in_turn : map at (range_with_len 0 (length xs)) ≡ xs
  unfolding at
  in_turn = sym (fill_by_all (λ p. get_or xs p Skip) xs (length xs) Skip refl (λ k below. refl))

  pub events_permuted : (places : List ℕ) → IsPermutation (range_with_len 0 (length xs)) places → All (λ p. p < length xs) places
      → IsPermutation xs (filter_map (slice_get xs) places)
  events_permuted places is inside =
      subst (λ l. IsPermutation l (filter_map (slice_get xs) places)) in_turn
      (subst (IsPermutation (map at (range_with_len 0 (length xs)))) (sym (taken_are places inside))
      (IsPermutation-map at (range_with_len 0 (length xs)) places is))

-- ---- the header

more_headers : (before : List Line) (x : Line) → headers (before ++ x ∷ []) ≡ headers before + cond (is_header x) 1 0
more_headers before x = sum_by_push (λ l. cond (is_header l) 1 0) before x

-- there is one header at most, and it is the first line that isn't skipped
record HaveOneHeader (before lines : List Line) : Type 0 where
  none : 0 < headers before → headings lines ≡ []
  one : headers before ≡ 0 → (headers lines ≡ 0) ⊎ (headings lines ≡ Header (version_of lines) ∷ [])

headers_cons : (x : Line) (lines : List Line) → headers (x ∷ lines) ≡ cond (is_header x) 1 0 + headers lines
headers_cons x lines = sum_by-cons (λ l. cond (is_header l) 1 0) x lines

not_skipped : (x : Line) → is_skip x ≡ false → x ≢ Skip
not_skipped x counted skip = let e = sym (ap is_skip skip) ∙ counted in cc

module _ (kinds : List Kind) where
  header_rule : (before : List Line) (x : Line) → is_skip x ≡ false → IsFollower kinds before x → Rule kinds before x HeaderFirst
  header_rule before x counted next = meets kinds next.limits before x (not_skipped x counted) next.follows 0 HeaderFirst refl

  one_header : (before lines : List Line) → FollowFrom kinds before lines → HaveOneHeader before lines
  one_header before [] follow = record { none = λ some. refl; one = λ none. inl refl }
  one_header before (x ∷ lines) follow = by x follow.0 (one_header (before ++ x ∷ []) lines follow.1)
    where
      other : (x : Line) → is_skip x ≡ false → is_header x ≡ false → IsFollower kinds before x → headers before ≢ 0
      other x counted heads next none = let e = (header_rule before x counted next).1 none in let f = sym heads ∙ e in cc

      by : (x : Line) → IsFollower kinds before x → HaveOneHeader (before ++ x ∷ []) lines → HaveOneHeader before (x ∷ lines)
      by Skip next rest = record {
        none = λ some. rest.none (omega (arith, some, more_headers before Skip));
        one = λ none. elim (rest.one (omega (arith, none, more_headers before Skip))) [
          | inl zero_left ↦ inl (omega (arith, zero_left, headers_cons Skip lines))
          | inr is ↦ inr is
        ];
      }
      by (Header version) next rest =
          let first = (header_rule before (Header version) refl next).0 refl in record {
            none = λ some. absurd (omega (arith, some, first));
            one = λ none. inr (ap (λ l. Header version ∷ l) (rest.none (omega (arith, more_headers before (Header version)))));
          }
      by (Thread name) next rest = record {
        none = λ some. rest.none (omega (arith, some, more_headers before (Thread name)));
        one = λ none. absurd (other (Thread name) refl refl next none);
      }
      by (Object name kind) next rest = record {
        none = λ some. rest.none (omega (arith, some, more_headers before (Object name kind)));
        one = λ none. absurd (other (Object name kind) refl refl next none);
      }
      by (Event event) next rest = record {
        none = λ some. rest.none (omega (arith, some, more_headers before (Event event)));
        one = λ none. absurd (other (Event event) refl refl next none);
      }

-- a trace that is read to its end has one
pub headed : (kinds : List Kind) (limits : Limits) (before : List Line) (number : ℕ) (reading : Reading) (entries : List Entry) (ending : WalkEnd)
    → IsWalk kinds limits before number reading entries ending → ending ≡ End → headers (before ++ items entries) ≢ 0
headed kinds limits before number (stops how) entries ending is well =
    subst (λ es. headers (before ++ items es) ≢ 0) (sym is.0) (by how (sym well ∙ is.1))
  where
    counted : headers before ≢ 0 → headers (before ++ []) ≢ 0
    counted some = subst (λ l. headers l ≢ 0) (sym (append-nil before)) some

    by : (how : LinesEnding) → End ≡ trace_end_of limits before number how → headers (before ++ []) ≢ 0
    by at_end same = elim (cases_eq (headers before) 0) [
      | inl none ↦
          let refused = ap (λ b. cond b (Refused number (Wf HeaderFirst)) End) (eq-eqb (headers before) 0 none) in
          let apart : End ≡ Refused number (Wf HeaderFirst) = same ∙ refused in cc
      | inr some ↦ counted some
    ]
    by no_final_newline same = cc
    by line_too_long same = cc
    by bytes_limit same = cc
    by faulted same = cc
headed kinds limits before number (line bytes more) entries ending (inl refused) well = let apart = sym well ∙ refused.3 in cc
headed kinds limits before number (line bytes more) entries ending (inr (item, later, accepted, are, rest)) well =
    subst (λ es. headers (before ++ items es) ≢ 0) (sym are)
    (subst (λ l. headers l ≢ 0) (append_assoc before (item ∷ []) (items later)) (headed kinds limits (before ++ item ∷ []) (number + 1) more later ending rest well))

-- ---- all lines

module _ (kinds : List Kind) (lines : List Line) (follow : FollowFrom kinds [] lines) (some : headers lines ≢ 0) (places : List ℕ)
    (permuted : IsPermutation (happenings lines) (filter_map (slice_get (happenings lines)) places)) where
  pub lines_permuted : IsPermutation (filter is_counted lines) (reordered lines places)
  unfolding reordered
  lines_permuted =
      let taken = filter_map (slice_get (happenings lines)) places in
      let behind = declarations lines ++ happenings lines in
      elim ((one_header kinds [] lines follow).one refl) [
        | inl none ↦ absurd (some none)
        | inr one ↦
            IsPermutation-trans (filter is_counted lines) (parts lines) (Header (version_of lines) ∷ (roots lines ++ (declarations lines ++ taken))) (in_parts lines)
            (subst (λ l. IsPermutation (l ++ (roots lines ++ behind)) (Header (version_of lines) ∷ (roots lines ++ (declarations lines ++ taken)))) (sym one)
            (IsPermutation-cons (Header (version_of lines)) (roots lines ++ behind) (roots lines ++ (declarations lines ++ taken))
            (IsPermutation-append_right (roots lines) behind (declarations lines ++ taken)
            (IsPermutation-append_right (declarations lines) (happenings lines) taken permuted))))
      ]

-- ---- accepted lines

-- each may follow those in front of it
pub accepted_follow : (kinds : List Kind) (before lines : List Line) → AreTold kinds before → AreAcceptedFrom kinds before lines → FollowFrom kinds before lines
accepted_follow kinds before [] told accepted = tt
accepted_follow kinds before (x ∷ lines) told accepted =
    let next = accepted.0 in
    let more : AreTold kinds (before ++ x ∷ []) = told_from kinds before (x ∷ []) told (next, tt) in (
      record { limits = next.limits; usable = next.usable; follows = next.follows; few = more.told.few },
      accepted_follow kinds (before ++ x ∷ []) lines more accepted.1,
    )
