-- Counting events placed.
use Rattle.std.proofs.Common.{◌≡◌, ◌≢◌, inl, inr, ℕ, ◌+◌, ◌<◌, ◌==◌, List, [], length, map, take, get_or, set, refl, sym, ap, ◌∙◌, subst, arith}
use Rattle.std.specs.List.{range_with_len}
use Rattle.std.proofs.lemmas.Bool.{cases_eq, eq-eqb, ne_eqb}
use Rattle.std.proofs.lemmas.List.{ext_get_or, get_or-map, get_or-set_other, get_or-set_same, length-map}
use Rattle.std.proofs.lemmas.List.FromFn.{get_or-map-range_with_len, length-map-range_with_len}
use Rattle.std.proofs.lemmas.List.Sums.{count_by_more_no, count_by_more_yes}
use Rattle.rd_logs.specs.declared.whole.ReadLog.{ReadLog}
use Rattle.rd_logs.specs.WholeLogs.{LogRecord, record_of}
use Rattle.rd_weave.specs.Answers.{events_of_log}
use Rattle.rd_weavings.specs.declared.spots.Spot.{Spot}
use Rattle.rd_weavings.specs.Logs.{given}

-- one spot more
module _ (spots : List Spot) (i : ℕ) (s : Spot) (within : i < length spots) (is : s ≡ get_or spots i s) where
  pub given_next : given (take (i + 1) spots) s.log ≡ given (take i spots) s.log + 1
  given_next = count_by_more_yes (λ t. t.log == s.log) spots i s within (ap (λ (t : Spot). t.log == s.log) (sym is) ∙ eq-eqb s.log s.log refl)

  pub given_apart : (l : ℕ) → s.log ≢ l → given (take (i + 1) spots) l ≡ given (take i spots) l
  given_apart l other = count_by_more_no (λ t. t.log == l) spots i s within (ap (λ (t : Spot). t.log == l) (sym is) ∙ ne_eqb s.log l other)

  pub counted : (counts : List ℕ) (n : ℕ) → s.log < length counts → s.place ≡ given (take i spots) s.log → ((l : ℕ) → l < n → get_or counts l 0 ≡ given (take i spots) l)
      → (l : ℕ) → l < n → get_or (set counts s.log (s.place + 1)) l 0 ≡ given (take (i + 1) spots) l
  counted counts n known next each l below = elim (cases_eq s.log l) [
    | inl same ↦
        ap (λ k. get_or (set counts s.log (s.place + 1)) k 0) (sym same) ∙ get_or-set_same counts s.log (s.place + 1) 0 known ∙ ap (λ n. n + 1) next ∙ sym given_next
        ∙ ap (given (take (i + 1) spots)) same
    | inr other ↦ get_or-set_other counts s.log l (s.place + 1) 0 (λ same. other (sym same)) ∙ each l below ∙ sym (given_apart l other)
  ]

pub all_counted : (f : ℕ → ℕ) (xs : List ℕ) (n : ℕ) → length xs ≡ n → ((l : ℕ) → l < n → get_or xs l 0 ≡ f l) → xs ≡ map f (range_with_len 0 n)
all_counted f xs n count each =
    ext_get_or 0 xs (map f (range_with_len 0 n)) (count ∙ sym (length-map-range_with_len f 0 n)) (λ l below. let within : l < n = omega (arith, below, count) in each l within ∙ sym (get_or-map-range_with_len f 0 n l l 0 within (omega arith)))

-- the events of a log that was read
pub events_read : (logs : List ReadLog) (l : ℕ) (log : ReadLog) → l < length logs → log ≡ get_or logs l log → events_of_log (map record_of logs) l ≡ log.events.items
events_read logs l log within is =
    let middle : l < length (map record_of logs) = subst (λ n. l < n) (sym (length-map logs record_of)) within in
    get_or-map (λ (r : LogRecord). r.events) (map record_of logs) l (record_of log) [] middle
    ∙ ap (λ (r : LogRecord). r.events) (get_or-map record_of logs l log (record_of log) within ∙ ap record_of (sym is))
