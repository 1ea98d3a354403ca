-- Reading logs one by one.
use Rattle.std.proofs.Common.{◌≡◌, ℕ, ◌+◌, ◌<◌, ◌≤◌, List, [], ◌∷◌, ◌++◌, length, drop, get_or, Result, Ok, Err, refl, sym, ap, ◌∙◌, arith}
use Rattle.std.proofs.lemmas.List.{append-nil, append_assoc, drop_more, length-drop, nil_from_length}
use Rattle.rd_logs.specs.WholeLogs.{LogRecord, log_of}
use Rattle.rd_weave.specs.Answers.{BadLine, log_then, records_from, records_of}

-- logs in front of those that are still to be read
abbrev pub in_front : List LogRecord → Result (List LogRecord) BadLine → Result (List LogRecord) BadLine
in_front front (Ok logs) = Ok (front ++ logs)
in_front front (Err bad) = Err bad

pub none_read : (texts : List (List ℕ)) → records_of texts ≡ in_front [] (records_from 0 texts)
none_read texts = by (records_from 0 texts)
  where
    by : (read : Result (List LogRecord) BadLine) → read ≡ in_front [] read
    by (Ok logs) = refl
    by (Err bad) = refl

module _ (front : List LogRecord) (number : ℕ) (texts : List (List ℕ)) where
  pub all_read : length texts ≡ number → in_front front (records_from number (drop number texts)) ≡ Ok front
  unfolding records_from
  all_read count = ap (λ rest. in_front front (records_from number rest)) (past number texts (omega (arith, count))) ∙ ap Ok (append-nil front)
    where
      past : (n : ℕ) (xs : List (List ℕ)) → length xs ≤ n → drop n xs ≡ []
      past n xs fits = nil_from_length (drop n xs) (omega (arith, fits, length-drop n xs))

  text_left : (text : List ℕ) → number < length texts → text ≡ get_or texts number text → drop number texts ≡ text ∷ drop (number + 1) texts
  text_left text within is = drop_more texts number text within ∙ ap (λ t. t ∷ drop (number + 1) texts) (sym is)

  pub reads_one : (text : List ℕ) (log : LogRecord) → number < length texts → text ≡ get_or texts number text → log_of text ≡ Ok log
      → in_front front (records_from number (drop number texts)) ≡ in_front (front ++ log ∷ []) (records_from (number + 1) (drop (number + 1) texts))
  unfolding records_from
  reads_one text log within is said =
      ap (λ rest. in_front front (records_from number rest)) (text_left text within is)
      ∙ ap (λ one. in_front front (log_then number one (records_from (number + 1) (drop (number + 1) texts)))) said
      ∙ further (records_from (number + 1) (drop (number + 1) texts))
    where
      further : (behind : Result (List LogRecord) BadLine) → in_front front (log_then number (Ok log) behind) ≡ in_front (front ++ log ∷ []) behind
      further (Ok logs) = ap Ok (sym (append_assoc front (log ∷ []) logs))
      further (Err bad) = refl

  pub bad_one : (text : List ℕ) (line : ℕ) → number < length texts → text ≡ get_or texts number text → log_of text ≡ Err line
      → in_front front (records_from number (drop number texts)) ≡ Err (record { log = number; line = line })
  unfolding records_from
  bad_one text line within is said =
      ap (λ rest. in_front front (records_from number rest)) (text_left text within is)
      ∙ ap (λ one. in_front front (log_then number one (records_from (number + 1) (drop (number + 1) texts)))) said
