-- Names one by one, and their places.
use Rattle.std.proofs.Common.{◌≡◌, ℕ, ◌+◌, ◌<◌, ◌&&◌, Bool, true, false, not, cond, List, [], ◌∷◌, ◌++◌, length, map, take, drop, get_or, refl, sym, ap, ◌∙◌, subst, arith, true≢false}
use Rattle.std.proofs.lemmas.List.{append-nil, append_assoc, drop_more, get_or-map, map-append, take_more}
use Rattle.std.proofs.lemmas.List.Concat.{flat_map-append}
use Rattle.std.proofs.lemmas.List.Sums.{fold-append}
use Rattle.rd_logs.specs.declared.lines.LogEvent.{LogEvent}
use Rattle.rd_logs.specs.WholeLogs.{LogRecord}
use Rattle.rd_numbered_logs.specs.LogNames.{LogNames, are_new, declared_names, declared_objects, mentioning, mentioning_all, mentioning_in}
use Rattle.rd_rules.specs.MayFollow.{is_among, place, same_name}

-- ---- items of lists that are mapped

module _ {X Y : Type 0} (f : X → Y) (xs : List X) (i : ℕ) (x : X) where
  pub item_mapped : i < length xs → x ≡ get_or xs i x → f x ≡ get_or (map f xs) i (f x)
  item_mapped within is = ap f is ∙ sym (get_or-map f xs i x (f x) within)

module _ {X : Type 0} (xs : List X) (i : ℕ) (x : X) where
  pub item_dropped : i < length xs → x ≡ get_or xs i x → drop i xs ≡ x ∷ drop (i + 1) xs
  item_dropped within is = drop_more xs i x within ∙ ap (λ y. y ∷ drop (i + 1) xs) (sym is)

  pub item_taken : i < length xs → x ≡ get_or xs i x → take (i + 1) xs ≡ take i xs ++ x ∷ []
  item_taken within is = take_more xs i x within ∙ ap (λ y. take i xs ++ y ∷ []) (sym is)

-- ---- new names

pub other_bool : (a b : Bool) → a ≡ not b → a ≡ true → b ≡ false
other_bool a true is on = absurd (true≢false (sym on ∙ is))
other_bool a false is on = refl

pub same_bool : (a b : Bool) → a ≡ not b → a ≡ false → b ≡ true
same_bool a true is out = refl
same_bool a false is out = absurd (true≢false (sym is ∙ out))

module _ (front keys ns : List (List ℕ)) (i : ℕ) (n : List ℕ) where
  pub name_fails : are_new front ns ≡ are_new keys (drop i ns) → i < length ns → n ≡ get_or ns i n → is_among keys n ≡ true → are_new front ns ≡ false
  name_fails left within is among = left ∙ ap (are_new keys) (item_dropped ns i n within is) ∙ ap (λ b. not b && are_new (keys ++ n ∷ []) (drop (i + 1) ns)) among

  pub name_goes_on : are_new front ns ≡ are_new keys (drop i ns) → i < length ns → n ≡ get_or ns i n → is_among keys n ≡ false → are_new front ns ≡ are_new (keys ++ n ∷ []) (drop (i + 1) ns)
  name_goes_on left within is fresh = left ∙ ap (are_new keys) (item_dropped ns i n within is) ∙ ap (λ b. not b && are_new (keys ++ n ∷ []) (drop (i + 1) ns)) fresh

-- of two lists one behind the other
pub are_new_behind : (front xs ys : List (List ℕ)) → are_new front (xs ++ ys) ≡ (are_new front xs && are_new (front ++ xs) ys)
are_new_behind front [] ys = ap (λ l. are_new l ys) (sym (append-nil front))
are_new_behind front (x ∷ xs) ys = by (not (is_among front x)) (are_new_behind (front ++ x ∷ []) xs ys)
  where
    by : (b : Bool) → are_new (front ++ x ∷ []) (xs ++ ys) ≡ (are_new (front ++ x ∷ []) xs && are_new ((front ++ x ∷ []) ++ xs) ys)
        → (b && are_new (front ++ x ∷ []) (xs ++ ys)) ≡ ((b && are_new (front ++ x ∷ []) xs) && are_new (front ++ x ∷ xs) ys)
    by true rest = rest ∙ ap (λ l. are_new (front ++ x ∷ []) xs && are_new l ys) (append_assoc front (x ∷ []) xs)
    by false rest = refl

-- the objects that logs declare, log by log
pub declared_behind : (front more : List LogRecord) → declared_names (front ++ more) ≡ declared_names front ++ declared_names more
declared_behind [] more = refl
declared_behind (log ∷ front) more =
    let step = ap (map (λ object. object.name)) (ap (λ l. log.objects ++ l) (flat_map-append (λ log. log.objects) front more)) in
    step ∙ map-append (λ object. object.name) log.objects (declared_objects front ++ declared_objects more)
    ∙ ap (λ l. map (λ object. object.name) log.objects ++ l) (map-append (λ object. object.name) (declared_objects front) (declared_objects more))
    ∙ sym (append_assoc (map (λ object. object.name) log.objects) (declared_names front) (declared_names more))
    ∙ ap (λ l. l ++ declared_names more) (sym (map-append (λ object. object.name) log.objects (declared_objects front)))

abbrev declared_by : LogRecord → List (List ℕ)
declared_by log = map (λ object. object.name) log.objects

declared_of_one : (log : LogRecord) → declared_names (log ∷ []) ≡ declared_by log
declared_of_one log = ap (map (λ object. object.name)) (append-nil log.objects)

module _ (records : List LogRecord) (i : ℕ) (log : LogRecord) (within : i < length records) (is : log ≡ get_or records i log) where
  pub log_taken : declared_names (take (i + 1) records) ≡ declared_names (take i records) ++ declared_by log
  log_taken = ap declared_names (item_taken records i log within is) ∙ declared_behind (take i records) (log ∷ []) ∙ ap (λ l. declared_names (take i records) ++ l) (declared_of_one log)

  log_dropped : declared_names (drop i records) ≡ declared_by log ++ declared_names (drop (i + 1) records)
  log_dropped =
      ap declared_names (item_dropped records i log within is) ∙ declared_behind (log ∷ []) (drop (i + 1) records) ∙ ap (λ l. l ++ declared_names (drop (i + 1) records)) (declared_of_one log)

  module _ (front keys : List (List ℕ)) (left : are_new front (declared_names records) ≡ are_new keys (declared_names (drop i records))) where
    log_left : are_new front (declared_names records) ≡ (are_new keys (declared_by log) && are_new (keys ++ declared_by log) (declared_names (drop (i + 1) records)))
    log_left = left ∙ ap (are_new keys) log_dropped ∙ are_new_behind keys (declared_by log) (declared_names (drop (i + 1) records))

    log_fails_by : are_new keys (declared_by log) ≡ false → are_new front (declared_names records) ≡ false
    log_fails_by twice = log_left ∙ ap (λ b. b && are_new (keys ++ declared_by log) (declared_names (drop (i + 1) records))) twice

    log_goes_on_by : are_new keys (declared_by log) ≡ true → are_new front (declared_names records) ≡ are_new (keys ++ declared_by log) (declared_names (drop (i + 1) records))
    log_goes_on_by new = log_left ∙ ap (λ b. b && are_new (keys ++ declared_by log) (declared_names (drop (i + 1) records))) new

module _ (front keys : List (List ℕ)) (records : List LogRecord) (i : ℕ) (log : LogRecord) (left : are_new front (declared_names records) ≡ are_new keys (declared_names (drop i records))) where
  pub log_fails : i < length records → log ≡ get_or records i log → are_new keys (declared_by log) ≡ false → are_new front (declared_names records) ≡ false
  log_fails within is = log_fails_by records i log within is front keys left

  pub log_goes_on : i < length records → log ≡ get_or records i log → are_new keys (declared_by log) ≡ true → are_new front (declared_names records) ≡ are_new (keys ++ declared_by log) (declared_names (drop (i + 1) records))
  log_goes_on within is = log_goes_on_by records i log within is front keys left

-- ---- places

-- more names behind them leave the places of names
pub place_front : (names more : List (List ℕ)) (name : List ℕ) → place names name < length names → place (names ++ more) name ≡ place names name
place_front [] more name below = absurd (omega (arith, below))
place_front (x ∷ xs) more name below = by (same_name name x) refl (place_front xs more name)
  where
    by : (b : Bool) → same_name name x ≡ b → (place xs name < length xs → place (xs ++ more) name ≡ place xs name) → cond (not (same_name name x)) (1 + place (xs ++ more) name) 0 ≡ cond (not (same_name name x)) (1 + place xs name) 0
    by true same rest = rw same refl
    by false other rest =
        let here : cond (not (same_name name x)) (1 + place xs name) 0 < length (x ∷ xs) = below in
        let later : 1 + place xs name < length (x ∷ xs) = subst (λ b. cond (not b) (1 + place xs name) 0 < length (x ∷ xs)) other here in
        rw other (ap (λ n. 1 + n) (rest (omega (arith, later))))

pub number_kept : (names all : List (List ℕ)) (name : List ℕ) (number : ℕ) → (more : List (List ℕ)) × (all ≡ names ++ more) → number ≡ place names name → number < length names → number ≡ place all name
number_kept names all name number (more, are) is below =
    is ∙ sym (place_front names more name (subst (λ n. n < length names) is below)) ∙ ap (λ ns. place ns name) (sym are)

-- ---- names mentioned one by one

pub mentions_more : (names : LogNames) (events : List LogEvent) (i : ℕ) (noted : LogEvent) → i < length events → noted ≡ get_or events i noted
    → mentioning_all names (take (i + 1) events) ≡ mentioning (mentioning_all names (take i events)) noted.event
mentions_more names events i noted within is =
    ap (mentioning_all names) (item_taken events i noted within is) ∙ fold-append (λ front noted. mentioning front noted.event) names (take i events) (noted ∷ [])

pub mentions_log : (names : LogNames) (logs : List LogRecord) (i : ℕ) (log : LogRecord) → i < length logs → log ≡ get_or logs i log
    → mentioning_in names (take (i + 1) logs) ≡ mentioning_all (mentioning_in names (take i logs)) log.events
mentions_log names logs i log within is =
    ap (mentioning_in names) (item_taken logs i log within is) ∙ fold-append (λ front log. mentioning_all front log.events) names (take i logs) (log ∷ [])
