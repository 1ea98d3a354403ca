-- The first wrong token, for any machine that reads a line token by token and any meaning of lines: if a line that says
-- something is read so, if a line that is read says what was read, and if each state can be finished, then the machine stops
-- at the first wrong token.
use Rattle.std.proofs.Common.{◌≡◌, ◌≤◌, ℕ, Option, Some, None, List, [], ◌∷◌, ◌++◌, ◌⊎◌, inl, inr, length, take, drop, refl, sym, ◌∙◌, ap, subst, arith, append_assoc, append-nil, length-append, length-drop}
use Rattle.std.proofs.Math.Seq.{take-append_seam}
use Rattle.rd_grammar.specs.FirstWrong.{Begins, WrongAt}

-- what reading gives: what the line says, or the tokens from the wrong one on
pub data Outcome (T R : Type 0) : Type 0 where
  correct : R → Outcome T R
  stuck : List T → Outcome T R

take_front : {T : Type 0} (n : ℕ) (front back : List T) → length front ≡ n → take n (front ++ back) ≡ front
take_front n front back is = subst (λ k. take k (front ++ back) ≡ front) is (take-append_seam front back)

begins_front : {T R : Type 0} (Says : List T → R → Type 0) (front rest : List T) → WrongAt Says front rest → Begins Says front
begins_front Says front [] wrong = wrong.0
begins_front Says front (t ∷ rest) wrong = wrong.0

-- two ways to cut a line
data Cuts {T : Type 0} (a b c d : List T) : Type 0 where
  alike : a ≡ c → Cuts a b c d
  longer : (t : T) (x : List T) → c ≡ a ++ t ∷ x → b ≡ t ∷ (x ++ d) → Cuts a b c d
  shorter : (t : T) (x : List T) → a ≡ c ++ t ∷ x → d ≡ t ∷ (x ++ b) → Cuts a b c d

cut_behind : {T : Type 0} (u : T) (a b c d : List T) → Cuts a b c d → Cuts (u ∷ a) b (u ∷ c) d
cut_behind u a b c d (alike same) = alike (ap (λ x. u ∷ x) same)
cut_behind u a b c d (longer t x same rest) = longer t x (ap (λ y. u ∷ y) same) rest
cut_behind u a b c d (shorter t x same rest) = shorter t x (ap (λ y. u ∷ y) same) rest

cuts : {T : Type 0} (a b c d : List T) → a ++ b ≡ c ++ d → Cuts a b c d
cuts [] b [] d same = alike refl
cuts [] b (t ∷ c) d same = longer t c refl same
cuts (t ∷ a) b [] d same = shorter t a refl (sym same)
cuts (t ∷ a) b (u ∷ c) d same =
    let head : t ≡ u = cc in
    let tail : a ++ b ≡ c ++ d = cc in
    subst (λ v. Cuts (t ∷ a) b (v ∷ c) d) head (cut_behind t a b c d (cuts a b c d tail))

begins_sooner : {T R : Type 0} (Says : List T → R → Type 0) (a c x : List T) (t : T) → c ≡ a ++ t ∷ x → Begins Says c → Begins Says (a ++ t ∷ [])
begins_sooner Says a c x t same begins =
    let more = subst (Begins Says) same begins in
    let regrouped : (a ++ t ∷ x) ++ more.0 ≡ (a ++ t ∷ []) ++ (x ++ more.0) = simp append_assoc in
    (x ++ more.0, more.1, subst (λ y. Says y more.1) regrouped more.2)

not_longer : {T R : Type 0} (Says : List T → R → Type 0) (a b c d x : List T) (t : T) → c ≡ a ++ t ∷ x → b ≡ t ∷ (x ++ d) → WrongAt Says a b → WrongAt Says c d → ⊥
not_longer Says a b c d x t same rest wrong also =
    let wrong_here : WrongAt Says a (t ∷ (x ++ d)) = subst (WrongAt Says a) rest wrong in
    wrong_here.1 (begins_sooner Says a c x t same (begins_front Says c d also))

at_one_place : {T R : Type 0} (Says : List T → R → Type 0) (a b c d : List T) → WrongAt Says a b → WrongAt Says c d → Cuts a b c d → a ≡ c
at_one_place Says a b c d wrong also (alike same) = same
at_one_place Says a b c d wrong also (longer t x same rest) = absurd (not_longer Says a b c d x t same rest wrong also)
at_one_place Says a b c d wrong also (shorter t x same rest) = absurd (not_longer Says c d a b x t same rest also wrong)

-- a line is wrong at one place at most
pub one_place : {T R : Type 0} (Says : List T → R → Type 0) (a b c d : List T) → a ++ b ≡ c ++ d → WrongAt Says a b → WrongAt Says c d → a ≡ c
one_place Says a b c d same wrong also = at_one_place Says a b c d wrong also (cuts a b c d same)

-- a line that says something is wrong nowhere
pub right_nowhere : {T R : Type 0} (Says : List T → R → Type 0) (front rest : List T) (said : R) → Says (front ++ rest) said → ¬ (WrongAt Says front rest)
right_nowhere Says front [] said says wrong = wrong.1 said (subst (λ x. Says x said) (append-nil front) says)
right_nowhere Says front (t ∷ rest) said says wrong = wrong.1 (rest, said, subst (λ x. Says x said) (sym (append_assoc front (t ∷ []) rest)) says)

module _ {T R S : Type 0} (step : S → T → Option S) (result : S → Option R) where
  abbrev pub ended : Option R → Outcome T R
  ended None = stuck []
  ended (Some r) = correct r

  abbrev pub walk : S → List T → Outcome T R
  walk s [] = ended (result s)
  walk s (t ∷ ts) = elim (step s t) [ None ↦ stuck (t ∷ ts) | Some u ↦ walk u ts ]

  abbrev pub onward : T → List T → Option S → Outcome T R
  onward t ts o = elim o [ None ↦ stuck (t ∷ ts) | Some u ↦ walk u ts ]

  pub walk_on : (s : S) (t : T) (ts : List T) (u : S) → step s t ≡ Some u → walk s (t ∷ ts) ≡ walk u ts
  walk_on s t ts u steps = ap (onward t ts) steps

  pub walk_stops : (s : S) (t : T) (ts : List T) → step s t ≡ None → walk s (t ∷ ts) ≡ stuck (t ∷ ts)
  walk_stops s t ts steps = ap (onward t ts) steps

  -- the machine can't go on from this state with these tokens
  abbrev Refuses : S → List T → Type 0
  Refuses u [] = result u ≡ None
  Refuses u (t ∷ rest) = step u t ≡ None

  -- where the machine stopped
  record Stop (s : S) (ts rest : List T) : Type 0 where
    front : List T
    state : S
    parts : ts ≡ front ++ rest
    leads : (more : List T) → walk s (front ++ more) ≡ walk state more
    refused : Refuses state rest

  stops_here : (s : S) (ts rest : List T) → ts ≡ rest → Refuses s ts → Stop s ts rest
  stops_here s ts rest same refuses =
      record { front = []; state = s; parts = same; leads = λ more. refl; refused = subst (λ x. Refuses s x) same refuses }

  stops_at_end : (s : S) (o : Option R) (rest : List T) → result s ≡ o → ended o ≡ stuck rest → Stop s [] rest
  stops_at_end s None rest is e = stops_here s [] rest (cc) is
  stops_at_end s (Some r) rest is e = absurd (cc)

  stops_further : (s : S) (t : T) (ts : List T) (o : Option S) (rest : List T) → step s t ≡ o → onward t ts o ≡ stuck rest
      → ((u : S) → walk u ts ≡ stuck rest → Stop u ts rest) → Stop s (t ∷ ts) rest
  stops_further s t ts None rest is e later = stops_here s (t ∷ ts) rest (cc) is
  stops_further s t ts (Some u) rest is e later =
      let stop = later u e in
      record {
        front = t ∷ stop.front;
        state = stop.state;
        parts = ap (λ x. t ∷ x) stop.parts;
        leads = λ more. walk_on s t (stop.front ++ more) u is ∙ stop.leads more;
        refused = stop.refused;
      }

  stops : (ts : List T) (s : S) (rest : List T) → walk s ts ≡ stuck rest → Stop s ts rest
  stops [] s rest e = stops_at_end s (result s) rest refl e
  stops (t ∷ ts) s rest e = stops_further s t ts (step s t) rest refl e (λ u h. stops ts u rest h)

  module _ (Says : List T → R → Type 0) (start : S)
      (whole : (ts : List T) (r : R) → Says ts r → walk start ts ≡ correct r)
      (sound : (ts : List T) (r : R) → walk start ts ≡ correct r → Says ts r)
      (finishes : (s : S) → (more : List T) × (r : R) × (walk s more ≡ correct r)) where
    begins : (ts rest : List T) (stop : Stop start ts rest) → Begins Says stop.front
    begins ts rest stop =
        let end = finishes stop.state in
        (end.0, end.1, sound (stop.front ++ end.0) end.1 (stop.leads end.0 ∙ end.2))

    wrong_at : (ts rest : List T) (stop : Stop start ts rest) → WrongAt Says stop.front rest
    wrong_at ts [] stop = (
      begins ts [] stop,
      λ said says.
          let read : walk start stop.front ≡ correct said = whole stop.front said says in
          let leads : walk start (stop.front ++ []) ≡ ended (result stop.state) = stop.leads [] in
          let same : stop.front ++ [] ≡ stop.front = append-nil stop.front in
          let refused : ended (result stop.state) ≡ stuck [] = ap ended stop.refused in
          let stopped : walk start stop.front ≡ stuck [] = subst (λ x. walk start x ≡ stuck []) same (leads ∙ refused) in
          cc,
    )
    wrong_at ts (t ∷ rest) stop = (
      begins ts (t ∷ rest) stop,
      λ more.
          let read : walk start ((stop.front ++ t ∷ []) ++ more.0) ≡ correct more.1 = whole _ more.1 more.2 in
          let same : (stop.front ++ t ∷ []) ++ more.0 ≡ stop.front ++ t ∷ more.0 = append_assoc stop.front (t ∷ []) more.0 in
          let leads : walk start (stop.front ++ t ∷ more.0) ≡ walk stop.state (t ∷ more.0) = stop.leads (t ∷ more.0) in
          let refused : walk stop.state (t ∷ more.0) ≡ stuck (t ∷ more.0) = walk_stops stop.state t more.0 stop.refused in
          let stopped : walk start ((stop.front ++ t ∷ []) ++ more.0) ≡ stuck (t ∷ more.0) =
          subst (λ x. walk start x ≡ stuck (t ∷ more.0)) (sym same) (leads ∙ refused) in
          cc,
    )

    pub first_wrong : (ts rest : List T) → walk start ts ≡ stuck rest → (front : List T) × (ts ≡ front ++ rest) × WrongAt Says front rest
    first_wrong ts rest e = let stop = stops ts start rest e in (stop.front, stop.parts, wrong_at ts rest stop)

    -- the same, by the number of tokens in front
    pub first_wrong_at : (ts : List T) (n : ℕ) → n ≤ length ts → walk start ts ≡ stuck (drop n ts) → WrongAt Says (take n ts) (drop n ts)
    first_wrong_at ts n within e =
        let stop = stops ts start (drop n ts) e in
        let parts : ts ≡ stop.front ++ drop n ts = stop.parts in
        let lengths : length stop.front ≡ n = omega (arith, simp length-append at (ap length parts), length-drop n ts) in
        let front : take n (stop.front ++ drop n ts) ≡ stop.front = take_front n stop.front (drop n ts) lengths in
        let same : stop.front ≡ take n ts = sym front ∙ ap (take n) (sym parts) in
        subst (λ x. WrongAt Says x (drop n ts)) same (wrong_at ts (drop n ts) stop)

    -- a line that says something isn't refused
    pub never_refused : (ts rest : List T) → walk start ts ≡ stuck rest → (r : R) → ¬ (Says ts r)
    never_refused ts rest e r says = let read : walk start ts ≡ correct r = whole ts r says in cc

    -- a line says one thing
    pub says_one : (ts : List T) (r q : R) → Says ts r → Says ts q → r ≡ q
    says_one ts r q says also =
        let read : walk start ts ≡ correct r = whole ts r says in
        let again : walk start ts ≡ correct q = whole ts q also in
        cc

    judged_as : (ts : List T) (o : Outcome T R) → walk start ts ≡ o
        → ((r : R) × Says ts r) ⊎ ((front : List T) × (rest : List T) × (ts ≡ front ++ rest) × WrongAt Says front rest)
    judged_as ts (correct r) e = inl (r, sound ts r e)
    judged_as ts (stuck rest) e = let at = first_wrong ts rest e in inr (at.0, rest, at.1, at.2)

    -- each line says something or is wrong somewhere
    pub judged : (ts : List T) → ((r : R) × Says ts r) ⊎ ((front : List T) × (rest : List T) × (ts ≡ front ++ rest) × WrongAt Says front rest)
    judged ts = judged_as ts (walk start ts) refl
