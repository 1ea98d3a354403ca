-- The latest access that a clock doesn't count, and those that stay.
use Rattle.std.proofs.Common.{◌≡◌, ◌⊎◌, inl, inr, ℕ, ◌+◌, ◌<◌, ◌≤◌, not, nat_le, Bool, true, false, cond, List, [], ◌∷◌, ◌++◌, length, take, drop, set, get_or, Option, Some, None, Decides, refl, sym, ap, subst, ◌∙◌, arith, true≢false}
use Rattle.std.specs.Prelude.{Contains, filter, fold}
use Rattle.std.proofs.lemmas.Bool.Decides.{Decides-not, leb_tells, not_from_Decides}
use Rattle.std.proofs.lemmas.List.{drop_more, drop-set-lt, take_more_set}
use Rattle.std.proofs.lemmas.List.Elements.{All-contains, All-contains_itself, All-filter, Contains-append_cases, Contains-append_right, Contains-push_cases, filter_more, filter_passes}
use Rattle.std.proofs.lemmas.Option.{none-some, same_Some}
use Rattle.rd_clock.specs.Clock.{component}
use Rattle.rd_epoch.specs.EpochParts.{IsHeardEpoch, IsLatestLine, is_heard, later_unheard, latest_line, unheard}
use Rattle.rd_epoch.specs.declared.kept.Epoch.{Epoch}

-- ---- lists

pub none_in : {X : Type 0} {P : Type 0} (x : X) → Contains [] x → P
none_in x has = absurd (omega (arith, has.1))

pub here : {X : Type 0} (x : X) (xs : List X) → Contains (x ∷ xs) x
here x xs = (0, omega arith, refl)

pub behind : {X : Type 0} (x : X) (xs : List X) (y : X) → Contains xs y → Contains (x ∷ xs) y
behind x xs y has = Contains-append_right (x ∷ []) xs y has

pub first_or_behind : {X : Type 0} (x : X) (xs : List X) (y : X) → Contains (x ∷ xs) y → (x ≡ y) ⊎ Contains xs y
first_or_behind x xs y has = elim (Contains-append_cases (x ∷ []) xs y has) [
  | inl first ↦ elim (Contains-push_cases [] x y first) [ inl none ↦ none_in y none | inr same ↦ inl same ]
  | inr rest ↦ inr rest
]

only : {X : Type 0} (x y : X) → Contains (x ∷ []) y → x ≡ y
only x y has = elim (first_or_behind x [] y has) [ inl same ↦ same | inr none ↦ none_in y none ]

pub in_filter : {X : Type 0} (p : X → Bool) (xs : List X) (x : X) → Contains xs x → p x ≡ true → Contains (filter p xs) x
in_filter p [] x has passes = none_in x has
in_filter p (y ∷ ys) x has passes = elim (first_or_behind y ys x has) [
  | inl same ↦ subst (λ b. Contains (cond b (y ∷ filter p ys) (filter p ys)) x) (sym (ap p same ∙ passes)) (subst (Contains (y ∷ filter p ys)) same (here y (filter p ys)))
  | inr rest ↦ by (p y) (in_filter p ys x rest passes)
]
  where
    by : (b : Bool) → Contains (filter p ys) x → Contains (cond b (y ∷ filter p ys) (filter p ys)) x
    by true is = behind y (filter p ys) x is
    by false is = is

pub from_filter : {X : Type 0} (p : X → Bool) (xs : List X) (x : X) → Contains (filter p xs) x → Contains xs x × (p x ≡ true)
from_filter p xs x has = (
  All-contains (Contains xs) (filter p xs) x (All-filter p (Contains xs) xs (All-contains_itself xs)) has,
  All-contains (λ x. p x ≡ true) (filter p xs) x (filter_passes p xs) has,
)

-- ---- what a clock counts

le_decides : (a b : ℕ) → Decides (nat_le a b) (a ≤ b)
le_decides a b = elim (leb_tells a b) [
  | inl less ↦ (λ h. less.1, λ h. less.0)
  | inr more ↦ (λ h. absurd (true≢false (sym h ∙ more.0)), λ h. absurd (let m = more.1 in omega arith))
]

heard_decides : (clock : List ℕ) (epoch : Epoch) → Decides (is_heard clock epoch) (IsHeardEpoch clock epoch)
heard_decides clock epoch = le_decides epoch.number (component clock epoch.thread)

pub is_heard_one : (clock : List ℕ) (epoch : Epoch) → IsHeardEpoch clock epoch → is_heard clock epoch ≡ true
is_heard_one clock epoch heard = (heard_decides clock epoch).1 heard

pub not_heard : (clock : List ℕ) (epoch : Epoch) → ¬ (IsHeardEpoch clock epoch) → is_heard clock epoch ≡ false
not_heard clock epoch apart = by (is_heard clock epoch) refl
  where
    by : (b : Bool) → is_heard clock epoch ≡ b → is_heard clock epoch ≡ false
    by false is = is
    by true is = absurd (apart ((heard_decides clock epoch).0 is))

pub in_unheard : (clock : List ℕ) (epochs : List Epoch) (epoch : Epoch) → Contains epochs epoch → ¬ (IsHeardEpoch clock epoch) → Contains (unheard clock epochs) epoch
in_unheard clock epochs epoch has not_heard =
    in_filter (λ e. not (is_heard clock e)) epochs epoch has ((Decides-not (is_heard clock epoch) (heard_decides clock epoch)).1 not_heard)

pub from_unheard : (clock : List ℕ) (epochs : List Epoch) (epoch : Epoch) → Contains (unheard clock epochs) epoch → Contains epochs epoch × ¬ (IsHeardEpoch clock epoch)
from_unheard clock epochs epoch has =
    let is = from_filter (λ e. not (is_heard clock e)) epochs epoch has in
    (is.0, (Decides-not (is_heard clock epoch) (heard_decides clock epoch)).0 is.1)

-- ---- the latest

-- what is found among these behind what was found before
record Found (clock : List ℕ) (before : Option ℕ) (epochs : List Epoch) (found : Option ℕ) : Type 0 where
  none : found ≡ None → (before ≡ None) × ((e : Epoch) → Contains epochs e → IsHeardEpoch clock e)
  some : (line : ℕ) → found ≡ Some line → (before ≡ Some line) ⊎ ((e : Epoch) × Contains epochs e × (¬ (IsHeardEpoch clock e)) × (e.line ≡ line))
  most_before : (line first : ℕ) → found ≡ Some line → before ≡ Some first → first ≤ line
  most : (line : ℕ) → found ≡ Some line → (e : Epoch) → Contains epochs e → ¬ (IsHeardEpoch clock e) → e.line ≤ line

module _ (clock : List ℕ) where
  step_none : (e : Epoch) (b : Bool) → Decides b (IsHeardEpoch clock e) → Found clock None (e ∷ []) (cond b None (Some e.line))
  step_none e true tells = record {
    none = λ h. (refl, λ f has. subst (IsHeardEpoch clock) (only e f has) (tells.0 refl));
    some = λ line h. absurd (none-some line h);
    most_before = λ line first h k. absurd (none-some line h);
    most = λ line h f has un. absurd (none-some line h);
  }
  step_none e false tells = record {
    none = λ h. absurd (none-some e.line (sym h));
    some = λ line h. inr (e, here e [], not_from_Decides false tells refl, same_Some e.line line h);
    most_before = λ line first h k. absurd (none-some first k);
    most = λ line h f has un. subst (λ (g : Epoch). g.line ≤ line) (only e f has) (let same = same_Some e.line line h in omega arith);
  }

  step_some : (e : Epoch) (before : ℕ) (b c : Bool) → Decides b (IsHeardEpoch clock e) → Decides c (e.line ≤ before)
      → Found clock (Some before) (e ∷ []) (cond b (Some before) (cond c (Some before) (Some e.line)))
  step_some e before true c tells less = record {
    none = λ h. absurd (none-some before (sym h));
    some = λ line h. inl h;
    most_before = λ line first h k. let same = same_Some before line h in let also = same_Some before first k in omega arith;
    most = λ line h f has un. absurd (un (subst (IsHeardEpoch clock) (only e f has) (tells.0 refl)));
  }
  step_some e before false true tells less = record {
    none = λ h. absurd (none-some before (sym h));
    some = λ line h. inl h;
    most_before = λ line first h k. let same = same_Some before line h in let also = same_Some before first k in omega arith;
    most = λ line h f has un. subst (λ (g : Epoch). g.line ≤ line) (only e f has) (let same = same_Some before line h in let l = less.0 refl in omega arith);
  }
  step_some e before false false tells less = record {
    none = λ h. absurd (none-some e.line (sym h));
    some = λ line h. inr (e, here e [], not_from_Decides false tells refl, same_Some e.line line h);
    most_before = λ line first h k. let same = same_Some e.line line h in let also = same_Some before first k in let l = not_less (not_from_Decides false less refl) in omega arith;
    most = λ line h f has un. subst (λ (g : Epoch). g.line ≤ line) (only e f has) (let same = same_Some e.line line h in omega arith);
  }
    where
      not_less : ¬ (e.line ≤ before) → before < e.line
      not_less above = omega arith

  step : (before : Option ℕ) (e : Epoch) → Found clock before (e ∷ []) (later_unheard clock before e)
  step None e = step_none e (is_heard clock e) (heard_decides clock e)
  step (Some before) e = step_some e before (is_heard clock e) (nat_le e.line before) (heard_decides clock e) (le_decides e.line before)

  joined : (before mid found : Option ℕ) (e : Epoch) (es : List Epoch) → Found clock before (e ∷ []) mid → Found clock mid es found → Found clock before (e ∷ es) found
  joined before mid found e es one rest = record {
    none = λ h. (
      (one.none (rest.none h).0).0,
      λ f has. elim (first_or_behind e es f has) [
        | inl same ↦ (one.none (rest.none h).0).1 f (subst (Contains (e ∷ [])) same (here e []))
        | inr later ↦ (rest.none h).1 f later
      ],
    );
    some = λ line h. elim (rest.some line h) [
      | inl is_mid ↦ elim (one.some line is_mid) [
        | inl is_before ↦ inl is_before
        | inr is ↦ inr (is.0, subst (Contains (e ∷ es)) (only e is.0 is.1) (here e es), is.2, is.3)
      ]
      | inr is ↦ inr (is.0, behind e es is.0 is.1, is.2, is.3)
    ];
    most_before = λ line first h k. by_mid line first mid refl (one.most_before) h k;
    most = λ line h f has un. elim (first_or_behind e es f has) [
      | inl same ↦ of_first line f mid refl h (subst (Contains (e ∷ [])) same (here e [])) un
      | inr later ↦ rest.most line h f later un
    ];
  }
    where
      by_mid : (line first : ℕ) (m : Option ℕ) → mid ≡ m → ((line first : ℕ) → mid ≡ Some line → before ≡ Some first → first ≤ line) → found ≡ Some line → before ≡ Some first → first ≤ line
      by_mid line first None is most h k = absurd (none-some first (sym (one.none is).0 ∙ k))
      by_mid line first (Some middle) is most h k = let a = most middle first is k in let b = rest.most_before line middle h is in omega arith

      of_first : (line : ℕ) (f : Epoch) (m : Option ℕ) → mid ≡ m → found ≡ Some line → Contains (e ∷ []) f → ¬ (IsHeardEpoch clock f) → f.line ≤ line
      of_first line f None is h has un = absurd (un ((one.none is).1 f has))
      of_first line f (Some middle) is h has un = let a = one.most middle is f has un in let b = rest.most_before line middle h is in omega arith

  found_in : (before : Option ℕ) (epochs : List Epoch) → Found clock before epochs (fold (later_unheard clock) before epochs)
  found_in before [] = record {
    none = λ h. (h, λ e has. none_in e has);
    some = λ line h. inl h;
    most_before = λ line first h k. let same = same_Some first line (sym k ∙ h) in omega arith;
    most = λ line h e has un. none_in e has;
  }
  found_in before (e ∷ es) = joined before (later_unheard clock before e) (fold (later_unheard clock) (later_unheard clock before e) es) e es (step before e) (found_in (later_unheard clock before e) es)

  latest : (epochs : List Epoch) (found : Option ℕ) → Found clock None epochs found → IsLatestLine clock epochs found
  latest epochs None is = (is.none refl).1
  latest epochs (Some line) is = (
    elim (is.some line refl) [ inl none ↦ absurd (none-some line none) | inr one ↦ one ],
    λ e has un. is.most line refl e has un,
  )

  pub is_latest_line : (epochs : List Epoch) → IsLatestLine clock epochs (latest_line clock None epochs)
  is_latest_line epochs = latest epochs (latest_line clock None epochs) (found_in None epochs)

-- ---- those that stay are moved to the front

module _ {X : Type 0} (p : X → Bool) (xs old : List X) (kept place : ℕ) (d : X) (behind : kept ≤ place) (inside : place < length old) (size : length xs ≡ length old)
    (front : take kept xs ≡ filter p (take place old)) (rest : drop place xs ≡ drop place old) where
  both : get_or xs place d ∷ drop (place + 1) xs ≡ get_or old place d ∷ drop (place + 1) old
  both = sym (drop_more xs place d (omega arith)) ∙ rest ∙ drop_more old place d inside

  same : get_or xs place d ≡ get_or old place d
  same = ap (λ l. get_or l 0 d) both

  pub rest_more : drop (place + 1) xs ≡ drop (place + 1) old
  rest_more = ap (drop 1) both

  pub rest_set : (y : X) → drop (place + 1) (set xs kept y) ≡ drop (place + 1) old
  rest_set y = drop-set-lt (place + 1) xs kept y (omega arith) ∙ rest_more

  pub front_no : p (get_or xs place d) ≡ false → take kept xs ≡ filter p (take (place + 1) old)
  front_no fails = front ∙ sym (filter_more p old place d inside ∙ ap (λ b. filter p (take place old) ++ cond b (get_or old place d ∷ []) []) (ap p (sym same) ∙ fails) ∙ nothing (filter p (take place old)))
    where
      nothing : (l : List X) → l ++ [] ≡ l
      nothing [] = refl
      nothing (x ∷ l) = ap (◌∷◌ x) (nothing l)

  pub front_yes : (y : X) → y ≡ get_or xs place d → p y ≡ true → take (kept + 1) (set xs kept y) ≡ filter p (take (place + 1) old)
  front_yes y is passes =
      take_more_set xs kept y (omega arith) ∙ ap (λ l. l ++ y ∷ []) front ∙ ap (λ z. filter p (take place old) ++ z ∷ []) (is ∙ same)
      ∙ sym (filter_more p old place d inside ∙ ap (λ b. filter p (take place old) ++ cond b (get_or old place d ∷ []) []) (ap p (sym (is ∙ same)) ∙ passes))
