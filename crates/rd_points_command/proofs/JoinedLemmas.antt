-- Texts that are written one behind another, or a front of them.
use Rattle.std.proofs.Common.{◌≡◌, ℕ, zero, suc, ◌+◌, ◌-◌, ◌<◌, List, [], ◌∷◌, ◌++◌, length, take, drop, get_or, flat_map, Option, sym, ap, ◌∙◌, subst, arith}
use Rattle.std.proofs.lemmas.Grind.{flat_map-append}
use Rattle.std.proofs.lemmas.List.{append_assoc, append-nil, take-append-drop, take_more}
use Rattle.rd_io.proofs.SinkLemmas.{appends_on}
use Rattle.rd_io.specs.Sinks.{Appends}
use Rattle.rd_points.specs.Classes.{joined}
use Rattle.rd_walk.specs.Analysis.{WritesFront}

-- ---- by numbers

module _ (f : ℕ → List ℕ) where
  joined_next : (n : ℕ) → joined f n ++ f n ≡ joined f (n + 1)
  joined_next n = ap (joined f) (let e : suc n ≡ n + 1 = omega arith in e)

  joined_rest : (first more : ℕ) → (rest : List ℕ) × (joined f (more + first) ≡ joined f first ++ rest)
  joined_rest first zero = ([], ap (joined f) (let e : zero + first ≡ first = omega arith in e) ∙ sym (append-nil (joined f first)))
  joined_rest first (suc more) =
      let (rest, is) = joined_rest first more in (
        rest ++ f (more + first),
        ap (joined f) (let e : suc more + first ≡ suc (more + first) = omega arith in e) ∙ ap (λ t. t ++ f (more + first)) is ∙ append_assoc (joined f first) rest (f (more + first)),
      )

  -- one text more
  pub text_more : (old text new : List ℕ) (n : ℕ) → text ≡ old ++ joined f n → new ≡ text ++ f n → new ≡ old ++ joined f (n + 1)
  text_more old text new n so here = here ∙ ap (λ t. t ++ f n) so ∙ append_assoc old (joined f n) (f n) ∙ ap (λ t. old ++ t) (joined_next n)

  pub written_more : (a b c : Option (List ℕ)) (n : ℕ) → Appends a b (joined f n) → Appends b c (f n) → Appends a c (joined f (n + 1))
  written_more a b c n so here = subst (Appends a c) (joined_next n) (appends_on a b c (joined f n) (f n) so here)

  pub written_front : (a b c : Option (List ℕ)) (n count : ℕ) → n < count → Appends a b (joined f n) → WritesFront b c [] (f n) → WritesFront a c [] (joined f count)
  written_front a b c n count within so (part, rest, is, writes) =
      let (behind, whole) = joined_rest (n + 1) (count - (n + 1)) in (
        joined f n ++ part,
        rest ++ behind,
        ap (joined f) (let e : count ≡ count - (n + 1) + (n + 1) = omega (arith, within) in e) ∙ whole
            ∙ ap (λ t. t ++ behind) (sym (joined_next n) ∙ ap (λ t. joined f n ++ t) is ∙ sym (append_assoc (joined f n) part rest))
            ∙ append_assoc (joined f n ++ part) rest behind,
        appends_on a b c (joined f n) part so writes,
      )

-- ---- of the members of a list

module _ {X : Type 0} (f : X → List ℕ) (xs : List X) (i : ℕ) (x : X) (within : i < length xs) (is : x ≡ get_or xs i x) where
  one_more : flat_map f (take i xs) ++ f x ≡ flat_map f (take (i + 1) xs)
  one_more =
      ap (λ y. flat_map f (take i xs) ++ f y) is ∙ ap (λ t. flat_map f (take i xs) ++ t) (sym (append-nil (f (get_or xs i x))))
      ∙ sym (flat_map-append f (take i xs) (get_or xs i x ∷ [])) ∙ ap (flat_map f) (sym (take_more xs i x within))

  pub member_more : (a b c : Option (List ℕ)) → Appends a b (flat_map f (take i xs)) → Appends b c (f x) → Appends a c (flat_map f (take (i + 1) xs))
  member_more a b c so here = subst (Appends a c) one_more (appends_on a b c (flat_map f (take i xs)) (f x) so here)

  pub member_front : (a b c : Option (List ℕ)) → Appends a b (flat_map f (take i xs)) → WritesFront b c [] (f x) → WritesFront a c [] (flat_map f xs)
  member_front a b c so (part, rest, is_front, writes) =
      let behind = flat_map f (drop (i + 1) xs) in
      let front = flat_map f (take i xs) in (
        front ++ part,
        rest ++ behind,
        ap (flat_map f) (sym (take-append-drop (i + 1) xs)) ∙ flat_map-append f (take (i + 1) xs) (drop (i + 1) xs)
            ∙ ap (λ t. t ++ behind) (sym one_more ∙ ap (λ t. front ++ t) is_front ∙ sym (append_assoc front part rest))
            ∙ append_assoc (front ++ part) rest behind,
        appends_on a b c front part so writes,
      )

-- ---- of two texts

pub front_first : (a b : Option (List ℕ)) (xs ys : List ℕ) → WritesFront a b [] xs → WritesFront a b [] (xs ++ ys)
front_first a b xs ys (part, rest, is, writes) = (part, rest ++ ys, ap (λ t. t ++ ys) is ∙ append_assoc part rest ys, writes)

pub front_second : (a b c : Option (List ℕ)) (xs ys : List ℕ) → Appends a b xs → WritesFront b c [] ys → WritesFront a c [] (xs ++ ys)
front_second a b c xs ys first (part, rest, is, writes) =
    (xs ++ part, rest, ap (λ t. xs ++ t) is ∙ sym (append_assoc xs part rest), appends_on a b c xs part first writes)
