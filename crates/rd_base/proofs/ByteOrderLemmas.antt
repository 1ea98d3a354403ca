-- The order of lists of bytes, by numbers of some of them.
use Rattle.std.proofs.Common.{◌≡◌, ◌≢◌, ℕ, zero, suc, ◌+◌, ◌-◌, ◌*◌, ◌<◌, ◌≤◌, min, inl, inr, List, [], ◌∷◌, ◌++◌, length, take, drop, get_or, refl, sym, ◌∙◌, ap, subst, arith, take-append-drop, length-drop, get_or-drop, take-add, take_all}
use Rattle.std.proofs.lemmas.Bool.{cases_lt}
use Rattle.std.proofs.lemmas.Bool.Decides.{nat_tests}
use Rattle.std.specs.Ordering.{nat_cmp, ordering_then}
use Rattle.std.specs.Slice.Scan.{big_endian}
use Rattle.std.specs.declared.cmp.Ordering.TheVariants.{Less, Equal, Greater}
use Rattle.rd_base.specs.Order.{bytes_cmp}

abbrev pub Small : List ℕ → Type 0
Small bytes = (k : ℕ) → get_or bytes k 0 < 256

below : (x y : ℕ) → x < y → nat_cmp x y ≡ Less
below x y under = grind (arith, nat_tests)

above : (x y : ℕ) → y < x → nat_cmp x y ≡ Greater
above x y over = grind (arith, nat_tests)

level : (x : ℕ) → nat_cmp x x ≡ Equal
level x = grind (arith, nat_tests)

-- a higher front makes a higher number
rises : (n a b : ℕ) (us vs : List ℕ) → n ≤ length us → n ≤ length vs → Small us → a < b
    → big_endian a (take n us) < big_endian b (take n vs)
rises zero a b us vs in_us in_vs small under = under
rises (suc n) a b [] vs in_us in_vs small under = absurd (omega arith)
rises (suc n) a b (u ∷ us) [] in_us in_vs small under = absurd (omega arith)
rises (suc n) a b (u ∷ us) (v ∷ vs) in_us in_vs small under =
    rises n (a * 256 + u) (b * 256 + v) us vs (omega arith) (omega arith) (λ k. small (suc k)) (omega (arith, small 0))

-- numbers that are apart are in the order of the lists, and equal ones were made of equal bytes
pub record Tell (us vs : List ℕ) (n x y : ℕ) : Type 0 where
  pub apart : x ≢ y → nat_cmp x y ≡ bytes_cmp us vs
  pub alike : x ≡ y → take n us ≡ take n vs

tell : (n a : ℕ) (us vs : List ℕ) → n ≤ length us → n ≤ length vs → Small us → Small vs
    → Tell us vs n (big_endian a (take n us)) (big_endian a (take n vs))
tell zero a us vs in_us in_vs small_us small_vs = record { apart = λ other. absurd (other refl); alike = λ same. refl }
tell (suc n) a [] vs in_us in_vs small_us small_vs = absurd (omega arith)
tell (suc n) a (u ∷ us) [] in_us in_vs small_us small_vs = absurd (omega arith)
tell (suc n) a (u ∷ us) (v ∷ vs) in_us in_vs small_us small_vs =
    elim (cases_lt u v) [
      | inl under ↦
          let lower = rises n (a * 256 + u) (a * 256 + v) us vs (omega arith) (omega arith) (λ k. small_us (suc k)) (omega arith) in
          record {
            apart = λ other. below _ _ lower ∙ sym (ap (λ first. ordering_then first (bytes_cmp us vs)) (below u v under));
            alike = λ same. absurd (omega (arith, lower, same));
          }
      | inr not_under ↦ elim (cases_lt v u) [
        | inl over ↦
            let higher = rises n (a * 256 + v) (a * 256 + u) vs us (omega arith) (omega arith) (λ k. small_vs (suc k)) (omega arith) in
            record {
              apart = λ other. above _ _ higher ∙ sym (ap (λ first. ordering_then first (bytes_cmp us vs)) (above u v over));
              alike = λ same. absurd (omega (arith, higher, same));
            }
        | inr not_over ↦
            let same_byte : u ≡ v = omega (arith, not_under, not_over) in
            let rest = tell n (a * 256 + u) us vs (omega arith) (omega arith) (λ k. small_us (suc k)) (λ k. small_vs (suc k)) in
            subst (λ v. Tell (u ∷ us) (v ∷ vs) (suc n) (big_endian (a * 256 + u) (take n us)) (big_endian (a * 256 + v) (take n vs))) same_byte
            record {
              apart = λ other. rest.apart other ∙ sym (ap (λ first. ordering_then first (bytes_cmp us vs)) (level u));
              alike = λ same. ap (λ more. u ∷ more) (rest.alike same);
            }
      ]
    ]

same_front : (front xs ys : List ℕ) → bytes_cmp (front ++ xs) (front ++ ys) ≡ bytes_cmp xs ys
same_front [] xs ys = refl
same_front (b ∷ front) xs ys =
    ap (λ first. ordering_then first (bytes_cmp (front ++ xs) (front ++ ys))) (level b) ∙ same_front front xs ys

-- lists that begin alike are in the order of what is behind
past : (n : ℕ) (xs ys : List ℕ) → take n xs ≡ take n ys → bytes_cmp (drop n xs) (drop n ys) ≡ bytes_cmp xs ys
past n xs ys same =
    sym (same_front (take n xs) (drop n xs) (drop n ys))
    ∙ ap (λ front. bytes_cmp (take n xs ++ drop n xs) (front ++ drop n ys)) same
    ∙ ap (λ first. bytes_cmp first (take n ys ++ drop n ys)) (take-append-drop n xs)
    ∙ ap (λ second. bytes_cmp xs second) (take-append-drop n ys)

pub behind : (n : ℕ) (xs ys : List ℕ) → take n xs ≡ take n ys
    → bytes_cmp (take (length xs - n) (drop n xs)) (take (length ys - n) (drop n ys)) ≡ bytes_cmp xs ys
behind n xs ys same =
    ap (λ first. bytes_cmp first (take (length ys - n) (drop n ys))) (take_all (length xs - n) (drop n xs) (omega (arith, length-drop n xs)))
    ∙ ap (λ second. bytes_cmp (drop n xs) second) (take_all (length ys - n) (drop n ys) (omega (arith, length-drop n ys)))
    ∙ past n xs ys same

-- numbers of the bytes from a place on, where those in front are alike
tell_at : (place n : ℕ) (xs ys : List ℕ) (x y : ℕ) → place + n ≤ length xs → place + n ≤ length ys → Small xs → Small ys
    → take place xs ≡ take place ys → x ≡ big_endian 0 (take n (drop place xs)) → y ≡ big_endian 0 (take n (drop place ys))
    → Tell xs ys (place + n) x y
tell_at place n xs ys x y in_xs in_ys small_xs small_ys front x_is y_is =
    let told =
    tell n 0 (drop place xs) (drop place ys) (omega (arith, length-drop place xs)) (omega (arith, length-drop place ys))
    (λ k. subst (λ b. b < 256) (sym (get_or-drop place xs k 0)) (small_xs (place + k)))
    (λ k. subst (λ b. b < 256) (sym (get_or-drop place ys k 0)) (small_ys (place + k))) in
    subst (λ x. Tell xs ys (place + n) x y) (sym x_is) (subst (λ y. Tell xs ys (place + n) (big_endian 0 (take n (drop place xs))) y) (sym y_is)
    record {
      apart = λ other. told.apart other ∙ past place xs ys front;
      alike = λ same. take-add place n xs ∙ ap (λ front. front ++ take n (drop place xs)) front
          ∙ ap (λ more. take place ys ++ more) (told.alike same) ∙ sym (take-add place n ys);
    })

-- lists that begin alike begin alike in fewer bytes
pub fewer : (few n : ℕ) (xs ys : List ℕ) → few ≤ n → take n xs ≡ take n ys → take few xs ≡ take few ys
fewer zero n xs ys less same = refl
fewer (suc few) zero xs ys less same = absurd (omega arith)
fewer (suc few) (suc n) [] [] less same = refl
fewer (suc few) (suc n) [] (y ∷ ys) less same = absurd (omega (arith, ap length same))
fewer (suc few) (suc n) (x ∷ xs) [] less same = absurd (omega (arith, ap length same))
fewer (suc few) (suc n) (x ∷ xs) (y ∷ ys) less same =
    let byte : x ≡ y = ap (λ front. get_or front 0 0) same in
    let more = fewer few n xs ys (omega arith) (ap (drop 1) same) in
    λ i. byte i ∷ more i

-- where one list begins the other, their lengths are in their order
pub by_lengths : (n : ℕ) (xs ys : List ℕ) → n ≡ min (length xs) (length ys) → take n xs ≡ take n ys
    → nat_cmp (length xs) (length ys) ≡ bytes_cmp xs ys
by_lengths zero [] [] all same = refl
by_lengths zero [] (y ∷ ys) all same = below 0 (suc (length ys)) (omega arith)
by_lengths zero (x ∷ xs) [] all same = above (suc (length xs)) 0 (omega arith)
by_lengths zero (x ∷ xs) (y ∷ ys) all same = absurd (omega arith)
by_lengths (suc n) [] ys all same = absurd (omega arith)
by_lengths (suc n) (x ∷ xs) [] all same = absurd (omega arith)
by_lengths (suc n) (x ∷ xs) (y ∷ ys) all same =
    let byte : x ≡ y = ap (λ front. get_or front 0 0) same in
    next_lengths (length xs) (length ys) ∙ by_lengths n xs ys (omega arith) (ap (drop 1) same)
    ∙ sym (ap (λ y. ordering_then (nat_cmp x y) (bytes_cmp xs ys)) (sym byte) ∙ ap (λ first. ordering_then first (bytes_cmp xs ys)) (level x))
  where
    next_lengths : (m n : ℕ) → nat_cmp (suc m) (suc n) ≡ nat_cmp m n
    next_lengths m n = grind (arith, nat_tests)

-- Numbers of n bytes at the front and then at a place that they reach: what they tell.
module _ (xs ys : List ℕ) (small_xs : Small xs) (small_ys : Small ys) (n place x y z w : ℕ) where
  pub front_tells : n ≤ length xs → n ≤ length ys → x ≡ big_endian 0 (take n (drop 0 xs)) → y ≡ big_endian 0 (take n (drop 0 ys))
      → Tell xs ys n x y
  front_tells in_xs in_ys x_is y_is =
      subst (λ m. Tell xs ys m x y) (omega arith)
      (tell_at 0 n xs ys x y (omega arith) (omega arith) small_xs small_ys refl x_is y_is)

  pub then_tells : place ≤ n → place + n ≤ length xs → place + n ≤ length ys → x ≡ y → x ≡ big_endian 0 (take n (drop 0 xs))
      → y ≡ big_endian 0 (take n (drop 0 ys)) → z ≡ big_endian 0 (take n (drop place xs)) → w ≡ big_endian 0 (take n (drop place ys))
      → Tell xs ys (place + n) z w
  then_tells reached in_xs in_ys same x_is y_is z_is w_is =
      let front = front_tells (omega arith) (omega arith) x_is y_is in
      tell_at place n xs ys z w in_xs in_ys small_xs small_ys (fewer place n xs ys reached (front.alike same)) z_is w_is
