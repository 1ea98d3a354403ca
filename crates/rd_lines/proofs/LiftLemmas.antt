-- What is wrong in a part of a line is wrong in the line.
use Rattle.std.proofs.Common.{◌≡◌, ◌+◌, ℕ, List, [], ◌∷◌, ◌++◌, length, take, drop, sym, subst, arith, append_assoc, append-nil, length-append}
use Rattle.std.proofs.Math.Seq.{take-append-add, drop-append-add}
use Rattle.std.proofs.lemmas.List.{take-append-drop}
use Rattle.rd_grammar.specs.FirstWrong.{Begins, WrongAt}
use Rattle.rd_lines.specs.Lines.{LineWord, IsWrongBehind}

pub begins_front : {R : Type 0} (Says : List LineWord → R → Type 0) (front rest : List LineWord) → WrongAt Says front rest → Begins Says front
begins_front Says front [] wrong = wrong.0
begins_front Says front (word ∷ rest) wrong = wrong.0

module _ {R S : Type 0} (Big : List LineWord → R → Type 0) (Small : List LineWord → S → Type 0) (prefix : List LineWord) (Allowed : List LineWord → Type 0)
    (up : (words : List LineWord) (s : S) → Small words s → (r : R) × Big (prefix ++ words) r)
    (down : (words : List LineWord) (r : R) → Allowed words → Big (prefix ++ words) r → (s : S) × Small words s)
    (keep : (front rest more : List LineWord) (word : LineWord) → Allowed (front ++ word ∷ rest) → Allowed ((front ++ word ∷ []) ++ more)) where
  lift_begins : (front : List LineWord) → Begins Small front → Begins Big (prefix ++ front)
  lift_begins front (more, s, says) =
      let big = up (front ++ more) s says in
      (more, big.0, subst (λ w. Big w big.0) (sym (append_assoc prefix front more)) big.1)

  never : (front : List LineWord) → ((more : List LineWord) → Allowed (front ++ more)) → ¬ (Begins Small front) → ¬ (Begins Big (prefix ++ front))
  never front allowed none (more, r, says) =
      let small = down (front ++ more) r (allowed more) (subst (λ w. Big w r) (append_assoc prefix front more) says) in
      none (more, small.0, small.1)

  pub lift_wrong : (front rest : List LineWord) → Allowed (front ++ rest) → WrongAt Small front rest → WrongAt Big (prefix ++ front) rest
  lift_wrong front [] allowed wrong = (
    lift_begins front wrong.0,
    λ r says. let small = down front r (subst Allowed (append-nil front) allowed) says in wrong.1 small.0 small.1,
  )
  lift_wrong front (word ∷ rest) allowed wrong = (
    lift_begins front wrong.0,
    λ begins.
        never (front ++ word ∷ []) (λ more. keep front rest more word allowed) wrong.1
        (subst (λ w. Begins Big w) (append_assoc prefix front (word ∷ [])) begins),
  )

  -- the same, by the number of words before the wrong one
  pub lift_behind : (words : List LineWord) (n : ℕ) → Allowed words → IsWrongBehind Small words n → IsWrongBehind Big (prefix ++ words) (length prefix + n)
  lift_behind words n allowed (within, wrong) = (
    omega (arith, length-append prefix words),
    let cut : take n words ++ drop n words ≡ words = take-append-drop n words in
        let lifted = lift_wrong (take n words) (drop n words) (subst Allowed (sym cut) allowed) wrong in
        rw (take-append-add prefix words n, drop-append-add prefix words n) lifted,
  )
