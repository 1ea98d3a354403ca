-- One write after another.
use Rattle.std.proofs.Common.{◌≡◌, ◌≢◌, ℕ, false, ◌+◌, ◌-◌, List, [], ◌++◌, Option, Some, take, drop, length, sym, ap, ◌∙◌, subst, append_assoc, arith}
use Rattle.std.specs.Prelude.{◌==◌, ◌&&◌, nat_lt}
use Rattle.std.proofs.lemmas.Bool.Decides.{nat_tests}
use Rattle.std.proofs.lemmas.List.{take_rest, append-nil}
use Rattle.std.proofs.Math.Seq.{take-add}
use Rattle.rd_io.specs.Sinks.{Appends}

pub appends_none : (a b : Option (List ℕ)) → b ≡ a → Appends a b []
appends_none a b e written h = e ∙ h ∙ ap Some (sym (append-nil written))

pub appends_on : (a b c : Option (List ℕ)) (xs ys : List ℕ) → Appends a b xs → Appends b c ys → Appends a c (xs ++ ys)
appends_on a b c xs ys f g written h = g (written ++ xs) (f written h) ∙ ap Some (append_assoc written xs ys)

-- a front of the part, and then a front of the rest
pub appends_more : (a b c : Option (List ℕ)) (part : List ℕ) (n count : ℕ) → Appends a b (take n part)
    → Appends b c (take count (take (length part - n) (drop n part))) → Appends a c (take (n + count) part)
appends_more a b c part n count f g =
    subst (Appends a c) (sym (take-add n count part ∙ ap (λ xs. take n part ++ take count xs) (sym (take_rest part n))))
    (appends_on a b c _ _ f g)

-- a write that took some bytes went well
pub not_failed : (part : List ℕ) (count : ℕ) → count ≢ 0 → ((count == 0) && nat_lt 0 (length part)) ≡ false
not_failed part count some = grind (arith, nat_tests)
