-- The words of a line, a space apart, and the names among them.
use Rattle.std.proofs.Common.{MatchOption, ◌≡◌, ◌≢◌, ℕ, ◌+◌, ◌-◌, ◌<◌, ◌≤◌, true, false, List, [], ◌∷◌, ◌++◌, length, take, drop, get_or, refl, sym, ◌∙◌, ap, subst, arith, Option, Some, None, IfSome, inl, inr, length-drop, length-take}
use Rattle.std.specs.List.{AllPass, list_all, prefix_len, before_first, after_first, position_or_len}
use Rattle.std.specs.Prelude.{⊤}
use Rattle.std.proofs.lemmas.Option.{MatchOption-at_some}
use Rattle.std.proofs.Math.Seq.{take-append_seam, drop-append-add}
use Rattle.std.proofs.lemmas.Bool.{eqb-true, and_parts, cases_lt, false_from_ne_true, true≢false}
use Rattle.std.proofs.lemmas.List.{take_all, nil_from_length, get_or-take}
use Rattle.std.proofs.lemmas.Bool.Decides.{eqb_tells}
use Rattle.std.proofs.lemmas.List.Sums.{split_at_first, passes_at_first, list_all-from_AllPass, position_or_len_is, prefix_len_passes, prefix_len_stops}
use Rattle.rd_base.specs.Bytes.{is_space}
use Rattle.rd_base.specs.Names.{IsName, is_name, is_name_byte}
use Rattle.rd_base.proofs.FoundLemmas.{if_some, map_found, then_found}
use Rattle.rd_base.proofs.NameLemmas.{is_name_decides}
use Rattle.rd_event.specs.Items.{words_apart}
use Rattle.rd_event.specs.Reading.{name_read, names_read}

-- bytes are what stands before their first space, the space, and what stands after it
pub cut_joined : (bytes : List ℕ) → 0 < length (after_first is_space bytes)
    → bytes ≡ before_first is_space bytes ++ 32 ∷ after_first is_space bytes
cut_joined bytes more =
    let inside : position_or_len is_space bytes < length bytes = omega (arith, rw length-drop at more) in
    let space = eqb-true _ 32 (passes_at_first is_space bytes 0 inside) in
    split_at_first is_space bytes 0 inside ∙ ap (λ byte. before_first is_space bytes ++ byte ∷ after_first is_space bytes) space

-- no byte of a name is a space
is_no_space : (byte : ℕ) → is_name_byte byte ≡ true → is_space byte ≡ false
is_no_space byte pass = elim (eqb_tells byte 32) [
  | inl space ↦ absurd (let at_space : is_name_byte 32 ≡ true = subst (λ b. is_name_byte b ≡ true) space.1 pass in cc)
  | inr other ↦ other.0
]

-- a name has no space, so a space behind it is the first
name_before_space : (name rest : List ℕ) → list_all is_name_byte name ≡ true
    → position_or_len is_space (name ++ 32 ∷ rest) ≡ length name
name_before_space [] rest pass = refl
name_before_space (byte ∷ name) rest pass =
    let parts = and_parts _ _ pass in
    rw (is_no_space byte parts.0) (omega (arith, name_before_space name rest parts.1))

pub before_space : (name rest : List ℕ) → IsName name → before_first is_space (name ++ 32 ∷ rest) ≡ name
before_space name rest named =
    rw (name_before_space name rest (list_all-from_AllPass _ _ named.each)) (take-append_seam name (32 ∷ rest))

pub after_space : (name rest : List ℕ) → IsName name → after_first is_space (name ++ 32 ∷ rest) ≡ rest
after_space name rest named =
    rw (name_before_space name rest (list_all-from_AllPass _ _ named.each)) (drop-append-add name (32 ∷ rest) 1)

-- What is found is said.
abbrev pub NameSaid : List ℕ → List ℕ → Type 0
NameSaid bytes name = IsName name × (name ≡ bytes)

pub name_said : (bytes : List ℕ) → IfSome (name_read bytes) (NameSaid bytes)
unfolding name_read
name_said bytes = if_some (NameSaid bytes) _ (Some bytes) _ (λ pass. ((is_name_decides bytes).0 pass, refl)) tt

abbrev pub NamesSaid : List ℕ → List ℕ × List ℕ → Type 0
NamesSaid bytes names = (IsName names.0 × IsName names.1) × (words_apart names.0 names.1 ≡ bytes)

pub name_is : (bytes name : List ℕ) → name_read bytes ≡ Some name → IsName name × (name ≡ bytes)
name_is bytes name found = MatchOption-at_some ⊤ (NameSaid bytes) name found (name_said bytes)

both_said : (bytes first second : List ℕ) → name_read (before_first is_space bytes) ≡ Some first
    → name_read (after_first is_space bytes) ≡ Some second → NamesSaid bytes (first, second)
both_said bytes first second first_found second_found =
    let one = name_is _ first first_found in
    let two = name_is _ second second_found in
    let more : 0 < length (after_first is_space bytes) = omega (arith, two.0.some, ap length two.1) in (
      (one.0, two.0),
      ap (λ word. word ++ 32 ∷ second) one.1 ∙ ap (λ rest. before_first is_space bytes ++ 32 ∷ rest) two.1 ∙ sym (cut_joined bytes more),
    )

pub names_said : (bytes : List ℕ) → IfSome (names_read bytes) (NamesSaid bytes)
unfolding names_read
names_said bytes =
    then_found (NamesSaid bytes) _ (name_read (before_first is_space bytes)) (λ first first_found.
    map_found (NamesSaid bytes) _ (name_read (after_first is_space bytes)) (λ second second_found.
    both_said bytes first second first_found second_found))

-- What is said is found.
pub name_found : (name : List ℕ) → IsName name → name_read name ≡ Some name
unfolding name_read
name_found name named = rw ((is_name_decides name).1 named) refl

pub names_found : (first second : List ℕ) → IsName first → IsName second
    → ◌≡◌ {A = Option (List ℕ × List ℕ)} (names_read (words_apart first second)) (Some (first, second))
unfolding names_read
names_found first second one two =
    rw (
      before_space first second one,
      after_space first second one,
      name_found first one,
      name_found second two,
    ) refl

pub name_refused : (bytes : List ℕ) → ¬ (IsName bytes) → name_read bytes ≡ None
unfolding name_read
name_refused bytes unnamed =
    let test : is_name bytes ≡ false = false_from_ne_true _ (λ pass. unnamed ((is_name_decides bytes).0 pass)) in rw test refl

-- The front of bytes that are those of names: a space behind it is the first.
space_behind : (bytes : List ℕ) → prefix_len is_name_byte bytes < length bytes
    → get_or bytes (prefix_len is_name_byte bytes) 0 ≡ 32 → position_or_len is_space bytes ≡ prefix_len is_name_byte bytes
space_behind bytes inside space =
    position_or_len_is is_space bytes (prefix_len is_name_byte bytes) 0 (omega arith)
    (λ place before. is_no_space _ (prefix_len_passes is_name_byte bytes place 0 before))
    (λ at. ap is_space space)

no_space : (bytes : List ℕ) → length bytes ≡ prefix_len is_name_byte bytes → position_or_len is_space bytes ≡ length bytes
no_space bytes whole =
    position_or_len_is is_space bytes (length bytes) 0 (omega arith)
    (λ place before. is_no_space _ (prefix_len_passes is_name_byte bytes place 0 (omega arith)))
    (λ inside. absurd (omega arith))

pub before_front : (bytes : List ℕ) → prefix_len is_name_byte bytes < length bytes
    → get_or bytes (prefix_len is_name_byte bytes) 0 ≡ 32 → take (prefix_len is_name_byte bytes) bytes ≡ before_first is_space bytes
before_front bytes inside space = ap (λ n. take n bytes) (sym (space_behind bytes inside space))

pub after_front : (bytes : List ℕ) → prefix_len is_name_byte bytes < length bytes
    → get_or bytes (prefix_len is_name_byte bytes) 0 ≡ 32 → drop (prefix_len is_name_byte bytes + 1) bytes ≡ after_first is_space bytes
after_front bytes inside space = ap (λ n. drop (n + 1) bytes) (sym (space_behind bytes inside space))

pub before_end : (bytes : List ℕ) → length bytes ≡ prefix_len is_name_byte bytes → bytes ≡ before_first is_space bytes
before_end bytes whole = sym (ap (λ n. take n bytes) (no_space bytes whole) ∙ take_all (length bytes) bytes (omega arith))

pub after_end : (bytes : List ℕ) → length bytes ≡ prefix_len is_name_byte bytes → [] ≡ after_first is_space bytes
after_end bytes whole =
    sym (ap (λ n. drop (n + 1) bytes) (no_space bytes whole) ∙ nil_from_length _ (omega (arith, length-drop (length bytes + 1) bytes)))

pub each_in_front : (bytes : List ℕ) → AllPass is_name_byte (take (prefix_len is_name_byte bytes) bytes)
each_in_front bytes place default inside =
    let before : place < prefix_len is_name_byte bytes = omega (arith, length-take (prefix_len is_name_byte bytes) bytes) in
    ap is_name_byte (get_or-take (prefix_len is_name_byte bytes) bytes place default before)
    ∙ prefix_len_passes is_name_byte bytes place default before

-- another byte that no name has stands before the first space
other_before_space : (bytes : List ℕ) → prefix_len is_name_byte bytes < length bytes
    → get_or bytes (prefix_len is_name_byte bytes) 0 ≢ 32 → prefix_len is_name_byte bytes < position_or_len is_space bytes
other_before_space bytes inside other = elim (cases_lt (prefix_len is_name_byte bytes) (position_or_len is_space bytes)) [
  | inl before ↦ before
  | inr behind ↦
      let space = passes_at_first is_space bytes 0 (omega arith) in
      absurd (elim (cases_lt (position_or_len is_space bytes) (prefix_len is_name_byte bytes)) [
        | inl less ↦ true≢false (sym space ∙ is_no_space _ (prefix_len_passes is_name_byte bytes _ 0 less))
        | inr more ↦
            let same : position_or_len is_space bytes ≡ prefix_len is_name_byte bytes = omega arith in
            other (eqb-true _ 32 (subst (λ n. is_space (get_or bytes n 0) ≡ true) same space))
      ])
]

pub other_refused : (bytes : List ℕ) → prefix_len is_name_byte bytes < length bytes
    → get_or bytes (prefix_len is_name_byte bytes) 0 ≢ 32 → name_read (before_first is_space bytes) ≡ None
other_refused bytes inside other =
    name_refused (before_first is_space bytes) (λ named.
    let before = other_before_space bytes inside other in
    let there : prefix_len is_name_byte bytes < length (before_first is_space bytes) = omega (arith, length-take (position_or_len is_space bytes) bytes) in
    let pass : is_name_byte (get_or bytes (prefix_len is_name_byte bytes) 0) ≡ true =
    sym (ap is_name_byte (get_or-take (position_or_len is_space bytes) bytes (prefix_len is_name_byte bytes) 0 before))
    ∙ named.each (prefix_len is_name_byte bytes) 0 there in
    true≢false (sym pass ∙ prefix_len_stops is_name_byte bytes 0 inside))

pub nothing_refused : name_read [] ≡ None
unfolding name_read
nothing_refused = name_refused [] (λ named. let some = named.some in omega arith)

-- The same of the place that was found.
within : (bytes : List ℕ) (place : ℕ) → place ≡ prefix_len is_name_byte bytes → place ≤ length bytes → place ≢ length bytes
    → prefix_len is_name_byte bytes < length bytes
within bytes place is few other = omega (arith, is, few, other)

pub found_front : (bytes : List ℕ) (place : ℕ) → place ≡ prefix_len is_name_byte bytes → place ≤ length bytes → place ≢ length bytes
    → get_or bytes place 0 ≡ 32 → name_read (take place bytes) ≡ name_read (before_first is_space bytes)
found_front bytes place is few other space =
    ap (λ n. name_read (take n bytes)) is
    ∙ ap name_read (before_front bytes (within bytes place is few other) (subst (λ n. get_or bytes n 0 ≡ 32) is space))

pub found_behind : (bytes : List ℕ) (place : ℕ) → place ≡ prefix_len is_name_byte bytes → place ≤ length bytes → place ≢ length bytes
    → get_or bytes place 0 ≡ 32 → take (length bytes - (place + 1)) (drop (place + 1) bytes) ≡ after_first is_space bytes
found_behind bytes place is few other space =
    take_all (length bytes - (place + 1)) (drop (place + 1) bytes) (omega (arith, length-drop (place + 1) bytes))
    ∙ ap (λ n. drop (n + 1) bytes) is
    ∙ after_front bytes (within bytes place is few other) (subst (λ n. get_or bytes n 0 ≡ 32) is space)

pub found_other : (bytes : List ℕ) (place : ℕ) → place ≡ prefix_len is_name_byte bytes → place ≤ length bytes → place ≢ length bytes
    → get_or bytes place 0 ≢ 32 → name_read [] ≡ name_read (before_first is_space bytes)
found_other bytes place is few other no_space =
    nothing_refused
    ∙ sym (other_refused bytes (within bytes place is few other) (subst (λ n. get_or bytes n 0 ≢ 32) is no_space))

-- what is said of something, where there is something
pub some_part : {X : Type 0} (A : Type 0) (B : X → Type 0) (o : Option X) → MatchOption o A B → IfSome o B
some_part A B None none = tt
some_part A B (Some x) some = some
