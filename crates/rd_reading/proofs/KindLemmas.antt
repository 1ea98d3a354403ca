-- The first thing that is wrong with the line of a kind.
use Rattle.std.proofs.Common.{◌≡◌, ◌<◌, ◌≤◌, ℕ, Bool, true, false, nat_eq, List, [], ◌∷◌, length, Option, Some, refl, sym, ◌∙◌, ap, arith, ◌||◌}
use Rattle.std.specs.Cmp.Lexicographic.{pointwise}
use Rattle.std.specs.Prelude.{Contains}
use Rattle.rd_base.specs.declared.limits.LimitName.TheVariants.{Kinds}
use Rattle.rd_pairs.specs.declared.spec_causes.SpecCause.{SpecCause}
use Rattle.rd_pairs.specs.declared.spec_causes.SpecCause.TheVariants.{Duplicate, KindTaken, Limit, MissingPair}
use Rattle.rd_reading.specs.declared.known.Block.{Block}
use Rattle.rd_reading.specs.declared.known.Known.{Known}
use Rattle.rd_reading.specs.Causes.{KindHas, LacksPair}
use Rattle.rd_pairs.specs.Causes.{HasNone, IsFirstOf, place_at, rank}
use Rattle.rd_reading.specs.Known.{open_kinds, opened_in, specified_kind_names, kinds_so_far}
use Rattle.rd_ecl.specs.Specified.{IsWhole}
use Rattle.rd_open_kind.specs.Opened.{filled}
use Rattle.rd_open_kind.proofs.FilledLemmas.{filled_name}
use Rattle.rd_ecl.specs.Variables.{is_one_of}
use Rattle.rd_ecl.proofs.VariableLemmas.{among_decides}
use Rattle.rd_tokens.specs.declared.sorts.Token.{Token}
use Rattle.rd_reading.specs.Parts.{IsMissing}
use Rattle.rd_reading.proofs.MissingLemmas.{whole_lacks}
use Rattle.rd_base.specs.declared.limits.TheConstants.{MOST_KINDS}

-- a test that fails
lacks : (name : List ℕ) (names : List (List ℕ)) → is_one_of name names ≡ false → ¬ (Contains names name)
lacks name names fails among = let yes : is_one_of name names ≡ true = (among_decides name names).1 among in cc

-- the name is that of the open kind
pub open_named : (name : List ℕ) (block : Option Block) (current : Block) → block ≡ Some current → (a b : List ℕ) → a ≡ name → b ≡ current.opened.kind.name → (test : Bool)
    → test ≡ pointwise nat_eq a b → test ≡ is_one_of name (specified_kind_names (open_kinds block))
open_named name block current is a b same named test tests =
    let whole : is_one_of name (specified_kind_names (open_kinds (Some current))) ≡ pointwise nat_eq name current.opened.kind.name =
    last_of _ ∙ ap (pointwise nat_eq name) (filled_name current.opened.kind current.opened.default) in
    tests ∙ ap (λ (x : List ℕ). pointwise nat_eq x b) same ∙ ap (pointwise nat_eq name) named ∙ sym whole
    ∙ ap (λ (at : Option Block). is_one_of name (specified_kind_names (open_kinds at))) (sym is) where
      or_none : (test : Bool) → (test || false) ≡ test
      or_none true = refl
      or_none false = refl

      last_of : (other : List ℕ) → is_one_of name (other ∷ []) ≡ pointwise nat_eq name other
      last_of other = or_none (pointwise nat_eq name other)

module _ (taken : List (List ℕ)) (known : Known) (line : List ℕ) (tokens : List Token) (name : List ℕ) where
  -- the line has the cause at the place
  abbrev Wrong : SpecCause → ℕ → Type 0
  Wrong cause place = KindHas taken known line tokens name cause place

  least_known : (cause : SpecCause) (place : ℕ) → Wrong cause place → 7 ≤ rank cause
  least_known Duplicate place has = omega arith
  least_known (MissingPair first second) place has = omega arith
  least_known KindTaken place has = omega arith
  least_known (Limit Kinds number) place has = omega arith
  least_known cause place has = absurd has

  -- a kind that is there already is told first
  pub known_kind : (place : ℕ) → place ≡ place_at line tokens 1 → is_one_of name (specified_kind_names (kinds_so_far known)) ≡ true → IsFirstOf Wrong Duplicate place
  known_kind place at is = record { has = ((among_decides name (specified_kind_names (kinds_so_far known))).0 is, at); first = least_known }

  module _ (fresh : is_one_of name (specified_kind_names (kinds_so_far known)) ≡ false) where
    least_missing : (cause : SpecCause) (place : ℕ) → Wrong cause place → 8 ≤ rank cause
    least_missing Duplicate place has = absurd (lacks name _ fresh has.0)
    least_missing (MissingPair first second) place has = omega arith
    least_missing KindTaken place has = omega arith
    least_missing (Limit Kinds number) place has = omega arith
    least_missing cause place has = absurd has

    missing_named : (cause : SpecCause) (first second : List ℕ) → cause ≡ MissingPair first second → LacksPair (filled (opened_in known.block)) first second
        → IsFirstOf Wrong cause 0
    missing_named cause first second is there = rw is (record { has = (there, refl); first = least_missing })

    -- then a pair that is missing
    pub missing_kind : (cause : SpecCause) → IsMissing (filled (opened_in known.block)) cause → IsFirstOf Wrong cause 0
    missing_kind cause (first, second, is, there) = missing_named cause first second is there

    module _ (whole : IsWhole (filled (opened_in known.block))) where
      least_taken : (cause : SpecCause) (place : ℕ) → Wrong cause place → 9 ≤ rank cause
      least_taken Duplicate place has = absurd (lacks name _ fresh has.0)
      least_taken (MissingPair first second) place has = absurd (whole_lacks (filled (opened_in known.block)) first second whole has.0)
      least_taken KindTaken place has = omega arith
      least_taken (Limit Kinds number) place has = omega arith
      least_taken cause place has = absurd has

      -- then a name that is taken
      pub taken_kind : (place : ℕ) → place ≡ place_at line tokens 1 → is_one_of name taken ≡ true → IsFirstOf Wrong KindTaken place
      taken_kind place at is = record { has = ((among_decides name taken).0 is, at); first = least_taken }

      module _ (free : is_one_of name taken ≡ false) where
        least_limit : (cause : SpecCause) (place : ℕ) → Wrong cause place → 10 ≤ rank cause
        least_limit Duplicate place has = absurd (lacks name _ fresh has.0)
        least_limit (MissingPair first second) place has = absurd (whole_lacks (filled (opened_in known.block)) first second whole has.0)
        least_limit KindTaken place has = absurd (lacks name taken free has.0)
        least_limit (Limit Kinds number) place has = omega arith
        least_limit cause place has = absurd has

        -- then the limit
        pub many_kinds : (place : ℕ) → place ≡ place_at line tokens 1 → MOST_KINDS ≤ length (kinds_so_far known) → IsFirstOf Wrong (Limit Kinds MOST_KINDS) place
        many_kinds place at many = record { has = (many, refl, at); first = least_limit }

        pub right_kind : length (kinds_so_far known) < MOST_KINDS → HasNone Wrong
        right_kind few Duplicate place has = lacks name _ fresh has.0
        right_kind few (MissingPair first second) place has = whole_lacks (filled (opened_in known.block)) first second whole has.0
        right_kind few KindTaken place has = lacks name taken free has.0
        right_kind few (Limit Kinds number) place has = let many = has.0 in omega (arith, few, many)
        right_kind few cause place has = has
