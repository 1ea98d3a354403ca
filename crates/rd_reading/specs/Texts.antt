-- What a text says as a specification, and why it is refused where it says none: this project's profile.
use Rattle.std.specs.Prelude.{◌≡◌, ◌≢◌, ◌<◌, ◌≤◌, ◌+◌, ◌⊎◌, ℕ, List, [], ◌∷◌, ◌++◌, length, map, EachIndex, slice_index, All, AllPairs, Contains}
use Rattle.std.specs.List.{AllPass}
use Rattle.rd_base.specs.declared.limits.LimitName.TheVariants.{SpecText}
use Rattle.rd_reading.specs.Adding.{AcceptsSpecLine}
use Rattle.rd_reading.specs.Causes.{EndHas, Has}
use Rattle.rd_pairs.specs.Causes.{HasNone, IsFirstOf}
use Rattle.rd_reading.specs.Known.{kinds_so_far, nothing}
use Rattle.rd_pairs.specs.declared.spec_causes.SpecCause.TheVariants.{Limit}
use Rattle.rd_reading.specs.declared.known.Known.{Known}
use Rattle.rd_ecl.specs.Specified.{SpecifiedKind}
use Rattle.rd_reading.specs.declared.parsing.ParseRefused.{ParseRefused}
use Rattle.rd_reading.specs.declared.parsing.ParseRefused.TheVariants.{Spec, NoMemory}
use Rattle.rd_reading.specs.declared.parsing.SpecRefused.{SpecRefused}
use Rattle.rd_tokens.specs.declared.sorts.Token.{Token}
use Rattle.rd_tokens.specs.Tokens.{AreTokens}
use Rattle.rd_base.specs.declared.limits.TheConstants.{MOST_KINDS, MOST_SPEC_BYTES}
use Rattle.rd_base.specs.Bytes.{hash, is_space, line_feed}

-- ---- lines

-- the bytes are one line: none is a line feed
abbrev pub IsLine : List ℕ → Type 0
IsLine bytes = EachIndex bytes (λ k. slice_index bytes k ≢ line_feed)

-- the lines of a text, which is cut at line feeds; the last line may lack its line feed
pub data AreLines : List ℕ → List (List ℕ) → Type 0 where
  no_line : AreLines [] []
  last_line : {line : List ℕ} → line ≢ [] → IsLine line → AreLines line (line ∷ [])
  line_first : {line more : List ℕ} {lines : List (List ℕ)} → IsLine line → AreLines more lines
      → AreLines (line ++ line_feed ∷ more) (line ∷ lines)

-- the line says nothing: it begins with #, or has only spaces, or no byte
abbrev pub BeginsComment : List ℕ → Type 0
BeginsComment line = (bytes : List ℕ) × (line ≡ hash ∷ bytes)

abbrev pub IsSkipped : List ℕ → Type 0
IsSkipped line = BeginsComment line ⊎ AllPass is_space line

-- ---- what lines say

-- behind these lines, one after another, this is known, where these names of kinds are taken
pub data ReadsLines (taken : List (List ℕ)) : Known → List (List ℕ) → Known → Type 0 where
  no_more : {known : Known} → ReadsLines taken known [] known
  skips : {known next : Known} {line : List ℕ} {lines : List (List ℕ)} → IsSkipped line → ReadsLines taken known lines next
      → ReadsLines taken known (line ∷ lines) next
  takes : {known mid next : Known} {line : List ℕ} {lines : List (List ℕ)} → ¬ (IsSkipped line) → AcceptsSpecLine taken known line mid
      → ReadsLines taken mid lines next → ReadsLines taken known (line ∷ lines) next

-- the text says these kinds, where these names of kinds are taken
pub record SpecSays (text : List ℕ) (taken : List (List ℕ)) (kinds : List SpecifiedKind) : Type 0 where
  pub short : length text ≤ MOST_SPEC_BYTES
  pub lines : List (List ℕ)
  pub cut : AreLines text lines
  pub known : Known
  pub reads : ReadsLines taken nothing lines known
  pub whole : HasNone (EndHas known)
  pub said : kinds ≡ kinds_so_far known

-- at most 32 kinds, no two of one name, and none of a taken one
pub record HasNewNames (taken : List (List ℕ)) (kinds : List SpecifiedKind) : Type 0 where
  pub few : length kinds ≤ MOST_KINDS
  pub different : AllPairs (λ x y. x ≢ y) (map (λ kind. kind.name) kinds)
  pub free : All (λ kind. ¬ (Contains taken kind.name)) kinds

-- ---- why a text is refused

-- behind accepted lines comes one that is refused, which this cause is the first of
pub record IsRefusedAtLine (taken : List (List ℕ)) (lines : List (List ℕ)) (refused : SpecRefused) : Type 0 where
  pub before : List (List ℕ)
  pub line : List ℕ
  pub behind : List (List ℕ)
  pub parts : lines ≡ before ++ line ∷ behind
  pub number : refused.line ≡ length before + 1
  pub known : Known
  pub reads : ReadsLines taken nothing before known
  pub kept : ¬ (IsSkipped line)
  pub tokens : List Token
  pub cut : AreTokens line tokens
  pub first : IsFirstOf (Has taken known line tokens) refused.cause refused.place

-- all lines are accepted, and their end is refused, at the number of lines and one
pub record IsRefusedAtEnd (taken : List (List ℕ)) (lines : List (List ℕ)) (refused : SpecRefused) : Type 0 where
  pub number : refused.line ≡ length lines + 1
  pub known : Known
  pub reads : ReadsLines taken nothing lines known
  pub first : IsFirstOf (EndHas known) refused.cause refused.place

-- the text is too long, which is asked before all else
pub record IsTextTooLong (text : List ℕ) (refused : SpecRefused) : Type 0 where
  pub long : MOST_SPEC_BYTES < length text
  pub number : refused.line ≡ 0
  pub place : refused.place ≡ 0
  pub cause : refused.cause ≡ Limit SpecText MOST_SPEC_BYTES

-- the text is refused at the first line with a cause
pub record IsRefusedAt (text : List ℕ) (taken : List (List ℕ)) (refused : SpecRefused) : Type 0 where
  pub short : length text ≤ MOST_SPEC_BYTES
  pub lines : List (List ℕ)
  pub cut : AreLines text lines
  pub first : IsRefusedAtLine taken lines refused ⊎ IsRefusedAtEnd taken lines refused

-- the text is refused, where these names of kinds are taken
abbrev pub IsSpecRefused : List ℕ → List (List ℕ) → SpecRefused → Type 0
IsSpecRefused text taken refused = IsTextTooLong text refused ⊎ IsRefusedAt text taken refused

-- what a refusal says; want of memory says nothing
abbrev pub IsParseRefused : List ℕ → List (List ℕ) → ParseRefused → Type 0
IsParseRefused text taken (Spec refused) = IsSpecRefused text taken refused
IsParseRefused text taken NoMemory = Unit {0}
