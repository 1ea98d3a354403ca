-- What is said of the words behind the first, said of the line.
use Rattle.std.proofs.Common.{◌≡◌, ◌≢◌, ℕ, List, ◌∷◌, codes, Result, Ok, Err, IfOk}
use Rattle.rd_lines.specs.declared.forms.Form.{Form}
use Rattle.rd_lines.specs.declared.forms.FormRefused.{FormRefused}
use Rattle.rd_lines.specs.declared.forms.Stage.{Stage}
use Rattle.rd_lines.specs.declared.forms.Stage.TheVariants.{Outside, Methods}
use Rattle.rd_lines.specs.declared.forms.Version.{Version}
use Rattle.rd_lines.specs.declared.forms.Version.TheVariants.{One, Two}
use Rattle.std.proofs.Common.{◌≤◌, length, ap, subst, sym, arith, inl, inr, refl}
use Rattle.std.proofs.lemmas.List.{length-map}
use Rattle.rd_tokens.specs.declared.sorts.Token.{Token}
use Rattle.rd_lines.specs.Lines.{LineWord, plain, word_at, words_of, HasFewWords, CountsTokens, BeginsKind, RightLine, said_of}
use Rattle.rd_lines.specs.Reading.{MayDefault, MayDefine}
use Rattle.rd_lines.specs.declared.forms.FormRefused.TheVariants.{NoMemory}
use Rattle.std.specs.Prelude.{IfErr, ◌+◌}
use Rattle.std.specs.Result.{IsErrAnd}
use Rattle.rd_base.specs.declared.limits.TheConstants.{MOST_TOKENS}

pub kind_right : (version : Version) (stage : Stage) (methods : List (List ℕ)) (words rest : List LineWord) (word : LineWord) (result : Result Form FormRefused)
    → words ≡ word ∷ rest → word ≡ plain (codes "kind")
    → IfOk result (λ form. (v : Version) (s : Stage) (others : List (List ℕ)) → RightLine v s others (plain (codes "kind") ∷ rest) (said_of form))
    → IfOk result (λ form. RightLine version stage methods words (said_of form))
kind_right version stage methods words rest word (Ok form) same is right = rw (same, is) (right version stage methods)
kind_right version stage methods words rest word (Err refused) same is right = tt

pub method_right : (version : Version) (stage : Stage) (methods : List (List ℕ)) (words rest : List LineWord) (word : LineWord) (result : Result Form FormRefused)
    → words ≡ word ∷ rest → (stage ≡ Methods) × (word ≡ plain (codes "method"))
    → IfOk result (λ form. (v : Version) (others : List (List ℕ)) → RightLine v Methods others (plain (codes "method") ∷ rest) (said_of form))
    → IfOk result (λ form. RightLine version stage methods words (said_of form))
method_right version stage methods words rest word (Ok form) same (stands, is) right = rw (same, is, stands) (right version methods)
method_right version stage methods words rest word (Err refused) same (stands, is) right = tt

pub commute_right : (version : Version) (stage : Stage) (methods : List (List ℕ)) (words rest : List LineWord) (word : LineWord) (result : Result Form FormRefused)
    → words ≡ word ∷ rest → (stage ≢ Outside) × (word ≡ plain (codes "commute"))
    → IfOk result (λ form. (s : Stage) → s ≢ Outside → RightLine version s methods (plain (codes "commute") ∷ rest) (said_of form))
    → IfOk result (λ form. RightLine version stage methods words (said_of form))
commute_right version stage methods words rest word (Ok form) same (stands, is) right = rw (same, is) (right stage stands)
commute_right version stage methods words rest word (Err refused) same (stands, is) right = tt

pub define_right : (version : Version) (stage : Stage) (methods : List (List ℕ)) (words rest : List LineWord) (word : LineWord) (result : Result Form FormRefused)
    → words ≡ word ∷ rest → MayDefine version stage × (word ≡ plain (codes "define"))
    → IfOk result (λ form. (s : Stage) (others : List (List ℕ)) → MayDefine version s → RightLine version s others (plain (codes "define") ∷ rest) (said_of form))
    → IfOk result (λ form. RightLine version stage methods words (said_of form))
define_right version stage methods words rest word (Ok form) same (stands, is) right = rw (same, is) (right stage methods stands)
define_right version stage methods words rest word (Err refused) same (stands, is) right = tt

pub default_right : (version : Version) (stage : Stage) (methods : List (List ℕ)) (words rest : List LineWord) (word : LineWord) (result : Result Form FormRefused)
    → words ≡ word ∷ rest → MayDefault version stage × (word ≡ plain (codes "default"))
    → IfOk result (λ form. (v : Version) (s : Stage) (others : List (List ℕ)) → MayDefault v s → RightLine v s others (plain (codes "default") ∷ rest) (said_of form))
    → IfOk result (λ form. RightLine version stage methods words (said_of form))
default_right version stage methods words rest word (Ok form) same (stands, is) right = rw (same, is) (right version stage methods stands)
default_right version stage methods words rest word (Err refused) same (stands, is) right = tt

-- a line of at most 516 tokens is short
pub short_line : (version : Version) (line : List ℕ) (tokens : List Token) → length tokens ≤ MOST_TOKENS + 4 → HasFewWords version (words_of line tokens)
short_line version line tokens few = record {
  few = λ head first second behind counted same.
      let count : length (words_of line tokens) ≡ length (head ∷ first ∷ second ∷ plain (codes "when") ∷ behind) = ap length same in
      omega (arith, length-map tokens (word_at line));
}

-- the lines whose words are counted
pub commute_counted : (version : Version) → CountsTokens version (plain (codes "commute"))
commute_counted One = refl
commute_counted Two = inl refl

pub define_counted : (version : Version) → version ≡ Two → CountsTokens version (plain (codes "define"))
define_counted One second = absurd (cc)
define_counted Two second = inr refl

-- the words behind `when` are few
pub few_behind : (version : Version) (line : List ℕ) (head first second : LineWord) (words : List LineWord) (behind : List Token)
    → HasFewWords version (head ∷ words) → CountsTokens version head → words ≡ first ∷ second ∷ plain (codes "when") ∷ words_of line behind
    → length behind ≤ MOST_TOKENS
few_behind version line head first second words behind short counted same =
    let few = short.few head first second (words_of line behind) counted (ap (λ (l : List LineWord). head ∷ l) same) in
    omega (arith, few, length-map behind (word_at line))

-- what holds of an error holds of a result that hands it on
pub told_error : {R E : Type 0} (P : E → Type 0) (result : Result R E) (told : E) → IsErrAnd result (λ e. e ≡ told) → P told → IfErr result P
told_error P (Ok value) told is holds = tt
told_error P (Err e) told is holds = subst P (sym is) holds

-- no other line wants memory as one of a kind
pub kind_memory : (words : List LineWord) (result : Result Form FormRefused) → IfErr result (λ refused. refused ≢ NoMemory)
    → IfErr result (λ refused. refused ≡ NoMemory → ¬ (BeginsKind words))
kind_memory words (Ok form) none = tt
kind_memory words (Err refused) none = λ memory begins. none memory

pub other_memory : (words rest : List LineWord) (word : LineWord) (result : Result Form FormRefused) → words ≡ word ∷ rest → word ≢ plain (codes "kind")
    → IfErr result (λ refused. refused ≡ NoMemory → ¬ (BeginsKind words))
other_memory words rest word (Ok form) same other = tt
other_memory words rest word (Err refused) same other = λ memory begins. let is = begins.1 in other (cc)
