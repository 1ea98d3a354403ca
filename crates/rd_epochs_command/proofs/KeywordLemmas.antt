-- What the bytes behind a keyword say.
use Rattle.std.proofs.Common.{◌≡◌, ◌≢◌, ℕ, Bool, true, false, List, [], ◌∷◌, ◌++◌, Bor, Result, Ok, Option, Some, None, is_some, refl, sym, ap, ◌∙◌, true≢false}
use Rattle.std.specs.Prelude.{IfNone, IfSome, codes, option_map}
use Rattle.rd_ecl.specs.Kinds.{Kind}
use Rattle.rd_event.specs.Items.{is_skipped}
use Rattle.rd_event.specs.Reading.{item_of, names_read}
use Rattle.rd_event.specs.declared.items.Line.{Line}
use Rattle.rd_memory.proofs.TraceLemmas.{keyword_common, read_behind, skipped_said as said_so, write_behind}
use Rattle.rd_memory.specs.MemoryLines.{access_of, common_keywords, memory_line_of}
use Rattle.rd_memory.specs.MemoryTraces.{items_said, memory_says}
use Rattle.rd_memory.specs.declared.lines.MemLine.TheVariants.{Header as MemHeader}
use Rattle.rd_rules.specs.MayFollow.{is_among, version_of}
use Rattle.rd_walk.proofs.TakingLemmas.{taken_as}
use Rattle.rd_walk.proofs.WalkLemmas.{skipped_said}
use Rattle.rd_walk.specs.Taking.{TakesGrammarLine, TakesTraceLine}
use Rattle.rd_walk.specs.Walk.{Entry, trace_says}
use Rattle.rd_walk.specs.declared.analysis.Halt.{Halt}
use Rattle.rd_walk.specs.declared.walk.Taken.TheVariants.{Refused}
use Rattle.rd_walk.specs.declared.walk.Taken.{Taken}
use Rattle.rd_walk.specs.declared.walk.Walker.{Walker}
use Rattle.rd_wf.proofs.BytesLemmas.{header_behind}

-- behind one of the common keywords they say the same in both texts
pub same_behind : (keyword rest bytes : List ℕ) → is_among common_keywords keyword ≡ true → bytes ≡ keyword ++ rest → (before : List Line) → memory_says before bytes ≡ trace_says before bytes
same_behind keyword rest bytes common is before =
    ap (memory_says before) is ∙ keyword_common keyword common before (version_of before) rest ∙ ap (λ b. option_map (λ item. item ∷ []) (item_of (version_of before) b)) (sym is)

-- behind `read` and `write` they say an access
pub reads_behind : (bytes names : List ℕ) → bytes ≡ codes "read " ++ names → memory_line_of bytes ≡ option_map (access_of false) (names_read names)
reads_behind bytes names is = ap memory_line_of is ∙ read_behind names

pub writes_behind : (bytes names : List ℕ) → bytes ≡ codes "write " ++ names → memory_line_of bytes ≡ option_map (access_of true) (names_read names)
writes_behind bytes names is = ap memory_line_of is ∙ write_behind names

-- what a look behind a text finds
pub found_behind : (bytes text : List ℕ) (r : Option (Bor (List ℕ))) (b : Bool) → b ≡ is_some r → b ≡ true → IfSome r (λ rest. bytes ≡ text ++ rest.now) → (rest : List ℕ) × (bytes ≡ text ++ rest)
found_behind bytes text None b same is said = absurd (true≢false (sym is ∙ same))
found_behind bytes text (Some rest) b same is said = (rest.now, said)

pub none_behind : (bytes text : List ℕ) (r : Option (Bor (List ℕ))) (b : Bool) → b ≡ is_some r → b ≡ false → IfNone r ((rest : List ℕ) → bytes ≢ text ++ rest) → (rest : List ℕ) → bytes ≢ text ++ rest
none_behind bytes text None b same is said = said
none_behind bytes text (Some rest) b same is said = absurd (true≢false (sym same ∙ is))

-- bytes that are skipped say so in both texts
pub same_skipped : (bytes : List ℕ) → is_skipped bytes ≡ true → (before : List Line) → memory_says before bytes ≡ trace_says before bytes
same_skipped bytes is before = said_so before bytes is ∙ sym (skipped_said before bytes is)

-- the header says what that of a trace says
pub same_header : (bytes : List ℕ) → bytes ≡ codes "rdmem 1" → memory_line_of (codes "rdmem 1") ≡ Some MemHeader → (before : List Line) → memory_says before bytes ≡ trace_says before (codes "rdtrace 1")
same_header bytes is said before =
    ap (memory_says before) is ∙ ap (option_map (items_said before)) said
    ∙ sym (ap (option_map (λ item. item ∷ [])) (header_behind (version_of before) (codes "rdtrace 1") (codes "1") refl))

-- a line that says what a line of a trace says is taken as that one
pub taken_for : {A : Type 0} (leads : List Kind → A → List Entry → A → Type 0) (text : List Kind → A → List Entry → List ℕ) (bound : List Kind → A → List Line → Line → ℕ)
    (number : ℕ) (bytes other : List ℕ) (old new : Walker A) (written now : Option (List ℕ)) (from to : ℕ) (result : Result Taken Halt)
    → ((before : List Line) → memory_says before bytes ≡ trace_says before other) → (result ≡ Ok Refused → now ≡ written)
    → TakesTraceLine leads text bound number other old new written now from to result → TakesGrammarLine memory_says leads text bound number bytes old new written now from to result
taken_for leads text bound number bytes other old new written now from to result same quiet line =
    let taken = taken_as (λ before ignored. memory_says before bytes) leads text bound number other same old new written now from to result quiet line in
    record { taken = taken.taken; cause = taken.cause; refused = taken.refused; halted = taken.halted }
