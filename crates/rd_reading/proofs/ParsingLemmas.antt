-- Reading a text line by line.
use Rattle.std.proofs.Common.{◌≡◌, ℕ, ◌+◌, ◌<◌, ◌≤◌, List, [], ◌∷◌, ◌++◌, length, refl, sym, ap, subst, arith, inl, inr, length-append}
use Rattle.std.proofs.lemmas.List.{append_assoc, append-nil}
use Rattle.rd_reading.specs.declared.known.Known.{Known}
use Rattle.rd_base.specs.declared.limits.LimitName.TheVariants.{SpecText}
use Rattle.rd_reading.specs.Causes.{EndHas}
use Rattle.rd_pairs.specs.Causes.{HasNone}
use Rattle.rd_pairs.specs.declared.spec_causes.SpecCause.TheVariants.{Limit}
use Rattle.rd_reading.specs.Known.{kinds_so_far, nothing}
use Rattle.rd_ecl.specs.Specified.{SpecifiedKind}
use Rattle.rd_reading.specs.Judging.{EndRefuses}
use Rattle.rd_reading.proofs.CuttingLemmas.{some_lines}
use Rattle.rd_reading.specs.declared.parsing.ParseRefused.TheVariants.{Spec}
use Rattle.rd_pairs.specs.declared.refused.SpecLineRefused.{SpecLineRefused}
use Rattle.rd_pairs.specs.declared.refused.SpecLineRefused.TheVariants.{Fault, NoMemory}
use Rattle.rd_reading.specs.Reading.{TakesLine, Stops, IsHalfRead, IsRead, at_line}
use Rattle.rd_reading.specs.Texts.{AreLines, ReadsLines, IsParseRefused, SpecSays, no_line, no_more, skips, takes}
use Rattle.rd_base.specs.declared.limits.TheConstants.{MOST_SPEC_BYTES}

module _ (taken : List (List ℕ)) where
  one_more : {line : List ℕ} {mid next : Known} → TakesLine taken mid line next → ReadsLines taken mid (line ∷ []) next
  one_more {line} {mid} {next} (inl (skipped, same)) = subst (λ (k : Known). ReadsLines taken mid (line ∷ []) k) (sym same) (skips skipped no_more)
  one_more (inr (kept, accepts)) = takes kept accepts no_more

  pub reads_on : {before lines : List (List ℕ)} {start mid next : Known} → ReadsLines taken start before mid → ReadsLines taken mid lines next → ReadsLines taken start (before ++ lines) next
  reads_on no_more more = more
  reads_on (skips skipped rest) more = skips skipped (reads_on rest more)
  reads_on (takes kept accepts rest) more = takes kept accepts (reads_on rest more)

  -- nothing is read yet
  pub unread : (text : List ℕ) → IsHalfRead taken text text 0 nothing
  unread text = record { before = []; ahead = λ lines cut. cut; reads = no_more; count = refl; few = omega arith }

  -- one line more is read
  pub read_on : (text rest line behind : List ℕ) (number : ℕ) (known next : Known) → IsHalfRead taken text rest number known
      → ((lines : List (List ℕ)) → AreLines behind lines → AreLines rest (line ∷ lines)) → length behind < length rest → TakesLine taken known line next
      → IsHalfRead taken text behind (number + 1) next
  read_on text rest line behind number known next half cut less took = record {
    before = half.before ++ line ∷ [];
    ahead = λ lines more. subst (λ (l : List (List ℕ)). AreLines text l) (sym (append_assoc half.before (line ∷ []) lines)) (half.ahead (line ∷ lines) (cut lines more));
    reads = reads_on half.reads (one_more took);
    count = let same = half.count in omega (arith, same, length-append half.before (line ∷ []));
    few = let few = half.few in omega (arith, few, less);
  }

  -- all lines are read
  ended : (text rest : List ℕ) (number : ℕ) (known : Known) → rest ≡ [] → IsHalfRead taken text rest number known → IsRead taken text number known
  ended text rest number known none half = record {
    lines = half.before;
    cut = subst (λ (l : List (List ℕ)). AreLines text l) (append-nil half.before) (half.ahead [] (subst (λ (t : List ℕ). AreLines t []) (sym none) no_line));
    reads = half.reads;
    count = half.count;
  }

  pub all_read : (text rest : List ℕ) (number : ℕ) (known : Known) → length rest ≡ 0 → IsHalfRead taken text rest number known → IsRead taken text number known
  all_read text [] number known none half = ended text [] number known refl half
  all_read text (b ∷ rest) number known none half = absurd (omega (arith, none))

  -- a line is refused
  pub stopped : (text rest line behind : List ℕ) (number : ℕ) (known : Known) (refused : SpecLineRefused) → length text ≤ MOST_SPEC_BYTES
      → IsHalfRead taken text rest number known
      → ((lines : List (List ℕ)) → AreLines behind lines → AreLines rest (line ∷ lines)) → Stops taken known line refused
      → IsParseRefused text taken (at_line (number + 1) refused)
  stopped text rest line behind number known NoMemory short half cut stops = tt
  stopped text rest line behind number known (Fault fault) short half cut (kept, refuses) =
      let more = some_lines behind in
      inr (record {
        short = short;
        lines = half.before ++ line ∷ more.0;
        cut = half.ahead (line ∷ more.0) (cut more.0 more.1);
        first = inl (record {
          before = half.before;
          line = line;
          behind = more.0;
          parts = refl;
          number = ap (λ (n : ℕ). n + 1) half.count;
          known = known;
          reads = half.reads;
          kept = kept;
          tokens = refuses.0;
          cut = refuses.1;
          first = refuses.2;
        });
      })

-- the end is refused
pub end_stopped : (taken : List (List ℕ)) (text : List ℕ) (number : ℕ) (known : Known) (refused : SpecLineRefused) → length text ≤ MOST_SPEC_BYTES
    → IsRead taken text number known → EndRefuses known refused → IsParseRefused text taken (at_line (number + 1) refused)
end_stopped taken text number known NoMemory short read stops = tt
end_stopped taken text number known (Fault fault) short read first =
    inr (record {
      short = short;
      lines = read.lines;
      cut = read.cut;
      first = inr (record { number = ap (λ (n : ℕ). n + 1) read.count; known = known; reads = read.reads; first = first });
    })

-- the text is a specification's
pub said_whole : (taken : List (List ℕ)) (text : List ℕ) (number : ℕ) (known : Known) (kinds : List SpecifiedKind) → length text ≤ MOST_SPEC_BYTES
    → IsRead taken text number known → HasNone (EndHas known) → kinds ≡ kinds_so_far known → SpecSays text taken kinds
said_whole taken text number known kinds short read whole said = record {
  short = short;
  lines = read.lines;
  cut = read.cut;
  known = known;
  reads = read.reads;
  whole = whole;
  said = said;
}

-- the text is too long
pub too_long : (text : List ℕ) (taken : List (List ℕ)) → MOST_SPEC_BYTES < length text
    → IsParseRefused text taken (Spec (record { line = 0; place = 0; cause = Limit SpecText MOST_SPEC_BYTES }))
too_long text taken long = inl (record { long = long; number = refl; place = refl; cause = refl })
